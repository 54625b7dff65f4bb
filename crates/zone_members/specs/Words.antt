-- The words of this crate's clauses, from one place.
pub use Rattle.membership.specs.BloomFilters.{max_blocks}
pub use Rattle.membership.specs.Words.{block_of, may_contain}
pub use Rattle.zone_members.specs.Pieces.{block_at, block_may_contain, blocks_in, piece_may_contain}
