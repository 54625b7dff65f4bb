-- The words of this crate's clauses, from one place.
pub use Rattle.membership.specs.BloomFilters.{IsFilterLength, block_of, bit_in_word, empty_filter, is_set, may_contain, place, places, union, with_bit, with_hash}
pub use Rattle.membership.specs.Capacities.{blocks_for, capacity, exponent}
pub use Rattle.membership.specs.Xxh64.{after_stripes, avalanche, converged, merged, of_stripes, round, tail_of, with_byte, with_half, with_stripe, with_stripes, with_tail, with_word, words_of, xxh64}
