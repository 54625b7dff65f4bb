-- The bits that are left lead on to the filter with the hash.
use Rattle.std.proofs.Common.{◌≡◌, ◌/◌, drop, length}
use Rattle.std.specs.List.{fold}
use Rattle.membership.specs.BloomFilters.{places, with_bit, with_hash}
use Rattle.membership.proofs.bitmaps.set_bits.Given as goal

abbrev pub invariant-loop-word : goal.invariant-loop-word
invariant-loop-word l = fold with_bit l.filter (drop l.word (places (length l.initial.filter / 32) l.hash)) ≡ with_hash l.initial.filter l.hash
