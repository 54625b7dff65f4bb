-- The bits that are left decide.
use Rattle.std.proofs.Common.{◌≡◌, ◌/◌, drop, length}
use Rattle.std.specs.List.{list_all}
use Rattle.membership.specs.BloomFilters.{is_set, may_contain, places}
use Rattle.membership.proofs.bitmaps.has_bits.Given as goal

abbrev pub invariant-loop-word : goal.invariant-loop-word
invariant-loop-word l = list_all (is_set l.filter) (drop l.word (places (length l.filter / 32) l.hash)) ≡ may_contain l.filter l.hash
