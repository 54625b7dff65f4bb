-- At which depths a filter can be written: at its height and any greater one.
use Rattle.std.proofs.Common.{ℕ, zero, suc, ◌≤◌, arith}
use Rattle.vortex_filter.specs.Formula.{Formula, constant, comparison, null_test, membership, range, prefix_test, pattern_test, both, either, negation}
use Rattle.filter_encoding.specs.Encoding.{IsPlainCell, Nests}
use Rattle.filter_encoding.specs.Laws.{LowFiltersNest, height}
use Rattle.filter_encoding.specs.Lists.{AreListed, Fits}
use Rattle.filter_encoding.specs.Patterns.{IsCase, IsPart}

-- 8 bytes can hold each place and each number of literals or of a pattern's parts; the literals are of types that have bytes,
-- and the characters of patterns are Unicode scalar values
abbrev pub HasForm : Formula → Type 0
HasForm (constant t) = Unit {0}
HasForm (comparison k op x) = Fits k × IsPlainCell x
HasForm (null_test k) = Fits k
HasForm (membership k xs) = Fits k × AreListed IsPlainCell xs
HasForm (range k x y) = Fits k × (IsPlainCell x × IsPlainCell y)
HasForm (prefix_test k x) = Fits k × IsPlainCell x
HasForm (pattern_test k case parts) = Fits k × (IsCase case × AreListed IsPart parts)
HasForm (both f g) = HasForm f × HasForm g
HasForm (either f g) = HasForm f × HasForm g
HasForm (negation f) = HasForm f

-- of this form, and no higher than the depth
pub nests : (f : Formula) (n : ℕ) → HasForm f → height f ≤ n → Nests IsPlainCell n f
nests (constant t) n h l = tt
nests (comparison k op x) n h l = h
nests (null_test k) n h l = h
nests (membership k xs) n h l = h
nests (range k x y) n h l = h
nests (prefix_test k x) n h l = h
nests (pattern_test k case parts) n h l = h
nests (both f g) zero h l = absurd (omega (arith, l))
nests (both f g) (suc n) h l = (nests f n h.0 (omega (arith, l)), nests g n h.1 (omega (arith, l)))
nests (either f g) zero h l = absurd (omega (arith, l))
nests (either f g) (suc n) h l = (nests f n h.0 (omega (arith, l)), nests g n h.1 (omega (arith, l)))
nests (negation f) zero h l = absurd (omega (arith, l))
nests (negation f) (suc n) h l = nests f n h (omega (arith, l))

-- what nests at some depth is of this form
formed : (f : Formula) (m : ℕ) → Nests IsPlainCell m f → HasForm f
formed (constant t) m h = tt
formed (comparison k op x) m h = h
formed (null_test k) m h = h
formed (membership k xs) m h = h
formed (range k x y) m h = h
formed (prefix_test k x) m h = h
formed (pattern_test k case parts) m h = h
formed (both f g) zero h = absurd h
formed (both f g) (suc m) h = (formed f m h.0, formed g m h.1)
formed (either f g) zero h = absurd h
formed (either f g) (suc m) h = (formed f m h.0, formed g m h.1)
formed (negation f) zero h = absurd h
formed (negation f) (suc m) h = formed f m h

pub low_nest : LowFiltersNest
low_nest m n p h low = record { types = h.types; filter = nests p.filter n (formed p.filter m h.filter) low }
