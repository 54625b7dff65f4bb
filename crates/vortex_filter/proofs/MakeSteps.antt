-- The cell of a copied scalar, and filters that are made of parts.
use Rattle.std.proofs.Common.{◌≡◌, Result, Ok, Err, MatchResult, subst, sym, ap₂}
use Rattle.vortex_dtype.specs.TypeTree.{TypeTree}
use Rattle.vortex_value.specs.Values.Content.{content}
use Rattle.vortex_value.specs.Values.RawTree.{RawTree}
use Rattle.vortex_value.specs.Values.Scalars.{IsMadeOf, scalar_raw, scalar_type}
use Rattle.vortex_value.specs.declared.scalars.Scalar.{Scalar}
use Rattle.vortex_cells.specs.Cells.{Cell, cell_of}
use Rattle.vortex_filter.specs.declared.error.FilterError.{FilterError}
use Rattle.vortex_filter.specs.declared.filter.Filter.{Filter}
use Rattle.vortex_filter.specs.Formula.{Formula, both, either, formula, negation}
use Rattle.vortex_filter.specs.Makes.{Makes, MakesUnlessBare, OfParts, IsBare}
use Rattle.vortex_filter.proofs.Steps.{formula-And, formula-Between, formula-Compare, formula-Constant, formula-In, formula-IsNull, formula-Like, formula-Not, formula-Or, formula-StartsWith}

abbrev cell_from : TypeTree → RawTree → Cell
cell_from t v = record { typed = t; content = content v }

pub copied_cell : (x y : Scalar) → IsMadeOf (scalar_type x) (scalar_raw x) y → cell_of y ≡ cell_of x
copied_cell x y m = ap₂ cell_from m.typed m.value

-- ---- out of memory, where it may be

pub unless_bare : (f : Formula) (r : Result Filter FilterError) → ¬ (IsBare f) → Makes f r → MakesUnlessBare f r
unless_bare f (Ok g) h m = m
unless_bare f (Err e) h m = (m, h)

pub both_made : (f g : Formula) (l r s : Result Filter FilterError) → MakesUnlessBare f l → MakesUnlessBare g r → OfParts (λ a b. Makes (both (formula a) (formula b)) s) (λ e. s ≡ Err e) l r → MakesUnlessBare (both f g) s
both_made f g (Err e) r s h k w = subst (MakesUnlessBare (both f g)) (sym w) (h.0, λ b. b)
both_made f g (Ok a) (Err e) s h k w = subst (MakesUnlessBare (both f g)) (sym w) (k.0, λ b. b)
both_made f g (Ok a) (Ok b) s h k w = unless_bare (both f g) s (λ b. b) (subst (λ p. Makes p s) (ap₂ both h k) w)

pub either_made : (f g : Formula) (l r s : Result Filter FilterError) → MakesUnlessBare f l → MakesUnlessBare g r → OfParts (λ a b. Makes (either (formula a) (formula b)) s) (λ e. s ≡ Err e) l r → MakesUnlessBare (either f g) s
either_made f g (Err e) r s h k w = subst (MakesUnlessBare (either f g)) (sym w) (h.0, λ b. b)
either_made f g (Ok a) (Err e) s h k w = subst (MakesUnlessBare (either f g)) (sym w) (k.0, λ b. b)
either_made f g (Ok a) (Ok b) s h k w = unless_bare (either f g) s (λ b. b) (subst (λ p. Makes p s) (ap₂ either h k) w)

pub negation_made : (f : Formula) (l s : Result Filter FilterError) → MakesUnlessBare f l → MatchResult l (λ a. Makes (negation (formula a)) s) (λ e. s ≡ Err e) → MakesUnlessBare (negation f) s
negation_made f (Err e) s h w = subst (MakesUnlessBare (negation f)) (sym w) (h.0, λ b. b)
negation_made f (Ok a) s h w = unless_bare (negation f) s (λ b. b) (subst (λ p. Makes (negation p) s) h w)

pub ruleset shown = (both_made, either_made, negation_made, unless_bare, formula-Constant, formula-Compare, formula-IsNull, formula-In, formula-Between, formula-StartsWith, formula-Like, formula-And, formula-Or, formula-Not)
