-- What is written is read, if its literals are valid.
use Rattle.std.proofs.Common.{ℕ, zero, suc, List, [], ◌∷◌, ◌++◌, map, refl, sym, subst}
use Rattle.std.specs.List.{AllByRecursion}
use Rattle.vortex_dtype.specs.declared.types.DType.{DType}
use Rattle.vortex_value.specs.Values.Scalars.{IsValid, scalar_raw}
use Rattle.vortex_value.specs.declared.scalars.Scalar.{Scalar}
use Rattle.vortex_cells.specs.Cells.{Cell, cell_of}
use Rattle.vortex_filter.specs.declared.filter.Filter.{Filter}
use Rattle.vortex_filter.specs.declared.filter.Filter.TheOpen.{Filter-F}
use Rattle.vortex_filter.specs.declared.filter.Filter.TheFolds.{fold-roll-Filter, ind-Filter, map-Filter}
use Rattle.vortex_filter.specs.declared.filter.Filter.TheViews.{roll-Filter}
use Rattle.vortex_filter.specs.FilterLiterals.{AreValid, literals_of, literals_step}
use Rattle.vortex_filter.specs.Formula.{Formula, constant, comparison, null_test, membership, range, prefix_test, pattern_test, both, either, negation, formula, formula_step}
use Rattle.vortex_filter.proofs.LiteralSteps.{valid_left, valid_right}
use Rattle.filter_encoding.specs.Encoding.{CanBeWritten, HasEncoding, HasValues, IsHeldCell, IsLiteral, IsLogicallyValid, IsPlainCell, IsWritten, Nests, Prepared, parts_of}

-- ---- what holds of each literal

module _ (P Q : Cell → Type 0) (to : (x : Cell) → P x → Q x) where
  each_too : (xs : List Cell) → AllByRecursion P xs → AllByRecursion Q xs
  each_too [] h = tt
  each_too (x ∷ xs) h = (to x h.0, each_too xs h.1)

  pub nests_too : (n : ℕ) (f : Formula) → Nests P n f → Nests Q n f
  nests_too n (constant t) h = tt
  nests_too n (comparison k op x) h = (h.0, to x h.1)
  nests_too n (null_test k) h = h
  nests_too n (membership k xs) h = (h.0, record { fit = h.1.fit; each = each_too xs h.1.each })
  nests_too n (range k x y) h = (h.0, (to x h.1.0, to y h.1.1))
  nests_too n (prefix_test k x) h = (h.0, to x h.1)
  nests_too n (pattern_test k case parts) h = h
  nests_too zero (both f g) h = absurd h
  nests_too (suc n) (both f g) h = (nests_too n f h.0, nests_too n g h.1)
  nests_too zero (either f g) h = absurd h
  nests_too (suc n) (either f g) h = (nests_too n f h.0, nests_too n g h.1)
  nests_too zero (negation f) h = absurd h
  nests_too (suc n) (negation f) h = nests_too n f h

-- what was written could be
pub could_be_written : (n : ℕ) (p : Prepared) → IsWritten n p → CanBeWritten n p
could_be_written n p h = record { types = h.types; filter = nests_too IsHeldCell IsPlainCell (λ x w. record { plain = w.plain; untyped = w.untyped; logical = w.logical }) n p.filter h.filter }

-- ---- valid literals

literal : (x : Scalar) → IsValid x → IsHeldCell (cell_of x) → IsLiteral (cell_of x)
literal x v h = record { plain = h.plain; value = scalar_raw x; is_value = record { valid = v; held = h.held }; is = refl }

each_literal : (xs : List Scalar) → AreValid xs → AllByRecursion IsHeldCell (map cell_of xs) → AllByRecursion IsLiteral (map cell_of xs)
each_literal [] v h = tt
each_literal (x ∷ xs) v h = (literal x v.0 h.0, each_literal xs v.1 h.1)

abbrev CanBeRead : Filter → Type 0
CanBeRead f = (n : ℕ) → AreValid (literals_of f) → Nests IsHeldCell n (formula f) → Nests IsLiteral n (formula f)

by_step : (x : Filter-F Filter) → ((n : ℕ) → AreValid (literals_step (map-Filter Filter (List Scalar) literals_of x)) → Nests IsHeldCell n (formula_step (map-Filter Filter Formula formula x)) → Nests IsLiteral n (formula_step (map-Filter Filter Formula formula x)))
    → CanBeRead (roll-Filter x)
by_step x h n v w =
    let is = fold-roll-Filter Formula formula_step x in
    subst (Nests IsLiteral n) (sym is) (h n (subst AreValid (fold-roll-Filter (List Scalar) literals_step x) v) (subst (Nests IsHeldCell n) is w))

-- a filter of parts that can be read
module _ (S : Type 0) (part : S → Filter) (are : (s : S) → CanBeRead (part s)) where
  of_both : (n : ℕ) (f g : S) → AreValid (literals_of (part f) ++ literals_of (part g)) → Nests IsHeldCell n (both (formula (part f)) (formula (part g))) → Nests IsLiteral n (both (formula (part f)) (formula (part g)))
  of_both zero f g v h = absurd h
  of_both (suc n) f g v h = (are f n (valid_left (literals_of (part f)) (literals_of (part g)) v) h.0, are g n (valid_right (literals_of (part f)) (literals_of (part g)) v) h.1)

  of_either : (n : ℕ) (f g : S) → AreValid (literals_of (part f) ++ literals_of (part g)) → Nests IsHeldCell n (either (formula (part f)) (formula (part g))) → Nests IsLiteral n (either (formula (part f)) (formula (part g)))
  of_either zero f g v h = absurd h
  of_either (suc n) f g v h = (are f n (valid_left (literals_of (part f)) (literals_of (part g)) v) h.0, are g n (valid_right (literals_of (part f)) (literals_of (part g)) v) h.1)

  of_negation : (n : ℕ) (f : S) → AreValid (literals_of (part f)) → Nests IsHeldCell n (negation (formula (part f))) → Nests IsLiteral n (negation (formula (part f)))
  of_negation zero f v h = absurd h
  of_negation (suc n) f v h = are f n v h

  by_layer : (y : Filter-F S) → CanBeRead (roll-Filter (map-Filter S Filter part y))
  by_layer (Filter-F.Constant t) = by_step (Filter-F.Constant t) (λ n v h. tt)
  by_layer (Filter-F.Compare k op x) = by_step (Filter-F.Compare k op x) (λ n v h. (h.0, literal x v.0 h.1))
  by_layer (Filter-F.IsNull k) = by_step (Filter-F.IsNull k) (λ n v h. h)
  by_layer (Filter-F.In k xs) = by_step (Filter-F.In k xs) (λ n v h. (h.0, record { fit = h.1.fit; each = each_literal xs.items v h.1.each }))
  by_layer (Filter-F.Between k x y) = by_step (Filter-F.Between k x y) (λ n v h. (h.0, (literal x v.0 h.1.0, literal y v.1.0 h.1.1)))
  by_layer (Filter-F.StartsWith k p) = by_step (Filter-F.StartsWith k p) (λ n v h. (h.0, literal p v.0 h.1))
  by_layer (Filter-F.Like k pattern case) = by_step (Filter-F.Like k pattern case) (λ n v h. h)
  by_layer (Filter-F.And f g) = by_step (map-Filter S Filter part (Filter-F.And f g)) (λ n v h. of_both n f.value g.value v h)
  by_layer (Filter-F.Or f g) = by_step (map-Filter S Filter part (Filter-F.Or f g)) (λ n v h. of_either n f.value g.value v h)
  by_layer (Filter-F.Not f) = by_step (map-Filter S Filter part (Filter-F.Not f)) (λ n v h. of_negation n f.value v h)

readable : (f : Filter) → CanBeRead f
readable = ind-Filter CanBeRead (λ x y is. subst (λ z. CanBeRead (roll-Filter z)) is (by_layer _ (λ e. e.0) (λ e. e.1) y))

each_value : (xs : List Cell) → AllByRecursion IsHeldCell xs → AllByRecursion IsLogicallyValid xs
each_value [] h = tt
each_value (x ∷ xs) h = (h.0.logical, each_value xs h.1)

values_of : (n : ℕ) (f : Formula) → Nests IsHeldCell n f → HasValues f
values_of n (constant t) h = tt
values_of n (comparison k op x) h = h.1.logical
values_of n (null_test k) h = tt
values_of n (membership k xs) h = each_value xs h.1.each
values_of n (range k x y) h = (h.1.0.logical, h.1.1.logical)
values_of n (prefix_test k x) h = h.1.logical
values_of n (pattern_test k case parts) h = tt
values_of zero (both f g) h = absurd h
values_of (suc n) (both f g) h = (values_of n f h.0, values_of n g h.1)
values_of zero (either f g) h = absurd h
values_of (suc n) (either f g) h = (values_of n f h.0, values_of n g h.1)
values_of zero (negation f) h = absurd h
values_of (suc n) (negation f) h = values_of n f h

-- what was written with valid literals can be read
pub can_be_read : (n : ℕ) (columns : List DType) (f : Filter) → IsWritten n (parts_of columns f) → AreValid (literals_of f) → HasEncoding n (parts_of columns f)
can_be_read n columns f h v = record { formed = record { types = h.types; filter = readable f n v h.filter }; values = values_of n (formula f) h.filter }
