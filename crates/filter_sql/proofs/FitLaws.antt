-- A filter that is read fits the types of the columns.
use Rattle.std.proofs.Common.{◌≡◌, ◌&&◌, ◌+ℤ◌, ℕ, ℤ, pos, Bool, true, false, cond, List, [], ◌∷◌, ◌++◌, Option, Some, None, refl, ap, subst, ◌∙◌}
use Rattle.std.specs.Prelude.{option_and_then, option_map, slice_get}
use Rattle.std.specs.Ordering.{int_cmp}
use Rattle.std.specs.Str.{encode_utf8_all}
use Rattle.std.proofs.lemmas.Option.{slice_get-map}
use Rattle.std.proofs.lemmas.Bool.{false≢true}
use Rattle.like_patterns.specs.declared.case.Case.{Case}
use Rattle.like_patterns.specs.Patterns.{Part}
use Rattle.vortex_dtype.specs.Parts.{is_utf8_type}
use Rattle.vortex_dtype.specs.TypeTree.{TypeTree, Same, as_nullable, bool_type, integer_type, utf8_type, binary_type, extension_type}
use Rattle.vortex_dtype.specs.declared.nullability.Nullability.{Nullability}
use Rattle.vortex_dtype.specs.declared.ptype.PType.{PType}
use Rattle.vortex_pvalue.specs.Numbers.{in_range}
use Rattle.vortex_value.specs.Equality.{HasNoTyped}
use Rattle.vortex_value.specs.TypesWithin.{HasNoVariant}
use Rattle.vortex_cells.specs.Cells.{Cell}
use Rattle.logical_scalars.specs.TypeShapes.{shape_in}
use Rattle.logical_types.specs.Shapes.{Shape, float64, float32, decimals, days, times, timestamps, place_in, storage_in, stored_as}
use Rattle.logical_types.specs.declared.decimals.places.DecimalPlace.{DecimalPlace}
use Rattle.logical_types.specs.declared.decimals.places.DecimalPlace.TheVariants.{At, Behind, BelowAll, AboveAll}
use Rattle.logical_types.specs.declared.extensions.StorageType.{StorageType}
use Rattle.logical_types.specs.declared.extensions.StorageType.TheVariants.{I32, I64, Bytes}
use Rattle.filter_sql.specs.declared.print.Level.{Level}
use Rattle.vortex_filter.specs.Checking.{Test, tests, HoldsStrings, HoldsText, IsOfType, AllFit, FitsColumns}
use Rattle.vortex_filter.specs.CheckSteps.{holds_strings}
use Rattle.filter_sql.specs.ColumnNames.{ColumnTree, column_named, column_there, typed_place, or_numbered, named_place}
use Rattle.vortex_filter.specs.Formula.{Formula, negation, null_test, pattern_test, prefix_test}
use Rattle.filter_sql.specs.Grammar.{IsPredicate, says_true, says_false, says_null, on_column, prefix_call, IsFilter, predicate, group, not_filter, one_operand, and_filter, one_conjunction, or_filter}
use Rattle.vortex_filter.specs.Literals.{LiteralTree, null_literal, truth_literal, number_literal, text_literal, bytes_literal, bytes_cell, bytes_in, decimal_at, instant_in, integer_at, integer_in, logical_cell, null_cell, number_cell, number_in, number_of_shape, position_of, storage_content, text_cell, text_in, text_of_shape, truth_cell, truth_in, written_value}
use Rattle.vortex_filter.specs.Positions.{PositionTree, exactly, just_above, lacking, comparison_of, member_among, prefix_of, range_of}
use Rattle.filter_sql.specs.Literals.{Condition, compared, missing, listed, between, begun, alike, denied, formula_in, like_test, positions_of, prefix_asked, prefix_or}
use Rattle.filter_sql.specs.Parsing.{types_of, AllOrdered}
use Rattle.filter_sql.specs.Tokens.{TokenTree}
use Rattle.vortex_filter.proofs.PositionLaws.{CellFits, CellsFit, comparison_fits, membership_fits, nothing_fits, pattern_fits, prefix_fits, range_fits}
use Rattle.filter_sql.proofs.ConditionSteps.{bind_some, guard_some, map_some, stand_parts}

-- ---- literals

as_nullable_fits : (t : TypeTree) → Same t (as_nullable t)
as_nullable_fits (extension_type id metadata t) = ap (extension_type id metadata) (as_nullable_fits t)
as_nullable_fits _ = refl

-- a literal that stands at a cell or above one, stands at one of the type, without a variant's child
abbrev IsSaidIn : TypeTree → PositionTree → Type 0
IsSaidIn t (exactly x) = IsOfType t x × HasNoTyped x.content
IsSaidIn t (just_above x) = IsOfType t x × HasNoTyped x.content
IsSaidIn t (lacking o) = Unit {0}

stored_untyped : (k : StorageType) (z : ℤ) → HasNoTyped (storage_content k z)
stored_untyped I32 z = tt
stored_untyped I64 z = tt
stored_untyped Bytes z = tt

said_as : (t : TypeTree) (p q : PositionTree) → Some p ≡ Some q → IsSaidIn t p → IsSaidIn t q
said_as t p q e fits = let same : p ≡ q = cc in subst (IsSaidIn t) same fits

truth_said : (t : TypeTree) (b : Bool) (p : PositionTree) → truth_in t b ≡ Some p → IsSaidIn t p
truth_said (bool_type n) b p e = said_as (bool_type n) (exactly (truth_cell b)) p e (refl, tt)
truth_said _ b p e = absurd cc

number_by : (k : PType) (n : Nullability) (z : ℤ) (inside : Bool) → IsSaidIn (integer_type k n) (cond inside (exactly (number_cell k z)) (lacking (int_cmp (pos 0) z)))
number_by k n z true = (refl, tt)
number_by k n z false = tt

gap_by : (k : PType) (n : Nullability) (z : ℤ) (inside : Bool) → IsSaidIn (integer_type k n) (cond inside (just_above (number_cell k z)) (lacking (int_cmp (pos 0) z)))
gap_by k n z true = (refl, tt)
gap_by k n z false = tt

integer_said : (k : PType) (n : Nullability) (d : DecimalPlace) → IsSaidIn (integer_type k n) (integer_at k d)
integer_said k n (At z) = number_by k n z (in_range k z)
integer_said k n (Behind z) = gap_by k n z (in_range k z && in_range k (z +ℤ pos 1))
integer_said k n BelowAll = tt
integer_said k n AboveAll = tt

mapped_said : {X : Type 0} (t : TypeTree) (f : X → PositionTree) (o : Option X) (p : PositionTree) → ((x : X) → IsSaidIn t (f x)) → option_map f o ≡ Some p → IsSaidIn t p
mapped_said t f None p h e = absurd cc
mapped_said t f (Some x) p h e = said_as t (f x) p e (h x)

integers_said : (k : PType) (n : Nullability) (word : List ℕ) (p : PositionTree) → integer_in k word ≡ Some p → IsSaidIn (integer_type k n) p
integers_said k n word p e = mapped_said (integer_type k n) (integer_at k) (place_in 38 0 word) p (integer_said k n) e

written_said : (t : TypeTree) (s : Shape) (word : List ℕ) (p : PositionTree) → written_value t s word ≡ Some p → IsSaidIn t p
written_said t s word p e = mapped_said t (λ (z : ℤ). exactly (logical_cell t s z)) (storage_in s word) p (λ z. (refl, stored_untyped (stored_as s) z)) e

decimal_said : (t : TypeTree) (s : Shape) (d : DecimalPlace) → IsSaidIn t (decimal_at t s d)
decimal_said t s (At z) = (refl, stored_untyped (stored_as s) z)
decimal_said t s (Behind z) = (refl, stored_untyped (stored_as s) z)
decimal_said t s BelowAll = tt
decimal_said t s AboveAll = tt

number_shaped : (t : TypeTree) (s : Shape) (word : List ℕ) (p : PositionTree) → number_of_shape t s word ≡ Some p → IsSaidIn t p
number_shaped t float64 word p e = written_said t float64 word p e
number_shaped t float32 word p e = written_said t float32 word p e
number_shaped t (decimals precision scale) word p e = mapped_said t (decimal_at t (decimals precision scale)) (place_in precision scale word) p (decimal_said t (decimals precision scale)) e
number_shaped t days word p e = absurd cc
number_shaped t (times unit) word p e = absurd cc
number_shaped t (timestamps unit zoned) word p e = absurd cc

text_shaped : (t : TypeTree) (s : Shape) (word : List ℕ) (p : PositionTree) → text_of_shape t s word ≡ Some p → IsSaidIn t p
text_shaped t float64 word p e = number_shaped t float64 word p e
text_shaped t float32 word p e = number_shaped t float32 word p e
text_shaped t (decimals precision scale) word p e = number_shaped t (decimals precision scale) word p e
text_shaped t days word p e = written_said t days word p e
text_shaped t (times unit) word p e = written_said t (times unit) word p e
text_shaped t (timestamps unit false) word p e = written_said t (timestamps unit false) word p e
text_shaped t (timestamps unit true) word p e =
    mapped_said t (λ (z : ℤ). exactly (logical_cell t (timestamps unit true) z)) (instant_in unit word) p
    (λ z. (refl, stored_untyped (stored_as (timestamps unit true)) z)) e

number_said : (t : TypeTree) (word : List ℕ) (p : PositionTree) → number_in t word ≡ Some p → IsSaidIn t p
number_said (integer_type k n) word p e = integers_said k n word p e
number_said (extension_type id m u) word p e =
    let a = bind_some (shape_in (extension_type id m u)) (λ (s : Shape). number_of_shape (extension_type id m u) s word) p e in
    number_shaped (extension_type id m u) a.0 word p a.2
number_said _ word p e = absurd cc

text_said : (t : TypeTree) (bs : List ℕ) (p : PositionTree) → text_in t bs ≡ Some p → IsSaidIn t p
text_said (utf8_type n) bs p e = said_as (utf8_type n) (exactly (text_cell bs)) p e (refl, tt)
text_said (integer_type k n) bs p e = integers_said k n bs p e
text_said (extension_type id m u) bs p e =
    let a = bind_some (shape_in (extension_type id m u)) (λ (s : Shape). text_of_shape (extension_type id m u) s bs) p e in
    text_shaped (extension_type id m u) a.0 bs p a.2
text_said _ bs p e = absurd cc

bytes_said : (t : TypeTree) (bs : List ℕ) (p : PositionTree) → bytes_in t bs ≡ Some p → IsSaidIn t p
bytes_said (binary_type n) bs p e = said_as (binary_type n) (exactly (bytes_cell bs)) p e (refl, tt)
bytes_said _ bs p e = absurd cc

literal_said : (t : TypeTree) (l : LiteralTree) (p : PositionTree) → position_of t l ≡ Some p → IsSaidIn t p
literal_said t null_literal p e = said_as t (exactly (null_cell t)) p e (as_nullable_fits t, tt)
literal_said t (truth_literal b) p e = truth_said t b p e
literal_said t (number_literal word) p e = number_said t word p e
literal_said t (text_literal bs) p e = text_said t bs p e
literal_said t (bytes_literal bs) p e = bytes_said t bs p e

said_fits : (t : TypeTree) (p : PositionTree) → IsSaidIn t p → CellFits t p
said_fits t (exactly x) said = said.0
said_fits t (just_above x) said = said.0
said_fits t (lacking o) said = tt

pub literal_fits : (t : TypeTree) (l : LiteralTree) (p : PositionTree) → position_of t l ≡ Some p → CellFits t p
literal_fits t l p e = said_fits t p (literal_said t l p e)

-- no variant's child stands in the cell
abbrev pub IsUntyped : PositionTree → Type 0
IsUntyped (exactly x) = HasNoTyped x.content
IsUntyped (just_above x) = HasNoTyped x.content
IsUntyped (lacking o) = Unit {0}

said_untyped : (t : TypeTree) (p : PositionTree) → IsSaidIn t p → IsUntyped p
said_untyped t (exactly x) said = said.1
said_untyped t (just_above x) said = said.1
said_untyped t (lacking o) said = tt

pub literal_untyped : (t : TypeTree) (l : LiteralTree) (p : PositionTree) → position_of t l ≡ Some p → IsUntyped p
literal_untyped t l p e = said_untyped t p (literal_said t l p e)

literals_fit : (t : TypeTree) (ls : List LiteralTree) (ps : List PositionTree) → positions_of t ls ≡ Some ps → CellsFit t ps
literals_fit t [] ps e = let same : [] ≡ ps = cc in subst (CellsFit t) same tt
literals_fit t (l ∷ ls) ps e = let p = stand_parts t l ls ps e in subst (CellsFit t) p.whole (literal_fits t l p.first p.stands, literals_fit t ls p.others p.stand)

-- ---- columns

typed_there : (k j : ℕ) (t : TypeTree) (o : Option ColumnTree) → typed_place j o ≡ Some (k, t) → (j ≡ k) × (option_map (λ (c : ColumnTree). c.typed) o ≡ Some t)
typed_there k j t None e = absurd cc
typed_there k j t (Some c) e =
    let made : ℕ × TypeTree = (j, c.typed) in
    let asked : ℕ × TypeTree = (k, t) in
    let same : Some made ≡ Some asked = e in
    let is : made ≡ asked = cc in
    (ap (λ (p : ℕ × TypeTree). p.0) is, ap (λ (p : ℕ × TypeTree). Some p.1) is)

there_by : (columns : List ColumnTree) (k : ℕ) (t : TypeTree) (o : Option ℕ) → column_there columns o ≡ Some (k, t) → slice_get (types_of columns) k ≡ Some t
there_by columns k t None e = absurd cc
there_by columns k t (Some j) e =
    let p = typed_there k j t (slice_get columns j) e in
    let there : slice_get (types_of columns) j ≡ Some t = slice_get-map (λ (c : ColumnTree). c.typed) columns j ∙ p.1 in
    subst (λ (i : ℕ). slice_get (types_of columns) i ≡ Some t) p.0 there

column_is_there : (columns : List ColumnTree) (name : List ℕ) (k : ℕ) (t : TypeTree) → column_named columns name ≡ Some (k, t) → slice_get (types_of columns) k ≡ Some t
unfolding column_named
column_is_there columns name k t e = there_by columns k t (or_numbered name (named_place columns name)) e

-- ---- tests

fit_append : (types : List TypeTree) (xs ys : List (Test Cell)) → AllFit IsOfType types xs → AllFit IsOfType types ys → AllFit IsOfType types (xs ++ ys)
fit_append types [] ys a b = b
fit_append types (x ∷ xs) ys a b = (a.0, fit_append types xs ys a.1 b)

strings_held : (t : TypeTree) → holds_strings t ≡ true → HoldsStrings t
strings_held (utf8_type n) e = tt
strings_held (binary_type n) e = tt
strings_held _ e = absurd cc

-- strings alone
text_held : (t : TypeTree) → is_utf8_type t ≡ true → HoldsText t
text_held (utf8_type n) e = tt
text_held _ e = absurd (false≢true e)

text_fits : (t : TypeTree) (bs : List ℕ) → is_utf8_type t ≡ true → HoldsStrings t × IsOfType t (text_cell bs)
text_fits (utf8_type n) bs e = (tt, refl)
text_fits _ bs e = absurd (false≢true e)

module _ (types : List TypeTree) (k : ℕ) (t : TypeTree) (there : slice_get types k ≡ Some t) (ordered : HasNoVariant t) where
  prefixed_fits : (p : PositionTree) (f : Formula) → HoldsStrings t → CellFits t p → prefix_of k p ≡ Some f → FitsColumns types f
  prefixed_fits (exactly x) f strings fits e = let same : prefix_test k x ≡ f = cc in subst (FitsColumns types) same (prefix_fits types k t there ordered x strings fits)
  prefixed_fits (just_above x) f strings fits e = absurd cc
  prefixed_fits (lacking o) f strings fits e = absurd cc

  like_fits : (case : Case) (parts : List Part) (asked : Option (List ℕ)) → is_utf8_type t ≡ true → FitsColumns types (prefix_or k asked (pattern_test k case parts))
  like_fits case parts None strings = pattern_fits types k t there ordered (text_held t strings)
  like_fits case parts (Some cs) strings = let fits = text_fits t (encode_utf8_all cs) strings in prefix_fits types k t there ordered (text_cell (encode_utf8_all cs)) fits.0 fits.1

  -- what is written of a column fits it
  condition_fits : (c : Condition) (f : Formula) → formula_in k t c ≡ Some f → FitsColumns types f
  condition_fits (compared op l) f e =
      let m = map_some (position_of t l) (comparison_of k op) f e in
      subst (FitsColumns types) m.2 (comparison_fits types k t there ordered op m.0 (literal_fits t l m.0 m.1))
  condition_fits missing f e = let same : null_test k ≡ f = cc in subst (FitsColumns types) same (nothing_fits types k t there)
  condition_fits (listed ls) f e =
      let m = map_some (positions_of t ls) (member_among k) f e in
      subst (FitsColumns types) m.2 (membership_fits types k t there ordered m.0 (literals_fit t ls m.0 m.1))
  condition_fits (between lower upper) f e =
      let a = bind_some (position_of t lower) (λ p. option_map (range_of k p) (position_of t upper)) f e in
      let b = map_some (position_of t upper) (range_of k a.0) f a.2 in
      subst (FitsColumns types) b.2 (range_fits types k t there ordered a.0 b.0 (literal_fits t lower a.0 a.1) (literal_fits t upper b.0 b.1))
  condition_fits (begun l) f e =
      let g = guard_some (holds_strings t) (option_and_then (prefix_of k) (position_of t l)) f e in
      let a = bind_some (position_of t l) (prefix_of k) f g.1 in
      prefixed_fits a.0 f (strings_held t g.0) (literal_fits t l a.0 a.1) a.2
  condition_fits (alike case parts) f e =
      let g = guard_some (is_utf8_type t) (Some (like_test k case parts)) f e in
      let said : Some (like_test k case parts) ≡ Some f = g.1 in
      let same : like_test k case parts ≡ f = cc in
      subst (FitsColumns types) same (like_fits case parts (prefix_asked case parts) g.0)
  condition_fits (denied c) f e = let m = map_some (formula_in k t c) negation f e in subst (FitsColumns types) m.2 (condition_fits c m.0 m.1)

module _ (columns : List ColumnTree) (ordered : AllOrdered columns) where
  predicate_fits : {ts : List TokenTree} {f : Formula} → IsPredicate columns ts f → FitsColumns (types_of columns) f
  predicate_fits says_true = tt
  predicate_fits says_false = tt
  predicate_fits says_null = tt
  predicate_fits (on_column {name} {k} {t} {ts} {c} {f} named d e) = let there = column_is_there columns name k t named in condition_fits (types_of columns) k t there (ordered k t there) c f e
  predicate_fits (prefix_call {name} {k} {t} {x} {l} {f} named said e) = let there = column_is_there columns name k t named in condition_fits (types_of columns) k t there (ordered k t there) (begun l) f e

  -- a filter of the grammar fits
  pub filter_fits : {l : Level} {n : ℕ} {ts : List TokenTree} {f : Formula} → IsFilter columns l n ts f → FitsColumns (types_of columns) f
  filter_fits (predicate d) = predicate_fits d
  filter_fits (group d) = filter_fits d
  filter_fits (not_filter d) = filter_fits d
  filter_fits (one_operand d) = filter_fits d
  filter_fits (and_filter {n} {ts} {us} {f} {g} d e) = fit_append (types_of columns) (tests f) (tests g) (filter_fits d) (filter_fits e)
  filter_fits (one_conjunction d) = filter_fits d
  filter_fits (or_filter {n} {ts} {us} {f} {g} d e) = fit_append (types_of columns) (tests f) (tests g) (filter_fits d) (filter_fits e)
