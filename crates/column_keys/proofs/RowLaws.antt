-- What a row has in a column is one content.
use Rattle.std.proofs.Common.{◌≡◌, ◌∙◌, ℕ, zero, suc, ◌<◌, List, [], ◌∷◌, ◌++◌, length, map, get_or, refl, sym, ap, arith}
use Rattle.std.specs.List.{All}
use Rattle.std.proofs.lemmas.List.Elements.{All-cons, All-nil}
use Rattle.vortex_dtype.specs.TypeOf.{as_type_trees}
use Rattle.vortex_dtype.specs.TypeTree.{TypeTree, null_type}
use Rattle.vortex_value.specs.Equality.{HasNoTyped}
use Rattle.vortex_value.specs.TypesWithin.{HaveNoVariant}
use Rattle.vortex_value.specs.Values.Content.{Content, content, null}
use Rattle.vortex_value.specs.Values.RawTree.{RawTree, absent}
use Rattle.vortex_row.specs.Decoded.{AreValuesOf, IsValueOf, values_key}
use Rattle.vortex_row.specs.Held.{IsHeld}
use Rattle.vortex_row.specs.Laws.{KeysAreApart, ValuesHaveNoTyped}
use Rattle.vortex_row.specs.declared.options.SortOptions.{SortOptions}
use Rattle.column_keys.specs.Cells.{IsCellOf}

-- ---- values of types

pub values-count : (types : List TypeTree) (vs : List RawTree) → AreValuesOf (as_type_trees types) vs → length (map content vs) ≡ length types
values-count [] [] h = refl
values-count [] (v ∷ vs) h = absurd h
values-count (t ∷ types) [] h = absurd h
values-count (t ∷ types) (v ∷ vs) h = ap suc (values-count types vs h.1)

pub values-held : (types : List TypeTree) (vs : List RawTree) → AreValuesOf (as_type_trees types) vs → All IsHeld (map content vs)
values-held [] [] h = All-nil IsHeld
values-held [] (v ∷ vs) h = absurd h
values-held (t ∷ types) [] h = absurd h
values-held (t ∷ types) (v ∷ vs) h = All-cons IsHeld (content v) (map content vs) h.0.held (values-held types vs h.1)

pub values-plain : ValuesHaveNoTyped → (types : List TypeTree) (vs : List RawTree) → HaveNoVariant (as_type_trees types) → AreValuesOf (as_type_trees types) vs → All HasNoTyped (map content vs)
values-plain law [] [] p h = All-nil HasNoTyped
values-plain law [] (v ∷ vs) p h = absurd h
values-plain law (t ∷ types) [] p h = absurd h
values-plain law (t ∷ types) (v ∷ vs) p h = All-cons HasNoTyped (content v) (map content vs) (law t v p.0 h.0.valid) (values-plain law types vs p.1 h.1)

pub value-there : (types : List TypeTree) (vs : List RawTree) (k : ℕ) → AreValuesOf (as_type_trees types) vs → k < length types → IsValueOf (get_or types k null_type) (get_or vs k absent)
value-there [] vs k h l = absurd (omega arith)
value-there (t ∷ types) [] k h l = absurd h
value-there (t ∷ types) (v ∷ vs) zero h l = h.0
value-there (t ∷ types) (v ∷ vs) (suc k) h l = value-there types vs k h.1 (omega arith)

-- ---- two rows with one key

pub rows-apart : KeysAreApart → ValuesHaveNoTyped → (types : List TypeTree) (os : List SortOptions) (vs ws : List RawTree) (xs ys : List ℕ) → length types ≡ length os → HaveNoVariant (as_type_trees types)
    → AreValuesOf (as_type_trees types) vs → AreValuesOf (as_type_trees types) ws → values_key os vs ++ xs ≡ values_key os ws ++ ys → (map content vs ≡ map content ws) × (xs ≡ ys)
rows-apart apart law types os vs ws xs ys counts plain hv hw e =
    apart.rows os (map content vs) (map content ws) xs ys (values-count types vs hv ∙ counts) (values-count types ws hw ∙ counts) (values-plain law types vs plain hv) (values-held types vs hv) (values-held types ws hw) e

pub content-there : (vs : List RawTree) (k : ℕ) → content (get_or vs k absent) ≡ get_or (map content vs) k null
content-there [] k = refl
content-there (v ∷ vs) zero = refl
content-there (v ∷ vs) (suc k) = content-there vs k

pub one-content : KeysAreApart → ValuesHaveNoTyped → (types : List TypeTree) (os : List SortOptions) (which : ℕ) (key : List ℕ) (c d : Content) → length types ≡ length os → HaveNoVariant (as_type_trees types)
    → IsCellOf os (as_type_trees types) which key c → IsCellOf os (as_type_trees types) which key d → c ≡ d
one-content apart law types os which key c d counts plain one other =
    let same = rows-apart apart law types os one.values other.values [] [] counts plain one.row.values other.row.values (sym one.row.is ∙ other.row.is) in
    one.is ∙ content-there one.values which ∙ ap (λ cs. get_or cs which null) same.0 ∙ sym (other.is ∙ content-there other.values which)
