-- Steps of the size of raw values: sums that stop at the greatest number, part by part.
use Rattle.std.proofs.Common.{◌≡◌, ℕ, ◌<◌, ◌≤◌, ◌+◌, ◌⊎◌, inl, inr, List, [], ◌∷◌, length, Option, drop, get_or, refl, arith}
use Rattle.std.proofs.lemmas.List.{drop_more}
use Rattle.vortex_dtype.specs.TypeOf.{dtype_trees}
use Rattle.vortex_dtype.specs.TypeTree.{TypeTree}
use Rattle.vortex_dtype.specs.declared.types.DType.{DType}
use Rattle.vortex_value.specs.Values.RawOf.{raw_of, value_trees}
use Rattle.vortex_value.specs.Values.RawTree.{raw_tuple}
use Rattle.vortex_value.specs.Size.{capped, elements_size, entries_size, entry_size, fields_size, size_of}
use Rattle.vortex_value.specs.declared.values.ScalarValue.{ScalarValue}
use Rattle.vortex_dtype.specs.Lemmas.TypeLevels.{type_of-List, type_of-FixedSizeList, type_of-Map, type_of-Struct, type_of-Union}
use Rattle.vortex_value.proofs.ValidSteps.{two_places}
use Rattle.vortex_value.proofs.ValueSteps.{value_tree-Tuple, value_tree-Union, value_tree-Variant, variant_tree-parts, union_tree-parts}

-- the elements from place i on
pub elements_size_at : (e : TypeTree) (i : ℕ) (vs : List (Option ScalarValue)) (v : Option ScalarValue) → i < length vs → v ≡ get_or vs i v
    → elements_size e (value_trees (drop i vs)) ≡ size_of e (raw_of v) + elements_size e (value_trees (drop (i + 1) vs))
elements_size_at e i vs v h is = rw (drop_more vs i v h, ← is) refl

-- the entries from place i on
pub entries_size_at : (k w : TypeTree) (i : ℕ) (vs : List (Option ScalarValue)) (v : Option ScalarValue) → i < length vs → v ≡ get_or vs i v
    → entries_size k w (value_trees (drop i vs)) ≡ entry_size k w (raw_of v) + entries_size k w (value_trees (drop (i + 1) vs))
entries_size_at k w i vs v h is = rw (drop_more vs i v h, ← is) refl

-- an entry of two parts, and one of more or fewer
pub pair_size : (k w : TypeTree) (vs : List (Option ScalarValue)) (x y : Option ScalarValue) → 2 ≤ length vs → length vs < 3 → x ≡ get_or vs 0 x → y ≡ get_or vs 1 y
    → entry_size k w (raw_tuple (value_trees vs)) ≡ size_of k (raw_of x) + size_of w (raw_of y)
pair_size k w vs x y more fewer a b =
    let two : length vs ≡ 2 = omega arith in
    rw (two_places vs x y two a b)

pub fewer_size : (k w : TypeTree) (vs : List (Option ScalarValue)) → length vs < 2 → entry_size k w (raw_tuple (value_trees vs)) ≡ 0
fewer_size k w [] h = refl
fewer_size k w (u ∷ []) h = refl
fewer_size k w (u ∷ v ∷ vs) h = absurd (omega arith)

pub more_size : (k w : TypeTree) (vs : List (Option ScalarValue)) → 3 ≤ length vs → entry_size k w (raw_tuple (value_trees vs)) ≡ 0
more_size k w [] h = refl
more_size k w (u ∷ []) h = refl
more_size k w (u ∷ v ∷ []) h = absurd (omega arith)
more_size k w (u ∷ v ∷ z ∷ vs) h = refl

-- where one side ends there is nothing left to count
pub fields_size_end : (ts : List DType) (vs : List (Option ScalarValue)) → (length vs ≡ 0) ⊎ (length ts ≡ 0) → fields_size (dtype_trees ts) (value_trees vs) ≡ 0
fields_size_end [] vs h = refl
fields_size_end (t ∷ ts) [] h = refl
fields_size_end (t ∷ ts) (v ∷ vs) h = absurd (elim h [ inl e ↦ omega arith | inr e ↦ omega arith ])

-- a part is counted: the sum so far with it and with what is left comes to the same, as far as is counted
pub counted : (total part rest all : ℕ) → capped (total + (part + rest)) ≡ capped all
    → (capped (capped (total + capped part)) ≡ capped (total + capped part)) × (capped (capped (total + capped part) + rest) ≡ capped all)
counted total part rest all h = (omega arith, omega arith)

pub ruleset shown = (pair_size, fewer_size, more_size, fields_size_end, value_tree-Tuple, value_tree-Union, value_tree-Variant, variant_tree-parts, union_tree-parts, type_of-List, type_of-FixedSizeList, type_of-Map, type_of-Struct, type_of-Union)
