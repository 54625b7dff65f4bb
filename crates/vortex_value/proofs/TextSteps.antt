-- Steps of writing texts: the digits of a byte, shortened lists, and the parts of values that a loop comes to.
use Rattle.std.proofs.Common.{◌≡◌, ◌≢◌, ℕ, ◌+◌, ◌-◌, ◌<◌, ◌≤◌, false, true, nat_lt, Option, Some, None, List, [], ◌∷◌, ◌++◌, length, take, drop, get_or, codes, ◌⊎◌, inl, inr, append_assoc, Bor, Box, Global, option_map, slice_get, refl, ap, ◌∙◌, arith}
use Rattle.std.proofs.lemmas.Bool.Decides.{nat_tests}
use Rattle.std.proofs.lemmas.Fmt.{hex_byte}
use Rattle.std.proofs.lemmas.List.{drop_all, drop_more, length-drop, take_all}
use Rattle.std.proofs.lemmas.Option.{slice_get_cases}
use Rattle.std.specs.Fmt.{HasWritten}
use Rattle.std.specs.declared.fmt.Formatter.{Formatter}
use Rattle.std.specs.Option.{IsSomeAnd, MatchOption, option_copied}
use Rattle.vortex_dtype.specs.Lemmas.TypeLevels.{type_of-List, type_of-FixedSizeList, type_of-Map, type_of-Struct, type_of-Union}
use Rattle.vortex_dtype.specs.TypeTree.{TypeTree, TypeTrees, no_types, type_then, storage}
use Rattle.vortex_dtype.specs.TypeOf.{as_type_trees}
use Rattle.vortex_value.specs.Steps.Labels.{before_at, field_at}
use Rattle.vortex_value.specs.Values.RawOf.{raw_of, value_trees}
use Rattle.vortex_value.specs.Values.RawTree.{RawTree, raw_tuple, RawTrees, no_raws, raw_then}
use Rattle.vortex_value.specs.Texts.{entry_text, field_texts, shortened, text_at}
use Rattle.vortex_value.specs.declared.values.ScalarValue.{ScalarValue}
use Rattle.vortex_value.proofs.Inner.{inner_decides}
use Rattle.vortex_value.proofs.ValidSteps.{two_places}
use Rattle.vortex_value.proofs.ValueSteps.{value_tree-Tuple, value_tree-Union, value_tree-Variant, variant_tree-parts, union_tree-parts}
use Rattle.vortex_value.proofs.Writes.{HasLeft, rest_from, has_written_none, left_empty, left_next}

-- what `{:02x}` writes of a byte
pub ruleset digits_of_byte = (hex_byte)

-- a list of at most ten items is not shortened
pub shortened_whole : (text : List ℕ → List ℕ) (items : List ℕ) → length items ≤ 10 → shortened text items ≡ text items
shortened_whole text items h =
    let few : nat_lt 10 (length items) ≡ false = grind (arith, nat_tests) in
    rw few refl

-- of a longer one five items stand at each end
pub shortened_ends : (text : List ℕ → List ℕ) (items : List ℕ) → 10 < length items → shortened text items ≡ text (take 5 items) ++ (codes ".." ++ text (drop (length items - 5) items))
shortened_ends text items h =
    let many : nat_lt 10 (length items) ≡ true = grind (arith, nat_tests) in
    rw many refl

-- no more than five items are left of the last five
pub last_five : (n : ℕ) (items : List ℕ) → 5 ≤ n → take n (drop (length items - 5) items) ≡ drop (length items - 5) items
last_five n items h =
    let five : length (drop (length items - 5) items) ≡ length items - (length items - 5) = length-drop (length items - 5) items in
    take_all n (drop (length items - 5) items) (omega arith)

-- the trees of raw values from this place on: the one that stands there, and those from the next on
pub value_trees_at : (i : ℕ) (vs : List (Option ScalarValue)) (v : Option ScalarValue) → i < length vs → v ≡ get_or vs i v → value_trees (drop i vs) ≡ raw_then (raw_of v) (value_trees (drop (i + 1) vs))
value_trees_at i vs v h is = rw (drop_more vs i v h, ← is) refl

-- a tuple of another length than two has no text as an entry
pub no_entry_text : (k w : TypeTree) (vs : List (Option ScalarValue)) → length vs ≢ 2 → entry_text k w (raw_tuple (value_trees vs)) ≡ []
no_entry_text k w [] h = refl
no_entry_text k w (u ∷ []) h = refl
no_entry_text k w (u ∷ v ∷ []) h = absurd (h refl)
no_entry_text k w (u ∷ v ∷ x ∷ vs) h = refl

-- the text of a pair
pub pair_text : (k w : TypeTree) (vs : List (Option ScalarValue)) (x y : Option ScalarValue) → length vs ≡ 2 → x ≡ get_or vs 0 x → y ≡ get_or vs 1 y
    → entry_text k w (raw_tuple (value_trees vs)) ≡ text_at (storage k) (raw_of x) ++ (codes ": " ++ text_at (storage w) (raw_of y))
pair_text k w vs x y two a b = rw (two_places vs x y two a b) refl

-- without values, or without types, there are no fields
pub no_values : (names : List (List ℕ)) (ts : TypeTrees) → field_texts names ts no_raws ≡ []
no_values [] ts = refl
no_values (name ∷ names) no_types = refl
no_values (name ∷ names) (type_then t ts) = refl

pub no_types_left : (names : List (List ℕ)) (vs : RawTrees) → field_texts names no_types vs ≡ []
no_types_left [] vs = refl
no_types_left (name ∷ names) vs = refl

-- a field has no text without a name or a type
pub no_field : (i : ℕ) (name : Option (List ℕ)) (t : Option TypeTree) (v : RawTree) → (name ≡ None) ⊎ (t ≡ None) → field_at i name t v ≡ []
no_field i None t v none = refl
no_field i (Some name) None v none = refl
no_field i (Some name) (Some t) v (inl none) = cc
no_field i (Some name) (Some t) v (inr none) = cc

-- the text of a field is its label and then its value
pub field_after_label : (i : ℕ) (name : List ℕ) (t : TypeTree) (v : RawTree)
    → field_at i (Some name) (Some t) v ≡ (before_at i (codes ", ") ++ (name ++ codes ": ")) ++ text_at (storage t) v
field_after_label i name t v = rw (append_assoc (before_at i (codes ", ")) (name ++ codes ": ") _, append_assoc name (codes ": ") _) refl

-- a list from this place on, where an item stands there
at_place : {A : Type 0} (xs : List A) (i : ℕ) (x : A) → i < length xs → get_or xs i x ≡ x → drop i xs ≡ x ∷ drop (i + 1) xs
at_place xs i x h is = drop_more xs i x h ∙ ap (λ y. y ∷ drop (i + 1) xs) is

-- in a loop over fields the field at this place is written, or nothing where there is none
pub left_field : {W : Type 0} (took : W → List ℕ → W → Type 0) (i : ℕ) (names : List (List ℕ)) (types : List TypeTree) (vs : List (Option ScalarValue)) (v : Option ScalarValue) (f g h : Formatter W) (whole : List ℕ)
    → i < length vs → v ≡ get_or vs i v
    → HasLeft took f (rest_from i (codes ", ") (field_texts (drop i names) (as_type_trees (drop i types)) (value_trees (drop i vs)))) whole g
    → HasWritten took g (field_at i (slice_get names i) (slice_get types i) (raw_of v)) h
    → HasLeft took f (rest_from (i + 1) (codes ", ") (field_texts (drop (i + 1) names) (as_type_trees (drop (i + 1) types)) (value_trees (drop (i + 1) vs)))) whole h
left_field took i names types vs v f g h whole here is p q =
    elim (slice_get_cases names i).1 [
      | inl (name, within, got, read) ↦ elim (slice_get_cases types i).1 [
        | inl (t, inside, gave, found) ↦
            left_next took i f g h (codes ", ") _ _ whole
            (rw (at_place names i name within read, at_place types i t inside found, value_trees_at i vs v here is) at p) (rw (got, gave) at q)
        | inr (past, none) ↦
            left_empty took i f g h (codes ", ") _ _ whole
            (rw (drop_all i types past, no_types_left) refl) (rw (drop_all (i + 1) types (omega (arith, past)), no_types_left) refl) p (rw (got, none) at q)
      ]
      | inr (past, none) ↦
          left_empty took i f g h (codes ", ") _ _ whole
          (rw (drop_all i names past) refl) (rw (drop_all (i + 1) names (omega (arith, past))) refl) p (rw none at q)
    ]

-- the child behind an optional reference to what its box owns
pub child_behind : (child : Option (Box ScalarValue Global)) (o : Option (Bor ScalarValue)) → MatchOption child (o ≡ None) (λ b. IsSomeAnd o (λ y. y.now ≡ b.value)) → option_copied o ≡ option_map (λ b. b.value) child
child_behind None o none = rw none refl
child_behind (Some b) None some = absurd some
child_behind (Some b) (Some y) same = ap Some same

-- one level of a value and of a type, what is written of nothing, and when a variant is valid
pub ruleset shown = (value_tree-Tuple, value_tree-Union, value_tree-Variant, variant_tree-parts, union_tree-parts, type_of-List, type_of-FixedSizeList, type_of-Map, type_of-Struct, type_of-Union, has_written_none, inner_decides)
