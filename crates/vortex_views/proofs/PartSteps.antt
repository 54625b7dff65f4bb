-- The values of a tuple as parts, and the parts of a valid list.
use Rattle.std.proofs.Common.{◌≡◌, ◌⊎◌, ℕ, zero, suc, List, [], ◌∷◌, map, Option, Some, None, option_map, slice_get, IfSome, Vec, Global, refl, sym, ap, ◌∙◌, inl, inr, subst, rules, arith}
use Rattle.std.proofs.lemmas.List.Elements.{All-cons, All-map}
use Rattle.std.proofs.lemmas.Option.{slice_get-map}
use Rattle.std.specs.List.{All}
use Rattle.vortex_dtype.specs.Parts.{element_in, map_in}
use Rattle.vortex_dtype.specs.TypeOf.{MapParts}
use Rattle.vortex_dtype.specs.TypeTree.{TypeTree, list_type, fixed_size_list_type, map_type}
use Rattle.vortex_value.specs.Validity.{EachValid, EntriesValid, Valid}
use Rattle.vortex_value.specs.Values.RawOf.{raw_of, value_tree, value_trees}
use Rattle.vortex_value.specs.Values.RawTree.{RawTree, absent, raw_bool, raw_integer, raw_text, raw_bytes, raw_tuple, raw_union, raw_variant, RawTrees, no_raws, raw_then}
use Rattle.vortex_value.specs.Values.Refs.{IsValidRef}
use Rattle.vortex_value.specs.Values.Scalars.{IsValid}
use Rattle.vortex_value.specs.declared.refs.ScalarRef.{ScalarRef}
use Rattle.vortex_value.specs.declared.scalars.Scalar.{Scalar}
use Rattle.vortex_value.specs.declared.values.ScalarValue.{ScalarValue, Tuple, the_lemmas}
use Rattle.vortex_views.specs.Parts.{AreValidParts, IsValidPart, Part, entries_of, entry_of, ref_entry, elements_of, listed_raws, parts_by, parts_of, ref_part, scalar_part}

listed-value_trees : (vs : List (Option ScalarValue)) → map raw_of vs ≡ listed_raws (value_trees vs)
listed-value_trees [] = refl
listed-value_trees (v ∷ vs) = ap (λ ws. raw_of v ∷ ws) (listed-value_trees vs)

value_tree-Tuple : (vs : Vec (Option ScalarValue) Global) → value_tree (Tuple vs) ≡ raw_tuple (value_trees vs.items)
value_tree-Tuple vs = search (rules, the_lemmas)

-- the parts of a tuple are its values
pub parts_of-Tuple : (vs : Vec (Option ScalarValue) Global) → parts_of (value_tree (Tuple vs)) ≡ map raw_of vs.items
parts_of-Tuple vs = ap parts_of (value_tree-Tuple vs) ∙ sym (listed-value_trees vs.items)

pub ruleset shown = (parts_of-Tuple)

-- only a tuple has parts
pub no_parts_or_tuple : (v : RawTree) → (parts_of v ≡ []) ⊎ ((vs : RawTrees) × (v ≡ raw_tuple vs))
no_parts_or_tuple absent = inl refl
no_parts_or_tuple (raw_bool b) = inl refl
no_parts_or_tuple (raw_integer k z) = inl refl
no_parts_or_tuple (raw_text bs) = inl refl
no_parts_or_tuple (raw_bytes bs) = inl refl
no_parts_or_tuple (raw_tuple vs) = inr (vs, refl)
no_parts_or_tuple (raw_union id v) = inl refl
no_parts_or_tuple (raw_variant t v) = inl refl

-- the part at a place, where the type holds x
pub parts_by-at : {X Y : Type 0} (part : X → RawTree → Y) (x : X) (held : Option X) (v : RawTree) (place : ℕ) → Some x ≡ held
    → slice_get (parts_by part held v) place ≡ option_map (part x) (slice_get (parts_of v) place)
parts_by-at part x held v place h = subst (λ o. slice_get (parts_by part o v) place ≡ option_map (part x) (slice_get (parts_of v) place)) h (slice_get-map (part x) (parts_of v) place)

-- what lends a valid part is valid
pub lent-valid : (lent : Option ScalarRef) (part : Option Part) → option_map ref_part lent ≡ part → IfSome part IsValidPart → IfSome lent IsValidRef
lent-valid None part e h = tt
lent-valid (Some x) part e h = let P : Option Part → Type 0 = λ p. IfSome p IsValidPart in subst P (sym e) h

each-valid : (e : TypeTree) (vs : RawTrees) (place : ℕ) → EachValid e vs → IfSome (slice_get (map (λ w. (e, w)) (listed_raws vs)) place) IsValidPart
each-valid e no_raws place h = tt
each-valid e (raw_then v vs) zero h = h.0
each-valid e (raw_then v vs) (suc place) h = each-valid e vs place h.1

nothing-valid : {X : Type 0} (part : X → RawTree → Part) (x : X) (v : RawTree) (place : ℕ) → parts_of v ≡ [] → IfSome (slice_get (map (part x) (parts_of v)) place) IsValidPart
nothing-valid part x v place e = rw e tt

-- each element of a valid list is valid
pub element-valid : (e t : TypeTree) (v : RawTree) (place : ℕ) → Some e ≡ element_in t → Valid t v → IfSome (slice_get (elements_of (t, v)) place) IsValidPart
element-valid e (list_type f n) v place k h = elim (no_parts_or_tuple v) [
  | inl none ↦ nothing-valid (λ e w. (e, w)) f v place none
  | inr tuple ↦ rw tuple.1 (each-valid f tuple.0 place (subst (Valid (list_type f n)) tuple.1 h))
]
element-valid e (fixed_size_list_type f size n) v place k h = elim (no_parts_or_tuple v) [
  | inl none ↦ nothing-valid (λ e w. (e, w)) f v place none
  | inr tuple ↦ rw tuple.1 (each-valid f tuple.0 place (subst (Valid (fixed_size_list_type f size n)) tuple.1 h).1)
]
element-valid e _ v place k h = cc

-- an element of a valid list that is lent is valid
pub lent_element-valid : (lent : Option ScalarRef) (e t : TypeTree) (v : RawTree) (raws : List RawTree) (place : ℕ)
    → option_map ref_part lent ≡ option_map (λ w. (e, w)) (slice_get raws place) → raws ≡ parts_of v → Some e ≡ element_in t → Valid t v → IfSome lent IsValidRef
lent_element-valid lent e t v raws place l r k h =
    lent-valid lent (slice_get (elements_of (t, v)) place)
    (l ∙ ap (λ ws. option_map (λ w. (e, w)) (slice_get ws place)) r ∙ sym (parts_by-at (λ f w. (f, w)) e (element_in t) v place k))
    (element-valid e t v place k h)

-- scalars of valid parts are valid
pub copies-valid : (xs : List Scalar) → ((place : ℕ) → IfSome (slice_get (map scalar_part xs) place) IsValidPart) → All IsValid xs
copies-valid [] h = λ k d below. let none : ⊥ = omega arith in absurd none
copies-valid (x ∷ xs) h = All-cons IsValid x xs (h 0) (copies-valid xs (λ place. h (suc place)))

-- scalars of the elements of a valid list are valid
pub copied_elements-valid : (xs : List Scalar) (e t : TypeTree) (v : RawTree) (raws : List RawTree)
    → map scalar_part xs ≡ map (λ w. (e, w)) raws → raws ≡ parts_of v → Some e ≡ element_in t → Valid t v → All IsValid xs
copied_elements-valid xs e t v raws l r k h = copies-valid xs (λ place. subst (λ ps. IfSome (slice_get ps place) IsValidPart) (sym same) (element-valid e t v place k h))
  where
    same : map scalar_part xs ≡ elements_of (t, v)
    same = l ∙ ap (map (λ w. (e, w))) r ∙ subst (λ held. map {B = Part} (λ w. (e, w)) (parts_of v) ≡ parts_by (λ f w. (f, w)) held v) k refl

each_entry-valid : (m : MapParts) (vs : RawTrees) (place : ℕ) → EntriesValid m.key m.value vs → IfSome (slice_get (map (entry_of m) (listed_raws vs)) place) AreValidParts
each_entry-valid m no_raws place h = tt
each_entry-valid m (raw_then (raw_tuple (raw_then x (raw_then y no_raws))) vs) zero h = (h.0, h.1)
each_entry-valid m (raw_then (raw_tuple (raw_then x (raw_then y no_raws))) vs) (suc place) h = each_entry-valid m vs place h.2
each_entry-valid m _ place h = absurd h

-- each entry of a valid map is valid
pub entry-valid : (m : MapParts) (t : TypeTree) (v : RawTree) (place : ℕ) → Some m ≡ map_in t → Valid t v → IfSome (slice_get (entries_of (t, v)) place) AreValidParts
entry-valid m (map_type k w sorted n) v place e h = elim (no_parts_or_tuple v) [
  | inl none ↦ rw none tt
  | inr tuple ↦ rw tuple.1 (each_entry-valid (record { key = k; value = w; keys_sorted = sorted }) tuple.0 place (subst (Valid (map_type k w sorted n)) tuple.1 h))
]
entry-valid m _ v place e h = cc

-- what lends a valid entry is valid
lent_both-valid : (lent : Option (ScalarRef × ScalarRef)) (entry : Option (Part × Part)) → option_map ref_entry lent ≡ entry → IfSome entry AreValidParts
    → IfSome lent (λ e. IsValidRef e.0 × IsValidRef e.1)
lent_both-valid None entry e h = tt
lent_both-valid (Some x) entry e h = let P : Option (Part × Part) → Type 0 = λ p. IfSome p AreValidParts in subst P (sym e) h

-- an entry of a valid map that is lent is valid
pub lent_entry-valid : (lent : Option (ScalarRef × ScalarRef)) (m : MapParts) (t : TypeTree) (v : RawTree) (raws : List RawTree) (place : ℕ)
    → option_map ref_entry lent ≡ option_map (entry_of m) (slice_get raws place) → raws ≡ parts_of v → Some m ≡ map_in t → Valid t v → IfSome lent (λ e. IsValidRef e.0 × IsValidRef e.1)
lent_entry-valid lent m t v raws place l r k h =
    lent_both-valid lent (slice_get (entries_of (t, v)) place)
    (l ∙ ap (λ ws. option_map (entry_of m) (slice_get ws place)) r ∙ sym (parts_by-at entry_of m (map_in t) v place k))
    (entry-valid m t v place k h)

all_placed : {X : Type 0} (P : X → Type 0) (xs : List X) → ((place : ℕ) → IfSome (slice_get xs place) P) → All P xs
all_placed P [] h = λ k d below. let none : ⊥ = omega arith in absurd none
all_placed P (x ∷ xs) h = All-cons P x xs (h 0) (all_placed P xs (λ place. h (suc place)))

-- all entries of a valid map are valid
pub entries-valid : (m : MapParts) (t : TypeTree) (v : RawTree) (raws : List RawTree) (left : List (Part × Part))
    → left ≡ map (entry_of m) raws → raws ≡ parts_of v → Some m ≡ map_in t → Valid t v → All AreValidParts left
entries-valid m t v raws left l r k h = rw same (all_placed AreValidParts (entries_of (t, v)) (λ place. entry-valid m t v place k h))
  where
    same : left ≡ entries_of (t, v)
    same = l ∙ ap (map (entry_of m)) r ∙ subst (λ held. map (entry_of m) (parts_of v) ≡ parts_by entry_of held v) k refl

-- all keys, and all values, of valid entries are valid
pub keys-valid : (entries : List (Part × Part)) (left : List Part) → left ≡ map (λ e. e.0) entries → All AreValidParts entries → All IsValidPart left
keys-valid entries left l h = rw l (All-map IsValidPart (λ e. e.0) entries (λ k d below. (h k d below).0))

pub values-valid : (entries : List (Part × Part)) (left : List Part) → left ≡ map (λ e. e.1) entries → All AreValidParts entries → All IsValidPart left
values-valid entries left l h = rw l (All-map IsValidPart (λ e. e.1) entries (λ k d below. (h k d below).1))
