-- Steps of views of unions: what is valid chooses one of the variants, and has a child that is valid for its type.
use Rattle.std.proofs.Common.{◌≡◌, ℕ, ◌==◌, ◌<◌, true, List, [], length, Option, Some, None, IfNone, IfSome, option_map, refl, sym, ap, subst, ◌∙◌}
use Rattle.std.specs.Prelude.{position, slice_get, option_and_then}
use Rattle.std.proofs.lemmas.List.Quantifiers.{position-Some}
use Rattle.std.proofs.lemmas.Option.{slice_get-get_or}
use Rattle.vortex_dtype.specs.Parts.{is_union_type}
use Rattle.vortex_dtype.specs.TypeOf.{VariantParts, union_type_of, as_type_trees}
use Rattle.vortex_dtype.specs.TypeTree.{TypeTree, union_type, storage}
use Rattle.vortex_dtype.specs.declared.nullability.Nullability.{Nullability}
use Rattle.vortex_value.specs.Validity.{HasType, Valid, ValidAt, type_with}
use Rattle.vortex_value.specs.Values.RawTree.{RawTree, absent, raw_union}
use Rattle.vortex_value.specs.Lemmas.VariantPlaces.{type_with-position}
use Rattle.vortex_views.specs.Parts.{IsValidPart}
use Rattle.vortex_views.specs.Unions.{IsNamedUnion, child_of, chosen_name, chosen_place, chosen_type, id_of}
use Rattle.vortex_views.specs.ViewKinds.{is_of_union}

-- a valid value of a union is a null or a union's
pub valid_is_union : (t : TypeTree) (v : RawTree) → is_union_type t ≡ true → Valid t v → is_of_union t v ≡ true
valid_is_union (union_type names ts ids n) absent h valid = refl
valid_is_union (union_type names ts ids n) (raw_union id v) h valid = refl
valid_is_union (union_type names ts ids n) v h valid = absurd valid
valid_is_union t v h valid = cc

-- the place of the id
pub place_of_id : (p : VariantParts) (n : Nullability) (t : TypeTree) (v : RawTree) (id : ℕ) → union_type_of p n ≡ t → id_of v ≡ Some id
    → position (λ i. i == id) p.type_ids ≡ chosen_place t v
place_of_id p n t v id is h = subst (λ u. position (λ i. i == id) p.type_ids ≡ chosen_place u v) is (at_union v h)
  where
    at_union : (v : RawTree) → id_of v ≡ Some id → position (λ i. i == id) p.type_ids ≡ chosen_place (union_type_of p n) v
    at_union (raw_union j w) h = let e : j ≡ id = cc in ap (λ k. position (λ i. i == k) p.type_ids) (sym e)
    at_union v h = cc

-- a value that is valid and not null chooses a type
pub type_there : (t : TypeTree) (v : RawTree) → is_of_union t v ≡ true → Valid t v → IfNone (chosen_type t v) (v ≡ absent)
type_there (union_type names ts ids n) absent kind valid = refl
type_there (union_type names ts ids n) (raw_union id v) kind valid = has (type_with id ids ts) valid
  where
    has : (o : Option TypeTree) → HasType o (λ u. ValidAt (storage u) v) → IfNone o (raw_union id v ≡ absent)
    has None h = absurd h
    has (Some u) h = tt
type_there t v kind valid = cc

-- the place of what is valid is there
pub place_there : (p : VariantParts) (n : Nullability) (t : TypeTree) (v : RawTree) (o : Option ℕ) → union_type_of p n ≡ t
    → is_of_union t v ≡ true → Valid t v → o ≡ chosen_place t v → IfNone o (v ≡ absent)
place_there p n t v o is kind valid h = subst (λ r. IfNone r (v ≡ absent)) (sym h)
    (subst (λ u. is_of_union u v ≡ true → Valid u v → IfNone (chosen_place u v) (v ≡ absent)) is (at_union v) kind valid)
  where
    by_place : (id : ℕ) (w : RawTree) (o : Option ℕ) → position (λ i. i == id) p.type_ids ≡ o → Valid (union_type_of p n) (raw_union id w) → IfNone o (raw_union id w ≡ absent)
    by_place id w (Some i) e valid = tt
    by_place id w None e valid =
        let none : type_with id p.type_ids (as_type_trees p.types) ≡ None = type_with-position id p.type_ids p.types ∙ ap (option_and_then (slice_get p.types)) e in
        absurd (subst (λ u. HasType u (λ t. ValidAt (storage t) w)) none valid)

    at_union : (v : RawTree) → is_of_union (union_type_of p n) v ≡ true → Valid (union_type_of p n) v → IfNone (chosen_place (union_type_of p n) v) (v ≡ absent)
    at_union absent kind valid = refl
    at_union (raw_union id w) kind valid = by_place id w (position (λ i. i == id) p.type_ids) refl valid
    at_union v kind valid = cc

-- the type at the place
pub type_at_place : (p : VariantParts) (n : Nullability) (t : TypeTree) (v : RawTree) (index : ℕ) → union_type_of p n ≡ t → chosen_place t v ≡ Some index
    → slice_get p.types index ≡ chosen_type t v
type_at_place p n t v index is = subst (λ u. chosen_place u v ≡ Some index → slice_get p.types index ≡ chosen_type u v) is (at_union v)
  where
    at_union : (v : RawTree) → chosen_place (union_type_of p n) v ≡ Some index → slice_get p.types index ≡ chosen_type (union_type_of p n) v
    at_union (raw_union id w) h = sym (type_with-position id p.type_ids p.types ∙ ap (option_and_then (slice_get p.types)) h)
    at_union v h = cc

-- the name at the place
pub name_at_place : (p : VariantParts) (n : Nullability) (t : TypeTree) (v : RawTree) (index : ℕ) → union_type_of p n ≡ t → chosen_place t v ≡ Some index
    → slice_get p.names index ≡ chosen_name t v
name_at_place p n t v index is = subst (λ u. chosen_place u v ≡ Some index → slice_get p.names index ≡ chosen_name u v) is (at_union v)
  where
    at_union : (v : RawTree) → chosen_place (union_type_of p n) v ≡ Some index → slice_get p.names index ≡ chosen_name (union_type_of p n) v
    at_union (raw_union id w) h = sym (ap (option_and_then (slice_get p.names)) h)
    at_union v h = cc

-- where there are as many names as ids, there is a name at the place
pub name_there : (p : VariantParts) (n : Nullability) (t : TypeTree) (v : RawTree) (index : ℕ) (x : Option (List ℕ)) → union_type_of p n ≡ t
    → IsNamedUnion t → chosen_place t v ≡ Some index → x ≡ slice_get p.names index → IfNone x (v ≡ absent)
name_there p n t v index x is = subst (λ u. IsNamedUnion u → chosen_place u v ≡ Some index → x ≡ slice_get p.names index → IfNone x (v ≡ absent)) is (at_union v)
  where
    at_union : (v : RawTree) → length p.names ≡ length p.type_ids → chosen_place (union_type_of p n) v ≡ Some index → x ≡ slice_get p.names index → IfNone x (v ≡ absent)
    at_union (raw_union id w) named h e =
        let within : index < length p.names = subst (λ m. index < m) (sym named) (position-Some (λ i. i == id) p.type_ids index 0 h).0 in
        subst (λ o. IfNone o (raw_union id w ≡ absent)) (sym (e ∙ slice_get-get_or p.names index [] within)) tt
    at_union v named h e = cc

-- what there is of an optional value mapped is there before
pub none_before : {A B : Type 0} (f : A → B) (x : Option A) (o : Option B) (P : Type 0) → option_map f x ≡ o → IfNone o P → IfNone x P
none_before f (Some a) o P e h = tt
none_before f None o P e h = subst (λ o. IfNone o P) (sym e) h

-- what holds of an optional value mapped
pub some_before : {A B : Type 0} (f : A → B) (x : Option A) (o : Option B) (P : B → Type 0) → option_map f x ≡ o → IfSome o P → IfSome x (λ a. P (f a))
some_before f None o P e h = tt
some_before f (Some a) o P e h = subst (λ o. IfSome o P) (sym e) h

-- the child of a valid value is valid
pub child_valid : (t : TypeTree) (v : RawTree) → is_of_union t v ≡ true → Valid t v → IfSome (child_of t v) IsValidPart
child_valid (union_type names ts ids n) absent kind valid = tt
child_valid (union_type names ts ids n) (raw_union id v) kind valid = has (type_with id ids ts) valid
  where
    has : (o : Option TypeTree) → HasType o (λ u. ValidAt (storage u) v) → IfSome (option_map (λ t. (t, v)) o) IsValidPart
    has None h = tt
    has (Some u) h = h
child_valid t v kind valid = cc

-- the child is of the type that is chosen
pub child_of_type : (t : TypeTree) (v w : RawTree) (id : ℕ) (u : TypeTree) → v ≡ raw_union id w → chosen_type t v ≡ Some u → child_of t v ≡ Some (u, w)
child_of_type t v w id u is h = subst (λ x. chosen_type t x ≡ Some u → child_of t x ≡ Some (u, w)) (sym is) (at t) h
  where
    at : (t : TypeTree) → chosen_type t (raw_union id w) ≡ Some u → child_of t (raw_union id w) ≡ Some (u, w)
    at (union_type names ts ids n) h = ap (option_map (λ t. (t, w))) h
    at t h = cc

pub ruleset steps = (valid_is_union, type_at_place, name_at_place, name_there, child_valid, child_of_type, some_before)
