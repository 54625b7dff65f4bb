-- The fields of structs: found by place and by name, and valid where the struct is.
use Rattle.std.proofs.Common.{◌≡◌, ℕ, zero, suc, true, false, List, [], ◌∷◌, map, length, Option, Some, None, option_map, slice_get, IfSome, Result, Ok, Err, IfOk, MatchResult, Vec, Global, min, refl, sym, ap, ◌∙◌, subst, rules, arith, option_and_then}
use Rattle.std.proofs.lemmas.List.Elements.{All-cons, All-nil}
use Rattle.std.proofs.lemmas.Option.{same_Some}
use Rattle.std.specs.List.{All, zip}
use Rattle.vortex_dtype.specs.Lemmas.TypeLevels.{type_of-Struct}
use Rattle.vortex_dtype.specs.Parts.{IsProjection, field_index, fields_in, listed_types, type_named}
use Rattle.vortex_dtype.specs.TypeOf.{FieldParts, as_type_trees, fields_of, struct_type_of, type_of}
use Rattle.vortex_dtype.specs.TypeTree.{TypeTree, TypeTrees, no_types, type_then, struct_type, nullability_of}
use Rattle.vortex_dtype.specs.declared.error.VortexError.{VortexError}
use Rattle.vortex_dtype.specs.declared.error.VortexError.TheVariants.{OutOfMemory}
use Rattle.vortex_dtype.specs.declared.nullability.Nullability.{Nullability}
use Rattle.vortex_dtype.specs.declared.types.DType.{DType, Struct}
use Rattle.vortex_dtype.specs.declared.types.StructFields.{StructFields}
use Rattle.vortex_value.specs.Validity.{FieldsValid, Valid}
use Rattle.vortex_value.specs.Values.RawKinds.{IsTupleValue}
use Rattle.vortex_value.specs.Values.RawOf.{raw_of, raw_or_absent, value_tree, value_trees}
use Rattle.vortex_value.specs.Values.RawTree.{RawTree, absent, raw_bool, raw_integer, raw_text, raw_bytes, raw_tuple, raw_union, raw_variant, RawTrees, no_raws, raw_then, is_absent}
use Rattle.vortex_value.specs.Values.Refs.{IsValidRef}
use Rattle.vortex_value.specs.Values.Scalars.{IsValid, scalar_raw, scalar_type}
use Rattle.vortex_value.specs.declared.refs.ScalarRef.{ScalarRef}
use Rattle.vortex_value.specs.declared.scalars.Scalar.{Scalar}
use Rattle.vortex_value.specs.declared.values.ScalarValue.{ScalarValue, Tuple, the_lemmas}
use Rattle.vortex_views.proofs.PartSteps.{lent-valid, parts_of-Tuple}
use Rattle.vortex_views.specs.Parts.{IsValidPart, Part, listed_raws, parts_of, ref_part}
use Rattle.vortex_views.specs.StructParts.{IsProjectedType, IsProjectedValue, field_named, fields_within, value_named}

-- at a place of pairs
pub zip-past : {A B : Type 0} (xs : List A) (ys : List B) (i : ℕ) → slice_get xs i ≡ None → slice_get (zip xs ys) i ≡ None
zip-past [] ys i e = refl
zip-past (x ∷ xs) [] i e = refl
zip-past (x ∷ xs) (y ∷ ys) zero e = cc
zip-past (x ∷ xs) (y ∷ ys) (suc i) e = zip-past xs ys i e

pub zip-at : {A B : Type 0} (xs : List A) (ys : List B) (i : ℕ) (x : A) → slice_get xs i ≡ Some x → slice_get (zip xs ys) i ≡ option_map (λ y. (x, y)) (slice_get ys i)
zip-at [] ys i x e = cc
zip-at (w ∷ xs) [] i x e = refl
zip-at (w ∷ xs) (y ∷ ys) zero x e = rw (same_Some w x e) refl
zip-at (w ∷ xs) (y ∷ ys) (suc i) x e = zip-at xs ys i x e

-- the fields of a struct's value, by what its type and its value hold
pub within : (f : FieldParts) (t : TypeTree) (v : RawTree) (raws : List RawTree) → Some f ≡ fields_in t → raws ≡ parts_of v → zip f.types raws ≡ fields_within (t, v)
within f t v raws k r = rw (← k, r) refl

-- the field with the name, by its place
pub at_named_place : (f : FieldParts) (t : TypeTree) (v : RawTree) (name : List ℕ) (i : ℕ) → Some f ≡ fields_in t → field_index f name ≡ Some i
    → slice_get (fields_within (t, v)) i ≡ field_named (t, v) name
at_named_place f t v name i held found =
    sym (ap (option_and_then (slice_get (fields_within (t, v)))) (subst (λ o. option_and_then (λ g. field_index g name) o ≡ Some i) held found))

pub no_such_name : (f : FieldParts) (t : TypeTree) (v : RawTree) (name : List ℕ) → Some f ≡ fields_in t → field_index f name ≡ None
    → None ≡ field_named (t, v) name
no_such_name f t v name held missing =
    sym (ap (option_and_then (slice_get (fields_within (t, v)))) (subst (λ o. option_and_then (λ g. field_index g name) o ≡ None) held missing))

-- as many fields are left as there are both types and values
pub fields_left-count : (ts : List DType) (vs : List (Option ScalarValue)) → length (zip (map type_of ts) (map raw_of vs)) ≡ min (length ts) (length vs)
fields_left-count [] vs = omega arith
fields_left-count (t ∷ ts) [] = omega arith
fields_left-count (t ∷ ts) (v ∷ vs) = omega (arith, fields_left-count ts vs)

pub ruleset counted = (fields_left-count)

-- the fields of a valid struct are valid
all-valid : (ts : TypeTrees) (vs : RawTrees) → FieldsValid ts vs → All IsValidPart (zip (listed_types ts) (listed_raws vs))
all-valid no_types no_raws h = All-nil IsValidPart
all-valid (type_then t ts) (raw_then v vs) h = All-cons IsValidPart (t, v) (zip (listed_types ts) (listed_raws vs)) h.0 (all-valid ts vs h.1)
all-valid _ _ h = absurd h

each-valid : (ts : TypeTrees) (vs : RawTrees) (i : ℕ) → FieldsValid ts vs → IfSome (slice_get (zip (listed_types ts) (listed_raws vs)) i) IsValidPart
each-valid no_types no_raws i h = tt
each-valid (type_then t ts) (raw_then v vs) zero h = h.0
each-valid (type_then t ts) (raw_then v vs) (suc i) h = each-valid ts vs i h.1
each-valid _ _ i h = absurd h

zip-nothing : {A B : Type 0} (xs : List A) → zip {X = B} xs [] ≡ []
zip-nothing [] = refl
zip-nothing (x ∷ xs) = refl

-- p holds of the fields of a struct's value where it holds of those of a tuple, and of none
by-tuple : (p : List Part → Type 0) (ns : List (List ℕ)) (ts : TypeTrees) (n : Nullability) (v : RawTree) → p []
    → ((vs : RawTrees) → FieldsValid ts vs → p (zip (listed_types ts) (listed_raws vs))) → Valid (struct_type ns ts n) v → p (fields_within (struct_type ns ts n, v))
by-tuple p ns ts n (raw_tuple vs) none some h = some vs h
by-tuple p ns ts n absent none some h = subst p (sym (zip-nothing (listed_types ts))) none
by-tuple p ns ts n _ none some h = absurd h

by-struct : (p : List Part → Type 0) (t : TypeTree) (v : RawTree) → p []
    → ((ts : TypeTrees) (vs : RawTrees) → FieldsValid ts vs → p (zip (listed_types ts) (listed_raws vs))) → Valid t v → p (fields_within (t, v))
by-struct p (struct_type ns ts n) v none some h = by-tuple p ns ts n v none (some ts) h
by-struct p _ v none some h = none

pub fields-valid : (t : TypeTree) (v : RawTree) → Valid t v → All IsValidPart (fields_within (t, v))
fields-valid t v h = by-struct (All IsValidPart) t v (All-nil IsValidPart) all-valid h

-- the fields that are left of a valid struct are valid
pub left-valid : (left : List Part) (types : List TypeTree) (f : FieldParts) (t : TypeTree) (v : RawTree) (raws : List RawTree)
    → left ≡ zip types raws → types ≡ f.types → raws ≡ parts_of v → Some f ≡ fields_in t → Valid t v → All IsValidPart left
left-valid left types f t v raws l s r k h = subst (All IsValidPart) (sym (l ∙ ap (λ us. zip us raws) s ∙ within f t v raws k r)) (fields-valid t v h)

-- a field of a valid struct that is lent is valid
pub lent_field-valid : (lent : Option ScalarRef) (f : FieldParts) (t : TypeTree) (v : RawTree) (raws : List RawTree) (i : ℕ)
    → option_map ref_part lent ≡ slice_get (zip f.types raws) i → raws ≡ parts_of v → Some f ≡ fields_in t → Valid t v → IfSome lent IsValidRef
lent_field-valid lent f t v raws i l r k h =
    lent-valid lent (slice_get (fields_within (t, v)) i) (l ∙ ap (λ ps. slice_get ps i) (within f t v raws k r))
    (by-struct (λ ps. IfSome (slice_get ps i) IsValidPart) t v tt (λ ts vs k. each-valid ts vs i k) h)

value_tree-Tuple : (vs : Vec (Option ScalarValue) Global) → value_tree (Tuple vs) ≡ raw_tuple (value_trees vs.items)
value_tree-Tuple vs = search (rules, the_lemmas)

is-tuple : (vs : Vec (Option ScalarValue) Global) → IsTupleValue (value_tree (Tuple vs))
is-tuple vs = rw (value_tree-Tuple vs) tt

-- the null of a projection, and its values
pub projected-null : (held : Option FieldParts) (names : List (List ℕ)) (v : RawTree) → is_absent v ≡ true → IfSome held (λ f. IsProjectedValue f names v absent)
projected-null None names v e = tt
projected-null (Some f) names absent e = refl
projected-null (Some f) names (raw_bool b) e = cc
projected-null (Some f) names (raw_integer k z) e = cc
projected-null (Some f) names (raw_text bs) e = cc
projected-null (Some f) names (raw_bytes bs) e = cc
projected-null (Some f) names (raw_tuple vs) e = cc
projected-null (Some f) names (raw_union id v) e = cc
projected-null (Some f) names (raw_variant t v) e = cc

of-present : (f : FieldParts) (names : List (List ℕ)) (v w : RawTree) → is_absent v ≡ false → IsTupleValue w → parts_of w ≡ map (value_named f v) names → IsProjectedValue f names v w
of-present f names absent w e a b = cc
of-present f names (raw_bool x) w e a b = (a, b)
of-present f names (raw_integer k z) w e a b = (a, b)
of-present f names (raw_text bs) w e a b = (a, b)
of-present f names (raw_bytes bs) w e a b = (a, b)
of-present f names (raw_tuple vs) w e a b = (a, b)
of-present f names (raw_union id v) w e a b = (a, b)
of-present f names (raw_variant t v) w e a b = (a, b)

pub projected-tuple : (held : Option FieldParts) (f : FieldParts) (names : List (List ℕ)) (v w : RawTree) (vs : Vec (Option ScalarValue) Global)
    → Some f ≡ held → is_absent v ≡ false → w ≡ v → map raw_of vs.items ≡ map (value_named f w) names → IfSome held (λ f. IsProjectedValue f names v (value_tree (Tuple vs)))
projected-tuple held f names v w vs k e r m =
    subst (λ o. IfSome o (λ f. IsProjectedValue f names v (value_tree (Tuple vs)))) k (of-present f names v (value_tree (Tuple vs)) e (is-tuple vs) same)
  where
    same : parts_of (value_tree (Tuple vs)) ≡ map (value_named f v) names
    same = parts_of-Tuple vs ∙ m ∙ ap (λ x. map (value_named f x) names) r

-- the value at the place of a type is valid for the type
at-place : (ts : TypeTrees) (vs : RawTrees) (i : ℕ) (u : TypeTree) → FieldsValid ts vs → slice_get (listed_types ts) i ≡ Some u → Valid u (raw_or_absent (slice_get (listed_raws vs) i))
at-place no_types no_raws i u h e = cc
at-place (type_then t ts) (raw_then v vs) zero u h e = subst (λ s. Valid s v) (same_Some t u e) h.0
at-place (type_then t ts) (raw_then v vs) (suc i) u h e = at-place ts vs i u h.1 e
at-place _ _ i u h e = absurd h

found-valid : (ts : TypeTrees) (vs : RawTrees) (o : Option ℕ) (u : TypeTree) → FieldsValid ts vs → option_and_then (slice_get (listed_types ts)) o ≡ Some u
    → Valid u (raw_or_absent (option_and_then (slice_get (listed_raws vs)) o))
found-valid ts vs None u h e = cc
found-valid ts vs (Some i) u h e = at-place ts vs i u h e

module _ (ns : List (List ℕ)) (ts : TypeTrees) where
  abbrev own : FieldParts
  own = record { names = ns; types = listed_types ts }

  projected_fields-valid : (vs : RawTrees) → FieldsValid ts vs → (names : List (List ℕ)) (us : List TypeTree) (ws : RawTrees)
      → map (type_named own) names ≡ map Some us → listed_raws ws ≡ map (value_named own (raw_tuple vs)) names → FieldsValid (as_type_trees us) ws
  projected_fields-valid vs h [] [] no_raws a b = tt
  projected_fields-valid vs h [] (u ∷ us) ws a b = cc
  projected_fields-valid vs h [] [] (raw_then w ws) a b = cc
  projected_fields-valid vs h (x ∷ xs) [] ws a b = cc
  projected_fields-valid vs h (x ∷ xs) (u ∷ us) no_raws a b = cc
  projected_fields-valid vs h (x ∷ xs) (u ∷ us) (raw_then w ws) a b =
      let first : type_named own x ≡ Some u = cc in
      let value : w ≡ value_named own (raw_tuple vs) x = cc in
      let types : map (type_named own) xs ≡ map Some us = cc in
      let values : listed_raws ws ≡ map (value_named own (raw_tuple vs)) xs = cc in (
        subst (λ y. Valid u y) (sym value) (found-valid ts vs (field_index own x) u h first),
        projected_fields-valid vs h xs us ws types values,
      )

  projected_tuple-valid : (n : Nullability) (vs : RawTrees) (names : List (List ℕ)) (g : FieldParts) (w : RawTree) → FieldsValid ts vs → IsProjection own names g
      → IsTupleValue w → parts_of w ≡ map (value_named own (raw_tuple vs)) names → Valid (struct_type_of g n) w
  projected_tuple-valid n vs names g (raw_tuple ws) h p a b = projected_fields-valid vs h names g.types ws p.1 b
  projected_tuple-valid n vs names g _ h p a b = absurd a

  projected_value-valid : (n : Nullability) (v : RawTree) (names : List (List ℕ)) (g : FieldParts) (w : RawTree) → Valid (struct_type ns ts n) v → IsProjection own names g
      → IsProjectedValue own names v w → Valid (struct_type_of g n) w
  projected_value-valid n absent names g w h p q = subst (Valid (struct_type_of g n)) (sym q) h
  projected_value-valid n (raw_tuple vs) names g w h p q = projected_tuple-valid n vs names g w h p q.0 q.1
  projected_value-valid n _ names g w h p q = absurd h

-- a projection of a valid struct is valid
of-held : (t : TypeTree) (v : RawTree) (names : List (List ℕ)) (f g : FieldParts) (w : RawTree) → Some f ≡ fields_in t → IsProjection f names g
    → IfSome (fields_in t) (λ f. IsProjectedValue f names v w) → Valid t v → Valid (struct_type_of g (nullability_of t)) w
of-held (struct_type ns ts n) v names f g w k p q h =
    let same : f ≡ record { names = ns; types = listed_types ts } = same_Some _ _ k in
    projected_value-valid ns ts n v names g w h (subst (λ o. IsProjection o names g) same p) q
of-held _ v names f g w k p q h = cc

-- what a projection made, by its type and its value
pub projected-type : (fields : StructFields) (n : Nullability) (d t : TypeTree) (f : FieldParts) (names : List (List ℕ)) → Some f ≡ fields_in t → IsProjection f names (fields_of fields)
    → n ≡ nullability_of d → d ≡ t → IsProjectedType t names (type_of (Struct fields n))
projected-type fields n d t f names k p e q = record {
  own = f;
  selected = fields_of fields;
  held = sym k;
  projection = p;
  typed = type_of-Struct fields n ∙ ap (struct_type_of (fields_of fields)) (e ∙ ap nullability_of q);
}

-- the scalar of this type and of what was made of its value, or why none was made
abbrev pub IsWithValue : DType → Result (Option ScalarValue) VortexError → Result Scalar VortexError → Type 0
IsWithValue d o r = MatchResult o (λ v. r ≡ Ok (record { dtype = d; value = v })) (λ e. r ≡ Err e)

pub made-typed : (d : DType) (o : Result (Option ScalarValue) VortexError) (r : Result Scalar VortexError) (t : TypeTree) (names : List (List ℕ)) → IsWithValue d o r
    → IsProjectedType t names (type_of d) → IfOk r (λ s. IsProjectedType t names (scalar_type s))
made-typed d (Ok v) r t names h p = rw h p
made-typed d (Err e) r t names h p = rw h tt

pub made-value : (d : DType) (o : Result (Option ScalarValue) VortexError) (r : Result Scalar VortexError) (p : RawTree → Type 0) → IsWithValue d o r
    → MatchResult o (λ made. p (raw_of made)) (λ e. e ≡ OutOfMemory) → IfOk r (λ s. p (scalar_raw s))
made-value d (Ok v) r p h m = rw h m
made-value d (Err e) r p h m = rw h tt

pub made-valid : (r : Result Scalar VortexError) (t : TypeTree) (v : RawTree) (names : List (List ℕ)) → IfOk r (λ s. IsProjectedType t names (scalar_type s))
    → IfOk r (λ s. IfSome (fields_in t) (λ f. IsProjectedValue f names v (scalar_raw s))) → Valid t v → IfOk r IsValid
made-valid (Ok s) t v names p q h =
    subst (λ u. Valid u (scalar_raw s)) (sym p.typed) (of-held t v names p.own p.selected (scalar_raw s) (sym p.held) p.projection q h)
made-valid (Err e) t v names p q h = tt
