-- A zero is zero, and where there is no variant the only zero; a default exists, and is null exactly where a null is taken.
use Rattle.std.proofs.Common.{◌≡◌, ◌↔◌, ◌==◌, ℕ, zero, suc, pos, Bool, true, false, List, [], ◌∷◌, length, Option, Some, None, option_map, unwrap_or, if◌then◌else◌, refl, sym, ap, ◌∙◌, true≢false, eq-eqb}
use Rattle.std.specs.Cmp.{first_so, second_so}
use Rattle.std.specs.Prelude.{IsSome}
use Rattle.std.proofs.lemmas.Bool.{and_from, not-true}
use Rattle.std.proofs.lemmas.Bool.Decides.{Decides-eqb, Decides-int_eq}
use Rattle.std.proofs.lemmas.List.{nil_from_length}
use Rattle.std.proofs.lemmas.Option.{same_Some}
use Rattle.vortex_dtype.specs.TypeTree.{TypeTree, null_type, bool_type, integer_type, utf8_type, binary_type, list_type, fixed_size_list_type, map_type, struct_type, union_type, variant_type, extension_type, TypeTrees, no_types, type_then, IsNullable, storage}
use Rattle.vortex_dtype.specs.declared.nullability.Nullability.{Nullability}
use Rattle.vortex_dtype.specs.declared.nullability.Nullability.TheVariants.{NonNullable, Nullable}
use Rattle.vortex_value.specs.Casts.{IsNull}
use Rattle.vortex_value.specs.Values.Content.{Content, null, sequence, tagged, Contents, no_contents, content_then, content, contents}
use Rattle.vortex_value.specs.Values.RawTree.{RawTree, absent, raw_bool, raw_integer, raw_text, raw_bytes, raw_tuple, raw_union, raw_variant, RawTrees, no_raws, raw_then, count}
use Rattle.vortex_value.specs.TypesWithin.{HasNoVariant, HaveNoVariant, UnionsHaveVariants, AllHaveVariants}
use Rattle.vortex_value.specs.Validity.{Valid, ValidAt, EachValid, FieldsValid, HasType, type_with}
use Rattle.vortex_value.specs.Zero.{filling, fillings, null_or, repeated, places_of, and_rest, has_no_places, of_first, is_zero_at, each_zero, fields_zero, is_zero_of, ZeroIsZero, DefaultExists}
use Rattle.vortex_value.proofs.FillingLaws.{filling-storage, filling-valid, no_places}
use Rattle.vortex_value.proofs.FillingSteps.{is_some-and_rest, is_some-option_map}
use Rattle.vortex_value.proofs.OrderAgrees.{no_variant-storage}

-- what fills a type is null only where a null is taken

abbrev NeverNull : Option Content → Type 0
NeverNull o = (d : Content) → o ≡ Some d → ¬ (IsNull d)

a_present : (c : Content) → ¬ (IsNull c) → NeverNull (Some c)
a_present c p d h k = p (let e : c ≡ d = cc in rw e k)

no_content : NeverNull None
no_content d h k = cc

places_present : (size : ℕ) (o : Option Content) → NeverNull (places_of size o)
places_present size (Some c) = a_present _ (λ h. h)
places_present zero None = a_present _ (λ h. h)
places_present (suc n) None = no_content

fields_present : (o : Option Contents) → NeverNull (option_map sequence o)
fields_present (Some cs) = a_present _ (λ h. h)
fields_present None = no_content

child_present : (id : ℕ) (o : Option Content) → NeverNull (option_map (tagged id) o)
child_present id (Some c) = a_present _ (λ h. h)
child_present id None = no_content

zero_present : (t : TypeTree) → NeverNull (filling false t)
zero_present null_type = no_content
zero_present (bool_type n) = a_present _ (λ h. h)
zero_present (integer_type k n) = a_present _ (λ h. h)
zero_present (utf8_type n) = a_present _ (λ h. h)
zero_present (binary_type n) = a_present _ (λ h. h)
zero_present (list_type e n) = a_present _ (λ h. h)
zero_present (map_type k w sorted n) = a_present _ (λ h. h)
zero_present (fixed_size_list_type e size n) = places_present size _
zero_present (struct_type names ts n) = fields_present _
zero_present (union_type names (type_then t ts) (id ∷ ids) n) = child_present id _
zero_present (union_type names ts ids n) = no_content
zero_present (variant_type n) = a_present _ (λ h. h)
zero_present (extension_type id metadata t) = zero_present t

abbrev NullExactly : Nullability → Option Content → Type 0
NullExactly n o = (c : Content) → o ≡ Some c → IsNull c ↔ (n ≡ Nullable)

null_exactly : (n : Nullability) (other : Option Content) → NeverNull other → NullExactly n (null_or true n other)
null_exactly Nullable other p c h = (λ k. refl, λ k. let e : null ≡ c = cc in rw (← e) tt)
null_exactly NonNullable other p c h = (λ k. absurd (p c h k), λ k. cc)

default_null : (t : TypeTree) (c : Content) → filling true t ≡ Some c → IsNull c ↔ IsNullable t
default_null null_type = null_exactly Nullable _ no_content
default_null (bool_type n) = null_exactly n _ (a_present _ (λ h. h))
default_null (integer_type k n) = null_exactly n _ (a_present _ (λ h. h))
default_null (utf8_type n) = null_exactly n _ (a_present _ (λ h. h))
default_null (binary_type n) = null_exactly n _ (a_present _ (λ h. h))
default_null (list_type e n) = null_exactly n _ (a_present _ (λ h. h))
default_null (map_type k w sorted n) = null_exactly n _ (a_present _ (λ h. h))
default_null (fixed_size_list_type e size n) = null_exactly n _ (places_present size _)
default_null (struct_type names ts n) = null_exactly n _ (fields_present _)
default_null (union_type names (type_then t ts) (id ∷ ids) n) = null_exactly n _ (child_present id _)
default_null (union_type names ts ids n) = null_exactly n _ no_content
default_null (variant_type n) = null_exactly n _ (a_present _ (λ h. h))
default_null (extension_type id metadata t) = default_null t

-- a default exists

or_exists : (n : Nullability) (other : Option Content) → IsSome other → IsSome (null_or true n other)
or_exists Nullable other h = refl
or_exists NonNullable other h = h

places_exist : (size : ℕ) (o : Option Content) → IsSome o → IsSome (places_of size o)
places_exist size (Some c) h = refl
places_exist size None h = absurd (true≢false (sym h))

mutual
  default_exists_for : (t : TypeTree) → UnionsHaveVariants t → IsSome (filling true t)
  default_exists_for null_type u = refl
  default_exists_for (bool_type n) u = or_exists n _ refl
  default_exists_for (integer_type k n) u = or_exists n _ refl
  default_exists_for (utf8_type n) u = or_exists n _ refl
  default_exists_for (binary_type n) u = or_exists n _ refl
  default_exists_for (list_type e n) u = or_exists n _ refl
  default_exists_for (map_type k w sorted n) u = or_exists n _ refl
  default_exists_for (fixed_size_list_type e size n) u = or_exists n _ (places_exist size _ (default_exists_for e u))
  default_exists_for (struct_type names ts n) u = or_exists n _ (is_some-option_map sequence (fillings true ts) ∙ defaults_exist ts u)
  default_exists_for (union_type names (type_then t ts) (id ∷ ids) n) u = or_exists n _ (is_some-option_map (tagged id) (filling true t) ∙ default_exists_for t u.0)
  default_exists_for (union_type names ts ids n) u = absurd u
  default_exists_for (variant_type n) u = or_exists n _ refl
  default_exists_for (extension_type id metadata t) u = default_exists_for t u

  defaults_exist : (ts : TypeTrees) → AllHaveVariants ts → IsSome (fillings true ts)
  defaults_exist no_types u = refl
  defaults_exist (type_then t ts) u = is_some-and_rest (filling true t) (fillings true ts) ∙ and_from _ _ (default_exists_for t u.0) (defaults_exist ts u.1)

pub default_exists : DefaultExists
default_exists = record { exists = default_exists_for; valid = filling-valid true; null_exactly = default_null }

-- a zero is zero

abbrev ZeroAt : TypeTree → Option Content → Type 0
ZeroAt t o = (c : Content) → o ≡ Some c → is_zero_at t c ≡ Some true

a_zero : (t : TypeTree) (d : Content) → is_zero_at t d ≡ Some true → ZeroAt t (Some d)
a_zero t d z c h = let e : d ≡ c = cc in rw (← e) z

no_zero : (t : TypeTree) → ZeroAt t None
no_zero t c h = cc

repeated_zero : (e : TypeTree) (c : Content) → is_zero_at (storage e) c ≡ Some true → (size : ℕ) → each_zero e (repeated size c) ≡ true
repeated_zero e c z zero = refl
repeated_zero e c z (suc n) = rw z (repeated_zero e c z n)

places_zero : (e : TypeTree) (size : ℕ) (n : Nullability) (o : Option Content) → ZeroAt (storage e) o → ZeroAt (fixed_size_list_type e size n) (places_of size o)
places_zero e size n (Some d) z = a_zero (fixed_size_list_type e size n) _ (ap Some (repeated_zero e d (z d refl) size))
places_zero e zero n None z = a_zero (fixed_size_list_type e 0 n) _ refl
places_zero e (suc k) n None z = no_zero (fixed_size_list_type e (suc k) n)

abbrev FieldsZero : TypeTrees → Option Contents → Type 0
FieldsZero ts o = (cs : Contents) → o ≡ Some cs → fields_zero ts cs ≡ true

struct_zero : (names : List (List ℕ)) (ts : TypeTrees) (n : Nullability) (o : Option Contents) → FieldsZero ts o → ZeroAt (struct_type names ts n) (option_map sequence o)
struct_zero names ts n (Some cs) z = a_zero (struct_type names ts n) _ (ap Some (z cs refl))
struct_zero names ts n None z = no_zero (struct_type names ts n)

union_zero : (names : List (List ℕ)) (t : TypeTree) (ts : TypeTrees) (id : ℕ) (ids : List ℕ) (n : Nullability) (o : Option Content) → ZeroAt (storage t) o
    → ZeroAt (union_type names (type_then t ts) (id ∷ ids) n) (option_map (tagged id) o)
union_zero names t ts id ids n (Some d) z = a_zero (union_type names (type_then t ts) (id ∷ ids) n) _ (rw (eq-eqb id id refl) (z d refl))
union_zero names t ts id ids n None z = no_zero (union_type names (type_then t ts) (id ∷ ids) n)

rest_zero : (t : TypeTree) (ts : TypeTrees) (o : Option Content) (p : Option Contents) → ZeroAt (storage t) o → FieldsZero ts p → FieldsZero (type_then t ts) (and_rest o p)
rest_zero t ts (Some c) (Some cs) z zs ds h =
    let e : content_then c cs ≡ ds = cc in
    rw (← e, z c refl) (zs cs refl)
rest_zero t ts (Some c) None z zs ds h = cc
rest_zero t ts None p z zs ds h = cc

mutual
  zero_is_zero_at : (t : TypeTree) → ZeroAt (storage t) (filling false t)
  zero_is_zero_at null_type = no_zero null_type
  zero_is_zero_at (bool_type n) = a_zero (bool_type n) _ refl
  zero_is_zero_at (integer_type k n) = a_zero (integer_type k n) _ refl
  zero_is_zero_at (utf8_type n) = a_zero (utf8_type n) _ refl
  zero_is_zero_at (binary_type n) = a_zero (binary_type n) _ refl
  zero_is_zero_at (list_type e n) = a_zero (list_type e n) _ refl
  zero_is_zero_at (map_type k w sorted n) = a_zero (map_type k w sorted n) _ refl
  zero_is_zero_at (fixed_size_list_type e size n) = places_zero e size n _ (zero_is_zero_at e)
  zero_is_zero_at (struct_type names ts n) = struct_zero names ts n _ (zeros_are_zero ts)
  zero_is_zero_at (union_type names (type_then t ts) (id ∷ ids) n) = union_zero names t ts id ids n _ (zero_is_zero_at t)
  zero_is_zero_at (union_type names ts ids n) = no_zero (union_type names ts ids n)
  zero_is_zero_at (variant_type n) = a_zero (variant_type n) _ refl
  zero_is_zero_at (extension_type id metadata t) = zero_is_zero_at t

  zeros_are_zero : (ts : TypeTrees) → FieldsZero ts (fillings false ts)
  zeros_are_zero no_types cs h = let e : no_contents ≡ cs = cc in rw (← e) refl
  zeros_are_zero (type_then t ts) cs h = rest_zero t ts _ _ (zero_is_zero_at t) (zeros_are_zero ts) cs h

-- only the zero is zero

sure : (o : Option Bool) → unwrap_or o false ≡ true → o ≡ Some true
sure None h = absurd (true≢false (sym h))
sure (Some b) h = ap Some h

no_parts : (vs : RawTrees) → has_no_places (contents vs) ≡ true → contents vs ≡ no_contents
no_parts no_raws h = refl
no_parts (raw_then v vs) h = absurd (true≢false (sym h))

-- the first variant, if the union's value is zero
of_first_true : (names : List (List ℕ)) (ids : List ℕ) (ts : TypeTrees) (n : Nullability) (id : ℕ) (v : RawTree)
    → ((t : TypeTree) → HasNoVariant t → Valid t v → is_zero_of t (content v) ≡ Some true → filling false t ≡ Some (content v))
    → HaveNoVariant ts → HasType (type_with id ids ts) (λ t. Valid t v) → of_first ids ts id (λ t. is_zero_of t (content v)) ≡ Some true
    → filling false (union_type names ts ids n) ≡ Some (tagged id (content v))
of_first_true names [] ts n id v go m valid h = absurd valid
of_first_true names (i ∷ ids) no_types n id v go m valid h = absurd valid
of_first_true names (i ∷ ids) (type_then t ts) n id v go m valid h = by_test (i == id) refl valid h
  where
    by_test : (b : Bool) → (i == id) ≡ b → HasType (if b then Some t else type_with id ids ts) (λ u. Valid u v) → (if b then is_zero_of t (content v) else Some false) ≡ Some true
        → option_map (tagged i) (filling false t) ≡ Some (tagged id (content v))
    by_test true e p z =
        let same : i ≡ id = (Decides-eqb i id).0 e in
        rw (go t m.0 p z, same)
    by_test false e p z = cc

elements_zero : (e : TypeTree) (c : Content) (vs : RawTrees) → filling false e ≡ Some c → contents vs ≡ repeated (count vs) c → places_of (count vs) (filling false e) ≡ Some (sequence (contents vs))
elements_zero e c vs f same = rw (f, same)

mutual
  only_zero : (v : RawTree) (t : TypeTree) → HasNoVariant t → ValidAt t v → is_zero_at t (content v) ≡ Some true → filling false t ≡ Some (content v)
  only_zero absent t m p h = cc
  only_zero (raw_bool b) (bool_type n) m p h = let e : b ≡ false = not-true b (same_Some _ _ h) in rw e
  only_zero (raw_integer k z) (integer_type l n) m p h = let e : z ≡ pos 0 = (Decides-int_eq z (pos 0)).0 (same_Some _ _ h) in rw e
  only_zero (raw_text bs) (utf8_type n) m p h = let e : bs ≡ [] = nil_from_length bs ((Decides-eqb (length bs) 0).0 (same_Some _ _ h)) in rw e
  only_zero (raw_bytes bs) (binary_type n) m p h = let e : bs ≡ [] = nil_from_length bs ((Decides-eqb (length bs) 0).0 (same_Some _ _ h)) in rw e
  only_zero (raw_tuple vs) (list_type e n) m p h = let none : contents vs ≡ no_contents = no_parts vs (same_Some _ _ h) in rw none
  only_zero (raw_tuple vs) (map_type k w sorted n) m p h = let none : contents vs ≡ no_contents = no_parts vs (same_Some _ _ h) in rw none
  only_zero (raw_tuple vs) (fixed_size_list_type e size n) m p h =
      rw (← p.0) (only_zeros vs e m p.1 (same_Some _ _ h))
  only_zero (raw_tuple vs) (struct_type names ts n) m p h = ap (option_map sequence) (only_fields vs ts m p (same_Some _ _ h))
  only_zero (raw_union id v) (union_type names ts ids n) m p h =
      of_first_true names ids ts n id v (λ t k valid z. sym (filling-storage false t) ∙ only_zero v (storage t) (no_variant-storage t k) valid z) m p h
  only_zero (raw_variant u v) (variant_type n) m p h = absurd m
  only_zero _ _ m p h = absurd p

  only_zeros : (vs : RawTrees) (e : TypeTree) → HasNoVariant e → EachValid e vs → each_zero e (contents vs) ≡ true → places_of (count vs) (filling false e) ≡ Some (sequence (contents vs))
  only_zeros no_raws e m p h = no_places (filling false e)
  only_zeros (raw_then v vs) e m p h =
      let first : filling false e ≡ Some (content v) = sym (filling-storage false e) ∙ only_zero v (storage e) (no_variant-storage e m) p.0 (sure _ (first_so _ _ h)) in
      elements_zero e (content v) (raw_then v vs) first (ap (content_then (content v)) (all_the_same vs e (content v) first m p.1 (second_so _ _ h)))

  all_the_same : (vs : RawTrees) (e : TypeTree) (c : Content) → filling false e ≡ Some c → HasNoVariant e → EachValid e vs → each_zero e (contents vs) ≡ true → contents vs ≡ repeated (count vs) c
  all_the_same no_raws e c f m p h = refl
  all_the_same (raw_then v vs) e c f m p h =
      let one : filling false e ≡ Some (content v) = sym (filling-storage false e) ∙ only_zero v (storage e) (no_variant-storage e m) p.0 (sure _ (first_so _ _ h)) in
      let same : content v ≡ c = cc in
      let rest : contents vs ≡ repeated (count vs) c = all_the_same vs e c f m p.1 (second_so _ _ h) in
      rw (same, rest)

  only_fields : (vs : RawTrees) (ts : TypeTrees) → HaveNoVariant ts → FieldsValid ts vs → fields_zero ts (contents vs) ≡ true → fillings false ts ≡ Some (contents vs)
  only_fields no_raws no_types m p h = refl
  only_fields (raw_then v vs) (type_then t ts) m p h =
      let one : filling false t ≡ Some (content v) = sym (filling-storage false t) ∙ only_zero v (storage t) (no_variant-storage t m.0) p.0 (sure _ (first_so _ _ h)) in
      let rest : fillings false ts ≡ Some (contents vs) = only_fields vs ts m.1 p.1 (second_so _ _ h) in
      rw (one, rest)
  only_fields _ _ m p h = absurd p

pub zero_is_zero : ZeroIsZero
zero_is_zero = record {
  valid = filling-valid false;
  present = zero_present;
  is_zero = zero_is_zero_at;
  only = λ t v m p h. sym (filling-storage false t) ∙ only_zero v (storage t) (no_variant-storage t m) p h;
}
