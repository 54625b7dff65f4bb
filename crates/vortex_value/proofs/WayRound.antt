-- Between types without extensions what is alike is allowed, so a chain leads no further than one cast.
use Rattle.std.proofs.Common.{◌≡◌, ◌==◌, ℕ, ℤ, Bool, true, false, if◌then◌else◌, List, [], ◌∷◌, Option, Some, None, ◌⊎◌, inl, inr, refl, subst, rules}
use Rattle.vortex_dtype.specs.TypeTree.{TypeTree, null_type, bool_type, integer_type, utf8_type, binary_type, list_type, fixed_size_list_type, map_type, struct_type, union_type, extension_type, TypeTrees, no_types, type_then, storage}
use Rattle.vortex_dtype.specs.declared.nullability.Nullability.{Nullability}
use Rattle.vortex_value.specs.Laws.CastLaws.{HasNoNull, HaveNoNull, NoCallFurther, NoWayRound}
use Rattle.vortex_value.specs.Casts.{Sorts, EachPlace, EachEntry, same_type, integers, lists, maps, structs, unions, ForId, Allows, AllowsFields, AllowsChild}
use Rattle.vortex_value.specs.Chains.{last_of}
use Rattle.vortex_value.specs.Values.Content.{Content, null, truth, whole, text, string, sequence, tagged, typed, Contents, no_contents, content_then, content}
use Rattle.vortex_value.specs.TypesWithin.{HasNoExtension, HaveNoExtension, HasNoMap, HaveNoMap}
use Rattle.vortex_value.specs.Validity.{type_with}
use Rattle.vortex_value.proofs.Alike.{AlikeAt, Alike, BothHave, EachAlike, FieldsAlike, EntriesAlike, Rises, chain_alike}
use Rattle.vortex_value.proofs.CastLaws.{allows_null, allows_same, answered}

-- contents without parts

no_map_sorts : (s t : TypeTree) → HasNoMap t → ¬ (Sorts s t)
no_map_sorts (map_type k v false n) (map_type l w true m) h r = h
no_map_sorts _ _ h r = absurd r

bare_storage : (s : TypeTree) → HasNoExtension s → storage s ≡ s
bare_storage (extension_type i m t) b = absurd b
bare_storage null_type b = refl
bare_storage _ b = refl

-- nothing is looked through
bare_alike : (s t : TypeTree) (c : Content) → HasNoExtension s → HasNoExtension t → Alike s t c → AlikeAt s t c
bare_alike s t c x y h = rw (bare_storage s x, bare_storage t y) at h

truth_allows : (s t : TypeTree) (b : Bool) → AlikeAt s t (truth b) → Allows s t (truth b)
truth_allows (bool_type n) (bool_type m) b h = same_type refl
truth_allows (bool_type n) _ b h = absurd h.1
truth_allows _ t b h = absurd h.0

whole_allows : (s t : TypeTree) (z : ℤ) → AlikeAt s t (whole z) → Allows s t (whole z)
whole_allows (integer_type k n) (integer_type l m) z h = integers tt tt
whole_allows (integer_type k n) _ z h = absurd h.1
whole_allows _ t z h = absurd h.0

text_allows : (s t : TypeTree) (bs : List ℕ) → AlikeAt s t (text bs) → Allows s t (text bs)
text_allows (utf8_type n) (utf8_type m) bs h = same_type refl
text_allows (utf8_type n) _ bs h = absurd h.1
text_allows _ t bs h = absurd h.0

string_allows : (s t : TypeTree) (bs : List ℕ) → AlikeAt s t (string bs) → Allows s t (string bs)
string_allows (binary_type n) (binary_type m) bs h = same_type refl
string_allows (binary_type n) _ bs h = absurd h.1
string_allows _ t bs h = absurd h.0

not_sorts : (k v l w : TypeTree) (a b : Bool) (n m : Nullability) → ¬ (Rises a b) → ¬ (Sorts (map_type k v a n) (map_type l w b m))
not_sorts k v l w false true n m h r = h tt
not_sorts k v l w _ _ n m h r = absurd r

-- no map stands in the two types, or no null in the content
abbrev Unmapped : TypeTree → TypeTree → Content → Type 0
Unmapped s t c = (HasNoMap s × HasNoMap t) ⊎ HasNoNull c

-- a child under an id

both_none : (p : TypeTree → TypeTree → Type 0) (o : Option TypeTree) → ¬ (BothHave p o None)
both_none p None h = h
both_none p (Some a) h = h

choose_child : (p : TypeTree → TypeTree → Type 0) (b : Bool) (s t : TypeTree) (o u : Option TypeTree) (m n : Type 0) → (p s t → m) → (BothHave p o u → n)
    → BothHave p (if b then Some s else o) (if b then Some t else u) → ForId b m n
choose_child p true s t o u m n f g h = f h
choose_child p false s t o u m n f g h = g h

child_allows : (i : ℕ) (c : Content) → ((s t : TypeTree) → HasNoExtension s → HasNoExtension t → Unmapped s t c → Alike s t c → Allows s t c)
    → (js : List ℕ) (ss ts : TypeTrees) → HaveNoExtension ss → HaveNoExtension ts → (HaveNoMap ss × HaveNoMap ts) ⊎ HasNoNull c
    → BothHave (λ a b. Alike a b c) (type_with i js ss) (type_with i js ts) → AllowsChild i js ss ts c
child_allows i c go [] ss ts x y m h = absurd h
child_allows i c go (j ∷ js) no_types ts x y m h = absurd h
child_allows i c go (j ∷ js) (type_then s ss) no_types x y m h = absurd (both_none _ _ h)
child_allows i c go (j ∷ js) (type_then s ss) (type_then t ts) x y (inl m) h =
    choose_child (λ a b. Alike a b c) (j == i) s t (type_with i js ss) (type_with i js ts) (Allows s t c) (AllowsChild i js ss ts c)
    (go s t x.0 y.0 (inl (m.0.0, m.1.0))) (child_allows i c go js ss ts x.1 y.1 (inl (m.0.1, m.1.1))) h
child_allows i c go (j ∷ js) (type_then s ss) (type_then t ts) x y (inr m) h =
    choose_child (λ a b. Alike a b c) (j == i) s t (type_with i js ss) (type_with i js ts) (Allows s t c) (AllowsChild i js ss ts c)
    (go s t x.0 y.0 (inr m)) (child_allows i c go js ss ts x.1 y.1 (inr m)) h

-- without extensions what is alike is allowed
mutual
  bare_allows : (c : Content) (s t : TypeTree) → HasNoExtension s → HasNoExtension t → Unmapped s t c → AlikeAt s t c → Allows s t c
  bare_allows null s t x y (inl m) h = allows_null s t (no_map_sorts s t m.1)
  bare_allows null s t x y (inr m) h = absurd m
  bare_allows (truth b) s t x y m h = truth_allows s t b h
  bare_allows (whole z) s t x y m h = whole_allows s t z h
  bare_allows (text bs) s t x y m h = text_allows s t bs h
  bare_allows (string bs) s t x y m h = string_allows s t bs h
  bare_allows (tagged i c) (union_type names ss is n) (union_type others ts js o) x y m h =
      let P : List ℕ → Type 0 = λ ks. BothHave (λ a b. Alike a b c) (type_with i ks ss) (type_with i js ts) in
      unions (h.0, child_allows i c (λ s t u v k g. bare_allows c s t u v k (bare_alike s t c u v g)) js ss ts x y m (subst P h.0 h.1))
  bare_allows (tagged i c) _ _ x y m h = absurd h
  bare_allows (typed u c) s t x y m h = allows_same s t (typed u c) h
  bare_allows (sequence cs) (list_type e n) (list_type f o) x y m h = lists (bare_each cs e f x y m h)
  bare_allows (sequence cs) (list_type e n) (fixed_size_list_type f size o) x y m h = lists (bare_each cs e f x y m h)
  bare_allows (sequence cs) (fixed_size_list_type e size n) (list_type f o) x y m h = lists (bare_each cs e f x y m h)
  bare_allows (sequence cs) (fixed_size_list_type e size n) (fixed_size_list_type f others o) x y m h = lists (bare_each cs e f x y m h)
  bare_allows (sequence cs) (struct_type names ss n) (struct_type others ts o) x y m h = structs (bare_fields cs ss ts x y m h)
  bare_allows (sequence cs) (map_type k v a n) (map_type l w b o) x y (inl m) h = absurd m.0
  bare_allows (sequence cs) (map_type k v a n) (map_type l w b o) x y (inr m) h =
      maps (not_sorts k v l w a b n o h.0, bare_entries cs k l v w x.0 y.0 x.1 y.1 m h.1)
  bare_allows (sequence cs) _ _ x y m h = absurd h

  bare_each : (cs : Contents) (e f : TypeTree) → HasNoExtension e → HasNoExtension f → (HasNoMap e × HasNoMap f) ⊎ HaveNoNull cs
      → EachAlike e f cs → EachPlace (Allows e f) cs
  bare_each no_contents e f x y m h = tt
  bare_each (content_then c cs) e f x y (inl m) h = (bare_allows c e f x y (inl m) (bare_alike e f c x y h.0), bare_each cs e f x y (inl m) h.1)
  bare_each (content_then c cs) e f x y (inr m) h = (bare_allows c e f x y (inr m.0) (bare_alike e f c x y h.0), bare_each cs e f x y (inr m.1) h.1)

  bare_fields : (cs : Contents) (ss ts : TypeTrees) → HaveNoExtension ss → HaveNoExtension ts → (HaveNoMap ss × HaveNoMap ts) ⊎ HaveNoNull cs
      → FieldsAlike ss ts cs → AllowsFields ss ts cs
  bare_fields no_contents no_types no_types x y m h = tt
  bare_fields (content_then c cs) (type_then s ss) (type_then t ts) x y (inl m) h =
      (bare_allows c s t x.0 y.0 (inl (m.0.0, m.1.0)) (bare_alike s t c x.0 y.0 h.0), bare_fields cs ss ts x.1 y.1 (inl (m.0.1, m.1.1)) h.1)
  bare_fields (content_then c cs) (type_then s ss) (type_then t ts) x y (inr m) h =
      (bare_allows c s t x.0 y.0 (inr m.0) (bare_alike s t c x.0 y.0 h.0), bare_fields cs ss ts x.1 y.1 (inr m.1) h.1)
  bare_fields _ _ _ x y m h = search rules

  bare_entries : (cs : Contents) (k l v w : TypeTree) → HasNoExtension k → HasNoExtension l → HasNoExtension v → HasNoExtension w → HaveNoNull cs
      → EntriesAlike k l v w cs → EachEntry (Allows k l) (Allows v w) cs
  bare_entries no_contents k l v w x y z u m h = tt
  bare_entries (content_then (sequence (content_then a (content_then b no_contents))) cs) k l v w x y z u m h = (
    bare_allows a k l x y (inr m.0.0) (bare_alike k l a x y h.0),
    bare_allows b v w z u (inr m.0.1.0) (bare_alike v w b z u h.1),
    bare_entries cs k l v w x y z u m.1 h.2,
  )
  bare_entries _ k l v w x y z u m h = absurd h

pub no_way_round : NoWayRound
no_way_round s v t ts w run x y m = record {
  allowed = bare_allows (content v) s (last_of t ts) x y m (bare_alike s (last_of t ts) (content v) x y (chain_alike ts s t v run.starts run.steps));
  valid = run.ends;
  same = run.same;
}

pub no_call_further : NoCallFurther
no_call_further s v t ts w r run x y m a = answered s (last_of t ts) v w r (no_way_round s v t ts w run x y m) a
