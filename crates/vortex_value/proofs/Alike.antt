-- Two types are alike at a content where, with all extensions looked through, they read it in one way.
-- What the table allows is alike, and so are the ends of a chain of casts.
use Rattle.std.proofs.Common.{◌≡◌, ◌==◌, ℕ, Bool, true, false, if◌then◌else◌, List, [], ◌∷◌, Option, Some, None, sym, ◌∙◌, subst, rules}
use Rattle.vortex_dtype.specs.TypeTree.{TypeTree, null_type, bool_type, integer_type, utf8_type, binary_type, list_type, fixed_size_list_type, map_type, struct_type, union_type, variant_type, extension_type, TypeTrees, no_types, type_then, erase_all, Same, storage}
use Rattle.vortex_dtype.specs.declared.nullability.Nullability.{Nullability}
use Rattle.vortex_value.specs.Casts.{IsNull, IsInteger, Wraps, Sorts, EachPlace, EachEntry, ByElement, ByEntry, ByField, Row, same_type, a_null, into_extension, integers, lists, maps, structs, unions, from_extension, ForId, ByChild, Allows, AllowsFields, AllowsChild}
use Rattle.vortex_value.specs.Chains.{Steps, last_of}
use Rattle.vortex_value.specs.Values.Content.{Content, null, truth, whole, text, string, sequence, tagged, typed, Contents, no_contents, content_then, content, contents}
use Rattle.vortex_value.specs.Values.RawTree.{RawTree, absent, raw_bool, raw_integer, raw_text, raw_bytes, raw_tuple, raw_union, raw_variant, RawTrees, no_raws, raw_then}
use Rattle.vortex_value.specs.Validity.{type_with, HasType, EachValid, EntriesValid, FieldsValid, Valid}

abbrev pub IsBoolType : TypeTree → Type 0
IsBoolType (bool_type n) = Unit {0}
IsBoolType _ = ⊥

abbrev pub IsTextType : TypeTree → Type 0
IsTextType (utf8_type n) = Unit {0}
IsTextType _ = ⊥

abbrev pub IsBytesType : TypeTree → Type 0
IsBytesType (binary_type n) = Unit {0}
IsBytesType _ = ⊥

-- how a type reads a sequence, as elements, as fields or as entries (sorted or not), or a child under an id; or neither
pub data Reading : Type 0 where
  elements_of : TypeTree → Reading
  fields_of : TypeTrees → Reading
  entries_of : TypeTree → TypeTree → Bool → Reading
  children_of : List ℕ → TypeTrees → Reading
  no_reading : Reading

abbrev pub reading : TypeTree → Reading
reading (list_type e n) = elements_of e
reading (fixed_size_list_type e size n) = elements_of e
reading (struct_type names ts n) = fields_of ts
reading (map_type k v sorted n) = entries_of k v sorted
reading (union_type names ts ids n) = children_of ids ts
reading _ = no_reading

-- from false to true
abbrev pub Rises : Bool → Bool → Type 0
Rises false true = Unit {0}
Rises _ _ = ⊥

-- both read in one way, of which p, q or r holds; a map does not become sorted
abbrev pub ReadAlike : (TypeTree → TypeTree → Type 0) → (TypeTrees → TypeTrees → Type 0) → (TypeTree → TypeTree → TypeTree → TypeTree → Type 0)
    → Reading → Reading → Type 0
ReadAlike p q r (elements_of e) (elements_of f) = p e f
ReadAlike p q r (fields_of ss) (fields_of ts) = q ss ts
ReadAlike p q r (entries_of k v a) (entries_of l w b) = ¬ (Rises a b) × r k l v w
ReadAlike p q r _ _ = ⊥

-- there are two types, and p holds of them
abbrev pub BothHave : (TypeTree → TypeTree → Type 0) → Option TypeTree → Option TypeTree → Type 0
BothHave p (Some a) (Some b) = p a b
BothHave p _ _ = ⊥

-- both are unions with equal ids, and p holds of the variant types of the id
abbrev pub TaggedAlike : (TypeTree → TypeTree → Type 0) → ℕ → Reading → Reading → Type 0
TaggedAlike p id (children_of is ss) (children_of js ts) = (is ≡ js) × BothHave p (type_with id is ss) (type_with id js ts)
TaggedAlike p id _ _ = ⊥

-- for types that are no extensions
abbrev mutual
  pub AlikeAt : TypeTree → TypeTree → Content → Type 0
  AlikeAt s t null = Unit {0}
  AlikeAt s t (truth b) = IsBoolType s × IsBoolType t
  AlikeAt s t (whole z) = IsInteger s × IsInteger t
  AlikeAt s t (text bs) = IsTextType s × IsTextType t
  AlikeAt s t (string bs) = IsBytesType s × IsBytesType t
  AlikeAt s t (sequence cs) = ReadAlike (λ e f. EachAlike e f cs) (λ ss ts. FieldsAlike ss ts cs) (λ k l v w. EntriesAlike k l v w cs) (reading s) (reading t)
  AlikeAt s t (tagged id c) = TaggedAlike (λ a b. AlikeAt (storage a) (storage b) c) id (reading s) (reading t)
  AlikeAt s t (typed u c) = Same s t

  pub EachAlike : TypeTree → TypeTree → Contents → Type 0
  EachAlike e f no_contents = Unit {0}
  EachAlike e f (content_then c cs) = AlikeAt (storage e) (storage f) c × EachAlike e f cs

  pub FieldsAlike : TypeTrees → TypeTrees → Contents → Type 0
  FieldsAlike no_types no_types no_contents = Unit {0}
  FieldsAlike (type_then s ss) (type_then t ts) (content_then c cs) = AlikeAt (storage s) (storage t) c × FieldsAlike ss ts cs
  FieldsAlike _ _ _ = ⊥

  pub EntriesAlike : TypeTree → TypeTree → TypeTree → TypeTree → Contents → Type 0
  EntriesAlike k l v w no_contents = Unit {0}
  EntriesAlike k l v w (content_then (sequence (content_then a (content_then b no_contents))) cs) =
      AlikeAt (storage k) (storage l) a × AlikeAt (storage v) (storage w) b × EntriesAlike k l v w cs
  EntriesAlike k l v w _ = ⊥

abbrev pub Alike : TypeTree → TypeTree → Content → Type 0
Alike s t c = AlikeAt (storage s) (storage t) c

-- alike twice is alike

rises_not : (a b c : Bool) → ¬ (Rises a b) → ¬ (Rises b c) → ¬ (Rises a c)
rises_not false true true g h r = g tt
rises_not false false true g h r = h tt
rises_not _ _ _ g h r = absurd r

read_trans : (p : TypeTree → TypeTree → Type 0) (q : TypeTrees → TypeTrees → Type 0) (r : TypeTree → TypeTree → TypeTree → TypeTree → Type 0)
    → ((d e f : TypeTree) → p d e → p e f → p d f) → ((ss ts us : TypeTrees) → q ss ts → q ts us → q ss us)
    → ((k l m u v w : TypeTree) → r k l u v → r l m v w → r k m u w)
    → (a b c : Reading) → ReadAlike p q r a b → ReadAlike p q r b c → ReadAlike p q r a c
read_trans p q r i j o (elements_of d) (elements_of e) (elements_of f) g h = i d e f g h
read_trans p q r i j o (fields_of ss) (fields_of ts) (fields_of us) g h = j ss ts us g h
read_trans p q r i j o (entries_of k u x) (entries_of l v y) (entries_of m w z) g h = (rises_not x y z g.0 h.0, o k l m u v w g.1 h.1)
read_trans p q r i j o (elements_of d) (elements_of e) _ g h = absurd h
read_trans p q r i j o (fields_of ss) (fields_of ts) _ g h = absurd h
read_trans p q r i j o (entries_of k u x) (entries_of l v y) _ g h = absurd h
read_trans p q r i j o _ _ c g h = absurd g

-- the same of optional types, and of the types of one id
both_trans : (p : TypeTree → TypeTree → Type 0) → ((a b c : TypeTree) → p a b → p b c → p a c)
    → (a b c : Option TypeTree) → BothHave p a b → BothHave p b c → BothHave p a c
both_trans p f (Some a) (Some b) (Some c) g h = f a b c g h
both_trans p f (Some a) (Some b) None g h = absurd h
both_trans p f _ _ c g h = absurd g

tagged_trans : (p : TypeTree → TypeTree → Type 0) (id : ℕ) → ((a b c : TypeTree) → p a b → p b c → p a c)
    → (a b c : Reading) → TaggedAlike p id a b → TaggedAlike p id b c → TaggedAlike p id a c
tagged_trans p id f (children_of is ss) (children_of js ts) (children_of ks us) g h =
    (g.0 ∙ h.0, both_trans p f (type_with id is ss) (type_with id js ts) (type_with id ks us) g.1 h.1)
tagged_trans p id f (children_of is ss) (children_of js ts) _ g h = absurd h
tagged_trans p id f _ _ c g h = absurd g

mutual
  alike_trans : (s t u : TypeTree) (c : Content) → AlikeAt s t c → AlikeAt t u c → AlikeAt s u c
  alike_trans s t u null g h = tt
  alike_trans s t u (truth b) g h = (g.0, h.1)
  alike_trans s t u (whole z) g h = (g.0, h.1)
  alike_trans s t u (text bs) g h = (g.0, h.1)
  alike_trans s t u (string bs) g h = (g.0, h.1)
  alike_trans s t u (sequence cs) g h =
      read_trans (λ e f. EachAlike e f cs) (λ ss ts. FieldsAlike ss ts cs) (λ k l v w. EntriesAlike k l v w cs)
      (λ d e f. each_trans d e f cs) (λ a b c. fields_trans a b c cs) (λ k l m x y z. entries_trans k l m x y z cs) (reading s) (reading t) (reading u) g h
  alike_trans s t u (tagged i c) g h =
      tagged_trans (λ a b. AlikeAt (storage a) (storage b) c) i (λ x y z. alike_trans (storage x) (storage y) (storage z) c) (reading s) (reading t) (reading u) g h
  alike_trans s t u (typed x c) g h = g ∙ h

  each_trans : (s t u : TypeTree) (cs : Contents) → EachAlike s t cs → EachAlike t u cs → EachAlike s u cs
  each_trans s t u no_contents g h = tt
  each_trans s t u (content_then c cs) g h = (alike_trans (storage s) (storage t) (storage u) c g.0 h.0, each_trans s t u cs g.1 h.1)

  fields_trans : (ss ts us : TypeTrees) (cs : Contents) → FieldsAlike ss ts cs → FieldsAlike ts us cs → FieldsAlike ss us cs
  fields_trans no_types no_types no_types no_contents g h = tt
  fields_trans (type_then s ss) (type_then t ts) (type_then u us) (content_then c cs) g h =
      (alike_trans (storage s) (storage t) (storage u) c g.0 h.0, fields_trans ss ts us cs g.1 h.1)
  fields_trans no_types no_types (type_then u us) no_contents g h = absurd h
  fields_trans (type_then s ss) (type_then t ts) no_types (content_then c cs) g h = absurd h
  fields_trans _ _ us _ g h = absurd g

  entries_trans : (k l m u v w : TypeTree) (cs : Contents) → EntriesAlike k l u v cs → EntriesAlike l m v w cs → EntriesAlike k m u w cs
  entries_trans k l m u v w no_contents g h = tt
  entries_trans k l m u v w (content_then (sequence (content_then a (content_then b no_contents))) cs) g h = (
    alike_trans (storage k) (storage l) (storage m) a g.0 h.0,
    alike_trans (storage u) (storage v) (storage w) b g.1 h.1,
    entries_trans k l m u v w cs g.2 h.2,
  )
  entries_trans k l m u v w _ g h = absurd g

-- types that are the same up to nullability are alike at what one of them has

each_alike : (e f : TypeTree) → ((v : RawTree) → Valid e v → Alike e f (content v)) → (vs : RawTrees) → EachValid e vs → EachAlike e f (contents vs)
each_alike e f h no_raws p = tt
each_alike e f h (raw_then v vs) p = (h v p.0, each_alike e f h vs p.1)

entries_alike : (k l v w : TypeTree) → ((x : RawTree) → Valid k x → Alike k l (content x)) → ((x : RawTree) → Valid v x → Alike v w (content x))
    → (vs : RawTrees) → EntriesValid k v vs → EntriesAlike k l v w (contents vs)
entries_alike k l v w f g no_raws p = tt
entries_alike k l v w f g (raw_then (raw_tuple (raw_then x (raw_then y no_raws))) vs) p = (f x p.0, g y p.1, entries_alike k l v w f g vs p.2)
entries_alike k l v w f g _ p = absurd p

rises_same : (a b : Bool) → a ≡ b → ¬ (Rises a b)
rises_same false true e r = cc
rises_same _ _ e r = absurd r

-- under the first id, or a later one
choose_both : (p : TypeTree → TypeTree → Type 0) (q : TypeTree → Type 0) (b : Bool) (s t : TypeTree) (o u : Option TypeTree)
    → (q s → p s t) → (HasType o q → BothHave p o u) → HasType (if b then Some s else o) q → BothHave p (if b then Some s else o) (if b then Some t else u)
choose_both p q true s t o u f g h = f h
choose_both p q false s t o u f g h = g h

mutual
  same_alike : (s t : TypeTree) → Same s t → (v : RawTree) → Valid s v → Alike s t (content v)
  same_alike s t e absent p = tt
  same_alike (extension_type i m s) (extension_type j o t) e v p = let same : Same s t = cc in same_alike s t same v p
  same_alike (bool_type n) (bool_type m) e (raw_bool b) p = (tt, tt)
  same_alike (utf8_type n) (utf8_type m) e (raw_text bs) p = (tt, tt)
  same_alike (binary_type n) (binary_type m) e (raw_bytes bs) p = (tt, tt)
  same_alike (integer_type k n) (integer_type l m) e (raw_integer x z) p = (tt, tt)
  same_alike (list_type a n) (list_type b m) e (raw_tuple vs) p =
      let same : Same a b = cc in each_alike a b (same_alike a b same) vs p
  same_alike (fixed_size_list_type a x n) (fixed_size_list_type b y m) e (raw_tuple vs) p =
      let same : Same a b = cc in each_alike a b (same_alike a b same) vs p.1
  same_alike (map_type k v x n) (map_type l w y m) e (raw_tuple vs) p =
      let keys : Same k l = cc in
      let values : Same v w = cc in
      let sorted : x ≡ y = cc in
      (rises_same x y sorted, entries_alike k l v w (same_alike k l keys) (same_alike v w values) vs p)
  same_alike (struct_type xs ss n) (struct_type ys ts m) e (raw_tuple vs) p =
      let same : erase_all ss ≡ erase_all ts = cc in same_fields ss ts same vs p
  same_alike (union_type xs ss is n) (union_type ys ts js m) e (raw_union i v) p =
      let ids : is ≡ js = cc in
      let types : erase_all ss ≡ erase_all ts = cc in
      (ids, rw (← ids) (same_child ss ts types i is v p))
  same_alike (variant_type n) (variant_type m) e (raw_variant u v) p = e
  same_alike _ _ e _ p = search rules

  -- between the two types of an id
  same_child : (ss ts : TypeTrees) → erase_all ss ≡ erase_all ts → (i : ℕ) (is : List ℕ) (v : RawTree) → HasType (type_with i is ss) (λ a. Valid a v)
      → BothHave (λ a b. Alike a b (content v)) (type_with i is ss) (type_with i is ts)
  same_child ss ts e i [] v p = absurd p
  same_child no_types ts e i (j ∷ is) v p = absurd p
  same_child (type_then s ss) no_types e i (j ∷ is) v p = cc
  same_child (type_then s ss) (type_then t ts) e i (j ∷ is) v p =
      let here : Same s t = cc in
      let rest : erase_all ss ≡ erase_all ts = cc in
      choose_both (λ a b. Alike a b (content v)) (λ a. Valid a v) (j == i) s t (type_with i is ss) (type_with i is ts)
      (same_alike s t here v) (same_child ss ts rest i is v) p

  same_fields : (ss ts : TypeTrees) → erase_all ss ≡ erase_all ts → (vs : RawTrees) → FieldsValid ss vs → FieldsAlike ss ts (contents vs)
  same_fields no_types no_types e no_raws p = tt
  same_fields (type_then s ss) (type_then t ts) e (raw_then v vs) p =
      let here : Same s t = cc in
      let rest : erase_all ss ≡ erase_all ts = cc in
      (same_alike s t here v p.0, same_fields ss ts rest vs p.1)
  same_fields _ _ e _ p = search rules

-- what a row allows is alike

null_alike : (s t : TypeTree) (c : Content) → IsNull c → Alike s t c
null_alike s t null h = tt
null_alike s t _ h = absurd h

integers_alike : (s t : TypeTree) (v : RawTree) → IsInteger s → IsInteger t → Valid s v → Alike s t (content v)
integers_alike (integer_type k n) (integer_type l m) absent i j p = tt
integers_alike (integer_type k n) (integer_type l m) (raw_integer x z) i j p = (tt, tt)
integers_alike (integer_type k n) (integer_type l m) _ i j p = absurd p
integers_alike (integer_type k n) _ v i j p = absurd j
integers_alike _ t v i j p = absurd i

wraps_alike : (s t : TypeTree) (v : RawTree) → Wraps s t → Valid s v → Alike s t (content v)
wraps_alike (extension_type i m u) t v w p = same_alike u t w v p
wraps_alike _ t v w p = absurd w

-- t is a list with elements of type f: what is alike to f at each place is alike to t
abbrev IsListOf : TypeTree → TypeTree → Type 0
IsListOf t f = (n : Nullability) (e : TypeTree) (cs : Contents) → EachAlike e f cs → Alike (list_type e n) t (sequence cs)

-- what the table allows to t is alike
abbrev StepsTo : TypeTree → Type 0
StepsTo t = (s : TypeTree) (v : RawTree) → Valid s v → Allows s t (content v) → Alike s t (content v)

abbrev FieldStepsTo : TypeTrees → Type 0
FieldStepsTo ts = (ss : TypeTrees) (vs : RawTrees) → FieldsValid ss vs → AllowsFields ss ts (contents vs) → FieldsAlike ss ts (contents vs)

each_step : (e f : TypeTree) → StepsTo f → (vs : RawTrees) → EachValid e vs → EachPlace (Allows e f) (contents vs) → EachAlike e f (contents vs)
each_step e f h no_raws p a = tt
each_step e f h (raw_then v vs) p a = (h e v p.0 a.0, each_step e f h vs p.1 a.1)

list_step : (f : TypeTree) → StepsTo f → (t : TypeTree) → IsListOf t f → (s : TypeTree) (v : RawTree) → Valid s v
    → ByElement (λ e d. Allows e f d) s (content v) → Alike s t (content v)
list_step f h t l (list_type e m) (raw_tuple vs) p a = l m e (contents vs) (each_step e f h vs p a)
list_step f h t l (fixed_size_list_type e size m) (raw_tuple vs) p a = l m e (contents vs) (each_step e f h vs p.1 a)
list_step f h t l _ _ p a = absurd a

entries_step : (k l v w : TypeTree) → StepsTo l → StepsTo w → (vs : RawTrees) → EntriesValid k v vs → EachEntry (Allows k l) (Allows v w) (contents vs)
    → EntriesAlike k l v w (contents vs)
entries_step k l v w f g no_raws p a = tt
entries_step k l v w f g (raw_then (raw_tuple (raw_then x (raw_then y no_raws))) vs) p a = (f k x p.0 a.0, g v y p.1 a.1, entries_step k l v w f g vs p.2 a.2)
entries_step k l v w f g _ p a = absurd p

sorts_rises : (k v l w : TypeTree) (a b : Bool) (n m : Nullability) → ¬ (Sorts (map_type k v a n) (map_type l w b m)) → ¬ (Rises a b)
sorts_rises k v l w false true n m h r = h tt
sorts_rises k v l w _ _ n m h r = absurd r

map_step : (l w : TypeTree) → StepsTo l → StepsTo w → (b : Bool) (m : Nullability) (s : TypeTree) (v : RawTree) → Valid s v
    → ¬ (Sorts s (map_type l w b m)) × ByEntry (λ k d. Allows k l d) (λ u d. Allows u w d) s (content v) → Alike s (map_type l w b m) (content v)
map_step l w f g b m (map_type k u a n) (raw_tuple vs) p h = (sorts_rises k u l w a b n m h.0, entries_step k l u w f g vs p h.1)
map_step l w f g b m _ _ p h = absurd h.1

struct_step : (us : TypeTrees) → FieldStepsTo us → (names : List (List ℕ)) (n : Nullability) (s : TypeTree) (v : RawTree) → Valid s v
    → ByField (λ ss cs. AllowsFields ss us cs) s (content v) → Alike s (struct_type names us n) (content v)
struct_step us h names n (struct_type others ss m) (raw_tuple vs) p a = h ss vs p a
struct_step us h names n _ _ p a = absurd a

-- what the table allows of a child, to one of these types, is alike
abbrev ChildStepsTo : TypeTrees → Type 0
ChildStepsTo us = (i : ℕ) (is : List ℕ) (ss : TypeTrees) (v : RawTree) → HasType (type_with i is ss) (λ a. Valid a v) → AllowsChild i is ss us (content v)
    → BothHave (λ a b. Alike a b (content v)) (type_with i is ss) (type_with i is us)

choose_step : (p : TypeTree → TypeTree → Type 0) (q : TypeTree → Type 0) (m n : Type 0) (b : Bool) (s t : TypeTree) (o u : Option TypeTree)
    → (q s → m → p s t) → (HasType o q → n → BothHave p o u)
    → HasType (if b then Some s else o) q → ForId b m n → BothHave p (if b then Some s else o) (if b then Some t else u)
choose_step p q m n true s t o u f g h a = f h a
choose_step p q m n false s t o u f g h a = g h a

union_step : (us : TypeTrees) → ChildStepsTo us → (names : List (List ℕ)) (js : List ℕ) (n : Nullability) (s : TypeTree) (v : RawTree) → Valid s v
    → ByChild (λ id ss d. AllowsChild id js ss us d) s js (content v) → Alike s (union_type names us js n) (content v)
union_step us h names js n (union_type others ss is m) (raw_union i v) p a =
    let ids : is ≡ js = a.0 in
    let q : HasType (type_with i js ss) (λ t. Valid t v) = rw (← ids) p in
    let found = h i js ss v q a.1 in
    (ids, rw ids found)
union_step us h names js n _ _ p a = absurd a

none : (G : Type 0) → ⊥ → G
none G h = absurd h

-- the rows one by one; for each row that speaks of parts it is given that these parts make the types alike
by_rows : (s t : TypeTree) (v : RawTree) (wrapped elements entries fields children : Type 0) → Valid s v
    → (wrapped → Alike s t (content v)) → (elements → Alike s t (content v)) → (entries → Alike s t (content v)) → (fields → Alike s t (content v)) → (children → Alike s t (content v))
    → Row s t (content v) wrapped elements entries fields children → Alike s t (content v)
by_rows s t v wrapped elements entries fields children p f g h k l a = elim a [
  | same_type e ↦ same_alike s t e v p
  | a_null e n ↦ null_alike s t (content v) e
  | into_extension e ↦ f e
  | integers i j ↦ integers_alike s t v i j p
  | lists e ↦ g e
  | maps e ↦ h e
  | structs e ↦ k e
  | unions e ↦ l e
  | from_extension w n ↦ wraps_alike s t v w p
]

-- the rows for a type without parts
plain_rows : (s t : TypeTree) (v : RawTree) → Valid s v → Row s t (content v) ⊥ ⊥ ⊥ ⊥ ⊥ → Alike s t (content v)
plain_rows s t v p a = by_rows s t v _ _ _ _ _ p (none _) (none _) (none _) (none _) (none _) a

mutual
  pub step_alike : (t : TypeTree) → StepsTo t
  step_alike (list_type f n) s v p a =
      by_rows s (list_type f n) v _ _ _ _ _ p (none _) (list_step f (step_alike f) (list_type f n) (λ m e cs h. h) s v p) (none _) (none _) (none _) a
  step_alike (fixed_size_list_type f size n) s v p a =
      by_rows s (fixed_size_list_type f size n) v _ _ _ _ _ p (none _) (list_step f (step_alike f) (fixed_size_list_type f size n) (λ m e cs h. h) s v p) (none _) (none _) (none _) a
  step_alike (map_type l w b n) s v p a =
      by_rows s (map_type l w b n) v _ _ _ _ _ p (none _) (none _) (map_step l w (step_alike l) (step_alike w) b n s v p) (none _) (none _) a
  step_alike (struct_type names us n) s v p a =
      by_rows s (struct_type names us n) v _ _ _ _ _ p (none _) (none _) (none _) (struct_step us (fields_step us) names n s v p) (none _) a
  step_alike (extension_type i m u) s v p a =
      by_rows s (extension_type i m u) v _ _ _ _ _ p (λ z. step_alike u s v p z.1) (none _) (none _) (none _) (none _) a
  step_alike null_type s v p a = plain_rows s null_type v p a
  step_alike (bool_type n) s v p a = plain_rows s (bool_type n) v p a
  step_alike (integer_type k n) s v p a = plain_rows s (integer_type k n) v p a
  step_alike (utf8_type n) s v p a = plain_rows s (utf8_type n) v p a
  step_alike (binary_type n) s v p a = plain_rows s (binary_type n) v p a
  step_alike (union_type names us ids n) s v p a =
      by_rows s (union_type names us ids n) v _ _ _ _ _ p (none _) (none _) (none _) (none _) (union_step us (children_step us) names ids n s v p) a
  step_alike (variant_type n) s v p a = plain_rows s (variant_type n) v p a

  children_step : (us : TypeTrees) → ChildStepsTo us
  children_step us i [] ss v p a = absurd p
  children_step us i (j ∷ is) no_types v p a = absurd p
  children_step no_types i (j ∷ is) (type_then s ss) v p a = absurd a
  children_step (type_then u us) i (j ∷ is) (type_then s ss) v p a =
      choose_step (λ x y. Alike x y (content v)) (λ x. Valid x v) (Allows s u (content v)) (AllowsChild i is ss us (content v)) (j == i) s u
      (type_with i is ss) (type_with i is us) (step_alike u s v) (children_step us i is ss v) p a

  fields_step : (us : TypeTrees) → FieldStepsTo us
  fields_step no_types no_types no_raws p a = tt
  fields_step (type_then u us) (type_then s ss) (raw_then v vs) p a = (step_alike u s v p.0 a.0, fields_step us ss vs p.1 a.1)
  fields_step _ _ _ p a = absurd a

-- the ends of a chain are alike
pub chain_alike : (ts : List TypeTree) (s t : TypeTree) (v : RawTree) → Valid s v → Steps s (t ∷ ts) (content v) → Alike s (last_of t ts) (content v)
chain_alike [] s t v p h = step_alike t s v p h.0
chain_alike (u ∷ us) s t v p h =
    let w = h.1.value in
    let same = h.1.same in
    let P : Content → Type 0 = λ c. Steps t (u ∷ us) c in
    let Q : Content → Type 0 = λ c. Alike t (last_of u us) c in
    let rest = subst Q same (chain_alike us t u w h.1.valid (subst P (sym same) h.2)) in
    alike_trans (storage s) (storage t) (storage (last_of u us)) (content v) (step_alike t s v p h.0) rest
