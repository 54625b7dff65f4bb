-- The steps of a cast give what the table of casts says: the one value where the table allows the cast and the target has
-- the content, and none elsewhere.
use Rattle.std.proofs.Common.{◌≡◌, ◌≢◌, ◌==◌, ◌⊎◌, inl, inr, ℕ, ℤ, Bool, true, false, ◌&&◌, List, [], ◌∷◌, Option, Some, None, Result, Ok, Err, IfErr, if◌then◌else◌, option_map, refl, sym, ap, ◌∙◌, subst, IsSome}
use Rattle.std.proofs.lemmas.Bool.Decides.{Decides-and, Decides-eqb, Decides-like, Decides-or}
use Rattle.std.proofs.lemmas.Slice.Eq.{bytes_eq-Decides}
use Rattle.std.specs.Bool.{Decides}
use Rattle.std.specs.Str.{bytes_eq}
use Rattle.vortex_dtype.specs.Lemmas.TypeLaws.{is_nullable-storage}
use Rattle.vortex_dtype.specs.TypeOf.{MapParts}
use Rattle.vortex_dtype.specs.TypeTree.{TypeTree, null_type, bool_type, integer_type, utf8_type, binary_type, list_type, fixed_size_list_type, map_type, struct_type, union_type, variant_type, extension_type, TypeTrees, no_types, type_then, erase_all, IsFlat, IsNullable, Same, is_nullable, nullability_of, storage}
use Rattle.vortex_dtype.specs.declared.error.VortexError.{VortexError}
use Rattle.vortex_dtype.specs.declared.error.VortexError.TheVariants.{OutOfMemory}
use Rattle.vortex_dtype.specs.declared.nullability.Nullability.{Nullability}
use Rattle.vortex_dtype.specs.declared.ptype.PType.{PType}
use Rattle.vortex_pvalue.specs.Numbers.{in_range}
use Rattle.vortex_pvalue.specs.RangeLaws.{in_range_exactly}
use Rattle.vortex_value.specs.Steps.CastSteps.{pair, Refused, accepts, bare_to, both, cast_to, child_to, each_to, entries_to, error_of, fields_to, kept, leaf_to, may_unwrap, map_to, number_to, pair_to, sorts, keeps_its_kind, takes_null, tuple_to, two_types, types_with, whole_to}
use Rattle.vortex_value.specs.Casts.{Allows, AllowsChild, AllowsFields, CanCast, EachEntry, EachPlace, ForId, IsCast, IsExtension, IsInteger, IsNull, RefusesCast, Row, Sorts, Wraps, same_type, a_null, into_extension, integers, lists, maps, structs, unions, from_extension}
use Rattle.vortex_value.specs.Values.Content.{Content, null, sequence, tagged, Contents, no_contents, content_then, content, contents}
use Rattle.vortex_value.specs.Lemmas.EqualityLaws.{same_type-Decides}
use Rattle.vortex_value.specs.Laws.HasContent.{HasContent, HasEach, HasEntries, HasFields, count_contents}
use Rattle.vortex_value.specs.Values.RawTree.{RawTree, absent, raw_bool, raw_integer, raw_text, raw_bytes, raw_tuple, raw_union, raw_variant, RawTrees, no_raws, raw_then, count, is_absent}
use Rattle.vortex_value.specs.declared.cast.refusals.Refusal.{Refusal}
use Rattle.vortex_value.specs.declared.cast.refusals.Refusal.TheVariants.{Impossible, NoMemory}
use Rattle.vortex_value.specs.Validity.{EachValid, EntriesValid, FieldsValid, HasType, Valid, ValidAt, type_with}
use Rattle.vortex_value.proofs.Alike.{AlikeAt, step_alike}
use Rattle.vortex_value.proofs.CastCode.{accepts-Decides}
use Rattle.vortex_value.proofs.CastLaws.{allows_null, allows_same}
use Rattle.vortex_value.proofs.ContentLaws.{counted, has_by_cases}
use Rattle.vortex_value.proofs.Uniqueness.{one, same_storage}
use Rattle.vortex_value.proofs.ValidityLaws.{says_nullable-Decides}

-- what is made, with this content, is allowed and valid; where nothing is made, it is not allowed or the target has no such content
abbrev Made : {A C : Type 0} → (A → C) → Type 0 → Type 0 → (A → Type 0) → C → Option A → Type 0
Made content allowed had valid c None = ¬ (allowed × had)
Made content allowed had valid c (Some w) = allowed × valid w × (content w ≡ c)

-- what the table says of a cast that makes this
abbrev Decided : TypeTree → TypeTree → RawTree → Option RawTree → Type 0
Decided s t v = Made content (Allows s t (content v)) (HasContent t (content v)) (Valid t) (content v)

-- and of a cast of parts, where these say what is allowed, had and valid of each
abbrev PartsDecided : Type 0 → Type 0 → (RawTrees → Type 0) → RawTrees → Option RawTrees → Type 0
PartsDecided allowed had valid vs = Made contents allowed had valid (contents vs)

both_same : (c d : Content) (cs ds : Contents) → c ≡ d → cs ≡ ds → content_then c cs ≡ content_then d ds
both_same c d cs ds p q = cc

-- a value without parts that a cast goes down to, and no integer
abbrev IsPlain : RawTree → Type 0
IsPlain absent = ⊥
IsPlain (raw_integer k z) = ⊥
IsPlain (raw_tuple vs) = ⊥
IsPlain (raw_union i v) = ⊥
IsPlain _ = Unit {0}

-- by a test that decides it

decided_by : (test : Bool) (s t : TypeTree) (v w : RawTree) → (test ≡ true → Decided s t v (Some w)) → (test ≡ false → ¬ (Allows s t (content v) × HasContent t (content v)))
    → Decided s t v (if test then Some w else None)
decided_by true s t v w found missed = found refl
decided_by false s t v w found missed = missed refl

-- nulls

never_sorted : (s t : TypeTree) (c : Content) → Sorts s t → ¬ (Allows s t c)
never_sorted (map_type k v false n) (map_type l w true m) c h a = elim a [
  | same_type e ↦ let differ : false ≡ true = cc in let z : ⊥ = cc in z
  | a_null e f ↦ f tt
  | into_extension e ↦ e
  | integers i j ↦ i
  | lists e ↦ e
  | maps e ↦ e.0 tt
  | structs e ↦ e
  | unions e ↦ e
  | from_extension w n ↦ w
]
never_sorted _ _ c h a = h

nullable_Decides : (t : TypeTree) → Decides (is_nullable t) (IsNullable (storage t))
nullable_Decides t = subst (λ b. Decides b (IsNullable (storage t))) (is_nullable-storage t) (says_nullable-Decides (nullability_of (storage t)))

-- a null is taken by a nullable type, unless an unsorted map would become a sorted one
null_Decides : (s t : TypeTree) → Decides (takes_null s t) ((Sorts s t → ⊥) × IsNullable (storage t))
null_Decides (map_type k v false n) (map_type l w true m) = (λ h. cc, λ h. absurd (h.0 tt))
null_Decides (map_type k v from n) (map_type l w to m) = Decides-like _ (λ h. ((λ z. z), h)) (λ h. h.1) (nullable_Decides (map_type l w to m))
null_Decides s t = Decides-like _ (λ h. ((λ z. z), h)) (λ h. h.1) (nullable_Decides t)

null_decided : (s t : TypeTree) → Decided s t absent (if takes_null s t then Some absent else None)
null_decided s t =
    let test = null_Decides s t in
    decided_by (takes_null s t) s t absent absent
    (λ found. let h = test.0 found in (allows_null s t h.0, h.1, refl))
    (λ missed q. let found = test.1 (λ sorted. never_sorted s t null sorted q.0, q.1) in cc)

-- a value that is kept

-- the type has the content of a value of a type that is stored alike, so it has the value itself
held : (s t : TypeTree) (v : RawTree) → Same (storage s) (storage t) → Valid s v → HasContent t (content v) → Valid t v
held s t v same valid has =
    let h = (has_by_cases t (content v)).1 has in
    let is : v ≡ h.value = one v h.value (storage s) (storage t) same valid h.valid (sym h.same) in
    rw is h.valid

-- what is kept where a test decides whether the table allows the cast
kept_decided : (test : Bool) (s t : TypeTree) (v : RawTree) → Valid s v → (test ≡ true → Allows s t (content v)) → (Allows s t (content v) → HasContent t (content v) → (test ≡ true) × Same (storage s) (storage t))
    → Decided s t v (kept test t v)
kept_decided test s t v valid up down =
    let accepted = accepts-Decides t v in
    let both = Decides-and test (accepts t v) (λ h. h, λ h. h) accepted in
    decided_by (test && accepts t v) s t v v
    (λ found. let h = both.0 found in (up h.0, h.1, refl))
    (λ missed q. let h = down q.0 q.1 in let found = both.1 (h.0, held s t v h.1 valid q.1) in cc)

-- from an extension

-- a type that is no extension is not the same as one
not_wrapped : (t : TypeTree) (id metadata : List ℕ) (u : TypeTree) → ¬ (IsExtension t) → ¬ (Same (extension_type id metadata u) t)
not_wrapped (extension_type i m t) id metadata u plain e = plain tt
not_wrapped null_type id metadata u plain e = cc
not_wrapped _ id metadata u plain e = cc

-- the ways out of the extension s, which stores u, to t
abbrev Leaves : TypeTree → TypeTree → TypeTree → Type 0
Leaves s u (extension_type id metadata t) = Same s (extension_type id metadata t) ⊎ Leaves s u t
Leaves s u t = Same u t

leaves_Decides : (s u t : TypeTree) → Decides (may_unwrap s u t) (Leaves s u t)
leaves_Decides s u (extension_type id metadata t) = Decides-or _ _ (same_type-Decides s (extension_type id metadata t)) (leaves_Decides s u t)
leaves_Decides s u null_type = same_type-Decides u null_type
leaves_Decides s u t = same_type-Decides u t

leaves_allows : (id metadata : List ℕ) (u t : TypeTree) (c : Content) → ¬ (IsNull c) → Leaves (extension_type id metadata u) u t → Allows (extension_type id metadata u) t c
leaves_allows id metadata u (extension_type i m t) c there (inl same) = same_type same
leaves_allows id metadata u (extension_type i m t) c there (inr h) = into_extension (there, leaves_allows id metadata u t c there h)
leaves_allows id metadata u null_type c there h = from_extension h (λ z. z)
leaves_allows id metadata u t c there h = from_extension h (λ z. z)

-- the rows for a value that is present: those of the same type, of parts and of what is stored are left
present_row : (G : Type 0) (s t : TypeTree) (c : Content) (wrapped elements entries fields children : Type 0) → ¬ (IsNull c) → (Same s t → G) → (wrapped → G) → (IsInteger s → IsInteger t → G)
    → (elements → G) → (entries → G) → (fields → G) → (children → G) → (Wraps s t → ¬ (IsExtension t) → G) → Row s t c wrapped elements entries fields children → G
present_row G s t c wrapped elements entries fields children there by_same by_wrapped by_integers by_elements by_entries by_fields by_children by_stored a = elim a [
  | same_type e ↦ by_same e
  | a_null e f ↦ absurd (there e)
  | into_extension e ↦ by_wrapped e
  | integers i j ↦ by_integers i j
  | lists e ↦ by_elements e
  | maps e ↦ by_entries e
  | structs e ↦ by_fields e
  | unions e ↦ by_children e
  | from_extension w n ↦ by_stored w n
]

-- a type that an extension reaches by what it stores
stored_row : (id metadata : List ℕ) (u t : TypeTree) (c : Content) (elements entries fields children : Type 0) → ¬ (IsNull c) → ¬ (IsExtension t) → ¬ elements → ¬ entries → ¬ fields
    → ¬ children → Row (extension_type id metadata u) t c ⊥ elements entries fields children → Same u t
stored_row id metadata u t c elements entries fields children there plain e f g h a =
    present_row (Same u t) _ t c ⊥ elements entries fields children there (λ same. absurd (not_wrapped t id metadata u plain same)) (λ z. absurd z) (λ i j. absurd i)
    (λ z. absurd (e z)) (λ z. absurd (f z)) (λ z. absurd (g z)) (λ z. absurd (h z)) (λ w n. w) a

allows_leaves : (id metadata : List ℕ) (u t : TypeTree) (c : Content) → ¬ (IsNull c) → Allows (extension_type id metadata u) t c → Leaves (extension_type id metadata u) u t
allows_leaves id metadata u (extension_type i m t) c there a =
    present_row (Leaves (extension_type id metadata u) u (extension_type i m t)) _ (extension_type i m t) c _ ⊥ ⊥ ⊥ ⊥ there (λ same. inl same) (λ e. inr (allows_leaves id metadata u t c there e.1))
    (λ i j. absurd i) (λ z. absurd z) (λ z. absurd z) (λ z. absurd z) (λ z. absurd z) (λ w n. absurd (n tt)) a
allows_leaves id metadata u (map_type k v sorted n) c there a = stored_row id metadata u (map_type k v sorted n) c ⊥ _ ⊥ ⊥ there (λ z. z) (λ z. z) (λ e. e.1) (λ z. z) (λ z. z) a
allows_leaves id metadata u t c there a = stored_row id metadata u t c _ _ _ _ there (λ z. z) (λ z. z) (λ z. z) (λ z. z) (λ z. z) a

leaves_stored : (id metadata : List ℕ) (u t : TypeTree) → Leaves (extension_type id metadata u) u t → Same (storage u) (storage t)
leaves_stored id metadata u (extension_type i m t) (inl same) = same_storage (extension_type id metadata u) (extension_type i m t) same
leaves_stored id metadata u (extension_type i m t) (inr h) = leaves_stored id metadata u t h
leaves_stored id metadata u null_type h = same_storage u null_type h
leaves_stored id metadata u t h = same_storage u t h

left_decided : (id metadata : List ℕ) (u t : TypeTree) (v : RawTree) → ¬ (IsNull (content v)) → Valid u v
    → Decided (extension_type id metadata u) t v (kept (may_unwrap (extension_type id metadata u) u t) t v)
left_decided id metadata u t v there valid =
    let s = extension_type id metadata u in
    let test = leaves_Decides s u t in
    kept_decided (may_unwrap s u t) s t v valid (λ found. leaves_allows id metadata u t (content v) there (test.0 found))
    (λ a has. let h = allows_leaves id metadata u t (content v) there a in (test.1 h, leaves_stored id metadata u t h))

-- into extensions

wrapped_left : (s : TypeTree) (id metadata : List ℕ) (u : TypeTree) (c : Content) → ¬ (IsExtension s) → ¬ (IsNull c) → Allows s (extension_type id metadata u) c → Allows s u c
wrapped_left s id metadata u c plain there a =
    present_row (Allows s u c) s (extension_type id metadata u) c _ ⊥ ⊥ ⊥ ⊥ there (λ same. absurd (not_wrapped s id metadata u plain (sym same))) (λ e. e.1)
    (λ i j. absurd j) (λ z. absurd z) (λ z. absurd z) (λ z. absurd z) (λ z. absurd z) (λ w n. absurd (n tt)) a

wrapped : (s : TypeTree) (id metadata : List ℕ) (u : TypeTree) (v : RawTree) (made : Option RawTree) → ¬ (IsExtension s) → ¬ (IsNull (content v)) → Decided s u v made
    → Decided s (extension_type id metadata u) v made
wrapped s id metadata u v None plain there h = λ q. h (wrapped_left s id metadata u (content v) plain there q.0, q.1)
wrapped s id metadata u v (Some w) plain there h = (into_extension (there, h.0), h.1, h.2)

-- what is decided of what the target stores is decided of the target
stored_decided : (s t : TypeTree) (v : RawTree) (made : Option RawTree) → ¬ (IsExtension s) → ¬ (IsNull (content v)) → Decided s (storage t) v made → Decided s t v made
stored_decided s (extension_type id metadata u) v made plain there h = wrapped s id metadata u v made plain there (stored_decided s u v made plain there h)
stored_decided s null_type v made plain there h = h
stored_decided s t v made plain there h = h

-- integers

integer_source : (s : TypeTree) (k : PType) (z : ℤ) → ValidAt s (raw_integer k z) → IsInteger s
integer_source (integer_type l n) k z p = tt
integer_source _ k z p = absurd p

number_decided : (s t : TypeTree) (k : PType) (z : ℤ) → ¬ (IsExtension t) → ValidAt s (raw_integer k z) → Decided s t (raw_integer k z) (number_to z t)
number_decided s (integer_type l n) k z plain p =
    let test = in_range_exactly l z in
    decided_by (in_range l z) s (integer_type l n) (raw_integer k z) (raw_integer l z)
    (λ found. (integers (integer_source s k z p) tt, (refl, test.0 found), refl))
    (λ missed q. let found = test.1 q.1 in cc)
number_decided s (extension_type id metadata t) k z plain p = absurd (plain tt)
number_decided s t k z plain p = λ q. q.1

-- the same type

bare : (t : TypeTree) → ¬ (IsExtension t) → storage t ≡ t
bare (extension_type id metadata t) plain = absurd (plain tt)
bare null_type plain = refl
bare t plain = refl

-- values without parts

stays_same : (v : RawTree) (s t : TypeTree) → keeps_its_kind v s t ≡ true → Same s t
stays_same (raw_bool b) (bool_type n) (bool_type m) e = refl
stays_same (raw_text bs) (utf8_type n) (utf8_type m) e = refl
stays_same (raw_bytes bs) (binary_type n) (binary_type m) e = refl
stays_same (raw_variant u v) (variant_type n) (variant_type m) e = refl
stays_same _ s t e = cc

stays_valid : (v : RawTree) (s t : TypeTree) → keeps_its_kind v s t ≡ true → ValidAt s v → Valid t v
stays_valid (raw_bool b) (bool_type n) (bool_type m) e p = p
stays_valid (raw_text bs) (utf8_type n) (utf8_type m) e p = p
stays_valid (raw_bytes bs) (binary_type n) (binary_type m) e p = p
stays_valid (raw_variant u v) (variant_type n) (variant_type m) e p = p
stays_valid _ s t e p = cc

-- values of the kinds without parts stay between types that are alike
stays_alike : (v : RawTree) (s t : TypeTree) → IsPlain v → ValidAt s v → AlikeAt s t (content v) → keeps_its_kind v s t ≡ true
stays_alike (raw_bool b) (bool_type n) (bool_type m) plain p h = refl
stays_alike (raw_bool b) (bool_type n) _ plain p h = absurd h.1
stays_alike (raw_bool b) _ t plain p h = absurd h.0
stays_alike (raw_text bs) (utf8_type n) (utf8_type m) plain p h = refl
stays_alike (raw_text bs) (utf8_type n) _ plain p h = absurd h.1
stays_alike (raw_text bs) _ t plain p h = absurd h.0
stays_alike (raw_bytes bs) (binary_type n) (binary_type m) plain p h = refl
stays_alike (raw_bytes bs) (binary_type n) _ plain p h = absurd h.1
stays_alike (raw_bytes bs) _ t plain p h = absurd h.0
stays_alike (raw_variant u v) (variant_type n) (variant_type m) plain p h = refl
stays_alike (raw_variant u v) (variant_type n) _ plain p h = cc
stays_alike (raw_variant u v) _ t plain p h = absurd p
stays_alike _ s t plain p h = absurd plain

leaf_decided : (v : RawTree) (s t : TypeTree) → IsPlain v → ¬ (IsExtension s) → ¬ (IsExtension t) → ValidAt s v → Decided s t v (leaf_to v s t)
leaf_decided v s t plain x y p =
    let valid : Valid s v = rw (bare s x) p in
    decided_by (keeps_its_kind v s t) s t v v
    (λ found. (allows_same s t (content v) (stays_same v s t found), stays_valid v s t found p, refl))
    (λ missed q. let there = stays_alike v s t plain p (rw (bare s x, bare t y) at (step_alike t s v valid q.0)) in cc)

-- parts

-- the parts decide the whole
tuple_decided : (allowed had : Type 0) (valid : RawTrees → Type 0) (s t : TypeTree) (vs : RawTrees) (made : Option RawTrees) → (allowed → Allows s t (sequence (contents vs)))
    → (Allows s t (sequence (contents vs)) → HasContent t (sequence (contents vs)) → allowed × had) → ((ws : RawTrees) → contents ws ≡ contents vs → valid ws → Valid t (raw_tuple ws))
    → PartsDecided allowed had valid vs made → Decided s t (raw_tuple vs) (option_map raw_tuple made)
tuple_decided allowed had valid s t vs None up down accept h = λ q. h (down q.0 q.1)
tuple_decided allowed had valid s t vs (Some ws) up down accept h = (up h.0, accept ws h.2 h.1, ap sequence h.2)

-- a first part and the others decide all
both_decided : (first firsts had hads : Type 0) (valid : RawTree → Type 0) (valids all : RawTrees → Type 0) (v : RawTree) (vs : RawTrees) (made : Option RawTree) (others : Option RawTrees)
    → ((w : RawTree) (ws : RawTrees) → valid w → valids ws → all (raw_then w ws)) → Made content first had valid (content v) made → PartsDecided firsts hads valids vs others
    → PartsDecided (first × firsts) (had × hads) all (raw_then v vs) (both made others)
both_decided first firsts had hads valid valids all v vs None others join a b = λ q. a (q.0.0, q.1.0)
both_decided first firsts had hads valid valids all v vs (Some w) None join a b = λ q. b (q.0.1, q.1.1)
both_decided first firsts had hads valid valids all v vs (Some w) (Some ws) join a b = ((a.0, b.0), join w ws a.1 b.1, both_same (content w) (content v) (contents ws) (contents vs) a.2 b.2)

-- a key, a value and the other entries decide all
entry_decided : (k l u w : TypeTree) (x y : RawTree) (vs : RawTrees) (key value : Option RawTree) (others : Option RawTrees) → Decided k l x key → Decided u w y value
    → PartsDecided (EachEntry (Allows k l) (Allows u w) (contents vs)) (HasEntries l w (contents vs)) (EntriesValid l w) vs others
    → PartsDecided (EachEntry (Allows k l) (Allows u w) (contents (raw_then (pair x y) vs))) (HasEntries l w (contents (raw_then (pair x y) vs))) (EntriesValid l w) (raw_then (pair x y) vs) (both (pair_to key value) others)
entry_decided k l u w x y vs None value others a b c = λ q. a (q.0.0, q.1.0)
entry_decided k l u w x y vs (Some i) None others a b c = λ q. b (q.0.1, q.1.1)
entry_decided k l u w x y vs (Some i) (Some j) None a b c = λ q. c (q.0.2, q.1.2)
entry_decided k l u w x y vs (Some i) (Some j) (Some ws) a b c =
    ((a.0, b.0, c.0), (a.1, b.1, c.1), both_same _ _ (contents ws) (contents vs) (ap sequence (both_same _ _ _ _ a.2 (both_same _ _ no_contents no_contents b.2 refl))) c.2)

-- the elements decide a list

same_each : (e f : TypeTree) → Same e f → (cs : Contents) → EachPlace (Allows e f) cs
same_each e f same no_contents = tt
same_each e f same (content_then c cs) = (allows_same e f c same, same_each e f same cs)

list_decided : (e f s t : TypeTree) (vs : RawTrees) (made : Option RawTrees) → (EachPlace (Allows e f) (contents vs) → Allows s t (sequence (contents vs)))
    → (Allows s t (sequence (contents vs)) → Same e f ⊎ EachPlace (Allows e f) (contents vs)) → (HasContent t (sequence (contents vs)) → HasEach f (contents vs))
    → ((ws : RawTrees) → contents ws ≡ contents vs → EachValid f ws → Valid t (raw_tuple ws))
    → PartsDecided (EachPlace (Allows e f) (contents vs)) (HasEach f (contents vs)) (EachValid f) vs made → Decided s t (raw_tuple vs) (option_map raw_tuple made)
list_decided e f s t vs made up down has accept h =
    tuple_decided (EachPlace (Allows e f) (contents vs)) (HasEach f (contents vs)) (EachValid f) s t vs made up (λ a q. (each (down a), has q)) accept h
  where
    each : Same e f ⊎ EachPlace (Allows e f) (contents vs) → EachPlace (Allows e f) (contents vs)
    each (inl same) = same_each e f same (contents vs)
    each (inr h) = h

-- the row that allows a cast between lists
list_row : (s t : TypeTree) (e f : TypeTree) (cs : Contents) → (Same s t → Same e f) → ¬ (IsInteger s) → ¬ (Wraps s t) → Row s t (sequence cs) ⊥ (EachPlace (Allows e f) cs) ⊥ ⊥ ⊥
    → Same e f ⊎ EachPlace (Allows e f) cs
list_row s t e f cs same whole_number wraps a =
    present_row (Same e f ⊎ EachPlace (Allows e f) cs) s t (sequence cs) ⊥ (EachPlace (Allows e f) cs) ⊥ ⊥ ⊥ (λ z. z) (λ h. inl (same h)) (λ z. absurd z) (λ i j. absurd (whole_number i))
    (λ h. inr h) (λ z. absurd z) (λ z. absurd z) (λ z. absurd z) (λ w n. absurd (wraps w)) a

sized_decided : (e f s : TypeTree) (size : ℕ) (n : Nullability) (vs : RawTrees) (made : Option RawTrees) (test : Bool) → Decides test (count vs ≡ size)
    → (EachPlace (Allows e f) (contents vs) → Allows s (fixed_size_list_type f size n) (sequence (contents vs)))
    → (Allows s (fixed_size_list_type f size n) (sequence (contents vs)) → Same e f ⊎ EachPlace (Allows e f) (contents vs))
    → PartsDecided (EachPlace (Allows e f) (contents vs)) (HasEach f (contents vs)) (EachValid f) vs made
    → Decided s (fixed_size_list_type f size n) (raw_tuple vs) (option_map raw_tuple (if test then made else None))
sized_decided e f s size n vs made true decides up down h =
    let sized = decides.0 refl in
    list_decided e f s (fixed_size_list_type f size n) vs made up down (λ q. q.1) (λ ws same valid. (sym (counted ws) ∙ ap count_contents same ∙ counted vs ∙ sized, valid)) h
sized_decided e f s size n vs made false decides up down h = λ q. let sized = decides.1 (sym (counted vs) ∙ q.1.0) in cc

-- the entries decide a map

same_entries : (k l u w : TypeTree) → Same k l → Same u w → (vs : RawTrees) → EntriesValid k u vs → EachEntry (Allows k l) (Allows u w) (contents vs)
same_entries k l u w key value no_raws p = tt
same_entries k l u w key value (raw_then (raw_tuple (raw_then x (raw_then y no_raws))) vs) p =
    (allows_same k l (content x) key, allows_same u w (content y) value, same_entries k l u w key value vs p.2)
same_entries k l u w key value _ p = absurd p

map_row : (k l u w : TypeTree) (from to : Bool) (n m : Nullability) (vs : RawTrees) → EntriesValid k u vs → Allows (map_type k u from n) (map_type l w to m) (sequence (contents vs))
    → (sorts from to ≡ false) × EachEntry (Allows k l) (Allows u w) (contents vs)
map_row k l u w from to n m vs p a =
    let s = map_type k u from n in
    let t = map_type l w to m in
    present_row ((sorts from to ≡ false) × EachEntry (Allows k l) (Allows u w) (contents vs)) s t (sequence (contents vs)) ⊥ ⊥ _ ⊥ ⊥ (λ z. z)
    (λ same. let key : Same k l = cc in let value : Same u w = cc in let sorted : from ≡ to = cc in (sorts_same from to sorted, same_entries k l u w key value vs p))
    (λ z. absurd z) (λ i j. absurd i) (λ z. absurd z) (λ h. (not_sorts k u l w from to n m h.0, h.1)) (λ z. absurd z) (λ z. absurd z) (λ w n. absurd w) a
  where
    sorts_same : (from to : Bool) → from ≡ to → sorts from to ≡ false
    sorts_same false false e = refl
    sorts_same true to e = refl
    sorts_same false true e = cc

    not_sorts : (k u l w : TypeTree) (from to : Bool) (n m : Nullability) → ¬ (Sorts (map_type k u from n) (map_type l w to m)) → sorts from to ≡ false
    not_sorts k u l w false true n m h = absurd (h tt)
    not_sorts k u l w false false n m h = refl
    not_sorts k u l w true to n m h = refl

unsorted : (k u l w : TypeTree) (from to : Bool) (n m : Nullability) → sorts from to ≡ false → ¬ (Sorts (map_type k u from n) (map_type l w to m))
unsorted k u l w false true n m e h = cc
unsorted k u l w _ _ n m e h = absurd h

map_decided : (k l u w : TypeTree) (from to : Bool) (n m : Nullability) (vs : RawTrees) (made : Option RawTrees) (test : Bool) → sorts from to ≡ test → EntriesValid k u vs
    → PartsDecided (EachEntry (Allows k l) (Allows u w) (contents vs)) (HasEntries l w (contents vs)) (EntriesValid l w) vs made
    → Decided (map_type k u from n) (map_type l w to m) (raw_tuple vs) (option_map raw_tuple (if test then None else made))
map_decided k l u w from to n m vs made true is p h = λ q. let open_ = (map_row k l u w from to n m vs p q.0).0 in cc
map_decided k l u w from to n m vs made false is p h =
    tuple_decided _ _ (EntriesValid l w) (map_type k u from n) (map_type l w to m) vs made (λ a. maps (unsorted k u l w from to n m is, a))
    (λ a q. ((map_row k l u w from to n m vs p a).1, q)) (λ ws same valid. valid) h

-- the fields decide a struct

same_fields : (ss ts : TypeTrees) → erase_all ss ≡ erase_all ts → (vs : RawTrees) → FieldsValid ss vs → AllowsFields ss ts (contents vs)
same_fields no_types no_types same no_raws p = tt
same_fields (type_then s ss) (type_then t ts) same (raw_then v vs) p =
    let here : Same s t = cc in
    let rest : erase_all ss ≡ erase_all ts = cc in
    (allows_same s t (content v) here, same_fields ss ts rest vs p.1)
same_fields no_types (type_then t ts) same no_raws p = cc
same_fields (type_then s ss) no_types same (raw_then v vs) p = cc
same_fields no_types ts same (raw_then v vs) p = absurd p
same_fields (type_then s ss) ts same no_raws p = absurd p

struct_decided : (names others : List (List ℕ)) (ss ts : TypeTrees) (n m : Nullability) (vs : RawTrees) (made : Option RawTrees) → FieldsValid ss vs
    → PartsDecided (AllowsFields ss ts (contents vs)) (HasFields ts (contents vs)) (FieldsValid ts) vs made
    → Decided (struct_type names ss n) (struct_type others ts m) (raw_tuple vs) (option_map raw_tuple made)
struct_decided names others ss ts n m vs made p h =
    let s = struct_type names ss n in
    let t = struct_type others ts m in
    tuple_decided _ _ (FieldsValid ts) s t vs made (λ a. structs a)
    (λ a q. (
      present_row (AllowsFields ss ts (contents vs)) s t (sequence (contents vs)) ⊥ ⊥ ⊥ _ ⊥ (λ z. z) (λ same. let fields : erase_all ss ≡ erase_all ts = cc in same_fields ss ts fields vs p)
          (λ z. absurd z) (λ i j. absurd i) (λ z. absurd z) (λ z. absurd z) (λ h. h) (λ z. absurd z) (λ w n. absurd w) a,
      q,
    )) (λ ws same valid. valid) h

-- the parts of a tuple, by what the types say that they are
parts_decided : (vs : RawTrees) (each : TypeTree → TypeTree → Option RawTrees) (entries : MapParts → MapParts → Option RawTrees) (fields : TypeTrees → TypeTrees → Option RawTrees)
    → ((e f : TypeTree) → EachValid e vs → PartsDecided (EachPlace (Allows e f) (contents vs)) (HasEach f (contents vs)) (EachValid f) vs (each e f))
    → ((a b : MapParts) → EntriesValid a.key a.value vs
    → PartsDecided (EachEntry (Allows a.key b.key) (Allows a.value b.value) (contents vs)) (HasEntries b.key b.value (contents vs)) (EntriesValid b.key b.value) vs (entries a b))
    → ((ss ts : TypeTrees) → FieldsValid ss vs → PartsDecided (AllowsFields ss ts (contents vs)) (HasFields ts (contents vs)) (FieldsValid ts) vs (fields ss ts))
    → (s t : TypeTree) → ¬ (IsExtension s) → ¬ (IsExtension t) → ValidAt s (raw_tuple vs)
    → Decided s t (raw_tuple vs) (option_map raw_tuple (tuple_to (count vs) each (λ a b. map_to entries a b) fields s t))
parts_decided vs each entries fields g h k (extension_type i m u) t x y p = absurd (x tt)
parts_decided vs each entries fields g h k s (extension_type i m u) x y p = absurd (y tt)
parts_decided vs each entries fields g h k (list_type e n) (list_type f m) x y p =
    list_decided e f (list_type e n) (list_type f m) vs (each e f) lists (list_row (list_type e n) (list_type f m) e f (contents vs) (λ same. cc) (λ z. z) (λ z. z)) (λ q. q) (λ ws same valid. valid) (g e f p)
parts_decided vs each entries fields g h k (list_type e n) (fixed_size_list_type f size m) x y p =
    sized_decided e f (list_type e n) size m vs (each e f) (count vs == size) (Decides-eqb (count vs) size) lists (list_row (list_type e n) (fixed_size_list_type f size m) e f (contents vs) (λ same. cc) (λ z. z) (λ z. z)) (g e f p)
parts_decided vs each entries fields g h k (fixed_size_list_type e other n) (list_type f m) x y p =
    list_decided e f (fixed_size_list_type e other n) (list_type f m) vs (each e f) lists (list_row (fixed_size_list_type e other n) (list_type f m) e f (contents vs) (λ same. cc) (λ z. z) (λ z. z)) (λ q. q) (λ ws same valid. valid) (g e f p.1)
parts_decided vs each entries fields g h k (fixed_size_list_type e other n) (fixed_size_list_type f size m) x y p =
    sized_decided e f (fixed_size_list_type e other n) size m vs (each e f) (count vs == size) (Decides-eqb (count vs) size) lists
    (list_row (fixed_size_list_type e other n) (fixed_size_list_type f size m) e f (contents vs) (λ same. cc) (λ z. z) (λ z. z)) (g e f p.1)
parts_decided vs each entries fields g h k (map_type a u from n) (map_type l w to m) x y p =
    map_decided a l u w from to n m vs _ (sorts from to) refl p (h (record { key = a; value = u; keys_sorted = from }) (record { key = l; value = w; keys_sorted = to }) p)
parts_decided vs each entries fields g h k (struct_type names ss n) (struct_type others ts m) x y p = struct_decided names others ss ts n m vs (fields ss ts) p (k ss ts p)
parts_decided vs each entries fields g h k s t x y p = λ q. step_alike t s (raw_tuple vs) p q.0

-- the child decides a union

no_second : (o : Option TypeTree) → two_types o None ≡ None
no_second None = refl
no_second (Some t) = refl

-- what is decided of a child between the two types of its id, where `allowed` says what the table allows of it
abbrev ChildDecided : RawTree → (TypeTree → TypeTree → Option RawTree) → Type 0 → Option TypeTree → Option TypeTree → Type 0
ChildDecided v made allowed source target =
    Made content allowed (HasType target (λ t. HasContent t (content v))) (λ w. HasType target (λ t. Valid t w)) (content v) (child_to made (two_types source target))

one_or_later : (b : Bool) (s t : TypeTree) (o u : Option TypeTree) (v : RawTree) (made : TypeTree → TypeTree → Option RawTree) (later : Type 0) → (Valid s v → Decided s t v (made s t))
    → (HasType o (λ a. Valid a v) → ChildDecided v made later o u) → HasType (if b then Some s else o) (λ a. Valid a v)
    → ChildDecided v made (ForId b (Allows s t (content v)) later) (if b then Some s else o) (if b then Some t else u)
one_or_later true s t o u v made later here there p = here p
one_or_later false s t o u v made later here there p = there p

child_decided : (id : ℕ) (v : RawTree) (made : TypeTree → TypeTree → Option RawTree) → ((a b : TypeTree) → Valid a v → Decided a b v (made a b)) → (ids : List ℕ) (ss ts : TypeTrees)
    → HasType (type_with id ids ss) (λ a. Valid a v) → ChildDecided v made (AllowsChild id ids ss ts (content v)) (type_with id ids ss) (type_with id ids ts)
child_decided id v made decide [] ss ts p = absurd p
child_decided id v made decide (i ∷ ids) no_types ts p = absurd p
child_decided id v made decide (i ∷ ids) (type_then s ss) no_types p = rw (no_second (if i == id then Some s else type_with id ids ss)) (λ q. q.0)
child_decided id v made decide (i ∷ ids) (type_then s ss) (type_then t ts) p =
    one_or_later (i == id) s t (type_with id ids ss) (type_with id ids ts) v made (AllowsChild id ids ss ts (content v)) (decide s t) (child_decided id v made decide ids ss ts) p

same_or_later : (b : Bool) (s t : TypeTree) (o : Option TypeTree) (p : TypeTree → Type 0) (c : Content) (later : Type 0) → Same s t → (HasType o p → later) → HasType (if b then Some s else o) p
    → ForId b (Allows s t c) later
same_or_later true s t o p c later same there h = allows_same s t c same
same_or_later false s t o p c later same there h = there h

same_child : (id : ℕ) (ids : List ℕ) (ss ts : TypeTrees) (p : TypeTree → Type 0) (c : Content) → erase_all ss ≡ erase_all ts → HasType (type_with id ids ss) p → AllowsChild id ids ss ts c
same_child id [] ss ts p c same h = absurd h
same_child id (i ∷ ids) no_types ts p c same h = absurd h
same_child id (i ∷ ids) (type_then s ss) no_types p c same h = cc
same_child id (i ∷ ids) (type_then s ss) (type_then t ts) p c same h =
    let here : Same s t = cc in
    let rest : erase_all ss ≡ erase_all ts = cc in
    same_or_later (i == id) s t (type_with id ids ss) p c (AllowsChild id ids ss ts c) here (same_child id ids ss ts p c rest) h

-- the row that allows a cast between unions
union_row : (names others : List (List ℕ)) (ss ts : TypeTrees) (is js : List ℕ) (n m : Nullability) (id : ℕ) (c : Content) (p : TypeTree → Type 0) → HasType (type_with id is ss) p
    → Allows (union_type names ss is n) (union_type others ts js m) (tagged id c) → (is ≡ js) × AllowsChild id js ss ts c
union_row names others ss ts is js n m id c p h a =
    present_row ((is ≡ js) × AllowsChild id js ss ts c) (union_type names ss is n) (union_type others ts js m) (tagged id c) ⊥ ⊥ ⊥ ⊥ _ (λ z. z)
    (λ same.
    let ids : is ≡ js = cc in
    let types : erase_all ss ≡ erase_all ts = cc in
    let there : HasType (type_with id js ss) p = rw (← ids) h in
    (ids, same_child id js ss ts p c types there))
    (λ z. absurd z) (λ i j. absurd i) (λ z. absurd z) (λ z. absurd z) (λ z. absurd z) (λ e. e) (λ w n. absurd w) a

-- the ids are the same
tagged_decided : (names others : List (List ℕ)) (ss ts : TypeTrees) (ids : List ℕ) (n m : Nullability) (id : ℕ) (v : RawTree) (made : Option RawTree) → HasType (type_with id ids ss) (λ a. Valid a v)
    → Made content (AllowsChild id ids ss ts (content v)) (HasType (type_with id ids ts) (λ t. HasContent t (content v))) (λ w. HasType (type_with id ids ts) (λ t. Valid t w)) (content v) made
    → Decided (union_type names ss ids n) (union_type others ts ids m) (raw_union id v) (option_map (raw_union id) made)
tagged_decided names others ss ts ids n m id v None p h = λ q. h ((union_row names others ss ts ids ids n m id (content v) (λ a. Valid a v) p q.0).1, q.1)
tagged_decided names others ss ts ids n m id v (Some w) p h = (unions (refl, h.0), h.1, ap (tagged id) h.2)

-- the ids are the same or not
ids_decided : (names others : List (List ℕ)) (ss ts : TypeTrees) (is js : List ℕ) (n m : Nullability) (id : ℕ) (v : RawTree) (made : TypeTree → TypeTree → Option RawTree) (test : Bool) → Decides test (is ≡ js)
    → ((a b : TypeTree) → Valid a v → Decided a b v (made a b)) → HasType (type_with id is ss) (λ a. Valid a v)
    → Decided (union_type names ss is n) (union_type others ts js m) (raw_union id v) (option_map (raw_union id) (child_to made (if test then two_types (type_with id is ss) (type_with id js ts) else None)))
ids_decided names others ss ts is js n m id v made true decides decide p =
    let P : List ℕ → Type 0 = λ ids.
    HasType (type_with id ids ss) (λ a. Valid a v)
    → Decided (union_type names ss ids n) (union_type others ts js m) (raw_union id v) (option_map (raw_union id) (child_to made (two_types (type_with id ids ss) (type_with id js ts)))) in
    subst P (sym (decides.0 refl)) (λ q. tagged_decided names others ss ts js n m id v _ q (child_decided id v made decide js ss ts q)) p
ids_decided names others ss ts is js n m id v made false decides decide p =
    λ q. let same = decides.1 (union_row names others ss ts is js n m id (content v) (λ a. Valid a v) p q.0).0 in cc

union_decided : (id : ℕ) (v : RawTree) (made : TypeTree → TypeTree → Option RawTree) → ((a b : TypeTree) → Valid a v → Decided a b v (made a b))
    → (s t : TypeTree) → ¬ (IsExtension s) → ¬ (IsExtension t) → ValidAt s (raw_union id v) → Decided s t (raw_union id v) (option_map (raw_union id) (child_to made (types_with id s t)))
union_decided id v made decide (extension_type i m u) t x y p = absurd (x tt)
union_decided id v made decide s (extension_type i m u) x y p = absurd (y tt)
union_decided id v made decide (union_type names ss is n) (union_type others ts js m) x y p =
    ids_decided names others ss ts is js n m id v made (bytes_eq is js) (bytes_eq-Decides is js) decide p
union_decided id v made decide s t x y p = λ q. step_alike t s (raw_union id v) p q.0

-- values from one type to another, of which `decide` speaks between types that are no extensions

stored_plain : (t : TypeTree) → ¬ (IsExtension (storage t))
stored_plain (extension_type id metadata t) h = stored_plain t h
stored_plain null_type h = h
stored_plain t h = h

whole_decided : (made : TypeTree → TypeTree → Option RawTree) (v : RawTree)
    → (is_absent v ≡ false → (a b : TypeTree) → ¬ (IsExtension a) → ¬ (IsExtension b) → ValidAt a v → Decided a b v (made a b))
    → (s t : TypeTree) → Valid s v → Decided s t v (whole_to made v s t)
whole_decided made absent decide s t p = null_decided s t
whole_decided made v decide (extension_type id metadata u) t p = left_decided id metadata u t v (λ z. z) p
whole_decided made v decide s t p = stored_decided s t v (made s (storage t)) (λ z. z) (λ z. z) (decide refl s (storage t) (λ z. z) (stored_plain t) p)

mutual
  bare_decided : (v : RawTree) → is_absent v ≡ false → (s t : TypeTree) → ¬ (IsExtension s) → ¬ (IsExtension t) → ValidAt s v → Decided s t v (bare_to v s t)
  bare_decided absent there s t x y p = cc
  bare_decided (raw_integer k z) there s t x y p = number_decided s t k z y p
  bare_decided (raw_tuple vs) there s t x y p =
      parts_decided vs (λ e f. each_to vs e f) (λ a b. entries_to vs a b) (λ ss ts. fields_to vs ss ts)
      (λ e f q. each_decided vs e f q) (λ a b q. entries_decided vs a b q) (λ ss ts q. fields_decided vs ss ts q) s t x y p
  bare_decided (raw_union id v) there s t x y p =
      union_decided id v (λ a b. whole_to (λ i j. bare_to v i j) v a b) (λ a b q. whole_decided (λ i j. bare_to v i j) v (bare_decided v) a b q) s t x y p
  bare_decided v there s t x y p = leaf_decided v s t tt x y p

  each_decided : (vs : RawTrees) (e f : TypeTree) → EachValid e vs → PartsDecided (EachPlace (Allows e f) (contents vs)) (HasEach f (contents vs)) (EachValid f) vs (each_to vs e f)
  each_decided no_raws e f p = (tt, tt, refl)
  each_decided (raw_then v vs) e f p =
      both_decided _ _ _ _ (Valid f) (EachValid f) (EachValid f) v vs (cast_to v e f) (each_to vs e f) (λ w ws q r. (q, r))
      (whole_decided (λ a b. bare_to v a b) v (bare_decided v) e f p.0) (each_decided vs e f p.1)

  entries_decided : (vs : RawTrees) (a b : MapParts) → EntriesValid a.key a.value vs
      → PartsDecided (EachEntry (Allows a.key b.key) (Allows a.value b.value) (contents vs)) (HasEntries b.key b.value (contents vs)) (EntriesValid b.key b.value) vs (entries_to vs a b)
  entries_decided no_raws a b p = (tt, tt, refl)
  entries_decided (raw_then (raw_tuple (raw_then x (raw_then y no_raws))) vs) a b p =
      entry_decided a.key b.key a.value b.value x y vs (cast_to x a.key b.key) (cast_to y a.value b.value) (entries_to vs a b)
      (whole_decided (λ s t. bare_to x s t) x (bare_decided x) a.key b.key p.0) (whole_decided (λ s t. bare_to y s t) y (bare_decided y) a.value b.value p.1) (entries_decided vs a b p.2)
  entries_decided _ a b p = absurd p

  fields_decided : (vs : RawTrees) (ss ts : TypeTrees) → FieldsValid ss vs → PartsDecided (AllowsFields ss ts (contents vs)) (HasFields ts (contents vs)) (FieldsValid ts) vs (fields_to vs ss ts)
  fields_decided no_raws no_types no_types p = (tt, tt, refl)
  fields_decided (raw_then v vs) (type_then s ss) (type_then t ts) p =
      both_decided _ _ _ _ (Valid t) (FieldsValid ts) (FieldsValid (type_then t ts)) v vs (cast_to v s t) (fields_to vs ss ts) (λ w ws q r. (q, r))
      (whole_decided (λ a b. bare_to v a b) v (bare_decided v) s t p.0) (fields_decided vs ss ts p.1)
  fields_decided no_raws no_types (type_then t ts) p = λ q. q.0
  fields_decided (raw_then v vs) (type_then s ss) no_types p = λ q. q.0
  fields_decided _ _ ts p = absurd p

-- what a cast makes of a valid value is what the table says
pub cast_decided : (v : RawTree) (s t : TypeTree) → Valid s v → Decided s t v (cast_to v s t)
cast_decided v s t p = whole_decided (λ a b. bare_to v a b) v (bare_decided v) s t p

pub cast_made : (v w : RawTree) (s t : TypeTree) → Valid s v → cast_to v s t ≡ Some w → IsCast s t v w
cast_made v w s t p made = let h = rw made at (cast_decided v s t p) in record { allowed = h.0; valid = h.1; same = h.2 }

-- what a refusal says
pub cast_refused : (v : RawTree) (s t : TypeTree) (e : Refusal) → Valid s v → Refused (cast_to v s t) e → (IsFlat t → e ≢ NoMemory) → RefusesCast t (CanCast s t (content v)) (error_of e)
cast_refused v s t e p (inl memory) spared = rw memory (λ flat. spared flat memory)
cast_refused v s t e p (inr refused) spared =
    let h = rw refused.1 at (cast_decided v s t p) in
    rw refused.0 (λ q. h (q.0, (has_by_cases t (content v)).0 q.1))

-- a refusal that becomes out of memory is that
pub no_memory : (e : Refusal) → error_of e ≡ OutOfMemory → e ≡ NoMemory
no_memory NoMemory is = refl
no_memory Impossible is = cc

pub refused_with : {A : Type 0} (r : Result A VortexError) (e : VortexError) (P : VortexError → Type 0) → r ≡ Err e → P e → IfErr r P
refused_with (Ok x) e P is p = cc
refused_with (Err f) e P is p = let same : f ≡ e = cc in subst P (sym same) p

-- what there is to make is possible
pub cast_of_some : (v : RawTree) (s t : TypeTree) → Valid s v → IsSome (cast_to v s t) → CanCast s t (content v)
cast_of_some v s t p some = possible (cast_to v s t) (cast_decided v s t p) some
  where
    possible : (made : Option RawTree) → Decided s t v made → IsSome made → CanCast s t (content v)
    possible (Some w) h some = (h.0, record { value = w; valid = h.1; same = h.2 })
    possible None h some = cc
