-- The contents that a type has are those that the cases give.
use Rattle.std.proofs.Common.{◌≡◌, ℕ, suc, List, Option, Some, None, refl, sym, ap, ◌∙◌, subst}
use Rattle.vortex_dtype.specs.TypeTree.{TypeTree, bool_type, integer_type, utf8_type, binary_type, list_type, fixed_size_list_type, map_type, struct_type, union_type, variant_type, TypeTrees, no_types, type_then, storage}
use Rattle.vortex_value.specs.Casts.{Has}
use Rattle.vortex_value.specs.Values.Content.{Content, null, truth, whole, text, string, sequence, tagged, typed, Contents, no_contents, content_then, content, contents}
use Rattle.vortex_value.specs.Laws.HasContent.{count_contents, MayStandInside, HasAt, HasEach, HasEntries, HasFields, HasByCases}
use Rattle.vortex_value.specs.Values.RawTree.{RawTree, absent, raw_bool, raw_integer, raw_text, raw_bytes, raw_tuple, raw_union, raw_variant, RawTrees, no_raws, raw_then, count}
use Rattle.vortex_value.specs.Validity.{type_with, HasType, MayBeInside, ValidAt, EachValid, EntriesValid, FieldsValid}

pub counted : (vs : RawTrees) → count_contents (contents vs) ≡ count vs
counted no_raws = refl
counted (raw_then v vs) = ap suc (counted vs)

-- what holds of one type of a union's child, holds of the type that the id gives
in_type : (p q : TypeTree → Type 0) → ((t : TypeTree) → p t → q t) → (o : Option TypeTree) → HasType o p → HasType o q
in_type p q f None h = absurd h
in_type p q f (Some t) h = f t h

stands_inside : (t : TypeTree) (v : RawTree) → MayBeInside t v → MayStandInside t (content v)
stands_inside t absent h = h
stands_inside t (raw_bool b) h = tt
stands_inside t (raw_integer k z) h = tt
stands_inside t (raw_text bs) h = tt
stands_inside t (raw_bytes bs) h = tt
stands_inside t (raw_tuple vs) h = tt
stands_inside t (raw_union i v) h = tt
stands_inside t (raw_variant u v) h = tt

-- the content of a valid value is one of the cases
mutual
  case_of : (t : TypeTree) (v : RawTree) → ValidAt t v → HasAt t (content v)
  case_of t absent p = p
  case_of (bool_type n) (raw_bool b) p = tt
  case_of (utf8_type n) (raw_text bs) p = tt
  case_of (binary_type n) (raw_bytes bs) p = tt
  case_of (integer_type k n) (raw_integer l z) p = p.1
  case_of (list_type e n) (raw_tuple vs) p = case_of_each e vs p
  case_of (fixed_size_list_type e size n) (raw_tuple vs) p = (counted vs ∙ p.0, case_of_each e vs p.1)
  case_of (map_type k w sorted n) (raw_tuple vs) p = case_of_entries k w vs p
  case_of (struct_type names ts n) (raw_tuple vs) p = case_of_fields ts vs p
  case_of (union_type names ts ids n) (raw_union i v) p =
      in_type (λ t. ValidAt (storage t) v) (λ t. HasAt (storage t) (content v)) (λ t. case_of (storage t) v) (type_with i ids ts) p
  case_of (variant_type n) (raw_variant t v) p = (stands_inside t v p.0, case_of (storage t) v p.1)
  case_of _ _ p = absurd p

  case_of_each : (e : TypeTree) (vs : RawTrees) → EachValid e vs → HasEach e (contents vs)
  case_of_each e no_raws p = tt
  case_of_each e (raw_then v vs) p = (case_of (storage e) v p.0, case_of_each e vs p.1)

  case_of_entries : (k w : TypeTree) (vs : RawTrees) → EntriesValid k w vs → HasEntries k w (contents vs)
  case_of_entries k w no_raws p = tt
  case_of_entries k w (raw_then (raw_tuple (raw_then x (raw_then y no_raws))) vs) p =
      (case_of (storage k) x p.0, case_of (storage w) y p.1, case_of_entries k w vs p.2)
  case_of_entries k w _ p = absurd p

  case_of_fields : (ts : TypeTrees) (vs : RawTrees) → FieldsValid ts vs → HasFields ts (contents vs)
  case_of_fields no_types no_raws p = tt
  case_of_fields (type_then t ts) (raw_then v vs) p = (case_of (storage t) v p.0, case_of_fields ts vs p.1)
  case_of_fields _ _ p = absurd p

-- a value with the content of which p holds, and values with the contents
record Value (p : RawTree → Type 0) (c : Content) : Type 0 where
  value : RawTree
  valid : p value
  same : content value ≡ c

record Values (p : RawTrees → Type 0) (cs : Contents) : Type 0 where
  values : RawTrees
  valid : p values
  same : contents values ≡ cs

no_values : (p : RawTrees → Type 0) → p no_raws → Values p no_contents
no_values p h = record { values = no_raws; valid = h; same = refl }

value_then : (p : RawTree → Type 0) (q r : RawTrees → Type 0) (c : Content) (cs : Contents)
    → ((v : RawTree) (vs : RawTrees) → p v → q vs → r (raw_then v vs)) → Value p c → Values q cs → Values r (content_then c cs)
value_then p q r c cs join a b =
    let here = a.same in
    let rest = b.same in
    record { values = raw_then a.value b.values; valid = join a.value b.values a.valid b.valid; same = cc }

entry_then : (p q : RawTree → Type 0) (r s : RawTrees → Type 0) (c d : Content) (cs : Contents)
    → ((v w : RawTree) (vs : RawTrees) → p v → q w → r vs → s (raw_then (raw_tuple (raw_then v (raw_then w no_raws))) vs))
    → Value p c → Value q d → Values r cs → Values s (content_then (sequence (content_then c (content_then d no_contents))) cs)
entry_then p q r s c d cs join a b z =
    let key = a.same in
    let value = b.same in
    let rest = z.same in
    record { values = raw_then (raw_tuple (raw_then a.value (raw_then b.value no_raws))) z.values; valid = join a.value b.value z.values a.valid b.valid z.valid; same = cc }

tuple_of : (p : RawTree → Type 0) (q : RawTrees → Type 0) (cs : Contents) → ((vs : RawTrees) → contents vs ≡ cs → q vs → p (raw_tuple vs)) → Values q cs → Value p (sequence cs)
tuple_of p q cs f a = record { value = raw_tuple a.values; valid = f a.values a.same a.valid; same = ap sequence a.same }

size_of : (vs : RawTrees) (cs : Contents) (size : ℕ) → contents vs ≡ cs → count_contents cs ≡ size → count vs ≡ size
size_of vs cs size e h = sym (counted vs) ∙ ap count_contents e ∙ h

union_value : (names : List (List ℕ)) (ts : TypeTrees) (ids : List ℕ) (n : _) (i : ℕ) (c : Content) (o : Option TypeTree)
    → ((v : RawTree) → HasType o (λ t. ValidAt (storage t) v) → ValidAt (union_type names ts ids n) (raw_union i v))
    → HasType o (λ t. Value (ValidAt (storage t)) c) → Value (ValidAt (union_type names ts ids n)) (tagged i c)
union_value names ts ids n i c None f h = absurd h
union_value names ts ids n i c (Some t) f h = record { value = raw_union i h.value; valid = f h.value h.valid; same = ap (tagged i) h.same }

is_inside : (t : TypeTree) (v : RawTree) (c : Content) → content v ≡ c → MayStandInside t c → MayBeInside t v
is_inside t absent c e h = let P : Content → Type 0 = λ d. MayStandInside t d in subst P (sym e) h
is_inside t _ c e h = tt

-- a valid value for each of the cases
mutual
  value_of : (c : Content) (t : TypeTree) → HasAt t c → Value (ValidAt t) c
  value_of null t h = record { value = absent; valid = h; same = refl }
  value_of (truth b) (bool_type n) h = record { value = raw_bool b; valid = tt; same = refl }
  value_of (text bs) (utf8_type n) h = record { value = raw_text bs; valid = tt; same = refl }
  value_of (string bs) (binary_type n) h = record { value = raw_bytes bs; valid = tt; same = refl }
  value_of (whole z) (integer_type k n) h = record { value = raw_integer k z; valid = (refl, h); same = refl }
  value_of (sequence cs) (list_type e n) h = tuple_of (ValidAt (list_type e n)) (EachValid e) cs (λ vs s p. p) (values_of cs e h)
  value_of (sequence cs) (fixed_size_list_type e size n) h =
      tuple_of (ValidAt (fixed_size_list_type e size n)) (EachValid e) cs (λ vs s p. (size_of vs cs size s h.0, p)) (values_of cs e h.1)
  value_of (sequence cs) (map_type k w sorted n) h = tuple_of (ValidAt (map_type k w sorted n)) (EntriesValid k w) cs (λ vs s p. p) (entries_of cs k w h)
  value_of (sequence cs) (struct_type names ts n) h = tuple_of (ValidAt (struct_type names ts n)) (FieldsValid ts) cs (λ vs s p. p) (fields_of cs ts h)
  value_of (tagged i c) (union_type names ts ids n) h =
      union_value names ts ids n i c (type_with i ids ts) (λ v p. p)
      (in_type (λ t. HasAt (storage t) c) (λ t. Value (ValidAt (storage t)) c) (λ t. value_of c (storage t)) (type_with i ids ts) h)
  value_of (typed t c) (variant_type n) h =
      let a = value_of c (storage t) h.1 in
      record { value = raw_variant t a.value; valid = (is_inside t a.value c a.same h.0, a.valid); same = ap (typed t) a.same }
  value_of _ _ h = absurd h

  values_of : (cs : Contents) (e : TypeTree) → HasEach e cs → Values (EachValid e) cs
  values_of no_contents e h = no_values (EachValid e) tt
  values_of (content_then c cs) e h =
      value_then (ValidAt (storage e)) (EachValid e) (EachValid e) c cs (λ v vs p q. (p, q)) (value_of c (storage e) h.0) (values_of cs e h.1)

  entries_of : (cs : Contents) (k w : TypeTree) → HasEntries k w cs → Values (EntriesValid k w) cs
  entries_of no_contents k w h = no_values (EntriesValid k w) tt
  entries_of (content_then (sequence (content_then a (content_then b no_contents))) cs) k w h =
      entry_then (ValidAt (storage k)) (ValidAt (storage w)) (EntriesValid k w) (EntriesValid k w) a b cs (λ x y vs p q r. (p, q, r))
      (value_of a (storage k) h.0) (value_of b (storage w) h.1) (entries_of cs k w h.2)
  entries_of _ k w h = absurd h

  fields_of : (cs : Contents) (ts : TypeTrees) → HasFields ts cs → Values (FieldsValid ts) cs
  fields_of no_contents no_types h = no_values (FieldsValid no_types) tt
  fields_of (content_then c cs) (type_then t ts) h =
      value_then (ValidAt (storage t)) (FieldsValid ts) (FieldsValid (type_then t ts)) c cs (λ v vs p q. (p, q)) (value_of c (storage t) h.0) (fields_of cs ts h.1)
  fields_of _ _ h = absurd h

has_value : (t : TypeTree) (c : Content) → Value (ValidAt (storage t)) c → Has t c
has_value t c a = record { value = a.value; valid = a.valid; same = a.same }

pub has_by_cases : HasByCases
has_by_cases t c = (λ h. subst (HasAt (storage t)) h.same (case_of (storage t) h.value h.valid), λ h. has_value t c (value_of c (storage t) h))
