-- Types that are the same up to nullability have one raw value of each content.
use Rattle.std.proofs.Common.{◌≡◌, ℕ, ℤ, ◌==◌, Bool, true, false, if◌then◌else◌, List, [], ◌∷◌, Option, Some, refl, sym, ap, ◌∙◌, rules}
use Rattle.vortex_dtype.specs.TypeTree.{TypeTree, integer_type, list_type, fixed_size_list_type, map_type, struct_type, union_type, variant_type, extension_type, TypeTrees, no_types, type_then, erase, erase_all, Same, storage}
use Rattle.vortex_dtype.specs.declared.nullability.Nullability.{Nullability}
use Rattle.vortex_dtype.specs.declared.ptype.PType.{PType}
use Rattle.vortex_value.specs.Casts.{OneValue}
use Rattle.vortex_value.specs.Values.Content.{content, contents}
use Rattle.vortex_value.specs.Values.RawTree.{RawTree, absent, raw_bool, raw_integer, raw_text, raw_bytes, raw_tuple, raw_union, raw_variant, RawTrees, no_raws, raw_then}
use Rattle.vortex_value.specs.Validity.{type_with, HasType, ValidAt, EachValid, EntriesValid, FieldsValid, Valid}

-- types that are the same stay so below their extensions

storage_erased : (t : TypeTree) → erase (storage t) ≡ storage (erase t)
storage_erased (extension_type id metadata t) = storage_erased t
storage_erased _ = refl

pub same_storage : (s t : TypeTree) → Same s t → Same (storage s) (storage t)
same_storage s t e = storage_erased s ∙ ap storage e ∙ sym (storage_erased t)

-- integers: the kind is that of the type

integer_of : (a : PType) (n : Nullability) (t : TypeTree) (l : PType) (z : ℤ) → Same (integer_type a n) t → ValidAt t (raw_integer l z) → l ≡ a
integer_of a n (integer_type b m) l z e q = let x : a ≡ b = cc in q.0 ∙ sym x
integer_of a n _ l z e q = absurd q

one_ptype : (s t : TypeTree) (k l : PType) (y z : ℤ) → Same s t → ValidAt s (raw_integer k y) → ValidAt t (raw_integer l z) → k ≡ l
one_ptype (integer_type a n) t k l y z e p q = p.0 ∙ sym (integer_of a n t l z e q)
one_ptype _ t k l y z e p q = absurd p

-- tuples: by what the type of the first is

list_same : (e : TypeTree) (n : Nullability) (t : TypeTree) (ws : RawTrees) (G : Type 0) → Same (list_type e n) t
    → ((f : TypeTree) → Same e f → EachValid f ws → G) → ValidAt t (raw_tuple ws) → G
list_same e n (list_type f m) ws G same go q = let x : Same e f = cc in go f x q
list_same e n _ ws G same go q = search rules

fixed_size_list_same : (e : TypeTree) (size : ℕ) (n : Nullability) (t : TypeTree) (ws : RawTrees) (G : Type 0) → Same (fixed_size_list_type e size n) t
    → ((f : TypeTree) → Same e f → EachValid f ws → G) → ValidAt t (raw_tuple ws) → G
fixed_size_list_same e size n (fixed_size_list_type f other m) ws G same go q = let x : Same e f = cc in go f x q.1
fixed_size_list_same e size n _ ws G same go q = search rules

map_same : (k w : TypeTree) (sorted : Bool) (n : Nullability) (t : TypeTree) (ws : RawTrees) (G : Type 0) → Same (map_type k w sorted n) t
    → ((l x : TypeTree) → Same k l → Same w x → EntriesValid l x ws → G) → ValidAt t (raw_tuple ws) → G
map_same k w sorted n (map_type l x other m) ws G same go q =
    let key : Same k l = cc in let value : Same w x = cc in go l x key value q
map_same k w sorted n _ ws G same go q = search rules

struct_same : (names : List (List ℕ)) (ss : TypeTrees) (n : Nullability) (t : TypeTree) (ws : RawTrees) (G : Type 0) → Same (struct_type names ss n) t
    → ((ts : TypeTrees) → erase_all ss ≡ erase_all ts → FieldsValid ts ws → G) → ValidAt t (raw_tuple ws) → G
struct_same names ss n (struct_type others ts m) ws G same go q = let x : erase_all ss ≡ erase_all ts = cc in go ts x q
struct_same names ss n _ ws G same go q = search rules

tuple_same : (s t : TypeTree) (vs ws : RawTrees) (G : Type 0) → Same s t
    → ((e f : TypeTree) → Same e f → EachValid e vs → EachValid f ws → G)
    → ((ss ts : TypeTrees) → erase_all ss ≡ erase_all ts → FieldsValid ss vs → FieldsValid ts ws → G)
    → ((k l w x : TypeTree) → Same k l → Same w x → EntriesValid k w vs → EntriesValid l x ws → G)
    → ValidAt s (raw_tuple vs) → ValidAt t (raw_tuple ws) → G
tuple_same (list_type e n) t vs ws G same elements fields entries p q = list_same e n t ws G same (λ f z. elements e f z p) q
tuple_same (fixed_size_list_type e size n) t vs ws G same elements fields entries p q = fixed_size_list_same e size n t ws G same (λ f z. elements e f z p.1) q
tuple_same (map_type k w sorted n) t vs ws G same elements fields entries p q = map_same k w sorted n t ws G same (λ l x y z. entries k l w x y z p) q
tuple_same (struct_type names ss n) t vs ws G same elements fields entries p q = struct_same names ss n t ws G same (λ ts z. fields ss ts z p) q
tuple_same _ t vs ws G same elements fields entries p q = absurd p

-- unions: one id gives types that are the same

choose : (b : Bool) (s t : TypeTree) (o u : Option TypeTree) (p q : TypeTree → Type 0) (G : Type 0) → (p s → q t → G) → (HasType o p → HasType u q → G)
    → HasType (if b then Some s else o) p → HasType (if b then Some t else u) q → G
choose true s t o u p q G found others x y = found x y
choose false s t o u p q G found others x y = others x y

with_same : (id : ℕ) (is : List ℕ) (ss ts : TypeTrees) (p q : TypeTree → Type 0) (G : Type 0) → erase_all ss ≡ erase_all ts
    → ((s t : TypeTree) → Same s t → p s → q t → G) → HasType (type_with id is ss) p → HasType (type_with id is ts) q → G
with_same id [] ss ts p q G same go x y = absurd x
with_same id (i ∷ is) no_types ts p q G same go x y = absurd x
with_same id (i ∷ is) (type_then s ss) no_types p q G same go x y = absurd y
with_same id (i ∷ is) (type_then s ss) (type_then t ts) p q G same go x y =
    let head : Same s t = cc in
    let tail : erase_all ss ≡ erase_all ts = cc in
    choose (i == id) s t (type_with id is ss) (type_with id is ts) p q G (go s t head) (with_same id is ss ts p q G tail go) x y

child_of : (names : List (List ℕ)) (ss : TypeTrees) (ids : List ℕ) (n : Nullability) (t : TypeTree) (id : ℕ) (v w : RawTree) (G : Type 0)
    → Same (union_type names ss ids n) t → ((a b : TypeTree) → Same a b → Valid a v → Valid b w → G)
    → HasType (type_with id ids ss) (λ a. Valid a v) → ValidAt t (raw_union id w) → G
child_of names ss ids n (union_type others ts jds m) id v w G same go p q =
    let x : erase_all ss ≡ erase_all ts = cc in
    let y : jds ≡ ids = cc in
    let r : HasType (type_with id ids ts) (λ b. Valid b w) = rw (← y) q in
    with_same id ids ss ts (λ a. Valid a v) (λ b. Valid b w) G x go p r
child_of names ss ids n _ id v w G same go p q = absurd q

child_same : (s t : TypeTree) (id : ℕ) (v w : RawTree) (G : Type 0) → Same s t
    → ((a b : TypeTree) → Same a b → Valid a v → Valid b w → G) → ValidAt s (raw_union id v) → ValidAt t (raw_union id w) → G
child_same (union_type names ss ids n) t id v w G same go p q = child_of names ss ids n t id v w G same go p q
child_same _ t id v w G same go p q = absurd p

-- variants: the scalar inside is valid for its own type

inside : (s a : TypeTree) (v : RawTree) → ValidAt s (raw_variant a v) → Valid a v
inside (variant_type n) a v p = p.1
inside _ a v p = absurd p

variant_parts : (a b : TypeTree) (v w : RawTree) (G : Type 0) → content (raw_variant a v) ≡ content (raw_variant b w) → (a ≡ b → content v ≡ content w → G) → G
variant_parts a b v w G c go = let x : a ≡ b = cc in let y : content v ≡ content w = cc in go x y

-- entries: one of the same content is a pair too

as_entry : (l u : TypeTree) (x y : RawTree) (vs ws : RawTrees) (G : RawTrees → Type 0)
    → EntriesValid l u ws → contents (raw_then (raw_tuple (raw_then x (raw_then y no_raws))) vs) ≡ contents ws
    → ((a b : RawTree) (rest : RawTrees) → Valid l a → Valid u b → EntriesValid l u rest → content x ≡ content a → content y ≡ content b → contents vs ≡ contents rest
    → G (raw_then (raw_tuple (raw_then a (raw_then b no_raws))) rest))
    → G ws
as_entry l u x y vs no_raws G q c go = absurd (let e : contents (raw_then (raw_tuple (raw_then x (raw_then y no_raws))) vs) ≡ contents no_raws = c in cc)
as_entry l u x y vs (raw_then (raw_tuple (raw_then a (raw_then b no_raws))) rest) G q c go =
    let d : content x ≡ content a = cc in
    let e : content y ≡ content b = cc in
    let f : contents vs ≡ contents rest = cc in
    go a b rest q.0 q.1 q.2 d e f
as_entry l u x y vs _ G q c go = absurd q

-- equal parts make equal wholes

pairs : (v w : RawTree) (vs ws : RawTrees) → v ≡ w → vs ≡ ws → raw_then v vs ≡ raw_then w ws
pairs v w vs ws p q = cc

entries : (x a y b : RawTree) (vs ws : RawTrees) → x ≡ a → y ≡ b → vs ≡ ws
    → raw_then (raw_tuple (raw_then x (raw_then y no_raws))) vs ≡ raw_then (raw_tuple (raw_then a (raw_then b no_raws))) ws
entries x a y b vs ws p q r = cc

integers : (k l : PType) (y z : ℤ) → k ≡ l → content (raw_integer k y) ≡ content (raw_integer l z) → raw_integer k y ≡ raw_integer l z
integers k l y z p c = cc

unions : (i j : ℕ) (v w : RawTree) → i ≡ j → v ≡ w → raw_union i v ≡ raw_union j w
unions i j v w p q = cc

variants : (a b : TypeTree) (v w : RawTree) → a ≡ b → v ≡ w → raw_variant a v ≡ raw_variant b w
variants a b v w p q = cc

no_more : (ws : RawTrees) → contents no_raws ≡ contents ws → no_raws ≡ ws
no_more no_raws c = refl
no_more (raw_then w ws) c = cc

-- one value of each content
mutual
  pub one : (v w : RawTree) (s t : TypeTree) → Same s t → ValidAt s v → ValidAt t w → content v ≡ content w → v ≡ w
  one absent absent s t e p q c = refl
  one (raw_bool a) (raw_bool b) s t e p q c = cc
  one (raw_text a) (raw_text b) s t e p q c = cc
  one (raw_bytes a) (raw_bytes b) s t e p q c = cc
  one (raw_integer k y) (raw_integer l z) s t e p q c = integers k l y z (one_ptype s t k l y z e p q) c
  one (raw_tuple vs) (raw_tuple ws) s t e p q c =
      let x : contents vs ≡ contents ws = cc in
      ap raw_tuple (tuple_same s t vs ws (vs ≡ ws) e
      (λ a b same m n. one_each vs ws a b same m n x)
      (λ as' bs same m n. one_fields vs ws as' bs same m n x)
      (λ a b g h key value m n. one_entries vs ws a b g h key value m n x) p q)
  one (raw_union i v) (raw_union j w) s t e p q c =
      let x : content v ≡ content w = cc in
      let y : j ≡ i = cc in
      let r : ValidAt t (raw_union i w) = rw (← y) q in
      unions i j v w (sym y) (child_same s t i v w (v ≡ w) e (λ a b same m n. one v w (storage a) (storage b) (same_storage a b same) m n x) p r)
  one (raw_variant a v) (raw_variant b w) s t e p q c =
      variant_parts a b v w (raw_variant a v ≡ raw_variant b w) c
      (λ same x. variants a b v w same (one v w (storage a) (storage b) (same_storage a b (ap erase same)) (inside s a v p) (inside t b w q) x))
  one _ _ s t e p q c = cc

  one_each : (vs ws : RawTrees) (s t : TypeTree) → Same s t → EachValid s vs → EachValid t ws → contents vs ≡ contents ws → vs ≡ ws
  one_each no_raws ws s t e p q c = no_more ws c
  one_each (raw_then v vs) (raw_then w ws) s t e p q c =
      let x : content v ≡ content w = cc in
      let y : contents vs ≡ contents ws = cc in
      pairs v w vs ws (one v w (storage s) (storage t) (same_storage s t e) p.0 q.0 x) (one_each vs ws s t e p.1 q.1 y)
  one_each (raw_then v vs) no_raws s t e p q c = cc

  one_fields : (vs ws : RawTrees) (ss ts : TypeTrees) → erase_all ss ≡ erase_all ts → FieldsValid ss vs → FieldsValid ts ws → contents vs ≡ contents ws → vs ≡ ws
  one_fields no_raws ws ss ts e p q c = no_more ws c
  one_fields (raw_then v vs) (raw_then w ws) (type_then s ss) (type_then t ts) e p q c =
      let x : content v ≡ content w = cc in
      let y : contents vs ≡ contents ws = cc in
      let same : Same s t = cc in
      let others : erase_all ss ≡ erase_all ts = cc in
      pairs v w vs ws (one v w (storage s) (storage t) (same_storage s t same) p.0 q.0 x) (one_fields vs ws ss ts others p.1 q.1 y)
  one_fields (raw_then v vs) no_raws ss ts e p q c = cc
  one_fields (raw_then v vs) (raw_then w ws) no_types ts e p q c = absurd p
  one_fields (raw_then v vs) (raw_then w ws) (type_then s ss) no_types e p q c = absurd q

  one_entries : (vs ws : RawTrees) (k l s t : TypeTree) → Same k l → Same s t → EntriesValid k s vs → EntriesValid l t ws → contents vs ≡ contents ws → vs ≡ ws
  one_entries no_raws ws k l s t d e p q c = no_more ws c
  one_entries (raw_then (raw_tuple (raw_then x (raw_then y no_raws))) vs) ws k l s t d e p q c =
      as_entry l t x y vs ws (λ others. raw_then (raw_tuple (raw_then x (raw_then y no_raws))) vs ≡ others) q c
      (λ a b rest m n o f g h. entries x a y b vs rest
      (one x a (storage k) (storage l) (same_storage k l d) p.0 m f)
      (one y b (storage s) (storage t) (same_storage s t e) p.1 n g)
      (one_entries vs rest k l s t d e p.2 o h))
  one_entries _ ws k l s t d e p q c = absurd p

-- types that are the same up to nullability have one raw value of each content
pub one_value : OneValue
one_value s t v w e p q c = one v w (storage s) (storage t) (same_storage s t e) p q c
