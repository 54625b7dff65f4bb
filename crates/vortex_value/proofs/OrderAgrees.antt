-- Where the order of contents says Equal they are equal, and where they are equal and hold no typed child it says so.
use Rattle.std.proofs.Common.{◌≡◌, ◌↔◌, ◌==◌, ◌&&◌, ℕ, Bool, true, false, if◌then◌else◌, List, [], ◌∷◌, Option, Some, None, Ordering, Less, Equal, Greater, refl, ap}
use Rattle.std.specs.Cmp.{first_so, second_so}
use Rattle.std.specs.Ordering.{partial_ordering_then}
use Rattle.std.proofs.lemmas.Bool.{and_from}
use Rattle.std.proofs.lemmas.Bool.Decides.{Decides-eqb}
use Rattle.std.proofs.lemmas.Cmp.{nat_list_cmp_total, int_cmp_total, tied_itself}
use Rattle.std.proofs.lemmas.Map.Lookups.{exact_bytes, exact_signed}
use Rattle.std.proofs.lemmas.Option.{same_Some}
use Rattle.vortex_dtype.specs.TypeTree.{TypeTree, variant_type, extension_type, list_type, fixed_size_list_type, map_type, struct_type, union_type, TypeTrees, no_types, type_then, storage}
use Rattle.vortex_value.specs.Values.Content.{Content, null, truth, whole, text, string, sequence, tagged, typed, Contents, no_contents, content_then, content, contents}
use Rattle.vortex_value.specs.Equality.{EqualContents, AllEqual, HasNoTyped, HaveNoTyped, equal, same_type}
use Rattle.vortex_value.specs.Lemmas.EqualityLaws.{contents-from_equal, equal-from_contents}
use Rattle.vortex_value.specs.Order.{order, orders, truth_cmp, typed_order}
use Rattle.vortex_value.specs.Values.RawTree.{RawTree, absent, raw_bool, raw_integer, raw_text, raw_bytes, raw_tuple, raw_union, raw_variant, RawTrees, no_raws, raw_then}
use Rattle.vortex_value.specs.TypesWithin.{HasNoVariant, HaveNoVariant}
use Rattle.vortex_value.specs.Validity.{HasType, type_with, Valid, ValidAt, EachValid, EntriesValid, FieldsValid}

-- what says Equal is one

truth_cmp-Equal : (b c : Bool) → truth_cmp b c ≡ Equal → b ≡ c
truth_cmp-Equal true true h = refl
truth_cmp-Equal false false h = refl
truth_cmp-Equal true false h = cc
truth_cmp-Equal false true h = cc

-- a step of a sequence says Equal where both parts do
then_Equal : (o p : Option Ordering) → partial_ordering_then o p ≡ Some Equal → (o ≡ Some Equal) × (p ≡ Some Equal)
then_Equal None p h = cc
then_Equal (Some Less) p h = cc
then_Equal (Some Equal) p h = (refl, h)
then_Equal (Some Greater) p h = cc

if_Equal : (b : Bool) (o : Option Ordering) → (if b then o else None) ≡ Some Equal → (b ≡ true) × (o ≡ Some Equal)
if_Equal true o h = (refl, h)
if_Equal false o h = cc

-- a typed child is Equal to nothing
typed_unordered : (t : TypeTree) (c d : Content) → order (typed t c) d ≡ Some Equal → ⊥
typed_unordered t c null h = cc
typed_unordered t c _ h = cc

mutual
  pub equal-from_order : (c d : Content) → order c d ≡ Some Equal → EqualContents c d
  equal-from_order null null h = tt
  equal-from_order (truth b) (truth c) h = truth_cmp-Equal b c (same_Some _ _ h)
  equal-from_order (whole z) (whole w) h = exact_signed z w (same_Some _ _ h)
  equal-from_order (text bs) (text cs) h = exact_bytes bs cs (same_Some _ _ h)
  equal-from_order (string bs) (string cs) h = exact_bytes bs cs (same_Some _ _ h)
  equal-from_order (sequence cs) (sequence ds) h = all_equal-from_orders cs ds h
  equal-from_order (tagged i c) (tagged j d) h =
      let both = if_Equal (i == j) (order c d) h in
      ((Decides-eqb i j).0 both.0, equal-from_order c d both.1)
  equal-from_order (typed t c) d h = absurd (typed_unordered t c d h)
  equal-from_order _ _ h = cc

  all_equal-from_orders : (cs ds : Contents) → orders cs ds ≡ Some Equal → AllEqual cs ds
  all_equal-from_orders no_contents no_contents h = tt
  all_equal-from_orders no_contents (content_then d ds) h = cc
  all_equal-from_orders (content_then c cs) no_contents h = cc
  all_equal-from_orders (content_then c cs) (content_then d ds) h =
      let both = then_Equal (order c d) (orders cs ds) h in
      (equal-from_order c d both.0, all_equal-from_orders cs ds both.1)

truth_cmp-itself : (b : Bool) → truth_cmp b b ≡ Equal
truth_cmp-itself true = refl
truth_cmp-itself false = refl

mutual
  pub order-from_equal : (c d : Content) → HasNoTyped c → EqualContents c d → order c d ≡ Some Equal
  order-from_equal null null n h = refl
  order-from_equal (truth b) (truth c) n h = rw h (ap Some (truth_cmp-itself c))
  order-from_equal (whole z) (whole w) n h = rw h (ap Some (tied_itself int_cmp_total w))
  order-from_equal (text bs) (text cs) n h = rw h (ap Some (tied_itself nat_list_cmp_total cs))
  order-from_equal (string bs) (string cs) n h = rw h (ap Some (tied_itself nat_list_cmp_total cs))
  order-from_equal (sequence cs) (sequence ds) n h = orders-from_all_equal cs ds n h
  order-from_equal (tagged i c) (tagged j d) n h = rw ((Decides-eqb i j).1 h.0) (order-from_equal c d n h.1)
  order-from_equal (typed t c) d n h = absurd n
  order-from_equal _ _ n h = absurd h

  orders-from_all_equal : (cs ds : Contents) → HaveNoTyped cs → AllEqual cs ds → orders cs ds ≡ Some Equal
  orders-from_all_equal no_contents no_contents n h = refl
  orders-from_all_equal (content_then c cs) (content_then d ds) n h = rw (order-from_equal c d n.0 h.0) (orders-from_all_equal cs ds n.1 h.1)
  orders-from_all_equal _ _ n h = absurd h

-- a valid value of a type without variants holds no typed child

pub no_variant-storage : (t : TypeTree) → HasNoVariant t → HasNoVariant (storage t)
no_variant-storage (extension_type id metadata t) n = no_variant-storage t n
no_variant-storage _ n = n

one_or_rest : (b : Bool) (t : TypeTree) (o : Option TypeTree) (P : TypeTree → Type 0) (G : Type 0) → (P t → G) → (HasType o P → G) → HasType (if b then Some t else o) P → G
one_or_rest true t o P G one rest h = one h
one_or_rest false t o P G one rest h = rest h

-- the type of the variant with an id is one of the types
no_variant-with : (id : ℕ) (ids : List ℕ) (ts : TypeTrees) (P : TypeTree → Type 0) (G : Type 0) → HaveNoVariant ts
    → ((t : TypeTree) → HasNoVariant t → P t → G) → HasType (type_with id ids ts) P → G
no_variant-with id [] ts P G n go h = absurd h
no_variant-with id (i ∷ is) no_types P G n go h = absurd h
no_variant-with id (i ∷ is) (type_then t ts) P G n go h = one_or_rest (i == id) t (type_with id is ts) P G (go t n.0) (no_variant-with id is ts P G n.1 go) h

mutual
  no_typed-at : (v : RawTree) (t : TypeTree) → HasNoVariant t → ValidAt t v → HasNoTyped (content v)
  no_typed-at absent t n h = tt
  no_typed-at (raw_bool b) t n h = tt
  no_typed-at (raw_integer k z) t n h = tt
  no_typed-at (raw_text bs) t n h = tt
  no_typed-at (raw_bytes bs) t n h = tt
  no_typed-at (raw_tuple vs) (list_type e m) n h = no_typed-each vs e n h
  no_typed-at (raw_tuple vs) (fixed_size_list_type e size m) n h = no_typed-each vs e n h.1
  no_typed-at (raw_tuple vs) (map_type k w sorted m) n h = no_typed-entries vs k w n.0 n.1 h
  no_typed-at (raw_tuple vs) (struct_type names ts m) n h = no_typed-fields vs ts n h
  no_typed-at (raw_union id v) (union_type names ts ids m) n h =
      no_variant-with id ids ts (λ t. Valid t v) (HasNoTyped (content v)) n (λ t k valid. no_typed-at v (storage t) (no_variant-storage t k) valid) h
  no_typed-at (raw_variant u v) (variant_type m) n h = absurd n
  no_typed-at _ _ n h = absurd h

  no_typed-each : (vs : RawTrees) (e : TypeTree) → HasNoVariant e → EachValid e vs → HaveNoTyped (contents vs)
  no_typed-each no_raws e n h = tt
  no_typed-each (raw_then v vs) e n h = (no_typed-at v (storage e) (no_variant-storage e n) h.0, no_typed-each vs e n h.1)

  no_typed-entries : (vs : RawTrees) (k w : TypeTree) → HasNoVariant k → HasNoVariant w → EntriesValid k w vs → HaveNoTyped (contents vs)
  no_typed-entries no_raws k w m n h = tt
  no_typed-entries (raw_then (raw_tuple (raw_then x (raw_then y no_raws))) vs) k w m n h =
      ((no_typed-at x (storage k) (no_variant-storage k m) h.0, (no_typed-at y (storage w) (no_variant-storage w n) h.1, tt)), no_typed-entries vs k w m n h.2)
  no_typed-entries _ k w m n h = absurd h

  no_typed-fields : (vs : RawTrees) (ts : TypeTrees) → HaveNoVariant ts → FieldsValid ts vs → HaveNoTyped (contents vs)
  no_typed-fields no_raws no_types n h = tt
  no_typed-fields (raw_then v vs) (type_then t ts) n h = (no_typed-at v (storage t) (no_variant-storage t n.0) h.0, no_typed-fields vs ts n.1 h.1)
  no_typed-fields _ _ n h = absurd h

pub no_typed : (t : TypeTree) (v : RawTree) → HasNoVariant t → Valid t v → HasNoTyped (content v)
no_typed t v n h = no_typed-at v (storage t) (no_variant-storage t n) h

-- the order of two typed contents says Equal exactly where they are equal
pub agrees : (s t : TypeTree) (c d : Content) → HasNoTyped c → (typed_order s c t d ≡ Some Equal) ↔ ((same_type s t && equal c d) ≡ true)
agrees s t c d n = (
  λ h. let both = if_Equal (same_type s t) (order c d) h in and_from _ _ both.0 (equal-from_contents c d (equal-from_order c d both.1)),
  λ h. let same : same_type s t ≡ true = first_so _ _ h in rw same (order-from_equal c d n (contents-from_equal c d (second_so _ _ h))),
)
