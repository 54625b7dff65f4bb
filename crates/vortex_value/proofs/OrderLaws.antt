-- The order of contents, seen from the other side and along two steps.
use Rattle.std.proofs.Common.{◌≡◌, ◌==◌, ℕ, Bool, true, false, if◌then◌else◌, Option, Some, None, Ordering, Less, Equal, Greater, refl, sym, ap, ◌∙◌, true≢false}
use Rattle.std.specs.Cmp.{IsTotalOrder}
use Rattle.std.specs.Ordering.{is_gt, ordering_reverse, ordering_then, partial_ordering_then}
use Rattle.std.proofs.lemmas.Bool.Decides.{Decides-eqb, Decides-like, same_from_decides}
use Rattle.std.proofs.lemmas.Cmp.{nat_list_cmp_total, int_cmp_total, nat_eq_equiv, alike_right}
use Rattle.vortex_dtype.specs.TypeTree.{TypeTree}
use Rattle.vortex_value.specs.Values.Content.{Content, null, truth, whole, text, string, sequence, tagged, Contents, no_contents, content_then}
use Rattle.vortex_value.specs.Equality.{same_type}
use Rattle.vortex_value.specs.Lemmas.EqualityLaws.{same_type-Decides}
use Rattle.vortex_value.specs.Order.{order, orders, reversed, truth_cmp, typed_order, IsReversed, IsTransitive}

reversed-then : (o p : Option Ordering) → reversed (partial_ordering_then o p) ≡ partial_ordering_then (reversed o) (reversed p)
reversed-then None p = refl
reversed-then (Some Less) p = refl
reversed-then (Some Equal) p = refl
reversed-then (Some Greater) p = refl

reversed-if : (b : Bool) (o : Option Ordering) → reversed (if b then o else None) ≡ (if b then reversed o else None)
reversed-if true o = refl
reversed-if false o = refl

reversed-truth : (b c : Bool) → truth_cmp b c ≡ ordering_reverse (truth_cmp c b)
reversed-truth true true = refl
reversed-truth true false = refl
reversed-truth false true = refl
reversed-truth false false = refl

mutual
  pub order-reversed : (c d : Content) → order c d ≡ reversed (order d c)
  order-reversed null null = refl
  order-reversed null _ = refl
  order-reversed _ null = refl
  order-reversed (truth b) (truth c) = ap Some (reversed-truth b c)
  order-reversed (whole z) (whole w) = ap Some (int_cmp_total.antisymm z w)
  order-reversed (text s) (text t) = ap Some (nat_list_cmp_total.antisymm s t)
  order-reversed (string s) (string t) = ap Some (nat_list_cmp_total.antisymm s t)
  order-reversed (sequence cs) (sequence ds) = orders-reversed cs ds
  order-reversed (tagged i c) (tagged j d) = rw (reversed-if, nat_eq_equiv.symm j i, ← order-reversed c d)
  order-reversed _ _ = refl

  pub orders-reversed : (cs ds : Contents) → orders cs ds ≡ reversed (orders ds cs)
  orders-reversed no_contents no_contents = refl
  orders-reversed no_contents (content_then d ds) = refl
  orders-reversed (content_then c cs) no_contents = refl
  orders-reversed (content_then c cs) (content_then d ds) = rw (reversed-then, ← order-reversed c d, ← orders-reversed cs ds)

pub order_is_reversed : IsReversed order
order_is_reversed = order-reversed

-- r is the order of the ends, where o and p are those of the two steps
abbrev pub Follows : Option Ordering → Option Ordering → Option Ordering → Type 0
Follows o p r = (a b : Ordering) → o ≡ Some a → p ≡ Some b → is_gt a ≡ false → is_gt b ≡ false → r ≡ Some (ordering_then a b)

none_first : (p r : Option Ordering) → Follows None p r
none_first p r a b h k m n = cc

none_second : (o r : Option Ordering) → Follows o None r
none_second o r a b h k m n = cc

greater_first : (p r : Option Ordering) → Follows (Some Greater) p r
greater_first p r Less b h k m n = cc
greater_first p r Equal b h k m n = cc
greater_first p r Greater b h k m n = absurd (true≢false m)

greater_second : (o r : Option Ordering) → Follows o (Some Greater) r
greater_second o r a Less h k m n = cc
greater_second o r a Equal h k m n = cc
greater_second o r a Greater h k m n = absurd (true≢false n)

less_first : (p : Option Ordering) → Follows (Some Less) p (Some Less)
less_first p Less b h k m n = refl
less_first p Equal b h k m n = cc
less_first p Greater b h k m n = cc

equal_first : (p : Option Ordering) → Follows (Some Equal) p p
equal_first p Less b h k m n = cc
equal_first p Equal b h k m n = k
equal_first p Greater b h k m n = cc

less_second : (o : Option Ordering) → Follows o (Some Less) (Some Less)
less_second o Less b h k m n = refl
less_second o Equal b h k m n = k
less_second o Greater b h k m n = absurd (true≢false m)

total : {K : Type 0} {R : K → K → Ordering} → IsTotalOrder R → (x y z : K) → Follows (Some (R x y)) (Some (R y z)) (Some (R x z))
total {R} t x y z Less Less h k m n =
    let p : R x y ≡ Less = cc in
    let q : R y z ≡ Less = cc in
    ap Some (t.trans x y z p q)
total {R} t x y z Less Equal h k m n =
    let e : R y z ≡ Equal = cc in
    let back = alike_right t y z x e in
    let f : R x y ≡ Less = cc in
    ap Some (sym back ∙ f)
total {R} t x y z Equal b h k m n =
    let e : R x y ≡ Equal = cc in
    let f : R y z ≡ b = cc in
    ap Some (t.congr x y z e ∙ f)
total t x y z Less Greater h k m n = absurd (true≢false n)
total t x y z Greater b h k m n = absurd (true≢false m)

truths : (x y z : Bool) → Follows (Some (truth_cmp x y)) (Some (truth_cmp y z)) (Some (truth_cmp x z))
truths true true z = equal_first _
truths false false z = equal_first _
truths false true true = less_first _
truths false true false = greater_second _ _
truths true false z = greater_first _ _

then_follows : (o p r os ps rs : Option Ordering) → Follows o p r → Follows os ps rs
    → Follows (partial_ordering_then o os) (partial_ordering_then p ps) (partial_ordering_then r rs)
then_follows None p r os ps rs f g = none_first _ _
then_follows (Some Greater) p r os ps rs f g = greater_first _ _
then_follows o None r os ps rs f g = none_second _ _
then_follows o (Some Greater) r os ps rs f g = greater_second _ _
then_follows (Some Less) (Some Less) r os ps rs f g = let e : r ≡ Some Less = f Less Less refl refl refl refl in rw e (less_first _)
then_follows (Some Less) (Some Equal) r os ps rs f g = let e : r ≡ Some Less = f Less Equal refl refl refl refl in rw e (less_first _)
then_follows (Some Equal) (Some Less) r os ps rs f g = let e : r ≡ Some Less = f Equal Less refl refl refl refl in rw e (less_second _)
then_follows (Some Equal) (Some Equal) r os ps rs f g = let e : r ≡ Some Equal = f Equal Equal refl refl refl refl in rw e g

-- where tests on both steps are passed, so is the one at the ends
tests_follow : (x y z : Bool) (o p r : Option Ordering) → Follows o p r → (x ≡ true → y ≡ true → z ≡ true)
    → Follows (if x then o else None) (if y then p else None) (if z then r else None)
tests_follow true true z o p r f h = rw (h refl refl) f
tests_follow false y z o p r f h = none_first _ _
tests_follow true false z o p r f h = none_second _ _

-- tagged children: equal ids on both steps are equal at the ends
if_follows : (i j k : ℕ) (o p r : Option Ordering) → Follows o p r
    → Follows (if i == j then o else None) (if j == k then p else None) (if i == k then r else None)
if_follows i j k o p r f = tests_follow (i == j) (j == k) (i == k) o p r f
    (λ x y. let e : i ≡ j = (Decides-eqb i j).0 x in let g : j ≡ k = (Decides-eqb j k).0 y in (Decides-eqb i k).1 (e ∙ g))

mutual
  pub order-follows : (c d e : Content) → Follows (order c d) (order d e) (order c e)
  order-follows null null e = equal_first _
  order-follows null d null = greater_second _ _
  order-follows null _ _ = less_first _
  order-follows c null e = greater_first _ _
  order-follows c d null = greater_second _ _
  order-follows (truth x) (truth y) (truth z) = truths x y z
  order-follows (whole x) (whole y) (whole z) = total int_cmp_total x y z
  order-follows (text x) (text y) (text z) = total nat_list_cmp_total x y z
  order-follows (string x) (string y) (string z) = total nat_list_cmp_total x y z
  order-follows (sequence cs) (sequence ds) (sequence es) = orders-follow cs ds es
  order-follows (tagged i c) (tagged j d) (tagged k e) = if_follows i j k _ _ _ (order-follows c d e)
  order-follows _ _ _ = λ a b h k m n. cc

  pub orders-follow : (cs ds es : Contents) → Follows (orders cs ds) (orders ds es) (orders cs es)
  orders-follow no_contents no_contents es = equal_first _
  orders-follow no_contents (content_then d ds) no_contents = greater_second _ _
  orders-follow no_contents (content_then d ds) (content_then e es) = less_first _
  orders-follow (content_then c cs) no_contents es = greater_first _ _
  orders-follow (content_then c cs) (content_then d ds) no_contents = greater_second _ _
  orders-follow (content_then c cs) (content_then d ds) (content_then e es) = then_follows _ _ _ _ _ _ (order-follows c d e) (orders-follow cs ds es)

pub order_is_transitive : IsTransitive order
order_is_transitive = order-follows

-- the order of typed contents: types that are the same on both steps are the same at the ends

same_type-symmetric : (t u : TypeTree) → same_type t u ≡ same_type u t
same_type-symmetric t u = same_from_decides (same_type t u) (same_type u t) (same_type-Decides t u) (Decides-like (same_type u t) sym sym (same_type-Decides u t))

pub typed_order-reversed : (s t : TypeTree) (c d : Content) → typed_order s c t d ≡ reversed (typed_order t d s c)
typed_order-reversed s t c d = rw (reversed-if, same_type-symmetric t s, ← order-reversed c d)

pub typed_order-follows : (s t u : TypeTree) (c d e : Content) → Follows (typed_order s c t d) (typed_order t d u e) (typed_order s c u e)
typed_order-follows s t u c d e = tests_follow (same_type s t) (same_type t u) (same_type s u) (order c d) (order d e) (order c e) (order-follows c d e)
    (λ x y. (same_type-Decides s u).1 ((same_type-Decides s t).0 x ∙ (same_type-Decides t u).0 y))
