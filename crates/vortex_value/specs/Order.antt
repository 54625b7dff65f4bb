-- The order of contents.
use Rattle.std.specs.Prelude.{◌≡◌, ◌↔◌, ◌==◌, Bool, true, false, IsTrue, Option, Some, None, if◌then◌else◌}
use Rattle.std.specs.Cmp.Lexicographic.{slice_cmp}
use Rattle.std.specs.Ordering.{nat_cmp, int_cmp, ordering_reverse, ordering_then, is_gt, partial_ordering_then}
use Rattle.std.specs.declared.cmp.Ordering.{Ordering}
use Rattle.std.specs.declared.cmp.Ordering.TheVariants.{Less, Equal, Greater}
use Rattle.vortex_dtype.specs.TypeTree.{TypeTree}
use Rattle.vortex_value.specs.Values.Content.{Content, null, truth, whole, text, string, sequence, tagged, Contents, no_contents, content_then}
use Rattle.vortex_value.specs.Equality.{same_type}

-- false is below true
abbrev pub truth_cmp : Bool → Bool → Ordering
truth_cmp false true = Less
truth_cmp true false = Greater
truth_cmp _ _ = Equal

abbrev mutual
  -- A null is below all others, numbers go by size, strings and bytes byte by byte, tagged children with one id by
  -- their contents. Tagged children with different ids, typed children and contents of two cases have no order.
  pub order : Content → Content → Option Ordering
  order null null = Some Equal
  order null d = Some Less
  order c null = Some Greater
  order (truth b) (truth c) = Some (truth_cmp b c)
  order (whole z) (whole w) = Some (int_cmp z w)
  order (text bs) (text cs) = Some (slice_cmp nat_cmp bs cs)
  order (string bs) (string cs) = Some (slice_cmp nat_cmp bs cs)
  order (sequence cs) (sequence ds) = orders cs ds
  order (tagged i c) (tagged j d) = if i == j then order c d else None
  order _ _ = None

  -- the first place whose order is not Equal decides; without one the shorter is below
  pub orders : Contents → Contents → Option Ordering
  orders no_contents no_contents = Some Equal
  orders no_contents (content_then d ds) = Some Less
  orders (content_then c cs) no_contents = Some Greater
  orders (content_then c cs) (content_then d ds) = partial_ordering_then (order c d) (orders cs ds)

-- the order seen from the other side
abbrev pub reversed : Option Ordering → Option Ordering
reversed None = None
reversed (Some o) = Some (ordering_reverse o)

-- the order of two contents if their types are the same up to nullability; else `None`
abbrev pub typed_order : TypeTree → Content → TypeTree → Content → Option Ordering
typed_order s c t d = if same_type s t then order c d else None

-- the order is reversed when its sides are swapped
abbrev pub IsReversed : {A : Type 0} → (A → A → Option Ordering) → Type 0
IsReversed {A} cmp = (x y : A) → cmp x y ≡ reversed (cmp y x)

-- if x against y and y against z are each Less or Equal, so is x against z, and it is Less if one of them was
abbrev pub IsTransitive : {A : Type 0} → (A → A → Option Ordering) → Type 0
IsTransitive {A} cmp = (x y z : A) (a b : Ordering) → cmp x y ≡ Some a → cmp y z ≡ Some b
    → is_gt a ≡ false → is_gt b ≡ false → cmp x z ≡ Some (ordering_then a b)

-- if p holds of the first side, the order says Equal exactly if the two are equal
abbrev pub AgreesWhere : {A : Type 0} → (A → Type 0) → (A → A → Option Ordering) → (A → A → Bool) → Type 0
AgreesWhere {A} p cmp eq = (x y : A) → p x → (cmp x y ≡ Some Equal) ↔ IsTrue (eq x y)
