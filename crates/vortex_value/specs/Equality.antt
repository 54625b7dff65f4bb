-- When contents are equal.
use Rattle.std.specs.Prelude.{◌≡◌, ◌↔◌, ◌==◌, ◌&&◌, not, Bool, true, false, IsTrue}
use Rattle.std.specs.Ordering.{int_eq}
use Rattle.std.specs.Str.{bytes_eq}
use Rattle.vortex_dtype.specs.TypeEquality.{tree_eq}
use Rattle.vortex_dtype.specs.TypeTree.{TypeTree, Same, erase}
use Rattle.vortex_value.specs.Values.Content.{Content, null, truth, whole, text, string, sequence, tagged, typed, Contents, no_contents, content_then}

-- equal; typed children need types that are the same up to nullability, and equal contents
abbrev mutual
  pub EqualContents : Content → Content → Type 0
  EqualContents null null = Unit {0}
  EqualContents (truth b) (truth c) = b ≡ c
  EqualContents (whole z) (whole w) = z ≡ w
  EqualContents (text bs) (text cs) = bs ≡ cs
  EqualContents (string bs) (string cs) = bs ≡ cs
  EqualContents (sequence cs) (sequence ds) = AllEqual cs ds
  EqualContents (tagged i c) (tagged j d) = (i ≡ j) × EqualContents c d
  EqualContents (typed t c) (typed u d) = Same t u × EqualContents c d
  EqualContents _ _ = ⊥

  -- equally many places, equal at each
  pub AllEqual : Contents → Contents → Type 0
  AllEqual no_contents no_contents = Unit {0}
  AllEqual (content_then c cs) (content_then d ds) = EqualContents c d × AllEqual cs ds
  AllEqual _ _ = ⊥

-- whether the truth values are one
abbrev pub same_truth : Bool → Bool → Bool
same_truth true b = b
same_truth false b = not b

-- whether the types are the same up to nullability
abbrev pub same_type : TypeTree → TypeTree → Bool
same_type t u = tree_eq (erase t) (erase u)

-- the test of equality
abbrev mutual
  pub equal : Content → Content → Bool
  equal null null = true
  equal (truth b) (truth c) = same_truth b c
  equal (whole z) (whole w) = int_eq z w
  equal (text bs) (text cs) = bytes_eq bs cs
  equal (string bs) (string cs) = bytes_eq bs cs
  equal (sequence cs) (sequence ds) = all_equal cs ds
  equal (tagged i c) (tagged j d) = (i == j) && equal c d
  equal (typed t c) (typed u d) = same_type t u && equal c d
  equal _ _ = false

  pub all_equal : Contents → Contents → Bool
  all_equal no_contents no_contents = true
  all_equal (content_then c cs) (content_then d ds) = equal c d && all_equal cs ds
  all_equal _ _ = false

-- no typed child stands in the content
abbrev mutual
  pub HasNoTyped : Content → Type 0
  HasNoTyped null = Unit {0}
  HasNoTyped (truth b) = Unit {0}
  HasNoTyped (whole z) = Unit {0}
  HasNoTyped (text bs) = Unit {0}
  HasNoTyped (string bs) = Unit {0}
  HasNoTyped (sequence cs) = HaveNoTyped cs
  HasNoTyped (tagged id c) = HasNoTyped c
  HasNoTyped (typed t c) = ⊥

  pub HaveNoTyped : Contents → Type 0
  HaveNoTyped no_contents = Unit {0}
  HaveNoTyped (content_then c cs) = HasNoTyped c × HaveNoTyped cs

-- Equality of contents is an equivalence.
pub record EqualityIsAnEquivalence : Type 0 where
  pub reflexive : (c : Content) → EqualContents c c
  pub symmetric : (c d : Content) → EqualContents c d → EqualContents d c
  pub transitive : (c d e : Content) → EqualContents c d → EqualContents d e → EqualContents c e

-- Without typed children, equal contents are one.
abbrev pub EqualityAgreesWithoutTyped : Type 0
EqualityAgreesWithoutTyped = (c d : Content) → HasNoTyped c → EqualContents c d ↔ (c ≡ d)

-- The test passes exactly if contents are equal.
abbrev pub EqualityIsDecided : Type 0
EqualityIsDecided = (c d : Content) → IsTrue (equal c d) ↔ EqualContents c d

-- the test of things that say a content passes exactly if what they say is equal
abbrev pub EqualsByContent : {A : Type 0} → (A → Content) → (A → A → Bool) → Type 0
EqualsByContent {A} said eq = (x y : A) → IsTrue (eq x y) ↔ EqualContents (said x) (said y)

-- the test of things of a type and a content passes exactly if the types are the same up to nullability and the
-- contents equal
abbrev pub EqualsByTypeAndContent : {A : Type 0} → (A → TypeTree) → (A → Content) → (A → A → Bool) → Type 0
EqualsByTypeAndContent {A} type_at said eq = (x y : A) → IsTrue (eq x y) ↔ (Same (type_at x) (type_at y) × EqualContents (said x) (said y))
