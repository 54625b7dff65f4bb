-- Keys have the total order of contents, which is that of `order` where there is one.
use Rattle.std.proofs.Common.{◌≡◌, ℕ, suc, ◌+◌, ◌-◌, ◌==◌, ◌<◌, ◌≤◌, inl, List, [], ◌∷◌, ◌++◌, Bool, true, false, ℤ, pos, negsuc, if◌then◌else◌, Option, Some, None, Ordering, Less, Equal, Greater, nat_cmp, refl, ap, ◌∙◌, arith, length}
use Rattle.std.specs.Cmp.Lexicographic.{slice_cmp}
use Rattle.std.specs.Ordering.{MatchOrdering, ordering_then, partial_ordering_then}
use Rattle.std.proofs.lemmas.Bool.Decides.{Decides-eqb, nat_tests}
use Rattle.vortex_value.specs.Order.{order, orders, truth_cmp}
use Rattle.vortex_value.specs.Values.Content.{Content, null, truth, whole, text, string, sequence, tagged, typed, Contents, no_contents, content_then}
use Rattle.vortex_row.specs.ContentOrder.{content_cmp, contents_cmp, kind_place}
use Rattle.vortex_row.specs.Held.{AreBytes, IsHeld, AreHeld}
use Rattle.vortex_row.specs.Keys.{key, keys, truth_byte, number_bytes, inverted, escaped}
use Rattle.vortex_row.specs.Places.{IsBelow, OrderedAs}
use Rattle.vortex_row.proofs.ByteLaws.{no_bytes, bytes_after, bytes_then}
use Rattle.vortex_row.proofs.NumberLaws.{whole-ordered, whole-bytes, number-length}
use Rattle.vortex_row.proofs.PlaceLaws.{ordered-after, ordered-then, byte-ordered}
use Rattle.vortex_row.proofs.StringLaws.{escaped-ordered, escaped-bytes}

-- the first byte of a key says which kind of content it is of

abbrev pub least : Content → ℕ
least null = 1
least (truth b) = 2
least (whole z) = 4
least (text bs) = 21
least (string bs) = 22
least (sequence cs) = 23
least (tagged i c) = 24
least (typed t c) = 25

abbrev pub most : Content → ℕ
most null = 1
most (truth b) = 3
most (whole z) = 20
most (text bs) = 21
most (string bs) = 22
most (sequence cs) = 23
most (tagged i c) = 24
most (typed t c) = 25

pub record Begins (c : Content) : Type 0 where
  pub first : ℕ
  pub rest : List ℕ
  pub is : key c ≡ first ∷ rest
  pub low : least c ≤ first
  pub high : first ≤ most c

whole-begins : (z : ℤ) → Begins (whole z)
whole-begins (pos n) =
    let short = number-length n in
    record { first = 12 + length (number_bytes n); rest = number_bytes n; is = refl; low = omega arith; high = omega arith }
whole-begins (negsuc n) =
    let short = number-length (suc n) in
    record { first = 12 - length (number_bytes (suc n)); rest = inverted true (number_bytes (suc n)); is = refl; low = omega arith; high = omega arith }

pub begins : (c : Content) → Begins c
begins null = record { first = 1; rest = []; is = refl; low = omega arith; high = omega arith }
begins (truth true) = record { first = 3; rest = []; is = refl; low = omega arith; high = omega arith }
begins (truth false) = record { first = 2; rest = []; is = refl; low = omega arith; high = omega arith }
begins (whole z) = whole-begins z
begins (text bs) = record { first = 21; rest = _; is = refl; low = omega arith; high = omega arith }
begins (string bs) = record { first = 22; rest = _; is = refl; low = omega arith; high = omega arith }
begins (sequence cs) = record { first = 23; rest = _; is = refl; low = omega arith; high = omega arith }
begins (tagged i c) = record { first = 24; rest = _; is = refl; low = omega arith; high = omega arith }
begins (typed t c) = record { first = 25; rest = []; is = refl; low = omega arith; high = omega arith }

kinds-below : (c d : Content) → most c < least d → IsBelow (key c) (key d)
kinds-below c d h =
    let one = begins c in
    let two = begins d in
    let high = one.high in
    let low = two.low in
    rw (one.is, two.is) (inl (omega arith))

-- contents of two kinds
kinds-ordered : (c d : Content) (o : Ordering) → MatchOrdering o (most c < least d) ⊥ (most d < least c) → OrderedAs o (key c) (key d)
kinds-ordered c d Less h = kinds-below c d h
kinds-ordered c d Equal h = absurd h
kinds-ordered c d Greater h = kinds-below d c h

-- a key begins with 1 or more
some_first : (c : Content) → 0 < least c
some_first null = omega arith
some_first _ = omega arith

ends_before : (c : Content) (xs ys : List ℕ) → IsBelow (0 ∷ ys) (key c ++ xs)
ends_before c xs ys =
    let head = begins c in
    let low = head.low in
    let some = some_first c in
    rw head.is (inl (omega arith))

truth-ordered : (b c : Bool) → OrderedAs (truth_cmp b c) (truth_byte b ∷ []) (truth_byte c ∷ [])
truth-ordered true true = refl
truth-ordered false false = refl
truth-ordered false true = inl (omega arith)
truth-ordered true false = inl (omega arith)

mutual
  pub key-ordered : (c d : Content) → IsHeld c → IsHeld d → OrderedAs (content_cmp c d) (key c) (key d)
  key-ordered null null p q = refl
  key-ordered (truth b) (truth c) p q = truth-ordered b c
  key-ordered (whole y) (whole z) p q = whole-ordered y z p q
  key-ordered (text bs) (text cs) p q = ordered-after (slice_cmp nat_cmp bs cs) 21 (escaped bs) (escaped cs) (escaped-ordered bs cs)
  key-ordered (string bs) (string cs) p q = ordered-after (slice_cmp nat_cmp bs cs) 22 (escaped bs) (escaped cs) (escaped-ordered bs cs)
  key-ordered (sequence cs) (sequence ds) p q = ordered-after (contents_cmp cs ds) 23 (keys cs) (keys ds) (keys-ordered cs ds p q)
  key-ordered (tagged i c) (tagged j d) p q =
      ordered-after (ordering_then (nat_cmp i j) (content_cmp c d)) 24 (i ∷ key c) (j ∷ key d)
      (ordered-then (nat_cmp i j) (content_cmp c d) (i ∷ []) (j ∷ []) (key c) (key d) (byte-ordered i j) (key-ordered c d p.1 q.1))
  key-ordered (typed t c) (typed u d) p q = refl
  key-ordered c d p q = kinds-ordered c d (nat_cmp (kind_place c) (kind_place d)) (omega arith)

  pub keys-ordered : (cs ds : Contents) → AreHeld cs → AreHeld ds → OrderedAs (contents_cmp cs ds) (keys cs) (keys ds)
  keys-ordered no_contents no_contents p q = refl
  keys-ordered no_contents (content_then d ds) p q = ends_before d (keys ds) []
  keys-ordered (content_then c cs) no_contents p q = ends_before c (keys cs) []
  keys-ordered (content_then c cs) (content_then d ds) p q =
      ordered-then (content_cmp c d) (contents_cmp cs ds) (key c) (key d) (keys cs) (keys ds) (key-ordered c d p.0 q.0) (keys-ordered cs ds p.1 q.1)

-- keys are bytes

truth-bytes : (b : Bool) → AreBytes (truth_byte b ∷ [])
truth-bytes true = bytes_after 3 [] (omega arith) no_bytes
truth-bytes false = bytes_after 2 [] (omega arith) no_bytes

mutual
  pub key-bytes : (c : Content) → IsHeld c → AreBytes (key c)
  key-bytes null h = bytes_after 1 [] (omega arith) no_bytes
  key-bytes (truth b) h = truth-bytes b
  key-bytes (whole z) h = whole-bytes z
  key-bytes (text bs) h = bytes_after 21 (escaped bs) (omega arith) (escaped-bytes bs h.0)
  key-bytes (string bs) h = bytes_after 22 (escaped bs) (omega arith) (escaped-bytes bs h)
  key-bytes (sequence cs) h = bytes_after 23 (keys cs) (omega arith) (keys-bytes cs h)
  key-bytes (tagged id c) h = bytes_after 24 (id ∷ key c) (omega arith) (bytes_after id (key c) h.0 (key-bytes c h.1))
  key-bytes (typed t c) h = bytes_after 25 [] (omega arith) no_bytes

  keys-bytes : (cs : Contents) → AreHeld cs → AreBytes (keys cs)
  keys-bytes no_contents h = bytes_after 0 [] (omega arith) no_bytes
  keys-bytes (content_then c cs) h = bytes_then (key c) (keys cs) (key-bytes c h.0) (keys-bytes cs h.1)

-- where `order` has an order, it is that one

abbrev Agrees : Option Ordering → Ordering → Type 0
Agrees None o = Unit {0}
Agrees (Some r) o = o ≡ r

agrees-then : (p q : Option Ordering) (o r : Ordering) → Agrees p o → Agrees q r → Agrees (partial_ordering_then p q) (ordering_then o r)
agrees-then None q o r h k = tt
agrees-then (Some Less) q o r h k = ap (λ x. ordering_then x r) h
agrees-then (Some Greater) q o r h k = ap (λ x. ordering_then x r) h
agrees-then (Some Equal) None o r h k = tt
agrees-then (Some Equal) (Some s) o r h k = ap (λ x. ordering_then x r) h ∙ k

agrees-child : (b : Bool) (i j : ℕ) (p : Option Ordering) (o : Ordering) → (i == j) ≡ b → Agrees p o
    → Agrees (if b then p else None) (ordering_then (nat_cmp i j) o)
agrees-child true i j None o e h = tt
agrees-child true i j (Some r) o e h =
    let same : i ≡ j = (Decides-eqb i j).0 e in
    let here : nat_cmp i j ≡ Equal = grind (arith, nat_tests) in
    ap (λ x. ordering_then x o) here ∙ h
agrees-child false i j p o e h = tt

mutual
  pub cmp-agrees : (c d : Content) → Agrees (order c d) (content_cmp c d)
  cmp-agrees (truth b) (truth c) = refl
  cmp-agrees (whole y) (whole z) = refl
  cmp-agrees (text bs) (text cs) = refl
  cmp-agrees (string bs) (string cs) = refl
  cmp-agrees (sequence cs) (sequence ds) = cmps-agree cs ds
  cmp-agrees (tagged i c) (tagged j d) = agrees-child (i == j) i j (order c d) (content_cmp c d) refl (cmp-agrees c d)
  cmp-agrees null null = refl
  cmp-agrees null d = refl
  cmp-agrees c null = refl
  cmp-agrees _ _ = tt

  cmps-agree : (cs ds : Contents) → Agrees (orders cs ds) (contents_cmp cs ds)
  cmps-agree no_contents no_contents = refl
  cmps-agree no_contents (content_then d ds) = refl
  cmps-agree (content_then c cs) no_contents = refl
  cmps-agree (content_then c cs) (content_then d ds) = agrees-then (order c d) (orders cs ds) (content_cmp c d) (contents_cmp cs ds) (cmp-agrees c d) (cmps-agree cs ds)

from_some : (p : Option Ordering) (o r : Ordering) → p ≡ Some r → Agrees p o → o ≡ r
from_some None o r e h = absurd (cc)
from_some (Some s) o r e h = cc

pub order-is_cmp : (c d : Content) (r : Ordering) → order c d ≡ Some r → content_cmp c d ≡ r
order-is_cmp c d r e = from_some (order c d) (content_cmp c d) r e (cmp-agrees c d)
