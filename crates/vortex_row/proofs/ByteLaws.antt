-- Strings of bytes, and that inverting each byte reverses their order.
use Rattle.std.proofs.Common.{◌≡◌, ℕ, zero, suc, ◌-◌, ◌<◌, inl, inr, List, [], ◌∷◌, ◌++◌, Bool, true, false, if◌then◌else◌, Ordering, Less, Equal, Greater, refl, sym, ap, arith, length}
use Rattle.std.specs.Ordering.{ordering_reverse}
use Rattle.vortex_row.specs.Held.{AreBytes}
use Rattle.vortex_row.specs.Keys.{inverted}
use Rattle.vortex_row.specs.Places.{IsBelow, OrderedAs}

pub no_bytes : AreBytes []
no_bytes k = omega arith

pub bytes_first : (b : ℕ) (bs : List ℕ) → AreBytes (b ∷ bs) → b < 256
bytes_first b bs h = h 0

pub bytes_rest : (b : ℕ) (bs : List ℕ) → AreBytes (b ∷ bs) → AreBytes bs
bytes_rest b bs h k = h (suc k)

pub bytes_after : (b : ℕ) (bs : List ℕ) → b < 256 → AreBytes bs → AreBytes (b ∷ bs)
bytes_after b bs h g zero = h
bytes_after b bs h g (suc k) = g k

pub bytes_then : (bs cs : List ℕ) → AreBytes bs → AreBytes cs → AreBytes (bs ++ cs)
bytes_then [] cs h g = g
bytes_then (b ∷ bs) cs h g = bytes_after b (bs ++ cs) (bytes_first b bs h) (bytes_then bs cs (bytes_rest b bs h) g)

pub inverted-bytes : (bs : List ℕ) → AreBytes (inverted true bs)
inverted-bytes [] = no_bytes
inverted-bytes (b ∷ bs) = bytes_after (255 - b) (inverted true bs) (omega arith) (inverted-bytes bs)

pub inverted-length : (b : Bool) (bs : List ℕ) → length (inverted b bs) ≡ length bs
inverted-length false bs = refl
inverted-length true [] = refl
inverted-length true (b ∷ bs) = ap suc (inverted-length true bs)

pub inverted-below : (xs ys : List ℕ) → AreBytes ys → IsBelow xs ys → IsBelow (inverted true ys) (inverted true xs)
inverted-below [] ys b h = absurd h
inverted-below (x ∷ xs) [] b h = absurd h
inverted-below (x ∷ xs) (y ∷ ys) b h =
    let small = bytes_first y ys b in
    elim h [ inl less ↦ inl (omega arith) | inr both ↦ inr (ap (λ z. 255 - z) (sym both.0), inverted-below xs ys (bytes_rest y ys b) both.1) ]

reversed-ordered : (o : Ordering) (xs ys : List ℕ) → AreBytes xs → AreBytes ys → OrderedAs o xs ys → OrderedAs (ordering_reverse o) (inverted true xs) (inverted true ys)
reversed-ordered Less xs ys b c h = inverted-below xs ys c h
reversed-ordered Equal xs ys b c h = ap (inverted true) h
reversed-ordered Greater xs ys b c h = inverted-below ys xs b h

pub inverted-ordered : (descending : Bool) (o : Ordering) (xs ys : List ℕ) → AreBytes xs → AreBytes ys → OrderedAs o xs ys
    → OrderedAs (if descending then ordering_reverse o else o) (inverted descending xs) (inverted descending ys)
inverted-ordered false o xs ys b c h = h
inverted-ordered true o xs ys b c h = reversed-ordered o xs ys b c h
