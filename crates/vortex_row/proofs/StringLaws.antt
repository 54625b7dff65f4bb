-- The bytes of strings in keys keep their order.
use Rattle.std.proofs.Common.{◌≡◌, ℕ, zero, suc, ◌<◌, inl, inr, List, [], ◌∷◌, ◌++◌, Less, Greater, nat_cmp, refl, arith}
use Rattle.std.specs.Cmp.Lexicographic.{slice_cmp}
use Rattle.std.proofs.lemmas.Bool.Decides.{nat_tests}
use Rattle.vortex_row.specs.Held.{AreBytes}
use Rattle.vortex_row.specs.Keys.{escape, escaped}
use Rattle.vortex_row.specs.Places.{IsBelow, OrderedAs}
use Rattle.vortex_row.proofs.ByteLaws.{no_bytes, bytes_first, bytes_rest, bytes_after, bytes_then}
use Rattle.vortex_row.proofs.PlaceLaws.{byte-ordered, ordered-then}

escape-ordered : (b c : ℕ) → OrderedAs (nat_cmp b c) (escape b) (escape c)
escape-ordered zero zero = refl
escape-ordered zero (suc zero) = inr (refl, inl (omega arith))
escape-ordered zero (suc (suc c)) = let e : nat_cmp 0 (suc (suc c)) ≡ Less = grind (arith, nat_tests) in rw e (inl (omega arith))
escape-ordered (suc zero) zero = inr (refl, inl (omega arith))
escape-ordered (suc zero) (suc zero) = refl
escape-ordered (suc zero) (suc (suc c)) = let e : nat_cmp 1 (suc (suc c)) ≡ Less = grind (arith, nat_tests) in rw e (inl (omega arith))
escape-ordered (suc (suc b)) zero = let e : nat_cmp (suc (suc b)) 0 ≡ Greater = grind (arith, nat_tests) in rw e (inl (omega arith))
escape-ordered (suc (suc b)) (suc zero) = let e : nat_cmp (suc (suc b)) 1 ≡ Greater = grind (arith, nat_tests) in rw e (inl (omega arith))
escape-ordered (suc (suc b)) (suc (suc c)) = byte-ordered (suc (suc b)) (suc (suc c))

ends_first : (b : ℕ) (xs ys : List ℕ) → IsBelow (0 ∷ ys) (escape b ++ xs)
ends_first zero xs ys = inl (omega arith)
ends_first (suc zero) xs ys = inl (omega arith)
ends_first (suc (suc b)) xs ys = inl (omega arith)

pub escaped-ordered : (bs cs : List ℕ) → OrderedAs (slice_cmp nat_cmp bs cs) (escaped bs) (escaped cs)
escaped-ordered [] [] = refl
escaped-ordered [] (c ∷ cs) = ends_first c (escaped cs) []
escaped-ordered (b ∷ bs) [] = ends_first b (escaped bs) []
escaped-ordered (b ∷ bs) (c ∷ cs) = ordered-then (nat_cmp b c) (slice_cmp nat_cmp bs cs) (escape b) (escape c) (escaped bs) (escaped cs) (escape-ordered b c) (escaped-ordered bs cs)

escape-bytes : (b : ℕ) → b < 256 → AreBytes (escape b)
escape-bytes zero h = bytes_after 1 (1 ∷ []) (omega arith) (bytes_after 1 [] (omega arith) no_bytes)
escape-bytes (suc zero) h = bytes_after 1 (2 ∷ []) (omega arith) (bytes_after 2 [] (omega arith) no_bytes)
escape-bytes (suc (suc b)) h = bytes_after (suc (suc b)) [] h no_bytes

pub escaped-bytes : (bs : List ℕ) → AreBytes bs → AreBytes (escaped bs)
escaped-bytes [] h = bytes_after 0 [] (omega arith) no_bytes
escaped-bytes (b ∷ bs) h = bytes_then (escape b) (escaped bs) (escape-bytes b (bytes_first b bs h)) (escaped-bytes bs (bytes_rest b bs h))
