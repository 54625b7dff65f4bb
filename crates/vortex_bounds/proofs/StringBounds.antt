-- The first n bytes of a string are its lower bound.
use Rattle.std.proofs.Common.{ℕ, zero, suc, ◌<◌, ◌≤◌, inl, inr, List, [], ◌∷◌, length, take, get_or, refl, arith}
use Rattle.vortex_bounds.specs.Strings.{IsString, IsLower, lower_of}
use Rattle.vortex_bounds.proofs.ByteOrder.{Le, NotAbove-from, NotAbove-to}

-- ---- strings
pub IsString-tail : (x : ℕ) (s : List ℕ) → IsString (x ∷ s) → IsString s
IsString-tail x s h = λ k. h (suc k)

pub IsString-push : (x : ℕ) (s : List ℕ) → x < 256 → IsString s → IsString (x ∷ s)
IsString-push x s l h zero = l
IsString-push x s l h (suc k) = h k

take_at_most : (b : List ℕ) (n k : ℕ) → get_or (take n b) k 0 ≤ get_or b k 0
take_at_most [] zero k = omega arith
take_at_most (x ∷ b) zero zero = omega arith
take_at_most (x ∷ b) zero (suc k) = omega arith
take_at_most [] (suc n) k = omega arith
take_at_most (x ∷ b) (suc n) zero = omega arith
take_at_most (x ∷ b) (suc n) (suc k) = take_at_most b n k

pub IsString-take : (b : List ℕ) (n : ℕ) → IsString b → IsString (take n b)
IsString-take b n s k = let l = take_at_most b n k in let h = s k in omega arith

-- ---- the lower bound
pub take-Le : (n : ℕ) (b : List ℕ) → Le (take n b) b
take-Le zero b = tt
take-Le (suc n) [] = tt
take-Le (suc n) (x ∷ b) = inr (refl, take-Le n b)

pub Le-take : (n : ℕ) (t b : List ℕ) → length t ≤ n → Le t b → Le t (take n b)
Le-take n [] b l h = tt
Le-take n (x ∷ t) [] l h = absurd h
Le-take zero (x ∷ t) (y ∷ b) l h = absurd (omega arith)
Le-take (suc n) (x ∷ t) (y ∷ b) l (inl h) = inl h
Le-take (suc n) (x ∷ t) (y ∷ b) l (inr h) = inr (h.0, Le-take n t b (omega arith) h.1)

length-take_at_most : (n : ℕ) (b : List ℕ) → length (take n b) ≤ n
length-take_at_most zero b = omega arith
length-take_at_most (suc n) [] = omega arith
length-take_at_most (suc n) (x ∷ b) = omega (arith, length-take_at_most n b)

pub IsLower-lower_of : (b : List ℕ) (n : ℕ) → IsString b → IsLower b n (lower_of b n)
IsLower-lower_of b n s = record {
  string = IsString-take b n s;
  fits = length-take_at_most n b;
  not_above = NotAbove-from _ _ (take-Le n b);
  greatest = λ t v l h. NotAbove-from _ _ (Le-take n t b l (NotAbove-to _ _ h));
}
