-- The order of strings by cases, and what ties it to `slice_cmp nat_cmp`.
use Rattle.std.proofs.Common.{◌≡◌, ℕ, ◌<◌, ◌⊎◌, inl, inr, List, [], ◌∷◌, refl, arith, nat_cmp, Less, Greater}
use Rattle.std.specs.Cmp.Lexicographic.{slice_cmp}
use Rattle.std.proofs.lemmas.Cmp.{ranked, by_ranked}
use Rattle.std.proofs.lemmas.Bool.Decides.{nat_tests}
use Rattle.vortex_bounds.specs.Strings.{Below, NotAbove}

abbrev pub Lt : List ℕ → List ℕ → Type 0
Lt [] [] = ⊥
Lt [] (y ∷ ys) = Unit {0}
Lt (x ∷ xs) [] = ⊥
Lt (x ∷ xs) (y ∷ ys) = (x < y) ⊎ ((x ≡ y) × Lt xs ys)

abbrev pub Le : List ℕ → List ℕ → Type 0
Le [] ys = Unit {0}
Le (x ∷ xs) [] = ⊥
Le (x ∷ xs) (y ∷ ys) = (x < y) ⊎ ((x ≡ y) × Le xs ys)

head_less : (x y : ℕ) (xs ys : List ℕ) → x < y → slice_cmp nat_cmp (x ∷ xs) (y ∷ ys) ≡ Less
head_less x y xs ys h = grind (arith, nat_tests)

head_same : (x y : ℕ) (xs ys : List ℕ) → x ≡ y → slice_cmp nat_cmp (x ∷ xs) (y ∷ ys) ≡ slice_cmp nat_cmp xs ys
head_same x y xs ys h = grind (arith, nat_tests)

head_more : (x y : ℕ) (xs ys : List ℕ) → y < x → slice_cmp nat_cmp (x ∷ xs) (y ∷ ys) ≡ Greater
head_more x y xs ys h = grind (arith, nat_tests)

pub Below-from : (xs ys : List ℕ) → Lt xs ys → Below xs ys
Below-from [] [] h = absurd h
Below-from [] (y ∷ ys) h = refl
Below-from (x ∷ xs) [] h = absurd h
Below-from (x ∷ xs) (y ∷ ys) (inl h) = head_less x y xs ys h
Below-from (x ∷ xs) (y ∷ ys) (inr h) = let i = Below-from xs ys h.1 in let e = head_same x y xs ys h.0 in cc

pub Below-to : (xs ys : List ℕ) → Below xs ys → Lt xs ys
Below-to [] [] h = cc
Below-to [] (y ∷ ys) h = tt
Below-to (x ∷ xs) [] h = cc
Below-to (x ∷ xs) (y ∷ ys) h =
    by_ranked (x < y) (x ≡ y) (y < x) (nat_cmp x y) (ranked x y _ refl)
    (λ _ p. inl p)
    (λ _ p. let e = head_same x y xs ys p in inr (p, Below-to xs ys cc))
    (λ _ p. let e = head_more x y xs ys p in cc)

pub NotAbove-from : (xs ys : List ℕ) → Le xs ys → NotAbove xs ys
NotAbove-from [] [] h = λ q. cc
NotAbove-from [] (y ∷ ys) h = λ q. cc
NotAbove-from (x ∷ xs) [] h = absurd h
NotAbove-from (x ∷ xs) (y ∷ ys) (inl h) = λ q. let e = head_less x y xs ys h in cc
NotAbove-from (x ∷ xs) (y ∷ ys) (inr h) = λ q. let e = head_same x y xs ys h.0 in NotAbove-from xs ys h.1 cc

pub NotAbove-to : (xs ys : List ℕ) → NotAbove xs ys → Le xs ys
NotAbove-to [] ys h = tt
NotAbove-to (x ∷ xs) [] h = absurd (h refl)
NotAbove-to (x ∷ xs) (y ∷ ys) h =
    by_ranked (x < y) (x ≡ y) (y < x) (nat_cmp x y) (ranked x y _ refl)
    (λ _ p. inl p)
    (λ _ p. let e = head_same x y xs ys p in inr (p, NotAbove-to xs ys (λ q. h cc)))
    (λ _ p. absurd (h (head_more x y xs ys p)))
