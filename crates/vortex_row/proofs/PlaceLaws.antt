-- How places that differ are put together, and what they say of the order of strings and of what strings begin with.
use Rattle.std.proofs.Common.{◌≡◌, ℕ, ◌<◌, inl, inr, List, [], ◌∷◌, ◌++◌, Ordering, Less, Equal, Greater, nat_cmp, refl, sym, ap, ◌∙◌, arith, subst}
use Rattle.std.specs.Cmp.{ranks}
use Rattle.std.specs.Cmp.Lexicographic.{slice_cmp}
use Rattle.std.specs.Ordering.{ordering_then, MatchOrdering}
use Rattle.std.proofs.lemmas.Bool.Decides.{nat_tests}
use Rattle.vortex_row.specs.Places.{IsBelow, OrderedAs}

-- what follows does not matter
pub below-more : (xs ys r s : List ℕ) → IsBelow xs ys → IsBelow (xs ++ r) (ys ++ s)
below-more [] ys r s h = absurd h
below-more (x ∷ xs) [] r s h = absurd h
below-more (x ∷ xs) (y ∷ ys) r s h = elim h [ inl less ↦ inl less | inr both ↦ inr (both.0, below-more xs ys r s both.1) ]

-- nor what is one before
below-after : (p xs ys : List ℕ) → IsBelow xs ys → IsBelow (p ++ xs) (p ++ ys)
below-after [] xs ys h = h
below-after (b ∷ p) xs ys h = inr (refl, below-after p xs ys h)

after_one : (xs ys r s : List ℕ) → xs ≡ ys → IsBelow r s → IsBelow (xs ++ r) (ys ++ s)
after_one xs ys r s e h = rw e (below-after ys r s h)

-- of two strings, each in two parts, the first parts decide, and else the second
pub ordered-then : (o q : Ordering) (xs ys r s : List ℕ) → OrderedAs o xs ys → OrderedAs q r s → OrderedAs (ordering_then o q) (xs ++ r) (ys ++ s)
ordered-then Less q xs ys r s h k = below-more xs ys r s h
ordered-then Greater q xs ys r s h k = below-more ys xs s r h
ordered-then Equal Less xs ys r s h k = after_one xs ys r s h k
ordered-then Equal Equal xs ys r s h k = cc
ordered-then Equal Greater xs ys r s h k = after_one ys xs s r (sym h) k

-- one byte more before both
pub ordered-after : (o : Ordering) (b : ℕ) (xs ys : List ℕ) → OrderedAs o xs ys → OrderedAs o (b ∷ xs) (b ∷ ys)
ordered-after Less b xs ys h = inr (refl, h)
ordered-after Equal b xs ys h = ap (λ zs. b ∷ zs) h
ordered-after Greater b xs ys h = inr (refl, h)

-- one byte
one_byte : (b c : ℕ) (o : Ordering) → MatchOrdering o (b < c) (b ≡ c) (c < b) → OrderedAs o (b ∷ []) (c ∷ [])
one_byte b c Less h = inl h
one_byte b c Equal h = ap (λ x. x ∷ []) h
one_byte b c Greater h = inl h

pub byte-ordered : (b c : ℕ) → OrderedAs (nat_cmp b c) (b ∷ []) (c ∷ [])
byte-ordered b c = one_byte b c (nat_cmp b c) (ranks b c)

-- the order of strings

less-then : (x y : ℕ) (o : Ordering) → x < y → ordering_then (nat_cmp x y) o ≡ Less
less-then x y o h = let e : nat_cmp x y ≡ Less = grind (arith, nat_tests) in rw e refl

more-then : (x y : ℕ) (o : Ordering) → x < y → ordering_then (nat_cmp y x) o ≡ Greater
more-then x y o h = let e : nat_cmp y x ≡ Greater = grind (arith, nat_tests) in rw e refl

same-then : (x y : ℕ) (o : Ordering) → x ≡ y → ordering_then (nat_cmp x y) o ≡ o
same-then x y o h = let e : nat_cmp x y ≡ Equal = grind (arith, nat_tests) in rw e refl

below-less : (xs ys : List ℕ) → IsBelow xs ys → slice_cmp nat_cmp xs ys ≡ Less
below-less [] ys h = absurd h
below-less (x ∷ xs) [] h = absurd h
below-less (x ∷ xs) (y ∷ ys) h = elim h [ inl less ↦ less-then x y _ less | inr both ↦ same-then x y _ both.0 ∙ below-less xs ys both.1 ]

below-greater : (xs ys : List ℕ) → IsBelow xs ys → slice_cmp nat_cmp ys xs ≡ Greater
below-greater [] ys h = absurd h
below-greater (x ∷ xs) [] h = absurd h
below-greater (x ∷ xs) (y ∷ ys) h = elim h [ inl less ↦ more-then x y _ less | inr both ↦ same-then y x _ (sym both.0) ∙ below-greater xs ys both.1 ]

itself : (xs : List ℕ) → slice_cmp nat_cmp xs xs ≡ Equal
itself [] = refl
itself (x ∷ xs) = same-then x x _ refl ∙ itself xs

pub ordered-cmp : (o : Ordering) (xs ys : List ℕ) → OrderedAs o xs ys → slice_cmp nat_cmp xs ys ≡ o
ordered-cmp Less xs ys h = below-less xs ys h
ordered-cmp Equal xs ys h = rw h (itself ys)
ordered-cmp Greater xs ys h = below-greater ys xs h

-- what one string begins with

pub first_of : (x y : ℕ) (xs ys : List ℕ) → x ∷ xs ≡ y ∷ ys → x ≡ y
first_of x y xs ys e = cc

pub rest_of : (x y : ℕ) (xs ys : List ℕ) → x ∷ xs ≡ y ∷ ys → xs ≡ ys
rest_of x y xs ys e = cc

below-apart : (xs ys r s : List ℕ) → IsBelow xs ys → xs ++ r ≡ ys ++ s → ⊥
below-apart [] ys r s h e = h
below-apart (x ∷ xs) [] r s h e = h
below-apart (x ∷ xs) (y ∷ ys) r s h e =
    let head : x ≡ y = first_of x y (xs ++ r) (ys ++ s) e in
    elim h [ inl less ↦ omega arith | inr both ↦ below-apart xs ys r s both.1 (rest_of x y (xs ++ r) (ys ++ s) e) ]

same_front : (xs r s : List ℕ) → xs ++ r ≡ xs ++ s → r ≡ s
same_front [] r s e = e
same_front (x ∷ xs) r s e = same_front xs r s (rest_of x x (xs ++ r) (xs ++ s) e)

same_fronts : (xs ys r s : List ℕ) → xs ≡ ys → xs ++ r ≡ ys ++ s → r ≡ s
same_fronts xs ys r s e f = same_front ys r s (subst (λ zs. zs ++ r ≡ ys ++ s) e f)

-- of two strings that are ordered, one string begins with both only if they are one
pub ordered-one : (o : Ordering) (xs ys r s : List ℕ) → OrderedAs o xs ys → xs ++ r ≡ ys ++ s → (o ≡ Equal) × (r ≡ s)
ordered-one Less xs ys r s h e = absurd (below-apart xs ys r s h e)
ordered-one Equal xs ys r s h e = (refl, same_fronts xs ys r s h e)
ordered-one Greater xs ys r s h e = absurd (below-apart ys xs s r h (sym e))
