-- Each bound is the only one.
use Rattle.std.proofs.Common.{◌≡◌, ℕ, inl, inr, List, [], ◌∷◌, length, take, refl, sym, ap, ap₂, ◌∙◌, arith}
use Rattle.vortex_bounds.specs.Laws.{BoundsAreComputed, BoundsAreUnique, HoldsOfOne}
use Rattle.vortex_bounds.specs.Strings.{IsLower, IsUpper}
use Rattle.vortex_bounds.specs.Texts.{IsTextPrefix, IsTextUpper}
use Rattle.vortex_bounds.proofs.ByteOrder.{Le, NotAbove-to}
use Rattle.vortex_bounds.proofs.NextString.{upper_of_is_upper}
use Rattle.vortex_bounds.proofs.StringBounds.{IsLower-lower_of}

Le-both : (xs ys : List ℕ) → Le xs ys → Le ys xs → xs ≡ ys
Le-both [] [] h k = refl
Le-both [] (y ∷ ys) h k = absurd k
Le-both (x ∷ xs) [] h k = absurd h
Le-both (x ∷ xs) (y ∷ ys) (inl h) (inl k) = absurd (omega arith)
Le-both (x ∷ xs) (y ∷ ys) (inl h) (inr k) = absurd (let e = k.0 in omega arith)
Le-both (x ∷ xs) (y ∷ ys) (inr h) (inl k) = absurd (let e = h.0 in omega arith)
Le-both (x ∷ xs) (y ∷ ys) (inr h) (inr k) = ap₂ (λ v vs. v ∷ vs) h.0 (Le-both xs ys h.1 k.1)

lower_one : (b : List ℕ) (n : ℕ) → HoldsOfOne (IsLower b n)
lower_one b n r t h k = Le-both r t
    (NotAbove-to r t (k.greatest r h.string h.fits h.not_above))
    (NotAbove-to t r (h.greatest t k.string k.fits k.not_above))

upper_one : (b : List ℕ) (n : ℕ) → HoldsOfOne (IsUpper b n)
upper_one b n r t h k = Le-both r t
    (NotAbove-to r t (h.least t k.string k.exact k.above))
    (NotAbove-to t r (k.least r h.string h.exact h.above))

prefix_one : (s : List ℕ) (n : ℕ) → HoldsOfOne (IsTextPrefix s n)
prefix_one s n p q h k =
    let a = h.longest (length q) k.fits k.boundary in
    let b = k.longest (length p) h.fits h.boundary in
    let e : length p ≡ length q = omega arith in
    h.beginning ∙ ap (λ l. take l s) e ∙ sym k.beginning

text_upper_one : (s : List ℕ) (n : ℕ) → HoldsOfOne (IsTextUpper s n)
text_upper_one s n r t h k =
    let e : length h.beginning ≡ length k.beginning = ap length (prefix_one s n h.beginning k.beginning h.is_prefix k.is_prefix) in
    Le-both r t
    (NotAbove-to r t (h.least t k.text (k.exact ∙ sym e) k.above))
    (NotAbove-to t r (k.least r h.text (h.exact ∙ e) h.above))

pub bounds_are_computed : BoundsAreComputed
bounds_are_computed = record { lower = IsLower-lower_of; upper = upper_of_is_upper }

pub bounds_are_unique : BoundsAreUnique
bounds_are_unique = record {
  lower = lower_one;
  upper = upper_one;
  text_lower = λ s n r t h k. prefix_one s n r t h.is_prefix k.is_prefix;
  text_upper = text_upper_one;
}
