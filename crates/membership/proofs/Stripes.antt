-- Words that are fewer than a stripe, and a stripe taken from others.
use Rattle.std.proofs.Common.{◌≡◌, ℕ, ◌-◌, ◌<◌, ◌≤◌, List, [], ◌∷◌, length, get_or, take, drop, refl, ap, arith, if◌then◌else◌}
use Rattle.std.proofs.lemmas.Bool.{le-leb}
use Rattle.std.proofs.lemmas.List.{length-drop, take_all}
use Rattle.membership.specs.Xxh64.{after_stripes, converged, initial, of_stripes, prime5, with_stripe, with_stripes}

pub no-stripe : (v : List ℕ) (words : List (List ℕ)) → length words < 4 → with_stripes v words ≡ v
unfolding with_stripes
no-stripe v [] l = refl
no-stripe v (a ∷ []) l = refl
no-stripe v (a ∷ b ∷ []) l = refl
no-stripe v (a ∷ b ∷ c ∷ []) l = refl
no-stripe v (a ∷ b ∷ c ∷ d ∷ words) l = absurd (omega arith)

pub after-no-stripe : (words : List (List ℕ)) → length words < 4 → after_stripes words ≡ words
unfolding after_stripes
after-no-stripe [] l = refl
after-no-stripe (a ∷ []) l = refl
after-no-stripe (a ∷ b ∷ []) l = refl
after-no-stripe (a ∷ b ∷ c ∷ []) l = refl
after-no-stripe (a ∷ b ∷ c ∷ d ∷ words) l = absurd (omega arith)

pub of-none : (words : List (List ℕ)) → length words < 4 → of_stripes words ≡ prime5
unfolding of_stripes
of-none [] l = refl
of-none (a ∷ []) l = refl
of-none (a ∷ b ∷ []) l = refl
of-none (a ∷ b ∷ c ∷ []) l = refl
of-none (a ∷ b ∷ c ∷ d ∷ words) l = absurd (omega arith)

pub of-some : (words : List (List ℕ)) → 4 ≤ length words → of_stripes words ≡ converged (with_stripes initial words)
unfolding of_stripes
of-some words l = ap (λ b. if b then converged (with_stripes initial words) else prime5) (le-leb 4 (length words) l)

pub stripe-taken : (v : List ℕ) (words : List (List ℕ)) (a b c d : List ℕ) → 4 ≤ length words
    → with_stripes v words ≡ with_stripes (with_stripe v (get_or words 0 a) (get_or words 1 b) (get_or words 2 c) (get_or words 3 d)) (drop 4 words)
unfolding with_stripes
stripe-taken v [] a b c d l = absurd (omega arith)
stripe-taken v (e ∷ []) a b c d l = absurd (omega arith)
stripe-taken v (e ∷ f ∷ []) a b c d l = absurd (omega arith)
stripe-taken v (e ∷ f ∷ g ∷ []) a b c d l = absurd (omega arith)
stripe-taken v (e ∷ f ∷ g ∷ h ∷ words) a b c d l = refl

pub stripe-passed : (words : List (List ℕ)) → 4 ≤ length words → after_stripes words ≡ after_stripes (drop 4 words)
unfolding after_stripes
stripe-passed [] l = absurd (omega arith)
stripe-passed (e ∷ []) l = absurd (omega arith)
stripe-passed (e ∷ f ∷ []) l = absurd (omega arith)
stripe-passed (e ∷ f ∷ g ∷ []) l = absurd (omega arith)
stripe-passed (e ∷ f ∷ g ∷ h ∷ words) l = refl

-- what the pattern of a stripe leaves
pub left-whole : (words : List (List ℕ)) → take (length words - 4) (drop 4 words) ≡ drop 4 words
left-whole words = take_all (length words - 4) (drop 4 words) (omega (arith, length-drop 4 words))
