-- The order of a string and of its beginnings, and what the bounds of a beginning are to the whole.
use Rattle.std.proofs.Common.{◌≡◌, ◌≢◌, ℕ, zero, suc, ◌<◌, ◌≤◌, List, [], ◌∷◌, ◌++◌, length, take, drop, refl, sym, ap, subst, ◌∙◌, arith, nat_cmp, Ordering, Less, Equal, Greater, take-append-drop, length-take-le, IsCharBoundary, IsUtf8, ⊎_elim}
use Rattle.std.specs.Cmp.Lexicographic.{slice_cmp}
use Rattle.std.specs.Ordering.{ordering_then}
use Rattle.std.proofs.str.Laws.{order}
use Rattle.std.proofs.lemmas.Cmp.{nat_cmp_total, tied_itself}
use Rattle.std.proofs.lemmas.List.{take_all}
use Rattle.std.proofs.lemmas.Str.{IsCharBoundary-end, IsUtf8-take}
use Rattle.vortex_bounds.specs.Strings.{Below, NotAbove, IsUpper, HasNoUpper}
use Rattle.vortex_bounds.specs.Texts.{HasNoTextUpper, IsStuck, IsTextLower, IsTextPrefix, IsTextUpper}
use Rattle.vortex_c.specs.Bounds.{IsWholeOrBest}

-- what follows does not make a list less, if the first numbers decide alike
then_less : (o q r : Ordering) → (q ≡ Less → r ≡ Less) → ordering_then o q ≡ Less → ordering_then o r ≡ Less
then_less Less q r f h = refl
then_less Equal q r f h = f h
then_less Greater q r f h = cc

then_not_greater : (o q r : Ordering) → (q ≢ Greater → r ≢ Greater) → ordering_then o q ≢ Greater → ordering_then o r ≢ Greater
then_not_greater Less q r f h = λ e. cc
then_not_greater Equal q r f h = f h
then_not_greater Greater q r f h = λ e. h refl

-- a beginning is not above the whole
pub take_not_above : (n : ℕ) (b : List ℕ) → NotAbove (take n b) b
take_not_above zero [] = λ e. cc
take_not_above zero (x ∷ b) = λ e. cc
take_not_above (suc n) [] = λ e. cc
take_not_above (suc n) (x ∷ b) =
    let s : nat_cmp x x ≡ Equal = tied_itself nat_cmp_total x in
    subst (λ o. ordering_then o (slice_cmp nat_cmp (take n b) b) ≢ Greater) (sym s) (take_not_above n b)

-- what has at most n bytes and is not above the whole is not above its first n bytes
pub not_above_take : (n : ℕ) (t b : List ℕ) → length t ≤ n → NotAbove t b → NotAbove t (take n b)
not_above_take zero [] b l h = λ e. cc
not_above_take zero (x ∷ t) b l h = absurd (omega arith)
not_above_take (suc n) [] [] l h = λ e. cc
not_above_take (suc n) [] (y ∷ b) l h = λ e. cc
not_above_take (suc n) (x ∷ t) [] l h = absurd (h refl)
not_above_take (suc n) (x ∷ t) (y ∷ b) l h =
    then_not_greater (nat_cmp x y) (slice_cmp nat_cmp t b) (slice_cmp nat_cmp t (take n b)) (not_above_take n t b (omega arith)) h

-- what is above a beginning of its own length is above the whole
above_whole : (p rest r : List ℕ) → length r ≡ length p → Below p r → Below (p ++ rest) r
above_whole [] rest [] l h = cc
above_whole [] rest (y ∷ r) l h = absurd (omega arith)
above_whole (x ∷ p) rest [] l h = absurd (omega arith)
above_whole (x ∷ p) rest (y ∷ r) l h =
    then_less (nat_cmp x y) (slice_cmp nat_cmp p r) (slice_cmp nat_cmp (p ++ rest) r) (above_whole p rest r (omega arith)) h

-- what is above the whole is above a beginning of its own length
above_beginning : (p rest t : List ℕ) → length t ≡ length p → Below (p ++ rest) t → Below p t
above_beginning [] [] [] l h = cc
above_beginning [] (z ∷ rest) [] l h = cc
above_beginning [] rest (y ∷ t) l h = absurd (omega arith)
above_beginning (x ∷ p) rest [] l h = absurd (omega arith)
above_beginning (x ∷ p) rest (y ∷ t) l h =
    then_less (nat_cmp x y) (slice_cmp nat_cmp (p ++ rest) t) (slice_cmp nat_cmp p t) (above_beginning p rest t (omega arith)) h

-- what is above the first n bytes, with as many bytes, is above the whole
pub above_of_take : (b : List ℕ) (n : ℕ) (r : List ℕ) → length r ≡ length (take n b) → Below (take n b) r → Below b r
above_of_take b n r l h =
    subst (λ s. Below s r) (take-append-drop n b) (above_whole (take n b) (drop n b) r l h)

pub take_of_above : (b : List ℕ) (n : ℕ) (t : List ℕ) → length t ≡ length (take n b) → Below b t → Below (take n b) t
take_of_above b n t l h =
    above_beginning (take n b) (drop n b) t l (subst (λ s. Below s t) (sym (take-append-drop n b)) h)

-- the upper bound of the first n bytes is that of the whole
pub upper_of_take : (b : List ℕ) (n : ℕ) (r : List ℕ) → n ≤ length b → IsUpper (take n b) n r → IsUpper b n r
upper_of_take b n r l h =
    let w : length (take n b) ≡ n = length-take-le n b l in
    record {
      string = h.string;
      exact = h.exact;
      above = above_of_take b n r (h.exact ∙ sym w) h.above;
      least = λ t s e k. h.least t s e (take_of_above b n t (e ∙ sym w) k);
    }

-- if those have no upper bound, the whole has none
pub no_upper_of_take : (b : List ℕ) (n : ℕ) → n ≤ length b → HasNoUpper (take n b) n → HasNoUpper b n
no_upper_of_take b n l h =
    let w : length (take n b) ≡ n = length-take-le n b l in
    λ t s e k. h t s e (take_of_above b n t (e ∙ sym w) k)

-- ---- strings, cut at the nearest boundary i that is not past n
abbrev pub IsNearest : List ℕ → ℕ → ℕ → Type 0
IsNearest s n i = (k : ℕ) → i < k → k ≤ n → ¬ (IsCharBoundary s k)

text_prefix : (s : List ℕ) (n i : ℕ) → i ≤ n → IsCharBoundary s i → IsNearest s n i → IsTextPrefix s n (take i s)
text_prefix s n i l b near =
    let w : length (take i s) ≡ i = length-take-le i s b.0 in
    record {
      fits = omega (arith, w);
      beginning = ap (λ k. take k s) (sym w);
      boundary = subst (λ k. IsCharBoundary s k) (sym w) b;
      longest = λ k m p. subst (λ j. k ≤ j) (sym w) (⊎_elim (λ v. absurd (near k v m p)) (λ v. v) (order i k));
    }

-- the beginning up to there is the lower bound
text_lower : (s : List ℕ) (n i : ℕ) → IsUtf8 s → i ≤ n → IsCharBoundary s i → IsNearest s n i → IsTextLower s n (take i s)
text_lower s n i u l b near = record {
  is_prefix = text_prefix s n i l b near;
  text = IsUtf8-take s i u b;
  not_above = take_not_above i s;
  greatest = λ t v m k. not_above_take i t s (subst (λ j. length t ≤ j) (length-take-le i s b.0) m) k;
}

-- a string of at most n bytes ends there
text_whole : (s : List ℕ) (n i : ℕ) → IsNearest s n i → length s ≤ n → take i s ≡ s
text_whole s n i near l =
    take_all i s (⊎_elim (λ v. absurd (near (length s) v l (IsCharBoundary-end s))) (λ v. v) (order i (length s)))

pub text_lower_or_whole : (s : List ℕ) (n i : ℕ) → IsUtf8 s → i ≤ n → IsCharBoundary s i → IsNearest s n i → IsWholeOrBest IsTextLower s n (take i s)
text_lower_or_whole s n i u l b near = (text_whole s n i near, λ _. text_lower s n i u l b near)

-- the longest beginning, of at most i bytes, of a string of length i is all of it
prefix_is_all : (p q : List ℕ) (i : ℕ) → length p ≡ i → IsTextPrefix p i q → q ≡ p
prefix_is_all p q i w h =
    let m : i ≤ length q = h.longest i (omega arith) (subst (λ k. IsCharBoundary p k) w (IsCharBoundary-end p)) in
    h.beginning ∙ take_all (length q) p (omega (arith, m, w))

-- the upper bound of that beginning is that of the whole
pub text_upper_of_take : (s : List ℕ) (n i : ℕ) (r : List ℕ) → i ≤ n → IsCharBoundary s i → IsNearest s n i → IsTextUpper (take i s) i r → IsTextUpper s n r
text_upper_of_take s n i r l b near h =
    let w : length (take i s) ≡ i = length-take-le i s b.0 in
    let e : h.beginning ≡ take i s = prefix_is_all (take i s) h.beginning i w h.is_prefix in
    let x : length r ≡ length (take i s) = h.exact ∙ ap length e in
    record {
      beginning = take i s;
      is_prefix = text_prefix s n i l b near;
      free = subst (λ q. ¬ (IsStuck q)) e h.free;
      text = h.text;
      exact = x;
      above = above_of_take s i r x h.above;
      least = λ t u m k. h.least t u (m ∙ ap length (sym e)) (take_of_above s i t m k);
    }

-- if it has no upper bound, the whole has none
pub no_text_upper_of_take : (s : List ℕ) (n i : ℕ) → i ≤ n → IsCharBoundary s i → IsNearest s n i → HasNoTextUpper (take i s) i → HasNoTextUpper s n
no_text_upper_of_take s n i l b near (q, h, stuck) =
    let e : q ≡ take i s = prefix_is_all (take i s) q i (length-take-le i s b.0) h in
    (take i s, text_prefix s n i l b near, subst IsStuck e stuck)
