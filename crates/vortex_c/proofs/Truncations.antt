-- What the calls on a beginning give, said of the whole.
use Rattle.std.proofs.Common.{◌≡◌, ℕ, ◌<◌, ◌≤◌, List, length, take, slice_range, min, ap, subst, sym, arith, IsCharBoundary}
use Rattle.std.proofs.lemmas.List.{take_all}
use Rattle.vortex_bounds.specs.Laws.{BoundsAreComputed}
use Rattle.vortex_bounds.specs.Strings.{HasNoUpper, IsLower, IsString, IsUpper}
use Rattle.vortex_bounds.specs.Texts.{HasNoTextUpper, IsTextUpper}
use Rattle.vortex_c.specs.Bounds.{HasNone, IsWholeOrBest}
use Rattle.vortex_c.proofs.Beginnings.{IsNearest, no_text_upper_of_take, no_upper_of_take, text_upper_of_take, upper_of_take}

-- the range from the start
pub taken : (n : ℕ) (b : List ℕ) → slice_range b 0 n ≡ take n b
taken n b = ap (λ k. take k b) (omega arith)

-- as many of the first bytes as there are, and at most n, are the lower bound
pub lower_or_whole : (b : List ℕ) (n i : ℕ) → BoundsAreComputed → IsString b → i ≡ min n (length b) → IsWholeOrBest IsLower b n (take i b)
lower_or_whole b n i computed s e = (
  λ l. take_all i b (omega arith),
  λ l. subst (λ k. IsLower b n (take k b)) (omega arith) (computed.lower b n s),
)

-- the upper bound of the first n bytes is that of the whole
pub upper_made : (b copy : List ℕ) (n : ℕ) (r : List ℕ) → n < length b → copy ≡ take n b → IsUpper copy n r → IsWholeOrBest IsUpper b n r
upper_made b copy n r l e h = (
  λ m. absurd (omega arith),
  λ _. upper_of_take b n r (omega arith) (subst (λ s. IsUpper s n r) e h),
)

-- if the first n bytes have no upper bound, the whole has none
pub no_upper_made : (b copy : List ℕ) (n : ℕ) → n < length b → copy ≡ take n b → HasNoUpper copy n → HasNone HasNoUpper b n
no_upper_made b copy n l e h = (l, no_upper_of_take b n (omega arith) (subst (λ s. HasNoUpper s n) e h))

-- the upper bound of the beginning, up to the nearest boundary, is that of the whole string
pub text_upper_made : (s copy : List ℕ) (n i : ℕ) (r made : List ℕ) → n < length s → copy ≡ take i s → i ≤ n → IsCharBoundary s i → IsNearest s n i
    → IsTextUpper copy i r → made ≡ r → IsWholeOrBest IsTextUpper s n made
text_upper_made s copy n i r made l e m b near h same = (
  λ k. absurd (omega arith),
  λ _. subst (λ v. IsTextUpper s n v) (sym same) (text_upper_of_take s n i r m b near (subst (λ t. IsTextUpper t i r) e h)),
)

pub no_text_upper_made : (s copy : List ℕ) (n i : ℕ) → n < length s → copy ≡ take i s → i ≤ n → IsCharBoundary s i → IsNearest s n i
    → HasNoTextUpper copy i → HasNone HasNoTextUpper s n
no_text_upper_made s copy n i l e m b near h = (l, no_text_upper_of_take s n i m b near (subst (λ t. HasNoTextUpper t i) e h))
