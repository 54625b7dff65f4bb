-- Laws of bounds: how those of bytes are computed, and that there is at most one of each.
use Rattle.std.specs.Prelude.{◌≡◌, ℕ, ◌≤◌, List, length, MatchOption}
use Rattle.vortex_bounds.specs.Strings.{IsString, IsLower, IsUpper, HasNoUpper, lower_of, upper_of}
use Rattle.vortex_bounds.specs.Texts.{IsTextLower, IsTextUpper}

-- The first n of some bytes are their lower bound. If there are at least n, what comes next after these is the upper bound, and
-- there is no upper bound if nothing comes next.
pub record BoundsAreComputed : Type 0 where
  pub lower : (b : List ℕ) (n : ℕ) → IsString b → IsLower b n (lower_of b n)
  pub upper : (b : List ℕ) (n : ℕ) → IsString b → n ≤ length b → MatchOption (upper_of b n) (HasNoUpper b n) (IsUpper b n)

-- P holds of at most one list
abbrev pub HoldsOfOne : (List ℕ → Type 0) → Type 0
HoldsOfOne P = (r t : List ℕ) → P r → P t → r ≡ t

-- Bytes have at most one lower and one upper bound at a length of n, and so have strings.
pub record BoundsAreUnique : Type 0 where
  pub lower : (b : List ℕ) (n : ℕ) → HoldsOfOne (IsLower b n)
  pub upper : (b : List ℕ) (n : ℕ) → HoldsOfOne (IsUpper b n)
  pub text_lower : (s : List ℕ) (n : ℕ) → HoldsOfOne (IsTextLower s n)
  pub text_upper : (s : List ℕ) (n : ℕ) → HoldsOfOne (IsTextUpper s n)
