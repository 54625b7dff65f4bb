-- Bytes, their order, and their bounds at a length of n.
use Rattle.std.specs.Prelude.{◌≡◌, ℕ, ◌+◌, ◌<◌, ◌≤◌, ◌≢◌, List, [], ◌∷◌, length, take, replicate, slice_index, Option, Some, None, if◌then◌else◌, nat_lt}
use Rattle.std.specs.Ordering.{nat_cmp}
use Rattle.std.specs.Cmp.Lexicographic.{slice_cmp}
use Rattle.std.specs.declared.cmp.Ordering.TheVariants.{Less, Greater}

-- each number of the list is a byte, below 256 (`slice_index` is 0 past the end)
abbrev pub IsString : List ℕ → Type 0
IsString s = (k : ℕ) → slice_index s k < 256

-- s is below t: at the first place that differs s has the lesser byte, or s is a proper beginning of t
abbrev pub Below : List ℕ → List ℕ → Type 0
Below s t = slice_cmp nat_cmp s t ≡ Less

-- s is below t or is t
abbrev pub NotAbove : List ℕ → List ℕ → Type 0
NotAbove s t = slice_cmp nat_cmp s t ≢ Greater

-- r is the greatest list of at most n bytes that is not above b
pub record IsLower (b : List ℕ) (n : ℕ) (r : List ℕ) : Type 0 where
  pub string : IsString r
  pub fits : length r ≤ n
  pub not_above : NotAbove r b
  pub greatest : (t : List ℕ) → IsString t → length t ≤ n → NotAbove t b → NotAbove t r

-- r is the least list of exactly n bytes that is above b
pub record IsUpper (b : List ℕ) (n : ℕ) (r : List ℕ) : Type 0 where
  pub string : IsString r
  pub exact : length r ≡ n
  pub above : Below b r
  pub least : (t : List ℕ) → IsString t → length t ≡ n → Below b t → NotAbove r t

-- no list of exactly n bytes is above b
abbrev pub HasNoUpper : List ℕ → ℕ → Type 0
HasNoUpper b n = (t : List ℕ) → IsString t → length t ≡ n → ¬ (Below b t)

-- what comes next after the bytes b ∷ bs, from what comes next after bs
abbrev pub next_after : ℕ → List ℕ → Option (List ℕ) → Option (List ℕ)
next_after b bs (Some r) = Some (b ∷ r)
next_after b bs None = if nat_lt b 255 then Some ((b + 1) ∷ replicate (length bs) 0) else None

-- the next bytes of the same length: the last byte that is not 255 is one more, and those after it are 0
abbrev pub next_string : List ℕ → Option (List ℕ)
next_string [] = None
next_string (b ∷ bs) = next_after b bs (next_string bs)

-- the bounds of at least n bytes, computed: the first n of them, and what comes next after these
abbrev pub lower_of : List ℕ → ℕ → List ℕ
lower_of b n = take n b

abbrev pub upper_of : List ℕ → ℕ → Option (List ℕ)
upper_of b n = next_string (take n b)
