-- Strings, the lists of bytes that are UTF-8, and their bounds at a length of n bytes.
use Rattle.std.specs.Prelude.{◌≡◌, ℕ, ◌+◌, ◌≤◌, ◌⊎◌, List, ◌++◌, length, take, IsUtf8, encode_utf8, IsCharBoundary}
use Rattle.std.specs.Char.{IsScalar}
use Rattle.vortex_bounds.specs.Strings.{Below, NotAbove}

-- p is the longest beginning of the string s that ends where a character ends and has at most n bytes
pub record IsTextPrefix (s : List ℕ) (n : ℕ) (p : List ℕ) : Type 0 where
  pub fits : length p ≤ n
  pub beginning : p ≡ take (length p) s
  pub boundary : IsCharBoundary s (length p)
  pub longest : (i : ℕ) → i ≤ n → IsCharBoundary s i → i ≤ length p

-- p is the string front and then the character c
pub record EndsWith (p front : List ℕ) (c : ℕ) : Type 0 where
  pub text : IsUtf8 front
  pub scalar : IsScalar c
  pub split : p ≡ front ++ encode_utf8 c

-- p is empty, or P holds of its last character
abbrev pub IsEmptyOrEndsIn : (ℕ → Type 0) → List ℕ → Type 0
IsEmptyOrEndsIn P p = (length p ≡ 0) ⊎ ((front : List ℕ) × (c : ℕ) × EndsWith p front c × P c)

-- c is the last character of its width in UTF-8, or the last one before the surrogates
abbrev pub HasNoNextOfWidth : ℕ → Type 0
HasNoNextOfWidth c = (c ≡ 0x7F) ⊎ ((c ≡ 0x7FF) ⊎ ((c ≡ 0xD7FF) ⊎ ((c ≡ 0xFFFF) ⊎ (c ≡ 0x10_FFFF))))

-- c is the last character before the surrogates, or of all: the next code point is no character
abbrev pub HasNoNext : ℕ → Type 0
HasNoNext c = (c ≡ 0xD7FF) ⊎ (c ≡ 0x10_FFFF)

-- p is empty, or the code point after its last character is no character of as many bytes
abbrev pub IsStuck : List ℕ → Type 0
IsStuck = IsEmptyOrEndsIn HasNoNextOfWidth

-- p is empty, or the code point after its last character is no character
abbrev pub IsLast : List ℕ → Type 0
IsLast = IsEmptyOrEndsIn HasNoNext

-- r is the string p with its last character replaced by the next code point
pub record IsSuccessor (p r : List ℕ) : Type 0 where
  pub front : List ℕ
  pub last : ℕ
  pub before : EndsWith p front last
  pub after : EndsWith r front (last + 1)

-- r is the string p with its last character replaced by the next code point, and has as many bytes
abbrev pub IsSuccessorOfLength : List ℕ → List ℕ → Type 0
IsSuccessorOfLength p r = IsSuccessor p r × (length r ≡ length p)

-- r is the longest beginning of s of whole characters and at most n bytes. No string that has at most as many bytes as r,
-- and is not above s, is above r
pub record IsTextLower (s : List ℕ) (n : ℕ) (r : List ℕ) : Type 0 where
  pub is_prefix : IsTextPrefix s n r
  pub text : IsUtf8 r
  pub not_above : NotAbove r s
  pub greatest : (t : List ℕ) → IsUtf8 t → length t ≤ length r → NotAbove t s → NotAbove t r

-- the longest beginning of s of whole characters and at most n bytes is not stuck, and r is the least string of its length
-- that is above s
pub record IsTextUpper (s : List ℕ) (n : ℕ) (r : List ℕ) : Type 0 where
  pub beginning : List ℕ
  pub is_prefix : IsTextPrefix s n beginning
  pub free : ¬ (IsStuck beginning)
  pub text : IsUtf8 r
  pub exact : length r ≡ length beginning
  pub above : Below s r
  pub least : (t : List ℕ) → IsUtf8 t → length t ≡ length beginning → Below s t → NotAbove r t

-- the longest beginning of s of whole characters and at most n bytes is stuck
abbrev pub HasNoTextUpper : List ℕ → ℕ → Type 0
HasNoTextUpper s n = (p : List ℕ) × IsTextPrefix s n p × IsStuck p
