-- The characters at the ends of a text, which is a list of bytes in UTF-8.
use Rattle.std.specs.Prelude.{◌≡◌, ◌≢◌, ℕ, ◌<◌, ◌≤◌, List, ◌++◌, map}
use Rattle.std.specs.Char.{IsScalar, encode_utf8, to_ascii_lowercase}
use Rattle.std.specs.Str.{IsUtf8}
use Rattle.like_patterns.specs.declared.case.Case.{Case}
use Rattle.like_patterns.specs.declared.case.Case.TheVariants.{Sensitive, Insensitive}

-- the bytes, or the characters, of a text as they are compared
abbrev pub compared : Case → List ℕ → List ℕ
compared Sensitive text = text
compared Insensitive text = map to_ascii_lowercase text

-- a byte that is not the first of its character
abbrev pub IsInside : ℕ → Type 0
IsInside byte = (128 ≤ byte) × (byte < 192)

-- the text is one character and then the rest
pub record BeginsWithOne (text rest : List ℕ) : Type 0 where
  pub character : ℕ
  pub scalar : IsScalar character
  pub is : text ≡ encode_utf8 character ++ rest
  pub utf8 : IsUtf8 rest

-- the text is the front and then one character
pub record EndsWithOne (text front : List ℕ) : Type 0 where
  pub character : ℕ
  pub scalar : IsScalar character
  pub is : text ≡ front ++ encode_utf8 character
  pub utf8 : IsUtf8 front

-- the text is bytes that compare as the wanted ones, and then the rest
pub record Begins (case : Case) (text wanted rest : List ℕ) : Type 0 where
  pub first : List ℕ
  pub is : text ≡ first ++ rest
  pub same : compared case first ≡ compared case wanted

abbrev pub BeginsOtherwise : Case → List ℕ → List ℕ → Type 0
BeginsOtherwise case text wanted = (rest : List ℕ) → compared case text ≢ compared case wanted ++ rest

-- the text is the front, and then bytes that compare as the wanted ones
pub record Ends (case : Case) (text wanted front : List ℕ) : Type 0 where
  pub last : List ℕ
  pub is : text ≡ front ++ last
  pub same : compared case last ≡ compared case wanted

abbrev pub EndsOtherwise : Case → List ℕ → List ℕ → Type 0
EndsOtherwise case text wanted = (front : List ℕ) → compared case text ≢ front ++ compared case wanted
