-- What the contents of real values have: numbers of an integer kind, strings and ids of bytes, and texts in UTF-8.
use Rattle.std.specs.Prelude.{ℕ, ℤ, pos, negsuc, ◌<◌, ◌^◌, List, slice_index, IsUtf8}
use Rattle.vortex_value.specs.Values.Content.{Content, whole, text, string, sequence, tagged, Contents, no_contents, content_then}

-- each is a byte
abbrev pub AreBytes : List ℕ → Type 0
AreBytes bs = (k : ℕ) → slice_index bs k < 256

-- a number of the kind I64 or U64
abbrev pub IsWhole : ℤ → Type 0
IsWhole (pos n) = n < 2 ^ 64
IsWhole (negsuc n) = n < 2 ^ 63

-- the content is one that a value in memory can have
abbrev mutual
  pub IsHeld : Content → Type 0
  IsHeld (whole z) = IsWhole z
  IsHeld (text bs) = AreBytes bs × IsUtf8 bs
  IsHeld (string bs) = AreBytes bs
  IsHeld (sequence cs) = AreHeld cs
  IsHeld (tagged id c) = (id < 256) × IsHeld c
  IsHeld _ = Unit {0}

  pub AreHeld : Contents → Type 0
  AreHeld no_contents = Unit {0}
  AreHeld (content_then c cs) = IsHeld c × AreHeld cs
