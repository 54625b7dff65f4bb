-- The key of a content: bytes that sort as the contents do. This is version 1 of the layout.
use Rattle.std.specs.Prelude.{ℕ, zero, suc, ℤ, pos, negsuc, ◌+◌, ◌-◌, ◌/◌, ◌%◌, Bool, true, false, List, [], ◌∷◌, ◌++◌, length, map}
use Rattle.vortex_value.specs.Values.Content.{Content, null, truth, whole, text, string, sequence, tagged, typed, Contents, no_contents, content_then}

-- the bytes as they are, or each inverted, which reverses their order
abbrev pub inverted : Bool → List ℕ → List ℕ
inverted false bs = bs
inverted true bs = map (λ b. 255 - b) bs

-- the lowest k bytes of n, the highest of them first
abbrev pub big_endian : ℕ → ℕ → List ℕ
big_endian zero n = []
big_endian (suc k) n = big_endian k (n / 256) ++ (n % 256) ∷ []

-- the bytes from the first on that is not 0
abbrev pub without_leading_zeros : List ℕ → List ℕ
without_leading_zeros [] = []
without_leading_zeros (zero ∷ bs) = without_leading_zeros bs
without_leading_zeros (b ∷ bs) = b ∷ bs

-- the bytes that a number below 2 ^ 64 needs, the highest first
abbrev pub number_bytes : ℕ → List ℕ
number_bytes n = without_leading_zeros (big_endian 8 n)

-- the bytes of a number that is not below 0, after 12 and how many they are
abbrev pub upward_key : List ℕ → List ℕ
upward_key bs = (12 + length bs) ∷ bs

-- the bytes of how far a number is below 0, each inverted, after 12 less how many they are
abbrev pub downward_key : List ℕ → List ℕ
downward_key bs = (12 - length bs) ∷ inverted true bs

-- a whole number: 12 for 0, 13 to 20 before the bytes of one above it, 11 down to 4 before those of one below it
abbrev pub whole_key : ℤ → List ℕ
whole_key (pos n) = upward_key (number_bytes n)
whole_key (negsuc n) = downward_key (number_bytes (suc n))

-- one byte of a string: 0, which ends it, and 1 are written as 1 and one more than themselves
abbrev pub escape : ℕ → List ℕ
escape zero = 1 ∷ 1 ∷ []
escape (suc zero) = 1 ∷ 2 ∷ []
escape b = b ∷ []

-- the bytes of a string, and 0 after them
abbrev pub escaped : List ℕ → List ℕ
escaped [] = 0 ∷ []
escaped (b ∷ bs) = escape b ++ escaped bs

abbrev pub truth_byte : Bool → ℕ
truth_byte false = 2
truth_byte true = 3

-- the key of a content; its first byte says which kind of content it is
abbrev mutual
  pub key : Content → List ℕ
  key null = 1 ∷ []
  key (truth b) = truth_byte b ∷ []
  key (whole z) = whole_key z
  key (text bs) = 21 ∷ escaped bs
  key (string bs) = 22 ∷ escaped bs
  key (sequence cs) = 23 ∷ keys cs
  key (tagged id c) = 24 ∷ id ∷ key c
  key (typed t c) = 25 ∷ []

  -- the keys of the parts, and 0 after them
  pub keys : Contents → List ℕ
  keys no_contents = 0 ∷ []
  keys (content_then c cs) = key c ++ keys cs
