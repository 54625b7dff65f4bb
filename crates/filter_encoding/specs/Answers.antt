-- What reading an encoding answers: the prepared filter that was written, or the first byte that no encoding has there.
use Rattle.std.specs.Prelude.{◌≡◌, ℕ, suc, ◌+◌, ◌<◌, ◌≤◌, List, ◌∷◌, length, take, Result, MatchResult}
use Rattle.statistics_bytes.specs.EncodingAnswers.{MayGoOn}
use Rattle.filter_encoding.specs.Encoding.{Behind, FirstIn, IsFormed, IsVersion, Prepared, encoding_in, prepared, type_bytes}
use Rattle.filter_encoding.specs.Lists.{listed}
use Rattle.filter_encoding.specs.declared.error.FilterEncodingError.{FilterEncodingError}
use Rattle.filter_encoding.specs.declared.error.FilterEncodingError.TheVariants.{OutOfMemory}
use Rattle.filter_encoding.specs.declared.prepared.PreparedFilter.{PreparedFilter}

-- the encoding of a prepared filter, in a version, in which at most n connectives nest
pub record IsEncoding (n : ℕ) (bs : List ℕ) : Type 0 where
  pub version : ℕ
  pub value : Prepared
  pub is_version : IsVersion version
  pub is_one : IsFormed n value
  pub is : bs ≡ encoding_in version value

-- the first byte is a version
abbrev pub HasVersion : List ℕ → Type 0
HasVersion bs = (version : ℕ) × (rest : List ℕ) × IsVersion version × (bs ≡ version ∷ rest)

-- the bytes are the encoding of a prepared filter, and the key of the first literal that is no value of its logical type
-- has this offset
pub record HasNoValue (n : ℕ) (bs : List ℕ) (offset : ℕ) : Type 0 where
  pub encoded : IsEncoding n bs
  pub first : Behind (1 + length (listed type_bytes encoded.value.types)) (FirstIn encoded.value.filter) offset

-- The bytes are none of the strings, and this is the offset of the first byte that none has: those before begin one,
-- and with it they begin none. If the bytes end too early, it is the offset after them.
pub record IsFirstWrong (IsOne : List ℕ → Type 0) (bytes : List ℕ) (place : ℕ) : Type 0 where
  pub within : place ≤ length bytes
  pub before : MayGoOn IsOne (take place bytes)
  pub wrong : place < length bytes → ¬ (MayGoOn IsOne (take (suc place) bytes))
  pub none : ¬ (IsOne bytes)

-- exactly this prepared filter is read, or there is no memory
abbrev pub ReadsAs : Prepared → Result PreparedFilter FilterEncodingError → Type 0
ReadsAs p r = MatchResult r (λ q. prepared q ≡ p) (λ e. e ≡ OutOfMemory)
