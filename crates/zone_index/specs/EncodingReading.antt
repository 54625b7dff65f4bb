-- Reading the encoding from left to right, with the first error that is met.
use Rattle.std.specs.Prelude.{◌≡◌, ◌+◌, ℕ, zero, suc, Bool, true, false, List, [], ◌∷◌, length, take, drop, Result, Ok, Err, nat_lt, ◌==◌, if◌then◌else◌}
use Rattle.std.specs.Int.{Width, w32, w64, byte_len, from_le_bytes}
use Rattle.std.specs.Str.{bytes_eq}
use Rattle.sha2.specs.Sha256.{sha256}
use Rattle.zone_index.specs.declared.encoding.TheConstants.{MAGIC, VERSION}
use Rattle.zone_index.specs.declared.encoding.EncodingError.{EncodingError}
use Rattle.zone_index.specs.declared.encoding.EncodingError.TheVariants.{Short, Magic, Version, Damaged, Trailing}
use Rattle.zone_index.specs.declared.encoding.ReadError.{ReadError}
use Rattle.zone_index.specs.declared.encoding.ReadError.TheVariants as errors
use Rattle.zone_index.specs.Encoding.{BlockValue, IndexValue, RootValue, ZoneValue, is_wanted, with_statistics, with_unread}

infixl 10 ◌>>=◌
-- what reads on, if nothing was wrong so far
abbrev pub ◌>>=◌ : {A B : Type 0} → Result A EncodingError → (A → Result B EncodingError) → Result B EncodingError
(Ok x) >>= f = f x
(Err e) >>= f = Err e

-- memory ran out, or reading meets this error
abbrev pub Fails : {Y : Type 0} → ReadError → Result Y EncodingError → Type 0
Fails errors.Memory read = Unit {0}
Fails (errors.Fault f) read = read ≡ Err f

-- what a function returned, seen by view, is what reading gives, unless memory ran out
abbrev pub Gives : {X Y : Type 0} → (X → Y) → Result X ReadError → Result Y EncodingError → Type 0
Gives view (Ok x) read = read ≡ Ok (view x)
Gives view (Err e) read = Fails e read

-- a field is a value and the bytes after it
abbrev pub number_at : Width → List ℕ → Result (ℕ × List ℕ) EncodingError
number_at w bytes = if nat_lt (length bytes) (byte_len w) then Err Short else Ok (from_le_bytes w (take (byte_len w) bytes), drop (byte_len w) bytes)

-- so many bytes
abbrev pub front_at : ℕ → List ℕ → Result (List ℕ × List ℕ) EncodingError
front_at n bytes = if nat_lt (length bytes) n then Err Short else Ok (take n bytes, drop n bytes)

-- a length, and that many bytes
unfoldable pub bytes_at : List ℕ → Result (List ℕ × List ℕ) EncodingError
bytes_at bytes = do
  n ← number_at w64 bytes
  front_at n.0 n.1

-- what follows a number that must be this one
abbrev pub known_at : EncodingError → ℕ → List ℕ → Result (List ℕ) EncodingError
known_at fault n bytes = do
  x ← number_at w32 bytes
  if x.0 == n then Ok x.1 else Err fault

-- ---- the root

unfoldable pub zone_at : List ℕ → Result (ZoneValue × List ℕ) EncodingError
zone_at bytes = do
  first ← number_at w64 bytes
  len ← number_at w64 first.1
  records ← number_at w64 len.1
  rows ← number_at w64 records.1
  Ok (record { first = first.0; length = len.0; records = records.0; rows = rows.0; statistics = [] }, rows.1)

unfoldable pub block_at : List ℕ → Result (BlockValue × List ℕ) EncodingError
block_at bytes = do
  len ← number_at w64 bytes
  digest ← front_at 32 len.1
  Ok (record { length = len.0; digest = digest.0 }, digest.1)

-- so many, one after another
unfoldable pub many_at : {A : Type 0} → (List ℕ → Result (A × List ℕ) EncodingError) → ℕ → List ℕ → Result (List A × List ℕ) EncodingError
many_at one_at zero bytes = Ok ([], bytes)
many_at one_at (suc n) bytes = do
  first ← one_at bytes
  others ← many_at one_at n first.1
  Ok (first.0 ∷ others.0, others.1)

-- how many, and these
unfoldable pub counted_at : {A : Type 0} → (List ℕ → Result (A × List ℕ) EncodingError) → List ℕ → Result (List A × List ℕ) EncodingError
counted_at one_at bytes = do
  n ← number_at w64 bytes
  many_at one_at n.0 n.1

-- what is said of the file
unfoldable pub file_at : List ℕ → Result (IndexValue × List ℕ) EncodingError
file_at bytes = do
  file_length ← number_at w64 bytes
  changed ← number_at w64 file_length.1
  start ← number_at w64 changed.1
  setup ← bytes_at start.1
  Ok (record { file_length = file_length.0; changed = changed.0; setup = setup.0; start = start.0; zones = [] }, setup.1)

-- all that is signed
unfoldable pub content_at : List ℕ → Result RootValue EncodingError
content_at bytes = do
  file ← file_at bytes
  zones ← counted_at zone_at file.1
  blocks ← counted_at block_at zones.1
  if length blocks.1 == 0 then Ok (record { index = record (file.0) { zones = zones.0 }; blocks = blocks.0 }) else Err Trailing

-- what stands before a digest, which must be its own, and what follows that
unfoldable pub signed_at : List ℕ → Result (List ℕ × List ℕ) EncodingError
signed_at bytes = do
  content ← bytes_at bytes
  digest ← front_at 32 content.1
  if bytes_eq (sha256 content.0) digest.0 then Ok (content.0, digest.1) else Err Damaged

-- the signed bytes of a root that this program can read, and the bytes of the blocks
unfoldable pub signed_root_at : List ℕ → Result (List ℕ × List ℕ) EncodingError
signed_root_at bytes = do
  after_magic ← known_at Magic MAGIC bytes
  after_version ← known_at Version VERSION after_magic
  signed_at after_version

-- the bytes begin with signed ones, whose digest is right
abbrev pub IsSigned : List ℕ → Type 0
IsSigned bytes = (signed : List ℕ × List ℕ) × (signed_root_at bytes ≡ Ok signed)

-- the root, and the bytes of the blocks
unfoldable pub root_at : List ℕ → Result (RootValue × List ℕ) EncodingError
root_at bytes = do
  after_magic ← known_at Magic MAGIC bytes
  after_version ← known_at Version VERSION after_magic
  signed ← signed_at after_version
  root ← content_at signed.0
  Ok (root, signed.1)

-- ---- the blocks

-- a length and that many bytes, as they stand
unfoldable pub piece_at : List ℕ → Result (List ℕ × List ℕ) EncodingError
piece_at bytes = do
  n ← number_at w64 bytes
  if nat_lt (length n.1) n.0 then Err Short else Ok (take (8 + n.0) bytes, drop (8 + n.0) bytes)

-- pieces and nothing else, one for each of these, to which it is given
unfoldable pub dealt_at : {A : Type 0} → (A → List ℕ → A) → List A → List ℕ → Result (List A) EncodingError
dealt_at give [] bytes = if length bytes == 0 then Ok [] else Err Trailing
dealt_at give (x ∷ xs) bytes = do
  piece ← piece_at bytes
  others ← dealt_at give xs piece.1
  Ok (give x piece.0 ∷ others)

-- the zones with a piece more, if the bytes of a wanted block have this digest
unfoldable pub added_at : Bool → BlockValue → List ZoneValue → List ℕ → Result (List ZoneValue) EncodingError
added_at true b zones block = if bytes_eq (sha256 block) b.digest then dealt_at with_statistics zones block else Err Damaged
added_at false b zones block = Ok (with_unread zones)

-- the zones with the pieces of all blocks, from this place on
unfoldable pub blocks_at : List Bool → ℕ → List BlockValue → List ZoneValue → List ℕ → Result (List ZoneValue) EncodingError
blocks_at wanted k [] zones bytes = if length bytes == 0 then Ok zones else Err Trailing
blocks_at wanted k (b ∷ bs) zones bytes = do
  block ← front_at b.length bytes
  more ← added_at (is_wanted wanted k) b zones block.0
  blocks_at wanted (suc k) bs more block.1

-- the index of a root, with what its blocks say
abbrev pub index_at : List Bool → RootValue → List ℕ → Result IndexValue EncodingError
index_at wanted r bytes = do
  zones ← blocks_at wanted 0 r.blocks r.index.zones bytes
  Ok (record (r.index) { zones = zones })
