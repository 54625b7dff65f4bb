-- The encoding of an index in bytes.
use Rattle.std.specs.Prelude.{◌≡◌, ℕ, zero, suc, ◌<◌, ◌^◌, Bool, true, false, List, [], ◌∷◌, ◌++◌, drop, length, map, slice_index_or, if◌then◌else◌}
use Rattle.std.specs.List.{flat_map, concat, AllByRecursion}
use Rattle.std.specs.Int.{w32, w64, to_le_bytes}
use Rattle.sha2.specs.Sha256.{sha256}
use Rattle.zone_index.specs.declared.encoding.Block.{Block}
use Rattle.zone_index.specs.declared.encoding.Index.{Index}
use Rattle.zone_index.specs.declared.encoding.Root.{Root}
use Rattle.zone_index.specs.declared.encoding.TheConstants.{MAGIC, VERSION}
use Rattle.zone_index.specs.declared.zones.Zone.{Zone}

-- a zone without where it lies in memory
pub record ZoneValue : Type 0 where
  pub first : ℕ
  pub length : ℕ
  pub records : ℕ
  pub rows : ℕ
  pub statistics : List ℕ

abbrev pub zone_value : Zone → ZoneValue
zone_value z = record { first = z.first; length = z.length; records = z.records; rows = z.rows; statistics = z.statistics.items }

abbrev pub zone_values : List Zone → List ZoneValue
zone_values zones = map zone_value zones

-- an index without where it lies in memory
pub record IndexValue : Type 0 where
  pub file_length : ℕ
  pub changed : ℕ
  pub setup : List ℕ
  pub start : ℕ
  pub zones : List ZoneValue

abbrev pub index_value : Index → IndexValue
index_value x = record { file_length = x.file_length; changed = x.changed; setup = x.setup.items; start = x.start; zones = zone_values x.zones.items }

-- a block without where it lies in memory: how many bytes it has, and their digest
pub record BlockValue : Type 0 where
  pub length : ℕ
  pub digest : List ℕ

abbrev pub block_value : Block → BlockValue
block_value b = record { length = b.length; digest = b.digest.items }

-- an index whose zones have no statistics, and its blocks
pub record RootValue : Type 0 where
  pub index : IndexValue
  pub blocks : List BlockValue

abbrev pub root_value : Root → RootValue
root_value r = record { index = index_value r.index; blocks = map block_value r.blocks.items }

-- ---- the root

-- eight bytes of length, and that many bytes
abbrev pub bytes_encoding : List ℕ → List ℕ
bytes_encoding bytes = to_le_bytes w64 (length bytes) ++ bytes

-- four numbers of eight bytes
abbrev pub zone_encoding : ZoneValue → List ℕ
zone_encoding z = to_le_bytes w64 z.first ++ (to_le_bytes w64 z.length ++ (to_le_bytes w64 z.records ++ to_le_bytes w64 z.rows))

-- eight bytes of length, and the digest
abbrev pub block_encoding : BlockValue → List ℕ
block_encoding b = to_le_bytes w64 b.length ++ b.digest

-- how many there are, and the encoding of each
abbrev pub counted_encoding : {A : Type 0} → (A → List ℕ) → List A → List ℕ
counted_encoding encoding xs = to_le_bytes w64 (length xs) ++ flat_map encoding xs

-- the length of the file and its change, the first offset, and the setup
abbrev pub file_encoding : IndexValue → List ℕ
file_encoding x = to_le_bytes w64 x.file_length ++ (to_le_bytes w64 x.changed ++ (to_le_bytes w64 x.start ++ bytes_encoding x.setup))

-- what is said of the file, of the zones and of the blocks
abbrev pub content_encoding : RootValue → List ℕ
content_encoding r = file_encoding r.index ++ (counted_encoding zone_encoding r.index.zones ++ counted_encoding block_encoding r.blocks)

-- the magic and the version in four bytes each, the content after its length, and its digest
abbrev pub root_encoding : RootValue → List ℕ
root_encoding r = to_le_bytes w32 MAGIC ++ (to_le_bytes w32 VERSION ++ (bytes_encoding (content_encoding r) ++ sha256 (content_encoding r)))

-- ---- the blocks

-- the first pieces of zones, the second ones, and so on, so many times
abbrev pub columns : ℕ → List (List (List ℕ)) → List (List (List ℕ))
columns zero pieces = []
columns (suc n) pieces = map (λ ps. slice_index_or ps 0 []) pieces ∷ columns n (map (λ ps. drop 1 ps) pieces)

-- a block has such a piece of each zone, each after its length
abbrev pub blocks_of : ℕ → List (List (List ℕ)) → List (List ℕ)
blocks_of n pieces = map (λ column. flat_map bytes_encoding column) (columns n pieces)

abbrev pub block_of : List ℕ → BlockValue
block_of bytes = record { length = length bytes; digest = sha256 bytes }

abbrev pub without_statistics : ZoneValue → ZoneValue
without_statistics z = record z { statistics = [] }

-- the root of an index with these blocks
abbrev pub root_of : IndexValue → List (List ℕ) → RootValue
root_of x blocks = record { index = record x { zones = map without_statistics x.zones }; blocks = map block_of blocks }

-- the bytes are so many pieces, each after its length
pub record ArePieces (n : ℕ) (bytes : List ℕ) (pieces : List (List ℕ)) : Type 0 where
  pub is : bytes ≡ flat_map bytes_encoding pieces
  pub count : length pieces ≡ n
  pub fit : AllByRecursion (λ p. length p < 2 ^ 64) pieces

-- the statistics of each zone are
abbrev pub HavePieces : ℕ → List ZoneValue → List (List (List ℕ)) → Type 0
HavePieces n [] [] = Unit {0}
HavePieces n [] (ps ∷ pieces) = ⊥
HavePieces n (z ∷ zs) [] = ⊥
HavePieces n (z ∷ zs) (ps ∷ pieces) = ArePieces n z.statistics ps × HavePieces n zs pieces

-- the root, and the blocks one after another
abbrev pub index_encoding : ℕ → IndexValue → List (List (List ℕ)) → List ℕ
index_encoding n x pieces = root_encoding (root_of x (blocks_of n pieces)) ++ concat (blocks_of n pieces)

-- what has an encoding
pub record FitsZone (z : ZoneValue) : Type 0 where
  pub first : z.first < 2 ^ 64
  pub long : z.length < 2 ^ 64
  pub records : z.records < 2 ^ 64
  pub rows : z.rows < 2 ^ 64

pub record FitsFile (x : IndexValue) : Type 0 where
  pub file_length : x.file_length < 2 ^ 64
  pub changed : x.changed < 2 ^ 64
  pub start : x.start < 2 ^ 64
  pub setup : length x.setup < 2 ^ 64

pub record FitsContent (x : IndexValue) (blocks : List (List ℕ)) : Type 0 where
  pub file : FitsFile x
  pub count : length x.zones < 2 ^ 64
  pub zones : AllByRecursion FitsZone x.zones
  pub columns : length blocks < 2 ^ 64
  pub blocks_long : AllByRecursion (λ b. length b < 2 ^ 64) blocks

pub record FitsEncoding (n : ℕ) (x : IndexValue) (pieces : List (List (List ℕ))) : Type 0 where
  pub have : HavePieces n x.zones pieces
  pub parts : FitsContent x (blocks_of n pieces)
  pub content : length (content_encoding (root_of x (blocks_of n pieces))) < 2 ^ 64

-- ---- what is read

-- whether a block is wanted: each but those at whose place stands `false`
abbrev pub is_wanted : List Bool → ℕ → Bool
is_wanted wanted k = slice_index_or wanted k true

-- the pieces from this place on, with an empty one in place of each that is not wanted
abbrev pub wanted_pieces : List Bool → ℕ → List (List ℕ) → List (List ℕ)
wanted_pieces wanted k [] = []
wanted_pieces wanted k (p ∷ ps) = (if is_wanted wanted k then p else []) ∷ wanted_pieces wanted (suc k) ps

abbrev pub wanted_zones : List Bool → List ZoneValue → List (List (List ℕ)) → List ZoneValue
wanted_zones wanted [] pieces = []
wanted_zones wanted (z ∷ zs) [] = []
wanted_zones wanted (z ∷ zs) (ps ∷ pieces) = record z { statistics = flat_map bytes_encoding (wanted_pieces wanted 0 ps) } ∷ wanted_zones wanted zs pieces

-- the index, with empty pieces in place of those that are not wanted
abbrev pub wanted_of : List Bool → IndexValue → List (List (List ℕ)) → IndexValue
wanted_of wanted x pieces = record x { zones = wanted_zones wanted x.zones pieces }

abbrev pub with_statistics : ZoneValue → List ℕ → ZoneValue
with_statistics z more = record z { statistics = z.statistics ++ more }

-- each of these is given one piece, after its length
abbrev pub dealt : {A : Type 0} → (A → List ℕ → A) → List (List ℕ) → List A → List A
dealt give [] xs = []
dealt give (p ∷ ps) [] = []
dealt give (p ∷ ps) (x ∷ xs) = give x (bytes_encoding p) ∷ dealt give ps xs

-- each zone with an empty piece, of a block that is not read
abbrev pub with_unread : List ZoneValue → List ZoneValue
with_unread zs = map (λ z. with_statistics z (bytes_encoding [])) zs

-- the bytes are pieces, each after its length, and each of these is given one
pub record AreDealt {A : Type 0} (give : A → List ℕ → A) (old : List A) (bytes : List ℕ) (new : List A) : Type 0 where
  pub pieces : List (List ℕ)
  pub count : length pieces ≡ length old
  pub is : bytes ≡ flat_map bytes_encoding pieces
  pub fit : AllByRecursion (λ p. length p < 2 ^ 64) pieces
  pub given : new ≡ dealt give pieces old

-- a block adds a piece to each zone: if it is wanted its own, which its digest tells, and else an empty one
abbrev pub AddsBlock : Bool → BlockValue → List ℕ → List ZoneValue → List ZoneValue → Type 0
AddsBlock true b block old new = AreDealt with_statistics old block new × (b.digest ≡ sha256 block)
AddsBlock false b block old new = new ≡ with_unread old

-- so do blocks, from this place on, one after another
abbrev pub AddBlocks : List Bool → ℕ → List BlockValue → List ℕ → List ZoneValue → List ZoneValue → Type 0
AddBlocks wanted k [] bytes old new = (bytes ≡ []) × (new ≡ old)
AddBlocks wanted k (b ∷ bs) bytes old new =
    (block rest : List ℕ) × (some : List ZoneValue) × (bytes ≡ block ++ rest) × (length block ≡ b.length) × AddsBlock (is_wanted wanted k) b block old some × AddBlocks wanted (suc k) bs rest some new
