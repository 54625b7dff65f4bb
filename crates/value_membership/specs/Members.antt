-- The members of a column: a Bloom filter of the hashes of its values.
use Rattle.std.specs.Prelude.{◌≡◌, ℕ, true, List, if◌then◌else◌}
use Rattle.membership.specs.Words.{may_contain, with_hash, xxh64}
use Rattle.vortex_cells.specs.Cells.{Cell, HasValue, is_null_cell}
use Rattle.vortex_row.specs.Keys.{key}

-- the hash of a cell: that of its key, which depends on the content alone
abbrev pub hash_of : Cell → ℕ
hash_of x = xxh64 (key x.content)

-- the members with a cell more: a null is no value
abbrev pub with_cell : List ℕ → Cell → List ℕ
with_cell members x = if is_null_cell x then members else with_hash members (hash_of x)

-- each value of the cells was inserted, and so may be contained
pub record HasMembers (members : List ℕ) (cells : List Cell) : Type 0 where
  pub values : (x : Cell) → HasValue cells x → may_contain members (hash_of x) ≡ true
