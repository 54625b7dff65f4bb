-- The Bloom filters of columns, and the literals that they are asked for.
use Rattle.std.specs.Prelude.{ℕ, ◌||◌, Bool, true, not, List, Option, Some, None, slice_index_or, if◌then◌else◌}
use Rattle.membership.specs.Words.{may_contain}
use Rattle.vortex_cells.specs.Cells.{Cell}
use Rattle.vortex_cells.specs.Variants.{has_variant}
use Rattle.vortex_row.specs.Typed.{has_typed}
use Rattle.value_membership.specs.Members.{hash_of}

-- ---- the filters of columns

-- the filter of a column, if it has one
abbrev pub filter_at : List (Option (List ℕ)) → ℕ → Option (List ℕ)
filter_at filters k = slice_index_or filters k None

-- whether a filter may contain a hash: without one it may
abbrev pub may_contain_in : Option (List ℕ) → ℕ → Bool
may_contain_in None hash = true
may_contain_in (Some filter) hash = may_contain filter hash

-- whether a column may have a value with a hash, by its filter
abbrev pub may_have_by : List (Option (List ℕ)) → ℕ → ℕ → Bool
may_have_by filters k hash = may_contain_in (filter_at filters k) hash

-- ---- literals

-- whether a literal has a key: no variant stands in it
abbrev pub is_keyed : Cell → Bool
is_keyed x = not (has_variant x.typed || has_typed x.content)

-- its hash, if it has a key
abbrev pub literal_hash : Cell → Option ℕ
literal_hash x = if is_keyed x then Some (hash_of x) else None
