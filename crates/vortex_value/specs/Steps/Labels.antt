-- What is written of a field, or before a part, at its place.
use Rattle.std.specs.Prelude.{ℕ, ◌==◌, List, [], ◌++◌, Option, Some, codes, if◌then◌else◌}
use Rattle.vortex_dtype.specs.TypeTree.{TypeTree, storage}
use Rattle.vortex_value.specs.Texts.{text_at}
use Rattle.vortex_value.specs.Values.RawTree.{RawTree}

-- before the part at this place: the separator, but nothing before the first
abbrev pub before_at : ℕ → List ℕ → List ℕ
before_at i separator = if i == 0 then [] else separator

-- of the field at this place: what stands before it, its name and its value; nothing if there is no name or no type
abbrev pub field_at : ℕ → Option (List ℕ) → Option TypeTree → RawTree → List ℕ
field_at i (Some name) (Some t) v = before_at i (codes ", ") ++ (name ++ (codes ": " ++ text_at (storage t) v))
field_at i _ _ v = []
