-- A string in a column of strings.
use Rattle.std.proofs.Common.{◌≡◌, ◌≢◌, ℕ, List, Option, None, refl}
use Rattle.vortex_dtype.specs.TypeTree.{TypeTree, utf8_type}
use Rattle.vortex_dtype.specs.declared.nullability.Nullability.{Nullability}
use Rattle.vortex_filter.specs.Literals.{text_in}
use Rattle.vortex_filter.specs.Positions.{PositionTree}
use Rattle.filter_sql.specs.Reading.{string_in}

pub string_there : (t : TypeTree) (n : Nullability) (bs : List ℕ) → t ≡ utf8_type n → string_in t bs ≡ text_in t bs
string_there t n bs e = rw e refl

pub no_string_there : (t : TypeTree) (bs : List ℕ) → ((n : Nullability) → t ≢ utf8_type n) → ◌≡◌ {A = Option PositionTree} (string_in t bs) None
no_string_there (utf8_type n) bs e = absurd (e n refl)
no_string_there _ bs e = refl

pub ruleset strings = (string_there, no_string_there)
