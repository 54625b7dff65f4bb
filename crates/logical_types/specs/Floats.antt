-- The float that a word writes, by its storage.
use Rattle.std.specs.Prelude.{◌==◌, ◌&&◌, ℕ, ℤ, Bool, List, Option, Some, None, if◌then◌else◌, unsigned_abs}
use Rattle.std.specs.Char.{is_ascii_digit}
use Rattle.std.specs.List.{list_any}
use Rattle.std.specs.Option.{option_and_then}
use Rattle.std.specs.Float.{Float, Format}
use Rattle.std.specs.Float.Parse.{parse_float}
use Rattle.float_storage.specs.Storage.{infinity, storage_of}

-- the word has a digit: so it writes a number, and is no `inf` and no `nan`
abbrev pub has_digit : List ℕ → Bool
has_digit word = list_any is_ascii_digit word

-- the storage z, unless it is an infinity's
abbrev pub finite : Format → ℤ → Option ℤ
finite f z = if unsigned_abs z == infinity f then None else Some z

-- the storage z, unless it is an infinity's and the word writes a number
abbrev pub bounded : Format → List ℕ → ℤ → Option ℤ
bounded f word z = if (unsigned_abs z == infinity f) && has_digit word then None else Some z

-- the storage of the float that the word writes: the nearest to its number
abbrev pub storage_written : Format → List ℕ → Option ℤ
storage_written f word = option_and_then (λ (x : Float). bounded f word (storage_of f x)) (parse_float f word)
