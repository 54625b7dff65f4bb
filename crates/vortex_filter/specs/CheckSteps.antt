-- The check of a filter as the code makes it.
use Rattle.std.specs.Prelude.{ℕ, ◌+◌, Bool, true, false, ◌&&◌, ◌||◌, List, [], ◌∷◌, length, Option, Some, None, Result, Ok, Err, slice_get, if◌then◌else◌}
use Rattle.std.specs.List.{list_all}
use Rattle.vortex_dtype.specs.Parts.{is_binary_type, is_utf8_type}
use Rattle.vortex_dtype.specs.TypeTree.{TypeTree}
use Rattle.vortex_value.specs.Equality.{same_type}
use Rattle.vortex_value.specs.Size.{capped}
use Rattle.vortex_filter.specs.declared.error.FilterError.{FilterError}
use Rattle.vortex_filter.specs.declared.error.FilterError.TheVariants.{OutOfMemory, NoColumn, HasVariant, TypesDiffer}
use Rattle.vortex_filter.specs.Checking.{Demand, beginning, comparing, matching, nothing, tests}
use Rattle.vortex_filter.specs.Formula.{Formula, constant, comparison, null_test, membership, range, prefix_test, pattern_test, both, either, negation}
use Rattle.vortex_cells.specs.Cells.{Cell}
use Rattle.vortex_cells.specs.Variants.{has_variant}

-- whether the type holds strings, or bytes
abbrev pub holds_strings : TypeTree → Bool
holds_strings t = is_utf8_type t || is_binary_type t

-- whether the literals are of the type, what may begin with one is a string, or bytes, and what may match a pattern a string
abbrev pub suits : Demand Cell → TypeTree → Bool
suits nothing t = true
suits (comparing xs) t = list_all (λ x. same_type t x.typed) xs
suits (beginning p) t = holds_strings t && same_type t p.typed
suits matching t = is_utf8_type t

-- whether an order is wanted of the type's values, and there is none
abbrev pub lacks_order : Demand Cell → TypeTree → Bool
lacks_order nothing t = false
lacks_order (comparing xs) t = has_variant t
lacks_order (beginning p) t = has_variant t
lacks_order matching t = has_variant t

-- the answer for one test, by its column's type
abbrev pub checked_test : Option TypeTree → Demand Cell → ℕ → Result (Unit {0}) FilterError
checked_test None d k = Err (NoColumn 0 k)
checked_test (Some t) d k = if lacks_order d t then Err (HasVariant 0 k) else (if suits d t then Ok tt else Err (TypesDiffer 0 k))

-- the refusal of a test that stands behind so many others
abbrev pub behind : ℕ → FilterError → FilterError
behind count OutOfMemory = OutOfMemory
behind count (NoColumn n k) = NoColumn (capped (count + n)) k
behind count (HasVariant n k) = HasVariant (capped (count + n)) k
behind count (TypesDiffer n k) = TypesDiffer (capped (count + n)) k

-- the answer for what stands behind so many tests
abbrev pub answer_behind : {T : Type 0} → ℕ → Result T FilterError → Result T FilterError
answer_behind count (Ok x) = Ok x
answer_behind count (Err e) = Err (behind count e)

-- the answer for two parts, the first with so many tests
abbrev pub answer_of_both : ℕ → Result (Unit {0}) FilterError → Result (Unit {0}) FilterError → Result (Unit {0}) FilterError
answer_of_both count (Ok x) r = answer_behind count r
answer_of_both count (Err e) r = Err e

-- the answer for a formula
abbrev pub checked : List TypeTree → Formula → Result (Unit {0}) FilterError
checked columns (constant t) = Ok tt
checked columns (comparison k op x) = checked_test (slice_get columns k) (comparing (x ∷ [])) k
checked columns (null_test k) = checked_test (slice_get columns k) nothing k
checked columns (membership k xs) = checked_test (slice_get columns k) (comparing xs) k
checked columns (range k x y) = checked_test (slice_get columns k) (comparing (x ∷ y ∷ [])) k
checked columns (prefix_test k p) = checked_test (slice_get columns k) (beginning p) k
checked columns (pattern_test k case parts) = checked_test (slice_get columns k) matching k
checked columns (both f g) = answer_of_both (capped (length (tests f))) (checked columns f) (checked columns g)
checked columns (either f g) = answer_of_both (capped (length (tests f))) (checked columns f) (checked columns g)
checked columns (negation f) = checked columns f
