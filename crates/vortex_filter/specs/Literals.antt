-- Literals as they are written, before a column gives them a type, and where they stand among the values of a type.
use Rattle.std.specs.Prelude.{ℕ, ℤ, pos, ◌+ℤ◌, ◌&&◌, Bool, true, false, List, [], Option, Some, None, option_and_then, option_map, if◌then◌else◌}
use Rattle.std.specs.Ordering.{int_cmp}
use Rattle.std.specs.declared.cmp.Ordering.TheVariants.{Less, Greater}
use Rattle.vortex_dtype.specs.TypeTree.{IsFlat, TypeTree, as_nullable, bool_type, integer_type, utf8_type, binary_type, extension_type}
use Rattle.vortex_dtype.specs.declared.nullability.Nullability.TheVariants.{NonNullable}
use Rattle.vortex_dtype.specs.declared.ptype.PType.{PType}
use Rattle.vortex_pvalue.specs.Numbers.{in_range}
use Rattle.vortex_value.specs.Values.Content.{Content, null, truth, whole, text, string}
use Rattle.vortex_value.specs.declared.scalars.Scalar.{Scalar}
use Rattle.vortex_cells.specs.Cells.{Cell}
use Rattle.logical_scalars.specs.TypeShapes.{shape_in}
use Rattle.logical_types.specs.Shapes.{Shape, float64, float32, decimals, days, times, timestamps, place_in, storage_in, stored_as}
use Rattle.logical_types.specs.Storing.{decimal_bytes}
use Rattle.logical_types.specs.declared.decimals.places.DecimalPlace.{DecimalPlace}
use Rattle.logical_types.specs.declared.decimals.places.DecimalPlace.TheVariants.{At, Behind, BelowAll, AboveAll}
use Rattle.logical_types.specs.declared.extensions.StorageType.{StorageType}
use Rattle.logical_types.specs.declared.extensions.StorageType.TheVariants.{I32, I64, Bytes}
use Rattle.logical_types.specs.declared.times.TimeUnit.{TimeUnit}
use Rattle.vortex_filter.specs.declared.literals.Literal.{Literal}
use Rattle.vortex_filter.specs.declared.literals.Literal.TheVariants as literals
use Rattle.vortex_filter.specs.declared.literals.Position.{Position}
use Rattle.vortex_filter.specs.Positions.{PositionTree, exactly, just_above, lacking, scalars_of}

-- a literal without where it lies in memory
pub data LiteralTree : Type 0 where
  null_literal : LiteralTree
  truth_literal : Bool → LiteralTree
  -- a number, by its word: `10`, `-0.5`, `1e30`
  number_literal : List ℕ → LiteralTree
  text_literal : List ℕ → LiteralTree
  bytes_literal : List ℕ → LiteralTree

abbrev pub literal_tree : Literal → LiteralTree
literal_tree literals.Null = null_literal
literal_tree (literals.Bool b) = truth_literal b
literal_tree (literals.Number word) = number_literal word.now
literal_tree (literals.Text bs) = text_literal bs.now
literal_tree (literals.Bytes bs) = bytes_literal bs.now

-- ---- values of a type

-- a null in a column of this type
abbrev pub null_cell : TypeTree → Cell
null_cell t = record { typed = as_nullable t; content = null }

abbrev pub truth_cell : Bool → Cell
truth_cell b = record { typed = bool_type NonNullable; content = truth b }

abbrev pub number_cell : PType → ℤ → Cell
number_cell k z = record { typed = integer_type k NonNullable; content = whole z }

abbrev pub text_cell : List ℕ → Cell
text_cell bs = record { typed = utf8_type NonNullable; content = text bs }

abbrev pub bytes_cell : List ℕ → Cell
bytes_cell bs = record { typed = binary_type NonNullable; content = string bs }

-- what stores the value with storage z
abbrev pub storage_content : StorageType → ℤ → Content
storage_content I32 z = whole z
storage_content I64 z = whole z
storage_content Bytes z = string (decimal_bytes z)

-- the value with storage z of a logical type, in a column of the type t
abbrev pub logical_cell : TypeTree → Shape → ℤ → Cell
logical_cell t s z = record { typed = t; content = storage_content (stored_as s) z }

-- ---- numbers

-- an integer among those of a type: at itself, or each of them stands to it as 0 does
abbrev pub integer_position : PType → ℤ → PositionTree
integer_position k z = if in_range k z then exactly (number_cell k z) else lacking (int_cmp (pos 0) z)

-- what lies between an integer and the next among those of a type
abbrev pub gap_position : PType → ℤ → PositionTree
gap_position k z = if in_range k z && in_range k (z +ℤ pos 1) then just_above (number_cell k z) else lacking (int_cmp (pos 0) z)

-- a number among the integers of a type, by its place among all integers
abbrev pub integer_at : PType → DecimalPlace → PositionTree
integer_at k (At z) = integer_position k z
integer_at k (Behind z) = gap_position k z
integer_at k BelowAll = lacking Greater
integer_at k AboveAll = lacking Less

-- a number among decimals, by its place
abbrev pub decimal_at : TypeTree → Shape → DecimalPlace → PositionTree
decimal_at t s (At z) = exactly (logical_cell t s z)
decimal_at t s (Behind z) = just_above (logical_cell t s z)
decimal_at t s BelowAll = lacking Greater
decimal_at t s AboveAll = lacking Less

-- the value that a word writes
abbrev pub written_value : TypeTree → Shape → List ℕ → Option PositionTree
written_value t s word = option_map (λ z. exactly (logical_cell t s z)) (storage_in s word)

-- a number in a column of a logical type
abbrev pub number_of_shape : TypeTree → Shape → List ℕ → Option PositionTree
number_of_shape t float64 word = written_value t float64 word
number_of_shape t float32 word = written_value t float32 word
number_of_shape t (decimals precision scale) word = option_map (decimal_at t (decimals precision scale)) (place_in precision scale word)
number_of_shape t _ word = None

-- the first of two that is there
abbrev pub option_or : Option ℤ → Option ℤ → Option ℤ
option_or (Some z) o = Some z
option_or None o = o

-- the storage of the instant that a text writes: what it says with `Z` or an offset, or else what it says without, in UTC
abbrev pub instant_in : TimeUnit → List ℕ → Option ℤ
instant_in unit word = option_or (storage_in (timestamps unit true) word) (storage_in (timestamps unit false) word)

-- a string in a column of a logical type: in one of numbers it is its number
abbrev pub text_of_shape : TypeTree → Shape → List ℕ → Option PositionTree
text_of_shape t days word = written_value t days word
text_of_shape t (times unit) word = written_value t (times unit) word
text_of_shape t (timestamps unit false) word = written_value t (timestamps unit false) word
text_of_shape t (timestamps unit true) word = option_map (λ z. exactly (logical_cell t (timestamps unit true) z)) (instant_in unit word)
text_of_shape t s word = number_of_shape t s word

-- ---- where a literal stands

abbrev pub truth_in : TypeTree → Bool → Option PositionTree
truth_in (bool_type n) b = Some (exactly (truth_cell b))
truth_in _ b = None

-- a number among the integers of a type
abbrev pub integer_in : PType → List ℕ → Option PositionTree
integer_in k word = option_map (integer_at k) (place_in 38 0 word)

-- a number, and a string, in a column of some logical type
abbrev pub number_of_type : TypeTree → List ℕ → Option PositionTree
number_of_type t word = option_and_then (λ s. number_of_shape t s word) (shape_in t)

abbrev pub text_of_type : TypeTree → List ℕ → Option PositionTree
text_of_type t word = option_and_then (λ s. text_of_shape t s word) (shape_in t)

abbrev pub number_in : TypeTree → List ℕ → Option PositionTree
number_in (integer_type k n) word = integer_in k word
number_in (extension_type id metadata u) word = number_of_type (extension_type id metadata u) word
number_in _ word = None

-- in a column of numbers a string is its number
abbrev pub text_in : TypeTree → List ℕ → Option PositionTree
text_in (utf8_type n) bs = Some (exactly (text_cell bs))
text_in (integer_type k n) bs = integer_in k bs
text_in (extension_type id metadata u) bs = text_of_type (extension_type id metadata u) bs
text_in _ bs = None

abbrev pub bytes_in : TypeTree → List ℕ → Option PositionTree
bytes_in (binary_type n) bs = Some (exactly (bytes_cell bs))
bytes_in _ bs = None

-- where a literal stands among the values of a type, if they are written as it is
abbrev pub position_of : TypeTree → LiteralTree → Option PositionTree
position_of t null_literal = Some (exactly (null_cell t))
position_of t (truth_literal b) = truth_in t b
position_of t (number_literal word) = number_in t word
position_of t (text_literal bs) = text_in t bs
position_of t (bytes_literal bs) = bytes_in t bs

-- the scalar that a literal stands at or just above, if there is one
abbrev pub scalars_in : Option Position → List Scalar
scalars_in None = []
scalars_in (Some p) = scalars_of p

-- the scalar that a literal stands at or just above takes memory: there is one, and its type is not flat
abbrev pub AsksMemory : Option PositionTree → Type 0
AsksMemory None = ⊥
AsksMemory (Some (exactly x)) = ¬ (IsFlat x.typed)
AsksMemory (Some (just_above x)) = ¬ (IsFlat x.typed)
AsksMemory (Some (lacking o)) = ⊥
