-- Worked cases of the definitions, each a theorem.
use Rattle.std.specs.Prelude.{◌≡◌, negsuc, pos, false, true, [], ◌∷◌, Option, Some, None, refl}
use Rattle.arrow_columns.specs.declared.kinds.IntegerKind.TheVariants.{I16, I32, U32}
use Rattle.arrow_columns.specs.declared.kinds.Kind.TheVariants.{Binary, Boolean, Integer, LargeUtf8, Utf8}
use Rattle.column_cells.specs.Types.{type_of_kind}
use Rattle.vortex_value.specs.Values.Content.{Content, null, text, truth, whole}
use Rattle.statistics_bytes.specs.Encoding.{encoding}
use Rattle.vortex_statistics.specs.Merging.{merged}
use Rattle.vortex_statistics.specs.Statistics.{Known, KnownBound}
use Rattle.column_statistics.specs.Encodings.{fault_of_piece}
use Rattle.column_statistics.specs.Items.{IsItemOf}
use Rattle.column_statistics.specs.declared.errors.MergeError.TheVariants as merge
use Rattle.column_statistics.specs.declared.errors.ReadError.TheVariants as read

-- ---- values as bytes

minus_two : IsItemOf (Integer I16) (whole (negsuc 1)) (254 ∷ 255 ∷ [])
minus_two = (refl, refl)

-- the same number takes twice the bytes in a kind twice as wide
minus_two_wide : IsItemOf (Integer I32) (whole (negsuc 1)) (254 ∷ 255 ∷ 255 ∷ 255 ∷ [])
minus_two_wide = (refl, refl)

without_sign : IsItemOf (Integer U32) (whole (pos 66051)) (3 ∷ 2 ∷ 1 ∷ 0 ∷ [])
without_sign = (refl, refl)

truths : IsItemOf Boolean (truth true) (1 ∷ []) × IsItemOf Boolean (truth false) (0 ∷ [])
truths = (refl, refl)

empty_string : IsItemOf Utf8 (text []) []
empty_string = refl

large_string : IsItemOf LargeUtf8 (text (97 ∷ 98 ∷ [])) (97 ∷ 98 ∷ [])
large_string = refl

-- a null has no bytes, not even none; nor has a string in a column of bytes
no_null : ¬ (IsItemOf Utf8 null [])
no_null = λ h. h

no_string : ¬ (IsItemOf Binary (text (97 ∷ [])) (97 ∷ []))
no_string = λ h. h

-- ---- two pieces, as encodings

abbrev exactly : Content → Option KnownBound
exactly x = Some (record { value = record { typed = type_of_kind (Integer I32); content = x }; is_exact = true })

-- 2, null and 5; and two nulls
abbrev two_to_five : Known
two_to_five = record { row_count = 3; null_count = Some 1; lower = exactly (whole (pos 2)); upper = exactly (whole (pos 5)) }

abbrev nulls : Known
nulls = record { row_count = 2; null_count = Some 2; lower = None; upper = None }

-- 3 and 300
abbrev three_to_more : Known
three_to_more = record { row_count = 2; null_count = Some 0; lower = exactly (whole (pos 3)); upper = exactly (whole (pos 300)) }

both_pieces : encoding (merged two_to_five three_to_more) ≡ 1 ∷ 31 ∷ 0 ∷ 0 ∷ 0 ∷ 0 ∷ 0 ∷ 0 ∷ 0 ∷ 5 ∷ 0 ∷ 0 ∷ 0 ∷ 0 ∷ 0 ∷ 0 ∷ 0 ∷ 1 ∷ 13 ∷ 2 ∷ 14 ∷ 1 ∷ 44 ∷ []
both_pieces = refl

with_nulls : encoding (merged nulls two_to_five) ≡ 1 ∷ 31 ∷ 0 ∷ 0 ∷ 0 ∷ 0 ∷ 0 ∷ 0 ∷ 0 ∷ 5 ∷ 0 ∷ 0 ∷ 0 ∷ 0 ∷ 0 ∷ 0 ∷ 0 ∷ 3 ∷ 13 ∷ 2 ∷ 13 ∷ 5 ∷ []
with_nulls = refl

second_piece : fault_of_piece 1 (read.BadBytes 18) ≡ merge.BadBytes 1 18
second_piece = refl
