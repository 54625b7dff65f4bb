-- The items of integers that several formats have.
use Rattle.std.proofs.Common.{◌≡◌, ◌∙◌, ap, rules, subst, sym}
use Rattle.std.specs.Int.{cast_signed, cast_unsigned, from_le_bytes, to_le_bytes, w32, w64}
use Rattle.arrow_columns.specs.Formats.{items_of}
use Rattle.arrow_columns.specs.Integers.{number_of}
use Rattle.arrow_columns.specs.declared.kinds.IntegerKind.TheVariants.{I32, I64}
use Rattle.arrow_columns.specs.declared.kinds.ItemKind.TheVariants.{Integer}
use Rattle.column_items.specs.Items.{FitsItem, bytes_of_number}
use Rattle.column_items.proofs.items.item_of_number.Goals as goal

pub returns-in-Date32-clause-item : goal.returns-in-Date32-clause-item
returns-in-Date32-clause-item c =
    let narrow : items_of c.args.format ≡ Integer I32 = search rules in
    let fits : FitsItem (Integer I32) c.args.number = subst (λ kind. FitsItem kind c.args.number) narrow c.requires.fits in
    let is : cast_signed w32 (from_le_bytes w32 c.i32_bytes-in-Date32.result) ≡ c.args.number = c.i32_bytes-in-Date32.ensures.number ∙ search rules in
    let bytes : c.i32_bytes-in-Date32.result ≡ bytes_of_number (Integer I32) c.args.number =
    c.i32_bytes-in-Date32.ensures.bytes ∙ ap (λ y. to_le_bytes w32 (cast_unsigned w32 y)) (sym c.i32_bytes-in-Date32.ensures.number ∙ is) in
    subst (λ kind. c.i32_bytes-in-Date32.result ≡ bytes_of_number kind c.args.number) (sym narrow) bytes

pub returns-in-Time-Microseconds-clause-number : goal.returns-in-Time-Microseconds-clause-number
returns-in-Time-Microseconds-clause-number c =
    let wide : items_of c.args.format ≡ Integer I64 = search rules in
    let fits : FitsItem (Integer I64) c.args.number = subst (λ kind. FitsItem kind c.args.number) wide c.requires.fits in
    subst (λ kind. number_of kind c.i64_bytes.result ≡ c.args.number) (sym wide) (c.i64_bytes.ensures.number ∙ search rules)

pub returns-in-Time-Microseconds-clause-item : goal.returns-in-Time-Microseconds-clause-item
returns-in-Time-Microseconds-clause-item c =
    let wide : items_of c.args.format ≡ Integer I64 = search rules in
    let fits : FitsItem (Integer I64) c.args.number = subst (λ kind. FitsItem kind c.args.number) wide c.requires.fits in
    let is : cast_signed w64 (from_le_bytes w64 c.i64_bytes.result) ≡ c.args.number = c.i64_bytes.ensures.number ∙ search rules in
    let bytes : c.i64_bytes.result ≡ bytes_of_number (Integer I64) c.args.number = c.i64_bytes.ensures.bytes ∙ ap (λ y. to_le_bytes w64 (cast_unsigned w64 y)) (sym c.i64_bytes.ensures.number ∙ is) in
    subst (λ kind. c.i64_bytes.result ≡ bytes_of_number kind c.args.number) (sym wide) bytes
