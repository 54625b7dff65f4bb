use Rattle.std.proofs.Common.{◌≡◌, ap, rules, true}
use Rattle.column_cells.specs.Types.{type_of_rows}
use Rattle.vortex_dtype.specs.TypeOf.{type_of}
use Rattle.vortex_value.specs.Values.Scalars.{scalar_type}
use Rattle.column_kernels.proofs.MemberSteps.{byte-needle, text-needle}
use Rattle.column_kernels.proofs.RowTests.{type-told}
use Rattle.column_kernels.proofs.members.needle_of.Goals as goal

pub returns-in_ok-text_in-in-Strings : goal.returns-in_ok-text_in-in-Strings
returns-in_ok-text_in-in-Strings c =
    let is : c.is_type_of_rows.result ≡ true = search rules in
    let same = type-told _ true (type_of_rows c.args.rows.now) (type_of c.dtype.result.now) (scalar_type c.args.literal.now) (ap type_of c.dtype.ensures) c.is_type_of_rows.ensures is in
    text-needle c.args.rows.now c.in-Strings.field-0 c.args.literal.now c.in_ok-text_in-in-Strings.field-0.now c.of.result c.in-Strings.is same c.in_ok-text_in-in-Strings.ensures c.of.ensures

pub returns-in_ok-bytes_in-in-Bytes : goal.returns-in_ok-bytes_in-in-Bytes
returns-in_ok-bytes_in-in-Bytes c =
    let is : c.is_type_of_rows.result ≡ true = search rules in
    let same = type-told _ true (type_of_rows c.args.rows.now) (type_of c.dtype.result.now) (scalar_type c.args.literal.now) (ap type_of c.dtype.ensures) c.is_type_of_rows.ensures is in
    byte-needle c.args.rows.now c.in-Bytes.field-0 c.args.literal.now c.in_ok-bytes_in-in-Bytes.field-0.now c.of-in-Bytes.result c.in-Bytes.is same c.in_ok-bytes_in-in-Bytes.ensures c.of-in-Bytes.ensures
