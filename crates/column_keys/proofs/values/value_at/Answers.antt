-- Each kind of column has the row, and its content is that of the cell.
use Rattle.column_keys.proofs.ValueSteps.{boolean-got, boolean-within, byte-got, byte-within, integer-got, integer-held, integer-within, string-got, string-valid, string-within, value-got, value-valid, value-within}
use Rattle.column_keys.proofs.values.value_at.Goals as goal

pub integer_at-requires : goal.integer_at-requires
integer_at-requires c = integer-within c.args.rows.now c.in-Integers.rows c.args.row c.in-Integers.is c.requires.row

pub integer_value-requires : goal.integer_value-requires
integer_value-requires c =
    integer-held c.in-Integers.rows.kind c.in-Integers.rows.column c.args.row c.integer_at.result (integer-within c.args.rows.now c.in-Integers.rows c.args.row c.in-Integers.is c.requires.row) c.items_are_bytes.ensures c.integer_at.ensures

pub bool_at-requires : goal.bool_at-requires
bool_at-requires c = boolean-within c.args.rows.now c.in-Booleans.rows c.args.row c.in-Booleans.is c.requires.row

pub bytes_at-requires : goal.bytes_at-requires
bytes_at-requires c = string-within c.args.rows.now c.in-Strings.rows c.args.row c.in-Strings.is c.requires.row

pub bytes_at-requires-in-Bytes : goal.bytes_at-requires-in-Bytes
bytes_at-requires-in-Bytes c = byte-within c.args.rows.now c.in-Bytes.rows c.args.row c.in-Bytes.is c.requires.row

pub text_value-requires : goal.text_value-requires
text_value-requires c = string-valid c.args.rows.now c.in-Strings.rows c.args.row _ c.in-Strings.is c.requires.texts c.bytes_at.ensures

pub returns-in-Integers : goal.returns-in-Integers
returns-in-Integers c = integer-got c.args.rows.now c.in-Integers.rows c.args.row c.integer_at.result _ c.in-Integers.is c.integer_at.ensures c.integer_value.ensures

pub returns-in-Booleans : goal.returns-in-Booleans
returns-in-Booleans c = boolean-got c.args.rows.now c.in-Booleans.rows c.args.row c.bool_at.result _ c.in-Booleans.is c.bool_at.ensures c.bool_value.ensures

pub returns-in-Strings : goal.returns-in-Strings
returns-in-Strings c = string-got c.args.rows.now c.in-Strings.rows c.args.row _ _ c.in-Strings.is c.bytes_at.ensures c.text_value.ensures

pub returns-in-Bytes : goal.returns-in-Bytes
returns-in-Bytes c = byte-got c.args.rows.now c.in-Bytes.rows c.args.row _ _ c.in-Bytes.is c.bytes_at-in-Bytes.ensures c.byte_value.ensures

pub number_at-requires : goal.number_at-requires
number_at-requires c = value-within c.args.rows.now c.in-Values.rows c.numbers.result c.args.row c.in-Values.is c.numbers.ensures.column c.requires.row

pub logical_value-requires : goal.logical_value-requires
logical_value-requires c = value-valid c.args.rows.now c.in-Values.rows c.numbers.result c.args.row c.number_at.result c.in-Values.is c.requires.texts c.numbers.ensures.kind c.numbers.ensures.column c.number_at.ensures

pub returns-in-Values : goal.returns-in-Values
returns-in-Values c = value-got c.args.rows.now c.in-Values.rows c.numbers.result c.args.row c.number_at.result _ c.in-Values.is c.numbers.ensures.kind c.numbers.ensures.column c.number_at.ensures c.logical_value.ensures
