-- A word of each kind means something, or nothing.
use Rattle.record_rows.proofs.CellLaws.{binary_meanings, bytes_meaning, integer_meaning, logical_meaning, text_meaning}
use Rattle.record_rows.proofs.cells.has_meaning.Goals as goal

pub returns-in-Integer : goal.returns-in-Integer
returns-in-Integer c = integer_meaning c.args.kind c.in-Integer.ptype c.args.word.now c.is_integer.result c.in-Integer.is c.is_integer.ensures

pub returns-in-Utf8 : goal.returns-in-Utf8
returns-in-Utf8 c = text_meaning c.args.kind c.args.word.now c.is_text.result c.in-Utf8.is c.is_text.ensures

pub returns-in-Binary : goal.returns-in-Binary
returns-in-Binary c = binary_meanings c.args.kind c.args.word.now c.is_hexadecimal.result c.in-Binary.is c.is_hexadecimal.ensures

pub returns-in-Bytes : goal.returns-in-Bytes
returns-in-Bytes c = bytes_meaning c.args.kind c.args.word.now c.in-Bytes.is

pub returns-in-Logical : goal.returns-in-Logical
returns-in-Logical c = logical_meaning c.args.kind c.in-Logical.logical c.args.word.now c.is_written.result c.in-Logical.is c.is_written.ensures
