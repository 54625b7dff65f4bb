-- The byte of a type, or another one.
use Rattle.std.proofs.Common.{sym}
use Rattle.filter_encoding.proofs.TypeLaws.{no_type, type_missing, type_read}
use Rattle.filter_encoding.proofs.types.read_byte_type.Goals as goal

pub returns-in_default : goal.returns-in_default
returns-in_default c = λ bad. type_missing _ c.in_default.ensures

pub returns-in_default-type_from : goal.returns-in_default-type_from
returns-in_default-type_from c = λ bad. no_type c.in-Some.byte _ c.in-Some.ensures.0 c.in-Some.ensures.1 (sym c.in_default-type_from.ensures.tree)

pub returns : goal.returns
returns c = type_read c.in-Some.byte _ _ _ c.in-Some.ensures c.in-Some-type_from.ensures.byte c.advance.ensures
