-- An extension, or a type with a byte.
use Rattle.std.proofs.Common.{List, ℕ, subst, sym}
use Rattle.filter_encoding.specs.Steps.{ReadsType}
use Rattle.filter_encoding.specs.Strings.{left}
use Rattle.filter_encoding.proofs.ExtensionLaws.{by_its_byte}
use Rattle.filter_encoding.proofs.types.read_type.Goals as goal

pub returns-then-takes : goal.returns-then-takes
returns-then-takes c = subst (λ (old : List ℕ). ReadsType c.read_extension.result old (left c.read_extension.new.reader)) (sym (c.takes.ensures.taken c.if-takes.true)) c.read_extension.ensures

pub returns-else-takes : goal.returns-else-takes
returns-else-takes c = by_its_byte c.read_byte_type.result _ _ _ (c.takes.ensures.unchanged c.if-takes.false) (c.takes.ensures.other c.if-takes.false) c.read_byte_type.ensures
