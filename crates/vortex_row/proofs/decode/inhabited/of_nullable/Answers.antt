-- A null, or a value that is none.
use Rattle.vortex_dtype.specs.TypeOf.{type_of}
use Rattle.vortex_row.specs.Reading.{left}
use Rattle.vortex_row.proofs.RefusalSteps.{null-refused, present-refused}
use Rattle.vortex_row.proofs.decode.inhabited.of_nullable.Goals as goal

pub returns-then-is_nullable : goal.returns-then-is_nullable
returns-then-is_nullable c =
    null-refused (type_of c.args.dtype.now) c.is_nullable.result c.args.present _ (left c.args.start) (left c.args.reader.now) (left c.of_optional.new.reader) c.is_nullable.ensures c.if-is_nullable.true c.requires.other c.requires.present c.of_optional.ensures

pub returns : goal.returns
returns c = present-refused (type_of c.args.dtype.now) c.is_nullable.result c.args.present (left c.args.start) (left c.args.reader.now) c.is_nullable.ensures c.if-is_nullable.false c.requires.other c.requires.present
