-- Statistics are read exactly where the piece says them.
use Rattle.vortex_dtype.specs.TypeOf.{type_of}
use Rattle.vortex_statistics.specs.Statistics.{known}
use Rattle.record_search.proofs.DecodeLaws.{none_read, read_found}
use Rattle.record_search.proofs.reading.read_column.Goals as goal

pub returns-in-Ok : goal.returns-in-Ok
returns-in-Ok c = read_found (type_of c.in_ok-dtype.dtype) c.args.column c.args.bytes.now (known c.decode_piece_into.new.statistics) c.in_ok-dtype.ensures c.in-Ok.ensures.said

pub returns : goal.returns
returns c = none_read (type_of c.in_ok-dtype.dtype) c.args.column c.args.bytes.now c.in-Err.error c.in_ok-dtype.ensures c.in-Err.ensures.whole c.in_default.not-OutOfMemory
