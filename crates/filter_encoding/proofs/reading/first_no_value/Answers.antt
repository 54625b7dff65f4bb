-- The walk begins behind the version and the types.
use Rattle.std.proofs.Common.{rules}
use Rattle.filter_encoding.specs.Encoding.{prepared}
use Rattle.filter_encoding.proofs.NoValueLaws.{first_told}
use Rattle.filter_encoding.proofs.reading.first_no_value.Goals as goal

pub returns-in-Err : goal.returns-in-Err
returns-in-Err c = first_told (prepared c.args.found.now) c.types_length.result c.saturating_add-start.result c.in-Err.none.offset (search rules) c.saturating_add-start.ensures c.in-Err.ensures
