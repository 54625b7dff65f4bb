-- The key that comes, or where none goes on.
use Rattle.std.proofs.Common.{Err, ap}
use Rattle.vortex_dtype.specs.TypeOf.{type_of}
use Rattle.filter_encoding.proofs.LiteralLaws.{key_came, no_key}
use Rattle.filter_encoding.proofs.literals.find_value.Goals as goal

pub returns-in-Ok : goal.returns-in-Ok
returns-in-Ok c =
    let came = key_came c.ascending.result (type_of c.args.dtype.now) c.args.bytes.now c.in-Ok.value c.in-Ok.length c.ascending.ensures c.in-Ok.ensures.decoded in
    (came.0, c.in-Ok.ensures.decoded.typed, came.1, came.2)

pub returns-in-Err-BadKey : goal.returns-in-Err-BadKey
returns-in-Err-BadKey c =
    let bad = c.in-Err-BadKey.ensures.bad c.in-Err-BadKey.bad (ap Err c.in-Err-BadKey.field-0-is) in
    (bad.within, no_key c.ascending.result (type_of c.args.dtype.now) c.args.bytes.now c.in-Err-BadKey.bad c.ascending.ensures c.requires bad)
