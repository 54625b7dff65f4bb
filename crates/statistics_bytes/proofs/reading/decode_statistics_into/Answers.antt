-- What is read is what was written, and right for what that was right for.
use Rattle.vortex_dtype.specs.TypeOf.{type_of}
use Rattle.statistics_bytes.proofs.ReadSteps.{reads_into, right_into, variant_told}
use Rattle.statistics_bytes.proofs.reading.decode_statistics_into.Goals as goal

pub returns-clause-whole : goal.returns-clause-whole
returns-clause-whole c =
    reads_into c.keys_are_apart.ensures c.values_have_no_typed.ensures (type_of c.args.dtype.now) c.args.bytes.now c.read_encoding.new.statistics c.read_encoding.result c.read_encoding.ensures.read c.read_encoding.ensures.refused

pub returns-clause-right : goal.returns-clause-right
returns-clause-right c = right_into c.keys_are_apart.ensures c.values_have_no_typed.ensures (type_of c.args.dtype.now) c.args.bytes.now c.read_encoding.new.statistics c.read_encoding.result c.read_encoding.ensures.read

pub returns-clause-variant : goal.returns-clause-variant
returns-clause-variant c = variant_told (type_of c.args.dtype.now) c.args.bytes.now c.read_encoding.new.statistics c.read_encoding.result c.read_encoding.ensures.read c.read_encoding.ensures.refused
