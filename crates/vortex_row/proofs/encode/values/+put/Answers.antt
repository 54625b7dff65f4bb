-- A tuple's first byte, and the keys of its parts.
use Rattle.vortex_row.proofs.SlotSteps.{tuple-writes}
use Rattle.vortex_row.proofs.encode.values.+put.Goals as goal

pub put_value-returns-in-Tuple-clause-written : goal.put_value-returns-in-Tuple-clause-written
put_value-returns-in-Tuple-clause-written t c =
    tuple-writes c.args.value.now c.in-Tuple.parts c.deref.result.now c.args.place c.put-start.result c.put_parts.result c.args.room.now c.put-start.new.room c.put_parts.new.room
    c.in-Tuple.is c.deref.ensures.value c.put-start.ensures c.put_parts.ensures.written
