-- All eight bytes, the used ones first, and those that are not counted.
use Rattle.std.proofs.Common.{refl}
use Rattle.vortex_row.proofs.SlotSteps.{used-writes}
use Rattle.vortex_row.proofs.encode.numbers.put_used.Goals as goal

pub returns-else-room-start-lt8 : goal.returns-else-room-start-lt8
returns-else-room-start-lt8 c =
    used-writes c.args.first c.args.number c.args.unused c.wrapping_shl-shifted.result c.to_be_bytes-else-room-start-lt8.result
    c.args.place c.put-start.result c.put_all-end.result _ c.args.room.now c.put-start.new.room c.put_all-end.new.room
    c.requires.few c.wrapping_shl-shifted.ensures c.to_be_bytes-else-room-start-lt8.ensures c.requires.room c.put-start.ensures c.put_all-end.ensures refl
