-- The first byte and what comes after it are inverted.
use Rattle.std.proofs.Common.{◌∷◌}
use Rattle.vortex_row.specs.Keys.{escaped}
use Rattle.vortex_row.proofs.SlotSteps.{inverted-writes, turned-writes, writes-after_one}
use Rattle.vortex_row.proofs.encode.strings.put_string.Goals as goal

pub returns-then-invert-clause-written : goal.returns-then-invert-clause-written
returns-then-invert-clause-written c =
    turned-writes c.args.invert (c.args.first ∷ escaped c.args.bytes.now) c.args.place c.put_escaped-end.result c.args.room.now c.invert_between.new.room c.if-invert.true
    (inverted-writes (c.args.first ∷ escaped c.args.bytes.now) c.args.place c.put_escaped-end.result c.args.room.now c.put_escaped-end.new.room c.invert_between.new.room c.requires
    (writes-after_one c.args.first (escaped c.args.bytes.now) c.args.place c.put-start.result c.put_escaped-end.result c.args.room.now c.put-start.new.room c.put_escaped-end.new.room c.put-start.ensures c.put_escaped-end.ensures)
    c.invert_between.ensures)
