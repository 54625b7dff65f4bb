-- What was written is inverted.
use Rattle.vortex_value.specs.Values.Content.{content}
use Rattle.vortex_value.specs.Values.RawOf.{value_tree}
use Rattle.vortex_row.specs.Keys.{key}
use Rattle.vortex_row.proofs.SlotSteps.{inverted-writes}
use Rattle.vortex_row.proofs.encode.values.put_inverted.Goals as goal

pub returns-clause-written : goal.returns-clause-written
returns-clause-written c =
    inverted-writes (key (content (value_tree c.args.value.now))) c.args.place c.put_value-next.result c.args.room.now c.put_value-next.new.room c.invert_between.new.room
    c.requires c.put_value-next.ensures.written c.invert_between.ensures
