-- A number takes as many bytes inverted or not.
use Rattle.std.proofs.Common.{rules, subst}
use Rattle.vortex_row.specs.Columns.{key_with}
use Rattle.vortex_row.specs.Keys.{whole_key}
use Rattle.vortex_row.specs.Plain.{plain_content}
use Rattle.vortex_row.specs.Slots.{HasSlot}
use Rattle.vortex_row.proofs.SlotSteps.{turned-slot}
use Rattle.vortex_row.proofs.plain.write_plain_key.Goals as goal

pub put_integer-requires : goal.put_integer-requires
put_integer-requires c =
    let slot : HasSlot c.args.room.now c.args.place (whole_key c.in-Signed.number) =
    turned-slot c.args.options.descending (whole_key c.in-Signed.number) c.args.place c.args.room.now
    (subst (λ v. HasSlot c.args.room.now c.args.place (key_with c.args.options (plain_content v))) c.in-Signed.is c.requires) in
    search rules
