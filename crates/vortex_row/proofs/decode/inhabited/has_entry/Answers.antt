-- A key and a value, of which each type has one.
use Rattle.vortex_row.proofs.InhabitedSteps.{entry-told, no-entry, told-not, told-so}
use Rattle.vortex_row.proofs.decode.inhabited.has_entry.Goals as goal

pub returns-then-not-has_value : goal.returns-then-not-has_value
returns-then-not-has_value c = no-entry _ _ _ c.key_dtype.ensures.tree (told-not _ _ c.if-not-has_value.true c.has_value.ensures)

pub returns : goal.returns
returns c = entry-told _ _ _ _ _ c.key_dtype.ensures.tree c.value_dtype.ensures.tree (told-so _ _ c.if-not-has_value.false c.has_value.ensures) c.has_value-2.ensures
