use Rattle.vortex_views.proofs.CopySteps.{copies_as}
use Rattle.vortex_views.proofs.map.MapScalar.entry.Goals as goal

pub returns : goal.returns
returns c = copies_as c.entry_ref.ensures.valid c.entry_ref.ensures.lent c.copy_entry_if_any.ensures
