use Rattle.vortex_views.specs.Iterators.{entries_left, fields_left, keys_left, values_left}
use Rattle.vortex_views.specs.Parts.{NeedNoMemory, NeedsNoMemory, scalar_entry, scalar_part}
use Rattle.vortex_views.proofs.IteratorSteps.{gives_each_part}
use Rattle.vortex_views.proofs.laws.iterators_give_each_part.Goals as goal

pub returns-clause-entries : goal.returns-clause-entries
returns-clause-entries c = gives_each_part scalar_entry NeedNoMemory entries_left

pub returns-clause-keys : goal.returns-clause-keys
returns-clause-keys c = gives_each_part scalar_part NeedsNoMemory keys_left

pub returns-clause-values : goal.returns-clause-values
returns-clause-values c = gives_each_part scalar_part NeedsNoMemory values_left

pub returns-clause-fields : goal.returns-clause-fields
returns-clause-fields c = gives_each_part scalar_part NeedsNoMemory fields_left
