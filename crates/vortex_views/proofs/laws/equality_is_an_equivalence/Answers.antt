use Rattle.vortex_leaves.specs.ViewLaws.{ref_equiv}
use Rattle.vortex_views.specs.Extensions.{ext_ref}
use Rattle.vortex_views.specs.Lists.{list_ref}
use Rattle.vortex_views.specs.Maps.{map_ref}
use Rattle.vortex_views.specs.Structs.{struct_ref}
use Rattle.vortex_views.specs.Unions.{union_ref}
use Rattle.vortex_views.proofs.laws.equality_is_an_equivalence.Goals as goal

pub returns-clause-lists : goal.returns-clause-lists
returns-clause-lists c = ref_equiv list_ref

pub returns-clause-maps : goal.returns-clause-maps
returns-clause-maps c = ref_equiv map_ref

pub returns-clause-structs : goal.returns-clause-structs
returns-clause-structs c = ref_equiv struct_ref

pub returns-clause-unions : goal.returns-clause-unions
returns-clause-unions c = ref_equiv union_ref

pub returns-clause-extensions : goal.returns-clause-extensions
returns-clause-extensions c = ref_equiv ext_ref
