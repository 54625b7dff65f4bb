use Rattle.vortex_views.specs.Extensions.{ext_ref}
use Rattle.vortex_views.specs.Lists.{list_ref}
use Rattle.vortex_views.specs.Maps.{map_ref}
use Rattle.vortex_views.specs.Structs.{struct_ref}
use Rattle.vortex_views.specs.Unions.{union_ref}
use Rattle.vortex_views.proofs.laws.equality.Goals as goal

pub returns-clause-lists : goal.returns-clause-lists
returns-clause-lists c = λ x y. c.equality.ensures.borrowed (list_ref x) (list_ref y)

pub returns-clause-maps : goal.returns-clause-maps
returns-clause-maps c = λ x y. c.equality.ensures.borrowed (map_ref x) (map_ref y)

pub returns-clause-structs : goal.returns-clause-structs
returns-clause-structs c = λ x y. c.equality.ensures.borrowed (struct_ref x) (struct_ref y)

pub returns-clause-unions : goal.returns-clause-unions
returns-clause-unions c = λ x y. c.equality.ensures.borrowed (union_ref x) (union_ref y)

pub returns-clause-extensions : goal.returns-clause-extensions
returns-clause-extensions c = λ x y. c.equality.ensures.borrowed (ext_ref x) (ext_ref y)
