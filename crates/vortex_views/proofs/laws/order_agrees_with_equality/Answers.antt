use Rattle.vortex_views.specs.Extensions.{ext_ref}
use Rattle.vortex_views.specs.Lists.{list_ref}
use Rattle.vortex_views.specs.Structs.{struct_ref}
use Rattle.vortex_views.proofs.laws.order_agrees_with_equality.Goals as goal

pub returns-clause-lists : goal.returns-clause-lists
returns-clause-lists c = λ x y. c.order_agrees_with_equality.ensures.borrowed (list_ref x) (list_ref y)

pub returns-clause-structs : goal.returns-clause-structs
returns-clause-structs c = λ x y. c.order_agrees_with_equality.ensures.borrowed (struct_ref x) (struct_ref y)

pub returns-clause-extensions : goal.returns-clause-extensions
returns-clause-extensions c = λ x y. c.order_agrees_with_equality.ensures.borrowed (ext_ref x) (ext_ref y)
