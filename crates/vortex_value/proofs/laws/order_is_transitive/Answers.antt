use Rattle.vortex_value.specs.Values.Refs.{ref_content, ref_type}
use Rattle.vortex_value.specs.Values.Scalars.{scalar_content, scalar_type}
use Rattle.vortex_value.proofs.OrderLaws.{order_is_transitive, typed_order-follows}
use Rattle.vortex_value.proofs.laws.order_is_transitive.Goals as goal

pub returns-clause-contents : goal.returns-clause-contents
returns-clause-contents c = order_is_transitive

pub returns-clause-scalars : goal.returns-clause-scalars
returns-clause-scalars c = λ x y z. typed_order-follows (scalar_type x) (scalar_type y) (scalar_type z) (scalar_content x) (scalar_content y) (scalar_content z)

pub returns-clause-borrowed : goal.returns-clause-borrowed
returns-clause-borrowed c = λ x y z. typed_order-follows (ref_type x) (ref_type y) (ref_type z) (ref_content x) (ref_content y) (ref_content z)
