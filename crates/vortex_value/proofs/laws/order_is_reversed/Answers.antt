use Rattle.vortex_value.specs.Values.Refs.{ref_content, ref_type}
use Rattle.vortex_value.specs.Values.Scalars.{scalar_content, scalar_type}
use Rattle.vortex_value.proofs.OrderLaws.{order_is_reversed, typed_order-reversed}
use Rattle.vortex_value.proofs.laws.order_is_reversed.Goals as goal

pub returns-clause-contents : goal.returns-clause-contents
returns-clause-contents c = order_is_reversed

pub returns-clause-scalars : goal.returns-clause-scalars
returns-clause-scalars c = λ x y. typed_order-reversed (scalar_type x) (scalar_type y) (scalar_content x) (scalar_content y)

pub returns-clause-borrowed : goal.returns-clause-borrowed
returns-clause-borrowed c = λ x y. typed_order-reversed (ref_type x) (ref_type y) (ref_content x) (ref_content y)
