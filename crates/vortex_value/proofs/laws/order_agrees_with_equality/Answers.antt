use Rattle.vortex_value.specs.Values.Refs.{ref_content, ref_raw, ref_type}
use Rattle.vortex_value.specs.Values.Scalars.{scalar_content, scalar_raw, scalar_type}
use Rattle.vortex_value.proofs.OrderAgrees.{agrees, no_typed}
use Rattle.vortex_value.proofs.laws.order_agrees_with_equality.Goals as goal

pub returns-clause-scalars : goal.returns-clause-scalars
returns-clause-scalars c = λ x y p. agrees (scalar_type x) (scalar_type y) (scalar_content x) (scalar_content y) (no_typed (scalar_type x) (scalar_raw x) p.0 p.1)

pub returns-clause-borrowed : goal.returns-clause-borrowed
returns-clause-borrowed c = λ x y p. agrees (ref_type x) (ref_type y) (ref_content x) (ref_content y) (no_typed (ref_type x) (ref_raw x) p.0 p.1)
