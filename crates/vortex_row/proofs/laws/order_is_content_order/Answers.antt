use Rattle.vortex_row.proofs.KeyLaws.{order_is_content_order}
use Rattle.vortex_row.proofs.laws.order_is_content_order.Goals as goal

pub returns : goal.returns
returns c = order_is_content_order
