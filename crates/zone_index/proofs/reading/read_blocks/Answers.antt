-- The two laws, of what was read.
use Rattle.std.proofs.Common.{arith}
use Rattle.zone_index.specs.Encoding.{root_value}
use Rattle.zone_index.proofs.BlockLaws.{index_again, index_found}
use Rattle.zone_index.proofs.reading.read_blocks.Goals as goal

pub returns-clause-found : goal.returns-clause-found
returns-clause-found c = index_found c.args.wanted.now (root_value c.args.root) c.args.bytes.now c.index_in.result (λ i. omega (arith, c.type_inv.bytes i)) c.index_in.ensures

pub returns-clause-only : goal.returns-clause-only
returns-clause-only c = λ n x pieces fits same all. index_again c.args.wanted.now n x pieces (root_value c.args.root) c.args.bytes.now c.index_in.result fits.have same all c.index_in.ensures
