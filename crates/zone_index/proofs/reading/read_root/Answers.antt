-- The two laws, of what was read.
use Rattle.std.proofs.Common.{arith}
use Rattle.zone_index.proofs.EncodingLaws.{is_found, is_read, memory_alone}
use Rattle.zone_index.proofs.reading.read_root.Goals as goal

pub returns-clause-found : goal.returns-clause-found
returns-clause-found c = is_found c.args.bytes.now c.root_in.result (λ i. omega (arith, c.type_inv.bytes i)) c.root_in.ensures.exact

pub returns-clause-only : goal.returns-clause-only
returns-clause-only c = λ n x pieces fits e. is_read n x pieces c.root_in.result c.args.bytes.now fits e c.root_in.ensures.exact

pub returns-clause-memory : goal.returns-clause-memory
returns-clause-memory c = λ n x pieces fits e. memory_alone n x pieces c.root_in.result c.args.bytes.now fits e c.root_in.ensures.exact
