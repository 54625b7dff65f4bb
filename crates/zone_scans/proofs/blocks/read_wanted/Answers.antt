-- The blocks that are wanted, read alone, give what all give.
use Rattle.std.proofs.Common.{Result, ap, arith, map, subst, ◌∙◌}
use Rattle.std.proofs.lemmas.Grind.{common_steps}
use Rattle.zone_index.specs.Encoding.{IndexValue, index_value, root_value}
use Rattle.zone_index.specs.EncodingReading.{Gives, index_at}
use Rattle.zone_index.specs.declared.encoding.EncodingError.{EncodingError}
use Rattle.zone_scans.specs.Wanted.{wanted_root}
use Rattle.zone_scans.proofs.BlockSteps.{read_alone}
use Rattle.zone_scans.proofs.blocks.read_wanted.Goals as goal

pub returns-clause-same : goal.returns-clause-same
returns-clause-same c = λ all long is.
    let wanted = c.args.wanted.now in
    let root = root_value c.args.root in
    let exact : Gives index_value c.read_blocks.result (index_at wanted (wanted_root wanted root) c.args.bytes.now) = grind (arith, common_steps) in
    subst (λ (read : Result IndexValue EncodingError). Gives index_value c.read_blocks.result read) (ap (index_at wanted (wanted_root wanted root)) is ∙ read_alone wanted root all long) exact
