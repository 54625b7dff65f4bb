-- One byte of options more.
use Rattle.column_keys.specs.Tables.{options_in}
use Rattle.column_keys.proofs.TypeSteps.{mapped-more}
use Rattle.column_keys.proofs.types.read_options.Goals as goal

pub loop-column-preserved : goal.loop-column-preserved
loop-column-preserved c =
    mapped-more options_in c.args.options.now c.loop-column.column 0 c.loop-column.read.items c.push.new.self.items c.options_of_bits.result c.loop-column-test.true c.loop-column.invariant c.options_of_bits.ensures c.in_ok-push.ensures.items
