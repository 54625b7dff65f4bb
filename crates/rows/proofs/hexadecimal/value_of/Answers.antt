-- The table is held against the definition at each of the 256 bytes, by computing.
use Rattle.std.proofs.Common.{arith, refl}
use Rattle.rows.specs.declared.hexadecimal.TheConstants.{DIGIT_VALUES}
use Rattle.rows.proofs.DigitTables.{agrees_below, values_agree, value_small}
use Rattle.rows.proofs.hexadecimal.value_of.Goals as goal

pub returns-clause-value : goal.returns-clause-value
unfolding agrees_below
returns-clause-value c = values_agree DIGIT_VALUES c.args.digit 256 refl (omega arith)

pub returns-clause-small : goal.returns-clause-small
unfolding agrees_below
returns-clause-small c = value_small DIGIT_VALUES c.args.digit 256 refl (omega arith)
