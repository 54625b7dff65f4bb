use Rattle.logical_types.proofs.OneWord.{one_word}
use Rattle.logical_types.proofs.laws.a_value_has_one_word.Goals as goal

pub returns : goal.returns
returns c = one_word c.args.logical
