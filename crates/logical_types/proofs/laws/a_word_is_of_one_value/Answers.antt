use Rattle.logical_types.proofs.OneValue.{one_value}
use Rattle.logical_types.proofs.laws.a_word_is_of_one_value.Goals as goal

pub returns : goal.returns
returns c = one_value c.args.logical
