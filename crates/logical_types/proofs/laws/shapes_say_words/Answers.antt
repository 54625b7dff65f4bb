use Rattle.logical_types.proofs.ShapesSay.{words_say}
use Rattle.logical_types.proofs.laws.shapes_say_words.Goals as goal

pub returns : goal.returns
returns c = words_say
