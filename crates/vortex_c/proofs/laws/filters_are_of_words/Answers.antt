-- What is read back is what was prepared.
use Rattle.vortex_c.proofs.FilterSteps.{of_words}
use Rattle.vortex_c.proofs.laws.filters_are_of_words.Goals as goal

pub returns : goal.returns
returns c = of_words c.encodings_are_apart.ensures
