-- The equality of numbers is an equivalence, so it is one of values.
use Rattle.std.proofs.lemmas.Cmp.{int_eq_equiv}
use Rattle.std.specs.Cmp.{on_equiv}
use Rattle.vortex_pvalue.specs.Whole.{whole_of}
use Rattle.vortex_pvalue.proofs.laws.equality.Goals as goal

pub returns-clause-equivalence : goal.returns-clause-equivalence
returns-clause-equivalence c = on_equiv whole_of int_eq_equiv
