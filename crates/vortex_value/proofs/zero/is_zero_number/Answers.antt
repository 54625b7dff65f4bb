use Rattle.std.proofs.Common.{pos}
use Rattle.std.proofs.lemmas.Bool.Decides.{Decides-int_eq, same_from_decides}
use Rattle.vortex_pvalue.specs.Whole.{whole_of}
use Rattle.vortex_value.proofs.zero.is_zero_number.Goals as goal

pub returns : goal.returns
returns c = same_from_decides _ _ c.is_zero.ensures (Decides-int_eq (whole_of c.args.number.now) (pos 0))
