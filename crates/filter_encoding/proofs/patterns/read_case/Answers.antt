-- Either case, or neither.
use Rattle.filter_encoding.proofs.PartLaws.{case_stuck}
use Rattle.filter_encoding.proofs.patterns.read_case.Goals as goal

pub returns : goal.returns
returns c = λ bad. case_stuck _ _ _ (c.takes.ensures.unchanged c.if-takes.false) (c.takes-2.ensures.unchanged c.if-takes-2.false) (c.takes.ensures.other c.if-takes.false) (c.takes-2.ensures.other c.if-takes-2.false)
