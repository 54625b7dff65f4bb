use Rattle.std.proofs.Common.{refl, slice_range}
use Rattle.column_kernels.proofs.NeedleSteps.{listed-told}
use Rattle.column_kernels.proofs.listed.ListedByteTest.is_met.Goals as goal

pub returns : goal.returns
returns c =
    let value = slice_range c.args.bytes.now c.args.begin c.args.stop in
    listed-told c.word_between.result _ value c.args.self.now.needles c.has_alike-has_alike.result c.word_between.ensures refl c.items_are_bytes.ensures c.has_alike-has_alike.ensures c.if-has_alike-value.false
