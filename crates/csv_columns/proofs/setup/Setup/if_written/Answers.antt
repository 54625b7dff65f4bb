-- The text is that of the setup exactly if it is the one that was written.
use Rattle.std.proofs.Common.{◌∙◌, sym}
use Rattle.std.proofs.lemmas.Bool.Decides.{Decides-eqb}
use Rattle.std.proofs.lemmas.Slice.Eq.{slice_eq-Decides}
use Rattle.csv_columns.proofs.Naming.{true_is_not}
use Rattle.csv_columns.proofs.setup.Setup.if_written.Goals as goal

pub returns-then-eq-clause-text : goal.returns-then-eq-clause-text
returns-then-eq-clause-text c =
    sym ((slice_eq-Decides Decides-eqb c.as_str.result.now c.args.text.now c.eq.result c.eq.ensures).0 c.if-eq.true)
    ∙ c.as_str.ensures.value ∙ c.in_ok-written.ensures

pub returns-else-eq-clause-other : goal.returns-else-eq-clause-other
returns-else-eq-clause-other c = λ same.
    let equal = (slice_eq-Decides Decides-eqb c.as_str.result.now c.args.text.now c.eq.result c.eq.ensures).1 (c.as_str.ensures.value ∙ c.in_ok-written.ensures ∙ sym same) in
    true_is_not c.eq.result equal c.if-eq.false
