-- Without a mark the bytes are of ASCII.
use Rattle.std.proofs.lemmas.Bool.{eqb-true}
use Rattle.record_rows.proofs.AsciiMarks.{none_high}
use Rattle.record_rows.proofs.ascii.are_ascii.Goals as goal

pub returns : goal.returns
returns c = λ none k from to. none_high c.args.word.now c.args.place c.requires (eqb-true _ 0 none) k from to
