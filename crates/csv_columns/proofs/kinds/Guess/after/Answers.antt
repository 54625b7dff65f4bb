-- Each part after one more word.
use Rattle.std.proofs.Common.{◌∙◌, false, sym, true}
use Rattle.vortex_dtype.specs.declared.ptype.PType.TheVariants.{I64, U64}
use Rattle.csv_columns.specs.Kinds.{is_integer}
use Rattle.csv_columns.proofs.GuessLaws.{all_more, some_more}
use Rattle.csv_columns.proofs.kinds.Guess.after.Goals as goal
use Rattle.csv_columns.proofs.kinds.Guess.after.Goals.{then-self, else-self, then-self-2, else-self-2}

pub returns : goal.returns
returns c = λ words sees. record {
  some = some_more words c.args.word.now;
  signed = elim c.if-self.branch [
    | then-self w ↦ w.result-is ∙ all_more (is_integer I64) words c.args.word.now true _ (sym w.if-self.true ∙ sees.signed) c.integers_of-is_signed.ensures.signed
    | else-self w ↦ w.result-is ∙ w.if-self.false ∙ all_more (is_integer I64) words c.args.word.now false _ (sym w.if-self.false ∙ sees.signed) c.integers_of-is_signed.ensures.signed
  ];
  unsigned = elim c.if-self-2.branch [
    | then-self-2 w ↦ w.result-is ∙ all_more (is_integer U64) words c.args.word.now true _ (sym w.if-self-2.true ∙ sees.unsigned) c.integers_of-is_signed.ensures.unsigned
    | else-self-2 w ↦ w.result-is ∙ w.if-self-2.false ∙ all_more (is_integer U64) words c.args.word.now false _ (sym w.if-self-2.false ∙ sees.unsigned) c.integers_of-is_signed.ensures.unsigned
  ];
  longest = c.longest.ensures words sees.longest;
  numbers = c.still_write.ensures words sees.numbers;
  dates = c.still_write-2.ensures words sees.dates;
  moments = c.after.ensures words sees.moments;
}
