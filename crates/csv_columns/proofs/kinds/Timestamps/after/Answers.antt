-- Each of them after one more word.
use Rattle.csv_columns.proofs.kinds.Timestamps.after.Goals as goal

pub returns : goal.returns
returns c = λ words are. record {
  local = c.still_write.ensures words are.local;
  zoned = c.still_write-2.ensures words are.zoned;
  fine_local = c.still_write-3.ensures words are.fine_local;
  fine_zoned = c.still_write-4.ensures words are.fine_zoned;
}
