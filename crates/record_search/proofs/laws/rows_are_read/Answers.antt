use Rattle.record_search.proofs.RowLaws.{no_row, row_is}
use Rattle.record_search.proofs.laws.rows_are_read.Goals as goal

pub returns : goal.returns
returns c = record { row = row_is c.shapes_say_words.ensures; none = no_row }
