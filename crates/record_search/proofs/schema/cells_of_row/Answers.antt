-- The cells that are wanted are those of the row.
use Rattle.record_search.proofs.NamedLaws.{wanted_agrees}
use Rattle.record_search.proofs.schema.cells_of_row.Goals as goal

pub returns : goal.returns
returns c = wanted_agrees c.shapes_say_words.ensures c.args.wanted.now c.args.schema.now c.args.line.now c.read_wanted.new.row.items c.read_wanted.result c.read_wanted.ensures
