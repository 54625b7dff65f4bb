-- The words so far.
use Rattle.std.proofs.Common.{◌≡◌, map, take}
use Rattle.csv_columns.specs.Names.{texts}
use Rattle.csv_columns.proofs.setup.reading_of.Given as goal

abbrev pub invariant-loop-word : goal.invariant-loop-word
invariant-loop-word l = map (λ word. word.items) l.nulls.items ≡ texts (take l.word-index l.words)
