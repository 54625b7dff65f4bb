-- The columns so far.
use Rattle.std.proofs.Common.{◌≡◌, map, take}
use Rattle.csv_columns.specs.declared.column_words.NamedColumn.{NamedColumn}
use Rattle.csv_columns.proofs.setup.Setup.schema.Given as goal

abbrev pub invariant-loop-named : goal.invariant-loop-named
invariant-loop-named l = l.columns.items ≡ map (λ (named : NamedColumn). named.column) (take l.named-index l.self.columns.items)
