-- The text has the lines of the columns so far.
use Rattle.std.proofs.Common.{◌≡◌, ◌++◌, ◌∷◌, [], take}
use Rattle.std.specs.Prelude.{string_bytes}
use Rattle.csv_columns.specs.Names.{texts}
use Rattle.csv_columns.specs.Setups.{column_lines, column_values, null_lines, numbers_text}
use Rattle.csv_columns.proofs.setup.Setup.to_text.Given as goal

abbrev pub invariant-loop-named : goal.invariant-loop-named
invariant-loop-named l =
    string_bytes l.text ≡ (null_lines (texts l.self.nulls.items) ++ (numbers_text l.self.numbers ++ 10 ∷ [])) ++ column_lines (column_values (take l.named-index l.self.columns.items))
