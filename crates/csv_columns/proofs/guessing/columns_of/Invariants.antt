-- A column for each name so far, guessed as its guess says.
use Rattle.std.proofs.Common.{◌≡◌, ℕ, List, [], length}
use Rattle.std.specs.Prelude.{if◌then◌else◌, nat_lt}
use Rattle.csv_columns.specs.Guesses.{AreColumns, HaveNumbers, See, column_names}
use Rattle.csv_columns.specs.Names.{texts}
use Rattle.csv_columns.proofs.guessing.columns_of.Given as goal

abbrev pub invariant-loop-name : goal.invariant-loop-name
invariant-loop-name l =
    (column_names l.columns.items ≡ texts l.yielded) × (length l.have_numbers.items ≡ length l.columns.items)
    × ((words : ℕ → List (List ℕ)) → See words l.guesses → AreColumns (λ k. if nat_lt k (length l.guesses) then words k else []) l.columns.items)
    × ((words : ℕ → List (List ℕ)) → See words l.guesses → HaveNumbers (λ k. if nat_lt k (length l.guesses) then words k else []) l.have_numbers.items)
