-- The names so far are as is asked.
use Rattle.std.proofs.Common.{◌≡◌, length}
use Rattle.csv_columns.specs.Names.{AreGivenOrMade, texts}
use Rattle.csv_columns.proofs.Naming.{IsNaming}
use Rattle.csv_columns.proofs.names.names_for.Given as goal

abbrev pub invariant-loop-place : goal.invariant-loop-place
invariant-loop-place l = IsNaming (texts l.given) (texts l.names.items) × (length l.names.items ≡ l.place) × AreGivenOrMade l.are_divided (texts l.given) (texts l.names.items)
