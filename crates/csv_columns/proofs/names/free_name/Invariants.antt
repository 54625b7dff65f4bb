-- So many marks stand behind the name; with fewer it is one of these. A name that is one of these is no longer than all of them.
use Rattle.std.proofs.Common.{◌≡◌, ◌<◌, ◌-◌, ◌+◌, ◌++◌, ◌⊎◌, ℕ, length, replicate}
use Rattle.std.specs.Prelude.{Contains, string_bytes}
use Rattle.std.specs.List.{sum_by}
use Rattle.csv_columns.specs.Names.{texts}
use Rattle.csv_columns.proofs.names.free_name.Given as goal

abbrev pub invariant-loop-name : goal.invariant-loop-name
invariant-loop-name l =
    (count : ℕ) × (string_bytes l.name ≡ string_bytes l.initial.name ++ replicate count 95)
    × ((n : ℕ) → n < count → Contains (texts l.given) (string_bytes l.initial.name ++ replicate n 95) ⊎ Contains (texts l.names) (string_bytes l.initial.name ++ replicate n 95))

abbrev pub decreases-loop-name : goal.decreases-loop-name
decreases-loop-name l = (sum_by length (texts l.given) + sum_by length (texts l.names) + 1) - length (string_bytes l.name)
