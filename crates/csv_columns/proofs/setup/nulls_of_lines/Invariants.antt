-- What is left gets shorter; of the lines of words that are nulls, the first ones are those so far, each of one line.
use Rattle.std.proofs.Common.{◌≡◌, ◌++◌, List, ℕ, length}
use denote.Shadow.{shadow}
use denote.Text.{Utf8}
use Rattle.csv_columns.specs.Names.{texts}
use Rattle.csv_columns.specs.Setups.{AreLines, IsSetup, SetupValue, null_lines, setup_lines, setup_text}
use Rattle.csv_columns.proofs.setup.nulls_of_lines.Given as goal

abbrev pub invariant-loop-line : goal.invariant-loop-line
invariant-loop-line l =
    ((s : SetupValue) → IsSetup s → l.text ≡ setup_text s
    → (others : List (List ℕ)) × AreLines others × (l.rest ≡ null_lines others ++ setup_lines s) × (s.nulls ≡ texts l.nulls.items ++ others))
    × shadow (Utf8 l.rest)
    × AreLines (texts l.nulls.items)

abbrev pub decreases-loop-line : goal.decreases-loop-line
decreases-loop-line l = length l.rest
