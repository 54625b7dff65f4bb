-- Rows that are made while the input is read.
use Rattle.std.specs.Prelude.{◌≡◌, ℕ, List, ◌++◌}
use Rattle.rows.specs.Rows.{rows_of}

-- rows stand in output, and bytes are pending, with no line feed after them yet; with a piece more of the input there are new ones.
-- Whatever follows the piece, the rows so far and those of what is left are together the same as before
abbrev pub GoesOn : (output pending piece output_new pending_new : List ℕ) → Type 0
GoesOn output pending piece output_new pending_new =
    (more : List ℕ) → output_new ++ rows_of (pending_new ++ more) ≡ output ++ rows_of (pending ++ (piece ++ more))
