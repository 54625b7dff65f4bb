-- What the program writes after an error.
use Rattle.std.specs.Prelude.{ℕ, List, codes}
use Rattle.rows.specs.declared.faults.RowsError.{RowsError}
use Rattle.rows.specs.declared.faults.RowsError.TheVariants.{Read, Write, Memory}

-- the words for an error
abbrev pub fault_text : RowsError → List ℕ
fault_text Read = codes "read failed"
fault_text Write = codes "write failed"
fault_text Memory = codes "out of memory"
