-- What callers are told of columns of keys.
use Rattle.std.specs.Prelude.{◌≡◌, ℕ, List, Option, length}
use Rattle.arrow_columns.specs.declared.kinds.Kind.{Kind}
use Rattle.column_keys.specs.Answers.{IsRefusal}
use Rattle.column_keys.specs.declared.buffers.ColumnBuffers.{ColumnBuffers}
use Rattle.column_keys.specs.declared.errors.KeysError.{KeysError}
use Rattle.column_keys.specs.declared.errors.KeysError.TheVariants.{BadBytes, BadOffsets, BadOptions, BufferTooSmall, NotAValue, OutOfMemory, UnknownKind, WrongLength}
use Rattle.vortex_c.specs.declared.fault.Fault.{Fault}
use Rattle.vortex_c.specs.declared.status.TheConstants.{BAD_BYTES, BAD_OFFSETS, BAD_OPTIONS, NOT_A_VALUE, NO_MEMORY, BUFFER_TOO_SMALL, UNKNOWN_KIND, WRONG_LENGTH}

-- the status of keys that give no columns
abbrev pub status_of_keys : KeysError → ℕ
status_of_keys OutOfMemory = NO_MEMORY
status_of_keys WrongLength = WRONG_LENGTH
status_of_keys (UnknownKind column) = UNKNOWN_KIND
status_of_keys (BadOptions column) = BAD_OPTIONS
status_of_keys (BadOffsets row) = BAD_OFFSETS
status_of_keys (BadBytes offset) = BAD_BYTES
status_of_keys (NotAValue column row) = NOT_A_VALUE
status_of_keys BufferTooSmall = BUFFER_TOO_SMALL

-- where the mistake is then, of so many kinds, if it was there before
abbrev pub fault_of_keys : ℕ → KeysError → Fault → Fault
fault_of_keys kinds OutOfMemory before = before
fault_of_keys kinds WrongLength before = record { column = kinds; place = 0 }
fault_of_keys kinds (UnknownKind column) before = record { column = column; place = 0 }
fault_of_keys kinds (BadOptions column) before = record { column = column; place = 0 }
fault_of_keys kinds (BadOffsets row) before = record { column = 0; place = row }
fault_of_keys kinds (BadBytes offset) before = record { column = 0; place = offset }
fault_of_keys kinds (NotAValue column row) before = record { column = column; place = row }
fault_of_keys kinds BufferTooSmall before = before

-- the call with this status refused for such a reason, and told where it is
abbrev pub SaysWhyNoColumns : List (Option Kind) → List ℕ → List ℕ → List ℕ → List ColumnBuffers → Fault → Fault → ℕ → Type 0
SaysWhyNoColumns found options bytes offsets columns before after status =
    (refusal : KeysError) × IsRefusal found options bytes offsets columns refusal × (status ≡ status_of_keys refusal) × (after ≡ fault_of_keys (length found) refusal before)
