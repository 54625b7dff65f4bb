-- Errors that tell where.
use Rattle.std.specs.Prelude.{◌≡◌, ◌≤◌, ◌+◌, ◌-◌, ◌^◌, ◌++◌, ◌∷◌, [], ℕ, List, Bool, Option, None, Some, if◌then◌else◌, length, min, option_map}
use Rattle.std.specs.List.{concat}
use Rattle.zone_index.specs.declared.errors.Cause.{Cause}
use Rattle.zone_index.specs.declared.errors.SearchError.{SearchError}
use Rattle.zone_index.specs.declared.errors.SearchError.TheVariants as errors
use Rattle.zone_index.specs.declared.errors.RecordError.{RecordError}
use Rattle.zone_index.specs.declared.errors.RecordError.TheVariants as record_faults
use Rattle.zone_index.specs.declared.errors.Refusal.{Refusal}

-- the error, where the bytes that a record was given in stand at this offset
abbrev pub fault_at : ℕ → RecordError → SearchError
fault_at first record_faults.Memory = errors.Memory
fault_at first (record_faults.Refused refusal) = errors.Refused (record refusal { place = min (refusal.place + first) (2 ^ 64 - 1) })

-- an error of a record, and of no reader or writer
abbrev pub IsOfRecord : SearchError → Type 0
IsOfRecord errors.Memory = Unit {0}
IsOfRecord (errors.Refused refusal) = Unit {0}
IsOfRecord errors.Read = ⊥
IsOfRecord errors.CutShort = ⊥
IsOfRecord errors.TooFar = ⊥
IsOfRecord errors.Write = ⊥

-- an error of reading, and of no record or writer
abbrev pub IsOfReading : SearchError → Type 0
IsOfReading errors.Read = Unit {0}
IsOfReading errors.CutShort = Unit {0}
IsOfReading errors.TooFar = Unit {0}
IsOfReading errors.Memory = Unit {0}
IsOfReading errors.Write = ⊥
IsOfReading (errors.Refused refusal) = ⊥

-- a read failed, or no memory was left for it
abbrev pub IsOfStream : SearchError → Type 0
IsOfStream errors.Read = Unit {0}
IsOfStream errors.Memory = Unit {0}
IsOfStream errors.CutShort = ⊥
IsOfStream errors.TooFar = ⊥
IsOfStream errors.Write = ⊥
IsOfStream (errors.Refused refusal) = ⊥

-- what a stream has left, from this offset on, ends at 2^64 or behind it
abbrev pub EndsFar : ℕ → Option (List ℕ) → Type 0
EndsFar start left = (bytes : List ℕ) → left ≡ Some bytes → 2 ^ 64 ≤ start + length bytes

-- this holds of what is told of a record that was refused
abbrev pub IfRefused : (Refusal → Type 0) → SearchError → Type 0
IfRefused P (errors.Refused refusal) = P refusal
IfRefused P errors.Read = Unit {0}
IfRefused P errors.CutShort = Unit {0}
IfRefused P errors.TooFar = Unit {0}
IfRefused P errors.Write = Unit {0}
IfRefused P errors.Memory = Unit {0}

abbrev pub IfRecordRefused : (Refusal → Type 0) → RecordError → Type 0
IfRecordRefused P (record_faults.Refused refusal) = P refusal
IfRecordRefused P record_faults.Memory = Unit {0}

-- how many bytes stand before the first of these records that is refused, if one is
abbrev pub before_refused : (List ℕ → Bool) → List (List ℕ) → Option ℕ
before_refused is_refused [] = None
before_refused is_refused (line ∷ lines) = if is_refused line then Some 0 else option_map (λ n. length line + n) (before_refused is_refused lines)

-- it tells the offset so many bytes behind this one, as far as 64 bits tell
abbrev pub TellsOffset : ℕ → Option ℕ → Refusal → Type 0
TellsOffset first None refusal = ⊥
TellsOffset first (Some n) refusal = refusal.place ≡ min (first + n) (2 ^ 64 - 1)

-- it tells that this record is refused, which begins at this offset
pub record TellsRecord (Refuses : List ℕ → Cause → Type 0) (place : ℕ) (line : List ℕ) (refusal : Refusal) : Type 0 where
  pub begins : refusal.place ≡ place
  pub cause : Refuses line refusal.cause

-- it tells one of these records, of which the first begins at this offset, as far as 64 bits tell
pub record TellsOneOf (Refuses : List ℕ → Cause → Type 0) (first : ℕ) (records : List (List ℕ)) (refusal : Refusal) : Type 0 where
  pub before : List (List ℕ)
  pub line : List ℕ
  pub others : List (List ℕ)
  pub among : records ≡ before ++ line ∷ others
  pub told : TellsRecord Refuses (min (first + length (concat before)) (2 ^ 64 - 1)) line refusal
