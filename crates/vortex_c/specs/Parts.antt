-- The parts of statistics, as callers are told them.
use Rattle.std.specs.Prelude.{◌≡◌, ◌≤◌, ◌⊎◌, ℕ, Bool, true, false, List, [], length, Option, Some, None}
use Rattle.arrow_columns.specs.declared.formats.Format.TheVariants.{Decimal}
use Rattle.arrow_columns.specs.declared.kinds.Kind.TheVariants.{Logical}
use Rattle.arrow_columns.specs.declared.kinds.Kind.{Kind}
use Rattle.column_cells.specs.Types.{type_of_kind}
use Rattle.vortex_value.specs.Values.Content.{Content, null}
use Rattle.named_statistics.specs.Named.{ReadsNamed}
use Rattle.vortex_statistics.specs.Statistics.{Known, KnownBound}
use Rattle.column_statistics.specs.Encodings.{HaveValues, IsEncodingAs, IsReadError}
use Rattle.column_statistics.specs.Items.{IsItemOf}
use Rattle.column_statistics.specs.declared.errors.ReadError.{ReadError}
use Rattle.column_statistics.specs.declared.errors.ReadError.TheVariants.{BadBytes, NotAValue, OutOfMemory}
use Rattle.vortex_c.specs.Statistics.{SaysNoKind}
use Rattle.vortex_c.specs.declared.fault.Fault.{Fault}
use Rattle.vortex_c.specs.declared.parts.StatisticsParts.{StatisticsParts}
use Rattle.vortex_c.specs.declared.status.TheConstants.{BAD_BYTES, NOT_A_VALUE, NO_MEMORY}

-- a count is told so: 0 if it is not known
abbrev pub IsCountTold : Option ℕ → Bool → ℕ → Type 0
IsCountTold None is_known count = (is_known ≡ false) × (count ≡ 0)
IsCountTold (Some n) is_known count = (is_known ≡ true) × (count ≡ n)

-- no bound is told: it is not exact, and has no bytes
abbrev pub NoneIsTold : Bool → Bool → List ℕ → Type 0
NoneIsTold is_there is_exact bytes = (is_there ≡ false) × (is_exact ≡ false) × (bytes ≡ [])

-- a bound of this content, exact or not, is told so: none if it is null, and else its bytes as a value of the kind
abbrev pub IsValueTold : Kind → Content → Bool → Bool → Bool → List ℕ → Type 0
IsValueTold kind null exact is_there is_exact bytes = NoneIsTold is_there is_exact bytes
IsValueTold kind x exact is_there is_exact bytes = (is_there ≡ true) × (is_exact ≡ exact) × IsItemOf kind x bytes

-- a bound is told so, if there is one
abbrev pub IsBoundTold : Kind → Option KnownBound → Bool → Bool → List ℕ → Type 0
IsBoundTold kind None is_there is_exact bytes = NoneIsTold is_there is_exact bytes
IsBoundTold kind (Some b) is_there is_exact bytes = IsValueTold kind b.value.content b.is_exact is_there is_exact bytes

-- the parts of statistics of the kind, with these bytes of the bounds
pub record AreParts (kind : Kind) (s : Known) (lower upper : List ℕ) (p : StatisticsParts) : Type 0 where
  pub rows : p.row_count ≡ s.row_count
  pub nulls : IsCountTold s.null_count p.has_null_count p.null_count
  pub lower_bound : IsBoundTold kind s.lower p.has_lower p.lower_is_exact lower
  pub upper_bound : IsBoundTold kind s.upper p.has_upper p.upper_is_exact upper
  pub lower_length : p.lower_length ≡ length lower
  pub upper_length : p.upper_length ≡ length upper

-- these are the parts of the statistics that have this encoding, of a column of the kind that was found, whose bounds are null or
-- values of it; they are right for all that the written ones were right for
pub record ArePartsAt (found : Option Kind) (bytes lower upper : List ℕ) (p : StatisticsParts) : Type 0 where
  pub kind : Kind
  pub is_kind : found ≡ Some kind
  pub statistics : Known
  pub is_encoding : IsEncodingAs (type_of_kind kind) bytes statistics
  pub values : HaveValues kind statistics
  pub right : ReadsNamed (type_of_kind kind) bytes statistics
  pub parts : AreParts kind statistics lower upper p

-- how many bytes hold any bound of the kind but strings and bytes
abbrev pub room_of : Option Kind → ℕ
room_of (Some (Logical (Decimal width precision scale))) = 16
room_of _ = 8

-- the buffer is long enough for a bound that these bytes say: it has 8 bytes, or 16 of decimals, and as many as these
abbrev pub SufficesFor : Option Kind → List ℕ → List ℕ → Type 0
SufficesFor found bytes buffer = (room_of found ≤ length buffer) × (length bytes ≤ length buffer)

-- the status of bytes that are not read
abbrev pub status_of_read : ReadError → ℕ
status_of_read OutOfMemory = NO_MEMORY
status_of_read (BadBytes place) = BAD_BYTES
status_of_read NotAValue = NOT_A_VALUE

-- where that is told to be, if it was there before
abbrev pub fault_of_read : Fault → ReadError → Fault
fault_of_read before OutOfMemory = before
fault_of_read before (BadBytes place) = record { column = 0; place = place }
fault_of_read before NotAValue = record { column = 0; place = 0 }

-- the call with this status read nothing for such a reason, and told where
abbrev pub SaysWhyNotRead : Option Kind → List ℕ → Fault → Fault → ℕ → Type 0
SaysWhyNotRead found bytes before after status = SaysNoKind found after status
    ⊎ ((kind : Kind) × (reason : ReadError) × (found ≡ Some kind) × IsReadError kind bytes reason
    × (status ≡ status_of_read reason) × (after ≡ fault_of_read before reason))
