-- What a status of the export for columns of keys says of the refusal.
use Rattle.std.proofs.Common.{◌≡◌, ◌≢◌, ◌∙◌, ℕ, List, Option, length, map, ap, arith, refl, sym}
use Rattle.std.proofs.lemmas.List.{length-map}
use Rattle.arrow_columns.specs.declared.kinds.Kind.{Kind}
use Rattle.column_keys.specs.Answers.{IsRefusal}
use Rattle.column_keys.specs.declared.buffers.ColumnBuffers.{ColumnBuffers}
use Rattle.column_keys.specs.declared.errors.KeysError.{KeysError}
use Rattle.column_keys.specs.declared.errors.KeysError.TheVariants.{BadBytes, BadOffsets, BadOptions, BufferTooSmall, NotAValue, OutOfMemory, UnknownKind, WrongLength}
use Rattle.vortex_c.specs.KeyColumns.{SaysWhyNoColumns, fault_of_keys, status_of_keys}
use Rattle.vortex_c.specs.declared.fault.Fault.{Fault}
use Rattle.vortex_c.specs.declared.status.TheConstants.{BUFFER_TOO_SMALL}

-- of all refusals only one has this status
pub only-small : (e : KeysError) → status_of_keys e ≡ BUFFER_TOO_SMALL → e ≡ BufferTooSmall
only-small OutOfMemory h = absurd (omega (arith, h))
only-small WrongLength h = absurd (omega (arith, h))
only-small (UnknownKind k) h = absurd (omega (arith, h))
only-small (BadOptions k) h = absurd (omega (arith, h))
only-small (BadOffsets k) h = absurd (omega (arith, h))
only-small (BadBytes k) h = absurd (omega (arith, h))
only-small (NotAValue k r) h = absurd (omega (arith, h))
only-small BufferTooSmall h = refl

pub not-small : (e : KeysError) → status_of_keys e ≢ BUFFER_TOO_SMALL → e ≢ BufferTooSmall
not-small e h same = h (ap status_of_keys same)

-- what is told of as many kinds as codes
pub why-none : {X : Type 0} (f : X → Option Kind) (codes : List X) (options bytes offsets : List ℕ) (columns : List ColumnBuffers) (before after : Fault) (status : ℕ) (e : KeysError) → IsRefusal (map f codes) options bytes offsets columns e → status ≡ status_of_keys e
    → after ≡ fault_of_keys (length codes) e before → SaysWhyNoColumns (map f codes) options bytes offsets columns before after status
why-none f codes options bytes offsets columns before after status e refused is told = (e, refused, is, told ∙ ap (λ n. fault_of_keys n e before) (sym (length-map codes f)))
