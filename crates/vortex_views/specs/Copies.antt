-- What calls that copy a part of a value answer.
use Rattle.std.specs.Prelude.{◌≡◌, Option, Result, option_map, IfErr, IfOk, IfSome, IsOk, IsSome, MatchResult}
use Rattle.vortex_dtype.specs.declared.error.VortexError.{VortexError}
use Rattle.vortex_dtype.specs.declared.error.VortexError.TheVariants.{OutOfMemory}
use Rattle.vortex_value.specs.Values.Scalars.{IsValid}
use Rattle.vortex_value.specs.declared.scalars.Scalar.{Scalar}
use Rattle.vortex_views.specs.Parts.{AreFlatParts, AreValid, IsFlatPart, IsValidPart, Part, scalar_entry, scalar_part}

-- a copy of the part, as `view` sees it, or there was no memory for it
abbrev pub GivesCopy : {A B : Type 0} → (A → B) → B → Result A VortexError → Type 0
GivesCopy view part item = MatchResult item (λ x. view x ≡ part) (λ e. e ≡ OutOfMemory)

-- The result is a copy of the part, as `view` sees it, and None if there is no part. The copy is valid if what holds the part
-- is. Only a part is refused for want of memory, and not a flat part of what is valid.
pub record Copies {A B : Type 0} (view : A → B) (IsSound : A → Type 0) (AreFlat : B → Type 0) (holder_is_valid : Type 0) (part : Option B) (result : Result (Option A) VortexError) : Type 0 where
  pub copy : IfOk result (λ made. option_map view made ≡ part)
  pub valid : holder_is_valid → IfOk result (λ made. IfSome made IsSound)
  pub refused : IfErr result (λ e. (e ≡ OutOfMemory) × IsSome part)
  pub flat : holder_is_valid → IfSome part AreFlat → IsOk result

-- of a part that is one scalar
abbrev pub CopiesPart : Type 0 → Option Part → Result (Option Scalar) VortexError → Type 0
CopiesPart = Copies scalar_part IsValid IsFlatPart

-- of an entry, which is a key and a value
abbrev pub CopiesEntry : Type 0 → Option (Part × Part) → Result (Option (Scalar × Scalar)) VortexError → Type 0
CopiesEntry = Copies scalar_entry AreValid AreFlatParts

-- the result is a copy of what `part` finds in the whole
abbrev pub CopiesPartOf : Part → (Part → Option Part) → Result (Option Scalar) VortexError → Type 0
CopiesPartOf whole part = CopiesPart (IsValidPart whole) (part whole)

abbrev pub CopiesEntryOf : Part → (Part → Option (Part × Part)) → Result (Option (Scalar × Scalar)) VortexError → Type 0
CopiesEntryOf whole entry = CopiesEntry (IsValidPart whole) (entry whole)
