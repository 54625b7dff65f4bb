-- When calls on types and their parts refuse, and with which error.
use Rattle.std.specs.Prelude.{◌≡◌, ℕ, ◌==◌, ◌||◌, ◌&&◌, List, [], ◌∷◌, length, Bool, false, not, Option, Some, None, if◌then◌else◌, is_none, Result, IsOk, IfErr, IsErrAnd}
use Rattle.std.specs.List.{list_any}
use Rattle.vortex_dtype.specs.declared.error.VortexError.{VortexError}
use Rattle.vortex_dtype.specs.declared.error.VortexError.TheVariants.{BadType, NoField, OutOfMemory}
use Rattle.vortex_dtype.specs.declared.error.TypeCause.TheVariants.{LengthsDiffer, NullableKey, RepeatedTypeId}
use Rattle.vortex_dtype.specs.Parts.{type_named}
use Rattle.vortex_dtype.specs.TypeOf.{FieldParts}
use Rattle.vortex_dtype.specs.TypeTree.{TypeTree, is_nullable}

-- the call succeeds if there is no cause to refuse it, and otherwise answers the cause
abbrev pub RefusesExactly : {T : Type 0} → Option VortexError → Result T VortexError → Type 0
RefusesExactly None result = IsOk result
RefusesExactly (Some cause) result = IsErrAnd result (λ e. e ≡ cause)

-- if there is no cause to refuse it, the call succeeds or answers `OutOfMemory`; otherwise it answers the cause
abbrev pub RefusesOrNoMemory : {T : Type 0} → Option VortexError → Result T VortexError → Type 0
RefusesOrNoMemory None result = IfErr result (λ e. e ≡ OutOfMemory)
RefusesOrNoMemory (Some cause) result = IsErrAnd result (λ e. e ≡ cause)

-- the cause to refuse this key of a map type: the key takes a null
abbrev pub key_cause : TypeTree → Option VortexError
key_cause key = if is_nullable key then Some (BadType NullableKey) else None

-- some id stands at two places
abbrev pub repeats : List ℕ → Bool
repeats [] = false
repeats (x ∷ xs) = list_any (λ y. y == x) xs || repeats xs

-- the cause to refuse variants of this many names, this many types and these ids: lengths first, then ids
abbrev pub variants_cause : ℕ → ℕ → List ℕ → Option VortexError
variants_cause names types ids =
    if not ((names == types) && (length ids == types)) then Some (BadType LengthsDiffer)
    else (if repeats ids then Some (BadType RepeatedTypeId) else None)

-- some name belongs to no field
abbrev pub misses_a_name : FieldParts → List (List ℕ) → Bool
misses_a_name f names = list_any (λ name. is_none (type_named f name)) names

-- the cause to refuse a projection to these names: some name belongs to no field
abbrev pub project_cause : FieldParts → List (List ℕ) → Option VortexError
project_cause f names = if misses_a_name f names then Some NoField else None
