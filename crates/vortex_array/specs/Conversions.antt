-- The raw value of a Vec, and what a conversion out of a scalar answers.
use Rattle.std.specs.Prelude.{◌≡◌, ◌⊎◌, ⊤, List, [], ◌∷◌, Vec, Result, Ok, Err, IsErrAnd, IsOk, MatchResult}
use Rattle.std.specs.Global.{Global}
use Rattle.vortex_dtype.specs.declared.error.VortexError.{VortexError}
use Rattle.vortex_dtype.specs.declared.error.VortexError.TheVariants.{OutOfMemory}
use Rattle.vortex_dtype.specs.TypeTree.{TypeTree}
use Rattle.vortex_value.specs.Conversions.{Taken}
use Rattle.vortex_value.specs.Validity.{Valid}
use Rattle.vortex_value.specs.Values.RawTree.{RawTree, raw_text, raw_bytes, raw_tuple, RawTrees, no_raws, raw_then}
use Rattle.vortex_value.specs.Values.Refs.{ref_raw, ref_type}
use Rattle.vortex_value.specs.declared.refs.ScalarRef.{ScalarRef}

-- the raw value of each, in order
abbrev pub given_each : {T : Type 0} → (T → RawTree) → List T → RawTrees
given_each given [] = no_raws
given_each given (x ∷ xs) = raw_then (given x) (given_each given xs)

-- the raw value of a Vec: the tuple of those of its elements
abbrev pub given_vec : {T : Type 0} → (T → RawTree) → Vec T Global → RawTree
given_vec given v = raw_tuple (given_each given v.items)

-- what a borrowed scalar converts into, by its type and its raw value
abbrev pub taken_from : (TypeTree → RawTree → Taken) → ScalarRef → Taken
taken_from taken x = taken (ref_type x) (ref_raw x)

-- the answer is the value of that raw value, or the refusal, unless there is no memory
abbrev pub TakesOrNoMemory : {T : Type 0} → (T → RawTree) → Taken → Result T VortexError → Type 0
TakesOrNoMemory given (Ok v) r = MatchResult r (λ x. given x ≡ v) (λ e. e ≡ OutOfMemory)
TakesOrNoMemory given (Err e) r = IsErrAnd r (λ f. (f ≡ e) ⊎ (f ≡ OutOfMemory))

-- the raw value is a tuple of one part or more
abbrev pub HasParts : RawTree → Type 0
HasParts (raw_tuple (raw_then v vs)) = ⊤
HasParts _ = ⊥

-- the conversion copies: it takes a string or bytes, or a tuple of one part or more, if it takes the type's empty tuple.
-- A refusal of the type, of a null and of another case of raw value needs no copy; a refusal of a part may come after copies
abbrev pub Copies : (TypeTree → RawTree → Taken) → TypeTree → RawTree → Type 0
Copies taken t (raw_text bs) = IsOk (taken t (raw_text bs))
Copies taken t (raw_bytes bs) = IsOk (taken t (raw_bytes bs))
Copies taken t (raw_tuple vs) = HasParts (raw_tuple vs) × IsOk (taken t (raw_tuple no_raws))
Copies taken t _ = ⊥

-- each value that has a valid raw value of the type is converted back from it
abbrev pub TakesBack : {T : Type 0} → (T → RawTree) → (TypeTree → RawTree → Taken) → TypeTree → Type 0
TakesBack {T = T} given taken t = (x : T) → Valid t (given x) → taken t (given x) ≡ Ok (given x)

-- both conversions give each value the same raw value
abbrev pub NamesAsGiven : {T : Type 0} → (T → RawTree) → (T → RawTree) → Type 0
NamesAsGiven {T = T} given named = (x : T) → named x ≡ given x
