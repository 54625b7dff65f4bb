-- Types and raw values without parts, and what cannot be viewed.
use Rattle.std.specs.Prelude.{◌≡◌, ◌↔◌, ℕ, Bool, true, false, not, List, Option, Some, None, Result, IfErr, IfOk, IsOk, IsTrue, MatchResult}
use Rattle.vortex_dtype.specs.TypeTree.{TypeTree, bool_type}
use Rattle.vortex_dtype.specs.declared.error.VortexError.{VortexError}
use Rattle.vortex_dtype.specs.declared.error.VortexError.TheVariants.{WrongKind}
use Rattle.vortex_value.specs.Breaches.{Refuses, breaches}
use Rattle.vortex_value.specs.Validity.{Valid}
use Rattle.vortex_value.specs.Values.RawTree.{RawTree, absent, raw_bool, raw_text, raw_bytes}

-- whether the type is a type of booleans; an extension over one is not
abbrev pub is_bool_type : TypeTree → Bool
is_bool_type (bool_type n) = true
is_bool_type _ = false

-- whether the raw value is null or a boolean
abbrev pub may_be_truth : RawTree → Bool
may_be_truth absent = true
may_be_truth (raw_bool b) = true
may_be_truth _ = false

-- an optional boolean as a raw value
abbrev pub raw_truth : Option Bool → RawTree
raw_truth None = absent
raw_truth (Some b) = raw_bool b

-- the other boolean; a null stays null
abbrev pub opposite : RawTree → RawTree
opposite (raw_bool b) = raw_bool (not b)
opposite v = v

-- whether the raw value is null or a string
abbrev pub may_be_text : RawTree → Bool
may_be_text absent = true
may_be_text (raw_text bs) = true
may_be_text _ = false

-- whether the raw value is null or bytes
abbrev pub may_be_bytes : RawTree → Bool
may_be_bytes absent = true
may_be_bytes (raw_bytes bs) = true
may_be_bytes _ = false

-- the bytes of a string, or those that bytes hold; a null has none
abbrev pub bytes_in : RawTree → Option (List ℕ)
bytes_in (raw_text bs) = Some bs
bytes_in (raw_bytes bs) = Some bs
bytes_in _ = None

-- why a type and a raw value are not viewed: the type is of another kind, or else the first breach
abbrev pub RefusesView : Bool → TypeTree → RawTree → VortexError → Type 0
RefusesView false t v e = e ≡ WrongKind
RefusesView true t v e = Refuses e (breaches t v)

-- r answers a call that views the value v of type t: the contract of `try_new` of every view but that of integers. It
-- succeeds exactly if the type is of the kind that the view has, and the value valid for it. Then it gives a valid view of
-- that type and value.
pub record AnswersView {X : Type 0} (IsViewOf : TypeTree → RawTree → X → Type 0) (IsValidView : X → Type 0) (has_kind : TypeTree → Bool) (t : TypeTree) (v : RawTree) (r : Result X VortexError) : Type 0 where
  pub ok : IsOk r ↔ (IsTrue (has_kind t) × Valid t v)
  pub made : IfOk r (IsViewOf t v)
  pub valid : IfOk r IsValidView
  pub refused : IfErr r (RefusesView (has_kind t) t v)

-- the view x has this type and this raw value
pub record Lends {X : Type 0} (type_at : X → TypeTree) (raw_at : X → RawTree) (t : TypeTree) (v : RawTree) (x : X) : Type 0 where
  pub typed : type_at x ≡ t
  pub value : raw_at x ≡ v

-- the call gives a view with p exactly if type and value fit, and else refuses them as another kind
abbrev pub GivesView : {X : Type 0} → (X → Type 0) → Type 0 → Result X VortexError → Type 0
GivesView p fits result = MatchResult result (λ view. p view × fits) (λ e. (e ≡ WrongKind) × ¬ fits)
