-- What makers over iterators ask of an iterable, and what they say of the items that it gave.
use Rattle.std.specs.Prelude.{◌≡◌, ◌⊎◌, List, [], ◌∷◌, ◌++◌, Option, None, Some, Result, IfErr, IfOk, MatchOption}
use Rattle.std.specs.Iterator.{Count, IsFinite}
use Rattle.std.specs.Iterator.Runs.{EachRunFrom, SomeRun, WholeRun}
use Rattle.std.specs.List.{All}
use Rattle.vortex_dtype.specs.declared.error.VortexError.{VortexError}
use Rattle.vortex_dtype.specs.declared.error.VortexError.TheVariants.{OutOfMemory}

-- each iterator that the iterable becomes may be called, ends, and gives only items that meet P
abbrev pub GivesOnly : {U S A : Type 0} → (U → S → Type 0) → (S → Type 0) → (S → Option A → S → Type 0) → (S → Count) → U → (A → Type 0) → Type 0
GivesOnly {S = S} gives can steps left iterable P = (it : S) → gives iterable it → can it × IsFinite (left it) × EachRunFrom steps it (λ run. All P run.items)

-- the iterable gives items and then no more, and P holds of all of them in order
abbrev pub GivesAll : {U S A : Type 0} → (U → S → Type 0) → (S → Option A → S → Type 0) → U → (List A → Type 0) → Type 0
GivesAll {S = S} gives steps iterable P = (it : S) × gives iterable it × WholeRun steps it (λ run. P run.items)

-- what is made is made of all the items of the iterable, in order, and these give no cause to refuse
abbrev pub MadeOfItems : {U S A E T : Type 0} → (U → S → Type 0) → (S → Option A → S → Type 0) → U → (List A → Option E) → (List A → T → Type 0) → Result T E → Type 0
MadeOfItems gives steps iterable cause made result = IfOk result (λ x. GivesAll gives steps iterable (λ items. (cause items ≡ None) × made items x))

-- a refusal is out of memory, or the cause that all the items of the iterable, in order, give for it
abbrev pub RefusesItems : {U S A T : Type 0} → (U → S → Type 0) → (S → Option A → S → Type 0) → U → (List A → Option VortexError) → Result T VortexError → Type 0
RefusesItems gives steps iterable cause result = IfErr result (λ e. (e ≡ OutOfMemory) ⊎ GivesAll gives steps iterable (λ items. cause items ≡ Some e))

-- the items before the last one taken give no cause to refuse; with it e is their cause, or out of memory if they give none
pub record IsRefusedAtLast {A : Type 0} (cause : List A → Option VortexError) (e : VortexError) (taken : List A) : Type 0 where
  pub before : List A
  pub last : A
  pub all : taken ≡ before ++ last ∷ []
  pub earlier : cause before ≡ None
  pub answer : MatchOption (cause taken) (e ≡ OutOfMemory) (λ f. e ≡ f)

-- a refusal comes at the last item that was taken of the iterable
abbrev pub RefusesAtLast : {U S A T : Type 0} → (U → S → Type 0) → (S → Option A → S → Type 0) → U → (List A → Option VortexError) → Result T VortexError → Type 0
RefusesAtLast {S = S} gives steps iterable cause result = IfErr result (λ e. (it : S) × gives iterable it × SomeRun steps it (λ run. IsRefusedAtLast cause e run.items))
