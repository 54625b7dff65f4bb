-- What is taken of the parts of a list, one after another.
use Rattle.std.proofs.Common.{◌≡◌, ℕ, suc, ◌<◌, ◌⊎◌, inl, inr, List, [], ◌∷◌, ◌++◌, length, get_or, drop, drop-cons, Option, Result, Ok, Err, refl, sym, ap, ◌∙◌}
use Rattle.vortex_dtype.specs.declared.error.VortexError.{VortexError}
use Rattle.vortex_dtype.specs.declared.error.VortexError.TheVariants.{OutOfMemory}
use Rattle.vortex_value.specs.Conversions.{Taken, as_tuple, both_taken}
use Rattle.vortex_value.specs.Values.RawOf.{value_trees}
use Rattle.vortex_value.specs.Values.RawTree.{RawTree, raw_tuple, RawTrees, no_raws, raw_then}
use Rattle.vortex_value.specs.declared.values.ScalarValue.{ScalarValue}
use Rattle.vortex_array.specs.Conversions.{HasParts, TakesOrNoMemory, given_each}

-- these parts that are taken, and then the rest
abbrev pub after : RawTrees → Result RawTrees VortexError → Result RawTrees VortexError
after no_raws rest = rest
after (raw_then v vs) rest = both_taken (Ok v) (after vs rest)

after-refused : (vs : RawTrees) (e : VortexError) → after vs (Err e) ≡ Err e
after-refused no_raws e = refl
after-refused (raw_then v vs) e = ap (both_taken (Ok v)) (after-refused vs e)

after-none : (vs : RawTrees) → after vs (Ok no_raws) ≡ Ok vs
after-none no_raws = refl
after-none (raw_then v vs) = ap (both_taken (Ok v)) (after-none vs)

after-append : {T : Type 0} (given : T → RawTree) (xs : List T) (x : T) (rest : Result RawTrees VortexError)
    → after (given_each given (xs ++ x ∷ [])) rest ≡ after (given_each given xs) (both_taken (Ok (given x)) rest)
after-append given [] x rest = refl
after-append given (y ∷ ys) x rest = ap (both_taken (Ok (given y))) (after-append given ys x rest)

-- what an answer says of what was to be taken
taken_as : {T : Type 0} (given : T → RawTree) (read : Taken) (x : T) → TakesOrNoMemory given read (Ok x) → read ≡ Ok (given x)
taken_as given (Ok v) x h = ap Ok (sym h)
taken_as given (Err e) x h = absurd h

refused_as : {T : Type 0} (given : T → RawTree) (read : Taken) (e : VortexError) → TakesOrNoMemory given read (Err e) → (e ≡ OutOfMemory) ⊎ (read ≡ Err e)
refused_as given (Ok v) e h = inl h
refused_as given (Err f) e (inl same) = inr (ap Err (sym same))
refused_as given (Err f) e (inr none) = inl none

no_memory : {T : Type 0} (given : T → RawTree) (read : Taken) (e : VortexError) → e ≡ OutOfMemory → TakesOrNoMemory {T = T} given read (Err e)
no_memory given (Ok v) e none = none
no_memory given (Err f) e none = inr none

-- one part more is taken
pub one_more : {T : Type 0} (given : T → RawTree) (xs : List T) (x : T) (read : Taken) (all here rest : Result RawTrees VortexError)
    → all ≡ after (given_each given xs) here → here ≡ both_taken read rest → TakesOrNoMemory given read (Ok x) → all ≡ after (given_each given (xs ++ x ∷ [])) rest
one_more given xs x read all here rest a b m = a ∙ (ap (after (given_each given xs)) (b ∙ ap (λ r. both_taken r rest) (taken_as given read x m)) ∙ sym (after-append given xs x rest))

-- the next part is refused, and so are all
refusal_of_all : (done : RawTrees) (read : Taken) (all here rest : Result RawTrees VortexError)
    → all ≡ after done here → here ≡ both_taken read rest → (e : VortexError) → read ≡ Err e → all ≡ Err e
refusal_of_all done read all here rest a b e m = a ∙ (ap (after done) (b ∙ ap (λ r. both_taken r rest) m) ∙ after-refused done e)

pub all_refused : {T V : Type 0} (given : T → RawTree) (gives : V → RawTree) (done : RawTrees) (read : Taken) (all here rest : Result RawTrees VortexError)
    → all ≡ after done here → here ≡ both_taken read rest → (e : VortexError) → TakesOrNoMemory given read (Err e) → TakesOrNoMemory gives (as_tuple all) (Err e)
all_refused given gives done read all here rest a b e m =
    elim (refused_as given read e m) [
      | inl none ↦ no_memory gives (as_tuple all) e none
      | inr same ↦ rw (refusal_of_all done read all here rest a b e same) (inl refl)
    ]

-- no part is left
pub all_taken : (vs : RawTrees) (all here : Result RawTrees VortexError) → all ≡ after vs here → here ≡ Ok no_raws → all ≡ Ok vs
all_taken vs all here a b = a ∙ (ap (after vs) b ∙ after-none vs)

-- the parts from place i on
pub parts_at : (vs : List (Option ScalarValue)) (i : ℕ) (v : Option ScalarValue) → i < length vs → v ≡ get_or vs i v → drop i vs ≡ v ∷ drop (suc i) vs
parts_at vs i v below is = rw (drop-cons vs i v, ← is)

-- a list that is not empty has parts
pub has_parts : (vs : List (Option ScalarValue)) → (length vs ≡ 0 → ⊥) → HasParts (raw_tuple (value_trees vs))
has_parts [] some = absurd (some refl)
has_parts (v ∷ vs) some = tt
