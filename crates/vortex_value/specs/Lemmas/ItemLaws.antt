-- What a caller of a maker over an iterator of its own shows of the items: that each call of `next` gives what P holds of.
-- Of a `Vec`, and of std's adapters over one, the check finds what the makers ask by itself.
use Rattle.std.proofs.Common.{◌<◌, ℕ, zero, suc, List, [], ◌∷◌, length, Option, Some, get_or, arith}
use Rattle.std.specs.Iterator.{Yields}
use Rattle.std.specs.Iterator.Runs.{Run, YieldsRun}
use Rattle.std.specs.List.{All}

along : {S A : Type 0} (steps : S → Option A → S → Type 0) (P : A → Type 0) → ((s : S) (x : A) (t : S) → steps s (Some x) t → P x)
    → (s t : S) (xs : List A) → Yields steps s xs t → (k : ℕ) (d : A) → k < length xs → P (get_or xs k d)
along steps P each s t [] calls k d below = absurd (omega arith)
along steps P each s t (x ∷ xs) calls zero d below = each s x calls.0 calls.1
along steps P each s t (x ∷ xs) calls (suc k) d below = along steps P each calls.0 t xs calls.2 k d (omega arith)

-- what holds of the item that any call gives holds of all items of a run
pub all_given : {S A : Type 0} {steps : S → Option A → S → Type 0} (P : A → Type 0) → ((s : S) (x : A) (t : S) → steps s (Some x) t → P x)
    → (run : Run steps) → All P run.items
unfolding YieldsRun
all_given {steps = steps} P each run = along steps P each run.from run.gave.0.0 run.items run.gave.0.1
