-- A run of calls gives each part that is left.
use Rattle.std.proofs.Common.{List, [], ◌∷◌, None, Result, ◌∙◌, ap}
use Rattle.std.specs.Iterator.{Yields}
use Rattle.std.specs.List.{AllZip}
use Rattle.vortex_dtype.specs.declared.error.VortexError.{VortexError}
use Rattle.vortex_views.specs.Copies.{GivesCopy}
use Rattle.vortex_views.specs.Iterators.{GivesEachPart, YieldsCopies}

run_gives_each : {S A B : Type 0} (view : A → B) (free : B → Type 0) (left : S → List B) (items : List (Result A VortexError)) (s t u : S)
    → Yields (YieldsCopies view free left) s items t → YieldsCopies view free left t None u → AllZip (GivesCopy view) (left s) items
run_gives_each view free left [] s t u ran ended = rw (ap left ran ∙ ended.0) tt
run_gives_each view free left (item ∷ items) s t u (j, (part, first, copy, flat), ran) ended = rw first (copy, run_gives_each view free left items j t u ran ended)

-- each part that is left comes once, in order
pub gives_each_part : {S A B : Type 0} (view : A → B) (free : B → Type 0) (left : S → List B) → GivesEachPart view left (YieldsCopies view free left)
gives_each_part view free left s items (u, (t, ran, ended)) = run_gives_each view free left items s t u ran ended
