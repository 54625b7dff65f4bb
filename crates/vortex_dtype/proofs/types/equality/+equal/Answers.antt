use Rattle.std.proofs.Common.{◌≡◌, ◌≢◌, suc, List, [], ◌∷◌, length, Bool, false, refl, sym, ap}
use Rattle.std.proofs.lemmas.Bool.{and_right}
use Rattle.vortex_dtype.specs.TypeEquality.{trees_eq}
use Rattle.vortex_dtype.specs.TypeOf.{dtype_trees}
use Rattle.vortex_dtype.specs.TypeTree.{trim_all}
use Rattle.vortex_dtype.specs.declared.types.DType.{DType}
use Rattle.vortex_dtype.proofs.types.equality.+equal.Goals as goal

-- lists of types of different lengths are not equal
lengths_differ : (exact : Bool) (xs ys : List DType) → length xs ≢ length ys → trees_eq (trim_all exact (dtype_trees xs)) (trim_all exact (dtype_trees ys)) ≡ false
lengths_differ exact [] [] h = absurd (h refl)
lengths_differ exact [] (y ∷ ys) h = refl
lengths_differ exact (x ∷ xs) [] h = refl
lengths_differ exact (x ∷ xs) (y ∷ ys) h = and_right _ _ (lengths_differ exact xs ys (λ e. h (ap suc e)))

pub all_equal-returns-then-a-b : goal.all_equal-returns-then-a-b
all_equal-returns-then-a-b t c = sym (lengths_differ c.args.exact c.args.a.now c.args.b.now c.if-a-b.true)
