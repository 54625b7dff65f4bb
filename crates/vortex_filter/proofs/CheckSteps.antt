-- Steps of the check.
use Rattle.std.proofs.Common.{◌≡◌, ◌↔◌, ℕ, ◌+◌, Bool, List, [], ◌∷◌, ◌++◌, length, map, Option, Some, None, length-append, option_map, refl, sym, ap, ◌∙◌, ◌&&◌, IsTrue}
use Rattle.std.specs.Borrow.{Bor}
use Rattle.std.specs.List.{list_all, slice_get}
use Rattle.std.specs.Option.{option_copied}
use Rattle.std.proofs.lemmas.Bool.Decides.{same_from_decides}
use Rattle.std.proofs.lemmas.Option.{slice_get-map}
use Rattle.vortex_dtype.specs.TypeOf.{type_of}
use Rattle.vortex_dtype.specs.TypeTree.{TypeTree, Same}
use Rattle.vortex_dtype.specs.declared.types.DType.{DType}
use Rattle.vortex_value.specs.Equality.{same_type}
use Rattle.vortex_value.specs.Lemmas.EqualityLaws.{same_type-Decides}
use Rattle.vortex_value.specs.Size.{capped}
use Rattle.vortex_value.specs.Values.Scalars.{scalar_type}
use Rattle.vortex_value.specs.declared.scalars.Scalar.{Scalar}
use Rattle.vortex_cells.specs.Cells.{cell_of}
use Rattle.vortex_filter.specs.Checking.{Test}
use Rattle.vortex_filter.proofs.CheckLaws.{capped_sum}
use Rattle.vortex_filter.proofs.Steps.{formula-And, formula-Compare, formula-Constant, formula-In, formula-IsNull, formula-Between, formula-StartsWith, formula-Like, formula-Not, formula-Or}

copied_type : (o : Option (Bor DType)) → option_map (λ d. type_of d.now) o ≡ option_map type_of (option_copied o)
copied_type None = refl
copied_type (Some d) = refl

pub type_is : (o : Option (Bor DType)) (columns : List DType) (k : ℕ) → option_copied o ≡ slice_get columns k → option_map (λ d. type_of d.now) o ≡ slice_get (map type_of columns) k
type_is o columns k e = copied_type o ∙ ap (option_map type_of) e ∙ sym (slice_get-map type_of columns k)

pub same_is : (b : Bool) (t u : TypeTree) → IsTrue b ↔ Same t u → b ≡ same_type t u
same_is b t u h = same_from_decides b (same_type t u) h (same_type-Decides t u)

pub all_are : (t : TypeTree) (xs : List Scalar) → list_all (λ x. same_type t x.typed) (map cell_of xs) ≡ list_all (λ x. same_type t (scalar_type x)) xs
all_are t [] = refl
all_are t (x ∷ xs) = ap (λ b. same_type t (scalar_type x) && b) (all_are t xs)

-- the counts of two parts
pub count_of_both : {X : Type 0} (ps qs : List (Test X)) → capped (length (ps ++ qs)) ≡ capped (capped (length ps) + capped (length qs))
count_of_both ps qs = ap capped (length-append ps qs) ∙ sym (capped_sum (length ps) (length qs))

pub ruleset counts = (count_of_both, formula-Constant, formula-Compare, formula-IsNull, formula-In, formula-Between, formula-StartsWith, formula-Like, formula-And, formula-Or, formula-Not)
