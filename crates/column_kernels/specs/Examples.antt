-- Worked cases of the definitions, each a theorem.
use Rattle.std.specs.Prelude.{◌≡◌, ℕ, [], ◌∷◌, None, Some, false, map, pos, negsuc, refl, true}
use Rattle.std.specs.Ordering.{int_cmp}
use Rattle.vortex_filter.specs.declared.operator.CompareOperator.TheVariants.{Gte, NotEq}
use Rattle.vortex_filter.specs.declared.truth.Truth.TheVariants.{False, Unknown}
use Rattle.column_kernels.specs.Needles.{is_alike}
use Rattle.column_kernels.specs.Rows.{option_of}
use Rattle.column_kernels.specs.Truths.{compared, tested}

-- -1 and 7 beside 7, and a null
comparisons : map (compared Gte (λ z. int_cmp z (pos 7))) (Some (negsuc 0) ∷ Some (pos 7) ∷ None ∷ []) ≡ Some false ∷ Some true ∷ None ∷ []
comparisons = refl

unequal : compared NotEq (λ z. int_cmp z (pos 7)) (Some (pos 7)) ≡ Some false
unequal = refl

truths : option_of False ∷ option_of Unknown ∷ [] ≡ Some false ∷ None ∷ []
truths = refl

nulls : tested (λ (n : ℕ). true) None ∷ tested (λ (n : ℕ). true) (Some 3) ∷ [] ≡ None ∷ Some true ∷ []
nulls = refl

-- a number and a length that are a needle's, and a length that is not
alike : is_alike 5 1 5 (5 ∷ []) ∷ is_alike 5 2 5 (5 ∷ []) ∷ [] ≡ true ∷ false ∷ []
alike = refl
