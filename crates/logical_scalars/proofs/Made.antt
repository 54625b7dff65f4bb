-- What is made of a word.
use Rattle.std.proofs.Common.{◌≡◌, ℕ, ℤ, List, Option, Some, None, Result, Ok, Err, sym, subst}
use Rattle.std.specs.Option.{MatchOption}
use Rattle.std.specs.Result.{IfOk}
use Rattle.vortex_dtype.specs.declared.error.VortexError.{VortexError}
use Rattle.vortex_dtype.specs.declared.nullability.Nullability.{Nullability}
use Rattle.vortex_value.specs.Values.Scalars.{IsMadeOf}
use Rattle.vortex_value.specs.declared.scalars.Scalar.{Scalar}
use Rattle.logical_scalars.specs.Stored.{logical_tree, raw_storage}
use Rattle.logical_types.specs.Extensions.{storage_type_of}
use Rattle.logical_types.specs.Words.{IsStorageOf, Writes}
use Rattle.logical_types.specs.declared.logical.LogicalType.{LogicalType}

abbrev pub IsOf : LogicalType → Nullability → ℤ → Scalar → Type 0
IsOf logical n z x = IsMadeOf (logical_tree logical n) (raw_storage (storage_type_of logical) z) x

pub of_word : (logical : LogicalType) (n : Nullability) (word : List ℕ) (y z : ℤ) (r : Result (Option Scalar) VortexError)
    → y ≡ z → Writes logical word z → IsStorageOf logical z
    → IfOk r (λ made. MatchOption made (IsStorageOf logical y → ⊥) (IsOf logical n y))
    → IfOk r (λ made. MatchOption made ((x : ℤ) → Writes logical word x → ⊥) (λ s. (x : ℤ) × Writes logical word x × IsOf logical n x s))
of_word logical n word y z (Err e) same w is h = tt
of_word logical n word y z (Ok None) same w is h = absurd (h (subst (IsStorageOf logical) (sym same) is))
of_word logical n word y z (Ok (Some s)) same w is h = (z, w, subst (λ (x : ℤ). IsOf logical n x s) same h)
