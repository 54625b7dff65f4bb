-- What is read back of an encoding, or why it is not.
use Rattle.std.proofs.Common.{◌≡◌, ◌⊎◌, inl, inr, IfErr, IfOk, None, Ok, Err, Option, Result, Some, subst, sym}
use Rattle.statistics_bytes.specs.Encoding.{AreOf, IsBoundOf}
use Rattle.statistics_bytes.specs.EncodingSteps.{HasNoVariantIn, HasNoVariants}
use Rattle.vortex_dtype.specs.TypeTree.{TypeTree}
use Rattle.vortex_value.specs.Equality.{HasNoTyped}
use Rattle.vortex_value.specs.TypesWithin.{HasNoVariant}
use Rattle.vortex_value.proofs.OrderAgrees.{no_typed}
use Rattle.statistics_bytes.specs.EncodingAnswers.{ReadsAs}
use Rattle.vortex_statistics.specs.Statistics.{Known, KnownBound, known}
use Rattle.vortex_statistics.specs.declared.column_statistics.ColumnStatistics.{ColumnStatistics}
use Rattle.vortex_statistics.specs.declared.error.StatisticsError.{StatisticsError}
use Rattle.vortex_statistics.specs.declared.error.StatisticsError.TheVariants.{HasVariant, OutOfMemory}

pub read_same : (s : Known) (r : Result ColumnStatistics StatisticsError) → ReadsAs s r → IfOk r (λ back. known back ≡ s)
read_same s (Ok x) h = h
read_same s (Err e) h = tt

pub only_memory : (s : Known) (r : Result ColumnStatistics StatisticsError) → ReadsAs s r → IfErr r (λ e. e ≡ OutOfMemory)
only_memory s (Ok x) h = tt
only_memory s (Err e) h = h

bound_keyed : (t : TypeTree) (b : Option KnownBound) → IsBoundOf t b → HasNoVariantIn b
bound_keyed t None h = tt
bound_keyed t (Some b) h = record {
  ordered = subst HasNoVariant (sym h.typed) h.ordered;
  untyped = subst HasNoTyped (sym h.is) (no_typed t h.value h.ordered h.is_value.valid);
}

keyed : (t : TypeTree) (s : Known) → AreOf t s → HasNoVariants s
keyed t s h = record { lower = bound_keyed t s.lower h.lower; upper = bound_keyed t s.upper h.upper }

-- statistics of a type are refused for want of memory alone, when they are written
pub memory_left : (t : TypeTree) (s : Known) (e : StatisticsError) → AreOf t s → (e ≡ HasVariant) ⊎ (e ≡ OutOfMemory) → (e ≡ HasVariant → ¬ (HasNoVariants s)) → e ≡ OutOfMemory
memory_left t s e of (inl is) variant = absurd (variant is (keyed t s of))
memory_left t s e of (inr is) variant = is
