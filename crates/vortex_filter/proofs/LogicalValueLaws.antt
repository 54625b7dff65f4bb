-- The value of a logical type that a cell is.
use Rattle.std.proofs.Common.{◌≡◌, ◌<◌, ◌^◌, ℕ, ℤ, Some, unsigned_abs, sym, ap, subst, ◌∙◌}
use Rattle.vortex_dtype.specs.TypeTree.{TypeTree}
use Rattle.vortex_cells.specs.Cells.{Cell}
use Rattle.logical_scalars.specs.Stored.{IsOfLogicalType}
use Rattle.logical_types.specs.Clock.{IsTimeOfDay}
use Rattle.logical_types.specs.Extensions.{storage_type_of}
use Rattle.logical_types.specs.Shapes.{Shape, shape_of, stored_as}
use Rattle.logical_types.specs.Times.{IsTimestamp}
use Rattle.logical_types.specs.Words.{IsStorageOf}
use Rattle.logical_types.specs.declared.extensions.StorageType.{StorageType}
use Rattle.logical_types.specs.declared.logical.LogicalType.{LogicalType}
use Rattle.logical_types.specs.declared.logical.LogicalType.TheVariants.{Float64, Float32, Decimal, Date, Time, Timestamp}
use Rattle.logical_types.specs.declared.times.TimeUnit.{TimeUnit}
use Rattle.vortex_filter.specs.Literals.{storage_content}
use Rattle.vortex_filter.specs.LogicalValues.{IsLogicalValue}
use Rattle.vortex_filter.proofs.LiteralTypes.{TypesSay, storage_is}

one_shape : (s q : Shape) → Some s ≡ Some q → s ≡ q
one_shape s q e = cc

same_shape : TypesSay → (t : TypeTree) (l m : LogicalType) → IsOfLogicalType t l → IsOfLogicalType t m → shape_of l ≡ shape_of m
same_shape say t l m a b = one_shape (shape_of l) (shape_of m) (sym ((say l t).1 a) ∙ (say m t).1 b)

same_values : (l m : LogicalType) (z : ℤ) → shape_of l ≡ shape_of m → IsStorageOf l z → IsStorageOf m z
same_values Float64 Float64 z e h = h
same_values Float32 Float32 z e h = h
same_values (Decimal d) (Decimal c) z e h = let same : d.precision ≡ c.precision = cc in subst (λ (n : ℕ). unsigned_abs z < 10 ^ n) same h
same_values Date Date z e h = h
same_values (Time u) (Time v) z e h = let same : u ≡ v = cc in subst (λ (w : TimeUnit). IsTimeOfDay w z) same h
same_values (Timestamp u a) (Timestamp v b) z e h = let same : u ≡ v = cc in subst (λ (w : TimeUnit). IsTimestamp w z) same h
same_values _ _ z e h = absurd cc

-- a value of one logical type is that of any which its type is
same_value : TypesSay → (l m : LogicalType) (z : ℤ) (x : Cell) → IsOfLogicalType x.typed m → IsLogicalValue l z x → IsLogicalValue m z x
same_value say l m z x of is =
    let shape : shape_of l ≡ shape_of m = same_shape say x.typed l m is.typed of in
    let kind : storage_type_of l ≡ storage_type_of m = storage_is l ∙ ap stored_as shape ∙ sym (storage_is m) in
    record { typed = of; value = same_values l m z shape is.value; stored = subst (λ (k : StorageType). x.content ≡ storage_content k z) kind is.stored }

-- where no value of its type is stored, it is none of another
pub no_value : TypesSay → (m : LogicalType) (x : Cell) → IsOfLogicalType x.typed m → ((z : ℤ) → IsLogicalValue m z x → ⊥) → (l : LogicalType) (z : ℤ) → IsLogicalValue l z x → ⊥
no_value say m x of none l z is = none z (same_value say l m z x of is)

pub ruleset values = (no_value)
