-- Scalars of one logical type compare as their storages.
use Rattle.std.proofs.Common.{◌≡◌, ◌∙◌, ℤ, Bool, true, Some, None, ap, refl, FitsSigned, if◌then◌else◌}
use mir.Syntax.{w128}
use Rattle.std.specs.Cmp.Lexicographic.{slice_cmp}
use Rattle.std.specs.Ordering.{int_cmp, nat_cmp}
use Rattle.vortex_dtype.specs.Laws.{EqualityDecides}
use Rattle.vortex_dtype.specs.TypeTree.{Same, erase}
use Rattle.vortex_value.specs.Equality.{same_type}
use Rattle.vortex_value.specs.Order.{order}
use Rattle.vortex_value.specs.Values.Content.{Content, content}
use Rattle.vortex_value.specs.Values.Scalars.{scalar_content, scalar_order, scalar_type}
use Rattle.vortex_value.specs.declared.scalars.Scalar.{Scalar}
use Rattle.logical_scalars.specs.Stored.{Holds, raw_storage}
use Rattle.logical_types.specs.Extensions.{FitsStorage, storage_type_of}
use Rattle.logical_types.specs.Storing.{decimal_bytes}
use Rattle.logical_types.specs.Words.{IsStorageOf}
use Rattle.logical_types.specs.declared.extensions.StorageType.{StorageType}
use Rattle.logical_types.specs.declared.extensions.StorageType.TheVariants.{I32, I64, Bytes}
use Rattle.logical_types.specs.declared.logical.LogicalType.{LogicalType}

abbrev BytesSort : Type 0
BytesSort = (x y : ℤ) → FitsSigned w128 x → FitsSigned w128 y → slice_cmp nat_cmp (decimal_bytes x) (decimal_bytes y) ≡ int_cmp x y

by_storage : (kind : StorageType) (a b : ℤ) → BytesSort → FitsStorage kind a → FitsStorage kind b
    → order (content (raw_storage kind a)) (content (raw_storage kind b)) ≡ Some (int_cmp a b)
by_storage I32 a b sort fa fb = refl
by_storage I64 a b sort fa fb = refl
by_storage Bytes a b sort fa fb = ap Some (sort a b fa fb)

pub sorted : (logical : LogicalType) → ((z : ℤ) → IsStorageOf logical z → FitsStorage (storage_type_of logical) z) → BytesSort → EqualityDecides
    → (x y : Scalar) (a b : ℤ) → Holds logical a x → Holds logical b y → Same (scalar_type x) (scalar_type y) → scalar_order x y ≡ Some (int_cmp a b)
sorted logical fit sort decides x y a b hx hy same =
    let t : same_type (scalar_type x) (scalar_type y) ≡ true = (decides (erase (scalar_type x)) (erase (scalar_type y))).1 same in
    ap (λ (q : Bool). if q then order (scalar_content x) (scalar_content y) else None) t
    ∙ ap (λ (v : Content). order v (scalar_content y)) (ap content hx.value)
    ∙ ap (λ (v : Content). order (content (raw_storage (storage_type_of logical) a)) v) (ap content hy.value)
    ∙ by_storage (storage_type_of logical) a b sort (fit a hx.is) (fit b hy.is)
