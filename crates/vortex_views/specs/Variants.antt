-- What the value of a variant holds, and what contracts say of views of variants.
use Rattle.std.specs.Prelude.{Bool, Option, Some, None}
use Rattle.vortex_dtype.specs.TypeTree.{TypeTree}
use Rattle.vortex_value.specs.Values.RawTree.{RawTree, raw_variant, is_absent}
use Rattle.vortex_value.specs.Values.Refs.{ref_raw, ref_type}
use Rattle.vortex_value.specs.declared.refs.ScalarRef.{ScalarRef}
use Rattle.vortex_views.specs.Parts.{Part}
use Rattle.vortex_views.specs.declared.variant.VariantScalar.{VariantScalar}

-- the borrowed scalar that is viewed as a variant
abbrev pub variant_ref : VariantScalar → ScalarRef
variant_ref x = x.scalar

-- its type and its raw value
abbrev pub variant_view_type : VariantScalar → TypeTree
variant_view_type x = ref_type (variant_ref x)

abbrev pub variant_view_raw : VariantScalar → RawTree
variant_view_raw x = ref_raw (variant_ref x)

-- the scalar that a variant holds, with the type that it brings along; a null holds none
abbrev pub inner_of : RawTree → Option Part
inner_of (raw_variant t v) = Some (t, v)
inner_of _ = None

-- whether that scalar is null, as in the variant-null; None for a null
abbrev pub is_inner_null : RawTree → Option Bool
is_inner_null (raw_variant t v) = Some (is_absent v)
is_inner_null _ = None
