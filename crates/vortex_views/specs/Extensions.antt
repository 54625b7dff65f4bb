-- What contracts say of views of extensions.
use Rattle.vortex_dtype.specs.TypeTree.{TypeTree}
use Rattle.vortex_value.specs.Values.RawTree.{RawTree}
use Rattle.vortex_value.specs.Values.Refs.{ref_raw, ref_type}
use Rattle.vortex_value.specs.declared.refs.ScalarRef.{ScalarRef}
use Rattle.vortex_views.specs.declared.extension.ExtScalar.{ExtScalar}

-- the borrowed scalar that is viewed as an extension's
abbrev pub ext_ref : ExtScalar → ScalarRef
ext_ref x = x.scalar

-- its type and its raw value
abbrev pub ext_view_type : ExtScalar → TypeTree
ext_view_type x = ref_type (ext_ref x)

abbrev pub ext_view_raw : ExtScalar → RawTree
ext_view_raw x = ref_raw (ext_ref x)
