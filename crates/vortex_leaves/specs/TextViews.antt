-- What contracts say of views of strings and of bytes. They differ only in the kind of scalar that they hold.
use Rattle.vortex_dtype.specs.TypeTree.{TypeTree}
use Rattle.vortex_value.specs.Values.Content.{Content}
use Rattle.vortex_value.specs.Values.RawTree.{RawTree}
use Rattle.vortex_value.specs.Values.Refs.{ref_content, ref_raw, ref_type}
use Rattle.vortex_value.specs.declared.refs.ScalarRef.{ScalarRef}
use Rattle.vortex_leaves.specs.declared.binary.BinaryScalar.{BinaryScalar}
use Rattle.vortex_leaves.specs.declared.utf8.Utf8Scalar.{Utf8Scalar}

-- the borrowed scalar that is viewed as a string
abbrev pub text_ref : Utf8Scalar → ScalarRef
text_ref x = x.scalar

-- its type, its raw value and its content
abbrev pub text_view_type : Utf8Scalar → TypeTree
text_view_type x = ref_type (text_ref x)

abbrev pub text_view_raw : Utf8Scalar → RawTree
text_view_raw x = ref_raw (text_ref x)

abbrev pub text_view_content : Utf8Scalar → Content
text_view_content x = ref_content (text_ref x)

-- the borrowed scalar that is viewed as bytes
abbrev pub bytes_ref : BinaryScalar → ScalarRef
bytes_ref x = x.scalar

-- its type, its raw value and its content
abbrev pub bytes_view_type : BinaryScalar → TypeTree
bytes_view_type x = ref_type (bytes_ref x)

abbrev pub bytes_view_raw : BinaryScalar → RawTree
bytes_view_raw x = ref_raw (bytes_ref x)

abbrev pub bytes_view_content : BinaryScalar → Content
bytes_view_content x = ref_content (bytes_ref x)
