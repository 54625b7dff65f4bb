-- What contracts say of views of structs.
use Rattle.vortex_dtype.specs.TypeTree.{TypeTree}
use Rattle.vortex_value.specs.Values.RawTree.{RawTree}
use Rattle.vortex_value.specs.Values.Refs.{ref_raw, ref_type}
use Rattle.vortex_value.specs.declared.refs.ScalarRef.{ScalarRef}
use Rattle.vortex_views.specs.Parts.{Part, ref_part}
use Rattle.vortex_views.specs.declared.struct_.StructScalar.{StructScalar}

-- the borrowed scalar that is viewed as a struct
abbrev pub struct_ref : StructScalar → ScalarRef
struct_ref x = x.scalar

-- its type and its raw value
abbrev pub struct_view_type : StructScalar → TypeTree
struct_view_type x = ref_type (struct_ref x)

abbrev pub struct_view_raw : StructScalar → RawTree
struct_view_raw x = ref_raw (struct_ref x)

-- both, as one
abbrev pub viewed_struct : StructScalar → Part
viewed_struct x = ref_part (struct_ref x)
