-- What contracts say of views of lists.
use Rattle.vortex_dtype.specs.TypeTree.{TypeTree}
use Rattle.vortex_value.specs.Values.RawTree.{RawTree}
use Rattle.vortex_value.specs.Values.Refs.{ref_raw, ref_type}
use Rattle.vortex_value.specs.declared.refs.ScalarRef.{ScalarRef}
use Rattle.vortex_views.specs.Parts.{Part, ref_part}
use Rattle.vortex_views.specs.declared.list.ListScalar.{ListScalar}

-- the borrowed scalar that is viewed as a list
abbrev pub list_ref : ListScalar → ScalarRef
list_ref x = x.scalar

-- its type and its raw value
abbrev pub list_view_type : ListScalar → TypeTree
list_view_type x = ref_type (list_ref x)

abbrev pub list_view_raw : ListScalar → RawTree
list_view_raw x = ref_raw (list_ref x)

-- both, as one
abbrev pub viewed_list : ListScalar → Part
viewed_list x = ref_part (list_ref x)
