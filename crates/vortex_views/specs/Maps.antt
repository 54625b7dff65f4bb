-- What contracts say of views of maps.
use Rattle.vortex_dtype.specs.TypeTree.{TypeTree}
use Rattle.vortex_value.specs.Values.RawTree.{RawTree}
use Rattle.vortex_value.specs.Values.Refs.{ref_raw, ref_type}
use Rattle.vortex_value.specs.declared.refs.ScalarRef.{ScalarRef}
use Rattle.vortex_views.specs.Parts.{Part, ref_part}
use Rattle.vortex_views.specs.declared.map.MapScalar.{MapScalar}

-- the borrowed scalar that is viewed as a map
abbrev pub map_ref : MapScalar → ScalarRef
map_ref x = x.scalar

-- its type and its raw value
abbrev pub map_view_type : MapScalar → TypeTree
map_view_type x = ref_type (map_ref x)

abbrev pub map_view_raw : MapScalar → RawTree
map_view_raw x = ref_raw (map_ref x)

-- both, as one
abbrev pub viewed_map : MapScalar → Part
viewed_map x = ref_part (map_ref x)
