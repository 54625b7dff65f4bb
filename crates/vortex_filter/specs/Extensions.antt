-- Whether an extension stands in a type, and which casts take what stores a value for the value.
use Rattle.std.specs.Prelude.{◌&&◌, ◌||◌, Bool, true, false, not}
use Rattle.vortex_dtype.specs.TypeTree.{TypeTree, list_type, fixed_size_list_type, map_type, struct_type, union_type, extension_type, TypeTrees, no_types, type_then}
use Rattle.vortex_value.specs.Values.Content.{Content}
use Rattle.vortex_cells.specs.Cells.{is_null_content}

-- whether an extension stands in the type, at any depth
abbrev mutual
  pub has_extension : TypeTree → Bool
  has_extension (list_type e n) = has_extension e
  has_extension (fixed_size_list_type e size n) = has_extension e
  has_extension (map_type k w sorted n) = has_extension k || has_extension w
  has_extension (struct_type names ts n) = have_extension ts
  has_extension (union_type names ts ids n) = have_extension ts
  has_extension (extension_type id metadata t) = true
  has_extension _ = false

  -- or in one of the types
  pub have_extension : TypeTrees → Bool
  have_extension no_types = false
  have_extension (type_then t ts) = has_extension t || have_extension ts

-- whether a cast of a content between types that differ takes a storage for a value, or a value for its storage
abbrev pub reinterprets : TypeTree → TypeTree → Content → Bool
reinterprets s t c = not (is_null_content c) && (has_extension s || has_extension t)
