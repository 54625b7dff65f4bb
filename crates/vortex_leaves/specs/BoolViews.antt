-- What contracts say of views of booleans: a type and an optional raw value.
use Rattle.std.specs.Option.{option_cmp}
use Rattle.std.specs.Ordering.{bool_cmp, on}
use Rattle.std.specs.declared.cmp.Ordering.{Ordering}
use Rattle.vortex_dtype.specs.TypeOf.{type_of}
use Rattle.vortex_dtype.specs.TypeTree.{TypeTree}
use Rattle.vortex_value.specs.Validity.{Valid}
use Rattle.vortex_value.specs.Values.Content.{Content, content}
use Rattle.vortex_value.specs.Values.RawTree.{RawTree}
use Rattle.vortex_leaves.specs.Leaves.{Lends, raw_truth}
use Rattle.vortex_leaves.specs.declared.bool.BoolScalar.{BoolScalar}

-- the type of a view
abbrev pub bool_view_type : BoolScalar → TypeTree
bool_view_type x = type_of x.dtype.now

-- the raw value of a view
abbrev pub bool_view_raw : BoolScalar → RawTree
bool_view_raw x = raw_truth x.value

-- the content of a view
abbrev pub bool_view_content : BoolScalar → Content
bool_view_content x = content (bool_view_raw x)

-- the value is valid for the type
abbrev pub IsValidBoolView : BoolScalar → Type 0
IsValidBoolView x = Valid (bool_view_type x) (bool_view_raw x)

-- the view has this type and this raw value
abbrev pub IsBoolViewOf : TypeTree → RawTree → BoolScalar → Type 0
IsBoolViewOf = Lends bool_view_type bool_view_raw

-- a null is below all others, and false is below true
abbrev pub bool_view_cmp : BoolScalar → BoolScalar → Ordering
bool_view_cmp = on (λ x. x.value) (option_cmp bool_cmp)
