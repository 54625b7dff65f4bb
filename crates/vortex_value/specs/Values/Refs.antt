-- What contracts say of borrowed scalars: a type and an optional raw value.
use Rattle.std.specs.Prelude.{◌≡◌, Option}
use Rattle.std.specs.declared.cmp.Ordering.{Ordering}
use Rattle.vortex_dtype.specs.TypeOf.{type_of}
use Rattle.vortex_dtype.specs.TypeTree.{TypeTree}
use Rattle.vortex_value.specs.Values.Content.{Content, content}
use Rattle.vortex_value.specs.Order.{typed_order}
use Rattle.vortex_value.specs.Values.RawOf.{lent_raw}
use Rattle.vortex_value.specs.Values.RawTree.{RawTree}
use Rattle.vortex_value.specs.Validity.{Valid}
use Rattle.vortex_value.specs.declared.refs.ScalarRef.{ScalarRef}

-- the type of a borrowed scalar
abbrev pub ref_type : ScalarRef → TypeTree
ref_type x = type_of x.dtype.now

-- the raw value of a borrowed scalar
abbrev pub ref_raw : ScalarRef → RawTree
ref_raw x = lent_raw x.value

-- the content of a borrowed scalar
abbrev pub ref_content : ScalarRef → Content
ref_content x = content (ref_raw x)

-- the value is valid for the type
abbrev pub IsValidRef : ScalarRef → Type 0
IsValidRef x = Valid (ref_type x) (ref_raw x)

-- the order of two borrowed scalars: of their contents, if their types are the same up to nullability
abbrev pub ref_order : ScalarRef → ScalarRef → Option Ordering
ref_order x y = typed_order (ref_type x) (ref_content x) (ref_type y) (ref_content y)

-- x lends this type and this raw value
pub record IsRefOf (t : TypeTree) (v : RawTree) (x : ScalarRef) : Type 0 where
  pub typed : ref_type x ≡ t
  pub value : ref_raw x ≡ v
