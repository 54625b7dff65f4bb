-- What contracts say of scalars: a type and an optional raw value.
use Rattle.std.specs.Prelude.{◌≡◌, Option}
use Rattle.std.specs.declared.cmp.Ordering.{Ordering}
use Rattle.vortex_dtype.specs.TypeOf.{type_of}
use Rattle.vortex_dtype.specs.TypeTree.{TypeTree}
use Rattle.vortex_value.specs.Values.Content.{Content, content}
use Rattle.vortex_value.specs.Order.{typed_order}
use Rattle.vortex_value.specs.Values.RawOf.{raw_of}
use Rattle.vortex_value.specs.Values.RawTree.{RawTree}
use Rattle.vortex_value.specs.Validity.{Valid}
use Rattle.vortex_value.specs.declared.scalars.Scalar.{Scalar}

-- the type of a scalar
abbrev pub scalar_type : Scalar → TypeTree
scalar_type x = type_of x.dtype

-- the raw value of a scalar
abbrev pub scalar_raw : Scalar → RawTree
scalar_raw x = raw_of x.value

-- the content of a scalar
abbrev pub scalar_content : Scalar → Content
scalar_content x = content (scalar_raw x)

-- the value is valid for the type
abbrev pub IsValid : Scalar → Type 0
IsValid x = Valid (scalar_type x) (scalar_raw x)

-- the order of two scalars: of their contents, if their types are the same up to nullability
abbrev pub scalar_order : Scalar → Scalar → Option Ordering
scalar_order x y = typed_order (scalar_type x) (scalar_content x) (scalar_type y) (scalar_content y)

-- y is the scalar of this type and raw value
pub record IsMadeOf (t : TypeTree) (v : RawTree) (y : Scalar) : Type 0 where
  pub typed : scalar_type y ≡ t
  pub value : scalar_raw y ≡ v

-- y is the one scalar of type t with content c: no other valid raw value of t has it
pub record IsTheOne (t : TypeTree) (c : Content) (y : Scalar) : Type 0 where
  pub typed : scalar_type y ≡ t
  pub valid : IsValid y
  pub same : scalar_content y ≡ c
  pub only : (v : RawTree) → Valid t v → content v ≡ c → v ≡ scalar_raw y
