-- What contracts say of views of integers: a type and an optional raw value.
use Rattle.std.specs.Prelude.{◌≡◌, ℤ, Option, Some}
use Rattle.vortex_dtype.specs.TypeOf.{type_of}
use Rattle.vortex_dtype.specs.TypeTree.{TypeTree, Same}
use Rattle.vortex_dtype.specs.declared.ptype.PType.{PType}
use Rattle.vortex_pvalue.specs.declared.operators.NumericOperator.{NumericOperator}
use Rattle.vortex_value.specs.Validity.{Valid}
use Rattle.vortex_value.specs.Values.Content.{Content, content}
use Rattle.vortex_value.specs.Values.RawTree.{RawTree}
use Rattle.vortex_leaves.specs.Arithmetic.{arithmetic, numeric_type}
use Rattle.vortex_leaves.specs.Leaves.{Lends}
use Rattle.vortex_leaves.specs.Numbers.{number_in, raw_number}
use Rattle.vortex_leaves.specs.declared.primitive.PrimitiveScalar.{PrimitiveScalar}

-- the type of a view
abbrev pub number_view_type : PrimitiveScalar → TypeTree
number_view_type x = type_of x.dtype.now

-- the PType of a view's type
abbrev pub number_view_ptype : PrimitiveScalar → PType
number_view_ptype x = x.ptype

-- the raw value of a view
abbrev pub number_view_raw : PrimitiveScalar → RawTree
number_view_raw x = raw_number x.pvalue

-- the number of a view
abbrev pub view_number : PrimitiveScalar → Option ℤ
view_number x = number_in (number_view_raw x)

-- the content of a view
abbrev pub number_view_content : PrimitiveScalar → Content
number_view_content x = content (number_view_raw x)

-- the value is valid for the type
abbrev pub IsValidNumberView : PrimitiveScalar → Type 0
IsValidNumberView x = Valid (number_view_type x) (number_view_raw x)

-- the view has this type and this raw value
abbrev pub IsNumberViewOf : TypeTree → RawTree → PrimitiveScalar → Type 0
IsNumberViewOf = Lends number_view_type number_view_raw

-- what the operation gives for the numbers of two views
abbrev pub view_arithmetic : NumericOperator → PrimitiveScalar → PrimitiveScalar → Option (Option ℤ)
view_arithmetic op x y = arithmetic op (number_view_ptype x) (view_number x) (view_number y)

-- the types are the same up to nullability
abbrev pub AreOfOneType : PrimitiveScalar → PrimitiveScalar → Type 0
AreOfOneType x y = Same (number_view_type x) (number_view_type y)

-- z is the null or the number that the operation gives, and has the type of the result
pub record IsOutcome (op : NumericOperator) (x y z : PrimitiveScalar) : Type 0 where
  pub typed : number_view_type z ≡ numeric_type (number_view_type x) (number_view_type y)
  pub number : view_arithmetic op x y ≡ Some (view_number z)
  pub valid : IsValidNumberView x → IsValidNumberView y → IsValidNumberView z
