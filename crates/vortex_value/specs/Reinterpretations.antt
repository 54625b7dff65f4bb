-- Integers as another integer type of the same width.
use Rattle.std.specs.Prelude.{◌≡◌, Option, Some, None}
use Rattle.vortex_dtype.specs.PTypes.{byte_width_of}
use Rattle.vortex_dtype.specs.TypeTree.{TypeTree, integer_type}
use Rattle.vortex_dtype.specs.declared.ptype.PType.{PType}
use Rattle.vortex_pvalue.specs.Numbers.{wrapped}
use Rattle.vortex_value.specs.Validity.{Valid}
use Rattle.vortex_value.specs.Values.RawTree.{RawTree, raw_integer}

-- the `PType` of an integer type; no other type has one, nor an extension over an integer type
abbrev pub ptype_in : TypeTree → Option PType
ptype_in (integer_type k n) = Some k
ptype_in _ = None

-- the type is one of integers of the width of k
abbrev pub IsAsWide : PType → TypeTree → Type 0
IsAsWide k (integer_type l n) = byte_width_of l ≡ byte_width_of k
IsAsWide k _ = ⊥

-- the integer type of the `PType` k, with the nullability of the type
abbrev pub in_ptype : PType → TypeTree → TypeTree
in_ptype k (integer_type l n) = integer_type k n
in_ptype k t = t

-- the integer of the `PType` k with the same bits
abbrev pub reinterpreted : PType → RawTree → RawTree
reinterpreted k (raw_integer l z) = raw_integer k (wrapped k z)
reinterpreted k v = v

-- A valid value of an integer type, reinterpreted as another one of its width and back, is itself, and so is the type.
abbrev pub ScalarsReinterpretBack : Type 0
ScalarsReinterpretBack = (k l : PType) (t : TypeTree) (v : RawTree) → ptype_in t ≡ Some k → IsAsWide l t → Valid t v
    → (in_ptype k (in_ptype l t) ≡ t) × (reinterpreted k (reinterpreted l v) ≡ v)
