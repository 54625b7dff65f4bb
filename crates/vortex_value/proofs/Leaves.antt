-- What the trees of types without parts are.
use Rattle.std.proofs.Common.{◌≡◌, rules}
use Rattle.vortex_dtype.specs.TypeOf.{type_of}
use Rattle.vortex_dtype.specs.TypeTree.{bool_type, integer_type}
use Rattle.vortex_dtype.specs.declared.nullability.Nullability.{Nullability}
use Rattle.vortex_dtype.specs.declared.ptype.PType.{PType}
use Rattle.vortex_dtype.specs.declared.types.DType.{Bool, Primitive, the_lemmas}

pub type_of-Bool : (n : Nullability) → type_of (Bool n) ≡ bool_type n
type_of-Bool n = search (rules, the_lemmas)

pub type_of-Primitive : (k : PType) (n : Nullability) → type_of (Primitive k n) ≡ integer_type k n
type_of-Primitive k n = search (rules, the_lemmas)
