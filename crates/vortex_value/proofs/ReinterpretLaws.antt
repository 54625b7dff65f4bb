-- Reinterpreting twice.
use Rattle.std.proofs.Common.{◌≡◌, refl}
use Rattle.vortex_dtype.specs.PTypes.{byte_width_of}
use Rattle.vortex_dtype.specs.TypeTree.{integer_type}
use Rattle.vortex_dtype.specs.declared.nullability.Nullability.{Nullability}
use Rattle.vortex_dtype.specs.declared.ptype.PType.{PType}
use Rattle.vortex_pvalue.specs.PTypeLaws.{ReinterpretsBack}
use Rattle.vortex_value.specs.Reinterpretations.{ScalarsReinterpretBack, reinterpreted}
use Rattle.vortex_value.specs.Validity.{Valid}
use Rattle.vortex_value.specs.Values.RawTree.{RawTree, absent, raw_integer}

-- of a type of kind k
back_in : ReinterpretsBack → (k l : PType) (n : Nullability) (v : RawTree) → byte_width_of k ≡ byte_width_of l → Valid (integer_type k n) v
    → reinterpreted k (reinterpreted l v) ≡ v
back_in law k l n absent wide h = refl
back_in law k l n (raw_integer j z) wide h = let number = law k l z wide h.1 in let kind = h.0 in cc
back_in law k l n _ wide h = absurd h

-- of a type whose kind is said to be k
pub reinterpret_back : ReinterpretsBack → ScalarsReinterpretBack
reinterpret_back law k l (integer_type j n) v kind wide h =
    let same : j ≡ k = cc in
    (rw same refl, rw (← same) (back_in law j l n v wide h))
reinterpret_back law k l _ v kind wide h = absurd wide
