-- Integer types and the numbers that are valid for them.
use Rattle.std.proofs.Common.{◌≡◌, ℤ, Option, Some, IfSome, subst}
use Rattle.std.proofs.Math.Logic.{∥∥₁_elim}
use Rattle.std.proofs.Props.{props}
use Rattle.vortex_dtype.specs.TypeTree.{TypeTree, integer_type, Same}
use Rattle.vortex_dtype.specs.declared.ptype.PType.{PType}
use Rattle.vortex_pvalue.specs.Numbers.{InRange}
use Rattle.vortex_pvalue.specs.Whole.{ptype_of}
use Rattle.vortex_pvalue.specs.declared.pvalues.PValue.{PValue}
use Rattle.vortex_value.specs.Validity.{Valid}
use Rattle.vortex_value.specs.Values.RawTree.{raw_integer}
use Rattle.vortex_value.specs.Reinterpretations.{ptype_in}

-- a number of the type's PType is valid
pub number_valid : (t : TypeTree) (k : PType) (z : ℤ) → ptype_in t ≡ Some k → InRange k z → Valid t (raw_integer k z)
number_valid (integer_type l n) k z e h = let same : k ≡ l = cc in (same, subst (λ j. InRange j z) same h)
number_valid _ k z e h = absurd (cc)

-- types that are the same up to nullability have one PType
pub one_ptype : (s t : TypeTree) (k l : PType) → Same s t → ptype_in s ≡ Some k → ptype_in t ≡ Some l → ptype_in t ≡ Some k
one_ptype (integer_type i m) (integer_type j n) k l same e f = cc
one_ptype (integer_type i m) _ k l same e f = cc
one_ptype _ _ k l same e f = cc

pub ruleset arithmetic = (number_valid, one_ptype)

-- the PType that a view keeps is its type's
pub ptype_kept : (t : TypeTree) (k : PType) → ∥ ptype_in t ≡ Some k ∥₁ → ptype_in t ≡ Some k
ptype_kept t k h = ∥∥₁_elim h (hlevel props) (λ e. e)

pub ptype_only : (t : TypeTree) (k l : PType) → ∥ ptype_in t ≡ Some k ∥₁ → ptype_in t ≡ Some l → k ≡ l
ptype_only t k l h e = let kept = ptype_kept t k h in cc

-- the number that a view keeps has that PType
pub number_kept : (o : Option PValue) (p : PValue) (k : PType) → ∥ IfSome o (λ n. ptype_of n ≡ k) ∥₁ → o ≡ Some p → ptype_of p ≡ k
number_kept o p k h e =
    let kept = subst (λ q. ∥ IfSome q (λ n. ptype_of n ≡ k) ∥₁) e h in
    ∥∥₁_elim kept (hlevel props) (λ same. same)
