use Rattle.std.proofs.Common.{◌≡◌, arith, ap, length}
use Rattle.logical_types.specs.Extensions.{IsExtension}
use Rattle.logical_types.specs.declared.logical.LogicalType.{LogicalType}
use Rattle.logical_types.proofs.NamesBack.{by_list}
use Rattle.logical_types.proofs.extensions.logical_type_of_extension.Goals as goal

pub returns-in_default-clause-none : goal.returns-in_default-clause-none
returns-in_default-clause-none c =
    by_list (λ (l : LogicalType). IsExtension c.args.id.now c.args.metadata.now c.args.storage l → ⊥) (λ k h. c.loop-logical.invariant k (omega arith))
    (λ d e. let two : length c.args.metadata.now ≡ 2 = ap length e.described in omega (arith, two, c.in_default.len_below))

pub returns-in_default-2-clause-none : goal.returns-in_default-2-clause-none
returns-in_default-2-clause-none c =
    by_list (λ (l : LogicalType). IsExtension c.args.id.now c.args.metadata.now c.args.storage l → ⊥) (λ k h. c.loop-logical.invariant k (omega arith))
    (λ d e. let two : length c.args.metadata.now ≡ 2 = ap length e.described in omega (arith, two, c.in_default.len_at_least))
