use Rattle.std.proofs.Common.{◌≡◌, arith}
use Rattle.logical_types.specs.Names.{name_of}
use Rattle.logical_types.specs.declared.logical.LogicalType.{LogicalType}
use Rattle.logical_types.proofs.NamesBack.{by_list}
use Rattle.logical_types.proofs.names.logical_type_named.Goals as goal

pub returns-in-None-clause-none : goal.returns-in-None-clause-none
returns-in-None-clause-none c =
    by_list (λ (l : LogicalType). c.args.word.now ≡ name_of l → ⊥) (λ k h. c.loop-logical.invariant k (omega arith)) c.in-None.ensures.none
