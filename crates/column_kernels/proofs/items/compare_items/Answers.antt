use mir.Syntax.{w128}
use Rattle.std.proofs.Common.{◌≡◌, ◌∙◌, ◌+◌, IfSome, ap, arith, of_z, subst, to_z}
use Rattle.std.proofs.lemmas.Int.{ints}
use Rattle.std.specs.Ordering.{int_cmp}
use Rattle.column_kernels.specs.Truths.{compared, number_cell}
use Rattle.column_kernels.proofs.items.compare_items.Goals as goal

pub returns-in-Some-clause-truth : goal.returns-in-Some-clause-truth
returns-in-Some-clause-truth g c = λ row below.
    let same = subst (λ o. IfSome o (λ x. g.T.Item.number x ≡ c.args.literal)) c.in-Some.is c.requires.literal in
    c.compare_with.ensures.truth row below ∙ ap (λ z. compared c.args.operator (λ x. int_cmp x z) (number_cell g.row.N g.T.Item.kind c.args.column (c.args.from + row))) same

pub returns-in-None-clause-truth : goal.returns-in-None-clause-truth
returns-in-None-clause-truth g c = λ row below.
    let same : to_z w128 (of_z w128 c.args.literal) ≡ c.args.literal = omega (arith, ints) in
    c.compare_outside.ensures.truth row below ∙ ap (λ z. compared c.args.operator (λ x. int_cmp x z) (number_cell g.row.N g.T.Item.kind c.args.column (c.args.from + row))) same
