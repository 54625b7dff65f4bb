use Rattle.std.proofs.Common.{◌≡◌, None, ap, ◌∙◌, rules}
use Rattle.vortex_dtype.specs.TypeOf.{type_of}
use Rattle.vortex_dtype.specs.TypeTree.{list_type}
use Rattle.vortex_dtype.specs.declared.types.DType.{List}
use Rattle.vortex_value.specs.Makers.{list_cause, child_trees}
use Rattle.vortex_value.specs.Values.RawTree.{raw_tuple}
use Rattle.vortex_value.proofs.ListMakers.{list_valid}
use Rattle.vortex_value.proofs.MakerLaws.{scalar_valid}
use Rattle.vortex_dtype.specs.Lemmas.TypeLevels.{type_of-List}
use Rattle.vortex_value.proofs.scalars.Scalar.list.Goals as goal

pub returns-clause-valid : goal.returns-clause-valid
returns-clause-valid c =
    let e = type_of c.args.element_dtype in
    let n = c.args.nullability in
    let xs = c.args.children.items in
    let parts = c.in_ok-element in
    let accepted : list_cause (type_of c.args.element_dtype) c.args.children.items ≡ None = search rules in
    scalar_valid (List parts.element n) parts.value (list_type e n) (raw_tuple (child_trees xs))
    (type_of-List parts.element n ∙ ap (λ t. list_type t n) parts.ensures.made.0) parts.ensures.made.2 (list_valid e xs accepted c.requires)
