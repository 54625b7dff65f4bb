use Rattle.std.proofs.Common.{◌≡◌, None, ap, sym, ◌∙◌, rules}
use Rattle.vortex_dtype.specs.TypeOf.{type_of}
use Rattle.vortex_dtype.specs.TypeTree.{fixed_size_list_type}
use Rattle.vortex_dtype.specs.declared.types.DType.{FixedSizeList}
use Rattle.vortex_value.specs.Makers.{list_cause, child_trees}
use Rattle.vortex_value.specs.Values.RawTree.{raw_tuple}
use Rattle.vortex_value.proofs.ListMakers.{list_valid, count_raws}
use Rattle.vortex_value.proofs.MakerLaws.{scalar_valid}
use Rattle.vortex_dtype.specs.Lemmas.TypeLevels.{type_of-FixedSizeList}
use Rattle.vortex_value.proofs.scalars.Scalar.fixed_size_list.Goals as goal

pub returns-clause-valid : goal.returns-clause-valid
returns-clause-valid c =
    let e = type_of c.args.element_dtype in
    let n = c.args.nullability in
    let xs = c.args.children.items in
    let parts = c.in_ok-element in
    let accepted : list_cause (type_of c.args.element_dtype) c.args.children.items ≡ None = search rules in
    scalar_valid (FixedSizeList parts.element parts.size n) parts.value (fixed_size_list_type e parts.size n) (raw_tuple (child_trees xs))
    (type_of-FixedSizeList parts.element parts.size n ∙ ap (λ t. fixed_size_list_type t parts.size n) parts.ensures.made.0) parts.ensures.made.2
    (count_raws xs ∙ sym parts.ensures.made.1, list_valid e xs accepted c.requires)
