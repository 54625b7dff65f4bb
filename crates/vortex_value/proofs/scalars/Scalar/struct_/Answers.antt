use Rattle.vortex_dtype.specs.Parts.{fields_in}
use Rattle.vortex_dtype.specs.TypeOf.{type_of}
use Rattle.vortex_value.specs.Makers.{child_trees, struct_cause}
use Rattle.vortex_value.specs.Values.Scalars.{IsValid}
use Rattle.vortex_value.proofs.ItemMakers.{made_of_items, valid_of_items}
use Rattle.vortex_value.proofs.StructMakers.{struct_valid}
use Rattle.vortex_value.proofs.scalars.Scalar.struct_.Goals as goal

pub returns-clause-made : goal.returns-clause-made
returns-clause-made g c =
    let it = c.into_iter in
    made_of_items g.I.IntoIterator.into_iter_gives g.I.IntoIter.Iterator.next_gives c.args.children it.result it.ensures.into_iter_gives
    c.args.dtype (struct_cause (fields_in (type_of c.args.dtype))) child_trees c.struct_value-value.result c.with_value.result c.with_value.ensures c.struct_value-value.ensures.made

pub returns-clause-valid : goal.returns-clause-valid
returns-clause-valid g c =
    let it = c.into_iter in
    valid_of_items g.I.IntoIterator.into_iter_gives g.I.IntoIter.Iterator.next_gives c.args.children it.result it.ensures.into_iter_gives
    c.args.dtype (struct_cause (fields_in (type_of c.args.dtype))) child_trees IsValid c.struct_value-value.result c.with_value.result c.with_value.ensures c.struct_value-value.ensures.made
    (c.requires it.result it.ensures.into_iter_gives).2 (struct_valid (type_of c.args.dtype))
