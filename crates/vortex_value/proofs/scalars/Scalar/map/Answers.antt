use Rattle.vortex_dtype.specs.Parts.{map_in}
use Rattle.vortex_dtype.specs.TypeOf.{type_of}
use Rattle.vortex_value.specs.Makers.{IsValidEntry, map_cause, raw_entries}
use Rattle.vortex_value.proofs.ItemMakers.{made_of_items, valid_of_items}
use Rattle.vortex_value.proofs.MapMakers.{map_valid}
use Rattle.vortex_value.proofs.scalars.Scalar.map.Goals as goal

pub returns-clause-made : goal.returns-clause-made
returns-clause-made g c =
    let it = c.into_iter in
    made_of_items g.I.IntoIterator.into_iter_gives g.I.IntoIter.Iterator.next_gives c.args.entries it.result it.ensures.into_iter_gives
    c.args.dtype (map_cause (map_in (type_of c.args.dtype))) raw_entries c.map_value-value.result c.with_value.result c.with_value.ensures c.map_value-value.ensures.made

pub returns-clause-valid : goal.returns-clause-valid
returns-clause-valid g c =
    let it = c.into_iter in
    valid_of_items g.I.IntoIterator.into_iter_gives g.I.IntoIter.Iterator.next_gives c.args.entries it.result it.ensures.into_iter_gives
    c.args.dtype (map_cause (map_in (type_of c.args.dtype))) raw_entries IsValidEntry c.map_value-value.result c.with_value.result c.with_value.ensures c.map_value-value.ensures.made
    (c.requires it.result it.ensures.into_iter_gives).2 (map_valid (type_of c.args.dtype))
