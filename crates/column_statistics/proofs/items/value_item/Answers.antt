-- The item has the number that the value stores.
use Rattle.std.proofs.Common.{FitsSigned, rules, subst, sym}
use Rattle.std.proofs.lemmas.Int.{to_z-of_z}
use Rattle.std.specs.Int.{w128}
use Rattle.arrow_columns.specs.Formats.{IsValueOf}
use Rattle.column_statistics.proofs.ItemLaws.{fits_stored, stored_item}
use Rattle.column_statistics.proofs.items.value_item.Goals as goal

pub unreachable-requires : goal.unreachable-requires
unreachable-requires c = c.in_default.ensures c.requires.0 c.requires.1

pub item_of_number-requires-clause-value : goal.item_of_number-requires-clause-value
item_of_number-requires-clause-value c =
    let f : FitsSigned w128 c.in-Some.number = search rules in
    subst (IsValueOf c.args.format) (sym (to_z-of_z w128 c.in-Some.number f)) c.in-Some.ensures.value

pub item_of_number-requires-clause-fits : goal.item_of_number-requires-clause-fits
item_of_number-requires-clause-fits c =
    let f : FitsSigned w128 c.in-Some.number = search rules in
    fits_stored c.args.format _ c.in-Some.number _ c.in-Some.ensures (to_z-of_z w128 c.in-Some.number f)

pub returns-in-Four : goal.returns-in-Four
returns-in-Four c =
    let f : FitsSigned w128 c.in-Some.number = search rules in
    stored_item c.args.format _ c.in-Some.number _ _ c.in-Some.ensures (to_z-of_z w128 c.in-Some.number f) c.in-Four.ensures.width c.in-Four.ensures.number c.in-Four.ensures.item

pub returns-in-Eight : goal.returns-in-Eight
returns-in-Eight c =
    let f : FitsSigned w128 c.in-Some.number = search rules in
    stored_item c.args.format _ c.in-Some.number _ _ c.in-Some.ensures (to_z-of_z w128 c.in-Some.number f) c.in-Eight.ensures.width c.in-Eight.ensures.number c.in-Eight.ensures.item

pub returns-in-Sixteen : goal.returns-in-Sixteen
returns-in-Sixteen c =
    let f : FitsSigned w128 c.in-Some.number = search rules in
    stored_item c.args.format _ c.in-Some.number _ _ c.in-Some.ensures (to_z-of_z w128 c.in-Some.number f) c.in-Sixteen.ensures.width c.in-Sixteen.ensures.number c.in-Sixteen.ensures.item
