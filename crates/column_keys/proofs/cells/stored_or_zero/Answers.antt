-- The number of a value, or 0 of a null.
use Rattle.std.proofs.Common.{◌∙◌, FitsSigned, rules, subst, sym}
use Rattle.std.proofs.lemmas.Int.{to_z-of_z}
use Rattle.std.specs.Int.{w128}
use Rattle.arrow_columns.specs.Formats.{IsValueOf, items_of}
use Rattle.column_items.proofs.ItemFits.{fits_item, zero_fits, zero_value}
use Rattle.column_items.proofs.NumberSteps.{held, no_null, stored_held}
use Rattle.column_items.specs.Items.{FitsItem}
use Rattle.column_items.specs.Numbers.{StoresNumber}
use Rattle.vortex_value.specs.Values.Scalars.{scalar_content}
use Rattle.column_keys.proofs.StoredSteps.{number-in}
use Rattle.column_keys.proofs.cells.stored_or_zero.Goals as goal

pub returns-in_default-clause-value : goal.returns-in_default-clause-value
returns-in_default-clause-value c = zero_value c.args.format

pub returns-in_default-clause-fits : goal.returns-in_default-clause-fits
returns-in_default-clause-fits c = zero_fits c.args.format

pub unreachable-requires : goal.unreachable-requires
unreachable-requires c =
    let s = stored_held c.args.format c.args.cell.now c.in-Some.value (sym c.in-Some.is) c.requires in
    c.in_default-stored_number.ensures s.0 s.1

pub returns-clause-number : goal.returns-clause-number
returns-clause-number c =
    let x = c.args.cell.now in
    let n = c.in-Some-stored_number.number in
    let f : FitsSigned w128 c.in-Some-stored_number.number = search rules in
    let h = held x c.in-Some.value (sym c.in-Some.is) in
    number-in c.args.format (scalar_content x) n _ (λ none. no_null c.in-Some.value (h ∙ none)) (subst (λ d. StoresNumber c.args.format d n) h c.in-Some-stored_number.ensures) (to_z-of_z w128 n f)

pub returns-clause-value : goal.returns-clause-value
returns-clause-value c =
    let n = c.in-Some-stored_number.number in
    let f : FitsSigned w128 c.in-Some-stored_number.number = search rules in
    subst (IsValueOf c.args.format) (sym (to_z-of_z w128 n f)) c.in-Some-stored_number.ensures.value

pub returns-clause-fits : goal.returns-clause-fits
returns-clause-fits c =
    let n = c.in-Some-stored_number.number in
    let s = c.in-Some-stored_number.ensures in
    let f : FitsSigned w128 c.in-Some-stored_number.number = search rules in
    subst (FitsItem (items_of c.args.format)) (sym (to_z-of_z w128 n f)) (fits_item c.args.format n s.sound s.value)
