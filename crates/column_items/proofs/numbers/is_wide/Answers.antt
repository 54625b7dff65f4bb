-- Of at most 18 digits a number fits 64 bits.
use Rattle.std.proofs.Common.{◌∙◌, ap, false, sym}
use Rattle.arrow_columns.specs.declared.formats.Format.{Format}
use Rattle.column_cells.specs.Contents.{stored_content}
use Rattle.column_items.proofs.WideSteps.{decimal_holds, narrow}
use Rattle.column_items.proofs.numbers.is_wide.Goals as goal

pub returns-in-Decimal-clause-narrow : goal.returns-in-Decimal-clause-narrow
returns-in-Decimal-clause-narrow c = λ z few h.
    narrow c.args.format z (ap (λ (f : Format). stored_content f z) c.in-Decimal.is ∙ decimal_holds c.in-Decimal.width c.in-Decimal.precision c.in-Decimal.scale false (sym few) z) h
