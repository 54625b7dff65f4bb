-- A null is taken.
use Rattle.std.proofs.Common.{refl, sym, ◌∙◌}
use Rattle.vortex_value.specs.Values.Content.{null}
use Rattle.record_rows.proofs.CellLaws.{null_content}
use Rattle.record_rows.proofs.cells.is_taken.Goals as goal

pub returns-then-is_null : goal.returns-then-is_null
returns-then-is_null c = (null, null_content c.args.reading.now c.args.column (record { text = c.args.word.now; is_quoted = c.args.is_quoted }) null (sym c.is_null.ensures ∙ c.if-is_null.true) refl)
