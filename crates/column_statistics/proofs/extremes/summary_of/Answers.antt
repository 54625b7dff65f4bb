use Rattle.std.proofs.Common.{subst, sym}
use Rattle.arrow_columns.specs.Columns.{byte_cells}
use Rattle.column_cells.specs.Contents.{contents_of_rows}
use Rattle.vortex_value.specs.Values.Content.{string, text}
use Rattle.column_statistics.specs.Extremes.{ArePlacesOf}
use Rattle.column_statistics.proofs.KindLaws.{of_string, of_text, places_of}
use Rattle.column_statistics.proofs.extremes.summary_of.Goals as goal

pub summary_at-requires-clause-places : goal.summary_at-requires-clause-places
summary_at-requires-clause-places c =
    let rows = c.in-Strings.strings in
    subst (λ r. ArePlacesOf (contents_of_rows r) c.statistics.result) (sym c.in-Strings.is)
    (places_of text of_text (byte_cells rows.width rows.column) c.statistics.result c.statistics.ensures)

pub summary_at-requires-in-Bytes-clause-places : goal.summary_at-requires-in-Bytes-clause-places
summary_at-requires-in-Bytes-clause-places c =
    let rows = c.in-Bytes.bytes in
    subst (λ r. ArePlacesOf (contents_of_rows r) c.statistics-in-Bytes.result) (sym c.in-Bytes.is)
    (places_of string of_string (byte_cells rows.width rows.column) c.statistics-in-Bytes.result c.statistics-in-Bytes.ensures)
