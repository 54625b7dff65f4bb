-- A row more, until the reader has none.
use Rattle.std.proofs.Common.{Bor, List, ℕ, ◌≡◌, ◌∙◌, ap, refl, rules, inl, inr, true, false, map, Some, ◌∷◌, []}
use Rattle.std.specs.Result.{is_ok}
use Rattle.std.proofs.lemmas.List.{map-append}
use Rattle.csv.specs.Reading.{strip_bom, with_flexible, with_names_headers}
use Rattle.csv.specs.declared.parser.Config.{Config}
use Rattle.csv.specs.Records.{fields_of}
use Rattle.record_rows.proofs.CsvReads.{not_read, row_more, row_none}
use Rattle.record_rows.proofs.texts.csv_rows.Goals as goal

pub loop-row-init : goal.loop-row-init
loop-row-init c =
    let fr = c.from_reader-reader.ensures in
    let e = c.flexible.ensures ∙ ap (λ b. with_flexible b true) (c.has_headers.ensures ∙ ap (λ b. with_names_headers b false) c.delimiter.ensures) in
    let with_delimiter : Config → Config = λ k. record k { delimiter = c.args.delimiter.byte } in
    let start = c.into_iter-row-iterator.ensures.into_iter_gives ∙ refl in
    let rdr = c.into_byte_records-row-items.ensures.rdr in
    let left = c.into_byte_records-row-items.ensures.left in
    rw (start, rdr, c.new-rows.ensures.items) (
      rw (e) at fr.trim ∙ c.new.ensures.trim,
      inr (inr (rw e at fr.has_headers, fr.headers)),
      left,
      rw e at fr.config ∙ ap with_delimiter c.new.ensures.config,
      strip_bom c.args.text.now,
      fr.source,
      rw fr.state refl,
      rw e at fr.flexible,
    )

pub loop-row-preserved : goal.loop-row-preserved
loop-row-preserved c =
    let inv = c.loop-row.invariant in
    let steps = c.next.ensures.steps inv.2 inv.0 in
    let s = rw (c.in-Some.is, c.in-Ok.is) at (steps.0 inv.1) in
    let flexible = rw (c.in-Some.is, c.in-Ok.is) at steps.3 in
    let good : is_ok c.push.result ≡ true = search rules in
    let items = rw good at c.push.ensures.items in
    let more = row_more c.rows_are_read.ensures (λ (s : Bor (List ℕ)). Some s.now) c.loop-row.row-iterator.rdr c.next.new.self.rdr c.args.delimiter.byte (fields_of c.in-Ok.row) inv.4 (map fields_of c.loop-row.rows.items) _ inv.3 inv.5 s.0 inv.6 in
    (s.0.3 ∙ inv.0, inl s.1, s.2, s.0.2 ∙ inv.3, more.0, more.1, rw (items, map-append fields_of c.loop-row.rows.items (c.in-Ok.row ∷ [])) more.2, flexible ∙ inv.7)

pub returns-in-Err-clause-refused : goal.returns-in-Err-clause-refused
returns-in-Err-clause-refused c =
    let inv = c.loop-row.invariant in
    let why = rw (c.in-Some.is, c.in-Err.is) at ((c.next.ensures.steps inv.2 inv.0).0 inv.1) in
    rw c.into_kind.ensures (not_read (λ (s : Bor (List ℕ)). Some s.now) c.loop-row.row-iterator.rdr c.next.new.self.rdr _ inv.7 why)

pub returns-clause-rows : goal.returns-clause-rows
returns-clause-rows c =
    let inv = c.loop-row.invariant in
    let s = rw c.in-None.is at ((c.next.ensures.steps inv.2 inv.0).0 inv.1) in
    row_none c.rows_are_read.ensures (λ (s : Bor (List ℕ)). Some s.now) c.loop-row.row-iterator.rdr c.next.new.self.rdr c.args.delimiter.byte [] inv.4 _ _ inv.3 inv.5 s inv.6
