-- The zones that are read back are an index of the file's bytes.
use Rattle.std.proofs.Common.{◌≡◌, ◌∙◌, ◌++◌, ℕ, List, Option, Some, Ok, arith, length, subst, sym}
use Rattle.vortex_filter.specs.Formula.{formula}
use Rattle.zone_index.specs.Encoding.{HavePieces, zone_values}
use Rattle.zone_index.specs.declared.encoding.WriteError.TheVariants.{Memory, Pieces}
use Rattle.zone_index.specs.declared.zones.Zone.{Zone}
use Rattle.record_search.specs.Answers.{AnswersFindRows}
use Rattle.record_search.specs.Searched.{IsRowIndex}
use Rattle.law_callers.proofs.indexes.find_by_index.Goals as goal

pub returns-in-Err-Pieces-clause-kept : goal.returns-in-Err-Pieces-clause-kept
returns-in-Err-Pieces-clause-kept g c = λ header bytes long is.
    let s = c.args.sought.now.schema.now in
    let zones = c.in_ok-indexed.indexed.zones.items in
    let have = c.right_indexes_have_pieces.ensures s c.args.start.place zones (header ++ bytes) (c.in_ok-indexed.ensures.right header bytes long is) in
    let many : length s.columns.items ≡ c.len-columns.result = omega (arith, c.len-columns.ensures, s.columns.ok) in
    let own = subst (λ (n : ℕ). HavePieces n (zone_values zones) have.0) many have.1 in
    let wrong : Pieces ≡ Memory = (rw c.in-Err-Pieces.field-0-is at c.in-Err-Pieces.ensures.written) have.0 own in
    absurd cc

pub returns-clause-found : goal.returns-clause-found
returns-clause-found g c = λ header bytes long is held.
    let m = c.args.sought.now in
    let s = m.schema.now in
    let f = formula m.filter.now in
    let read = c.in-Ok-Ok.kept in
    let old = g.S.Sink.contents c.args.sink.now in
    let new = g.S.Sink.contents c.find_rows.new.sink in
    let right = rw c.in-Ok-Ok.field-0-is at c.in-Ok-Ok.ensures.right in
    let starts = rw c.in-Ok-Ok.field-0-is at c.in-Ok-Ok.ensures.start in
    let index = right s (header ++ bytes) (c.in_ok-indexed.ensures.right header bytes long is) in
    c.indexes_find_all.ensures s f g.S.Sink.written_as c.args.start.number read.start c.as_slice-zones.result.now header bytes old new c.in_ok-find_rows.field-0 (long ∙ sym starts)
    (subst (λ (zs : List Zone). IsRowIndex s read.start zs (header ++ bytes)) (sym c.as_slice-zones.ensures.value) index)
    (subst (λ (o : Option (List ℕ)). AnswersFindRows s f g.S.Sink.written_as c.args.start.number c.as_slice-zones.result.now o old new (Ok c.in_ok-find_rows.field-0)) held c.in_ok-find_rows.ensures.answer)
