-- A range more, and all of them.
use Rattle.std.proofs.Common.{rules, ◌≡◌, ◌∙◌, ℕ, List, Some, ap, get_or, length, sym, take_all}
use Rattle.std.proofs.lemmas.List.{get_or_default}
use Rattle.zone_scans.specs.Ranges.{bytes_of}
use Rattle.zone_scans.specs.declared.ranges.ByteRange.{ByteRange}
use Rattle.zone_map.proofs.IndexBytes.{for_some, pieces_more, some_at}
use Rattle.zone_map.proofs.index_files.IndexFile.pieces.Goals as goal

pub loop-range-preserved : goal.loop-range-preserved
loop-range-preserved g c = record {
  kept = search rules;
  long = search rules;
  read = λ xs is all.
      let none : ByteRange = record { place = 0; length = 0 } in
      pieces_more xs c.loop-range.bytes.items _ c.in_ok-piece.piece.items c.args.ranges.now c.loop-range.range-index c.loop-range.self.length (get_or c.args.ranges.now c.loop-range.range-index none) (search rules)
      (get_or_default c.args.ranges.now c.loop-range.range-index none (get_or c.args.ranges.now c.loop-range.range-index none) (search rules)) (all ∙ sym c.loop-range.invariant.long)
      (some_at _ _ xs (c.loop-range.invariant.kept ∙ is) c.in_ok-piece.ensures.read) (search rules) (c.loop-range.invariant.read xs is all);
}

pub returns-clause-read : goal.returns-clause-read
returns-clause-read g c =
    let each : (xs : List ℕ) → g.R.ReadAt.bytes c.args.self.now.reader ≡ Some xs → length xs ≡ c.args.self.now.length → c.loop-range.bytes.items ≡ bytes_of xs c.args.ranges.now = λ xs is all.
    c.loop-range.invariant.read xs is all ∙ ap (bytes_of xs) (take_all c.loop-range.range-index c.args.ranges.now (search rules)) in
    for_some (λ xs. length xs ≡ c.args.self.now.length → c.loop-range.bytes.items ≡ bytes_of xs c.args.ranges.now) _ each
