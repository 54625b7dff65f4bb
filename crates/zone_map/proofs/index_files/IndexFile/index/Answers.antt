-- The blocks are those that stand there.
use Rattle.std.proofs.Common.{◌≡◌, ℕ, List, Some, Ok, arith, drop, length}
use Rattle.std.proofs.lemmas.List.{length-drop}
use Rattle.std.specs.Prelude.{map}
use Rattle.zone_index.specs.Encoding.{block_value, index_value, root_value}
use Rattle.zone_index.specs.EncodingReading.{index_at}
use Rattle.zone_scans.specs.Wanted.{length_of_blocks}
use Rattle.zone_map.proofs.IndexBytes.{for_some, pieces_at}
use Rattle.zone_map.proofs.index_files.IndexFile.index.Goals as goal

pub returns-clause-found : goal.returns-clause-found
returns-clause-found g c =
    let each : (xs : List ℕ) → g.R.ReadAt.bytes c.args.self.now.reader ≡ Some xs → length xs ≡ c.args.self.now.length → index_at c.args.wanted.now (root_value c.args.root) (drop c.args.start xs) ≡ Ok (index_value c.in_ok-read_wanted.field-0) = λ xs is all.
    let right = rw (c.deref.ensures.value) at c.in_ok-check_length.ensures.right in
    let size : length (drop c.args.start xs) ≡ length_of_blocks (map block_value c.args.root.blocks.items) = omega (arith, right, all, length-drop c.args.start xs, c.saturating_sub.ensures) in
    c.in_ok-read_wanted.ensures.same (drop c.args.start xs) size (cc (pieces_at (g.R.ReadAt.bytes c.args.self.now.reader) xs c.in_ok-bytes.bytes.items c.deref-3.result.now c.args.self.now.length is all c.in_ok-bytes.ensures.read, c.deref-3.ensures.value, c.deref-4.ensures.value, c.in_ok-ranges.ensures.covers xs)) in
    for_some (λ xs. length xs ≡ c.args.self.now.length → index_at c.args.wanted.now (root_value c.args.root) (drop c.args.start xs) ≡ Ok (index_value c.in_ok-read_wanted.field-0)) _ each
