use Rattle.std.proofs.Common.{[], ◌<◌, ◌≤◌, IsUtf8, arith, ℕ, slice_index_or}
use Rattle.std.specs.Str.{IsCharBoundary}
use Rattle.arrow_columns.specs.Offsets.{bytes_between, offset_of}
use Rattle.arrow_columns.proofs.OffsetItems.{ascii_rows, ends_within, rises_to, utf8_rows, weaker}
use Rattle.arrow_columns.proofs.SpanSteps.{on_true}
use Rattle.arrow_columns.proofs.byte_items.are_utf8.Goals as goal

pub returns-then-from-end : goal.returns-then-from-end
returns-then-from-end g c = λ k l f. absurd (omega arith)

pub slice_bounds-part-count : goal.slice_bounds-part-count
slice_bounds-part-count g c =
    let W = g.T.Offset.width in
    let O : ℕ → ℕ = λ i. offset_of W (slice_index_or c.args.offsets.now i []) in
    omega (
      arith,
      c.read_offset-begin.ensures,
      c.read_offset-stop.ensures,
      rises_to W c.args.bytes.now O c.args.from c.args.end c.args.from c.args.end c.requires.rows (omega arith) (omega arith) (omega arith),
      ends_within W c.args.bytes.now O c.args.from c.args.end c.requires.rows (omega arith),
    )

pub slice_bounds-part-start : goal.slice_bounds-part-start
slice_bounds-part-start g c =
    let W = g.T.Offset.width in
    let O : ℕ → ℕ = λ i. offset_of W (slice_index_or c.args.offsets.now i []) in
    omega (
      arith,
      c.read_offset-begin.ensures,
      c.read_offset-stop.ensures,
      rises_to W c.args.bytes.now O c.args.from c.args.end c.args.from c.args.end c.requires.rows (omega arith) (omega arith) (omega arith),
      ends_within W c.args.bytes.now O c.args.from c.args.end c.requires.rows (omega arith),
    )

pub slice_bounds-part-end : goal.slice_bounds-part-end
slice_bounds-part-end g c =
    let W = g.T.Offset.width in
    let O : ℕ → ℕ = λ i. offset_of W (slice_index_or c.args.offsets.now i []) in
    omega (
      arith,
      c.read_offset-begin.ensures,
      c.read_offset-stop.ensures,
      rises_to W c.args.bytes.now O c.args.from c.args.end c.args.from c.args.end c.requires.rows (omega arith) (omega arith) (omega arith),
      ends_within W c.args.bytes.now O c.args.from c.args.end c.requires.rows (omega arith),
    )

pub returns-then-is_ascii : goal.returns-then-is_ascii
returns-then-is_ascii g c =
    let W = g.T.Offset.width in
    let O : ℕ → ℕ = λ i. offset_of W (slice_index_or c.args.offsets.now i []) in
    on_true c.is_ascii.result ((k : ℕ) → k < c.args.end → c.args.from ≤ k → IsUtf8 (bytes_between c.args.bytes.now O k))
    (ascii_rows c.is_ascii.result _ W c.args.bytes.now O c.args.from c.args.end c.read_offset-begin.result c.read_offset-stop.result c.is_ascii.ensures.cases c.requires.rows c.read_offset-begin.ensures c.read_offset-stop.ensures) c.if-is_ascii.true

pub returns-then-is_utf8 : goal.returns-then-is_utf8
returns-then-is_utf8 g c =
    let W = g.T.Offset.width in
    let bytes = c.args.bytes.now in
    let O : ℕ → ℕ = λ i. offset_of W (slice_index_or c.args.offsets.now i []) in
    weaker c.begin_characters.result ((k : ℕ) → k < c.args.end → c.args.from ≤ k → IsCharBoundary bytes (O k)) ((k : ℕ) → k < c.args.end → c.args.from ≤ k → IsUtf8 (bytes_between bytes O k)) c.begin_characters.ensures
    (utf8_rows W bytes O c.args.from c.args.end c.read_offset-begin.result c.read_offset-stop.result (c.is_utf8.ensures.0 c.if-is_utf8.true) c.requires.rows c.read_offset-begin.ensures c.read_offset-stop.ensures)
