use Rattle.std.proofs.Common.{◌≡◌, ◌∙◌, ◌*◌, ◌≤◌, drop, length, refl, slice_range, sym, take, List, ℕ}
use Rattle.arrow_columns.specs.Spans.{beginning}
use Rattle.arrow_columns.specs.Statistics.{NotAbove}
use Rattle.arrow_columns.proofs.ByteOrder.{below_says, goes_on, not_below_says}
use Rattle.arrow_columns.proofs.SpanSteps.{next_word, on_true, widens_above, widens_below, widens_inside}
use Rattle.arrow_columns.proofs.byte_spans.ByteSpan.widen.Goals as goal

pub is_below_by_word-requires-clause-one : goal.is_below_by_word-requires-clause-one
is_below_by_word-requires-clause-one c =
    let self = c.args.self.now in
    let value : List ℕ = slice_range c.args.bytes.now c.args.begin c.args.stop in
    let long : 8 * self.words ≤ length value = on_true c.begins_alike.result (8 * self.words ≤ length value) c.begins_alike.ensures.long c.if-not-begins_alike.false in
    next_word self.words c.args.begin c.args.stop c.word_between-word.result c.args.bytes.now c.requires.order long c.word_between-word.ensures

pub is_below_by_word-requires-else-is_below_by_word-clause-other : goal.is_below_by_word-requires-else-is_below_by_word-clause-other
is_below_by_word-requires-else-is_below_by_word-clause-other c =
    let self = c.args.self.now in
    let value : List ℕ = slice_range c.args.bytes.now c.args.begin c.args.stop in
    let long : 8 * self.words ≤ length value = on_true c.begins_alike.result (8 * self.words ≤ length value) c.begins_alike.ensures.long c.if-not-begins_alike.false in
    next_word self.words c.args.begin c.args.stop c.word_between-word.result c.args.bytes.now c.requires.order long c.word_between-word.ensures

pub returns-then-is_below_by_word-clause-span : goal.returns-then-is_below_by_word-clause-span
returns-then-is_below_by_word-clause-span c =
    let self = c.args.self.now in
    let s = c.requires.span in
    let value : List ℕ = slice_range c.args.bytes.now c.args.begin c.args.stop in
    let long : 8 * self.words ≤ length value = on_true c.begins_alike.result (8 * self.words ≤ length value) c.begins_alike.ensures.long c.if-not-begins_alike.false in
    let alike : take (8 * self.words) value ≡ take (8 * self.words) self.low.now = on_true c.begins_alike.result (take (8 * self.words) value ≡ take (8 * self.words) self.low.now) c.begins_alike.ensures.alike c.if-not-begins_alike.false in
    let word : c.word_between-word.result ≡ beginning 8 (drop (8 * self.words) value) = next_word self.words c.args.begin c.args.stop c.word_between-word.result c.args.bytes.now c.requires.order long c.word_between-word.ensures in
    let below : NotAbove value self.low.now = below_says value self.low.now value self.low.now c.is_below_by_word.result c.is_below_by_word.ensures refl refl c.if-is_below_by_word.true in
    record {
      order = goes_on value self.low.now self.high.now below s.order;
      low_long = long;
      high_long = s.high_long;
      alike = alike ∙ s.alike;
      low_next = word;
      high_next = s.high_next;
    }

pub returns-then-is_below_by_word-clause-widened : goal.returns-then-is_below_by_word-clause-widened
returns-then-is_below_by_word-clause-widened c =
    let self = c.args.self.now in
    let s = c.requires.span in
    let value : List ℕ = slice_range c.args.bytes.now c.args.begin c.args.stop in
    let below : NotAbove value self.low.now = below_says value self.low.now value self.low.now c.is_below_by_word.result c.is_below_by_word.ensures refl refl c.if-is_below_by_word.true in
    widens_below value c.args.row self _ s.order below refl refl refl refl

pub returns-then-is_below_by_word-2-clause-span : goal.returns-then-is_below_by_word-2-clause-span
returns-then-is_below_by_word-2-clause-span c =
    let self = c.args.self.now in
    let s = c.requires.span in
    let value : List ℕ = slice_range c.args.bytes.now c.args.begin c.args.stop in
    let long : 8 * self.words ≤ length value = on_true c.begins_alike.result (8 * self.words ≤ length value) c.begins_alike.ensures.long c.if-not-begins_alike.false in
    let alike : take (8 * self.words) value ≡ take (8 * self.words) self.low.now = on_true c.begins_alike.result (take (8 * self.words) value ≡ take (8 * self.words) self.low.now) c.begins_alike.ensures.alike c.if-not-begins_alike.false in
    let word : c.word_between-word.result ≡ beginning 8 (drop (8 * self.words) value) = next_word self.words c.args.begin c.args.stop c.word_between-word.result c.args.bytes.now c.requires.order long c.word_between-word.ensures in
    let above : NotAbove self.high.now value = below_says self.high.now value self.high.now value c.is_below_by_word-else-is_below_by_word.result c.is_below_by_word-else-is_below_by_word.ensures refl refl c.if-is_below_by_word-2.true in
    record {
      order = goes_on self.low.now self.high.now value s.order above;
      low_long = s.low_long;
      high_long = long;
      alike = sym alike;
      low_next = s.low_next;
      high_next = word;
    }

pub returns-then-is_below_by_word-2-clause-widened : goal.returns-then-is_below_by_word-2-clause-widened
returns-then-is_below_by_word-2-clause-widened c =
    let self = c.args.self.now in
    let s = c.requires.span in
    let value : List ℕ = slice_range c.args.bytes.now c.args.begin c.args.stop in
    let above : NotAbove self.high.now value = below_says self.high.now value self.high.now value c.is_below_by_word-else-is_below_by_word.result c.is_below_by_word-else-is_below_by_word.ensures refl refl c.if-is_below_by_word-2.true in
    widens_above value c.args.row self _ s.order above refl refl refl refl

pub returns-else-is_below_by_word-2-clause-widened : goal.returns-else-is_below_by_word-2-clause-widened
returns-else-is_below_by_word-2-clause-widened c =
    let self = c.args.self.now in
    let value : List ℕ = slice_range c.args.bytes.now c.args.begin c.args.stop in
    widens_inside value c.args.row self (not_below_says value self.low.now value self.low.now c.is_below_by_word.result c.is_below_by_word.ensures refl refl c.if-is_below_by_word.false)
    (not_below_says self.high.now value self.high.now value c.is_below_by_word-else-is_below_by_word.result c.is_below_by_word-else-is_below_by_word.ensures refl refl c.if-is_below_by_word-2.false)
