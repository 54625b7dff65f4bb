use Rattle.std.proofs.Common.{List, ℕ, ◌≡◌, ◌*◌, ◌≤◌, ◌∙◌, drop, length, slice_range, sym, take}
use Rattle.arrow_columns.specs.Spans.{beginning}
use Rattle.arrow_columns.proofs.SpanSteps.{high_told, low_told, next_word, on_true}
use Rattle.arrow_columns.proofs.byte_spans.ByteSpan.is_inside.Goals as goal

pub returns-clause-low : goal.returns-clause-low
returns-clause-low c =
    let self = c.args.self.now in
    let value : List ℕ = slice_range c.args.bytes.now c.args.begin c.args.stop in
    let long : 8 * self.words ≤ length value = on_true c.begins_alike.result (8 * self.words ≤ length value) c.begins_alike.ensures.long c.if-not-begins_alike.false in
    let alike : take (8 * self.words) value ≡ take (8 * self.words) self.low.now = on_true c.begins_alike.result (take (8 * self.words) value ≡ take (8 * self.words) self.low.now) c.begins_alike.ensures.alike c.if-not-begins_alike.false in
    let word : c.word_between-word.result ≡ beginning 8 (drop (8 * self.words) value) = next_word self.words c.args.begin c.args.stop c.word_between-word.result c.args.bytes.now c.requires.order long c.word_between-word.ensures in
    low_told (8 * self.words) self.low_word c.word_between-word.result _ self.low.now value c.items_are_bytes.ensures (sym alike) c.requires.span.low_next word

pub returns-clause-high : goal.returns-clause-high
returns-clause-high c =
    let self = c.args.self.now in
    let value : List ℕ = slice_range c.args.bytes.now c.args.begin c.args.stop in
    let long : 8 * self.words ≤ length value = on_true c.begins_alike.result (8 * self.words ≤ length value) c.begins_alike.ensures.long c.if-not-begins_alike.false in
    let alike : take (8 * self.words) value ≡ take (8 * self.words) self.low.now = on_true c.begins_alike.result (take (8 * self.words) value ≡ take (8 * self.words) self.low.now) c.begins_alike.ensures.alike c.if-not-begins_alike.false in
    let word : c.word_between-word.result ≡ beginning 8 (drop (8 * self.words) value) = next_word self.words c.args.begin c.args.stop c.word_between-word.result c.args.bytes.now c.requires.order long c.word_between-word.ensures in
    high_told (8 * self.words) c.word_between-word.result self.high_word _ value self.high.now c.items_are_bytes-2.ensures (alike ∙ c.requires.span.alike) word c.requires.span.high_next
