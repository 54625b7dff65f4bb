-- A line more, none, and enough.
use Rattle.std.proofs.Common.{arith, ap, ◌∙◌, ◌≡◌, ◌<◌, ℕ, List, length, drop, inl, refl, vec_len}
use Rattle.std.proofs.lemmas.List.{take_rest}
use Rattle.std.proofs.Transfers.{starts_with_length}
use Rattle.csv_records.specs.Records.{is_start, state_at}
use Rattle.zone_index.proofs.TakeMore.{full_start, stays, stays_few, taken, taken_all, taken_enough, taking_more, taking_plain}
use Rattle.zone_index.proofs.taking.take_records.Goals as goal

pub returns-in-Ok-eq0-clause-taken : goal.returns-in-Ok-eq0-clause-taken
returns-in-Ok-eq0-clause-taken g c = λ bytes is.
    (stays c.args.delimiter.byte bytes c.loop-taken.text.items _ _ _ (state_at c.loop-taken.state) c.loop-taken.taken (c.loop-taken.invariant.text bytes is) c.in-Ok-eq0.ensures.bytes c.in-Ok-eq0.ensures.rest (c.in-Ok-eq0.ensures.end c.in-Ok-eq0.field-0-test)).0

pub returns-in-Ok-eq0-clause-ended : goal.returns-in-Ok-eq0-clause-ended
returns-in-Ok-eq0-clause-ended g c = λ bytes is none.
    (stays c.args.delimiter.byte bytes c.loop-taken.text.items c.read_line.new.text.items _ _ (state_at c.loop-taken.state) c.loop-taken.taken (c.loop-taken.invariant.text bytes is) c.in-Ok-eq0.ensures.bytes c.in-Ok-eq0.ensures.rest (c.in-Ok-eq0.ensures.end c.in-Ok-eq0.field-0-test)).1 none

pub returns-in-Ok-eq0-clause-many : goal.returns-in-Ok-eq0-clause-many
returns-in-Ok-eq0-clause-many g c = λ bytes is.
    let s = stays c.args.delimiter.byte bytes c.loop-taken.text.items c.read_line.new.text.items _ _ (state_at c.loop-taken.state) c.loop-taken.taken (c.loop-taken.invariant.text bytes is) c.in-Ok-eq0.ensures.bytes c.in-Ok-eq0.ensures.rest (c.in-Ok-eq0.ensures.end c.in-Ok-eq0.field-0-test) in
    taken_all c.args.delimiter.byte bytes c.read_line.new.text.items (state_at c.loop-taken.state) c.loop-taken.taken c.args.size c.loop-taken-test.true s.2 s.3

pub returns-clause-many : goal.returns-clause-many
returns-clause-many g c = λ bytes is.
    let enough : c.loop-taken.taken ≡ c.args.size = omega (arith, c.loop-taken.invariant.few, c.loop-taken-test.false) in
    taken_enough c.args.delimiter.byte bytes c.loop-taken.text.items _ (state_at c.loop-taken.state) c.loop-taken.taken c.args.size (c.loop-taken.invariant.text bytes is) enough (c.loop-taken.invariant.whole enough)

pub returns-clause-taken : goal.returns-clause-taken
returns-clause-taken g c = λ bytes is.
    taken c.args.delimiter.byte bytes c.loop-taken.text.items _ (state_at c.loop-taken.state) c.loop-taken.taken (c.loop-taken.invariant.text bytes is) (inl (c.loop-taken.invariant.whole (omega (arith, c.loop-taken.invariant.few, c.loop-taken-test.false))))

pub returns-clause-ended : goal.returns-clause-ended
returns-clause-ended g c = λ bytes is none.
    absurd (omega (arith, ap length none, c.loop-taken.text.ok.0, c.loop-taken.invariant.some (omega (arith, c.requires.some, c.loop-taken-test.false))))

pub loop-taken-preserved : goal.loop-taken-preserved
loop-taken-preserved g c =
    let before : c.len-before.result ≡ length c.loop-taken.text.items = omega (arith, c.loop-taken.text.ok) in
    record {
      text = λ bytes is.
          let d = c.args.delimiter.byte in
          let more = c.read_line.new.text.items in
          let some : length c.loop-taken.text.items < length more = omega (arith, c.in-Ok.ensures.count, c.in-Ok.field-0-test, c.read_line.new.text.ok.0, c.loop-taken.text.ok.0) in
          let line = taking_more d bytes c.loop-taken.text.items more _ _ (g.B.Read.remaining c.read_line.new.reader) (state_at c.loop-taken.state) (state_at c.state_after_line-state.result) c.loop-taken.taken c.counted-taken.result (c.loop-taken.invariant.text bytes is) c.in-Ok.ensures.bytes c.in-Ok.ensures.rest
          (take_rest c.deref.result.now c.len-before.result ∙ ap (λ (l : List ℕ). drop c.len-before.result l) c.deref.ensures.value ∙ ap (λ (n : ℕ). drop n more) before) c.state_after_line-state.ensures c.counted-taken.ensures some in
          taking_plain d bytes more c.take_plain.new.text.items _ (g.B.Read.remaining c.take_plain.new.reader) (state_at c.state_after_line-state.result) c.counted-taken.result c.in_ok-taken.field-0 _ line c.in_ok-taken.ensures.appends c.in_ok-taken.ensures.bytes c.in_ok-taken.ensures.whole refl;
      few = stays_few c.loop-taken.taken c.args.size c.counted-taken.result c.in_ok-taken.field-0 (is_start (state_at c.state_after_line-state.result)) c.loop-taken-test.true c.counted-taken.ensures c.in_ok-taken.ensures.few;
      some = λ any.
          let line : 0 < vec_len c.read_line.new.text = omega (arith, c.in-Ok.ensures.count, c.in-Ok.field-0-test) in
          let plain = starts_with_length _ _ c.in_ok-taken.ensures.appends in
          omega (arith, line, plain, c.read_line.new.text.ok.0, c.take_plain.new.text.ok.0);
      whole = λ full. full_start c.loop-taken.taken c.args.size c.counted-taken.result c.in_ok-taken.field-0 c.state_after_line-state.result c.loop-taken-test.true c.counted-taken.ensures c.in_ok-taken.ensures.fresh full;
    }
