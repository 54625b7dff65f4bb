-- What was read, and why it is no pattern.
use Rattle.std.proofs.Common.{◌≡◌, ◌≤◌, ℕ, ◌-◌, ◌∙◌, None, Some, ap, arith, length, subst, sym}
use Rattle.std.proofs.lemmas.Iterator.{YieldsList-from_chars}
use Rattle.std.proofs.lemmas.Iterator.Consumers.{YieldsList-end}
use Rattle.std.proofs.lemmas.List.{map-id}
use Rattle.std.specs.Char.{len_utf8}
use Rattle.like_patterns.specs.Texts.{EndsInEscape}
use Rattle.like_patterns.proofs.ReadSteps.{escape_ends, escape_fits, only_memory, reads_all, reads_end, reads_none}
use Rattle.like_patterns.proofs.reading.read.Goals as goal

pub loop-character-init : goal.loop-character-init
loop-character-init c = reads_none c.args.escape (record { pieces = c.new.result; run = c.new-2.result }) c.new.ensures.items c.new-2.ensures.bytes

pub returns-in_err-pending-clause-refused : goal.returns-in_err-pending-clause-refused
returns-in_err-pending-clause-refused c = λ offset same.
    absurd (only_memory c.from_residual.result c.in_err-pending.field-0.0 offset c.from_residual.ensures c.in_err-pending.ensures.memory same)

pub overflow_sub-offset : goal.overflow_sub-offset
overflow_sub-offset c =
    let text = c.args.text.now in
    let yielded = c.loop-character.yielded in
    let end = YieldsList-end (YieldsList-from_chars text c.utf8.text cc) yielded _ c.loop-character.yielded_by _ _ c.in-None.is c.next.ensures.steps in
    let reads = reads_end c.args.escape yielded text c.loop-character.reader c.loop-character.pending (Some c.in-Some-pending.escape) (sym (map-id yielded) ∙ end.0) c.in-Some-pending.is c.loop-character.invariant in
    let fits : len_utf8 c.in-Some-pending.escape ≤ length text = escape_fits c.args.escape text c.loop-character.reader c.in-Some-pending.escape c.utf8.text reads in
    omega (arith, fits, c.len_utf8.ensures.value)

pub returns-in-Some-pending-clause-refused : goal.returns-in-Some-pending-clause-refused
returns-in-Some-pending-clause-refused c = λ offset same.
    let text = c.args.text.now in
    let yielded = c.loop-character.yielded in
    let end = YieldsList-end (YieldsList-from_chars text c.utf8.text cc) yielded _ c.loop-character.yielded_by _ _ c.in-None.is c.next.ensures.steps in
    let reads = reads_end c.args.escape yielded text c.loop-character.reader c.loop-character.pending (Some c.in-Some-pending.escape) (sym (map-id yielded) ∙ end.0) c.in-Some-pending.is c.loop-character.invariant in
    let at : length text - c.len_utf8.result ≡ offset = cc in
    subst (λ (n : ℕ). EndsInEscape c.args.escape text n)
    (ap (λ (n : ℕ). length text - n) (sym c.len_utf8.ensures.value) ∙ at)
    (escape_ends c.args.escape text c.loop-character.reader c.in-Some-pending.escape c.utf8.text reads)

pub returns-in_err-end_run-clause-refused : goal.returns-in_err-end_run-clause-refused
returns-in_err-end_run-clause-refused c = λ offset same.
    absurd (only_memory c.from_residual-in_err-end_run.result c.in_err-end_run.field-0.0 offset c.from_residual-in_err-end_run.ensures c.in_err-end_run.ensures.memory same)

pub returns-clause-read : goal.returns-clause-read
returns-clause-read c =
    let text = c.args.text.now in
    let yielded = c.loop-character.yielded in
    let end = YieldsList-end (YieldsList-from_chars text c.utf8.text cc) yielded _ c.loop-character.yielded_by _ _ c.in-None.is c.next.ensures.steps in
    let reads = reads_end c.args.escape yielded text c.loop-character.reader c.loop-character.pending None (sym (map-id yielded) ∙ end.0) c.in_default.is c.loop-character.invariant in
    reads_all c.args.escape text c.loop-character.reader c.end_run.new.self.pieces.items reads c.in_ok-end_run.ensures.parts
