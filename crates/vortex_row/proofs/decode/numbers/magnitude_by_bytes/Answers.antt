-- Each byte so far is one of the number's, and the one at the offset is of none up to the limit.
use Rattle.std.proofs.Common.{◌≡◌, ◌<◌, inl, inr, sym, ◌∙◌, rules, arith, subst, suc, ◌+◌, ◌*◌}
use Rattle.vortex_row.specs.Keys.{inverted}
use Rattle.vortex_row.proofs.NumberSteps.{Began, began-all, began-fits, began-more, began-none, number-bad, number-ends}
use Rattle.vortex_row.proofs.ReaderSteps.{inverted-at}
use Rattle.vortex_row.proofs.decode.numbers.magnitude_by_bytes.Goals as goal
use Rattle.vortex_row.proofs.decode.numbers.magnitude_by_bytes.Goals.{then-longer-eq0-via-then-longer-eq0, then-longer-eq0-via-else-longer-eq0+then-longer-most}
use Rattle.vortex_row.proofs.ByteLaws.{inverted-length}

pub loop-taken-init : goal.loop-taken-init
loop-taken-init c = began-none c.args.width c.args.limit (inverted c.args.invert c.args.bytes.now)

pub returns-then-place-bytes-clause-read : goal.returns-then-place-bytes-clause-read
returns-then-place-bytes-clause-read c =
    let long = inverted-length c.args.invert c.args.bytes.now in
    let past = c.if-place-bytes.true in
    number-ends c.args.width c.args.limit (inverted c.args.invert c.args.bytes.now) c.loop-taken.taken c.loop-taken.number c.loop-taken.invariant c.requires c.loop-taken-test.true (omega arith)

pub overflow_mul-longer : goal.overflow_mul-longer
overflow_mul-longer c =
    let fits = began-fits c.args.width c.args.limit (inverted c.args.invert c.args.bytes.now) c.loop-taken.taken c.loop-taken.number c.loop-taken.invariant c.loop-taken-test.true c.ranges.limit.fits in
    omega arith

pub overflow_add-longer : goal.overflow_add-longer
overflow_add-longer c =
    let fits = began-fits c.args.width c.args.limit (inverted c.args.invert c.args.bytes.now) c.loop-taken.taken c.loop-taken.number c.loop-taken.invariant c.loop-taken-test.true c.ranges.limit.fits in
    let byte : c.from.result < 256 = search rules in
    omega arith

pub returns-then-longer-eq0-clause-read : goal.returns-then-longer-eq0-clause-read
returns-then-longer-eq0-clause-read c =
    let long = inverted-length c.args.invert c.args.bytes.now in
    let there = c.if-place-bytes.false in
    let byte : c.from.result ≡ c.inverted_if.result = search rules in
    let is = byte ∙ c.inverted_if.ensures ∙ sym (inverted-at c.args.invert c.loop-taken.taken c.args.bytes.now (omega arith)) in
    number-bad c.args.width c.args.limit (inverted c.args.invert c.args.bytes.now) c.loop-taken.taken c.loop-taken.number c.from.result c.loop-taken.invariant c.requires c.loop-taken-test.true c.ranges.limit.fits (omega arith) is
    (elim c.then-longer-eq0.branch [
      | then-longer-eq0-via-then-longer-eq0 w ↦ inl w.if-longer-eq0.true
      | then-longer-eq0-via-else-longer-eq0+then-longer-most w ↦ inr w.if-longer-most.true
    ])

pub loop-taken-preserved : goal.loop-taken-preserved
loop-taken-preserved c =
    let long = inverted-length c.args.invert c.args.bytes.now in
    let there = c.if-place-bytes.false in
    let byte : c.from.result ≡ c.inverted_if.result = search rules in
    let small : c.from.result < 256 = search rules in
    let is = byte ∙ c.inverted_if.ensures ∙ sym (inverted-at c.args.invert c.loop-taken.taken c.args.bytes.now (omega arith)) in
    let some = c.if-longer-eq0.false in
    let one : suc c.loop-taken.taken ≡ c.loop-taken.taken + 1 = omega arith in
    subst (λ n. Began c.args.width c.args.limit (inverted c.args.invert c.args.bytes.now) n (c.loop-taken.number * 256 + c.from.result)) one
    (began-more c.args.width c.args.limit (inverted c.args.invert c.args.bytes.now) c.loop-taken.taken c.loop-taken.number c.from.result c.loop-taken.invariant c.loop-taken-test.true c.requires (omega arith) is small
    (omega arith) c.if-longer-most.false)

pub returns-clause-read : goal.returns-clause-read
returns-clause-read c =
    let past = c.loop-taken-test.false in
    let end = c.loop-taken.auto.taken-end in
    let all : c.loop-taken.taken ≡ c.args.width = omega arith in
    began-all c.args.width c.args.limit (inverted c.args.invert c.args.bytes.now) c.loop-taken.number
    (subst (λ n. Began c.args.width c.args.limit (inverted c.args.invert c.args.bytes.now) n c.loop-taken.number) all c.loop-taken.invariant) c.requires
