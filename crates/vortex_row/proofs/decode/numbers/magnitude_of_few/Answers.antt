-- One byte more is one of the number's, and all are there.
use Rattle.std.proofs.Common.{◌≡◌, ◌<◌, ◌+◌, ◌*◌, ◌^◌, sym, ◌∙◌, rules, arith, subst, suc}
use Rattle.vortex_row.specs.Keys.{inverted}
use Rattle.vortex_row.proofs.ByteLaws.{inverted-length}
use Rattle.vortex_row.proofs.FewBytes.{AreFirst, first-all, first-fits, first-more, first-none}
use Rattle.vortex_row.proofs.ReaderSteps.{inverted-at}
use Rattle.vortex_row.proofs.decode.numbers.magnitude_of_few.Goals as goal

pub loop-taken-init : goal.loop-taken-init
loop-taken-init c = first-none (inverted c.args.invert c.args.bytes.now)

pub overflow_mul-longer : goal.overflow_mul-longer
overflow_mul-longer c =
    let less = c.loop-taken-test.true in
    let fits = first-fits (inverted c.args.invert c.args.bytes.now) c.loop-taken.taken c.loop-taken.number c.loop-taken.invariant (omega arith) in
    omega arith

pub overflow_add-longer : goal.overflow_add-longer
overflow_add-longer c =
    let less = c.loop-taken-test.true in
    let fits = first-fits (inverted c.args.invert c.args.bytes.now) c.loop-taken.taken c.loop-taken.number c.loop-taken.invariant (omega arith) in
    let byte : c.from.result < 256 = search rules in
    omega arith

pub loop-taken-preserved : goal.loop-taken-preserved
loop-taken-preserved c =
    let less = c.loop-taken-test.true in
    let long = inverted-length c.args.invert c.args.bytes.now in
    let byte : c.from.result ≡ c.inverted_if.result = search rules in
    let small : c.from.result < 256 = search rules in
    let is = byte ∙ c.inverted_if.ensures ∙ sym (inverted-at c.args.invert c.loop-taken.taken c.args.bytes.now (omega arith)) in
    let some = c.if-longer-eq0.false in
    let one : suc c.loop-taken.taken ≡ c.loop-taken.taken + 1 = omega arith in
    subst (λ n. AreFirst (inverted c.args.invert c.args.bytes.now) n (c.loop-taken.number * 256 + c.from.result)) one
    (first-more (inverted c.args.invert c.args.bytes.now) c.loop-taken.taken c.loop-taken.number c.from.result c.loop-taken.invariant (omega arith) (omega arith) is small (omega arith))

pub returns : goal.returns
returns c =
    let past = c.loop-taken-test.false in
    let end = c.loop-taken.auto.taken-end in
    let all : c.loop-taken.taken ≡ c.args.width = omega arith in
    let number : c.loop-taken.number < 2 ^ 64 = search rules in
    first-all c.args.width _ (inverted c.args.invert c.args.bytes.now) c.loop-taken.number (subst (λ n. AreFirst (inverted c.args.invert c.args.bytes.now) n c.loop-taken.number) all c.loop-taken.invariant) c.requires (omega arith)
