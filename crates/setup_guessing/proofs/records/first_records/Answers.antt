-- None, a record more, no more, and enough.
use Rattle.std.proofs.Common.{◌≡◌, ℕ, List, arith, drop, subst}
use Rattle.std.proofs.lemmas.List.{length-drop, take_rest}
use Rattle.setup_guessing.specs.Records.{HasNoNext, IsNext}
use Rattle.setup_guessing.proofs.Fronts.{front_ended, front_full, front_none, placed_more}
use Rattle.setup_guessing.proofs.records.first_records.Goals as goal

pub loop-taken-init : goal.loop-taken-init
loop-taken-init c = (omega arith, omega arith, front_none c.args.delimiter.byte c.args.is_all c.args.text.now)

pub loop-taken-preserved : goal.loop-taken-preserved
loop-taken-preserved c =
    let d = c.args.delimiter.byte in
    let at = c.loop-taken in
    let text = c.args.text.now in
    let next : IsNext d c.args.is_all (drop at.end text) c.in-Some.length = subst (λ (l : List ℕ). IsNext d c.args.is_all l c.in-Some.length) (take_rest text at.end) c.in-Some.ensures.some in (
      omega (arith, next.within, length-drop at.end text, at.invariant.0),
      omega (arith, c.loop-taken-test.true),
      placed_more d c.args.is_all text at.end c.in-Some.length at.taken at.invariant.0 at.invariant.2 next,
    )

pub returns-in-None : goal.returns-in-None
returns-in-None c =
    let d = c.args.delimiter.byte in
    let at = c.loop-taken in
    let text = c.args.text.now in
    let none : HasNoNext d c.args.is_all (drop at.end text) = subst (HasNoNext d c.args.is_all) (take_rest text at.end) c.in-None.ensures.none in
    rw (c.split_at.ensures.front, c.split_at.ensures.back) (front_ended d c.args.is_all text _ _ at.taken c.args.count at.invariant.2 at.invariant.1 none)

pub returns : goal.returns
returns c =
    let at = c.loop-taken in
    let full : at.taken ≡ c.args.count = omega (arith, at.invariant.1, c.loop-taken-test.false) in
    rw (c.split_at-2.ensures.front, c.split_at-2.ensures.back) (front_full c.args.delimiter.byte c.args.is_all c.args.text.now _ _ at.taken c.args.count at.invariant.2 full)
