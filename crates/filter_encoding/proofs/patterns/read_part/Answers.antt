-- Three bytes, of which each goes on.
use Rattle.filter_encoding.specs.Patterns.{IsPart, part_bytes, part_of}
use Rattle.filter_encoding.proofs.PartLaws.{high_stuck, low_stuck, middle_stuck}
use Rattle.filter_encoding.proofs.ReadSteps.{passed_on}
use Rattle.filter_encoding.proofs.patterns.read_part.Goals as goal

pub returns-in_err-high : goal.returns-in_err-high
returns-in_err-high c = passed_on part_bytes IsPart part_of _ _ _ _ c.from_residual.ensures (λ bad. high_stuck _ _ c.in_err-high.ensures.1 c.in_err-high.ensures.2)

pub returns-in_err-middle : goal.returns-in_err-middle
returns-in_err-middle c =
    let h = c.in_ok-high.ensures in
    passed_on part_bytes IsPart part_of _ _ _ _ c.from_residual-in_err-middle.ensures (λ bad. middle_stuck h.0 c.in_ok-high.high _ _ _ h.3 h.4 h.2 c.in_err-middle.ensures.1 c.in_err-middle.ensures.2)

pub returns-in_err-number : goal.returns-in_err-number
returns-in_err-number c =
    let h = c.in_ok-high.ensures in
    let m = c.in_ok-middle.ensures in
    passed_on part_bytes IsPart part_of _ _ _ _ c.from_residual-in_err-number.ensures (λ bad. low_stuck h.0 m.0 c.in_ok-high.high c.in_ok-middle.middle _ _ _ _ m.1 h.3 m.3 m.4 h.2 m.2 c.in_err-number.ensures.1 c.in_err-number.ensures.2)
