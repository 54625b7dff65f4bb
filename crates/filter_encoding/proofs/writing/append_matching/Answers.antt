-- The case, and then the pattern.
use Rattle.filter_encoding.specs.Lists.{AreListed}
use Rattle.filter_encoding.specs.Patterns.{IsCase, IsPart}
use Rattle.filter_encoding.proofs.WriteSteps.{passed_on, then_written}
use Rattle.filter_encoding.proofs.writing.append_matching.Goals as goal

pub returns-in_err-append_case : goal.returns-in_err-append_case
returns-in_err-append_case c =
    let w = c.in_err-append_case.ensures in
    passed_on _ (IsCase c.args.case) (IsCase c.args.case × AreListed IsPart c.args.pattern.now) _ _ _ _ _ c.from_residual.ensures (λ h. h.0) w.0 w.1

pub returns : goal.returns
returns c =
    then_written (AreListed IsPart c.args.pattern.now) (IsCase c.args.case × AreListed IsPart c.args.pattern.now) (AreListed IsPart c.args.pattern.now) (IsCase c.args.case × AreListed IsPart c.args.pattern.now) _ _ _ _ _ _
    (λ q. (c.in_ok-append_case.ensures.0, q)) (λ h. h.1) c.in_ok-append_case.ensures.1 c.append_pattern.ensures
