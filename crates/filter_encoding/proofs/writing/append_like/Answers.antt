-- The test, and then what the cell has to match.
use Rattle.filter_encoding.specs.Lists.{AreListed, Fits}
use Rattle.filter_encoding.specs.Patterns.{IsCase, IsPart}
use Rattle.filter_encoding.proofs.WriteSteps.{passed_on, then_written}
use Rattle.filter_encoding.proofs.writing.append_like.Goals as goal

pub returns-in_err-append_test : goal.returns-in_err-append_test
returns-in_err-append_test c =
    let w = c.in_err-append_test.ensures in
    passed_on _ (Fits c.args.column) (Fits c.args.column × (IsCase c.args.case × AreListed IsPart c.args.pattern.now)) _ _ _ _ _ c.from_residual.ensures (λ h. h.0) w.0 w.1

pub returns : goal.returns
returns c =
    then_written (IsCase c.args.case × AreListed IsPart c.args.pattern.now) (Fits c.args.column × (IsCase c.args.case × AreListed IsPart c.args.pattern.now)) (IsCase c.args.case × AreListed IsPart c.args.pattern.now) (Fits c.args.column × (IsCase c.args.case × AreListed IsPart c.args.pattern.now)) _ _ _ _ _ _
    (λ q. (c.in_ok-append_test.ensures.0, q)) (λ h. h.1) c.in_ok-append_test.ensures.1 c.append_matching.ensures
