-- The first byte, and then the place.
use Rattle.std.proofs.Common.{[], ◌∷◌, ◌∙◌, ap}
use Rattle.std.proofs.Common.{◌++◌}
use Rattle.filter_encoding.specs.Lists.{Fits, count_bytes}
use Rattle.filter_encoding.specs.Steps.{head_byte}
use Rattle.filter_encoding.proofs.WriteSteps.{passed_on, then_written}
use Rattle.filter_encoding.proofs.writing.append_test.Goals as goal

pub returns-in_err-append_byte : goal.returns-in_err-append_byte
returns-in_err-append_byte c =
    let w = c.in_err-append_byte.ensures in
    passed_on _ (Unit {0}) (Fits c.args.column) _ _ _ _ _ c.from_residual.ensures (λ h. tt) w.0 w.1

pub returns : goal.returns
returns c = then_written (Fits c.args.column) (Fits c.args.column) (Fits c.args.column) (Fits c.args.column) (head_byte c.args.head ∷ []) (count_bytes c.args.column) c.append_place.result _ _ _ (λ q. q) (λ q. q) (c.in_ok-append_byte.ensures.1 ∙ ap (λ b. c.args.out.now.items ++ b ∷ []) c.byte.ensures) c.append_place.ensures
