-- The text is given, or its length.
use Rattle.std.specs.Prelude.{string_bytes}
use Rattle.setup_guessing.specs.Setups.{IsGuessedText}
use Rattle.vortex_c.proofs.PartSteps.{encoding_answered}
use Rattle.vortex_c.proofs.setups.doqallin_guess_setup.Goals as goal

pub returns-in-Ok-Some-clause-answer : goal.returns-in-Ok-Some-clause-answer
returns-in-Ok-Some-clause-answer c =
    let guessed = c.in-Ok-Some.guessed in
    let is : IsGuessedText c.args.setup.now c.args.text.now c.args.has_header c.args.is_all (string_bytes guessed.text) guessed.start = rw c.in-Ok-Some.field-0-is at c.in-Ok-Some.ensures.guessed in
    encoding_answered (λ written. IsGuessedText c.args.setup.now c.args.text.now c.args.has_header c.args.is_all written guessed.start) (string_bytes guessed.text) c.as_bytes.result.now _ _ _ _ _ is c.as_bytes.ensures.value
    c.give.ensures.statuses c.give.ensures.count c.give.ensures.within c.give.ensures.given c.give.ensures.rest c.give.ensures.small c.give.ensures.kept
