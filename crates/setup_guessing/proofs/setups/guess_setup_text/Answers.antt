-- The text of the setup that is guessed.
use Rattle.setup_guessing.proofs.setups.guess_setup_text.Goals as goal

pub returns-in_ok-to_text-in-Some-2-clause-guessed : goal.returns-in_ok-to_text-in-Some-2-clause-guessed
returns-in_ok-to_text-in-Some-2-clause-guessed c =
    let valid = rw c.in-Some.is at c.in_ok-given.ensures.valid in
    let text = rw c.in-Some.is at c.in_ok-given.ensures.text in
    let guessed = rw c.in-Some-2.is at c.in_ok-guessed.ensures.guessed in
    let kept = rw c.in-Some-2.is at c.in_ok-guessed.ensures.valid in
    record {
      given_setup = c.in-Some.given;
      setup = c.in-Some-2.guessed.setup;
      given_is = record { valid = valid; is = text };
      guessed = guessed;
      is = record { valid = kept valid; is = c.in_ok-to_text-in-Some-2.ensures };
    }
