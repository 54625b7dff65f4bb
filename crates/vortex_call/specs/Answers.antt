-- What is told of an answer.
use Rattle.std.specs.Prelude.{◌≡◌, ◌≢◌, ◌≤◌, ◌<◌, ◌⊎◌, ◌++◌, ℕ, List, IsUtf8, drop, length, take}
use Rattle.vortex_call.specs.declared.TheConstants.{GIVEN, NO_MEMORY, BUFFER_TOO_SMALL}

-- how long the answer is; and the buffer, which was old, has it in front, or is as it was, since it is too small
pub record IsTold (answer old new : List ℕ) (count status : ℕ) : Type 0 where
  pub counted : count ≡ length answer
  pub given : status ≡ GIVEN → (length answer ≤ length old) × (new ≡ answer ++ drop (length answer) old)
  pub small : status ≡ BUFFER_TOO_SMALL → (length old < length answer) × (new ≡ old)

-- what the status of a call says of the answer to its line, and of the buffer and the count, as these are before and after the call
pub record AnswersLine (buffer_before buffer_after : List ℕ) (before after status : ℕ) : Type 0 where
  pub statuses : (status ≡ GIVEN) ⊎ ((status ≡ NO_MEMORY) ⊎ (status ≡ BUFFER_TOO_SMALL))
  -- the answer is UTF-8, and told unless there was no memory
  pub told : status ≢ NO_MEMORY → (answer : List ℕ) × IsUtf8 answer × IsTold answer buffer_before buffer_after after status
  pub within : status ≡ GIVEN → after ≤ length buffer_after
  pub text : status ≡ GIVEN → IsUtf8 (take after buffer_after)
  pub small : status ≡ BUFFER_TOO_SMALL → length buffer_before < after
  -- what is not said to be written stays
  pub rest : status ≡ GIVEN → drop after buffer_after ≡ drop after buffer_before
  pub kept_buffer : status ≢ GIVEN → buffer_after ≡ buffer_before
  pub kept_count : status ≡ NO_MEMORY → after ≡ before
