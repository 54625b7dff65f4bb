-- What an encoding that is asked for comes to: what each status says, and what is written then.
use Rattle.std.specs.Prelude.{◌≡◌, ◌≢◌, ◌<◌, ◌≤◌, ◌⊎◌, ℕ, List, drop, length, take}
use Rattle.vortex_c.specs.declared.status.TheConstants.{GIVEN, BUFFER_TOO_SMALL}

-- there is an answer: it is given, or the buffer for it is too small
abbrev pub HasAnswer : ℕ → Type 0
HasAnswer status = (status ≡ GIVEN) ⊎ (status ≡ BUFFER_TOO_SMALL)

-- some bytes that are so have this length
abbrev pub IsLengthOf : (List ℕ → Type 0) → ℕ → Type 0
IsLengthOf Is count = (bytes : List ℕ) × Is bytes × (count ≡ length bytes)

-- what a status says of bytes that are to be so, and of the buffer and the count, as these are before and after the call
pub record AnswersEncoding (Is : List ℕ → Type 0) (buffer_before buffer_after : List ℕ) (before after status : ℕ) : Type 0 where
  -- the buffer begins with the bytes
  pub given : status ≡ GIVEN → Is (take after buffer_after)
  pub within : status ≡ GIVEN → after ≤ length buffer_before
  -- they have as many as is told, which is more than the buffer has if it is too small
  pub needed : HasAnswer status → IsLengthOf Is after
  pub small : status ≡ BUFFER_TOO_SMALL → length buffer_before < after
  -- what is not said to be written stays
  pub rest : status ≡ GIVEN → drop after buffer_after ≡ drop after buffer_before
  pub kept_buffer : status ≢ GIVEN → buffer_after ≡ buffer_before
  pub kept_count : (HasAnswer status) ⊎ (after ≡ before)
