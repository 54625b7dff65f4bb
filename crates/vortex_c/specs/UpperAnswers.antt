-- What the upper bound of a value comes to: what each status says, and what is written then.
use Rattle.std.specs.Prelude.{◌≡◌, ◌≢◌, ℕ, ◌<◌, ◌≤◌, List, drop, length, take}
use Rattle.vortex_c.specs.Bounds.{HasNone, IsWholeOrBest, SomeOfLength}
use Rattle.vortex_c.specs.declared.status.TheConstants.{GIVEN, NONE, NO_MEMORY, BUFFER_TOO_SMALL}
use Rattle.vortex_dtype.specs.declared.buffer.TheConstants.{INLINE_BYTES}

-- what a status says of the bound of a value at n bytes, and of the buffer and the count, as these are before and after the call
pub record AnswersUpper (Best : List ℕ → ℕ → List ℕ → Type 0) (HasNoBest : List ℕ → ℕ → Type 0) (value : List ℕ) (n : ℕ) (buffer_before buffer_after : List ℕ) (before after status : ℕ) : Type 0 where
  -- the buffer begins with the bound
  pub given : status ≡ GIVEN → IsWholeOrBest Best value n (take after buffer_after)
  pub within : status ≡ GIVEN → after ≤ length buffer_after
  pub none : status ≡ NONE → HasNone HasNoBest value n
  -- memory is asked only for a longer value, at more than 22 bytes
  pub inline : n ≤ INLINE_BYTES → status ≢ NO_MEMORY
  pub whole : length value ≤ n → status ≢ NO_MEMORY
  -- the bound has as many bytes as is told, which is more than the buffer has
  pub small : status ≡ BUFFER_TOO_SMALL → length buffer_before < after
  pub needed : status ≡ BUFFER_TOO_SMALL → SomeOfLength Best value n after
  pub enough : n ≤ length buffer_before → status ≢ BUFFER_TOO_SMALL
  pub enough_of_value : length value ≤ length buffer_before → status ≢ BUFFER_TOO_SMALL
  -- what is not said to be written stays
  pub rest : status ≡ GIVEN → drop after buffer_after ≡ drop after buffer_before
  pub kept_buffer : status ≢ GIVEN → buffer_after ≡ buffer_before
  pub kept_count : (status ≢ GIVEN) × (status ≢ BUFFER_TOO_SMALL) → after ≡ before
