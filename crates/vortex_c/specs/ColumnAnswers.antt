-- What the bounds of a column come to: what each status says, and what is written then.
use Rattle.std.specs.Prelude.{◌≡◌, ◌≢◌, ℕ, ◌<◌, ◌≤◌, ◌⊎◌, List, drop, false, length, take}
use Rattle.vortex_c.specs.ColumnBounds.{AreColumnBounds, HasColumnBounds, HasValue, IsColumn, some_where}
use Rattle.vortex_c.specs.declared.column_bounds.BoundLengths.{BoundLengths}
use Rattle.vortex_c.specs.declared.status.TheConstants.{GIVEN, NONE, NO_MEMORY, BUFFER_TOO_SMALL, NOT_UTF8, BAD_OFFSETS}
use Rattle.vortex_dtype.specs.declared.buffer.TheConstants.{INLINE_BYTES}

-- what a status says of the column, of the lengths and of the buffers, as these are after the call
pub record AnswersColumn (BestLower BestUpper : List ℕ → ℕ → List ℕ → Type 0) (HasNoUpper : List ℕ → ℕ → Type 0) (bytes offsets : List ℕ) (n : ℕ) (lower_buffer upper_buffer : List ℕ) (lengths : BoundLengths) (status : ℕ) : Type 0 where
  pub statuses : (status ≡ GIVEN) ⊎ ((status ≡ NONE) ⊎ ((status ≡ NO_MEMORY) ⊎ ((status ≡ BUFFER_TOO_SMALL) ⊎ ((status ≡ NOT_UTF8) ⊎ (status ≡ BAD_OFFSETS)))))
  -- the buffers begin with the bounds
  pub given : status ≡ GIVEN → AreColumnBounds BestLower BestUpper HasNoUpper bytes offsets n (take lengths.lower lower_buffer) (some_where lengths.has_upper (take lengths.upper upper_buffer))
  pub within : status ≡ GIVEN → (lengths.lower ≤ length lower_buffer) × (lengths.upper ≤ length upper_buffer)
  pub no_upper : (status ≡ GIVEN) ⊎ (status ≡ BUFFER_TOO_SMALL) → lengths.has_upper ≡ false → lengths.upper ≡ 0
  -- NONE comes exactly if there is no value, and BAD_OFFSETS exactly if there is no column
  pub none : status ≡ NONE → ¬ (HasValue offsets 0)
  pub some : status ≢ NONE → HasValue offsets 0
  pub refused : status ≡ BAD_OFFSETS → ¬ (IsColumn bytes offsets)
  pub column : status ≢ BAD_OFFSETS → IsColumn bytes offsets
  -- memory is asked only for more bytes than n, at an n above 22
  pub inline : n ≤ INLINE_BYTES → status ≢ NO_MEMORY
  pub whole : length bytes ≤ n → status ≢ NO_MEMORY
  -- the lengths are those of the bounds, and a bound has more bytes than its buffer
  pub small : status ≡ BUFFER_TOO_SMALL → (length lower_buffer < lengths.lower) ⊎ (length upper_buffer < lengths.upper)
  pub needed : status ≡ BUFFER_TOO_SMALL → HasColumnBounds BestLower BestUpper HasNoUpper bytes offsets n lengths.lower lengths.upper lengths.has_upper
  pub enough : (n ≤ length lower_buffer) × (n ≤ length upper_buffer) → status ≢ BUFFER_TOO_SMALL
  pub enough_of_bytes : (length bytes ≤ length lower_buffer) × (length bytes ≤ length upper_buffer) → status ≢ BUFFER_TOO_SMALL

-- what is not said to be written stays: the rest of the buffers, and all of them without the bounds
pub record KeepsTheRest (lower_before lower_after upper_before upper_after : List ℕ) (before after : BoundLengths) (status : ℕ) : Type 0 where
  pub rest_lower : status ≡ GIVEN → drop after.lower lower_after ≡ drop after.lower lower_before
  pub rest_upper : status ≡ GIVEN → drop after.upper upper_after ≡ drop after.upper upper_before
  pub kept_lower : status ≢ GIVEN → lower_after ≡ lower_before
  pub kept_upper : status ≢ GIVEN → upper_after ≡ upper_before
  pub kept_lengths : (status ≢ GIVEN) × (status ≢ BUFFER_TOO_SMALL) → after ≡ before
