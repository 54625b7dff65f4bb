-- The statuses and the version as numbers, which callers in other languages have again.
use Rattle.std.specs.Prelude.{◌≡◌, ℕ, ◌+◌, ◌*◌}
use Rattle.vortex_c.specs.declared.status.TheConstants.{BAD_BYTES, BAD_FILTER, BAD_OFFSETS, BAD_OPTIONS, BUFFER_TOO_SMALL, GIVEN, NONE, NOT_A_NUMBER, NOT_A_VALUE, NOT_UTF8, NO_MEMORY, REFUSED, TOO_MANY_ROWS, TOO_SHORT, UNKNOWN_KIND, WRONG_LENGTH}

-- each status by its number
pub record AreStatuses : Type 0 where
  pub given : GIVEN ≡ 0
  pub none : NONE ≡ 1
  pub no_memory : NO_MEMORY ≡ 2
  pub buffer_too_small : BUFFER_TOO_SMALL ≡ 3
  pub not_utf8 : NOT_UTF8 ≡ 4
  pub not_a_number : NOT_A_NUMBER ≡ 5
  pub bad_offsets : BAD_OFFSETS ≡ 6
  pub unknown_kind : UNKNOWN_KIND ≡ 7
  pub too_many_rows : TOO_MANY_ROWS ≡ 8
  pub too_short : TOO_SHORT ≡ 9
  pub bad_bytes : BAD_BYTES ≡ 10
  pub bad_filter : BAD_FILTER ≡ 11
  pub wrong_length : WRONG_LENGTH ≡ 12
  pub bad_options : BAD_OPTIONS ≡ 13
  pub not_a_value : NOT_A_VALUE ≡ 14
  pub refused : REFUSED ≡ 15

-- the number of version 0.1.0
abbrev pub version_number : ℕ
version_number = 0 * 65536 + 1 * 256 + 0
