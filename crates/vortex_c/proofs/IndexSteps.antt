-- What is said of the encoding of an index, said of the bytes by its setup.
use Rattle.std.proofs.Common.{◌≡◌, ℕ, List, length, subst}
use Rattle.csv_columns.specs.declared.setup.Setup.{Setup}
use Rattle.file_search.specs.Sought.{IsSetupOf}
use Rattle.vortex_c.specs.EncodingAnswers.{AnswersEncoding}
use Rattle.vortex_c.specs.Indexes.{AreIndexBytes, IsIndexBy}
use Rattle.vortex_c.specs.declared.index_zones.IndexZone.{IndexZone}

answers_then : (Is Js : List ℕ → Type 0) (buffer_before buffer_after : List ℕ) (before after status : ℕ) → ((bytes : List ℕ) → Is bytes → Js bytes) → AnswersEncoding Is buffer_before buffer_after before after status → AnswersEncoding Js buffer_before buffer_after before after status
answers_then Is Js buffer_before buffer_after before after status then h = record {
  given = λ g. then _ (h.given g);
  within = h.within;
  needed = λ has. let n = h.needed has in (n.0, then n.0 n.1, n.2);
  small = h.small;
  rest = h.rest;
  kept_buffer = h.kept_buffer;
  kept_count = h.kept_count;
}

-- of as many columns as the setup has
pub index_answered : (setup : List ℕ) (read : Setup) (columns file_length changed start : ℕ) (zones : List IndexZone) (statistics buffer_before buffer_after : List ℕ) (before after status : ℕ) → IsSetupOf setup read → columns ≡ length read.columns.items
    → AnswersEncoding (AreIndexBytes columns setup file_length changed start zones statistics) buffer_before buffer_after before after status → AnswersEncoding (IsIndexBy setup file_length changed start zones statistics) buffer_before buffer_after before after status
index_answered setup read columns file_length changed start zones statistics buffer_before buffer_after before after status is many h =
    answers_then (AreIndexBytes columns setup file_length changed start zones statistics) (IsIndexBy setup file_length changed start zones statistics) buffer_before buffer_after before after status
    (λ bytes own. record { read = read; is = is; bytes_are = subst (λ (n : ℕ). AreIndexBytes n setup file_length changed start zones statistics bytes) many own }) h
