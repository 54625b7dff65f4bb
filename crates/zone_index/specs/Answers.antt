-- What searches by an index answer.
use Rattle.std.specs.Prelude.{◌≡◌, ◌≢◌, ◌<◌, ◌≤◌, ◌-◌, ◌^◌, ℕ, List, Bool, Option, None, Result, IfErr, IfOk, IfSome, OnErr, OnOk, count_by, drop, length, min, take}
use Rattle.std.specs.Io.KnownBytes.{Appends}
use Rattle.csv_records.specs.Records.{records_of}
use Rattle.zone_index.specs.Errors.{IfRefused, TellsOneOf, TellsOffset}
use Rattle.zone_index.specs.Records.{kept_of}
use Rattle.zone_index.specs.Sinks.{IsPlain, WritesFirst, written_in, written_of}
use Rattle.zone_index.specs.Zones.{IsHeld, found_in, is_copied, is_searched, is_skipped, is_undecided, refused_in, zone_records}
use Rattle.zone_index.specs.declared.errors.Cause.{Cause}
use Rattle.zone_index.specs.declared.errors.SearchError.{SearchError}
use Rattle.zone_index.specs.declared.errors.SearchError.TheVariants.{CutShort, TooFar, Write as FailedWrite}
use Rattle.zone_index.specs.declared.records.Decision.{Decision}
use Rattle.zone_index.specs.declared.search.Tally.{Tally}
use Rattle.zone_index.specs.declared.zones.Zone.{Zone}

-- why a search by these zones stops, of which a reader has known bytes: there are fewer than the index is right for, or 2^64 of
-- them; or a record is refused, which is one of the bytes, begins where that is told, and is the first one of the zones that are read
pub record StopsRightly (IsIndex : ℕ → List Zone → List ℕ → Type 0) (Refuses : List ℕ → Cause → Type 0) (is_refused : List ℕ → Bool) (is_read : Zone → Bool) (delimiter : ℕ) (zones : List Zone) (known : Option (List ℕ)) (fault : SearchError) : Type 0 where
  pub cut : fault ≡ CutShort → IfSome known (λ bytes. (was : List ℕ) (start : ℕ) → IsIndex start zones was → length bytes < length was)
  pub far : fault ≡ TooFar → (was : List ℕ) (start : ℕ) → IsIndex start zones was → 2 ^ 64 ≤ length was
  pub refused : IfRefused (λ refusal. (was : List ℕ) (start : ℕ) → IsHeld known was → IsIndex start zones was → TellsOneOf Refuses start (records_of delimiter (drop start was)) refusal) fault
  pub first : IfRefused (λ refusal. (was : List ℕ) (start : ℕ) → IsHeld known was → IsIndex start zones was → TellsOffset 0 (refused_in is_refused is_read (zone_records delimiter was) zones) refusal) fault

-- r answers a search by these zones, which gives a sink the records that match; the first of all records has this number. What is
-- said of the bytes that the index is right for holds where those that the reader has are these, fewer or more. After an error
-- a beginning of the right output was written; other than one of the writer, what is found in the first zones, and nothing of the next one. No record is refused of the zones that were searched
pub record AnswersFind (IsIndex : ℕ → List Zone → List ℕ → Type 0) (Refuses : List ℕ → Cause → Type 0) (is_refused : List ℕ → Bool) (delimiter : ℕ) (matches : List ℕ → Bool) (decides : List ℕ → Decision) (written_as : ℕ → List ℕ → List ℕ) (first : ℕ) (zones : List Zone) (known old new : Option (List ℕ)) (r : Result Tally SearchError) : Type 0 where
  pub written : OnOk r ((was : List ℕ) (start : ℕ) → IsHeld known was → IsIndex start zones was → Appends old new (written_of written_as matches first (records_of delimiter (drop start was))))
  pub plain : OnOk r (IsPlain written_as → (was : List ℕ) (start : ℕ) → IsHeld known was → IsIndex start zones was → Appends old new (kept_of delimiter matches (drop start was)))
  pub found : IfOk r (λ tally. (was : List ℕ) (start : ℕ) → IsHeld known was → IsIndex start zones was → tally.found ≡ min (count_by matches (records_of delimiter (drop start was))) (2 ^ 64 - 1))
  pub passed : OnOk r ((was : List ℕ) (start : ℕ) → IsHeld known was → IsIndex start zones was → refused_in is_refused (is_searched decides) (zone_records delimiter was) zones ≡ None)
  pub skipped : IfOk r (λ tally. tally.skipped ≡ count_by (is_skipped decides) zones)
  pub copied : IfOk r (λ tally. tally.copied ≡ count_by (is_copied decides) zones)
  pub searched : IfOk r (λ tally. tally.searched ≡ count_by (is_searched decides) zones)
  pub partial : IfErr r (λ fault. fault ≢ FailedWrite → (was : List ℕ) (start : ℕ) → IsHeld known was → IsIndex start zones was → (k : ℕ) × Appends old new (written_in written_as matches first delimiter was (take k zones)))
  pub partial_plain : IfErr r (λ fault. fault ≢ FailedWrite → IsPlain written_as → (was : List ℕ) (start : ℕ) → IsHeld known was → IsIndex start zones was → (k : ℕ) × Appends old new (found_in delimiter matches was (take k zones)))
  pub begun : OnErr r ((was : List ℕ) (start : ℕ) → IsHeld known was → IsIndex start zones was → WritesFirst old new (written_of written_as matches first (records_of delimiter (drop start was))))
  pub stops : IfErr r (StopsRightly IsIndex Refuses is_refused (is_searched decides) delimiter zones known)

-- r answers how many records match by these zones, of the bytes that the index is right for, where those that the reader has are
-- these, fewer or more. No record is refused of the zones that were read
pub record AnswersCount (IsIndex : ℕ → List Zone → List ℕ → Type 0) (Refuses : List ℕ → Cause → Type 0) (is_refused : List ℕ → Bool) (delimiter : ℕ) (matches : List ℕ → Bool) (decides : List ℕ → Decision) (zones : List Zone) (known : Option (List ℕ)) (r : Result ℕ SearchError) : Type 0 where
  pub counted : IfOk r (λ n. (was : List ℕ) (start : ℕ) → IsHeld known was → IsIndex start zones was → n ≡ count_by matches (records_of delimiter (drop start was)))
  pub passed : OnOk r ((was : List ℕ) (start : ℕ) → IsHeld known was → IsIndex start zones was → refused_in is_refused (is_undecided decides) (zone_records delimiter was) zones ≡ None)
  pub reading : IfErr r (λ fault. fault ≢ FailedWrite)
  pub stops : IfErr r (StopsRightly IsIndex Refuses is_refused (is_undecided decides) delimiter zones known)
