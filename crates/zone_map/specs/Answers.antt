-- What a search by an index answers, together with the records that are new since the file was indexed.
use Rattle.std.specs.Prelude.{◌≡◌, ◌≢◌, ◌<◌, ◌≤◌, ◌+◌, ◌++◌, ◌==◌, ◌^◌, ℕ, List, Bool, Option, None, Some, Result, IfErr, IfOk, IfSome, OnErr, OnOk, count_by, drop, if◌then◌else◌, length}
use Rattle.std.specs.Io.KnownBytes.{Appends}
use Rattle.csv_records.specs.Records.{records_of}
use Rattle.zone_index.specs.Errors.{IfRefused, TellsOffset, TellsOneOf, before_refused}
use Rattle.zone_index.specs.Sinks.{WritesFirst, told, written_of}
use Rattle.zone_index.specs.Zones.{IsHeld, is_copied, is_searched, is_skipped, is_undecided, offset_or, refused_in, zone_records}
use Rattle.zone_index.specs.declared.errors.Cause.{Cause}
use Rattle.zone_index.specs.declared.errors.SearchError.{SearchError}
use Rattle.zone_index.specs.declared.errors.SearchError.TheVariants.{CutShort, TooFar, Write as FailedWrite}
use Rattle.zone_index.specs.declared.records.Decision.{Decision}
use Rattle.zone_index.specs.declared.search.Tally.{Tally}
use Rattle.zone_index.specs.declared.zones.Zone.{Zone}
use Rattle.zone_map.specs.declared.answering.Found.{Found}

-- the number of the first record that is a row, if so many bytes of a header stand before it. The header is the first record
abbrev pub first_number : ℕ → ℕ
first_number start = if start == 0 then 1 else 2

-- the bytes of a file for which an index is right, as far as a reader has them, and the bytes that are new behind these, which
-- another reader has left
pub record AreParts (IsIndex : ℕ → List Zone → List ℕ → Type 0) (start : ℕ) (zones : List Zone) (known left : Option (List ℕ)) (was new : List ℕ) : Type 0 where
  pub held : IsHeld known was
  pub right : IsIndex start zones was
  pub is : left ≡ Some new

-- the records of both: first those behind the header, then those that are new
abbrev pub all_records : ℕ → ℕ → List ℕ → List ℕ → List (List ℕ)
all_records delimiter start was new = records_of delimiter (drop start was) ++ records_of delimiter new

-- where the first record begins that is refused: of the zones that are read, or else of what is new
abbrev pub refused_of_all : (List ℕ → Bool) → (Zone → Bool) → ℕ → List Zone → List ℕ → List ℕ → Option ℕ
refused_of_all is_refused is_read delimiter zones was new =
    offset_or 0 (refused_in is_refused is_read (zone_records delimiter was) zones) (offset_or (length was) (before_refused is_refused (records_of delimiter new)) None)

-- why such a search stops: the file is shorter than the index says, or it has 2^64 bytes; or a record is refused, which is one of
-- these, begins where that is told, and is the first one of the zones that are read and of what is new
pub record StopsInAll (IsIndex : ℕ → List Zone → List ℕ → Type 0) (Refuses : List ℕ → Cause → Type 0) (is_refused : List ℕ → Bool) (is_read : Zone → Bool) (delimiter start : ℕ) (zones : List Zone) (known left : Option (List ℕ)) (fault : SearchError) : Type 0 where
  pub cut : fault ≡ CutShort → IfSome known (λ bytes. (was : List ℕ) → IsIndex start zones was → length bytes < length was)
  pub far : fault ≡ TooFar → (was new : List ℕ) → AreParts IsIndex start zones known left was new → 2 ^ 64 ≤ length was + length new
  pub refused : IfRefused (λ refusal. (was new : List ℕ) → AreParts IsIndex start zones known left was new → TellsOneOf Refuses start (all_records delimiter start was new) refusal) fault
  pub first : IfRefused (λ refusal. (was new : List ℕ) → AreParts IsIndex start zones known left was new → TellsOffset 0 (refused_of_all is_refused is_read delimiter zones was new) refusal) fault

-- what became of the zones
pub record Tallies (decides : List ℕ → Decision) (zones : List Zone) (tally : Tally) : Type 0 where
  pub skipped : tally.skipped ≡ count_by (is_skipped decides) zones
  pub copied : tally.copied ≡ count_by (is_copied decides) zones
  pub searched : tally.searched ≡ count_by (is_searched decides) zones

-- r answers a search by these zones and of what is new, which gives a sink the records that match, numbered on. After an error a
-- beginning of that was written; other than one of the writer, it is that of the first records. None is refused of those that were read
pub record AnswersFindInAll (IsIndex : ℕ → List Zone → List ℕ → Type 0) (Refuses : List ℕ → Cause → Type 0) (is_refused : List ℕ → Bool) (delimiter : ℕ) (matches : List ℕ → Bool) (decides : List ℕ → Decision) (written_as : ℕ → List ℕ → List ℕ) (start : ℕ) (zones : List Zone) (known left old now : Option (List ℕ)) (r : Result Found SearchError) : Type 0 where
  pub written : OnOk r ((was new : List ℕ) → AreParts IsIndex start zones known left was new → Appends old now (written_of written_as matches (first_number start) (all_records delimiter start was new)))
  pub rows : IfOk r (λ found. (was new : List ℕ) → AreParts IsIndex start zones known left was new → found.rows ≡ told (count_by matches (all_records delimiter start was new)))
  pub passed : OnOk r ((was new : List ℕ) → AreParts IsIndex start zones known left was new → refused_of_all is_refused (is_searched decides) delimiter zones was new ≡ None)
  pub tally : IfOk r (λ found. Tallies decides zones found.tally)
  pub partial : IfErr r (λ fault. fault ≢ FailedWrite → (was new : List ℕ) → AreParts IsIndex start zones known left was new
      → (first others : List (List ℕ)) × (all_records delimiter start was new ≡ first ++ others) × Appends old now (written_of written_as matches (first_number start) first))
  pub begun : OnErr r ((was new : List ℕ) → AreParts IsIndex start zones known left was new → WritesFirst old now (written_of written_as matches (first_number start) (all_records delimiter start was new)))
  pub stops : IfErr r (StopsInAll IsIndex Refuses is_refused (is_searched decides) delimiter start zones known left)

-- r answers how many records match of the zones and of what is new, as far as 64 bits count. None is refused of those that were read
pub record AnswersCountInAll (IsIndex : ℕ → List Zone → List ℕ → Type 0) (Refuses : List ℕ → Cause → Type 0) (is_refused : List ℕ → Bool) (delimiter : ℕ) (matches : List ℕ → Bool) (decides : List ℕ → Decision) (start : ℕ) (zones : List Zone) (known left : Option (List ℕ)) (r : Result ℕ SearchError) : Type 0 where
  pub counted : IfOk r (λ n. (was new : List ℕ) → AreParts IsIndex start zones known left was new → n ≡ told (count_by matches (all_records delimiter start was new)))
  pub passed : OnOk r ((was new : List ℕ) → AreParts IsIndex start zones known left was new → refused_of_all is_refused (is_undecided decides) delimiter zones was new ≡ None)
  pub reading : IfErr r (λ fault. fault ≢ FailedWrite)
  pub stops : IfErr r (StopsInAll IsIndex Refuses is_refused (is_undecided decides) delimiter start zones known left)

-- r answers a search of all that a stream has left behind a header of so many bytes, which gives a sink the records that match. After
-- an error a beginning of that was written; other than one of the writer, it is that of the first records. None is refused, or else
-- the first one that is refused is told
pub record AnswersFindWhole (Refuses : List ℕ → Cause → Type 0) (is_refused : List ℕ → Bool) (delimiter : ℕ) (matches : List ℕ → Bool) (written_as : ℕ → List ℕ → List ℕ) (start : ℕ) (left old now : Option (List ℕ)) (r : Result ℕ SearchError) : Type 0 where
  pub written : OnOk r ((bytes : List ℕ) → left ≡ Some bytes → Appends old now (written_of written_as matches (first_number start) (records_of delimiter bytes)))
  pub rows : IfOk r (λ n. (bytes : List ℕ) → left ≡ Some bytes → n ≡ count_by matches (records_of delimiter bytes))
  pub passed : OnOk r ((bytes : List ℕ) → left ≡ Some bytes → before_refused is_refused (records_of delimiter bytes) ≡ None)
  pub partial : IfErr r (λ fault. fault ≢ FailedWrite → (bytes : List ℕ) → left ≡ Some bytes
      → (first others : List (List ℕ)) × (records_of delimiter bytes ≡ first ++ others) × Appends old now (written_of written_as matches (first_number start) first))
  pub begun : OnErr r ((bytes : List ℕ) → left ≡ Some bytes → WritesFirst old now (written_of written_as matches (first_number start) (records_of delimiter bytes)))
  pub refused : IfErr r (IfRefused (λ refusal. (bytes : List ℕ) → left ≡ Some bytes → TellsOneOf Refuses start (records_of delimiter bytes) refusal))
  pub first : IfErr r (IfRefused (λ refusal. (bytes : List ℕ) → left ≡ Some bytes → TellsOffset start (before_refused is_refused (records_of delimiter bytes)) refusal))
