-- What searches for rows answer.
use Rattle.std.specs.Prelude.{ℕ, List, Option, Result}
use Rattle.vortex_filter.specs.Formula.{Formula}
use Rattle.zone_index.specs.Answers.{AnswersCount, AnswersFind}
use Rattle.zone_index.specs.declared.errors.SearchError.{SearchError}
use Rattle.zone_index.specs.declared.search.Tally.{Tally}
use Rattle.zone_index.specs.declared.zones.Zone.{Zone}
use Rattle.record_search.specs.Refused.{RefusesRecord}
use Rattle.record_search.specs.Searched.{IsRowIndex, decision_of, is_refused, matches_record}
use Rattle.record_rows.specs.declared.schema.Schema.{Schema}

-- r answers a search for the records on whose row the formula is True; a sink that writes a record with its number so is given them
abbrev pub AnswersFindRows : Schema → Formula → (ℕ → List ℕ → List ℕ) → ℕ → List Zone → Option (List ℕ) → Option (List ℕ) → Option (List ℕ) → Result Tally SearchError → Type 0
AnswersFindRows s f written_as first zones known old new r =
    AnswersFind (IsRowIndex s) (RefusesRecord s) (is_refused s) s.delimiter.byte (matches_record s f) (decision_of s.columns.items f) written_as first zones known old new r

-- r answers how many these are
abbrev pub AnswersCountRows : Schema → Formula → List Zone → Option (List ℕ) → Result ℕ SearchError → Type 0
AnswersCountRows s f zones known r = AnswersCount (IsRowIndex s) (RefusesRecord s) (is_refused s) s.delimiter.byte (matches_record s f) (decision_of s.columns.items f) zones known r
