-- Records that match, with where they stand.
use Rattle.std.specs.Prelude.{◌≡◌, ◌⊎◌, ℕ, ◌+◌, List, [], ◌∷◌, ◌++◌, Bool, false, drop, length, take, true, if◌then◌else◌, ◌≤◌}
use Rattle.std.specs.List.{AllByRecursion, concat}
use Rattle.csv_records.specs.Records.{records_of}
use Rattle.zone_index.specs.Errors.{IfRefused}
use Rattle.zone_index.specs.Sinks.{told}
use Rattle.zone_index.specs.declared.errors.Refusal.{Refusal}
use Rattle.zone_index.specs.declared.errors.SearchError.{SearchError}
use Rattle.zone_index.specs.declared.zones.Position.{Position}
use Rattle.zone_scans.specs.declared.finding.FoundRecord.{FoundRecord}
use Rattle.zone_scans.specs.declared.finding.Searched.{Searched}

-- a record that begins at this offset and has this number
abbrev pub found_at : ℕ → ℕ → List ℕ → FoundRecord
found_at place number line = record { place = place; length = length line; number = number }

-- those of records that match, in order: the first of all begins at this offset and has this number
abbrev pub found_of : (List ℕ → Bool) → ℕ → ℕ → List (List ℕ) → List FoundRecord
found_of matches place number [] = []
found_of matches place number (line ∷ lines) = (if matches line then found_at (told place) (told number) line ∷ [] else []) ++ found_of matches (place + length line) (number + 1) lines

-- where the record behind this one stands
abbrev pub position_after : Position → List ℕ → Position
position_after p line = record { place = told (p.place + length line); number = told (p.number + 1) }

-- the next record of a text matches
pub record IsHitNext (delimiter : ℕ) (matches : List ℕ → Bool) (rest : List ℕ) : Type 0 where
  pub line : List ℕ
  pub others : List (List ℕ)
  pub next : records_of delimiter rest ≡ line ∷ others
  pub hit : matches line ≡ true

-- why no more is judged: nothing is left, or there is no room for a record that matches, or the last record may be cut
abbrev pub IsStop : ℕ → (List ℕ → Bool) → Bool → List ℕ → ℕ → ℕ → Type 0
IsStop delimiter matches is_end rest count room =
    (rest ≡ []) ⊎ (((count ≡ room) × IsHitNext delimiter matches rest) ⊎ ((is_end ≡ false) × (records_of delimiter rest ≡ rest ∷ [])))

-- so many were found of the records that were judged of a text, and here stands the next one. Where the file goes on behind the
-- text, those are its next records, whatever follows
pub record IsJudged (delimiter : ℕ) (matches is_refused : List ℕ → Bool) (start : Position) (text : List ℕ) (is_end : Bool) (rest : List ℕ) (into : List FoundRecord) (count : ℕ) (next : Position) : Type 0 where
  pub judged : List (List ℕ)
  pub records : records_of delimiter text ≡ judged ++ records_of delimiter rest
  pub certain : is_end ≡ false → (more : List ℕ) → records_of delimiter (text ++ more) ≡ judged ++ records_of delimiter (rest ++ more)
  pub bytes : text ≡ concat judged ++ rest
  pub found : take count into ≡ found_of matches start.place start.number judged
  pub passed : AllByRecursion (λ line. is_refused line ≡ false) judged
  pub place : next.place ≡ told (start.place + length (concat judged))
  pub number : next.number ≡ told (start.number + length judged)

-- and no more was judged, for such a reason
pub record IsSearched (delimiter : ℕ) (matches is_refused : List ℕ → Bool) (start : Position) (text : List ℕ) (is_end : Bool) (into : List FoundRecord) (s : Searched) : Type 0 where
  pub rest : List ℕ
  pub judged : IsJudged delimiter matches is_refused start text is_end rest into s.count s.next
  pub stop : IsStop delimiter matches is_end rest s.count (length into)

-- the next record of a text is refused, and the refusal tells where it begins. Where the file goes on behind the text, it is the
-- next one whatever follows
pub record IsRefusedNext (delimiter : ℕ) (is_refused : List ℕ → Bool) (is_end : Bool) (rest : List ℕ) (next : Position) (refusal : Refusal) : Type 0 where
  pub line : List ℕ
  pub after : List ℕ
  pub is : records_of delimiter rest ≡ line ∷ records_of delimiter after
  pub certain : is_end ≡ false → (more : List ℕ) → records_of delimiter (rest ++ more) ≡ line ∷ records_of delimiter (after ++ more)
  pub refused : is_refused line ≡ true
  pub place : refusal.place ≡ next.place

-- so many were found of the records that were judged before a fault, and nothing else was written. All records were judged that
-- come before one that is refused
pub record IsFoundBefore (delimiter : ℕ) (matches is_refused : List ℕ → Bool) (start : Position) (text : List ℕ) (is_end : Bool) (old new : List FoundRecord) (s : Searched) (fault : SearchError) : Type 0 where
  pub rest : List ℕ
  pub judged : IsJudged delimiter matches is_refused start text is_end rest new s.count s.next
  pub refused : IfRefused (IsRefusedNext delimiter is_refused is_end rest s.next) fault
  pub within : s.count ≤ length new
  pub kept : drop s.count new ≡ drop s.count old
