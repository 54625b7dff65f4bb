-- A text is cut into records: after each line feed where a record may start.
use Rattle.std.specs.Prelude.{◌≡◌, ◌<◌, ℕ, List, [], ◌∷◌, ◌==◌, ◌&&◌, Bool, true, false, if◌then◌else◌, length, slice_index}
use Rattle.std.specs.List.{onto_first}
use Rattle.csv.specs.Machine.{step}
use Rattle.csv.specs.declared.parser.State.{State}
use Rattle.csv.specs.declared.parser.State.TheVariants as st
use Rattle.csv_records.specs.Rows.{config_of}
use Rattle.csv_records.specs.declared.states.RecordState.{RecordState}
use Rattle.csv_records.specs.declared.states.RecordState.TheVariants as own

-- whether a record may start here
abbrev pub is_start : State → Bool
is_start st.StartRecord = true
is_start st.AfterCr = false
is_start st.InComment = false
is_start st.StartField = false
is_start st.InField = false
is_start st.InQuoted = false
is_start st.AfterQuote = false
is_start st.InEscape = false

-- the records from a state on
abbrev pub records_from : ℕ → State → List ℕ → List (List ℕ)
records_from delimiter s [] = []
records_from delimiter s (c ∷ rest) =
    let next = (step (config_of delimiter) s c).0 in
    if (c == 10) && is_start next then (c ∷ []) ∷ records_from delimiter st.StartRecord rest
    else onto_first c (records_from delimiter next rest)

-- the records of a text, each with its line feed; a last one has none where the text ends without it.
-- An empty line is a record without a row
abbrev pub records_of : ℕ → List ℕ → List (List ℕ)
records_of delimiter bytes = records_from delimiter st.StartRecord bytes

-- before each line feed of the bytes stands a quote
abbrev pub HasNoPlainFeed : List ℕ → Type 0
HasNoPlainFeed bytes = (k : ℕ) → k < length bytes → slice_index bytes k ≡ 10 → (j : ℕ) × (j < k) × (slice_index bytes j ≡ 34)

-- the state of `csv`
abbrev pub state_at : RecordState → State
state_at own.StartRecord = st.StartRecord
state_at own.AfterCr = st.AfterCr
state_at own.StartField = st.StartField
state_at own.InField = st.InField
state_at own.InQuoted = st.InQuoted
state_at own.AfterQuote = st.AfterQuote
