-- The rows of a text, after the machine of `csv`: what it reads, and whether a field began with a quote.
use Rattle.std.specs.Prelude.{ℕ, List, [], ◌∷◌, ◌||◌, Bool, true, false, None, if◌then◌else◌}
use Rattle.std.specs.List.{onto_first}
use Rattle.csv.specs.Machine.{ends_at_end, field_after, step}
use Rattle.csv.specs.declared.parser.Action.{Action}
use Rattle.csv.specs.declared.parser.Action.TheVariants as act
use Rattle.csv.specs.declared.parser.Config.{Config}
use Rattle.csv.specs.declared.parser.State.{State}
use Rattle.csv.specs.declared.parser.State.TheVariants as st
use Rattle.csv.specs.declared.parser.Terminator.TheVariants as term

-- a field of a row: its bytes, and whether it began with a quote
pub record Field : Type 0 where
  pub text : List ℕ
  pub is_quoted : Bool

-- how `csv` reads with this byte between fields, and else by its defaults
abbrev pub config_of : ℕ → Config
config_of delimiter = record { delimiter = delimiter; quote = 34; escape = None; double_quote = true; quoting = true; comment = None; terminator = term.CRLF }

-- the state after these bytes
abbrev pub state_after : ℕ → State → List ℕ → State
state_after delimiter s [] = s
state_after delimiter s (c ∷ rest) = state_after delimiter (step (config_of delimiter) s c).0 rest

abbrev pub is_in_quotes : State → Bool
is_in_quotes st.InQuoted = true
is_in_quotes st.StartRecord = false
is_in_quotes st.AfterCr = false
is_in_quotes st.InComment = false
is_in_quotes st.StartField = false
is_in_quotes st.InField = false
is_in_quotes st.AfterQuote = false
is_in_quotes st.InEscape = false

-- whether the field at hand began with a quote, after a byte with this action that leads to this state
abbrev pub quoted_after : Action → State → Bool → Bool
quoted_after act.Skip s quoted = quoted || is_in_quotes s
quoted_after act.Copy s quoted = quoted
quoted_after act.EndField s quoted = false
quoted_after act.EndRecord s quoted = false

-- the rows, where those after a byte with this action are these and the field before it is this one
abbrev pub joined : Action → Field → List (List Field) → List (List Field)
joined act.EndRecord field rows = (field ∷ []) ∷ rows
joined act.EndField field rows = onto_first field rows
joined act.Skip field rows = rows
joined act.Copy field rows = rows

-- the rows from a state on, where the field at hand has these bytes so far
abbrev pub rows_from : ℕ → State → List ℕ → Bool → List ℕ → List (List Field)
rows_from delimiter s text quoted [] = if ends_at_end s then (record { text = text; is_quoted = quoted } ∷ []) ∷ [] else []
rows_from delimiter s text quoted (c ∷ rest) =
    let r = step (config_of delimiter) s c in
    joined r.1 (record { text = text; is_quoted = quoted }) (rows_from delimiter r.0 (field_after r.1 c text) (quoted_after r.1 r.0 quoted) rest)

-- the rows of a text
abbrev pub rows_of : ℕ → List ℕ → List (List Field)
rows_of delimiter bytes = rows_from delimiter st.StartRecord [] false bytes

-- the rows of a text that begins where a field does
abbrev pub field_rows : ℕ → List ℕ → List (List Field)
field_rows delimiter bytes = rows_from delimiter st.StartField [] false bytes
