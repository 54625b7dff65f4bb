-- Worked cases of the definitions, each a theorem.
use Rattle.std.specs.Prelude.{◌≡◌, ℕ, List, [], ◌∷◌, Bool, true, false, codes, refl}
use Rattle.csv_records.specs.Records.{records_of}
use Rattle.csv_records.specs.Rows.{Field, rows_of}

abbrev bare : List ℕ → Field
bare text = record { text = text; is_quoted = false }

abbrev quoted : List ℕ → Field
quoted text = record { text = text; is_quoted = true }

-- a line feed in quotes does not end a record
pub quotes-hold-feeds : records_of 44 (codes "a,\"b\nc\"\nd\n") ≡ codes "a,\"b\nc\"\n" ∷ codes "d\n" ∷ []
quotes-hold-feeds = refl

-- a quote inside of a field without quotes is a byte like others
pub bare-quote-is-a-byte : records_of 44 (codes "5\" pipe\n6\n") ≡ codes "5\" pipe\n" ∷ codes "6\n" ∷ []
bare-quote-is-a-byte = refl

-- both line ends, and a last line without one
pub both-line-ends : rows_of 44 (codes "a,b\r\nc\nd") ≡ (bare (codes "a") ∷ bare (codes "b") ∷ []) ∷ (bare (codes "c") ∷ []) ∷ (bare (codes "d") ∷ []) ∷ []
both-line-ends = refl

-- two quotes inside of quotes are one, and a field without a byte may have quotes
pub quotes-are-told : rows_of 59 (codes "\"a\"\"b\";;\"\"\n") ≡ (quoted (codes "a\"b") ∷ bare [] ∷ quoted [] ∷ []) ∷ []
quotes-are-told = refl

-- an empty line is a record without a row
pub empty-line-has-no-row : rows_of 44 (codes "\r\n") ≡ []
empty-line-has-no-row = refl

-- a carriage return ends a row, but no record, which so has two
pub return-inside : rows_of 44 (codes "a\rb\n") ≡ (bare (codes "a") ∷ []) ∷ (bare (codes "b") ∷ []) ∷ []
return-inside = refl

pub one-record : records_of 44 (codes "a\rb\n") ≡ codes "a\rb\n" ∷ []
one-record = refl

-- returns that no bytes follow end one row
pub returns-at-end : rows_of 44 (codes "a\r\r\n") ≡ (bare (codes "a") ∷ []) ∷ []
returns-at-end = refl
