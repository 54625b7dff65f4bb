-- What a reader of `csv` gives are the rows of what it has left, by the law of rows.
use Rattle.std.proofs.Common.{◌≡◌, ◌⊎◌, ◌∙◌, inl, inr, ℕ, List, [], ◌∷◌, ◌++◌, true, false, Option, Some, ap, map, sym, ap₂, refl, subst, append_assoc, append-nil}
use Rattle.csv.proofs.ReadFacts.{rows-end, rows-more}
use Rattle.csv.specs.Reading.{ExplainsRead, Reached, ReadRecord, is_flexible, is_io, source_of}
use Rattle.csv.specs.declared.error.ErrorKind.{ErrorKind}
use Rattle.csv.specs.declared.error.ErrorKind.TheVariants as kinds
use Rattle.csv.specs.declared.parser.State.{State}
use Rattle.csv.specs.declared.reader.Reader.{Reader}
use Rattle.csv_records.specs.Laws.{AreNext, RowsAreRead, texts_of}
use Rattle.csv_records.specs.Rows.{config_of, rows_from}

-- the rows from a state on
abbrev rows_left : ℕ → State → List ℕ → List (List (List ℕ))
rows_left d s bytes = map texts_of (rows_from d s [] false bytes)

one_row : RowsAreRead → (d : ℕ) (s after : State) (bytes rest : List ℕ) (fields : List (List ℕ))
    → Reached (config_of d) s bytes (fields ∷ []) after rest → rows_left d s bytes ≡ fields ∷ rows_left d after rest
unfolding Reached
one_row law d s after bytes rest fields h =
    let next : AreNext d (Some h.0) (rows_from d s [] false bytes) = subst (λ o. AreNext d o (rows_from d s [] false bytes)) h.1 (law d s bytes) in
    ap (map texts_of) next.2
    ∙ ap₂ (λ (f : List (List ℕ)) (rows : List (List (List ℕ))). f ∷ rows) (sym next.1 ∙ sym h.2) (ap₂ (rows_left d) h.3.0 h.3.1)

-- a row more
pub row_more : {R : Type 0} → RowsAreRead → (rem : R → Option (List ℕ)) (a b : Reader R) (d : ℕ) (fields : List (List ℕ)) (bytes : List ℕ) (before all : List (List (List ℕ)))
    → a.config ≡ config_of d → source_of rem a ≡ Some bytes → ReadRecord rem a b true fields → before ++ rows_left d a.state bytes ≡ all
    → (rest : List ℕ) × (source_of rem b ≡ Some rest) × ((before ++ fields ∷ []) ++ rows_left d b.state rest ≡ all)
unfolding Reached
row_more law rem a b d fields bytes before all config source read so_far =
    let more = rows-more rem a b fields (config_of d) a.state bytes bytes [] config source (refl, refl) read in
    let one = one_row law d a.state b.state bytes more.0 fields more.2 in
    (more.0, more.1, append_assoc before (fields ∷ []) (rows_left d b.state more.0) ∙ ap (λ rows. before ++ rows) (sym one) ∙ so_far)

-- no row is left
pub row_none : {R : Type 0} → RowsAreRead → (rem : R → Option (List ℕ)) (a b : Reader R) (d : ℕ) (fields : List (List ℕ)) (bytes : List ℕ) (before all : List (List (List ℕ)))
    → a.config ≡ config_of d → source_of rem a ≡ Some bytes → ReadRecord rem a b false fields → before ++ rows_left d a.state bytes ≡ all → before ≡ all
row_none law rem a b d fields bytes before all config source read so_far =
    let ended = rows-end rem a b fields (config_of d) bytes config source read in
    let none : rows_from d a.state [] false bytes ≡ [] = subst (λ o. AreNext d o (rows_from d a.state [] false bytes)) ended (law d a.state bytes) in
    sym (append-nil before) ∙ ap (λ rows. before ++ map texts_of rows) (sym none) ∙ so_far

-- why a row of any length was not read
pub not_read : {R : Type 0} (rem : R → Option (List ℕ)) (a b : Reader R) (k : ErrorKind) → is_flexible a ≡ true → ExplainsRead rem a b false k → (k ≡ kinds.OutOfMemory) ⊎ (is_io k ≡ true)
not_read rem a b (kinds.Io e) flexible why = inr refl
not_read rem a b kinds.OutOfMemory flexible why = inl refl
not_read rem a b (kinds.UnequalLengths pos expected len) flexible why = absurd (cc (why.0))
not_read rem a b (kinds.Utf8 pos err) flexible why = absurd (cc (why.0))
not_read rem a b (kinds.Serialize text) flexible why = absurd why
not_read rem a b (kinds.Deserialize pos err) flexible why = absurd why
