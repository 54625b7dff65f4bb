-- The rows are what `csv` reads.
use Rattle.std.proofs.Common.{◌≡◌, ◌≤◌, ◌+◌, ℕ, List, [], ◌∷◌, ◌++◌, ◌==◌, ◌&&◌, Bool, true, false, cond, Option, None, Some, refl, sym, ap, ◌∙◌, subst, length, map, append_assoc, append-nil, arith}
use Rattle.std.specs.List.{onto_first}
use Rattle.csv.specs.Machine.{Read, ends_at_end, field_after, fields_after, is_end, next_record, step}
use Rattle.csv.specs.declared.parser.Action.{Action}
use Rattle.csv.specs.declared.parser.Action.TheVariants as act
use Rattle.csv.specs.declared.parser.State.{State}
use Rattle.csv.specs.declared.parser.State.TheVariants as st
use Rattle.csv_records.specs.Laws.{AreNext, RowsAreRead, texts_of}
use Rattle.csv_records.specs.Rows.{Field, config_of, joined, quoted_after, rows_from, rows_of}
use Rattle.csv_records.proofs.RowCuts.{some_row, step_inside}

-- what is read next, after these fields of the row at hand
abbrev Follows : ℕ → List (List ℕ) → Option Read → List (List Field) → Type 0
Follows d fields None rows = rows ≡ []
Follows d fields (Some read) rows = (first : List Field) × (read.0 ≡ fields ++ texts_of first) × (rows ≡ first ∷ rows_from d read.1 [] false read.2)

abbrev at_hand : List ℕ → Bool → Field
at_hand t q = record { text = t; is_quoted = q }

at_end : (d : ℕ) (s : State) (fields : List (List ℕ)) (t : List ℕ) (q : Bool) (b : Bool) → ends_at_end s ≡ b → Follows d fields (next_record (config_of d) s fields t []) (rows_from d s t q [])
unfolding next_record
at_end d s fields t q true e = rw e (at_hand t q ∷ [], refl, refl)
at_end d s fields t q false e = rw e refl

some_first : (f : Field) (rows : List (List Field)) → (first : List Field) × (others : List (List Field)) × (rows ≡ first ∷ others) → rows ≡ [] → ⊥
some_first f rows some none = let e : some.0 ∷ some.1 ≡ [] = sym some.2 ∙ none in absurd cc

field_more : (d : ℕ) (fields : List (List ℕ)) (t : List ℕ) (q : Bool) (o : Option Read) (rows : List (List Field)) → (first : List Field) × (others : List (List Field)) × (rows ≡ first ∷ others) → Follows d (fields ++ t ∷ []) o rows → Follows d fields o (onto_first (at_hand t q) rows)
field_more d fields t q None rows some h = absurd (some_first (at_hand t q) rows some h)
field_more d fields t q (Some read) rows some h =
    (at_hand t q ∷ h.0, h.1 ∙ append_assoc fields (t ∷ []) (texts_of h.0), ap (onto_first (at_hand t q)) h.2)

-- one byte, by what it does
abbrev After : ℕ → State × Action → List (List ℕ) → List ℕ → Bool → ℕ → List ℕ → Type 0
After d r fields t q c rest =
    Follows d fields (cond (is_end r.1) (Some (fields_after r.1 fields t, r.0, rest)) (next_record (config_of d) r.0 (fields_after r.1 fields t) (field_after r.1 c t) rest))
    (joined r.1 (at_hand t q) (rows_from d r.0 (field_after r.1 c t) (quoted_after r.1 r.0 q) rest))

one_byte : (d : ℕ) (r : State × Action) (fields : List (List ℕ)) (t : List ℕ) (q : Bool) (c : ℕ) (rest : List ℕ)
    → (r.1 ≡ act.EndField → (first : List Field) × (others : List (List Field)) × (rows_from d r.0 (field_after r.1 c t) (quoted_after r.1 r.0 q) rest ≡ first ∷ others))
    → Follows d (fields_after r.1 fields t) (next_record (config_of d) r.0 (fields_after r.1 fields t) (field_after r.1 c t) rest) (rows_from d r.0 (field_after r.1 c t) (quoted_after r.1 r.0 q) rest)
    → After d r fields t q c rest
one_byte d (s, act.Skip) fields t q c rest some h = h
one_byte d (s, act.Copy) fields t q c rest some h = h
one_byte d (s, act.EndRecord) fields t q c rest some h = (at_hand t q ∷ [], refl, refl)
one_byte d (s, act.EndField) fields t q c rest some h = field_more d fields t q (next_record (config_of d) s (fields ++ t ∷ []) [] rest) (rows_from d s [] false rest) (some refl) h

reads_from : (d : ℕ) (s : State) (fields : List (List ℕ)) (t : List ℕ) (q : Bool) (bytes : List ℕ) → Follows d fields (next_record (config_of d) s fields t bytes) (rows_from d s t q bytes)
unfolding next_record
reads_from d s fields t q [] = at_end d s fields t q (ends_at_end s) refl
reads_from d s fields t q (c ∷ rest) =
    let r = step (config_of d) s c in
    one_byte d r fields t q c rest (λ ended. some_row d r.0 (field_after r.1 c t) (quoted_after r.1 r.0 q) rest (step_inside d s c ended))
    (reads_from d r.0 (fields_after r.1 fields t) (field_after r.1 c t) (quoted_after r.1 r.0 q) rest)

next_is : (d : ℕ) (o : Option Read) (rows : List (List Field)) → Follows d [] o rows → AreNext d o rows
next_is d None rows h = h
next_is d (Some read) rows h = (h.0, h.1, h.2)

pub rows_are_read : RowsAreRead
rows_are_read d s bytes = next_is d (next_record (config_of d) s [] [] bytes) (rows_from d s [] false bytes) (reads_from d s [] [] false bytes)
