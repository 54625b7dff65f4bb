-- Rows that are made while the input is read.
use Rattle.std.proofs.Common.{◌≡◌, ℕ, ◌+◌, ◌<◌, ◌==◌, Bool, true, false, Option, None, Some, Result, Ok, Err, List, [], ◌∷◌, ◌++◌, length, get_or, take, drop, sym, ap, ◌∙◌, refl}
use Rattle.std.proofs.lemmas.Bool.{eqb-true}
use Rattle.std.proofs.lemmas.Grind.{flat_map-append}
use Rattle.std.proofs.lemmas.List.{append_assoc, append-nil, take-append-drop, take_more, take_rest}
use Rattle.std.specs.Io.KnownBytes.{Consumes, IsAtEnd}
use Rattle.std.specs.List.{flat_map, onto_first}
use Rattle.std.specs.Prelude.{⊤, ◌-◌, if◌then◌else◌, is_ok, IfSome, OnOk}
use Rattle.rows.specs.Lines.{lines_of}
use Rattle.rows.specs.Rows.{rows_of}
use Rattle.rows.specs.Streams.{GoesOn}

-- the rows so far, and those of what is kept and of what the reader has left, are those of all that it had
abbrev pub IsAnswered : Option (List ℕ) → Option (List ℕ) → List ℕ → List ℕ → Type 0
IsAnswered None left output kept = ⊤
IsAnswered (Some all) None output kept = ⊥
IsAnswered (Some all) (Some left) output kept = output ++ rows_of (kept ++ left) ≡ rows_of all

-- some lines, of which the first begins with the byte
onto_more : (b : ℕ) (l : List ℕ) (ls ms : List (List ℕ)) → onto_first b ((l ∷ ls) ++ ms) ≡ onto_first b (l ∷ ls) ++ ms
onto_more b l ls ms = refl

abbrev HasLine : List ℕ → Type 0
HasLine text = (l : List ℕ) × (ls : List (List ℕ)) × (lines_of (text ++ 10 ∷ []) ≡ l ∷ ls)

-- a text that ends in a line feed has a line
has_line : (text : List ℕ) → HasLine text
has_line [] = ([], [], refl)
has_line (b ∷ bs) = by_test (b == 10) refl (has_line bs)
  where
    by_test : (t : Bool) → (b == 10) ≡ t → HasLine bs → HasLine (b ∷ bs)
    by_test true e more = ([], lines_of (bs ++ 10 ∷ []), rw e refl)
    by_test false e more = (b ∷ more.0, more.1, rw (e, more.2) refl)

-- the lines up to a line feed, and those after it
lines_cut : (text more : List ℕ) → lines_of (text ++ 10 ∷ more) ≡ lines_of (text ++ 10 ∷ []) ++ lines_of more
lines_cut [] more = refl
lines_cut (b ∷ bs) more = by_test (b == 10) refl (has_line bs) (lines_cut bs more)
  where
    by_test : (t : Bool) → (b == 10) ≡ t → HasLine bs → lines_of (bs ++ 10 ∷ more) ≡ lines_of (bs ++ 10 ∷ []) ++ lines_of more
        → lines_of ((b ∷ bs) ++ 10 ∷ more) ≡ lines_of ((b ∷ bs) ++ 10 ∷ []) ++ lines_of more
    by_test true e line again = rw (e, again) refl
    by_test false e line again = rw (e, again, line.2) refl

rows_cut : (text more : List ℕ) → rows_of (text ++ 10 ∷ more) ≡ rows_of (text ++ 10 ∷ []) ++ rows_of more
rows_cut text more = ap (flat_map _) (lines_cut text more) ∙ flat_map-append _ (lines_of (text ++ 10 ∷ [])) (lines_of more)

-- the piece up to its line feed at offset k
to_feed : (piece : List ℕ) (k : ℕ) → k < length piece → get_or piece k 0 ≡ 10 → take (k + 1) piece ≡ take k piece ++ 10 ∷ []
to_feed piece k inside is = take_more piece k 0 inside ∙ ap (λ (b : ℕ). take k piece ++ b ∷ []) is

-- the lines that end in a piece are answered, and what follows its last line feed is kept
pub answered_to : (old kept piece : List ℕ) (k : ℕ) → k < length piece → get_or piece k 0 ≡ 10
    → GoesOn old kept piece (old ++ rows_of (kept ++ take (k + 1) piece)) (drop (k + 1) piece)
answered_to old kept piece k inside is more =
    let front : List ℕ = kept ++ take k piece in
    let rest : List ℕ = drop (k + 1) piece ++ more in
    let feed = to_feed piece k inside is in
    let line : kept ++ take (k + 1) piece ≡ front ++ 10 ∷ [] = ap (λ (l : List ℕ). kept ++ l) feed ∙ sym (append_assoc kept (take k piece) (10 ∷ [])) in
    let parts : piece ++ more ≡ take k piece ++ 10 ∷ rest =
    ap (λ (l : List ℕ). l ++ more) (sym (take-append-drop (k + 1) piece)) ∙ append_assoc (take (k + 1) piece) (drop (k + 1) piece) more
    ∙ ap (λ (l : List ℕ). l ++ rest) feed ∙ append_assoc (take k piece) (10 ∷ []) rest in
    let whole : kept ++ (piece ++ more) ≡ front ++ 10 ∷ rest = ap (λ (l : List ℕ). kept ++ l) parts ∙ sym (append_assoc kept (take k piece) (10 ∷ rest)) in
    append_assoc old (rows_of (kept ++ take (k + 1) piece)) (rows_of rest)
    ∙ ap (λ (r : List ℕ). old ++ r) (ap (λ (l : List ℕ). rows_of l ++ rows_of rest) line ∙ sym (rows_cut front rest) ∙ ap rows_of (sym whole))

-- a read, and then a piece answered
pub answered_more : (all left next : Option (List ℕ)) (out new kept kept_new piece : List ℕ) → IsAnswered all left out kept → Consumes left next piece → GoesOn out kept piece new kept_new
    → IsAnswered all next new kept_new
answered_more None left next out new kept kept_new piece h c a = tt
answered_more (Some all) None next out new kept kept_new piece h c a = absurd h
answered_more (Some all) (Some left) None out new kept kept_new piece h c a = absurd c
answered_more (Some all) (Some left) (Some next) out new kept kept_new piece h c a =
    a next ∙ ap (λ (l : List ℕ). out ++ rows_of (kept ++ l)) (sym c) ∙ h

-- at the end, with the rows of what was kept
pub answered_all : (all left next : Option (List ℕ)) (out new kept lines buffer : List ℕ) (n : ℕ) → IsAnswered all left out kept → Consumes left next (take n buffer) → n ≡ 0 → IsAtEnd next → lines ≡ kept → new ≡ out ++ rows_of lines
    → IfSome all (λ input. new ≡ rows_of input)
answered_all None left next out new kept lines buffer n h c nothing end el e = tt
answered_all (Some all) None next out new kept lines buffer n h c nothing end el e = absurd h
answered_all (Some all) (Some left) None out new kept lines buffer n h c nothing end el e = absurd c
answered_all (Some all) (Some left) (Some next) out new kept lines buffer n h c nothing end el e =
    let same_left : left ≡ next = rw nothing at c in
    let none : left ≡ [] = same_left ∙ end in
    let same : kept ++ left ≡ kept = ap (λ (l : List ℕ). kept ++ l) none ∙ append-nil kept in
    e ∙ ap (λ (l : List ℕ). out ++ rows_of l) (el ∙ sym same) ∙ h

-- nothing is read yet
pub answered_none : (all : Option (List ℕ)) (out kept : List ℕ) → out ≡ [] → kept ≡ [] → IsAnswered all all out kept
answered_none None out kept eo ek = tt
answered_none (Some all) out kept eo ek = rw (eo, ek) refl

-- where memory was left for what follows the last line feed
pub fed_to : {E : Type 0} (r : Result Unit E) (old new kept fed lines cleared kept_new piece : List ℕ) (k : ℕ) → k < length piece → (get_or piece k 0 == 10) ≡ true → fed ≡ kept ++ take (k + 1) piece → lines ≡ fed → new ≡ old ++ rows_of lines → cleared ≡ []
    → kept_new ≡ (if is_ok r then cleared ++ take (length piece - (k + 1)) (drop (k + 1) piece) else cleared) → OnOk r (GoesOn old kept piece new kept_new)
fed_to (Ok done) old new kept fed lines cleared kept_new piece k inside is ef el en ec ek =
    let rest : kept_new ≡ drop (k + 1) piece = rw ec at ek ∙ take_rest piece (k + 1) in
    rw (rest, en, el, ef) (answered_to old kept piece k inside (eqb-true _ _ is))
fed_to (Err e) old new kept fed lines cleared kept_new piece k inside is ef el en ec ek = tt
