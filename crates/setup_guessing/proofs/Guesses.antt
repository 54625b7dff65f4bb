-- What is guessed is what csv_columns guesses, but for what is given.
use Rattle.std.proofs.Common.{◌≡◌, ◌≢◌, inl, inr, ℕ, List, [], ◌∷◌, ◌++◌, Bool, true, false, sym, ap, ap₂, ◌∙◌, subst, arith, length, take, drop, map, append-nil}
use Rattle.std.proofs.lemmas.List.{drop_all, length-map, take_all}
use Rattle.std.proofs.lemmas.List.Elements.{All-head, All-tail}
use Rattle.std.specs.Prelude.{All, AllPairs, Err, IfOk, MatchBool, Ok, Result, string_bytes}
use Rattle.std.specs.Global.{Global}
use Rattle.std.specs.declared.string.String.{String}
use Rattle.record_rows.specs.Readings.{Reading}
use Rattle.csv_columns.specs.Guesses.{AreColumns, HaveNumbers, NamesOthers, TakeFields, column_count, column_names, column_words, divides, field_lists, header_names}
use Rattle.csv_columns.specs.Names.{AreGivenOrMade, IsName, KeepsNames, texts}
use Rattle.csv_columns.specs.Setups.{HaveNames, column_values}
use Rattle.csv_columns.specs.declared.column_words.NamedColumn.{NamedColumn}
use Rattle.setup_guessing.specs.Columns.{AreColumnsFor, AreGuessedFrom, NeedsGuesses, reading_with, with_given}

pub ok_then : {A B : Type 0} (r : Result A B) (P Q : A → Type 0) → IfOk r P → ((a : A) → P a → Q a) → IfOk r Q
ok_then {A} {B} (Ok a) P Q h then = then a h
ok_then {A} {B} (Err e) P Q h then = tt

pub said : (P Q : Type 0) (b : Bool) → b ≡ true → MatchBool b P Q → P
said P Q true e h = h
said P Q false e h = absurd cc

pub denied : (P Q : Type 0) (b : Bool) → b ≡ false → MatchBool b P Q → Q
denied P Q true e h = absurd cc
denied P Q false e h = h

not_needed : (d : ℕ) (header : List ℕ) (given : List NamedColumn) → given ≢ [] → ¬ (NamesOthers (header_names d header) (column_names given)) → NeedsGuesses d header given → ⊥
not_needed d header given any others (inl nil) = any nil
not_needed d header given any others (inr more) = others more

pub needed_of : (d : ℕ) (header : List ℕ) (given : List NamedColumn) (named : Bool) → given ≢ [] → MatchBool named (NamesOthers (header_names d header) (column_names given)) (¬ (NamesOthers (header_names d header) (column_names given)))
    → MatchBool named (NeedsGuesses d header given) (¬ (NeedsGuesses d header given))
needed_of d header given true any h = inr h
needed_of d header given false any h = λ needs. not_needed d header given any h needs

pub guessed_from : (d : ℕ) (nulls : List (List ℕ)) (header records : List ℕ) (reading : Reading) (columns : List NamedColumn) → reading.is_lenient ≡ false → reading.nulls ≡ nulls
    → length columns ≡ column_count (field_lists d records) (header_names d header) → All IsName (column_names columns) → AllPairs (λ a b. a ≢ b) (column_names columns)
    → KeepsNames (header_names d header) (column_names columns) → AreGivenOrMade (divides d) (header_names d header) (column_names columns)
    → AreColumns (column_words reading (field_lists d records)) columns → TakeFields reading (field_lists d records) columns → AreGuessedFrom d nulls header records columns
guessed_from d nulls header records reading columns strict words count valid distinct kept made are takes =
    let is : reading ≡ reading_with nulls = ap₂ (λ (b : Bool) (n : List (List ℕ)). record { is_lenient = b; nulls = n }) strict words in
    record {
      count = count;
      valid = valid;
      distinct = distinct;
      kept = kept;
      made = made;
      columns_are = subst (λ (r : Reading). AreColumns (column_words r (field_lists d records)) columns) is are;
      take_fields = subst (λ (r : Reading). TakeFields r (field_lists d records) columns) is takes;
    }

pub numbers_of : (d : ℕ) (nulls : List (List ℕ)) (records : List ℕ) (reading : Reading) (flags : List Bool) → reading.is_lenient ≡ false → reading.nulls ≡ nulls
    → HaveNumbers (column_words reading (field_lists d records)) flags → HaveNumbers (column_words (reading_with nulls) (field_lists d records)) flags
numbers_of d nulls records reading flags strict words have =
    let is : reading ≡ reading_with nulls = ap₂ (λ (b : Bool) (n : List (List ℕ)). record { is_lenient = b; nulls = n }) strict words in
    subst (λ (r : Reading). HaveNumbers (column_words r (field_lists d records)) flags) is have

pub written_back : {A : Type 0} (h : A → A) (items new : List A) (len : ℕ) → len ≡ length items → new ≡ map h items → take len (new ++ drop (length new) items) ≡ map h items
written_back {A} h items new len long is =
    let same : length new ≡ length items = ap length is ∙ length-map items h in
    let none : drop (length new) items ≡ [] = drop_all (length new) items (omega (arith, same)) in
    ap (λ (l : List A). take len (new ++ l)) none ∙ ap (take len) (append-nil new) ∙ take_all len new (omega (arith, long, same)) ∙ is

-- ---- names

names_of : (given guessed : List NamedColumn) → All IsName (column_names guessed) → HaveNames (column_values (map (with_given given) guessed))
names_of given [] all = tt
names_of given (c ∷ cs) all = (All-head IsName (string_bytes c.name) (column_names cs) all, names_of given cs (All-tail IsName (string_bytes c.name) (column_names cs) all))

pub names_kept : (d : ℕ) (nulls : List (List ℕ)) (header records : List ℕ) (given columns : List NamedColumn) → AreColumnsFor d nulls header records given columns → HaveNames (column_values given) → HaveNames (column_values columns)
names_kept d nulls header records given columns (inl h) names =
    subst (λ (l : List NamedColumn). HaveNames (column_values l)) (sym h.1.2) (names_of given h.1.0 h.1.1.valid)
names_kept d nulls header records given columns (inr h) names = subst (λ (l : List NamedColumn). HaveNames (column_values l)) (sym h.1) names

pub columns_are : (d e : ℕ) (nulls words : List (String Global)) (header records : List ℕ) (given columns : List NamedColumn) → e ≡ d → words ≡ nulls → AreColumnsFor e (texts words) header records given columns → AreColumnsFor d (texts nulls) header records given columns
columns_are d e nulls words header records given columns by same h =
    subst (λ (n : ℕ). AreColumnsFor n (texts nulls) header records given columns) by (subst (λ (l : List (String Global)). AreColumnsFor e (texts l) header records given columns) same h)
