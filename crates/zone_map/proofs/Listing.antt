-- Columns as a text that lists them.
use Rattle.std.proofs.Common.{◌≡◌, ◌∙◌, ◌++◌, ◌∷◌, ◌+◌, ◌<◌, ℕ, List, [], codes, get_or, length, refl, sym, take, ap, append_assoc, append-nil}
use Rattle.std.proofs.lemmas.Grind.{flat_map-append}
use Rattle.std.proofs.lemmas.List.{take_more}
use Rattle.std.specs.List.{flat_map}
use Rattle.csv_columns.specs.Setups.{ColumnValue, column_value, column_values, kind_text}
use Rattle.csv_columns.specs.declared.column_words.NamedColumn.{NamedColumn}
use Rattle.zone_map.specs.ColumnLists.{column_text, list_text, listed_behind, name_text}

behind_some : (xs ys : List ℕ) (d : ColumnValue) → listed_behind (xs ++ 32 ∷ ys) d ≡ (xs ++ 32 ∷ ys) ++ (codes ", " ++ column_text d)
behind_some [] ys d = refl
behind_some (x ∷ xs) ys d = refl

abbrev listed_next : ColumnValue → List ℕ
listed_next d = codes ", " ++ column_text d

behind_column : (c d : ColumnValue) (more : List ℕ) → listed_behind (column_text c ++ more) d ≡ (column_text c ++ more) ++ listed_next d
behind_column c d more =
    let whole : column_text c ++ more ≡ name_text c.name ++ 32 ∷ (kind_text c.column ++ more) = append_assoc (name_text c.name) (32 ∷ kind_text c.column) more in
    ap (λ (t : List ℕ). listed_behind t d) whole
    ∙ behind_some (name_text c.name) (kind_text c.column ++ more) d
    ∙ ap (λ (t : List ℕ). t ++ listed_next d) (sym whole)

-- a column more stands behind the others
pub list_text-more : (cs : List ColumnValue) (d : ColumnValue) → list_text (cs ++ d ∷ []) ≡ listed_behind (list_text cs) d
list_text-more [] d = append-nil (column_text d)
list_text-more (c ∷ cs) d =
    ap (λ (t : List ℕ). column_text c ++ t) (flat_map-append listed_next cs (d ∷ []) ∙ ap (λ (t : List ℕ). flat_map listed_next cs ++ t) (append-nil (listed_next d)))
    ∙ sym (append_assoc (column_text c) (flat_map listed_next cs) (listed_next d))
    ∙ sym (behind_column c d (flat_map listed_next cs))

values-append : (xs : List NamedColumn) (x : NamedColumn) → column_values (xs ++ x ∷ []) ≡ column_values xs ++ column_value x ∷ []
values-append [] x = refl
values-append (y ∷ xs) x = ap (λ (cs : List ColumnValue). column_value y ∷ cs) (values-append xs x)

-- one column further
pub list_text-next : (xs : List NamedColumn) (i : ℕ) (named : NamedColumn) → i < length xs → named ≡ get_or xs i named → list_text (column_values (take (i + 1) xs)) ≡ listed_behind (list_text (column_values (take i xs))) (column_value named)
list_text-next xs i named within is =
    ap (λ (l : List NamedColumn). list_text (column_values l)) (take_more xs i named within ∙ ap (λ (n : NamedColumn). take i xs ++ n ∷ []) (sym is))
    ∙ ap list_text (values-append (take i xs) named)
    ∙ list_text-more (column_values (take i xs)) (column_value named)
