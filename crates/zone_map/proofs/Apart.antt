-- Columns whose names are apart.
use Rattle.std.proofs.Common.{◌≡◌, ◌≢◌, ◌∙◌, ◌++◌, ◌∷◌, ◌<◌, ℕ, List, [], Bool, true, false, get_or, length, refl, subst, sym, ap, arith}
use Rattle.std.proofs.lemmas.Bool.{false≢true}
use Rattle.std.proofs.lemmas.List.{get_or-map, length-map}
use Rattle.std.proofs.lemmas.List.Elements.{All-push}
use Rattle.std.proofs.lemmas.List.Folds.{list_any_at}
use Rattle.std.proofs.lemmas.List.Quantifiers.{all_pairs_push}
use Rattle.std.proofs.lemmas.Slice.Eq.{bytes_eq-Decides}
use Rattle.std.specs.List.{list_any}
use Rattle.std.specs.Prelude.{All, AllPairs, map, string_bytes}
use Rattle.std.specs.Str.{bytes_eq}
use Rattle.csv_columns.specs.Guesses.{column_names}
use Rattle.csv_columns.specs.Names.{IsName}
use Rattle.csv_columns.specs.declared.column_words.NamedColumn.{NamedColumn}
use Rattle.zone_map.specs.ColumnLists.{AreApart}

names-push : (xs : List NamedColumn) (x : NamedColumn) → column_names (xs ++ x ∷ []) ≡ column_names xs ++ string_bytes x.name ∷ []
names-push [] x = refl
names-push (y ∷ xs) x = ap (λ (names : List (List ℕ)). string_bytes y.name ∷ names) (names-push xs x)

other_name : (xs : List NamedColumn) (name : List ℕ) → list_any (λ column. bytes_eq (string_bytes column.name) name) xs ≡ false → (k : ℕ) (d : List ℕ) → k < length (column_names xs) → get_or (column_names xs) k d ≢ name
other_name [] name none k d within same = absurd (omega (arith, within))
other_name (x ∷ xs) name none k d within same =
    let f : NamedColumn → List ℕ = λ (named : NamedColumn). string_bytes named.name in
    let p : NamedColumn → Bool = λ (column : NamedColumn). bytes_eq (string_bytes column.name) name in
    let below : k < length (x ∷ xs) = omega (arith, within, length-map (x ∷ xs) f) in
    let there : string_bytes (get_or (x ∷ xs) k x).name ≡ name = sym (get_or-map f (x ∷ xs) k x d below) ∙ same in
    let hit : p (get_or (x ∷ xs) k x) ≡ true = (bytes_eq-Decides (string_bytes (get_or (x ∷ xs) k x).name) name).1 there in
    false≢true (sym none ∙ list_any_at p (x ∷ xs) k x below hit)

-- a column more, with a name that none of these has
pub apart-push : (xs : List NamedColumn) (x : NamedColumn) → IsName (string_bytes x.name) → list_any (λ column. bytes_eq (string_bytes column.name) (string_bytes x.name)) xs ≡ false → AreApart xs → AreApart (xs ++ x ∷ [])
apart-push xs x named none apart = record {
  valid = rw (names-push xs x) (All-push IsName (column_names xs) (string_bytes x.name) apart.valid named);
  distinct = rw (names-push xs x) (all_pairs_push (λ a b. a ≢ b) (column_names xs) (string_bytes x.name) apart.distinct (other_name xs (string_bytes x.name) none));
}
