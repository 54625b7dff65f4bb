-- The kinds of columns of a setup, one by one.
use Rattle.std.proofs.Common.{◌≡◌, ◌<◌, ◌+◌, ◌++◌, ◌∷◌, ◌∙◌, ℕ, List, [], Option, ap, ap₂, get_or, length, map, sym, take}
use Rattle.std.proofs.lemmas.Grind.{take_at_read}
use Rattle.std.proofs.lemmas.List.{map-append}
use Rattle.arrow_columns.specs.declared.kinds.Kind.{Kind}
use Rattle.column_items.specs.Codes.{kind_of_code}
use Rattle.column_items.specs.declared.codes.KindCode.{KindCode}
use Rattle.csv_columns.specs.declared.column_words.NamedColumn.{NamedColumn}
use Rattle.vortex_c.specs.SearchColumns.{kind_of_named}

pub kinds_more : (columns : List NamedColumn) (k : ℕ) (here : NamedColumn) (codes more : List KindCode) (x : KindCode) → k < length columns → here ≡ get_or columns k here → map kind_of_code codes ≡ map kind_of_named (take k columns) → kind_of_code x ≡ kind_of_named here → more ≡ codes ++ x ∷ []
    → map kind_of_code more ≡ map kind_of_named (take (k + 1) columns)
kinds_more columns k here codes more x inside is all one pushed =
    let next : take (k + 1) columns ≡ take k columns ++ here ∷ [] = (take_at_read columns k here inside).1 ∙ ap (λ (y : NamedColumn). take k columns ++ y ∷ []) (sym is) in
    ap (map kind_of_code) pushed ∙ map-append kind_of_code codes (x ∷ []) ∙ ap₂ (λ (xs : List (Option Kind)) (y : Option Kind). xs ++ y ∷ []) all one
    ∙ sym (map-append kind_of_named (take k columns) (here ∷ [])) ∙ ap (map kind_of_named) (sym next)
