-- Words in which a name stands in another case.
use Rattle.std.proofs.Common.{◌≡◌, ◌≢◌, ◌<◌, ◌≤◌, ◌+◌, ◌++◌, ◌∷◌, [], ◌∙◌, ℕ, zero, suc, List, Option, None, Some, Result, Ok, Err, Bor, ap₂, arith, drop, drop-cons, get_or, length, map, refl, subst, sym, true≢false}
use Rattle.std.proofs.Math.Seq.{drop-nil}
use Rattle.std.specs.Char.{to_ascii_lowercase}
use Rattle.std.specs.Global.{Global}
use Rattle.std.specs.Option.{option_to_list}
use Rattle.std.specs.declared.string.String.{String}
use Rattle.filter_sql.specs.ColumnNames.{ColumnTree, column_trees}
use Rattle.filter_sql.specs.declared.column.Column.{Column}
use Rattle.filter_sql.specs.Parsing.{IsSqlWithin, RefusesSqlWithin}
use Rattle.filter_sql.specs.TextLaws.{RefusedTextsSayNone, TextsSayOneFilter}
use Rattle.filter_sql.specs.declared.error.ParseError.{ParseError}
use Rattle.filter_sql.specs.declared.error.ParseError.TheVariants as errors
use Rattle.std.specs.Prelude.{◌↔◌, Bool, IfOk, IfSome, IsTrue, false, string_bytes, true}
use Rattle.vortex_filter.specs.Formula.{Formula, formula}
use Rattle.vortex_filter.specs.declared.filter.Filter.{Filter}
use Rattle.filter_sql.specs.OwnNames.{AreNamedLike, AreRenamed, AreSameButCase, IsFilterOf, IsOnlyName, IsOwnFilter, IsRenamed, RefusesWords, alike, and_one_more, another, as_they_are, no_column}

-- the words themselves
pub read_exactly : (one : TextsSayOneFilter) (depth : ℕ) (columns : List ColumnTree) (words : List ℕ) (f : Formula) → IsSqlWithin depth columns words f → IsFilterOf depth columns words f
read_exactly one depth columns words f h = record { own = record { own = words; renamed = as_they_are; means = h }; exact = λ g other. one depth depth columns words f g h other }

-- words of which no column has the name
pub read_by_case : (none : RefusedTextsSayNone) (depth : ℕ) (columns : List ColumnTree) (words : List ℕ) (place : ℕ) (f : Formula) → RefusesSqlWithin depth columns words (errors.NoColumn place) → IsOwnFilter depth columns words f → IsFilterOf depth columns words f
read_by_case none depth columns words place f refused own = record { own = own; exact = λ g other. absurd (none depth columns words (errors.NoColumn place) g (λ e. cc) refused other) }

-- why words are no filter, with those that were read
refused_so : (depth : ℕ) (columns : List ColumnTree) (words own : List ℕ) (e : ParseError) → AreRenamed depth columns words own → RefusesSqlWithin depth columns own e → ((g : Formula) → ¬ (IsSqlWithin depth columns words g)) → RefusesWords depth columns words e
refused_so depth columns words own errors.OutOfMemory renamed h none = tt
refused_so depth columns words own (errors.Expected place expected) renamed h none = record { own = own; renamed = renamed; refuses = h; none = none }
refused_so depth columns words own (errors.NoColumn place) renamed h none = record { own = own; renamed = renamed; refuses = h; none = none }
refused_so depth columns words own (errors.TypesDiffer place) renamed h none = record { own = own; renamed = renamed; refuses = h; none = none }
refused_so depth columns words own (errors.NoLiteral place) renamed h none = record { own = own; renamed = renamed; refuses = h; none = none }
refused_so depth columns words own (errors.NumberTooLong place) renamed h none = record { own = own; renamed = renamed; refuses = h; none = none }
refused_so depth columns words own (errors.BadText place) renamed h none = record { own = own; renamed = renamed; refuses = h; none = none }
refused_so depth columns words own (errors.TooDeep place) renamed h none = record { own = own; renamed = renamed; refuses = h; none = none }

pub refused_exactly : (none : RefusedTextsSayNone) (depth : ℕ) (columns : List ColumnTree) (words : List ℕ) (e : ParseError) → RefusesSqlWithin depth columns words e → RefusesWords depth columns words e
refused_exactly none depth columns words errors.OutOfMemory h = tt
refused_exactly none depth columns words (errors.Expected place expected) h = refused_so depth columns words words (errors.Expected place expected) as_they_are h (λ g. none depth columns words (errors.Expected place expected) g (λ q. cc) h)
refused_exactly none depth columns words (errors.NoColumn place) h = refused_so depth columns words words (errors.NoColumn place) as_they_are h (λ g. none depth columns words (errors.NoColumn place) g (λ q. cc) h)
refused_exactly none depth columns words (errors.TypesDiffer place) h = refused_so depth columns words words (errors.TypesDiffer place) as_they_are h (λ g. none depth columns words (errors.TypesDiffer place) g (λ q. cc) h)
refused_exactly none depth columns words (errors.NoLiteral place) h = refused_so depth columns words words (errors.NoLiteral place) as_they_are h (λ g. none depth columns words (errors.NoLiteral place) g (λ q. cc) h)
refused_exactly none depth columns words (errors.NumberTooLong place) h = refused_so depth columns words words (errors.NumberTooLong place) as_they_are h (λ g. none depth columns words (errors.NumberTooLong place) g (λ q. cc) h)
refused_exactly none depth columns words (errors.BadText place) h = refused_so depth columns words words (errors.BadText place) as_they_are h (λ g. none depth columns words (errors.BadText place) g (λ q. cc) h)
refused_exactly none depth columns words (errors.TooDeep place) h = refused_so depth columns words words (errors.TooDeep place) as_they_are h (λ g. none depth columns words (errors.TooDeep place) g (λ q. cc) h)

pub refused_by_case : (none : RefusedTextsSayNone) (depth : ℕ) (columns : List ColumnTree) (words own : List ℕ) (place : ℕ) (e : ParseError) → RefusesSqlWithin depth columns words (errors.NoColumn place) → AreRenamed depth columns words own → RefusesSqlWithin depth columns own e → RefusesWords depth columns words e
refused_by_case none depth columns words own place e first renamed h = refused_so depth columns words own e renamed h (λ g. none depth columns words (errors.NoColumn place) g (λ q. cc) first)

-- of all that may be read
pub all_by_case : (none : RefusedTextsSayNone) (depth : ℕ) (columns : List ColumnTree) (words : List ℕ) (place : ℕ) (r : Result Filter ParseError) → RefusesSqlWithin depth columns words (errors.NoColumn place) → IfOk r (λ filter. IsOwnFilter depth columns words (formula filter)) → IfOk r (λ filter. IsFilterOf depth columns words (formula filter))
all_by_case none depth columns words place (Ok filter) refused h = read_by_case none depth columns words place (formula filter) refused h
all_by_case none depth columns words place (Err e) refused h = tt

-- words with one more name that stands as its column has it
pub renamed_more : (depth : ℕ) (columns : List ColumnTree) (words some lent : List ℕ) (place : ℕ) (r : Option (String Global)) (other : String Global) → lent ≡ some → AreRenamed depth columns words some → RefusesSqlWithin depth columns some (errors.NoColumn place)
    → IfSome r (λ o. IsRenamed columns lent place (string_bytes o)) → r ≡ Some other → AreRenamed depth columns words (string_bytes other)
renamed_more depth columns words some lent place r other is before refused h there =
    let renamed : IsRenamed columns lent place (string_bytes other) = subst (λ (o : Option (String Global)). IfSome o (λ s. IsRenamed columns lent place (string_bytes s))) there h in
    and_one_more before refused (subst (λ (l : List ℕ). IsRenamed columns l place (string_bytes other)) is renamed)

-- ---- the names of columns

rest_of : (i : ℕ) (cs : List Column) (c : Column) → i < length cs → c ≡ get_or cs i c → drop i cs ≡ c ∷ drop (i + 1) cs
rest_of i cs c less is =
    let next : suc i ≡ i + 1 = omega arith in
    drop-cons cs i c less ∙ ap₂ (λ d n. d ∷ drop n cs) (sym is) next

-- a column that has the name in another case, and one that has not
pub alike_more : (name : List ℕ) (i : ℕ) (cs : List Column) (c : Column) (ns : List (List ℕ)) → i < length cs → c ≡ get_or cs i c → AreSameButCase (string_bytes c.name) name → AreNamedLike name (column_trees (drop (i + 1) cs)) ns
    → AreNamedLike name (column_trees (drop i cs)) (string_bytes c.name ∷ ns)
alike_more name i cs c ns less is same rest = subst (λ ds. AreNamedLike name (column_trees ds) (string_bytes c.name ∷ ns)) (sym (rest_of i cs c less is)) (alike same rest)

pub another_more : (name : List ℕ) (i : ℕ) (cs : List Column) (c : Column) (ns : List (List ℕ)) → i < length cs → c ≡ get_or cs i c → ¬ (AreSameButCase (string_bytes c.name) name) → AreNamedLike name (column_trees (drop (i + 1) cs)) ns
    → AreNamedLike name (column_trees (drop i cs)) ns
another_more name i cs c ns less is other rest = subst (λ ds. AreNamedLike name (column_trees ds) ns) (sym (rest_of i cs c less is)) (another other rest)

pub none_left : (name : List ℕ) (i : ℕ) (cs : List Column) → length cs ≤ i → AreNamedLike name (column_trees (drop i cs)) []
none_left name i [] h = subst (λ ds. AreNamedLike name (column_trees ds) []) (sym (drop-nil i)) no_column
none_left name zero (c ∷ cs) h = absurd (omega arith)
none_left name (suc i) (c ∷ cs) h = none_left name i cs (omega arith)

-- what the comparison of a column's name says
pub alike_of : (own : String Global) (lent name : List ℕ) (b : Bool) → lent ≡ string_bytes own → (IsTrue b ↔ (map to_ascii_lowercase lent ≡ map to_ascii_lowercase name)) → b ≡ true → AreSameButCase (string_bytes own) name
alike_of own lent name true is test e = subst (λ (l : List ℕ). AreSameButCase l name) is (test.0 refl)
alike_of own lent name false is test e = cc

pub unlike_of : (own : String Global) (lent name : List ℕ) (b : Bool) → lent ≡ string_bytes own → (IsTrue b ↔ (map to_ascii_lowercase lent ≡ map to_ascii_lowercase name)) → b ≡ false → ¬ (AreSameButCase (string_bytes own) name)
unlike_of own lent name true is test e = cc
unlike_of own lent name false is test e = λ same. absurd (true≢false (sym (test.1 (subst (λ (l : List ℕ). AreSameButCase l name) (sym is) same))))

-- the first that is found, and the only one
pub first_found : (name own : List ℕ) (trees : List ColumnTree) (old new : Option (Bor (List ℕ))) (s : Bor (List ℕ)) (ns : List (List ℕ)) → old ≡ None → new ≡ Some s → s.now ≡ own → AreNamedLike name trees (map (λ r. r.now) (option_to_list old) ++ (own ∷ ns))
    → AreNamedLike name trees (map (λ r. r.now) (option_to_list new) ++ ns)
first_found name own trees old new s ns none some is h =
    let before : AreNamedLike name trees (own ∷ ns) = subst (λ (o : Option (Bor (List ℕ))). AreNamedLike name trees (map (λ r. r.now) (option_to_list o) ++ (own ∷ ns))) none h in
    let here : AreNamedLike name trees (s.now ∷ ns) = subst (λ (n : List ℕ). AreNamedLike name trees (n ∷ ns)) (sym is) before in
    subst (λ (o : Option (Bor (List ℕ))). AreNamedLike name trees (map (λ r. r.now) (option_to_list o) ++ ns)) (sym some) here

pub still_found : (name : List ℕ) (trees : List ColumnTree) (old new : Option (Bor (List ℕ))) (ns : List (List ℕ)) → new ≡ old → AreNamedLike name trees (map (λ r. r.now) (option_to_list old) ++ ns) → AreNamedLike name trees (map (λ r. r.now) (option_to_list new) ++ ns)
still_found name trees old new ns same h = subst (λ (o : Option (Bor (List ℕ))). AreNamedLike name trees (map (λ r. r.now) (option_to_list o) ++ ns)) (sym same) h

pub only_found : (name : List ℕ) (trees : List ColumnTree) (found : Option (Bor (List ℕ))) → AreNamedLike name trees (map (λ r. r.now) (option_to_list found) ++ []) → IfSome found (λ own. IsOnlyName trees name own.now)
only_found name trees None h = tt
only_found name trees (Some s) h = h
