-- Columns are read one after another.
use Rattle.std.proofs.Common.{◌≡◌, ◌<◌, ◌≤◌, ◌+◌, ◌++◌, ◌==◌, ℕ, suc, zero, List, [], ◌∷◌, Bool, true, false, if◌then◌else◌, Option, None, Some, refl, sym, ap, ◌∙◌, length, map, drop, arith, get_or, append_assoc, append-nil, option_map, drop-cons, add-one}
use Rattle.std.proofs.lemmas.List.{map-append}
use Rattle.record_rows.specs.declared.schema.ColumnType.{ColumnType}
use Rattle.vortex_statistics.specs.Statistics.{Known, known}
use Rattle.vortex_statistics.specs.declared.column_statistics.ColumnStatistics.{ColumnStatistics}
use Rattle.record_search.specs.Decoding.{after_piece, columns_in, known_before, piece_in, statistics_in}

-- what was read before, and what is still read
abbrev pub with_front : List Known → Option (List Known) → Option (List Known)
with_front front read = option_map (λ others. front ++ others) read

nothing_before : (read : Option (List Known)) → read ≡ with_front [] read
nothing_before None = refl
nothing_before (Some ss) = refl

pub begun : (columns : List ColumnType) (bytes : List ℕ) (front : List Known) → front ≡ [] → columns_in columns bytes ≡ with_front front (columns_in (drop 0 columns) bytes)
begun columns bytes front e = nothing_before (columns_in columns bytes) ∙ ap (λ (f : List Known). with_front f (columns_in columns bytes)) (sym e)

columns_at : (columns : List ColumnType) (i : ℕ) (d : ColumnType) (rest : List ℕ) → i < length columns → columns_in (drop i columns) rest ≡ after_piece (get_or columns i d) (piece_in rest) (λ r. columns_in (drop (i + 1) columns) r)
columns_at columns i d rest inside =
    let e : drop i columns ≡ get_or columns i d ∷ drop (i + 1) columns = rw (add-one, drop-cons columns i d) refl in
    ap (λ (cs : List ColumnType). columns_in cs rest) e

-- no piece is left
pub no_piece : (columns : List ColumnType) (i : ℕ) (d : ColumnType) (front : List Known) (bytes rest : List ℕ) → i < length columns → None ≡ piece_in rest → columns_in columns bytes ≡ with_front front (columns_in (drop i columns) rest) → None ≡ columns_in columns bytes
no_piece columns i d front bytes rest inside none so_far =
    sym (so_far ∙ ap (with_front front) (columns_at columns i d rest inside ∙ ap (λ (o : Option (List ℕ × List ℕ)). after_piece (get_or columns i d) o (λ r. columns_in (drop (i + 1) columns) r)) (sym none)))

-- the piece is no encoding
pub no_encoding : (columns : List ColumnType) (i : ℕ) (d : ColumnType) (front : List Known) (bytes rest piece after : List ℕ) → i < length columns → Some (piece, after) ≡ piece_in rest → None ≡ statistics_in (get_or columns i d) piece
    → columns_in columns bytes ≡ with_front front (columns_in (drop i columns) rest) → None ≡ columns_in columns bytes
no_encoding columns i d front bytes rest piece after inside cut none so_far =
    let c = get_or columns i d in
    sym (so_far ∙ ap (with_front front) (columns_at columns i d rest inside ∙ ap (λ (o : Option (List ℕ × List ℕ)). after_piece c o (λ r. columns_in (drop (i + 1) columns) r)) (sym cut) ∙ ap (λ (o : Option Known). known_before o (columns_in (drop (i + 1) columns) after)) (sym none)))

front_more : (front : List Known) (s : Known) (read : Option (List Known)) → with_front front (known_before (Some s) read) ≡ with_front (front ++ s ∷ []) read
front_more front s None = refl
front_more front s (Some ss) = ap (λ (l : List Known). Some l) (sym (append_assoc front (s ∷ []) ss))

-- a column more
pub column_read : (columns : List ColumnType) (i : ℕ) (d : ColumnType) (old new : List ColumnStatistics) (x : ColumnStatistics) (bytes rest piece after : List ℕ) → i < length columns → Some (piece, after) ≡ piece_in rest → Some (known x) ≡ statistics_in (get_or columns i d) piece
    → new ≡ old ++ x ∷ [] → columns_in columns bytes ≡ with_front (map known old) (columns_in (drop i columns) rest) → columns_in columns bytes ≡ with_front (map known new) (columns_in (drop (i + 1) columns) after)
column_read columns i d old new x bytes rest piece after inside cut is pushed so_far =
    let c = get_or columns i d in
    let others = columns_in (drop (i + 1) columns) after in
    so_far
    ∙ ap (with_front (map known old)) (columns_at columns i d rest inside ∙ ap (λ (o : Option (List ℕ × List ℕ)). after_piece c o (λ r. columns_in (drop (i + 1) columns) r)) (sym cut) ∙ ap (λ (o : Option Known). known_before o others) (sym is))
    ∙ front_more (map known old) (known x) others
    ∙ ap (λ (l : List Known). with_front l others) (sym (ap (map known) pushed ∙ map-append known old (x ∷ [])))

drop_all : (columns : List ColumnType) (i : ℕ) → length columns ≤ i → drop i columns ≡ []
drop_all [] zero h = refl
drop_all [] (suc i) h = refl
drop_all (c ∷ cs) zero h = absurd (omega arith)
drop_all (c ∷ cs) (suc i) h = drop_all cs i (omega arith)

last_at : (columns : List ColumnType) (i : ℕ) (front : List Known) (rest : List ℕ) (b : Bool) → length columns ≤ i → b ≡ (length rest == 0) → with_front front (columns_in (drop i columns) rest) ≡ (if b then Some front else None)
last_at columns i front rest b ended is =
    ap (λ (cs : List ColumnType). with_front front (columns_in cs rest)) (drop_all columns i ended) ∙ ap (λ (t : Bool). with_front front (if t then Some [] else None)) (sym is) ∙ by_test b
  where
    by_test : (t : Bool) → with_front front (if t then Some [] else None) ≡ (if t then Some front else None)
    by_test true = ap (λ (l : List Known). Some l) (append-nil front)
    by_test false = refl

-- nothing is left after the last column
pub all_read : (columns : List ColumnType) (i : ℕ) (front : List Known) (bytes rest : List ℕ) (b : Bool) → length columns ≤ i → b ≡ (length rest == 0) → b ≡ true → columns_in columns bytes ≡ with_front front (columns_in (drop i columns) rest) → Some front ≡ columns_in columns bytes
all_read columns i front bytes rest b ended is full so_far = sym (so_far ∙ last_at columns i front rest b ended is ∙ ap (λ (t : Bool). if t then Some front else None) full)

-- something is
pub more_left : (columns : List ColumnType) (i : ℕ) (front : List Known) (bytes rest : List ℕ) (b : Bool) → length columns ≤ i → b ≡ (length rest == 0) → b ≡ false → columns_in columns bytes ≡ with_front front (columns_in (drop i columns) rest) → None ≡ columns_in columns bytes
more_left columns i front bytes rest b ended is full so_far = sym (so_far ∙ last_at columns i front rest b ended is ∙ ap (λ (t : Bool). if t then Some front else None) full)
