-- Statistics that are read back are right for what they describe.
use Rattle.std.proofs.Common.{◌≡◌, ◌⊎◌, inl, inr, ◌<◌, ◌≤◌, ◌+◌, ◌^◌, ◌++◌, ◌==◌, ℕ, zero, suc, List, [], ◌∷◌, Bool, true, false, if◌then◌else◌, Option, None, Some, refl, sym, ap, ap₂, ◌∙◌, subst, length, take, drop, arith, slice_get, append_assoc, length-append, take_at, drop_at, nat_lt, lit<}
use Rattle.std.specs.Int.{w64, from_le_bytes, to_le_bytes}
use Rattle.std.specs.List.{flat_map}
use Rattle.std.proofs.lemmas.Bool.{le-ltb}
use Rattle.std.proofs.lemmas.Nat.{from_le_bytes-to_le_bytes_8}
use Rattle.record_rows.specs.Cells.{column_type}
use Rattle.record_rows.specs.declared.schema.ColumnType.{ColumnType}
use Rattle.vortex_dtype.specs.TypeTree.{TypeTree}
use Rattle.filter_pruning.specs.Pruning.{AreOpen, AreStatisticsOf, column}
use Rattle.vortex_row.specs.Laws.{KeysAreApart, ValuesHaveNoTyped}
use Rattle.vortex_cells.specs.Cells.{Cell}
use Rattle.vortex_statistics.specs.Statistics.{AreRight, Known}
use Rattle.statistics_bytes.specs.Pieces.{Says, nothing_known}
use Rattle.statistics_bytes.proofs.EncodingLaws.{reads_right}
use Rattle.zone_index.specs.Encoding.{bytes_encoding}
use Rattle.record_search.specs.Decoding.{after_piece, columns_in, known_before, piece_in, piece_of, statistics_in}
use Rattle.record_search.specs.Searched.{AreDescribed, AreEncoded, IsRightEncoding, IsRightOf}
use Rattle.record_search.proofs.DecodeLaws.{said_of}

open_known : AreOpen nothing_known
open_known = record { rows = lit< tt; nulls = refl; lower = refl; upper = refl }

right_said : KeysAreApart → ValuesHaveNoTyped → (t : TypeTree) (cells : List Cell) (piece : List ℕ) (s : Known) → (piece ≡ []) ⊎ IsRightEncoding t cells piece → Says t piece s → AreOpen s ⊎ AreRight s cells
right_said apart untyped t cells [] s h said = inl (subst AreOpen (sym said) open_known)
right_said apart untyped t cells (b ∷ bytes) s (inl none) said = absurd cc
right_said apart untyped t cells (b ∷ bytes) s (inr h) said = inr ((reads_right apart untyped t (b ∷ bytes) s said.0 said.1).cells h.statistics cells h.held h.is h.typed h.right)

-- what is read of a piece that is right for cells is so, or leaves all open
right_read : KeysAreApart → ValuesHaveNoTyped → (c : ColumnType) (cells : List Cell) (piece : List ℕ) (s : Known) → IsRightOf c cells piece → statistics_in c piece ≡ Some s → AreOpen s ⊎ AreRight s cells
right_read apart untyped c cells piece s h e = right_said apart untyped (column_type c) cells piece s h (said_of c piece s e)

pub piece_fits : (t : TypeTree) (cells : List Cell) (piece : List ℕ) → (piece ≡ []) ⊎ IsRightEncoding t cells piece → length piece < 2 ^ 64
piece_fits t cells piece (inl none) = let e : length piece ≡ 0 = ap length none in omega (arith, e)
piece_fits t cells piece (inr h) = h.fits

pub piece_again : (p rest : List ℕ) → length p < 2 ^ 64 → piece_in (bytes_encoding p ++ rest) ≡ Some (p, rest)
piece_again p rest fits =
    let front = to_le_bytes w64 (length p) in
    let parts : bytes_encoding p ++ rest ≡ front ++ (p ++ rest) = append_assoc front p rest in
    let many : 8 ≤ length (bytes_encoding p ++ rest) = let n = length-append front (p ++ rest) in let m = ap length parts in omega arith in
    let enough : length p ≤ length (p ++ rest) = let n = length-append p rest in omega arith in
    let first : take 8 (bytes_encoding p ++ rest) ≡ front = ap (take 8) parts ∙ take_at front (p ++ rest) 8 refl in
    let others : drop 8 (bytes_encoding p ++ rest) ≡ p ++ rest = ap (drop 8) parts ∙ drop_at front (p ++ rest) 8 refl in
    let count : from_le_bytes w64 (take 8 (bytes_encoding p ++ rest)) ≡ length p = ap (from_le_bytes w64) first ∙ from_le_bytes-to_le_bytes_8 (length p) fits in
    rw (le-ltb (length (bytes_encoding p ++ rest)) 8 many) (ap₂ piece_of count others ∙ piece_whole (le-ltb (length (p ++ rest)) (length p) enough))
  where
    piece_whole : nat_lt (length (p ++ rest)) (length p) ≡ false → piece_of (length p) (p ++ rest) ≡ Some (p, rest)
    piece_whole e = rw e (ap₂ (λ (a b : List ℕ). Some (a, b)) (take_at p rest (length p) refl) (drop_at p rest (length p) refl))

-- the first of several
pub record IsSplit (o : Option Known) (others : Option (List Known)) (ss : List Known) : Type 0 where
  pub first : Known
  pub rest : List Known
  pub first_is : o ≡ Some first
  pub rest_is : others ≡ Some rest
  pub is : ss ≡ first ∷ rest

split : (o : Option Known) (others : Option (List Known)) (ss : List Known) → known_before o others ≡ Some ss → IsSplit o others ss
split (Some s) (Some rest) ss e = record { first = s; rest = rest; first_is = refl; rest_is = refl; is = cc }
split (Some s) None ss e = absurd cc
split None others ss e = absurd cc

no_columns : (b : Bool) (ss : List Known) → (if b then Some [] else None) ≡ Some ss → ss ≡ []
no_columns true ss e = cc
no_columns false ss e = absurd cc

encodings_read : KeysAreApart → ValuesHaveNoTyped → (k : ℕ) (cs : List ColumnType) (rows : List (List Cell)) (ps : List (List ℕ)) (bytes : List ℕ) (ss : List Known) → bytes ≡ flat_map bytes_encoding ps → AreEncoded IsRightOf k cs rows ps → columns_in cs bytes ≡ Some ss
    → (j : ℕ) (s : Known) → slice_get ss j ≡ Some s → AreOpen s ⊎ AreRight s (column (k + j) rows)
encodings_read apart untyped k [] rows [] bytes ss is h e j s at =
    let none : ss ≡ [] = no_columns (length bytes == 0) ss e in
    absurd (nothing_there j (sym (ap (λ (l : List Known). slice_get l j) none) ∙ at))
  where
    nothing_there : (i : ℕ) → slice_get {X = Known} [] i ≡ Some s → ⊥
    nothing_there i e = absurd cc
encodings_read apart untyped k [] rows (p ∷ ps) bytes ss is h e j s at = absurd h
encodings_read apart untyped k (c ∷ cs) rows [] bytes ss is h e j s at = absurd h
encodings_read apart untyped k (c ∷ cs) rows (p ∷ ps) bytes ss is h e j s at =
    let rest = flat_map bytes_encoding ps in
    let cut : piece_in bytes ≡ Some (p, rest) = ap piece_in is ∙ piece_again p rest (piece_fits (column_type c) (column k rows) p h.0) in
    let read : known_before (statistics_in c p) (columns_in cs rest) ≡ Some ss = sym (ap (λ (o : Option (List ℕ × List ℕ)). after_piece c o (λ r. columns_in cs r)) cut) ∙ e in
    let parts = split (statistics_in c p) (columns_in cs rest) ss read in
    by_place (λ others here i at_it. encodings_read apart untyped (suc k) cs rows ps rest others refl h.1 here i s at_it) parts j (sym (ap (λ (l : List Known). slice_get l j) parts.is) ∙ at)
  where
    by_place : ((others : List Known) → columns_in cs (flat_map bytes_encoding ps) ≡ Some others → (i : ℕ) → slice_get others i ≡ Some s → AreOpen s ⊎ AreRight s (column (suc k + i) rows))
        → (parts : IsSplit (statistics_in c p) (columns_in cs (flat_map bytes_encoding ps)) ss) (i : ℕ) → slice_get (parts.first ∷ parts.rest) i ≡ Some s → AreOpen s ⊎ AreRight s (column (k + i) rows)
    by_place later parts zero here =
        let same : parts.first ≡ s = cc in
        let place : k ≡ k + 0 = omega arith in
        subst (λ (n : ℕ). AreOpen s ⊎ AreRight s (column n rows)) place (subst (λ (t : Known). AreOpen t ⊎ AreRight t (column k rows)) same (right_read apart untyped c (column k rows) p parts.first h.0 parts.first_is))
    by_place later parts (suc i) here =
        let place : suc k + i ≡ k + suc i = omega arith in
        subst (λ (n : ℕ). AreOpen s ⊎ AreRight s (column n rows)) place (later parts.rest parts.rest_is i here)

pub described_right : KeysAreApart → ValuesHaveNoTyped → (cs : List ColumnType) (rows : List (List Cell)) (bytes : List ℕ) (ss : List Known) → AreDescribed cs rows bytes → columns_in cs bytes ≡ Some ss → AreStatisticsOf ss rows
described_right apart untyped cs rows bytes ss h e k s at =
    let place : 0 + k ≡ k = omega arith in
    subst (λ (n : ℕ). AreOpen s ⊎ AreRight s (column n rows)) place (encodings_read apart untyped 0 cs rows h.encodings bytes ss h.is h.each e k s at)
