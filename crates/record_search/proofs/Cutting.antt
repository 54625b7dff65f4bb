-- Statistics that are read of bytes stand there in pieces.
use Rattle.std.proofs.Common.{◌≡◌, ℕ, suc, ◌+◌, ◌<◌, ◌==◌, Bool, true, false, if◌then◌else◌, List, [], ◌∷◌, ◌++◌, Option, None, Some, Ok, refl, sym, ap, ap₂, ◌∙◌, subst, length, take, drop}
use Rattle.std.specs.Int.{from_le_bytes, w64}
use Rattle.std.specs.List.{flat_map}
use Rattle.std.specs.Prelude.{nat_lt}
use Rattle.std.proofs.lemmas.Bool.{eqb-true}
use Rattle.std.proofs.lemmas.List.{drop-drop, nil_from_length}
use Rattle.std.proofs.lemmas.List.Concat.{flat_map-cons}
use Rattle.record_rows.specs.declared.schema.ColumnType.{ColumnType}
use Rattle.vortex_statistics.specs.Statistics.{Known}
use Rattle.zone_index.proofs.FieldLaws.{IsBytes, IsPiece, Takes, piece_takes}
use Rattle.zone_index.specs.Encoding.{ArePieces, bytes_encoding}
use Rattle.zone_index.specs.EncodingReading.{piece_at}
use Rattle.record_search.specs.Decoding.{after_piece, columns_in, known_before, piece_in, piece_of, statistics_in}

guard_some : {A : Type 0} (b : Bool) (x : Option A) (y : A) → (if b then None else x) ≡ Some y → (b ≡ false) × (x ≡ Some y)
guard_some true x y e = absurd cc
guard_some false x y e = (refl, e)

first_is : (p q : List ℕ × List ℕ) → Some p ≡ Some q → p ≡ q
first_is p q e = cc

-- the piece that is cut from the front, and the bytes of its length
cut_at : (bytes piece rest : List ℕ) → piece_in bytes ≡ Some (piece, rest) → (x : List ℕ) × (piece_at bytes ≡ Ok (x, rest))
unfolding piece_at
cut_at bytes piece rest e =
    let n = from_le_bytes w64 (take 8 bytes) in
    let r = drop 8 bytes in
    let long = guard_some (nat_lt (length bytes) 8) (piece_of n r) (piece, rest) e in
    let full = guard_some (nat_lt (length r) n) (Some (take n r, drop n r)) (piece, rest) long.1 in
    let behind : drop n r ≡ rest = ap (λ (p : List ℕ × List ℕ). p.1) (first_is (take n r, drop n r) (piece, rest) full.1) in
    let read : piece_at bytes ≡ Ok (take (8 + n) bytes, drop (8 + n) bytes) = rw (long.0, full.0) refl in
    let there : drop (8 + n) bytes ≡ rest = sym (drop-drop n 8 bytes) ∙ behind in
    (take (8 + n) bytes, read ∙ ap (λ (l : List ℕ). Ok (take (8 + n) bytes, l)) there)

nothing_left : (b : Bool) (ss : List Known) → (if b then Some [] else None) ≡ Some ss → b ≡ true
nothing_left true ss e = refl
nothing_left false ss e = absurd cc

others_read : (o : Option Known) (others : Option (List Known)) (ss : List Known) → known_before o others ≡ Some ss → (rest : List Known) × (others ≡ Some rest)
others_read (Some s) (Some rest) ss e = (rest, refl)
others_read (Some s) None ss e = absurd cc
others_read None others ss e = absurd cc

one_more : (n : ℕ) (bytes x rest : List ℕ) → Takes bytes x rest × IsPiece x → (pieces : List (List ℕ)) × ArePieces n rest pieces → (pieces : List (List ℕ)) × ArePieces (suc n) bytes pieces
one_more n bytes x rest first others =
    let p = first.1.piece in
    let are = others.1 in (
      p ∷ others.0,
      record {
        is = first.0.parts ∙ ap₂ (λ (a b : List ℕ). a ++ b) first.1.is are.is ∙ sym (flat_map-cons bytes_encoding p others.0);
        count = ap suc are.count;
        fit = (first.1.fits, are.fit);
      },
    )

cut_read : (c : ColumnType) (cs : List ColumnType) (bytes : List ℕ) (ss : List Known) → IsBytes bytes → ((rest : List ℕ) (ts : List Known) → IsBytes rest → columns_in cs rest ≡ Some ts → (pieces : List (List ℕ)) × ArePieces (length cs) rest pieces)
    → (o : Option (List ℕ × List ℕ)) → piece_in bytes ≡ o → after_piece c o (λ r. columns_in cs r) ≡ Some ss → (pieces : List (List ℕ)) × ArePieces (suc (length cs)) bytes pieces
cut_read c cs bytes ss fits later None cut e = absurd cc
cut_read c cs bytes ss fits later (Some p) cut e =
    let others = others_read (statistics_in c p.0) (columns_in cs p.1) ss e in
    let at = cut_at bytes p.0 p.1 cut in
    let first = piece_takes bytes at.0 p.1 fits at.1 in
    one_more (length cs) bytes at.0 p.1 first (later p.1 others.0 first.0.rest_fits others.1)

pieces_there : (cs : List ColumnType) (bytes : List ℕ) (ss : List Known) → IsBytes bytes → columns_in cs bytes ≡ Some ss → (pieces : List (List ℕ)) × ArePieces (length cs) bytes pieces
pieces_there [] bytes ss fits e = ([], record { is = nil_from_length bytes (eqb-true _ _ (nothing_left (length bytes == 0) ss e)); count = refl; fit = tt })
pieces_there (c ∷ cs) bytes ss fits e = cut_read c cs bytes ss fits (pieces_there cs) (piece_in bytes) refl e

-- bytes that are not so many pieces say no statistics
pub no_pieces : (cs : List ColumnType) (bytes : List ℕ) → IsBytes bytes → ((pieces : List (List ℕ)) → ¬ (ArePieces (length cs) bytes pieces)) → None ≡ columns_in cs bytes
no_pieces cs bytes fits none = by_answer (columns_in cs bytes) refl
  where
    by_answer : (o : Option (List Known)) → columns_in cs bytes ≡ o → None ≡ o
    by_answer None e = refl
    by_answer (Some ss) e = let there = pieces_there cs bytes ss fits e in absurd (none there.0 there.1)
