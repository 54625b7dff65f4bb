-- What is read of one column is what its piece says, by the law.
use Rattle.std.proofs.Common.{◌≡◌, ◌==◌, ℕ, Bool, true, false, if◌then◌else◌, List, [], ◌∷◌, IfOk, IfSome, Option, None, Some, Result, Ok, Err, Vec, ap, length, map, refl, sym, ◌∙◌}
use Rattle.std.specs.Global.{Global}
use Rattle.std.specs.declared.alloc.AllocError.{AllocError}
use Rattle.std.specs.Prelude.{option_map}
use Rattle.std.proofs.lemmas.Bool.{eqb-true}
use Rattle.std.proofs.lemmas.List.{nil_from_length}
use Rattle.record_rows.specs.Cells.{column_type}
use Rattle.record_rows.specs.declared.schema.ColumnType.{ColumnType}
use Rattle.record_search.specs.Decoding.{after_piece, columns_in, known_before, piece_in, statistics_in}
use Rattle.record_search.specs.Laws.{PiecesAreRead}
use Rattle.statistics_bytes.specs.Pieces.{Says}
use Rattle.vortex_statistics.specs.Statistics.{Known, known}
use Rattle.vortex_statistics.specs.declared.column_statistics.ColumnStatistics.{ColumnStatistics}
use Rattle.law_callers.proofs.zone_statistics.known_of_column.Goals as goal

-- the only piece, and what it says
record IsOnly (column : ColumnType) (bytes : List ℕ) (ss : List Known) : Type 0 where
  piece : List ℕ
  first : Known
  cut : piece_in bytes ≡ Some (piece, [])
  is : ss ≡ first ∷ []
  said : statistics_in column piece ≡ Some first

by_rest : (column : ColumnType) (bytes piece rest : List ℕ) (ss : List Known) (o : Option Known) (b : Bool) → piece_in bytes ≡ Some (piece, rest) → statistics_in column piece ≡ o → (length rest == 0) ≡ b → known_before o (if b then Some [] else None) ≡ Some ss → IsOnly column bytes ss
by_rest column bytes piece rest ss None true cut said none e = absurd cc
by_rest column bytes piece rest ss None false cut said none e = absurd cc
by_rest column bytes piece rest ss (Some s) false cut said none e = absurd cc
by_rest column bytes piece rest ss (Some s) true cut said none e = record {
  piece = piece;
  first = s;
  cut = cut ∙ ap (λ (l : List ℕ). Some (piece, l)) (nil_from_length rest (eqb-true _ _ none));
  is = cc;
  said = said;
}

by_cut : (column : ColumnType) (bytes : List ℕ) (ss : List Known) (o : Option (List ℕ × List ℕ)) → piece_in bytes ≡ o → after_piece column o (λ rest. columns_in [] rest) ≡ Some ss → IsOnly column bytes ss
by_cut column bytes ss None cut e = absurd cc
by_cut column bytes ss (Some p) cut e = by_rest column bytes p.0 p.1 ss (statistics_in column p.0) (length p.1 == 0) cut refl refl e

says_only : PiecesAreRead → (column : ColumnType) (bytes : List ℕ) (read : Option (Vec ColumnStatistics Global)) → option_map (λ v. map known v.items) read ≡ columns_in (column ∷ []) bytes
    → IfSome read (λ all. (piece : List ℕ) × (s : Known) × (piece_in bytes ≡ Some (piece, [])) × (map known all.items ≡ s ∷ []) × Says (column_type column) piece s)
says_only law column bytes None e = tt
says_only law column bytes (Some all) e =
    let only = by_cut column bytes (map known all.items) (piece_in bytes) refl (sym e) in
    (only.piece, only.first, only.cut, only.is, (law column only.piece only.first).0 only.said)

pub returns : goal.returns
returns c = by_result c.read_statistics.result c.read_statistics.ensures.read
  where
    by_result : (r : Result (Option (Vec ColumnStatistics Global)) AllocError) → IfOk r (λ read. option_map (λ v. map known v.items) read ≡ columns_in (c.args.column ∷ []) c.args.bytes.now)
        → IfOk r (λ read. IfSome read (λ all. (piece : List ℕ) × (s : Known) × (piece_in c.args.bytes.now ≡ Some (piece, [])) × (map known all.items ≡ s ∷ []) × Says (column_type c.args.column) piece s))
    by_result (Ok read) h = says_only c.pieces_are_read.ensures c.args.column c.args.bytes.now read h
    by_result (Err e) h = tt
