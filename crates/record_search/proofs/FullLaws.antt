-- What a describer says is read back.
use Rattle.std.proofs.Common.{◌≡◌, ℕ, suc, List, [], ◌∷◌, Option, Some, refl, sym, ap, ◌∙◌, length, map}
use Rattle.std.specs.List.{flat_map}
use Rattle.record_rows.specs.Cells.{column_type}
use Rattle.record_rows.specs.declared.schema.ColumnType.{ColumnType}
use Rattle.filter_pruning.specs.Pruning.{column}
use Rattle.vortex_cells.specs.Cells.{Cell}
use Rattle.statistics_bytes.specs.Encoding.{AreOf, encoding}
use Rattle.vortex_statistics.specs.Statistics.{Known, known}
use Rattle.vortex_statistics.specs.declared.column_statistics.ColumnStatistics.{ColumnStatistics}
use Rattle.zone_index.specs.Encoding.{bytes_encoding}
use Rattle.record_search.specs.Decoding.{after_piece, columns_in, known_before, piece_in, statistics_in}
use Rattle.record_search.specs.Laws.{AreAllCut, DescribedIsRead}
use Rattle.record_search.specs.Searched.{AreEncoded, IsFullOf}
use Rattle.record_search.proofs.DecodeLaws.{found_in}
use Rattle.record_search.proofs.ReadBack.{piece_again}

-- a piece that has an encoding is not empty, and is read
piece_read : (c : ColumnType) (piece : List ℕ) (s : Known) → AreOf (column_type c) s → piece ≡ encoding s → statistics_in c piece ≡ Some s
piece_read c [] s of_type is = absurd cc
piece_read c (b ∷ bytes) s of_type is = found_in c (b ∷ bytes) s (of_type, is)

-- the statistics that are read, from this column on
record AreReadFrom (n k : ℕ) (cs : List ColumnType) (rows : List (List Cell)) (bytes : List ℕ) : Type 0 where
  statistics : List ColumnStatistics
  count : length statistics ≡ length cs
  read : columns_in cs bytes ≡ Some (map known statistics)
  each : AreAllCut n k rows statistics

columns_read : (n k : ℕ) (cs : List ColumnType) (rows : List (List Cell)) (ps : List (List ℕ)) (bytes : List ℕ) → bytes ≡ flat_map bytes_encoding ps → AreEncoded (IsFullOf n) k cs rows ps → AreReadFrom n k cs rows bytes
columns_read n k [] rows [] bytes is h = record { statistics = []; count = refl; read = ap (columns_in []) is; each = tt }
columns_read n k [] rows (p ∷ ps) bytes is h = absurd h
columns_read n k (c ∷ cs) rows [] bytes is h = absurd h
columns_read n k (c ∷ cs) rows (p ∷ ps) bytes is h =
    let rest = flat_map bytes_encoding ps in
    let full = h.0.1 in
    let others = columns_read n (suc k) cs rows ps rest refl h.1 in
    let cut : piece_in bytes ≡ Some (p, rest) = ap piece_in is ∙ piece_again p rest h.0.0.fits in
    let first : statistics_in c p ≡ Some (known full.statistics) = piece_read c p (known full.statistics) full.of_type full.is in
    record {
      statistics = full.statistics ∷ others.statistics;
      count = ap suc others.count;
      read = ap (λ (o : Option (List ℕ × List ℕ)). after_piece c o (λ r. columns_in cs r)) cut
          ∙ ap (λ (o : Option Known). known_before o (columns_in cs rest)) first
          ∙ ap (known_before (Some (known full.statistics))) others.read;
      each = (full.right, full.cut, others.each);
    }

pub described_read : DescribedIsRead
described_read n s bytes records h =
    let all = columns_read n 0 s.columns.items _ h.encodings bytes h.is h.each in
    record { statistics = all.statistics; count = all.count; read = all.read; each = all.each }
