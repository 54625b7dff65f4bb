-- The statistics of right zones are pieces that can be written.
use Rattle.std.proofs.Common.{◌≡◌, ℕ, suc, List, [], ◌∷◌, refl, ap, length}
use Rattle.std.proofs.lemmas.List.Elements.{All-head, All-tail}
use Rattle.std.specs.List.{All}
use Rattle.record_rows.specs.declared.schema.ColumnType.{ColumnType}
use Rattle.record_rows.specs.declared.schema.Schema.{Schema}
use Rattle.vortex_cells.specs.Cells.{Cell}
use Rattle.zone_index.specs.Encoding.{HavePieces, zone_values}
use Rattle.zone_index.specs.Zones.{IsZoneOf}
use Rattle.zone_index.specs.declared.zones.Zone.{Zone}
use Rattle.record_search.specs.Laws.{RightIndexesHavePieces}
use Rattle.record_search.specs.Searched.{AreEncoded, DescribeRows, IsRightOf, has_row}
use Rattle.record_search.proofs.LessIndex.{encodings_fit}

-- there is one for each column
one_each : (Is : ColumnType → List Cell → List ℕ → Type 0) (k : ℕ) (cs : List ColumnType) (rows : List (List Cell)) (ps : List (List ℕ)) → AreEncoded Is k cs rows ps → length ps ≡ length cs
one_each Is k [] rows [] h = refl
one_each Is k [] rows (p ∷ ps) h = absurd h
one_each Is k (c ∷ cs) rows [] h = absurd h
one_each Is k (c ∷ cs) rows (p ∷ ps) h = ap suc (one_each Is (suc k) cs rows ps h.1)

zones_have : (s : Schema) (bytes : List ℕ) (zones : List Zone) → All (IsZoneOf s.delimiter.byte (has_row s) (DescribeRows s) bytes) zones → (pieces : List (List (List ℕ))) × HavePieces (length s.columns.items) (zone_values zones) pieces
zones_have s bytes [] h = ([], tt)
zones_have s bytes (z ∷ zones) h =
    let P = IsZoneOf s.delimiter.byte (has_row s) (DescribeRows s) bytes in
    let own = (All-head P z zones h).described in
    let others = zones_have s bytes zones (All-tail P z zones h) in
    let cs = s.columns.items in (
      own.encodings ∷ others.0,
      (record { is = own.is; count = one_each IsRightOf 0 cs _ own.encodings own.each; fit = encodings_fit 0 cs _ own.encodings own.each }, others.1),
    )

pub right_have_pieces : RightIndexesHavePieces
right_have_pieces s start zones bytes h = zones_have s bytes zones h.right
