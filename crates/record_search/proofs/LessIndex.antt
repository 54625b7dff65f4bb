-- An index that says less of some columns is right for the same bytes.
use Rattle.std.proofs.Common.{◌≡◌, ◌<◌, ◌+◌, ◌^◌, inl, ℕ, zero, suc, List, [], ◌∷◌, ◌++◌, Bool, true, false, cond, refl, sym, ap, ap₂, ◌∙◌, subst, length, take, drop, arith, count_by, length-append}
use Rattle.std.specs.Int.{to_le_bytes, w64}
use Rattle.std.specs.List.{All, AllByRecursion, flat_map}
use Rattle.std.proofs.lemmas.List.Concat.{flat_map-cons}
use Rattle.csv_records.specs.Records.{records_of}
use Rattle.record_rows.specs.Cells.{column_type}
use Rattle.record_rows.specs.declared.schema.ColumnType.{ColumnType}
use Rattle.filter_pruning.specs.Pruning.{column}
use Rattle.vortex_cells.specs.Cells.{Cell}
use Rattle.zone_index.specs.Encoding.{ArePieces, FitsEncoding, HavePieces, IndexValue, ZoneValue, bytes_encoding, index_value, is_wanted, wanted_of, wanted_pieces, wanted_zones, zone_value, zone_values}
use Rattle.zone_index.specs.EncodingReading.{bytes_at}
use Rattle.zone_index.specs.Zones.{Follow, IsZoneOf, zone_records}
use Rattle.zone_index.specs.declared.encoding.Index.{Index}
use Rattle.zone_index.specs.declared.zones.Zone.{Zone}
use Rattle.zone_index.proofs.FieldLaws.{bytes_again, ok_is}
use Rattle.record_search.specs.Searched.{AreDescribed, AreEncoded, DescribeRows, IsRightOf, IsRowIndex, has_row, rows_under}
use Rattle.record_rows.specs.declared.schema.Schema.{Schema}
use Rattle.record_search.proofs.ReadBack.{piece_fits}

-- ---- pieces are the encodings

abbrev AllFit : List (List ℕ) → Type 0
AllFit ps = AllByRecursion (λ p. length p < 2 ^ 64) ps

pub encodings_fit : (k : ℕ) (cs : List ColumnType) (rows : List (List Cell)) (ps : List (List ℕ)) → AreEncoded IsRightOf k cs rows ps → AllFit ps
encodings_fit k [] rows [] h = tt
encodings_fit k [] rows (p ∷ ps) h = absurd h
encodings_fit k (c ∷ cs) rows [] h = absurd h
encodings_fit k (c ∷ cs) rows (p ∷ ps) h = (piece_fits (column_type c) (column k rows) p h.0, encodings_fit (suc k) cs rows ps h.1)

some_bytes : (p rest : List ℕ) → [] ≡ bytes_encoding p ++ rest → ⊥
some_bytes p rest e =
    let long : 0 ≡ length (bytes_encoding p ++ rest) = ap length e in
    omega (arith, long, length-append (bytes_encoding p) rest, length-append (to_le_bytes w64 (length p)) p)

-- bytes are the encodings of one list of pieces
same_pieces : (ps qs : List (List ℕ)) → AllFit ps → AllFit qs → flat_map bytes_encoding ps ≡ flat_map bytes_encoding qs → ps ≡ qs
same_pieces [] [] f g e = refl
same_pieces [] (q ∷ qs) f g e = absurd (some_bytes q (flat_map bytes_encoding qs) (e ∙ flat_map-cons bytes_encoding q qs))
same_pieces (p ∷ ps) [] f g e = absurd (some_bytes p (flat_map bytes_encoding ps) (sym e ∙ flat_map-cons bytes_encoding p ps))
same_pieces (p ∷ ps) (q ∷ qs) f g e =
    let whole : bytes_encoding p ++ flat_map bytes_encoding ps ≡ bytes_encoding q ++ flat_map bytes_encoding qs = sym (flat_map-cons bytes_encoding p ps) ∙ e ∙ flat_map-cons bytes_encoding q qs in
    let both : (p, flat_map bytes_encoding ps) ≡ (q, flat_map bytes_encoding qs) = ok_is (p, flat_map bytes_encoding ps) (q, flat_map bytes_encoding qs) (sym (bytes_again p (flat_map bytes_encoding ps) f.0) ∙ ap bytes_at whole ∙ bytes_again q (flat_map bytes_encoding qs) g.0) in
    ap₂ (λ (x : List ℕ) (xs : List (List ℕ)). x ∷ xs) (ap (λ (x : List ℕ × List ℕ). x.0) both) (same_pieces ps qs f.1 g.1 (ap (λ (x : List ℕ × List ℕ). x.1) both))

-- ---- some of them not wanted

one_of : (c : ColumnType) (cells : List Cell) (p : List ℕ) (b : Bool) → IsRightOf c cells p → IsRightOf c cells (cond b p [])
one_of c cells p true h = h
one_of c cells p false h = inl refl

less_encodings : (wanted : List Bool) (k : ℕ) (cs : List ColumnType) (rows : List (List Cell)) (ps : List (List ℕ)) → AreEncoded IsRightOf k cs rows ps → AreEncoded IsRightOf k cs rows (wanted_pieces wanted k ps)
less_encodings wanted k [] rows [] h = tt
less_encodings wanted k [] rows (p ∷ ps) h = absurd h
less_encodings wanted k (c ∷ cs) rows [] h = absurd h
less_encodings wanted k (c ∷ cs) rows (p ∷ ps) h = (one_of c (column k rows) p (is_wanted wanted k) h.0, less_encodings wanted (suc k) cs rows ps h.1)

less_described : (wanted : List Bool) (m : ℕ) (cs : List ColumnType) (rows : List (List Cell)) (z : ZoneValue) (ps : List (List ℕ)) → ArePieces m z.statistics ps → AreDescribed cs rows z.statistics → AreDescribed cs rows (flat_map bytes_encoding (wanted_pieces wanted 0 ps))
less_described wanted m cs rows z ps are h =
    let same : h.encodings ≡ ps = same_pieces h.encodings ps (encodings_fit 0 cs rows h.encodings h.each) are.fit (sym h.is ∙ are.is) in
    record { encodings = wanted_pieces wanted 0 ps; is = refl; each = less_encodings wanted 0 cs rows ps (subst (AreEncoded IsRightOf 0 cs rows) same h.each) }

-- ---- zones

-- a zone that says the same of its offset and its records
pub record IsLess (wanted : List Bool) (m : ℕ) (x y : Zone) : Type 0 where
  pub first : x.first ≡ y.first
  pub long : x.length ≡ y.length
  pub records : x.records ≡ y.records
  pub rows : x.rows ≡ y.rows
  pub pieces : List (List ℕ)
  pub are : ArePieces m (zone_value y).statistics pieces
  pub statistics : x.statistics.items ≡ flat_map bytes_encoding (wanted_pieces wanted 0 pieces)

abbrev AreLess : List Bool → ℕ → List Zone → List Zone → Type 0
AreLess wanted m [] [] = Unit {0}
AreLess wanted m [] (y ∷ ys) = ⊥
AreLess wanted m (x ∷ xs) [] = ⊥
AreLess wanted m (x ∷ xs) (y ∷ ys) = IsLess wanted m x y × AreLess wanted m xs ys

first_less : (wanted : List Bool) (m : ℕ) (x y : Zone) (ps : List (List ℕ)) → ArePieces m (zone_value y).statistics ps → zone_value x ≡ record (zone_value y) { statistics = flat_map bytes_encoding (wanted_pieces wanted 0 ps) } → IsLess wanted m x y
first_less wanted m x y ps are e = record {
  first = ap (λ (v : ZoneValue). v.first) e;
  long = ap (λ (v : ZoneValue). v.length) e;
  records = ap (λ (v : ZoneValue). v.records) e;
  rows = ap (λ (v : ZoneValue). v.rows) e;
  pieces = ps;
  are = are;
  statistics = ap (λ (v : ZoneValue). v.statistics) e;
}

heads : (v w : ZoneValue) (vs ws : List ZoneValue) → v ∷ vs ≡ w ∷ ws → (v ≡ w) × (vs ≡ ws)
heads v w vs ws e = (cc, cc)

zones_less : (wanted : List Bool) (m : ℕ) (xs ys : List Zone) (pieces : List (List (List ℕ))) → HavePieces m (zone_values ys) pieces → zone_values xs ≡ wanted_zones wanted (zone_values ys) pieces → AreLess wanted m xs ys
zones_less wanted m [] [] [] have e = tt
zones_less wanted m [] [] (ps ∷ pieces) have e = absurd have
zones_less wanted m [] (y ∷ ys) [] have e = absurd have
zones_less wanted m [] (y ∷ ys) (ps ∷ pieces) have e = absurd cc
zones_less wanted m (x ∷ xs) [] pieces have e = absurd cc
zones_less wanted m (x ∷ xs) (y ∷ ys) [] have e = absurd have
zones_less wanted m (x ∷ xs) (y ∷ ys) (ps ∷ pieces) have e =
    let parts = heads (zone_value x) (record (zone_value y) { statistics = flat_map bytes_encoding (wanted_pieces wanted 0 ps) }) (zone_values xs) (wanted_zones wanted (zone_values ys) pieces) e in
    (first_less wanted m x y ps have.0 parts.0, zones_less wanted m xs ys pieces have.1 parts.1)

follow_less : (wanted : List Bool) (m at end : ℕ) (xs ys : List Zone) → AreLess wanted m xs ys → Follow at ys end → Follow at xs end
follow_less wanted m at end [] [] e h = h
follow_less wanted m at end [] (y ∷ ys) e h = absurd e
follow_less wanted m at end (x ∷ xs) [] e h = absurd e
follow_less wanted m at end (x ∷ xs) (y ∷ ys) e h =
    let long : at + y.length ≡ at + x.length = ap (λ (n : ℕ). at + n) (sym e.0.long) in
    (e.0.first ∙ h.0, subst (λ (n : ℕ). Follow n xs end) long (follow_less wanted m (at + y.length) end xs ys e.1 h.1))

-- the records of a zone are those of its offset
records_same : (wanted : List Bool) (m d : ℕ) (bytes : List ℕ) (x y : Zone) → IsLess wanted m x y → zone_records d bytes x ≡ zone_records d bytes y
records_same wanted m d bytes x y e = ap₂ (λ (n f : ℕ). records_of d (take n (drop f bytes))) e.long e.first

all_records_same : (wanted : List Bool) (m d : ℕ) (bytes : List ℕ) (xs ys : List Zone) → AreLess wanted m xs ys → flat_map (zone_records d bytes) xs ≡ flat_map (zone_records d bytes) ys
all_records_same wanted m d bytes [] [] e = refl
all_records_same wanted m d bytes [] (y ∷ ys) e = absurd e
all_records_same wanted m d bytes (x ∷ xs) [] e = absurd e
all_records_same wanted m d bytes (x ∷ xs) (y ∷ ys) e = ap₂ (λ (a b : List (List ℕ)). a ++ b) (records_same wanted m d bytes x y e.0) (all_records_same wanted m d bytes xs ys e.1)

zone_less : (wanted : List Bool) (m : ℕ) (s : Schema) (bytes : List ℕ) (x y : Zone) → IsLess wanted m x y → IsZoneOf s.delimiter.byte (has_row s) (DescribeRows s) bytes y → IsZoneOf s.delimiter.byte (has_row s) (DescribeRows s) bytes x
zone_less wanted m s bytes x y e h =
    let d = s.delimiter.byte in
    let own = records_same wanted m d bytes x y e in
    let there = zone_records d bytes y in
    let less : DescribeRows s (flat_map bytes_encoding (wanted_pieces wanted 0 e.pieces)) there = less_described wanted m s.columns.items (rows_under s there) (zone_value y) e.pieces e.are h.described in
    record {
      inside = omega (arith, h.inside, e.first, e.long);
      records = e.records ∙ h.records ∙ ap length (sym own);
      rows = e.rows ∙ h.rows ∙ ap (count_by (has_row s)) (sym own);
      described = subst (DescribeRows s x.statistics.items) (sym own) (subst (λ (l : List ℕ). DescribeRows s l there) (sym e.statistics) less);
    }

all_less : (wanted : List Bool) (m : ℕ) (s : Schema) (bytes : List ℕ) (xs ys : List Zone) → AreLess wanted m xs ys → All (IsZoneOf s.delimiter.byte (has_row s) (DescribeRows s) bytes) ys → All (IsZoneOf s.delimiter.byte (has_row s) (DescribeRows s) bytes) xs
all_less wanted m s bytes [] ys e h k z below = absurd (omega arith)
all_less wanted m s bytes (x ∷ xs) [] e h k z below = absurd e
all_less wanted m s bytes (x ∷ xs) (y ∷ ys) e h zero z below = zone_less wanted m s bytes x y e.0 (h 0 y (omega arith))
all_less wanted m s bytes (x ∷ xs) (y ∷ ys) e h (suc k) z below = all_less wanted m s bytes xs ys e.1 (λ j w under. h (suc j) w (omega arith)) k z (omega arith)

pub index_less : (s : Schema) (n : ℕ) (pieces : List (List (List ℕ))) (wanted : List Bool) (written read : Index) (bytes : List ℕ) → FitsEncoding n (index_value written) pieces → index_value read ≡ wanted_of wanted (index_value written) pieces
    → IsRowIndex s written.start written.zones.items bytes → IsRowIndex s read.start read.zones.items bytes
index_less s n pieces wanted written read bytes fits e h =
    let d = s.delimiter.byte in
    let start : read.start ≡ written.start = ap (λ (v : IndexValue). v.start) e in
    let zones : AreLess wanted n read.zones.items written.zones.items = zones_less wanted n read.zones.items written.zones.items pieces fits.have (ap (λ (v : IndexValue). v.zones) e) in
    record {
      follow = subst (λ (k : ℕ). Follow k read.zones.items (length bytes)) (sym start) (follow_less wanted n written.start (length bytes) read.zones.items written.zones.items zones h.follow);
      records = ap (λ (k : ℕ). records_of d (drop k bytes)) start ∙ h.records ∙ sym (all_records_same wanted n d bytes read.zones.items written.zones.items zones);
      right = all_less wanted n s bytes read.zones.items written.zones.items zones h.right;
    }
