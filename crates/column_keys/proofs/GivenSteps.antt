-- From kinds and options as they come to types, and from the keys' rows to what is answered.
use Rattle.std.proofs.Common.{◌≡◌, ◌∙◌, ℕ, ◌<◌, List, [], ◌∷◌, length, map, get_or, sym, subst, ap, arith, Option, Some, None}
use Rattle.std.specs.Global.{Global}
use Rattle.std.specs.List.{All}
use Rattle.std.specs.Prelude.{Vec}
use Rattle.std.proofs.lemmas.List.{get_or-map, length-map}
use Rattle.arrow_columns.specs.declared.kinds.Kind.{Kind}
use Rattle.arrow_columns.specs.declared.kinds.Kind.TheVariants.{Binary, Boolean, Integer, LargeBinary, LargeUtf8, Logical, Null, Utf8}
use Rattle.column_items.proofs.FormatTypes.{no_variant_in}
use Rattle.column_cells.specs.Types.{type_at}
use Rattle.vortex_dtype.specs.TypeOf.{as_type_trees, type_of}
use Rattle.vortex_dtype.specs.TypeTree.{null_type}
use Rattle.vortex_value.specs.TypesWithin.{HasNoVariant, HaveNoVariant}
use Rattle.vortex_value.specs.Size.{capped}
use Rattle.vortex_value.specs.Validity.{Valid}
use Rattle.vortex_value.specs.Values.Content.{content}
use Rattle.vortex_value.specs.Values.RawTree.{RawTree}
use Rattle.vortex_value.specs.Values.Scalars.{scalar_raw}
use Rattle.vortex_value.specs.declared.scalars.Scalar.{Scalar}
use Rattle.column_keys.specs.Answers.{AreCellsBy, AreColumnsOfKeys, AreCountsOfKeys, AreKeys, HasCells, HaveValuesTo, IsRefusal}
use Rattle.column_keys.specs.Cells.{AreCellsOf, AreRowsOf, AreTyped, HaveColumn, IsRowAt, IsRowOf, key_count, raws_in}
use Rattle.column_keys.specs.Layout.{values_length}
use Rattle.column_keys.specs.Read.{AreCountedIn, AreStored, AreWrittenIn, HasSpace, HaveStored, IsNoValueIn, LackSpace}
use Rattle.column_keys.specs.Tables.{options_in}
use Rattle.column_keys.specs.Types.{HaveTypes, types_of_kinds}
use Rattle.column_keys.specs.declared.buffers.ColumnBuffers.{ColumnBuffers}
use Rattle.column_keys.specs.declared.errors.KeysError.{KeysError}
use Rattle.column_keys.specs.declared.errors.KeysError.TheVariants.{BufferTooSmall, NotAValue}
use Rattle.column_keys.specs.declared.keys.RowKeys.{RowKeys}
use Rattle.column_keys.proofs.ColumnsRead.{same-kind, written-before}
use Rattle.column_keys.proofs.RowsRead.{cells-of, have-column, have-types, raws-count}

-- ---- the types are plain

pub plain-kind : (o : Option Kind) → HasNoVariant (type_at o)
plain-kind None = tt
plain-kind (Some (Integer kind)) = tt
plain-kind (Some Boolean) = tt
plain-kind (Some Utf8) = tt
plain-kind (Some LargeUtf8) = tt
plain-kind (Some Binary) = tt
plain-kind (Some LargeBinary) = tt
plain-kind (Some Null) = tt
plain-kind (Some (Logical format)) = no_variant_in format

pub plain-kinds : (found : List (Option Kind)) → HaveNoVariant (as_type_trees (types_of_kinds found))
plain-kinds [] = tt
plain-kinds (kind ∷ found) = (plain-kind kind, plain-kinds found)

-- what was read of kinds and options
pub record AreReadFrom (found : List (Option Kind)) (bytes : List ℕ) (keys : RowKeys) : Type 0 where
  pub types : map type_of keys.dtypes.now ≡ types_of_kinds found
  pub options' : keys.options.now ≡ map options_in bytes
  pub sound : HaveTypes found bytes

type-count : (found : List (Option Kind)) (bytes : List ℕ) (keys : RowKeys) → AreReadFrom found bytes keys → length keys.dtypes.now ≡ length found
type-count found bytes keys read = sym (length-map keys.dtypes.now type_of) ∙ ap length read.types ∙ length-map found type_at

pub typed : (found : List (Option Kind)) (bytes : List ℕ) (keys : RowKeys) → AreReadFrom found bytes keys → AreTyped keys
typed found bytes keys read = record {
  counts = type-count found bytes keys read ∙ sym (ap length read.options' ∙ length-map bytes options_in ∙ read.sound.counts);
  plain = subst (λ ts. HaveNoVariant (as_type_trees ts)) (sym read.types) (plain-kinds found);
}

-- the rows have each column, with values of its type
pub column-there : (found : List (Option Kind)) (bytes : List ℕ) (keys : RowKeys) (rows : List (Vec Scalar Global)) → AreReadFrom found bytes keys → AreRowsOf keys rows → (which : ℕ) → which < length found → HaveColumn rows which
column-there found bytes keys rows read all which l = have-column keys rows which all (omega (arith, l, type-count found bytes keys read))

pub types-there : (found : List (Option Kind)) (bytes : List ℕ) (keys : RowKeys) (rows : List (Vec Scalar Global)) → AreReadFrom found bytes keys → AreRowsOf keys rows → (which : ℕ) → which < length found → All (Valid (type_at (get_or found which None))) (raws_in rows which)
types-there found bytes keys rows read all which l =
    have-types keys rows which (type_at (get_or found which None)) all (omega (arith, l, type-count found bytes keys read))
    (sym (ap (λ ts. get_or ts which null_type) read.types ∙ get_or-map type_at found which None null_type l))

cells-by : (found : List (Option Kind)) (bytes : List ℕ) (keys : RowKeys) (rows : List (Vec Scalar Global)) (which : ℕ) → AreReadFrom found bytes keys → AreRowsOf keys rows → AreCellsBy found bytes which keys.bytes.now keys.offsets.now (map content (raws_in rows which))
cells-by found bytes keys rows which read all =
    subst (λ os. AreCellsOf os (as_type_trees (types_of_kinds found)) which keys.bytes.now keys.offsets.now (map content (raws_in rows which))) read.options'
    (subst (λ ts. AreCellsOf keys.options.now (as_type_trees ts) which keys.bytes.now keys.offsets.now (map content (raws_in rows which))) read.types (cells-of keys rows which all))

-- each key is one of a row
keys-by : (found : List (Option Kind)) (bytes : List ℕ) (keys : RowKeys) (rows : List (Vec Scalar Global)) → AreReadFrom found bytes keys → AreRowsOf keys rows → AreKeys found bytes keys.bytes.now keys.offsets.now
keys-by found bytes keys rows read all row l = by_rows rows all.count all.each
  where
    by_rows : (rs : List (Vec Scalar Global)) → length rs ≡ key_count keys.offsets.now → ((k : ℕ) (d : Vec Scalar Global) → k < length rs → IsRowOf keys k (map scalar_raw (get_or rs k d).items))
        → (values : List RawTree) × IsRowAt (map options_in bytes) (as_type_trees (types_of_kinds found)) keys.bytes.now keys.offsets.now row values
    by_rows [] count each = absurd (omega (arith, l, count))
    by_rows (r ∷ rs) count each =
        let values = map scalar_raw (get_or (r ∷ rs) row r).items in (
          values,
          subst (λ os. IsRowAt os (as_type_trees (types_of_kinds found)) keys.bytes.now keys.offsets.now row values) read.options'
              (subst (λ ts. IsRowAt keys.options.now (as_type_trees ts) keys.bytes.now keys.offsets.now row values) read.types (each row r (omega (arith, l, count)))),
        )

-- ---- the answer

-- the cells of the column of this number
has-cells : (found : List (Option Kind)) (bytes : List ℕ) (keys : RowKeys) (rows : List (Vec Scalar Global)) (which : ℕ) (kind : Kind) → AreReadFrom found bytes keys → AreRowsOf keys rows → get_or found which None ≡ Some kind
    → HasCells found bytes which keys.bytes.now keys.offsets.now kind (map content (raws_in rows which))
has-cells found bytes keys rows which kind read all is = record { kind_is = is; cells_are = cells-by found bytes keys rows which read all }

-- each of them is null, or a value of the kind
stored-there : (found : List (Option Kind)) (rows : List (Vec Scalar Global)) (n which : ℕ) (kind : Kind) → HaveStored found rows n → which < n → get_or found which None ≡ Some kind → AreStored kind (map content (raws_in rows which)) (length (map content (raws_in rows which)))
stored-there found rows n which kind stored l is = subst (AreStored kind (map content (raws_in rows which))) (sym (raws-count rows which)) (stored which kind l is)

values-to : (found : List (Option Kind)) (bytes : List ℕ) (keys : RowKeys) (rows : List (Vec Scalar Global)) (n : ℕ) → AreReadFrom found bytes keys → AreRowsOf keys rows → HaveStored found rows n → HaveValuesTo found bytes keys.bytes.now keys.offsets.now n
values-to found bytes keys rows n read all stored which kind l is = (
  map content (raws_in rows which),
  record { has = has-cells found bytes keys rows which kind read all is; stored = stored-there found rows n which kind stored l is },
)

pub columns-given : (found : List (Option Kind)) (bytes : List ℕ) (keys : RowKeys) (rows : List (Vec Scalar Global)) (old between new : List ColumnBuffers) → AreReadFrom found bytes keys → AreRowsOf keys rows → length old ≡ length found
    → HaveStored found rows (length found) → AreCountedIn found rows (length found) old between → AreWrittenIn found rows (length found) between new → AreColumnsOfKeys found bytes keys.bytes.now keys.offsets.now old new
columns-given found bytes keys rows old between new read all counts stored counted written = record {
  types = read.sound;
  count = counts;
  keys = keys-by found bytes keys rows read all;
  each = λ which d l.
      let one = written.each which d l in
      let before = counted.each which d l in
      record {
        kind = one.0;
        cells = map content (raws_in rows which);
        has = has-cells found bytes keys rows which one.0 read all one.1;
        stored = stored-there found rows (length found) which one.0 stored l one.1;
        written = written-before one.0 (map content (raws_in rows which)) _ (get_or old which d) (get_or between which d) (get_or new which d) before.2 one.2;
      };
}

pub counts-given : (found : List (Option Kind)) (bytes : List ℕ) (keys : RowKeys) (rows : List (Vec Scalar Global)) (old new : List ColumnBuffers) → AreReadFrom found bytes keys → AreRowsOf keys rows → AreCountedIn found rows (length found) old new
    → AreCountsOfKeys found bytes keys.bytes.now keys.offsets.now old new
counts-given found bytes keys rows old new read all counted which d l =
    let one = counted.each which d l in
    record { kind = one.0; cells = map content (raws_in rows which); has = has-cells found bytes keys rows which one.0 read all one.1; counted = one.2 }

-- ---- the refusals

pub buffer-lacks : (found : List (Option Kind)) (bytes : List ℕ) (keys : RowKeys) (rows : List (Vec Scalar Global)) (old new : List ColumnBuffers) → AreReadFrom found bytes keys → AreRowsOf keys rows → length old ≡ length found → HaveStored found rows (length found)
    → AreCountedIn found rows (length found) old new → LackSpace found rows (length found) new → IsRefusal found bytes keys.bytes.now keys.offsets.now old BufferTooSmall
buffer-lacks found bytes keys rows old new read all n stored counted lack = (
  (read.sound.counts, n),
  read.sound,
  record {
    values = values-to found bytes keys rows (length found) read all stored;
    which = lack.which;
    within = lack.within;
    kind = lack.kind;
    cells = map content (raws_in rows lack.which);
    has = has-cells found bytes keys rows lack.which lack.kind read all lack.is;
    lacks = λ d.
        let one = counted.each lack.which d lack.within in
        let same : one.0 ≡ lack.kind = same-kind _ _ _ one.1 lack.is in
        subst (λ k. ¬ (HasSpace lack.kind (length (map content (raws_in rows lack.which))) (record (get_or old lack.which d) { count = capped (values_length k (map content (raws_in rows lack.which))) }))) same
        (subst (λ c. ¬ (HasSpace lack.kind (length (map content (raws_in rows lack.which))) c)) one.2 (subst (λ m. ¬ (HasSpace lack.kind m (get_or new lack.which d))) (sym (raws-count rows lack.which)) (lack.lacks d)));
  },
)

pub value-lacks : (found : List (Option Kind)) (bytes : List ℕ) (keys : RowKeys) (rows : List (Vec Scalar Global)) (columns : List ColumnBuffers) (e : KeysError) → AreReadFrom found bytes keys → AreRowsOf keys rows → length columns ≡ length found → IsNoValueIn found rows e
    → IsRefusal found bytes keys.bytes.now keys.offsets.now columns e
value-lacks found bytes keys rows columns (NotAValue column row) read all n h = (
  (read.sound.counts, n),
  read.sound,
  record {
    within = h.0;
    kind = h.2.0;
    cells = map content (raws_in rows column);
    has = has-cells found bytes keys rows column h.2.0 read all h.2.1;
    first = h.2.2;
    before = values-to found bytes keys rows column read all h.1;
  },
)
value-lacks found bytes keys rows columns _ read all n h = absurd h
