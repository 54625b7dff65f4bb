-- Steps of asking a prepared filter.
use Rattle.std.proofs.Common.{◌≡◌, ℕ, zero, suc, ◌≤◌, arith, ◌⊎◌, inl, inr, List, [], ◌++◌, map, refl, subst, sym, ap, ◌∙◌}
use Rattle.arrow_columns.specs.declared.columns.Column.{Column}
use Rattle.column_filters.specs.Words.{IsMask, matching}
use Rattle.column_filters.specs.Tables.{AreColumnsOf, IsMaskError, cells_of_columns}
use Rattle.column_filters.specs.Zones.{AreOutcomes, RefusesZones}
use Rattle.column_filters.specs.declared.errors.MaskError.{MaskError}
use Rattle.column_filters.specs.declared.errors.ZoneError.{ZoneError}
use Rattle.filter_encoding.specs.Answers.{HasNoValue, HasVersion, IsFirstWrong, IsEncoding}
use Rattle.filter_encoding.specs.Encoding.{EncodingsAreApart, HasEncoding, HasValues, IsFormed, IsLiteral, IsVersion, Nests, Prepared, encoding_in, prepared, version_of}
use Rattle.filter_encoding.proofs.EncodingLaws.{written_version}
use Rattle.filter_encoding.proofs.NoValueLaws.{none_in}
use Rattle.filter_encoding.specs.declared.error.FilterEncodingError.{FilterEncodingError}
use Rattle.filter_encoding.specs.declared.error.FilterEncodingError.TheVariants.{BadBytes, NoEncoding, NotAValue, OutOfMemory}
use Rattle.filter_encoding.specs.declared.prepared.PreparedFilter.{PreparedFilter}
use Rattle.vortex_dtype.specs.TypeOf.{type_of}
use Rattle.vortex_dtype.specs.declared.types.DType.{DType}
use Rattle.vortex_filter.specs.Formula.{Formula, constant, comparison, null_test, membership, range, prefix_test, pattern_test, both, either, negation, formula}
use Rattle.vortex_c.specs.FilterLaws.{AreOfWords, FiltersAreOfWords}
use Rattle.vortex_c.specs.FilterSql.{IsPreparedFrom, encoding_depth, prepared_of}
use Rattle.vortex_c.specs.declared.sql.NamedKind.{NamedKind}
use Rattle.vortex_c.specs.Filters.{AreFilterOutcomes, IsFilterMask, IsEncodingOf, IsRowsError, IsUnread, IsZonesError}
use Rattle.vortex_c.specs.declared.filters.RowsError.TheVariants as rows
use Rattle.vortex_c.specs.declared.filters.ZonesError.TheVariants as zones

-- why bytes are not read
pub unread : (n : ℕ) (bytes : List ℕ) (e : FilterEncodingError) → (e ≡ OutOfMemory) ⊎ (((place : ℕ) × (e ≡ BadBytes place)) ⊎ ((place : ℕ) × (e ≡ NotAValue place))) → ((place : ℕ) → e ≡ BadBytes place → IsFirstWrong (IsEncoding n) bytes place)
    → ((place : ℕ) → e ≡ NotAValue place → HasNoValue n bytes place) → (e ≡ OutOfMemory → HasVersion bytes) → IsUnread n bytes e
unread n bytes e (inl none) bad no_value memory = subst (IsUnread n bytes) (sym none) (memory none)
unread n bytes e (inr (inl wrong)) bad no_value memory = subst (IsUnread n bytes) (sym wrong.1) (bad wrong.0 wrong.1)
unread n bytes e (inr (inr wrong)) bad no_value memory = subst (IsUnread n bytes) (sym wrong.1) (no_value wrong.0 wrong.1)

pub encoding-of : (n : ℕ) (bytes : List ℕ) (q : PreparedFilter) → (version : ℕ) × IsVersion version × HasEncoding n (prepared q) × (bytes ≡ encoding_in version (prepared q)) → IsEncodingOf n bytes (prepared q)
encoding-of n bytes q h = record { version = h.0; is_version = h.1; has_encoding = h.2; is = h.3 }

-- rows

pub mask-given : (n : ℕ) (bytes : List ℕ) (q : PreparedFilter) (given : List DType) (columns : List Column) (count : ℕ) (buffer : List ℕ) → given ≡ q.columns.items → IsEncodingOf n bytes (prepared q) → AreColumnsOf (formula q.filter) columns (map type_of given) count
    → IsMask (matching (formula q.filter) (cells_of_columns columns)) count buffer → IsFilterMask n bytes columns count buffer
mask-given n bytes q given columns count buffer same is_encoding are is = record { filter = prepared q; is_encoding = is_encoding; are_columns = subst (λ ts. AreColumnsOf (formula q.filter) columns (map type_of ts) count) same are; mask = is }

pub no-mask : (n : ℕ) (bytes : List ℕ) (q : PreparedFilter) (given : List DType) (columns : List Column) (count size : ℕ) (e : MaskError) → given ≡ q.columns.items → IsEncodingOf n bytes (prepared q) → IsMaskError (formula q.filter) columns (map type_of given) count size e → IsRowsError n bytes columns count size (rows.NoMask e)
no-mask n bytes q given columns count size e same is_encoding fault = (prepared q, is_encoding, subst (λ ts. IsMaskError (formula q.filter) columns (map type_of ts) count size e) same fault)

-- zones

pub outcomes-given : (n : ℕ) (bytes statistics offsets outcomes : List ℕ) (q : PreparedFilter) (given : List DType) → given ≡ q.columns.items → IsEncodingOf n bytes (prepared q) → AreOutcomes (formula q.filter) (map type_of given) statistics offsets outcomes → AreFilterOutcomes n bytes statistics offsets outcomes
outcomes-given n bytes statistics offsets outcomes q given same is_encoding are =
    record { filter = prepared q; is_encoding = is_encoding; are_outcomes = subst (λ ts. AreOutcomes (formula q.filter) (map type_of ts) statistics offsets outcomes) same are }

pub no-outcomes : (n : ℕ) (bytes statistics offsets : List ℕ) (count : ℕ) (q : PreparedFilter) (given : List DType) (e : ZoneError) → given ≡ q.columns.items → IsEncodingOf n bytes (prepared q) → RefusesZones (formula q.filter) (map type_of given) statistics offsets count e → IsZonesError n bytes statistics offsets count (zones.NoOutcomes e)
no-outcomes n bytes statistics offsets count q given e same is_encoding fault = (prepared q, is_encoding, subst (λ ts. RefusesZones (formula q.filter) (map type_of ts) statistics offsets count e) same fault)

-- filters of words

-- what nests in so many levels nests in more
deeper : (f : Formula) (n m : ℕ) → n ≤ m → Nests IsLiteral n f → Nests IsLiteral m f
deeper (constant t) n m l h = tt
deeper (comparison k op x) n m l h = h
deeper (null_test k) n m l h = h
deeper (membership k xs) n m l h = h
deeper (range k x y) n m l h = h
deeper (prefix_test k x) n m l h = h
deeper (pattern_test k case parts) n m l h = h
deeper (both f g) zero m l h = absurd h
deeper (both f g) (suc n) zero l h = absurd (omega arith)
deeper (both f g) (suc n) (suc m) l h = (deeper f n m (omega arith) h.0, deeper g n m (omega arith) h.1)
deeper (either f g) zero m l h = absurd h
deeper (either f g) (suc n) zero l h = absurd (omega arith)
deeper (either f g) (suc n) (suc m) l h = (deeper f n m (omega arith) h.0, deeper g n m (omega arith) h.1)
deeper (negation f) zero m l h = absurd h
deeper (negation f) (suc n) zero l h = absurd (omega arith)
deeper (negation f) (suc n) (suc m) l h = deeper f n m (omega arith) h

module _ (law : EncodingsAreApart) (n : ℕ) (words : List ℕ) (named : List NamedKind) (bytes : List ℕ) (h : IsPreparedFrom n words named bytes) where
  one_filter : (m version : ℕ) (q : Prepared) → IsFormed m q → bytes ≡ encoding_in version q → q ≡ prepared_of named h.filter
  one_filter m version q formed is =
      (law m (encoding_depth n) version (version_of (prepared_of named h.filter)) q (prepared_of named h.filter) [] [] formed h.written.formed (ap (λ xs. xs ++ []) (sym is ∙ h.is))).1

  same_filter : (m : ℕ) (q : Prepared) → IsEncodingOf m bytes q → q ≡ prepared_of named h.filter
  same_filter m q is = one_filter m is.version q is.has_encoding.formed is.is

  never_bad : (m : ℕ) → n ≤ m → (cause : FilterEncodingError) → IsUnread (encoding_depth m) bytes cause → cause ≡ OutOfMemory
  never_bad m l OutOfMemory u = refl
  never_bad m l NoEncoding u = absurd u
  never_bad m l (BadBytes offset) u =
      let deep : encoding_depth n ≤ encoding_depth m = omega arith in
      let p = prepared_of named h.filter in
      let formed = h.written.formed in
      absurd (u.none (record { version = version_of p; value = p; is_version = written_version p; is_one = record { types = formed.types; filter = deeper h.filter (encoding_depth n) (encoding_depth m) deep formed.filter }; is = h.is }))
  never_bad m l (NotAValue offset) u =
      let q = u.encoded in
      absurd (none_in q.value.filter u.first.0 u.first.2 (subst (λ (p : Prepared). HasValues p.filter) (sym (one_filter (encoding_depth m) q.version q.value q.is_one q.is)) h.written.values))

  pub all_of_words : AreOfWords n words named bytes h
  all_of_words = record {
    read = never_bad;
    columns = λ m columns count buffer g. subst (λ (q : Prepared). AreColumnsOf q.filter columns q.types count) (same_filter m g.filter g.is_encoding) g.are_columns;
    mask = λ m columns count buffer g. subst (λ (q : Prepared). IsMask (matching q.filter (cells_of_columns columns)) count buffer) (same_filter m g.filter g.is_encoding) g.mask;
    outcomes = λ m statistics offsets outcomes g. subst (λ (q : Prepared). AreOutcomes q.filter q.types statistics offsets outcomes) (same_filter m g.filter g.is_encoding) g.are_outcomes;
  }

pub of_words : EncodingsAreApart → FiltersAreOfWords
of_words law n words named bytes h = all_of_words law n words named bytes h
