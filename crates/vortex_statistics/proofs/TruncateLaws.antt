-- Truncated bounds: what they are by the kind of the bound, and that they are right.
use Rattle.std.proofs.Common.{◌≡◌, inl, inr, ℕ, ◌<◌, ◌≤◌, Bool, true, false, not, ◌&&◌, IsTrue, if◌then◌else◌, List, length, count_by, Option, Some, None, IfSome, MatchOption, is_some, Ordering, Equal, option_map, refl, sym, ap, subst, ◌∙◌, arith}
use Rattle.std.proofs.lemmas.Bool.{false≢true}
use Rattle.vortex_bounds.specs.Strings.{HasNoUpper, IsLower, IsUpper}
use Rattle.vortex_bounds.specs.Texts.{HasNoTextUpper, IsTextLower, IsTextUpper}
use Rattle.vortex_bounds.specs.Truncation.{IsBoundOf, IsLowerOf, IsTypeOfKind, IsUpperOf, MayHold}
use Rattle.vortex_dtype.specs.Parts.{is_binary_type, is_utf8_type}
use Rattle.vortex_dtype.specs.TypeTree.{TypeTree, binary_type, erase, utf8_type}
use Rattle.vortex_value.specs.Order.{IsReversed, IsTransitive, order}
use Rattle.vortex_value.specs.Values.Content.{content}
use Rattle.vortex_value.specs.Values.RawTree.{RawTree, is_absent, raw_bytes, raw_text}
use Rattle.vortex_value.specs.Values.Scalars.{scalar_raw, scalar_type}
use Rattle.vortex_cells.specs.Cells.{Cell, cell_of, cell_order, is_null_cell, order_from_above}
use Rattle.vortex_statistics.specs.Kinds.{IsCutAt, IsTruncated, kind_of}
use Rattle.vortex_statistics.specs.Statistics.{AreRight, IsBound, known, known_bound}
use Rattle.vortex_statistics.specs.Truncating.{AreTruncated, IsCut, IsCutLower, IsCutUpper, IsTruncatedLower, IsTruncatedUpper, LowerAt, UpperAt}
use Rattle.vortex_statistics.specs.declared.column_statistics.Bound.{Bound}
use Rattle.vortex_statistics.specs.declared.column_statistics.ColumnStatistics.{ColumnStatistics}
use Rattle.vortex_statistics.specs.declared.truncating.Kind.TheVariants.{Bytes, Text, Whole}
use Rattle.vortex_statistics.specs.declared.truncating.Side.{Side}
use Rattle.vortex_statistics.specs.declared.truncating.Side.TheVariants.{Lower, Upper}
use Rattle.vortex_cells.proofs.CellLaws.{IsOrder, equal_itself, from_above, from_below}
use Rattle.vortex_statistics.proofs.LooseLaws.{looser_bound}

-- ---- kinds

not_text : (p : Bool) → (if p then Bytes else Whole) ≡ Text → ⊥
not_text true e = cc
not_text false e = cc

not_bytes : (p : Bool) → (if p then Text else Whole) ≡ Bytes → ⊥
not_bytes true e = cc
not_bytes false e = cc

pub text_kind : (t : TypeTree) (v : RawTree) → kind_of t v ≡ Text → IsTypeOfKind utf8_type t × MayHold raw_text v × (is_absent v ≡ false)
text_kind (utf8_type k) (raw_text bs) e = ((k, refl), inr (bs, refl), refl)
text_kind t (raw_text bs) e = absurd (cc)
text_kind t (raw_bytes bs) e = absurd (not_text (is_binary_type t) e)
text_kind t v e = absurd (cc)

pub bytes_kind : (t : TypeTree) (v : RawTree) → kind_of t v ≡ Bytes → IsTypeOfKind binary_type t × MayHold raw_bytes v × (is_absent v ≡ false)
bytes_kind (binary_type k) (raw_bytes bs) e = ((k, refl), inr (bs, refl), refl)
bytes_kind t (raw_bytes bs) e = absurd (cc)
bytes_kind t (raw_text bs) e = absurd (not_bytes (is_utf8_type t) e)
bytes_kind t v e = absurd (cc)

-- ---- what a bound becomes, by its kind

module _ (n : ℕ) (b : Bound) where
  text_lower_at : (c : Bound) (t : TypeTree) (v : RawTree) (bs : List ℕ) → IsTypeOfKind utf8_type t → v ≡ raw_text bs → IsCut (IsLowerOf IsTextLower raw_text t bs n) b c → LowerAt t v n b c
  text_lower_at c t v bs k e h =
      let P : RawTree → Type 0 = λ w. LowerAt t w n b c in
      subst P (sym e) (let Q : TypeTree → Type 0 = λ u. IsCut (IsLowerOf IsTextLower raw_text u bs n) b c → LowerAt u (raw_text bs) n b c in subst Q (sym k.1) (λ i. i) h)

  bytes_lower_at : (c : Bound) (t : TypeTree) (v : RawTree) (bs : List ℕ) → IsTypeOfKind binary_type t → v ≡ raw_bytes bs → IsCut (IsLowerOf IsLower raw_bytes t bs n) b c → LowerAt t v n b c
  bytes_lower_at c t v bs k e h =
      let P : RawTree → Type 0 = λ w. LowerAt t w n b c in
      subst P (sym e) (let Q : TypeTree → Type 0 = λ u. IsCut (IsLowerOf IsLower raw_bytes u bs n) b c → LowerAt u (raw_bytes bs) n b c in subst Q (sym k.1) (λ i. i) h)

  text_lower : (c : Option Bound) → kind_of (scalar_type b.value) (scalar_raw b.value) ≡ Text → IsCutLower IsTextLower raw_text n b c → IsTruncatedLower n (Some b) c
  text_lower None e h = h.2
  text_lower (Some c) e h = text_lower_at c (scalar_type b.value) (scalar_raw b.value) h.0 (text_kind _ _ e).0 h.1 h.2

  bytes_lower : (c : Option Bound) → kind_of (scalar_type b.value) (scalar_raw b.value) ≡ Bytes → IsCutLower IsLower raw_bytes n b c → IsTruncatedLower n (Some b) c
  bytes_lower None e h = h.2
  bytes_lower (Some c) e h = bytes_lower_at c (scalar_type b.value) (scalar_raw b.value) h.0 (bytes_kind _ _ e).0 h.1 h.2

  whole_lower_at : (t : TypeTree) (v : RawTree) → kind_of t v ≡ Whole → LowerAt t v n b b
  whole_lower_at (utf8_type k) (raw_text bs) e = absurd (cc)
  whole_lower_at (binary_type k) (raw_bytes bs) e = absurd (cc)
  whole_lower_at t v e = refl

  whole_lower : kind_of (scalar_type b.value) (scalar_raw b.value) ≡ Whole → IsTruncatedLower n (Some b) (Some b)
  whole_lower e = whole_lower_at (scalar_type b.value) (scalar_raw b.value) e

  text_upper : (c : Option Bound) → kind_of (scalar_type b.value) (scalar_raw b.value) ≡ Text → IsCutUpper IsTextUpper HasNoTextUpper raw_text n b c → IsTruncatedUpper n (Some b) c
  text_upper c e h = at (scalar_type b.value) (scalar_raw b.value) h.0 (text_kind _ _ e).0 h.1 h.2
    where
      at : (t : TypeTree) (v : RawTree) (bs : List ℕ) → IsTypeOfKind utf8_type t → v ≡ raw_text bs
          → MatchOption c ((n < length bs) × HasNoTextUpper bs n) (IsCut (IsUpperOf IsTextUpper raw_text t bs n) b) → UpperAt t v n b c
      at t v bs k i m =
          let P : RawTree → Type 0 = λ w. UpperAt t w n b c in
          subst P (sym i) (let Q : TypeTree → Type 0 = λ u. MatchOption c ((n < length bs) × HasNoTextUpper bs n) (IsCut (IsUpperOf IsTextUpper raw_text u bs n) b) → UpperAt u (raw_text bs) n b c in
          subst Q (sym k.1) (λ j. j) m)

  bytes_upper : (c : Option Bound) → kind_of (scalar_type b.value) (scalar_raw b.value) ≡ Bytes → IsCutUpper IsUpper HasNoUpper raw_bytes n b c → IsTruncatedUpper n (Some b) c
  bytes_upper c e h = at (scalar_type b.value) (scalar_raw b.value) h.0 (bytes_kind _ _ e).0 h.1 h.2
    where
      at : (t : TypeTree) (v : RawTree) (bs : List ℕ) → IsTypeOfKind binary_type t → v ≡ raw_bytes bs
          → MatchOption c ((n < length bs) × HasNoUpper bs n) (IsCut (IsUpperOf IsUpper raw_bytes t bs n) b) → UpperAt t v n b c
      at t v bs k i m =
          let P : RawTree → Type 0 = λ w. UpperAt t w n b c in
          subst P (sym i) (let Q : TypeTree → Type 0 = λ u. MatchOption c ((n < length bs) × HasNoUpper bs n) (IsCut (IsUpperOf IsUpper raw_bytes u bs n) b) → UpperAt u (raw_bytes bs) n b c in
          subst Q (sym k.1) (λ j. j) m)

  whole_upper_at : (t : TypeTree) (v : RawTree) → kind_of t v ≡ Whole → UpperAt t v n b (Some b)
  whole_upper_at (utf8_type k) (raw_text bs) e = absurd (cc)
  whole_upper_at (binary_type k) (raw_bytes bs) e = absurd (cc)
  whole_upper_at t v e = refl

  whole_upper : kind_of (scalar_type b.value) (scalar_raw b.value) ≡ Whole → IsTruncatedUpper n (Some b) (Some b)
  whole_upper e = whole_upper_at (scalar_type b.value) (scalar_raw b.value) e

  -- ---- on either side

  pub text_cut : (side : Side) (c : Option Bound) → kind_of (scalar_type b.value) (scalar_raw b.value) ≡ Text → IsCutAt side IsTextLower IsTextUpper HasNoTextUpper raw_text n b c → IsTruncated side n (Some b) c
  text_cut Lower c e h = text_lower c e h
  text_cut Upper c e h = text_upper c e h

  pub bytes_cut : (side : Side) (c : Option Bound) → kind_of (scalar_type b.value) (scalar_raw b.value) ≡ Bytes → IsCutAt side IsLower IsUpper HasNoUpper raw_bytes n b c → IsTruncated side n (Some b) c
  bytes_cut Lower c e h = bytes_lower c e h
  bytes_cut Upper c e h = bytes_upper c e h

  pub whole_cut : (side : Side) → kind_of (scalar_type b.value) (scalar_raw b.value) ≡ Whole → IsTruncated side n (Some b) (Some b)
  whole_cut Lower e = whole_lower e
  whole_cut Upper e = whole_upper e

-- ---- that it is right

and_both : (p q : Bool) → (p && not q) ≡ true → (p ≡ true) × (q ≡ false)
and_both true true e = absurd (false≢true e)
and_both true false e = (refl, refl)
and_both false q e = absurd (false≢true e)

not_so : (q : Bool) → q ≡ false → IsTrue q → ⊥
not_so true e h = false≢true (sym e)
not_so false e h = false≢true h

-- what was not cut is the same cell
same_cell : (Best : List ℕ → ℕ → List ℕ → Type 0) (raw : List ℕ → RawTree) (t : TypeTree) (bs : List ℕ) (n : ℕ) (b c : Bound) (cut : Bool)
    → scalar_type b.value ≡ t → scalar_raw b.value ≡ raw bs → IsBoundOf Best raw t bs n c.value cut → cut ≡ false → cell_of c.value ≡ cell_of b.value
same_cell Best raw t bs n b c cut typed value h whole =
    let short : length bs ≤ n = not_longer (λ l. not_so cut whole (h.flag.1 l)) in
    let same_type : scalar_type c.value ≡ scalar_type b.value = h.made.typed ∙ sym typed in
    let same_raw : scalar_raw c.value ≡ scalar_raw b.value = h.made.value ∙ ap raw (h.whole short) ∙ sym value in
    let typed_as : TypeTree → Cell = λ u. record { typed = u; content = content (scalar_raw c.value) } in
    let held_as : RawTree → Cell = λ w. record { typed = scalar_type b.value; content = content w } in
    ap typed_as same_type ∙ ap held_as same_raw
  where
    not_longer : ((n < length bs) → ⊥) → length bs ≤ n
    not_longer f = omega (arith, f)

module _ (rev : IsReversed order) (trans : IsTransitive order) (n : ℕ) (cells : List Cell) where
  below : IsOrder cell_order
  below = from_below rev trans

  above : IsOrder order_from_above
  above = from_above (from_below rev trans)

  -- a bound that reaches itself is equal to itself
  equal_if_same : (cmp : Cell → Cell → Option Ordering) (law : IsOrder cmp) (x y : Cell) → is_some (cmp x y) ≡ true → x ≡ y → cmp x y ≡ Some Equal
  equal_if_same cmp law x y there e =
      let P : Cell → Type 0 = λ z. (is_some (cmp x z) ≡ true → cmp x z ≡ Some Equal) in
      subst P e (λ k. equal_itself cmp law x k) there

  lower_cut : (Best : List ℕ → ℕ → List ℕ → Type 0) (raw : List ℕ → RawTree) (t : TypeTree) (bs : List ℕ) (b c : Bound)
      → scalar_type b.value ≡ t → scalar_raw b.value ≡ raw bs → IsCut (IsLowerOf Best raw t bs n) b c → IsBound cell_order (known_bound b) cells → IsBound cell_order (known_bound c) cells
  lower_cut Best raw t bs b c typed value h right =
      let up = h.bound.not_above b.value (record { typed = ap erase typed; value = value }) in
      looser_bound cell_order below (Some (known_bound c)) (Some (known_bound b)) cells (
        up,
        λ e.
            let p = and_both b.is_exact h.cut (sym h.exact ∙ e) in
            (p.0, equal_if_same cell_order below (cell_of c.value) (cell_of b.value) (elim up [ inl l ↦ ap is_some l | inr l ↦ ap is_some l ]) (same_cell Best raw t bs n b c h.cut typed value h.bound.bound p.1)),
      )
      right

  upper_cut : (Best : List ℕ → ℕ → List ℕ → Type 0) (raw : List ℕ → RawTree) (t : TypeTree) (bs : List ℕ) (b c : Bound)
      → scalar_type b.value ≡ t → scalar_raw b.value ≡ raw bs → IsCut (IsUpperOf Best raw t bs n) b c → IsBound order_from_above (known_bound b) cells → IsBound order_from_above (known_bound c) cells
  upper_cut Best raw t bs b c typed value h right =
      let up = h.bound.not_below b.value (record { typed = ap erase typed; value = value }) in
      looser_bound order_from_above above (Some (known_bound c)) (Some (known_bound b)) cells (
        up,
        λ e.
            let p = and_both b.is_exact h.cut (sym h.exact ∙ e) in
            (p.0, equal_if_same order_from_above above (cell_of c.value) (cell_of b.value) (elim up [ inl l ↦ ap is_some l | inr l ↦ ap is_some l ]) (same_cell Best raw t bs n b c h.cut typed value h.bound.bound p.1)),
      )
      right

  lower_by_kind : (b c : Bound) (t : TypeTree) (v : RawTree) → scalar_type b.value ≡ t → scalar_raw b.value ≡ v → LowerAt t v n b c → IsBound cell_order (known_bound b) cells → IsBound cell_order (known_bound c) cells
  lower_by_kind b c (utf8_type k) (raw_text bs) p q h right = lower_cut IsTextLower raw_text (utf8_type k) bs b c p q h right
  lower_by_kind b c (binary_type k) (raw_bytes bs) p q h right = lower_cut IsLower raw_bytes (binary_type k) bs b c p q h right
  lower_by_kind b c t v p q h right = let P : Bound → Type 0 = λ d. IsBound cell_order (known_bound d) cells in subst P (sym h) right

  lower_right : (b c : Option Bound) → IsTruncatedLower n b c → IfSome (option_map known_bound b) (λ d. IsBound cell_order d cells) → IfSome (option_map known_bound c) (λ d. IsBound cell_order d cells)
  lower_right b None h right = tt
  lower_right None (Some c) h right = absurd (cc)
  lower_right (Some b) (Some c) h right = lower_by_kind b c (scalar_type b.value) (scalar_raw b.value) refl refl h right

  upper_by_kind : (b c : Bound) (t : TypeTree) (v : RawTree) → scalar_type b.value ≡ t → scalar_raw b.value ≡ v → UpperAt t v n b (Some c) → IsBound order_from_above (known_bound b) cells → IsBound order_from_above (known_bound c) cells
  upper_by_kind b c (utf8_type k) (raw_text bs) p q h right = upper_cut IsTextUpper raw_text (utf8_type k) bs b c p q h right
  upper_by_kind b c (binary_type k) (raw_bytes bs) p q h right = upper_cut IsUpper raw_bytes (binary_type k) bs b c p q h right
  upper_by_kind b c t v p q h right = let P : Bound → Type 0 = λ d. IsBound order_from_above (known_bound d) cells in let same : c ≡ b = cc in subst P (sym same) right

  upper_right : (b c : Option Bound) → IsTruncatedUpper n b c → IfSome (option_map known_bound b) (λ d. IsBound order_from_above d cells) → IfSome (option_map known_bound c) (λ d. IsBound order_from_above d cells)
  upper_right b None h right = tt
  upper_right None (Some c) h right = absurd (cc)
  upper_right (Some b) (Some c) h right = upper_by_kind b c (scalar_type b.value) (scalar_raw b.value) refl refl h right

  pub truncated_right : (s t : ColumnStatistics) → AreTruncated n s t → AreRight (known s) cells → AreRight (known t) cells
  truncated_right s t h right = record {
    rows = h.rows ∙ right.rows;
    nulls = let P : Option ℕ → Type 0 = λ m. IfSome m (λ k. k ≡ count_by is_null_cell cells) in subst P (sym h.nulls) right.nulls;
    lower = lower_right s.lower t.lower h.lower right.lower;
    upper = upper_right s.upper t.upper h.upper right.upper;
  }
