-- Steps of the reading of a row, column by column.
use Rattle.std.proofs.Common.{◌≡◌, ◌≢◌, ℕ, zero, suc, ◌+◌, ◌<◌, ◌≤◌, inl, inr, List, [], ◌∷◌, ◌++◌, length, length-append, length-drop, map, drop, get_or, drop-cons, refl, sym, subst, ap, ap₂, ◌∙◌, append_assoc, append-nil, arith}
use Rattle.std.specs.Prelude.{Result, Ok, Err, MatchResult, Vec}
use Rattle.std.specs.Global.{Global}
use Rattle.std.proofs.Math.Seq.{drop-nil}
use Rattle.vortex_dtype.specs.TypeOf.{dtype_trees, type_of}
use Rattle.vortex_dtype.specs.TypeTree.{TypeTree, TypeTrees, no_types, type_then}
use Rattle.vortex_dtype.specs.declared.types.DType.{DType}
use Rattle.vortex_value.specs.Casts.{OneValue}
use Rattle.vortex_value.specs.TypesWithin.{HaveNoVariant}
use Rattle.vortex_value.specs.Validity.{FieldsValid, Valid}
use Rattle.vortex_value.specs.Values.Content.{content}
use Rattle.vortex_value.specs.Values.RawTree.{RawTree, RawTrees, no_raws, raw_then}
use Rattle.vortex_value.specs.Values.Scalars.{scalar_content, scalar_raw, scalar_type}
use Rattle.vortex_value.specs.declared.scalars.Scalar.{Scalar}
use Rattle.vortex_row.specs.Columns.{key_with, row_key}
use Rattle.vortex_row.specs.Decoded.{AreMadeOf, AreOfTypes, AreValuesOf, BeginsWithRow, DecodesRowTo, IsDecodedRow, IsFirstBad, IsRowKeyOf, values_key}
use Rattle.vortex_row.specs.ColumnReading.{IsOfRow, AreColumnKeys, ArePlainOf, AreScalars, HasColumn, HasColumnAt, HasRow, IsColumnKey, IsRefusal, IsRefusalAt, scalars_key}
use Rattle.vortex_row.specs.Reading.{ArePlain, ContinueWith, HavePlain, IsPlain, IsStuck}
use Rattle.vortex_row.specs.declared.error.RowError.{RowError}
use Rattle.vortex_row.specs.declared.error.RowError.TheVariants.{BadKey, OutOfMemory}
use Rattle.vortex_row.specs.declared.options.SortOptions.{SortOptions}
use Rattle.vortex_row.proofs.ApartLaws.{column-apart}
use Rattle.vortex_row.proofs.DecodeSteps.{a_plain, first-bad}
use Rattle.vortex_row.proofs.StuckLaws.{Begin, Some, continue-itself, continue-then, not-stuck, stuck-here, stuck-later, stuck-within}
use Rattle.vortex_row.proofs.ReaderSteps.{none-left}

-- after a column come the others

column-split : (o : SortOptions) (os : List SortOptions) (t : TypeTree) (ts : TypeTrees) (v : RawTree) → IsPlain (Valid t) v → (ws : List RawTree) (zs rest : List ℕ) → ArePlainOf (type_then t ts) ws
    → key_with o (content v) ++ zs ≡ values_key (o ∷ os) ws ++ rest → (q : List ℕ) × AreColumnKeys os ts q × (zs ≡ q ++ rest)
column-split o os t ts v plain [] zs rest all e = absurd all
column-split o os t ts v plain (w ∷ ws) zs rest all e =
    let f = e ∙ append_assoc (key_with o (content w)) (values_key os ws) rest in
    let one = column-apart o (content v) (content w) zs (values_key os ws ++ rest) plain.untyped plain.held all.0.held f in
    (values_key os ws, record { values = ws; plain = all.1; is = refl }, one.1)

continue-column : (o : SortOptions) (os : List SortOptions) (t : TypeTree) (ts : TypeTrees) (v : RawTree) → IsPlain (Valid t) v
    → ContinueWith (key_with o (content v)) (AreColumnKeys (o ∷ os) (type_then t ts)) (AreColumnKeys os ts)
continue-column o os t ts v plain = record {
  join = λ q h. record { values = v ∷ h.values; plain = (plain, h.plain); is = ap (λ xs. key_with o (content v) ++ xs) h.is };
  split = λ s zs rest h e. column-split o os t ts v plain h.values zs rest h.plain (e ∙ ap (λ xs. xs ++ rest) h.is);
}

column-front : (o : SortOptions) (os : List SortOptions) (t : TypeTree) (ts : TypeTrees) (ws : List RawTree) (zs rest : List ℕ) → ArePlainOf (type_then t ts) ws → zs ≡ values_key (o ∷ os) ws ++ rest
    → (q more : List ℕ) × IsColumnKey o t q × (zs ≡ q ++ more)
column-front o os t ts [] zs rest all e = absurd all
column-front o os t ts (w ∷ ws) zs rest all e =
    (key_with o (content w), values_key os ws ++ rest, record { value = w; plain = all.0; is = refl }, e ∙ append_assoc (key_with o (content w)) (values_key os ws) rest)

-- values of the types, so a row

abbrev pub HaveRow : TypeTrees → Type 0
HaveRow ts = (vs : List RawTree) × ArePlainOf ts vs

some-row : (os : List SortOptions) (ts : TypeTrees) → HaveRow ts → Some (AreColumnKeys os ts)
some-row os ts h = (values_key os h.0, record { values = h.0; plain = h.1; is = refl })

later-row : (t : TypeTree) (ts : TypeTrees) → HaveRow (type_then t ts) → HaveRow ts
later-row t ts h = go h.0 h.1
  where
    go : (vs : List RawTree) → ArePlainOf (type_then t ts) vs → HaveRow ts
    go [] plain = absurd plain
    go (v ∷ vs) plain = (vs, plain.1)

pub fields-row : (ts : TypeTrees) → HavePlain (FieldsValid ts) → HaveRow ts
fields-row ts h = go ts h.0 h.1
  where
    go : (ts : TypeTrees) (vs : RawTrees) → ArePlain (FieldsValid ts) vs → HaveRow ts
    go no_types vs plain = ([], tt)
    go (type_then t ts) no_raws plain = absurd plain.kind
    go (type_then t ts) (raw_then v vs) plain =
        let rest = go ts vs (record { kind = plain.kind.1; held = plain.held.1; untyped = plain.untyped.1 }) in
        (v ∷ rest.0, (record { kind = plain.kind.0; held = plain.held.0; untyped = plain.untyped.0 }, rest.1))

row-fields : (ts : TypeTrees) (vs : List RawTree) → ArePlainOf ts vs → HavePlain (FieldsValid ts)
row-fields no_types [] plain = (no_raws, record { kind = tt; held = tt; untyped = tt })
row-fields no_types (v ∷ vs) plain = absurd plain
row-fields (type_then t ts) [] plain = absurd plain
row-fields (type_then t ts) (v ∷ vs) plain =
    let rest = row-fields ts vs plain.1 in
    (raw_then v rest.0, record { kind = (plain.0.kind, rest.1.kind); held = (plain.0.held, rest.1.held); untyped = (plain.0.untyped, rest.1.untyped) })

begin-column : (o : SortOptions) (os : List SortOptions) (t : TypeTree) (ts : TypeTrees) (old : List ℕ) → HaveRow ts → Begin (IsColumnKey o t) (AreColumnKeys (o ∷ os) (type_then t ts)) old
begin-column o os t ts old some = record {
  extend = λ q h.
      let (more, others) = some-row os ts some in
      (more, record { values = h.value ∷ others.values; plain = (h.plain, others.plain); is = ap₂ (λ xs ys. xs ++ ys) h.is others.is });
  front = λ s zs rest h alike e. column-front o os t ts h.values zs rest h.plain (e ∙ ap (λ xs. xs ++ rest) h.is);
}

-- the columns so far, of all, and those that are to come

pub record ColumnsSoFar (os : List SortOptions) (ts : TypeTrees) (xs : List Scalar) (bytes : List ℕ) (more : List SortOptions) (types : TypeTrees) (taken : ℕ) : Type 0 where
  pub front : List ℕ
  pub split : bytes ≡ front ++ drop taken bytes
  pub count : taken ≡ length front
  pub go : ContinueWith front (AreColumnKeys os ts) (AreColumnKeys more types)
  pub has : HavePlain (FieldsValid ts) → HaveRow types
  pub read : (ys : List Scalar) → AreScalars types ys → AreScalars ts (xs ++ ys) × (front ++ scalars_key more ys ≡ scalars_key os (xs ++ ys))

pub columns-none : (os : List SortOptions) (ts : TypeTrees) (bytes : List ℕ) → ColumnsSoFar os ts [] bytes os ts 0
columns-none os ts bytes = record { front = []; split = refl; count = refl; go = continue-itself (AreColumnKeys os ts); has = fields-row ts; read = λ ys h. (h, refl) }

pub columns-start : (os : List SortOptions) (ts : TypeTrees) (xs : List Scalar) (bytes : List ℕ) → xs ≡ [] → ColumnsSoFar os ts xs bytes os ts 0
columns-start os ts xs bytes e = subst (λ ys. ColumnsSoFar os ts ys bytes os ts 0) (sym e) (columns-none os ts bytes)

pub same-option : (i : ℕ) (os : List SortOptions) (d : SortOptions) → i < length os → get_or os i d ≡ get_or os i (get_or os i d)
same-option i [] d h = absurd (omega arith)
same-option zero (o ∷ os) d h = refl
same-option (suc i) (o ∷ os) d h = same-at i os d (get_or os i d) (omega arith)
  where
    same-at : (i : ℕ) (os : List SortOptions) (d e : SortOptions) → i < length os → get_or os i d ≡ get_or os i e
    same-at i [] d e h = absurd (omega arith)
    same-at zero (o ∷ os) d e h = refl
    same-at (suc i) (o ∷ os) d e h = same-at i os d e (omega arith)

drop-more : (m n : ℕ) (xs : List ℕ) → drop n (drop m xs) ≡ drop (m + n) xs
drop-more zero n xs = let e : n ≡ 0 + n = omega arith in ap (λ k. drop k xs) e
drop-more (suc m) n [] = drop-nil n ∙ let e : suc (m + n) ≡ suc m + n = omega arith in ap (λ k. drop k []) e
drop-more (suc m) n (x ∷ xs) = let e : suc (m + n) ≡ suc m + n = omega arith in drop-more m n xs ∙ ap (λ k. drop k (x ∷ xs)) e

columns-step : (os : List SortOptions) (ts : TypeTrees) (xs ys : List Scalar) (x : Scalar) (bytes : List ℕ) (o : SortOptions) (more : List SortOptions) (t : TypeTree) (types : TypeTrees) (taken n : ℕ)
    → ColumnsSoFar os ts xs bytes (o ∷ more) (type_then t types) taken → scalar_type x ≡ t → HasColumn o t (scalar_raw x) (drop taken bytes) n → ys ≡ xs ++ x ∷ [] → ColumnsSoFar os ts ys bytes more types (taken + n)
columns-step os ts xs ys x bytes o more t types taken n so typed h e =
    let k = key_with o (scalar_content x) in
    record {
      front = so.front ++ k;
      split = so.split ∙ ap (λ bs. so.front ++ bs) (h.is ∙ ap (λ bs. k ++ bs) (drop-more taken n bytes)) ∙ sym (append_assoc so.front k (drop (taken + n) bytes));
      count = let c = so.count in let d = h.count in let l = length-append so.front k in omega arith;
      go = continue-then so.front k (AreColumnKeys os ts) (AreColumnKeys (o ∷ more) (type_then t types)) (AreColumnKeys more types) so.go (continue-column o more t types (scalar_raw x) h.plain);
      has = λ all. later-row t types (so.has all);
      read = λ zs all.
          let r = so.read (x ∷ zs) ((typed, h.plain), all) in
          let same : xs ++ x ∷ zs ≡ ys ++ zs = sym (append_assoc xs (x ∷ []) zs) ∙ ap (λ ws. ws ++ zs) (sym e) in
          (subst (AreScalars ts) same r.0, append_assoc so.front k (scalars_key more zs) ∙ r.1 ∙ ap (scalars_key os) same);
    }

at-column : (os : List SortOptions) (ts : List DType) (i : ℕ) (xs : List Scalar) (bytes : List ℕ) (o : SortOptions) (t : DType) (taken : ℕ) → i < length ts → i < length os → t ≡ get_or ts i t → o ≡ get_or os i o
    → ColumnsSoFar os (dtype_trees ts) xs bytes (drop i os) (dtype_trees (drop i ts)) taken
    → ColumnsSoFar os (dtype_trees ts) xs bytes (o ∷ drop (i + 1) os) (type_then (type_of t) (dtype_trees (drop (i + 1) ts))) taken
at-column os ts i xs bytes o t taken less in_options type_is option_is so =
    let one : suc i ≡ i + 1 = omega arith in
    let types : drop i ts ≡ t ∷ drop (i + 1) ts = drop-cons ts i t less ∙ ap₂ (λ d m. d ∷ drop m ts) (sym type_is) one in
    let options : drop i os ≡ o ∷ drop (i + 1) os = drop-cons os i o in_options ∙ ap₂ (λ d m. d ∷ drop m os) (sym option_is) one in
    let here = subst (λ ps. ColumnsSoFar os (dtype_trees ts) xs bytes ps (dtype_trees (drop i ts)) taken) options so in
    subst (λ ds. ColumnsSoFar os (dtype_trees ts) xs bytes (o ∷ drop (i + 1) os) (dtype_trees ds) taken) types here

pub columns-more : (os : List SortOptions) (ts : List DType) (i : ℕ) (xs ys : List Scalar) (x : Scalar) (bytes : List ℕ) (o : SortOptions) (t : DType) (taken next : ℕ) → i < length ts → i < length os → t ≡ get_or ts i t → o ≡ get_or os i o
    → ColumnsSoFar os (dtype_trees ts) xs bytes (drop i os) (dtype_trees (drop i ts)) taken → HasColumnAt o (type_of t) x bytes taken next → ys ≡ xs ++ x ∷ []
    → ColumnsSoFar os (dtype_trees ts) ys bytes (drop (i + 1) os) (dtype_trees (drop (i + 1) ts)) next
columns-more os ts i xs ys x bytes o t taken next less in_options type_is option_is so h e =
    let there = at-column os ts i xs bytes o t taken less in_options type_is option_is so in
    subst (ColumnsSoFar os (dtype_trees ts) ys bytes (drop (i + 1) os) (dtype_trees (drop (i + 1) ts))) (sym h.after)
    (columns-step os (dtype_trees ts) xs ys x bytes o (drop (i + 1) os) (type_of t) (dtype_trees (drop (i + 1) ts)) taken h.width there h.typed h.column e)

column-stops : (os : List SortOptions) (ts : TypeTrees) (xs : List Scalar) (bytes : List ℕ) (o : SortOptions) (more : List SortOptions) (t : TypeTree) (types : TypeTrees) (taken : ℕ) (now : List ℕ)
    → ColumnsSoFar os ts xs bytes (o ∷ more) (type_then t types) taken → HavePlain (FieldsValid ts) → IsStuck (IsColumnKey o t) (drop taken bytes) now → IsStuck (AreColumnKeys os ts) bytes now
column-stops os ts xs bytes o more t types taken now so all stuck =
    stuck-later so.front (AreColumnKeys os ts) (AreColumnKeys (o ∷ more) (type_then t types)) bytes (drop taken bytes) now so.go so.split (some-row (o ∷ more) (type_then t types) (so.has all))
    (stuck-within (IsColumnKey o t) (AreColumnKeys (o ∷ more) (type_then t types)) (drop taken bytes) now
    (begin-column o more t types (drop taken bytes) (later-row t types (so.has all))) stuck)

-- no row can be
pub no-row : (os : List SortOptions) (ts : TypeTrees) (bytes : List ℕ) (e : RowError) → (e ≡ BadKey 0) × ¬ (HavePlain (FieldsValid ts)) → IsRefusal (AreColumnKeys os ts) bytes e
no-row os ts bytes e h = inr (0, h.0, omega arith, stuck-here (AreColumnKeys os ts) bytes (λ s zs rest k alike f. h.1 (row-fields ts k.values k.plain)))

-- a column is refused, at an offset that counts from the row's first byte
columns-stuck : (os : List SortOptions) (ts : List DType) (i : ℕ) (xs : List Scalar) (bytes : List ℕ) (o : SortOptions) (t : DType) (taken place : ℕ) → i < length ts → i < length os → t ≡ get_or ts i t → o ≡ get_or os i o
    → ColumnsSoFar os (dtype_trees ts) xs bytes (drop i os) (dtype_trees (drop i ts)) taken → HavePlain (FieldsValid (dtype_trees ts)) → place ≤ length (drop taken bytes)
    → IsStuck (IsColumnKey o (type_of t)) (drop taken bytes) (drop place (drop taken bytes)) → (taken + place ≤ length bytes) × IsStuck (AreColumnKeys os (dtype_trees ts)) bytes (drop (taken + place) bytes)
columns-stuck os ts i xs bytes o t taken place less in_options type_is option_is so all within stuck =
    let there = at-column os ts i xs bytes o t taken less in_options type_is option_is so in
    let stop = column-stops os (dtype_trees ts) xs bytes o (drop (i + 1) os) (type_of t) (dtype_trees (drop (i + 1) ts)) taken (drop place (drop taken bytes)) there all stuck in
    let long = ap length there.split in
    let parts = length-append there.front (drop taken bytes) in
    let count = there.count in
    (omega arith, subst (IsStuck (AreColumnKeys os (dtype_trees ts)) bytes) (drop-more taken place bytes) stop)

pub row-refused : (os : List SortOptions) (ts : List DType) (i : ℕ) (xs : List Scalar) (bytes : List ℕ) (o : SortOptions) (t : DType) (taken : ℕ) (e r : RowError) → i < length ts → i < length os → t ≡ get_or ts i t → o ≡ get_or os i o
    → ColumnsSoFar os (dtype_trees ts) xs bytes (drop i os) (dtype_trees (drop i ts)) taken → IsRefusalAt (IsColumnKey o (type_of t)) bytes taken e → IsOfRow (HavePlain (FieldsValid (dtype_trees ts))) e r
    → IsRefusal (AreColumnKeys os (dtype_trees ts)) bytes r
row-refused os ts i xs bytes o t taken e r less in_options type_is option_is so h (inr none) = no-row os (dtype_trees ts) bytes r none
row-refused os ts i xs bytes o t taken e r less in_options type_is option_is so (inl out) (inl same) = inl (same.0 ∙ out)
row-refused os ts i xs bytes o t taken e r less in_options type_is option_is so (inr (place, is, within, stuck)) (inl same) =
    let at = columns-stuck os ts i xs bytes o t taken place less in_options type_is option_is so (same.1 (taken + place) is) within stuck in
    inr (taken + place, same.0 ∙ is, at.0, at.1)

pub columns-within : (os : List SortOptions) (ts : TypeTrees) (xs : List Scalar) (bytes : List ℕ) (more : List SortOptions) (types : TypeTrees) (taken : ℕ) → ColumnsSoFar os ts xs bytes more types taken → taken ≤ length bytes
columns-within os ts xs bytes more types taken so =
    let long = ap length so.split in
    let parts = length-append so.front (drop taken bytes) in
    let count = so.count in
    omega arith

-- the offset after a column

pub column-fits : (o : SortOptions) (t : TypeTree) (v : RawTree) (bytes : List ℕ) (place n : ℕ) → place ≤ length bytes → HasColumn o t v (drop place bytes) n → place + n ≤ length bytes
column-fits o t v bytes place n h column =
    let long = ap length column.is in
    let parts = length-append (key_with o (content v)) (drop n (drop place bytes)) in
    let count = column.count in
    let rest = length-drop place bytes in
    omega arith

pub column-at : (o : SortOptions) (t : TypeTree) (x : Scalar) (bytes : List ℕ) (place n next : ℕ) → scalar_type x ≡ t → HasColumn o t (scalar_raw x) (drop place bytes) n → next ≡ place + n → HasColumnAt o t x bytes place next
column-at o t x bytes place n next typed h e = record { typed = typed; width = n; column = h; after = e }

pub bad-fits : (Is : List ℕ → Type 0) (bytes : List ℕ) (place bad : ℕ) → place ≤ length bytes → IsRefusal Is (drop place bytes) (BadKey bad) → place + bad ≤ length bytes
bad-fits Is bytes place bad h (inl out) = absurd (cc)
bad-fits Is bytes place bad h (inr (at, is, within, stuck)) = let same : bad ≡ at = cc in let rest = length-drop place bytes in omega arith

pub bad-at : (Is : List ℕ → Type 0) (bytes : List ℕ) (place bad : ℕ) → IsRefusal Is (drop place bytes) (BadKey bad) → IsRefusalAt Is bytes place (BadKey (place + bad))
bad-at Is bytes place bad (inl out) = absurd (cc)
bad-at Is bytes place bad (inr (at, is, within, stuck)) = let same : bad ≡ at = cc in inr (at, ap (λ n. BadKey (place + n)) same, within, stuck)

pub other-at : (Is : List ℕ → Type 0) (bytes : List ℕ) (place : ℕ) (e : RowError) → ((n : ℕ) → e ≢ BadKey n) → IsRefusal Is (drop place bytes) e → IsRefusalAt Is bytes place e
other-at Is bytes place e other (inl out) = inl out
other-at Is bytes place e other (inr (at, is, within, stuck)) = absurd (other at is)

pub columns-end : (os : List SortOptions) (ts : List DType) (i : ℕ) (xs : List Scalar) (bytes : List ℕ) (taken : ℕ) → length ts ≡ length os → length ts ≤ i
    → ColumnsSoFar os (dtype_trees ts) xs bytes (drop i os) (dtype_trees (drop i ts)) taken → HasRow os (dtype_trees ts) xs bytes taken
columns-end os ts i xs bytes taken same past so =
    let types : drop i ts ≡ [] = none-left i ts past in
    let options : drop i os ≡ [] = none-left i os (omega arith) in
    let here = subst (λ ps. ColumnsSoFar os (dtype_trees ts) xs bytes ps (dtype_trees (drop i ts)) taken) options so in
    let there = subst (λ ds. ColumnsSoFar os (dtype_trees ts) xs bytes [] (dtype_trees ds) taken) types here in
    let r = there.read [] tt in
    let all : xs ++ [] ≡ xs = append-nil xs in
    let k : there.front ≡ scalars_key os xs = sym (append-nil there.front) ∙ r.1 ∙ ap (scalars_key os) all in
    record {
      scalars = subst (AreScalars (dtype_trees ts)) all r.0;
      is = there.split ∙ ap (λ bs. bs ++ drop taken bytes) k;
      count = there.count ∙ ap length k;
    }

-- the answers

values-of : (ts : TypeTrees) (xs : List Scalar) → AreScalars ts xs → ArePlainOf ts (map scalar_raw xs)
values-of no_types [] h = tt
values-of (type_then t ts) (x ∷ xs) h = (h.0.1, values-of ts xs h.1)
values-of no_types (x ∷ xs) h = absurd h
values-of (type_then t ts) [] h = absurd h

plain-values : (ts : TypeTrees) (vs : List RawTree) → HaveNoVariant ts → AreValuesOf ts vs → ArePlainOf ts vs
plain-values no_types [] n h = tt
plain-values (type_then t ts) (v ∷ vs) n h = (a_plain t v n.0 h.0, plain-values ts vs n.1 h.1)
plain-values no_types (v ∷ vs) n h = absurd h
plain-values (type_then t ts) [] n h = absurd h

held-values : (ts : TypeTrees) (vs : List RawTree) → ArePlainOf ts vs → AreValuesOf ts vs
held-values no_types [] h = tt
held-values (type_then t ts) (v ∷ vs) h = (record { valid = h.0.kind; held = h.0.held }, held-values ts vs h.1)
held-values no_types (v ∷ vs) h = absurd h
held-values (type_then t ts) [] h = absurd h

contents-of : (xs : List Scalar) → map content (map scalar_raw xs) ≡ map scalar_content xs
contents-of [] = refl
contents-of (x ∷ xs) = ap (λ cs. scalar_content x ∷ cs) (contents-of xs)

pub rows-alike : (os : List SortOptions) (ts : TypeTrees) → HaveNoVariant ts → ((s : List ℕ) → IsRowKeyOf os ts s → AreColumnKeys os ts s) × ((s : List ℕ) → AreColumnKeys os ts s → IsRowKeyOf os ts s)
rows-alike os ts n = (
  λ s h. record { values = h.values; plain = plain-values ts h.values n h.begins.values; is = h.begins.is ∙ append-nil (values_key os h.values) },
  λ s h. record { values = h.values; begins = record { values = held-values ts h.values h.plain; is = h.is ∙ sym (append-nil (values_key os h.values)) } },
)

pub row-bad : (os : List SortOptions) (ts : TypeTrees) (bytes : List ℕ) (e : RowError) → HaveNoVariant ts → IsRefusal (AreColumnKeys os ts) bytes e → (place : ℕ) → e ≡ BadKey place
    → IsFirstBad (IsRowKeyOf os ts) bytes place
row-bad os ts bytes e none (inl out) place is = absurd (cc)
row-bad os ts bytes e none (inr (at, is, within, stuck)) place is_at =
    let same : at ≡ place = cc in
    subst (IsFirstBad (IsRowKeyOf os ts) bytes) same
    (first-bad (IsRowKeyOf os ts) (AreColumnKeys os ts) bytes at (rows-alike os ts none) within stuck)

-- as many options as types
abbrev length-is : List SortOptions → TypeTrees → Type 0
length-is (o ∷ os) (type_then t ts) = length-is os ts
length-is [] no_types = Unit {0}
length-is _ _ = ⊥

as-long : (os : List SortOptions) (ts : List DType) → length ts ≡ length os → length-is os (dtype_trees ts)
as-long [] [] e = tt
as-long (o ∷ os) (t ∷ ts) e = as-long os ts (omega arith)
as-long [] (t ∷ ts) e = absurd (omega arith)
as-long (o ∷ os) [] e = absurd (omega arith)

same-row : (os : List SortOptions) (ts : TypeTrees) (xs : List Scalar) (ws : List RawTree) (more rest : List ℕ) → OneValue → length-is os ts → AreScalars ts xs → ArePlainOf ts ws → scalars_key os xs ++ more ≡ values_key os ws ++ rest
    → AreMadeOf ts ws xs × (scalars_key os xs ≡ values_key os ws)
same-row os no_types [] [] more rest one l h plain e = (tt, refl)
same-row (o ∷ os) (type_then t ts) (x ∷ xs) (w ∷ ws) more rest one l h plain e =
    let f : key_with o (scalar_content x) ++ (scalars_key os xs ++ more) ≡ key_with o (content w) ++ (values_key os ws ++ rest) =
    sym (append_assoc (key_with o (scalar_content x)) (scalars_key os xs) more) ∙ e ∙ append_assoc (key_with o (content w)) (values_key os ws) rest in
    let both = column-apart o (scalar_content x) (content w) (scalars_key os xs ++ more) (values_key os ws ++ rest) h.0.1.untyped h.0.1.held plain.0.held f in
    let value = one t t (scalar_raw x) w refl h.0.1.kind plain.0.kind both.0 in
    let others = same-row os ts xs ws more rest one l h.1 plain.1 both.1 in
    ((record { typed = h.0.0; value = value }, others.0), ap₂ (λ c bs. key_with o c ++ bs) both.0 others.1)
same-row [] (type_then t ts) xs ws more rest one l h plain e = absurd l
same-row os no_types (x ∷ xs) ws more rest one l h plain e = absurd h
same-row os no_types [] (w ∷ ws) more rest one l h plain e = absurd plain
same-row (o ∷ os) (type_then t ts) [] ws more rest one l h plain e = absurd h
same-row (o ∷ os) (type_then t ts) (x ∷ xs) [] more rest one l h plain e = absurd plain

pub row-whole : (os : List SortOptions) (ts : List DType) (xs : List Scalar) (bytes : List ℕ) (n : ℕ) → OneValue → HaveNoVariant (dtype_trees ts) → length ts ≡ length os → HasRow os (dtype_trees ts) xs bytes n
    → (vs : List RawTree) (rest : List ℕ) → BeginsWithRow os (dtype_trees ts) bytes vs rest → AreMadeOf (dtype_trees ts) vs xs × (n ≡ length (values_key os vs))
row-whole os ts xs bytes n one none same h vs rest begins =
    let both = same-row os (dtype_trees ts) xs vs (drop n bytes) rest one (as-long os ts same) h.scalars (plain-values (dtype_trees ts) vs none begins.values) (sym h.is ∙ begins.is) in
    (both.0, h.count ∙ ap length both.1)

pub row-whole_bad : (os : List SortOptions) (ts : TypeTrees) (bytes : List ℕ) (e : RowError) → HaveNoVariant ts → IsRefusal (AreColumnKeys os ts) bytes e → (vs : List RawTree) (rest : List ℕ) → BeginsWithRow os ts bytes vs rest → e ≡ OutOfMemory
row-whole_bad os ts bytes e none (inl out) vs rest begins = out
row-whole_bad os ts bytes e none (inr (place, is, within, stuck)) vs rest begins =
    absurd (not-stuck (AreColumnKeys os ts) bytes (drop place bytes) (values_key os vs) rest stuck (record { values = vs; plain = plain-values ts vs none begins.values; is = refl }) begins.is)

pub row-decoded : (os : List SortOptions) (ts : TypeTrees) (xs : List Scalar) (bytes : List ℕ) (n : ℕ) → HasRow os ts xs bytes n → IsDecodedRow os ts bytes xs n
row-decoded os ts xs bytes n h =
    let same : scalars_key os xs ≡ values_key os (map scalar_raw xs) = ap (row_key os) (sym (contents-of xs)) in
    record {
      typed = types-of ts xs h.scalars;
      rest = drop n bytes;
      begins = record { values = held-values ts (map scalar_raw xs) (values-of ts xs h.scalars); is = h.is ∙ ap (λ bs. bs ++ drop n bytes) same };
      count = h.count ∙ ap length same;
    }
  where
    types-of : (ts : TypeTrees) (xs : List Scalar) → AreScalars ts xs → AreOfTypes ts xs
    types-of no_types [] h = tt
    types-of (type_then t ts) (x ∷ xs) h = (h.0.0, types-of ts xs h.1)
    types-of no_types (x ∷ xs) h = absurd h
    types-of (type_then t ts) [] h = absurd h

pub rows-whole : (os : List SortOptions) (ts : List DType) (bytes : List ℕ) (r : Result (Vec Scalar Global × ℕ) RowError) → OneValue
    → MatchResult r (λ p. HasRow os (dtype_trees ts) p.0.items bytes p.1) (λ e. IsRefusal (AreColumnKeys os (dtype_trees ts)) bytes e)
    → (vs : List RawTree) (rest : List ℕ) → length ts ≡ length os → HaveNoVariant (dtype_trees ts) → BeginsWithRow os (dtype_trees ts) bytes vs rest → DecodesRowTo os (dtype_trees ts) vs r
rows-whole os ts bytes (Ok p) one h vs rest same none begins = row-whole os ts p.0.items bytes p.1 one none same h vs rest begins
rows-whole os ts bytes (Err e) one h vs rest same none begins = row-whole_bad os (dtype_trees ts) bytes e none h vs rest begins

pub rows-bad : (os : List SortOptions) (ts : List DType) (bytes : List ℕ) (r : Result (Vec Scalar Global × ℕ) RowError) → HaveNoVariant (dtype_trees ts)
    → MatchResult r (λ p. HasRow os (dtype_trees ts) p.0.items bytes p.1) (λ e. IsRefusal (AreColumnKeys os (dtype_trees ts)) bytes e) → (place : ℕ) → r ≡ Err (BadKey place)
    → IsFirstBad (IsRowKeyOf os (dtype_trees ts)) bytes place
rows-bad os ts bytes (Ok p) none h place e = absurd (cc)
rows-bad os ts bytes (Err e) none h place is = let same : e ≡ BadKey place = cc in row-bad os (dtype_trees ts) bytes e none h place same

pub ruleset places = (column-at, bad-at, other-at)

pub ruleset shown = (columns-none, columns-end)

pub ruleset answers = (row-whole, row-whole_bad, row-decoded, row-bad)
