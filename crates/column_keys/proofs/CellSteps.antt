-- The row that a key decodes to, or why there is none.
use Rattle.std.specs.Global.{Global}
use Rattle.std.proofs.Common.{◌≡◌, ◌≢◌, ◌∙◌, ℕ, ◌+◌, ◌<◌, inl, inr, List, [], ◌++◌, length, map, append-nil, refl, sym, subst, ap, arith}
use Rattle.std.specs.Prelude.{Result, Ok, Err, IsErr, IsErrAnd, IfErr, Vec, slice_index}
use Rattle.std.proofs.lemmas.List.{length-append, nil_from_length}
use Rattle.vortex_dtype.specs.TypeTree.{TypeTrees}
use Rattle.vortex_value.specs.Values.Scalars.{scalar_raw}
use Rattle.vortex_value.specs.declared.scalars.Scalar.{Scalar}
use Rattle.vortex_row.specs.Decoded.{BeginsWithRow, IsDecodedRow, IsFirstBad, IsRowKeyOf, values_key}
use Rattle.vortex_row.specs.declared.options.SortOptions.{SortOptions}
use Rattle.column_keys.specs.Cells.{IsPlaced, IsRowOf, key_at, types_in}
use Rattle.column_keys.specs.Errors.{GoesOnAfter, IsRowReadError, IsWrongKey}
use Rattle.column_keys.specs.declared.errors.KeysError.{KeysError}
use Rattle.column_keys.specs.declared.errors.KeysError.TheVariants.{BadBytes, BadOffsets}
use Rattle.column_keys.specs.declared.keys.RowKeys.{RowKeys}

-- the key is no longer than what was read of it
whole-key : (os : List SortOptions) (ts : TypeTrees) (key : List ℕ) (xs : List Scalar) (n : ℕ) → IsDecodedRow os ts key xs n → ¬ (n < length key) → BeginsWithRow os ts key (map scalar_raw xs) []
whole-key os ts key xs n decoded all =
    let longer = ap length decoded.begins.is ∙ length-append (values_key os (map scalar_raw xs)) decoded.rest in
    let none : decoded.rest ≡ [] = nil_from_length decoded.rest (omega (arith, longer, decoded.count, all)) in
    subst (λ rest. BeginsWithRow os ts key (map scalar_raw xs) rest) none decoded.begins

-- the row that a key decodes to
pub row-found : (keys : RowKeys) (row : ℕ) (key : List ℕ) (xs : List Scalar) (n : ℕ) → IsPlaced keys.bytes.now keys.offsets.now row → key ≡ key_at keys.bytes.now keys.offsets.now row → IsDecodedRow keys.options.now (types_in keys) key xs n → ¬ (n < length key)
    → IsRowOf keys row (map scalar_raw xs)
row-found keys row key xs n placed is decoded all = record {
  placed = placed;
  begins = subst (λ k. BeginsWithRow keys.options.now (types_in keys) k (map scalar_raw xs) []) is (whole-key keys.options.now (types_in keys) key xs n decoded all);
}

-- ---- why there is none

no-rest : (xs ys rest : List ℕ) → xs ≡ ys ++ rest → length ys < length xs → rest ≢ []
no-rest xs ys rest e less none =
    let same = ap length e ∙ length-append ys rest in
    let empty : length rest ≡ 0 = ap length none in
    absurd (omega (arith, same, empty, less))

pub key-goes-on : (keys : RowKeys) (row : ℕ) (key : List ℕ) (xs : List Scalar) (n : ℕ) → IsPlaced keys.bytes.now keys.offsets.now row → key ≡ key_at keys.bytes.now keys.offsets.now row → IsDecodedRow keys.options.now (types_in keys) key xs n → n < length key
    → IsRowReadError keys row (BadBytes (slice_index keys.offsets.now row + n))
key-goes-on keys row key xs n placed is decoded more =
    let vs = map scalar_raw xs in
    let front = values_key keys.options.now vs in
    let after : GoesOnAfter (IsRowKeyOf keys.options.now (types_in keys)) key n = record {
      key = front;
      rest = decoded.rest;
      is_one = record { values = vs; begins = record { values = decoded.begins.values; is = sym (append-nil front) } };
      is = decoded.begins.is;
      more = no-rest key front decoded.rest decoded.begins.is (omega (arith, more, decoded.count));
      at = decoded.count;
    } in
    (placed, (n, refl, subst (λ k. IsWrongKey keys.options.now (types_in keys) k n) is (inr after)))

pub key-bad : (keys : RowKeys) (row : ℕ) (key : List ℕ) (p : ℕ) → IsPlaced keys.bytes.now keys.offsets.now row → key ≡ key_at keys.bytes.now keys.offsets.now row
    → IsFirstBad (IsRowKeyOf keys.options.now (types_in keys)) key p → IsRowReadError keys row (BadBytes (slice_index keys.offsets.now row + p))
key-bad keys row key p placed is bad = (placed, (p, refl, subst (λ k. IsWrongKey keys.options.now (types_in keys) k p) is (inl bad)))

pub not-placed : (keys : RowKeys) (row : ℕ) (r : Result (Vec Scalar Global) KeysError) (e : KeysError) → IsErr r × IsErrAnd r (λ f. f ≡ e) → (e ≡ BadOffsets row) × ¬ (IsPlaced keys.bytes.now keys.offsets.now row) → IfErr r (IsRowReadError keys row)
not-placed keys row (Ok x) e h w = tt
not-placed keys row (Err f) e h w = subst (IsRowReadError keys row) (sym (h.1 ∙ w.0)) (refl, w.1)
