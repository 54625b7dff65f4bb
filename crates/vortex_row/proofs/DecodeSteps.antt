-- Steps from the reading of a value to the answer for bytes.
use Rattle.std.proofs.Common.{◌≡◌, ◌≢◌, ℕ, suc, ◌+◌, ◌-◌, ◌≤◌, ◌⊎◌, inl, inr, Bool, true, false, List, [], ◌∷◌, ◌++◌, length, length-append, take, drop, get_or, refl, sym, subst, ap, ap₂, ◌∙◌, append_assoc, append-nil, arith}
use Rattle.std.specs.Prelude.{Result, Ok, Err, MatchResult}
use Rattle.vortex_dtype.specs.TypeTree.{TypeTree, IsNullable}
use Rattle.vortex_value.specs.Casts.{OneValue}
use Rattle.vortex_value.specs.TypesWithin.{HasNoVariant}
use Rattle.vortex_value.specs.Validity.{Valid}
use Rattle.vortex_value.specs.Values.Content.{content}
use Rattle.vortex_value.specs.Values.RawTree.{RawTree, absent, raw_bool, raw_integer, raw_text, raw_bytes, raw_tuple, raw_union, raw_variant, is_absent}
use Rattle.vortex_value.specs.Values.Scalars.{IsMadeOf, scalar_raw, scalar_type}
use Rattle.vortex_value.specs.declared.scalars.Scalar.{Scalar}
use Rattle.vortex_row.specs.Columns.{key_with, null_byte}
use Rattle.vortex_row.specs.Decoded.{BeginsWithKey, DecodesInto, DecodesTo, IsDecoded, IsFirstBad, IsKeyOf, IsValueOf, MayBegin}
use Rattle.vortex_row.specs.Held.{AreBytes}
use Rattle.vortex_row.specs.Keys.{inverted, key}
use Rattle.vortex_row.specs.ColumnReading.{HasColumn, IsColumnKey, IsRefusal}
use Rattle.vortex_row.specs.Reading.{BeginAlike, HasRead, IsInverted, IsKey, IsPlain, IsPresent, IsStuck}
use Rattle.vortex_row.specs.declared.error.RowError.{RowError}
use Rattle.vortex_row.specs.declared.error.RowError.TheVariants.{BadKey, OutOfMemory}
use Rattle.vortex_row.specs.declared.options.SortOptions.{SortOptions}
use Rattle.vortex_row.proofs.ApartLaws.{column-apart}
use Rattle.vortex_row.proofs.KeyLaws.{values_have_no_typed}
use Rattle.vortex_row.proofs.OrderLaws.{key-bytes}
use Rattle.vortex_row.proofs.PartSteps.{null_valid, null_allowed}
use Rattle.vortex_row.proofs.PlaceLaws.{first_of}
use Rattle.vortex_row.proofs.ReaderSteps.{at-once, inverted-append, inverted-are_bytes, inverted-back, take-length, take-more, take-then}
use Rattle.vortex_row.proofs.StuckLaws.{not-stuck, stuck-inverted, stuck-within}
use Rattle.vortex_row.proofs.ByteLaws.{inverted-length}

-- a column's key of a value that is no null
key_with-present : (o : SortOptions) (v : RawTree) → is_absent v ≡ false → key_with o (content v) ≡ inverted o.descending (key (content v))
key_with-present o absent e = absurd (cc)
key_with-present o (raw_bool b) e = refl
key_with-present o (raw_integer k z) e = refl
key_with-present o (raw_text bs) e = refl
key_with-present o (raw_bytes bs) e = refl
key_with-present o (raw_tuple vs) e = refl
key_with-present o (raw_union id v) e = refl
key_with-present o (raw_variant t v) e = refl

inverted-twice : (d : Bool) (bs : List ℕ) → AreBytes bs → inverted d (inverted d bs) ≡ bs
inverted-twice false bs h = refl
inverted-twice true bs h = inverted-back bs h

drop-front : (xs ys : List ℕ) → drop (length xs) (xs ++ ys) ≡ ys
drop-front [] ys = refl
drop-front (x ∷ xs) ys = drop-front xs ys

-- nulls

pub column-null : (o : SortOptions) (t : TypeTree) (bytes : List ℕ) → IsNullable t → 1 ≤ length bytes → get_or bytes 0 0 ≡ null_byte o.nulls_first → HasColumn o t absent bytes 1
column-null o t [] n h e = absurd (omega arith)
column-null o t (b ∷ bytes) n h e = record { plain = record { kind = null_valid t n; held = tt; untyped = tt }; is = ap (λ c. c ∷ bytes) e; count = refl }

pub other-null : (b : ℕ) (bytes bs : List ℕ) → get_or bytes 0 0 ≢ b → bytes ≢ b ∷ bs
other-null b [] bs h e = cc
other-null b (x ∷ bytes) bs h e = h (first_of x b bytes bs e)

pub no-null_there : (b : ℕ) (bytes bs : List ℕ) → length bytes ≡ 0 → bytes ≢ b ∷ bs
no-null_there b [] bs h e = cc
no-null_there b (x ∷ bytes) bs h e = absurd (omega arith)

-- values

pub column-value : (o : SortOptions) (t : TypeTree) (v : RawTree) (bytes now : List ℕ) (n left : ℕ) → AreBytes bytes → HasRead (IsPresent t) v (inverted o.descending bytes) now → length now ≡ left → n ≡ length bytes - left
    → HasColumn o t v bytes n
column-value o t v bytes now n left h read rest is =
    let d = o.descending in
    let same : bytes ≡ inverted d (key (content v)) ++ inverted d now = sym (inverted-twice d bytes h) ∙ ap (inverted d) read.is ∙ inverted-append d (key (content v)) now in
    let column : key_with o (content v) ≡ inverted d (key (content v)) = key_with-present o v read.plain.kind.present in
    let long : length bytes ≡ length (inverted d (key (content v))) + length (inverted d now) = ap length same ∙ length-append (inverted d (key (content v))) (inverted d now) in
    let tail = inverted-length d now in
    let count : n ≡ length (inverted d (key (content v))) = omega arith in
    let dropped : drop n bytes ≡ inverted d now = ap₂ (λ m bs. drop m bs) count same ∙ drop-front (inverted d (key (content v))) (inverted d now) in
    record {
      plain = record { kind = read.plain.kind.valid; held = read.plain.held; untyped = read.plain.untyped };
      is = same ∙ ap₂ (λ xs ys. xs ++ ys) (sym column) (sym dropped);
      count = count ∙ ap length (sym column);
    }

-- refusals

null-or-value : (o : SortOptions) (t : TypeTree) (bytes : List ℕ) → (IsNullable t → (bs : List ℕ) → bytes ≢ null_byte o.nulls_first ∷ bs) → (s zs rest : List ℕ) (v : RawTree) → IsPlain (Valid t) v → s ≡ key_with o (content v)
    → BeginAlike bytes zs → zs ≡ s ++ rest → (q more : List ℕ) × IsInverted o.descending (IsKey (IsPresent t)) q × (zs ≡ q ++ more)
null-or-value o t bytes other s zs rest absent plain is alike e = absurd (no_null bytes zs (other (null_allowed t plain.kind)) alike (e ∙ ap (λ xs. xs ++ rest) is))
  where
    no_null : (bytes zs : List ℕ) → ((bs : List ℕ) → bytes ≢ null_byte o.nulls_first ∷ bs) → BeginAlike bytes zs → zs ≡ null_byte o.nulls_first ∷ rest → ⊥
    no_null [] [] other alike f = cc
    no_null [] (z ∷ zs) other alike f = alike
    no_null (b ∷ bytes) [] other alike f = alike
    no_null (b ∷ bytes) (z ∷ zs) other alike f = other bytes (ap (λ c. c ∷ bytes) (alike ∙ first_of z (null_byte o.nulls_first) zs rest f))
null-or-value o t bytes other s zs rest v plain is alike e = (
  s,
  rest,
  record {
    string = key (content v);
    is_one = record { value = v; plain = record { kind = record { valid = plain.kind; present = refl }; held = plain.held; untyped = plain.untyped }; is = refl };
    is = is ∙ key_with-present o v refl;
  },
  e,
)

column-key : (o : SortOptions) (t : TypeTree) (q : List ℕ) → IsInverted o.descending (IsKey (IsPresent t)) q → IsColumnKey o t q
column-key o t q h = record {
  value = h.is_one.value;
  plain = record { kind = h.is_one.plain.kind.valid; held = h.is_one.plain.held; untyped = h.is_one.plain.untyped };
  is = h.is ∙ ap (inverted o.descending) h.is_one.is ∙ sym (key_with-present o h.is_one.value h.is_one.plain.kind.present);
}

pub column-stuck : (o : SortOptions) (t : TypeTree) (bytes now : List ℕ) → AreBytes bytes → (IsNullable t → (bs : List ℕ) → bytes ≢ null_byte o.nulls_first ∷ bs)
    → IsStuck (IsKey (IsPresent t)) (inverted o.descending bytes) now → IsStuck (IsColumnKey o t) bytes (inverted o.descending now)
column-stuck o t bytes now h other stuck =
    let d = o.descending in
    let turned = stuck-inverted d (IsKey (IsPresent t)) (inverted d bytes) now (λ s k. subst AreBytes (sym k.is) (key-bytes (content k.value) k.plain.held)) (inverted-are_bytes d bytes h) stuck in
    let here = subst (λ bs. IsStuck (IsInverted d (IsKey (IsPresent t))) bs (inverted d now)) (inverted-twice d bytes h) turned in
    stuck-within (IsInverted d (IsKey (IsPresent t))) (IsColumnKey o t) bytes (inverted d now)
    (record {
      extend = λ q k. ([], subst (IsColumnKey o t) (sym (append-nil q)) (column-key o t q k));
      front = λ s zs rest k alike e. null-or-value o t bytes other s zs rest k.value k.plain k.is alike e;
    }) here

-- what is left is what comes from an offset on
pub place-of : (Is : List ℕ → Type 0) (bytes now : List ℕ) (left place : ℕ) → IsStuck Is bytes now → length now ≡ left → place ≡ length bytes - left
    → (place ≤ length bytes) × IsStuck Is bytes (drop place bytes)
place-of Is bytes now left place stuck rest is =
    let long : length bytes ≡ length stuck.done + length now = ap length stuck.split ∙ length-append stuck.done now in
    let count : place ≡ length stuck.done = omega arith in
    let dropped : drop place bytes ≡ now = ap₂ (λ m bs. drop m bs) count stuck.split ∙ drop-front stuck.done now in
    (omega arith, subst (IsStuck Is bytes) (sym dropped) stuck)

pub column-refused : (o : SortOptions) (t : TypeTree) (bytes now : List ℕ) (left place : ℕ) → AreBytes bytes → (IsNullable t → (bs : List ℕ) → bytes ≢ null_byte o.nulls_first ∷ bs)
    → IsStuck (IsKey (IsPresent t)) (inverted o.descending bytes) now → length now ≡ left → place ≡ length bytes - left → IsRefusal (IsColumnKey o t) bytes (BadKey place)
column-refused o t bytes now left place h other stuck rest is =
    let here = column-stuck o t bytes now h other stuck in
    let at = place-of (IsColumnKey o t) bytes (inverted o.descending now) left place here (inverted-length o.descending now ∙ rest) is in
    inr (place, refl, at.0, at.1)

-- the answers

abbrev Alike : (List ℕ → Type 0) → (List ℕ → Type 0) → Type 0
Alike IsOne Is = ((s : List ℕ) → IsOne s → Is s) × ((s : List ℕ) → Is s → IsOne s)

same_ends : (xs ys zs : List ℕ) → xs ++ zs ≡ ys ++ zs → xs ≡ ys
same_ends [] [] zs e = refl
same_ends [] (y ∷ ys) zs e = let long = ap length e in let more = length-append ys zs in absurd (omega arith)
same_ends (x ∷ xs) [] zs e = let long = ap length e in let more = length-append xs zs in absurd (omega arith)
same_ends (x ∷ xs) (y ∷ ys) zs e = let first : x ≡ y = cc in ap₂ (λ b bs. b ∷ bs) first (same_ends xs ys zs (cc))

bad-before : (IsOne : List ℕ → Type 0) (done : List ℕ) (place : ℕ) → place ≡ length done → (done ≡ []) ⊎ ((more : List ℕ) × IsOne (done ++ more)) → (place ≡ 0) ⊎ MayBegin IsOne done
bad-before IsOne done place count (inl none) = inl (count ∙ ap length none)
bad-before IsOne done place count (inr h) = inr (record { key = done ++ h.0; more = h.0; rest = []; is_one = h.1; is = sym (append-nil (done ++ h.0)) })

pub first-bad : (IsOne Is : List ℕ → Type 0) (bytes : List ℕ) (place : ℕ) → Alike IsOne Is → place ≤ length bytes → IsStuck Is bytes (drop place bytes)
    → IsFirstBad IsOne bytes place
first-bad IsOne Is bytes place same within stuck =
    let done : stuck.done ≡ take place bytes = same_ends stuck.done (take place bytes) (drop place bytes) (sym stuck.split ∙ take-then place bytes) in
    let count : place ≡ length stuck.done = sym (take-length place bytes within) ∙ ap length (sym done) in
    record {
      within = within;
      before = subst (λ ds. (place ≡ 0) ⊎ MayBegin IsOne ds) done (bad-before IsOne stuck.done place count (to_ones stuck.begins));
      bad = λ less m.
          let first : drop place bytes ≡ get_or bytes place 0 ∷ drop (suc place) bytes = at-once place bytes less in
          let alike : BeginAlike (drop place bytes) (get_or bytes place 0 ∷ m.more) = subst (λ xs. BeginAlike xs (get_or bytes place 0 ∷ m.more)) (sym first) refl in
          let e : stuck.done ++ get_or bytes place 0 ∷ m.more ≡ m.key ++ m.rest =
          ap (λ ds. ds ++ get_or bytes place 0 ∷ m.more) done ∙ sym (append_assoc (take place bytes) (get_or bytes place 0 ∷ []) m.more) ∙ ap (λ ds. ds ++ m.more) (sym (take-more place bytes less)) ∙ m.is in
          stuck.none m.key (get_or bytes place 0 ∷ m.more) m.rest (same.0 m.key m.is_one) alike e;
      no_key = λ k rest one e. not-stuck Is bytes (drop place bytes) k rest stuck (same.0 k one) e;
    }
  where
    to_ones : (stuck.done ≡ []) ⊎ ((more : List ℕ) × Is (stuck.done ++ more)) → (stuck.done ≡ []) ⊎ ((more : List ℕ) × IsOne (stuck.done ++ more))
    to_ones (inl e) = inl e
    to_ones (inr h) = inr (h.0, same.1 (stuck.done ++ h.0) h.1)

pub a_plain : (t : TypeTree) (v : RawTree) → HasNoVariant t → IsValueOf t v → IsPlain (Valid t) v
a_plain t v n h = record { kind = h.valid; held = h.held; untyped = values_have_no_typed t v n h.valid }

pub keys-alike : (o : SortOptions) (t : TypeTree) → HasNoVariant t → Alike (IsKeyOf o t) (IsColumnKey o t)
keys-alike o t n = (
  λ s h. record { value = h.value; plain = a_plain t h.value n h.begins.value; is = h.begins.is ∙ append-nil (key_with o (content h.value)) },
  λ s h. record { value = h.value; begins = record { value = record { valid = h.plain.kind; held = h.plain.held }; is = h.is ∙ sym (append-nil (key_with o (content h.value))) } },
)

-- the answer to bytes that begin with a key is the value
same-column : (o : SortOptions) (t : TypeTree) (v w : RawTree) (bytes rest : List ℕ) (n : ℕ) → OneValue → HasColumn o t v bytes n → IsPlain (Valid t) w → bytes ≡ key_with o (content w) ++ rest → (v ≡ w) × (n ≡ length (key_with o (content w)))
same-column o t v w bytes rest n one h plain e =
    let both = column-apart o (content v) (content w) (drop n bytes) rest h.plain.untyped h.plain.held plain.held (sym h.is ∙ e) in
    (one t t v w refl h.plain.kind plain.kind both.0, h.count ∙ ap (λ c. length (key_with o c)) both.0)

pub whole-ok : (o : SortOptions) (t : TypeTree) (bytes : List ℕ) (x : Scalar) (n : ℕ) → OneValue → HasNoVariant t → scalar_type x ≡ t → HasColumn o t (scalar_raw x) bytes n
    → (v : RawTree) (rest : List ℕ) → BeginsWithKey o t bytes v rest → IsMadeOf t v x × (n ≡ length (key_with o (content v)))
whole-ok o t bytes x n one none typed h v rest begins =
    let same = same-column o t (scalar_raw x) v bytes rest n one h (a_plain t v none begins.value) begins.is in
    (record { typed = typed; value = same.0 }, same.1)

pub whole-bad : (o : SortOptions) (t : TypeTree) (bytes : List ℕ) (e : RowError) → HasNoVariant t → IsRefusal (IsColumnKey o t) bytes e → (v : RawTree) (rest : List ℕ) → BeginsWithKey o t bytes v rest → e ≡ OutOfMemory
whole-bad o t bytes e none (inl out) v rest begins = out
whole-bad o t bytes e none (inr (place, is, within, stuck)) v rest begins =
    absurd (not-stuck (IsColumnKey o t) bytes (drop place bytes) (key_with o (content v)) rest stuck (record { value = v; plain = a_plain t v none begins.value; is = refl }) begins.is)

pub decoded-ok : (o : SortOptions) (t : TypeTree) (bytes : List ℕ) (x : Scalar) (n : ℕ) → scalar_type x ≡ t → HasColumn o t (scalar_raw x) bytes n → IsDecoded o t bytes x n
decoded-ok o t bytes x n typed h = record {
  typed = typed;
  rest = drop n bytes;
  begins = record { value = record { valid = h.plain.kind; held = h.plain.held }; is = h.is };
  count = h.count;
}

pub bad-place : (o : SortOptions) (t : TypeTree) (bytes : List ℕ) (e : RowError) → HasNoVariant t → IsRefusal (IsColumnKey o t) bytes e → (place : ℕ) → e ≡ BadKey place
    → IsFirstBad (IsKeyOf o t) bytes place
bad-place o t bytes e none (inl out) place is = absurd (cc)
bad-place o t bytes e none (inr (at, is, within, stuck)) place is_at =
    let same : at ≡ place = cc in
    subst (IsFirstBad (IsKeyOf o t) bytes) same (first-bad (IsKeyOf o t) (IsColumnKey o t) bytes at (keys-alike o t none) within stuck)

pub answers-whole : (o : SortOptions) (t : TypeTree) (bytes : List ℕ) (r : Result (Scalar × ℕ) RowError) → OneValue
    → MatchResult r (λ p. (scalar_type p.0 ≡ t) × HasColumn o t (scalar_raw p.0) bytes p.1) (λ e. IsRefusal (IsColumnKey o t) bytes e) → (v : RawTree) (rest : List ℕ) → HasNoVariant t → BeginsWithKey o t bytes v rest
    → DecodesTo o t v r
answers-whole o t bytes (Ok p) one h v rest none begins = whole-ok o t bytes p.0 p.1 one none h.0 h.1 v rest begins
answers-whole o t bytes (Err e) one h v rest none begins = whole-bad o t bytes e none h v rest begins

pub answers-bad : (o : SortOptions) (t : TypeTree) (bytes : List ℕ) (r : Result (Scalar × ℕ) RowError) → HasNoVariant t
    → MatchResult r (λ p. (scalar_type p.0 ≡ t) × HasColumn o t (scalar_raw p.0) bytes p.1) (λ e. IsRefusal (IsColumnKey o t) bytes e) → (place : ℕ) → r ≡ Err (BadKey place)
    → IsFirstBad (IsKeyOf o t) bytes place
answers-bad o t bytes (Ok p) none h place e = absurd (cc)
answers-bad o t bytes (Err e) none h place is = let same : e ≡ BadKey place = cc in bad-place o t bytes e none h place same

-- the same of a scalar that stands already

pub into-whole : (o : SortOptions) (t : TypeTree) (bytes : List ℕ) (x : Scalar) (r : Result ℕ RowError) → OneValue
    → MatchResult r (λ n. (scalar_type x ≡ t) × HasColumn o t (scalar_raw x) bytes n) (λ e. IsRefusal (IsColumnKey o t) bytes e) → (v : RawTree) (rest : List ℕ) → HasNoVariant t → BeginsWithKey o t bytes v rest
    → DecodesInto o t v x r
into-whole o t bytes x (Ok n) one h v rest none begins = whole-ok o t bytes x n one none h.0 h.1 v rest begins
into-whole o t bytes x (Err e) one h v rest none begins = whole-bad o t bytes e none h v rest begins

pub into-bad : (o : SortOptions) (t : TypeTree) (bytes : List ℕ) (x : Scalar) (r : Result ℕ RowError) → HasNoVariant t
    → MatchResult r (λ n. (scalar_type x ≡ t) × HasColumn o t (scalar_raw x) bytes n) (λ e. IsRefusal (IsColumnKey o t) bytes e) → (place : ℕ) → r ≡ Err (BadKey place)
    → IsFirstBad (IsKeyOf o t) bytes place
into-bad o t bytes x (Ok n) none h place e = absurd (cc)
into-bad o t bytes x (Err e) none h place is = let same : e ≡ BadKey place = cc in bad-place o t bytes e none h place same

pub ruleset nulls = (column-null, other-null, no-null_there)

pub ruleset shown = (column-value, column-refused)

pub ruleset answers = (whole-ok, whole-bad, decoded-ok, bad-place)
