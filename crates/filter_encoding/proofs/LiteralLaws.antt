-- Literals: what begins with two of them, and where the key of one does not go on.
use Rattle.std.proofs.Common.{◌≡◌, ◌⊎◌, inl, inr, ℕ, zero, suc, ◌<◌, ◌≤◌, List, [], ◌∷◌, ◌++◌, length, length-append, take, drop, refl, sym, subst, ap, ap₂, ◌∙◌, append_assoc, append-nil, arith}
use Rattle.std.specs.Prelude.{Err, IfOk, Ok, Result}
use Rattle.vortex_dtype.specs.TypeTree.{TypeTree, null_type, bool_type, integer_type, utf8_type, binary_type, extension_type}
use Rattle.vortex_value.specs.Equality.{HasNoTyped}
use Rattle.vortex_value.specs.Validity.{Valid}
use Rattle.vortex_value.specs.Values.Content.{Content, content}
use Rattle.vortex_value.specs.Values.RawTree.{absent}
use Rattle.vortex_value.specs.Values.Scalars.{IsValid, scalar_content, scalar_raw, scalar_type}
use Rattle.vortex_value.specs.declared.scalars.Scalar.{Scalar}
use Rattle.vortex_row.specs.Decoded.{IsDecoded, IsFirstBad, MayBegin, IsKeyOf, IsValueOf}
use Rattle.vortex_row.specs.Held.{IsHeld}
use Rattle.vortex_row.specs.Keys.{key}
use Rattle.vortex_row.specs.Columns.{key_with}
use Rattle.vortex_row.specs.declared.options.SortOptions.{SortOptions}
use Rattle.vortex_row.proofs.ApartLaws.{key-apart}
use Rattle.vortex_row.proofs.KeyLaws.{values_have_no_typed}
use Rattle.vortex_row.specs.Reading.{HasValues}
use Rattle.vortex_row.proofs.ReaderSteps.{take-then}
use Rattle.vortex_row.proofs.PartSteps.{some_value}
use Rattle.vortex_cells.specs.Cells.{Cell, cell_of}
use Rattle.statistics_bytes.specs.EncodingSteps.{ascending}
use Rattle.statistics_bytes.proofs.KeyBounds.{key-ascending}
use Rattle.filter_encoding.specs.Encoding.{HasByte, IsLiteral, IsPlain, literal_bytes, type_bytes}
use Rattle.filter_encoding.specs.Steps.{IsKeyOfType, ReadsKey}
use Rattle.filter_encoding.specs.Strings.{BeginAlike, HasRead, IsEncodingOf, IsStuck, Reads}
use Rattle.filter_encoding.specs.declared.reader.FilterDecodeError.{FilterDecodeError}
use Rattle.filter_encoding.proofs.Stuck.{AreApart, GoesOn, encoding_of, stuck_later, stuck_within}
use Rattle.filter_encoding.proofs.TypeLaws.{plain_ordered, types_apart}

-- ---- what begins with two literals

same_cell : (x y : Cell) → x.typed ≡ y.typed → x.content ≡ y.content → x ≡ y
same_cell x y e f =
    let made : TypeTree → Content → Cell = λ t c. record { typed = t; content = c } in
    ap (λ t. made t x.content) e ∙ ap (λ c. made y.typed c) f

literal_held : (x : Cell) → IsLiteral x → IsHeld x.content
literal_held x h = subst IsHeld (sym h.is) h.is_value.held

literal_untyped : (x : Cell) → IsLiteral x → HasNoTyped x.content
literal_untyped x h = subst HasNoTyped (sym h.is) (values_have_no_typed x.typed h.value (plain_ordered x.typed h.plain) h.is_value.valid)

pub literals_apart : AreApart literal_bytes IsLiteral
literals_apart = record {
  apart = λ x y xs ys h g e.
      let w = types_apart.apart x.typed y.typed (key x.content ++ xs) (key y.content ++ ys) h.plain g.plain (sym (append_assoc (type_bytes x.typed) (key x.content) xs) ∙ e ∙ append_assoc (type_bytes y.typed) (key y.content) ys) in
      let v = key-apart x.content y.content xs ys (literal_untyped x h) (literal_held x h) (literal_held y g) w.1 in
      (same_cell x y w.0 v.0, v.1);
}

-- a null
pub null_literal : IsLiteral (record { typed = null_type; content = content absent })
null_literal = record { plain = tt; value = absent; is_value = record { valid = refl; held = tt }; is = refl }

-- ---- a key after the byte of its type

key_goes_on : (t : TypeTree) → IsPlain t → GoesOn (type_bytes t) (IsEncodingOf literal_bytes IsLiteral) (IsKeyOfType t)
key_goes_on t plain = record {
  join = λ q h. record {
    value = record { typed = t; content = content h.value };
    is_one = record { plain = plain; value = h.value; is_value = h.is_value; is = refl };
    is = ap (λ bs. type_bytes t ++ bs) h.is;
  };
  split = λ s zs rest h e.
      let x = h.value in
      let w = types_apart.apart t x.typed zs (key x.content ++ rest) plain h.is_one.plain (e ∙ ap (λ bs. bs ++ rest) h.is ∙ append_assoc (type_bytes x.typed) (key x.content) rest) in (
        key x.content,
        record { value = h.is_one.value; is_value = subst (λ u. IsValueOf u h.is_one.value) (sym w.0) h.is_one.is_value; is = ap key h.is_one.is },
        w.1,
      );
}

pub key_stuck : (t : TypeTree) (old mid now : List ℕ) → HasRead type_bytes IsPlain t old mid → IsStuck (IsKeyOfType t) mid now → IsStuck (IsEncodingOf literal_bytes IsLiteral) old now
key_stuck t old mid now h stuck = stuck_later (type_bytes t) (IsEncodingOf literal_bytes IsLiteral) (IsKeyOfType t) old mid now (key_goes_on t h.is_one) h.is stuck

pub literal_read : (t : TypeTree) (x : Scalar) (c : Cell) (old mid now : List ℕ) → c.typed ≡ scalar_type x → c.content ≡ scalar_content x → HasRead type_bytes IsPlain t old mid → scalar_type x ≡ t → IsValueOf t (scalar_raw x)
    → mid ≡ key (scalar_content x) ++ now → HasRead literal_bytes IsLiteral c old now
literal_read t x c old mid now typed same h is_type value is = record {
  is_one = record {
    plain = subst IsPlain (sym (typed ∙ is_type)) h.is_one;
    value = scalar_raw x;
    is_value = subst (λ u. IsValueOf u (scalar_raw x)) (sym (typed ∙ is_type)) value;
    is = same;
  };
  is = h.is ∙ ap (λ bs. type_bytes t ++ bs) is ∙ sym (append_assoc (type_bytes t) (key (scalar_content x)) now) ∙ ap₂ (λ u k. (type_bytes u ++ key k) ++ now) (sym (typed ∙ is_type)) (sym same);
}

-- a literal, of which the type is read
pub literal_behind : (t : TypeTree) (r : Result Scalar FilterDecodeError) (old mid now : List ℕ) → HasRead type_bytes IsPlain t old mid → ReadsKey t r mid now → Reads literal_bytes IsLiteral cell_of r old now
literal_behind t (Ok x) old mid now h k = literal_read t x (cell_of x) old mid now refl refl h k.0 k.1 k.2
literal_behind t (Err e) old mid now h k = λ bad. key_stuck t old mid now h (k bad)

pub valid_behind : (t : TypeTree) (r : Result Scalar FilterDecodeError) (old now : List ℕ) → ReadsKey t r old now → IfOk r IsValid
valid_behind t (Ok x) old now k = subst (λ (u : TypeTree). Valid u (scalar_raw x)) (sym k.0) k.1.valid
valid_behind t (Err e) old now k = tt

-- the type of a literal is stuck
byte_values : (t : TypeTree) → HasByte t → HasValues t
byte_values null_type h = tt
byte_values (integer_type k n) h = tt
byte_values (bool_type n) h = tt
byte_values (utf8_type n) h = tt
byte_values (binary_type n) h = tt
byte_values _ h = absurd h

has_values : (t : TypeTree) → IsPlain t → HasValues t
has_values (extension_type id metadata u) h = byte_values u h.stored
has_values null_type h = tt
has_values (integer_type k n) h = tt
has_values (bool_type n) h = tt
has_values (utf8_type n) h = tt
has_values (binary_type n) h = tt
has_values _ h = absurd h

some_key : (t : TypeTree) → IsPlain t → (k : List ℕ) × IsKeyOf ascending t k
some_key t h =
    let v = some_value t (has_values t h) in (
      key_with ascending (content v.0),
      record { value = v.0; begins = record { value = record { valid = v.1.kind; held = v.1.held }; is = sym (append-nil (key_with ascending (content v.0))) } },
    )

pub type_stuck : (old now : List ℕ) → IsStuck (IsEncodingOf type_bytes IsPlain) old now → IsStuck (IsEncodingOf literal_bytes IsLiteral) old now
type_stuck old now stuck =
    stuck_within (IsEncodingOf type_bytes IsPlain) (IsEncodingOf literal_bytes IsLiteral) old now
    (record {
      extend = λ q h.
          let v = some_value h.value (has_values h.value h.is_one) in (
            key (content v.0),
            record {
              value = record { typed = h.value; content = content v.0 };
              is_one = record { plain = h.is_one; value = v.0; is_value = record { valid = v.1.kind; held = v.1.held }; is = refl };
              is = ap (λ bs. bs ++ key (content v.0)) h.is;
            },
          );
      front = λ s h. (type_bytes h.value.typed, key h.value.content, encoding_of type_bytes IsPlain h.value.typed h.is_one.plain, h.is);
    }) stuck

-- ---- where no key goes on

prefix_cases : (xs ys zs ws : List ℕ) → xs ++ ys ≡ zs ++ ws → ((q : List ℕ) × (zs ≡ xs ++ q)) ⊎ ((q : List ℕ) × (xs ≡ zs ++ q))
prefix_cases [] ys zs ws e = inl (zs, refl)
prefix_cases (x ∷ xs) ys [] ws e = inr (x ∷ xs, refl)
prefix_cases (x ∷ xs) ys (z ∷ zs) ws e =
    let first : x ≡ z = cc in
    let after : xs ++ ys ≡ zs ++ ws = cc in
    longer (prefix_cases xs ys zs ws after) first
  where
    longer : ((q : List ℕ) × (zs ≡ xs ++ q)) ⊎ ((q : List ℕ) × (xs ≡ zs ++ q)) → x ≡ z → ((q : List ℕ) × (z ∷ zs ≡ x ∷ (xs ++ q))) ⊎ ((q : List ℕ) × (x ∷ xs ≡ z ∷ (zs ++ q)))
    longer (inl h) e = inl (h.0, ap₂ (λ b bs. b ∷ bs) (sym e) h.1)
    longer (inr h) e = inr (h.0, ap₂ (λ b bs. b ∷ bs) e h.1)

pub inside : (n : ℕ) (xs : List ℕ) (b : ℕ) (now : List ℕ) → drop n xs ≡ b ∷ now → (n < length xs) × (take (suc n) xs ≡ take n xs ++ b ∷ [])
inside zero [] b now e = absurd (cc)
inside zero (x ∷ xs) b now e = let first : x ≡ b = cc in (omega arith, ap (λ c. c ∷ []) first)
inside (suc n) [] b now e = absurd (cc)
inside (suc n) (x ∷ xs) b now e = let w = inside n xs b now e in (omega (arith, w.0), ap (λ ys. x ∷ ys) w.1)

-- the offset where no key goes on is where the bytes are stuck
pub bad_stuck : (IsOne Is : List ℕ → Type 0) (bytes : List ℕ) (place : ℕ) → ((s : List ℕ) → IsOne s → Is s) → ((s : List ℕ) → Is s → IsOne s) → (s : List ℕ) × IsOne s → IsFirstBad IsOne bytes place
    → IsStuck Is bytes (drop place bytes)
bad_stuck IsOne Is bytes place to from some bad =
    let begun = either bad.before in
    record {
      done = take place bytes;
      split = take-then place bytes;
      more = begun.0;
      begins = begun.1;
      none = λ s zs rest h alike e. none s zs rest (drop place bytes) h refl alike e;
    }
  where
    begins : (k : List ℕ) → ((q : List ℕ) × (k ≡ take place bytes ++ q)) ⊎ ((q : List ℕ) × (take place bytes ≡ k ++ q)) → IsOne k → (more : List ℕ) × Is (take place bytes ++ more)
    begins k (inl h) one = (h.0, subst Is h.1 (to k one))
    begins k (inr h) one = absurd (bad.no_key k (h.0 ++ drop place bytes) one (take-then place bytes ∙ ap (λ xs. xs ++ drop place bytes) h.1 ∙ append_assoc k h.0 (drop place bytes)))

    either : (place ≡ 0) ⊎ MayBegin IsOne (take place bytes) → (more : List ℕ) × Is (take place bytes ++ more)
    either (inl first) = (some.0, subst (λ n. Is (take n bytes ++ some.0)) (sym first) (to some.0 some.1))
    either (inr b) = begins b.key (prefix_cases (take place bytes) b.more b.key b.rest b.is) b.is_one

    none : (s zs rest now : List ℕ) → Is s → drop place bytes ≡ now → BeginAlike now zs → take place bytes ++ zs ≡ s ++ rest → ⊥
    none s [] rest [] h d alike e = bad.no_key s rest (from s h) (take-then place bytes ∙ ap (λ xs. take place bytes ++ xs) d ∙ e)
    none s (z ∷ zs) rest [] h d alike e = alike
    none s [] rest (b ∷ now) h d alike e = alike
    none s (z ∷ zs) rest (b ∷ now) h d alike e =
        let w = inside place bytes b now d in
        bad.bad w.0
        (record {
          key = s;
          more = zs;
          rest = rest;
          is_one = from s h;
          is = ap (λ xs. xs ++ zs) w.1 ∙ append_assoc (take place bytes) (b ∷ []) zs ∙ ap (λ c. take place bytes ++ c ∷ zs) alike ∙ e;
        })

-- no key of the type goes on
pub no_key : (o : SortOptions) (t : TypeTree) (bytes : List ℕ) (place : ℕ) → o ≡ ascending → IsPlain t → IsFirstBad (IsKeyOf o t) bytes place → IsStuck (IsKeyOfType t) bytes (drop place bytes)
no_key o t bytes place e plain bad =
    bad_stuck (IsKeyOf ascending t) (IsKeyOfType t) bytes place
    (λ s h. record { value = h.value; is_value = h.begins.value; is = h.begins.is ∙ append-nil (key_with ascending (content h.value)) ∙ key-ascending (content h.value) })
    (λ s h. record { value = h.value; begins = record { value = h.is_value; is = h.is ∙ sym (key-ascending (content h.value)) ∙ sym (append-nil (key_with ascending (content h.value))) } })
    (some_key t plain)
    (subst (λ p. IsFirstBad (IsKeyOf p t) bytes place) e bad)

pub drop_front : (xs ys : List ℕ) → drop (length xs) (xs ++ ys) ≡ ys
drop_front [] ys = refl
drop_front (x ∷ xs) ys = drop_front xs ys

-- the key of this value came first
pub key_came : (o : SortOptions) (t : TypeTree) (bytes : List ℕ) (x : Scalar) (n : ℕ) → o ≡ ascending → IsDecoded o t bytes x n
    → (n ≤ length bytes) × IsValueOf t (scalar_raw x) × (bytes ≡ key (scalar_content x) ++ drop n bytes)
key_came o t bytes x n e h =
    let k : key_with o (scalar_content x) ≡ key (scalar_content x) = ap (λ p. key_with p (scalar_content x)) e ∙ key-ascending (scalar_content x) in
    let is : bytes ≡ key (scalar_content x) ++ h.rest = h.begins.is ∙ ap (λ xs. xs ++ h.rest) k in
    let count : n ≡ length (key (scalar_content x)) = h.count ∙ ap length k in
    let rest : drop n bytes ≡ h.rest = ap₂ drop count is ∙ drop_front (key (scalar_content x)) h.rest in
    let long = ap length is ∙ length-append (key (scalar_content x)) h.rest in
    (omega arith, h.begins.value, is ∙ ap (λ xs. key (scalar_content x) ++ xs) (sym rest))

-- the type, and then a value of it
pub literal_answer : (t : TypeTree) (r : Result Scalar FilterDecodeError) (old mid now : List ℕ) → HasRead type_bytes IsPlain t old mid → ReadsKey t r mid now → Reads literal_bytes IsLiteral cell_of r old now
literal_answer t (Ok x) old mid now h g = literal_read t x (cell_of x) old mid now refl refl h g.0 g.1 g.2
literal_answer t (Err e) old mid now h g = λ bad. key_stuck t old mid now h (g bad)

-- a value that was read is valid for its type
pub key_valid : (t : TypeTree) (r : Result Scalar FilterDecodeError) (old now : List ℕ) → ReadsKey t r old now → IfOk r IsValid
key_valid t (Ok x) old now h = subst (λ (s : TypeTree). Valid s (scalar_raw x)) (sym h.0) h.1.valid
key_valid t (Err e) old now h = tt
