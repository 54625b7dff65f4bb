-- The bytes of types: which type each is, and where none goes on.
use Rattle.std.proofs.Common.{◌≡◌, ℕ, List, [], ◌∷◌, ◌++◌, drop, Some, None, append_assoc, refl, sym, ap, ◌∙◌}
use Rattle.std.proofs.lemmas.Option.{same_Some}
use Rattle.vortex_dtype.specs.Lemmas.TypeLevels.{type_of-Null, type_of-Bool, type_of-Primitive, type_of-Utf8, type_of-Binary, type_of-List, type_of-FixedSizeList, type_of-Map, type_of-Struct, type_of-Union, type_of-Variant, type_of-Extension}
use Rattle.vortex_dtype.specs.TypeTree.{TypeTree, null_type, bool_type, integer_type, utf8_type, binary_type, extension_type}
use Rattle.vortex_dtype.specs.declared.nullability.Nullability.{Nullability}
use Rattle.vortex_dtype.specs.declared.nullability.Nullability.TheVariants.{NonNullable, Nullable}
use Rattle.vortex_dtype.specs.declared.ptype.PType.{PType}
use Rattle.vortex_dtype.specs.declared.ptype.PType.TheVariants.{U8, U16, U32, U64, I8, I16, I32, I64}
use Rattle.vortex_value.specs.TypesWithin.{HasNoVariant}
use Rattle.vortex_value.specs.Values.Content.{text, string}
use Rattle.vortex_row.specs.Keys.{key}
use Rattle.vortex_row.proofs.ApartLaws.{key-apart}
use Rattle.filter_encoding.specs.Encoding.{HasByte, IsPlain, IsPlainExtension, byte_string, extension_bytes, type_byte, type_bytes}
use Rattle.filter_encoding.specs.Steps.{type_at}
use Rattle.filter_encoding.specs.Strings.{HasRead, IsEncodingOf, IsStuck}
use Rattle.filter_encoding.proofs.Stuck.{AreApart, encoding_of, none_byte, none_end, stuck_here}

-- the tree of each kind of type
pub ruleset levels = (type_of-Null, type_of-Bool, type_of-Primitive, type_of-Utf8, type_of-Binary, type_of-List, type_of-FixedSizeList, type_of-Map, type_of-Struct, type_of-Union, type_of-Variant, type_of-Extension)

-- ---- from bytes

integer_back : (k : PType) (n : Nullability) → type_at (type_byte (integer_type k n)) ≡ Some (integer_type k n)
integer_back U8 NonNullable = refl
integer_back U16 NonNullable = refl
integer_back U32 NonNullable = refl
integer_back U64 NonNullable = refl
integer_back I8 NonNullable = refl
integer_back I16 NonNullable = refl
integer_back I32 NonNullable = refl
integer_back I64 NonNullable = refl
integer_back U8 Nullable = refl
integer_back U16 Nullable = refl
integer_back U32 Nullable = refl
integer_back U64 Nullable = refl
integer_back I8 Nullable = refl
integer_back I16 Nullable = refl
integer_back I32 Nullable = refl
integer_back I64 Nullable = refl

pub type_back : (t : TypeTree) → HasByte t → type_at (type_byte t) ≡ Some t
type_back null_type h = refl
type_back (integer_type k n) h = integer_back k n
type_back (bool_type NonNullable) h = refl
type_back (bool_type Nullable) h = refl
type_back (utf8_type NonNullable) h = refl
type_back (utf8_type Nullable) h = refl
type_back (binary_type NonNullable) h = refl
type_back (binary_type Nullable) h = refl
type_back _ h = absurd h

pub first_same : (b c : ℕ) (xs ys : List ℕ) → b ∷ xs ≡ c ∷ ys → (b ≡ c) × (xs ≡ ys)
first_same b c xs ys e = (cc, cc)

-- two types with one byte are one
pub one_type : (t u : TypeTree) → HasByte t → HasByte u → type_byte t ≡ type_byte u → t ≡ u
one_type t u h g e = same_Some t u (sym (type_back t h) ∙ ap type_at e ∙ type_back u g)

-- ---- bytes and extensions

-- how a type is written
pub data Form (t : TypeTree) : Type 0 where
  by_byte : HasByte t → type_bytes t ≡ byte_string t → Form t
  by_extension : (id metadata : List ℕ) (u : TypeTree) → t ≡ extension_type id metadata u → IsPlainExtension id metadata u → Form t

pub form : (t : TypeTree) → IsPlain t → Form t
form (extension_type id metadata u) h = by_extension id metadata u refl h
form _ h = by_byte h refl

pub plain_of : (t : TypeTree) → HasByte t → IsPlain t
plain_of (extension_type id metadata u) h = absurd h
plain_of _ h = h

pub plain_bytes : (t : TypeTree) → HasByte t → type_bytes t ≡ byte_string t
plain_bytes (extension_type id metadata u) h = absurd h
plain_bytes _ h = refl

not_none : (t : TypeTree) → Some t ≡ None → ⊥
not_none t e = cc

-- the byte of a type is no extension's
pub no_extension : (t : TypeTree) → HasByte t → type_byte t ≡ 32 → ⊥
no_extension t h e = not_none t (sym (type_back t h) ∙ ap type_at e)

one_text : (id jd : List ℕ) → text id ≡ text jd → id ≡ jd
one_text id jd e = cc

one_string : (m n : List ℕ) → string m ≡ string n → m ≡ n
one_string m n e = cc

parts_of : (a b c xs : List ℕ) → (a ++ (b ++ c)) ++ xs ≡ a ++ (b ++ (c ++ xs))
parts_of a b c xs = append_assoc a (b ++ c) xs ∙ ap (λ l. a ++ l) (append_assoc b c xs)

extensions_apart : (id jd m n : List ℕ) (u v : TypeTree) (xs ys : List ℕ) → IsPlainExtension id m u → IsPlainExtension jd n v → extension_bytes id m u ++ xs ≡ extension_bytes jd n v ++ ys
    → (extension_type id m u ≡ extension_type jd n v) × (xs ≡ ys)
extensions_apart id jd m n u v xs ys h g e =
    let after = (first_same 32 32 ((key (text id) ++ (key (string m) ++ byte_string u)) ++ xs) ((key (text jd) ++ (key (string n) ++ byte_string v)) ++ ys) e).1 in
    let names = key-apart (text id) (text jd) (key (string m) ++ (byte_string u ++ xs)) (key (string n) ++ (byte_string v ++ ys)) tt h.id_held g.id_held
    (sym (parts_of (key (text id)) (key (string m)) (byte_string u) xs) ∙ after ∙ parts_of (key (text jd)) (key (string n)) (byte_string v) ys) in
    let details = key-apart (string m) (string n) (byte_string u ++ xs) (byte_string v ++ ys) tt h.metadata_held g.metadata_held names.1 in
    let stored = first_same (type_byte u) (type_byte v) xs ys details.1 in
    let a : id ≡ jd = one_text id jd names.0 in
    let b : m ≡ n = one_string m n details.0 in
    let c : u ≡ v = one_type u v h.stored g.stored stored.0 in
    ((λ i. extension_type (a i) (b i) (c i)), stored.1)

apart_by : (t u : TypeTree) (xs ys : List ℕ) → Form t → Form u → type_bytes t ++ xs ≡ type_bytes u ++ ys → (t ≡ u) × (xs ≡ ys)
apart_by t u xs ys (by_byte h a) (by_byte g b) e =
    let w = first_same (type_byte t) (type_byte u) xs ys (ap (λ l. l ++ xs) (sym a) ∙ e ∙ ap (λ l. l ++ ys) b) in
    (one_type t u h g w.0, w.1)
apart_by t u xs ys (by_byte h a) (by_extension jd n v is g) e =
    absurd (no_extension t h (first_same (type_byte t) 32 xs ((key (text jd) ++ (key (string n) ++ byte_string v)) ++ ys) (ap (λ l. l ++ xs) (sym a) ∙ e ∙ ap (λ s. type_bytes s ++ ys) is)).0)
apart_by t u xs ys (by_extension id m r is h) (by_byte g b) e =
    absurd (no_extension u g (sym (first_same 32 (type_byte u) ((key (text id) ++ (key (string m) ++ byte_string r)) ++ xs) ys (ap (λ s. type_bytes s ++ xs) (sym is) ∙ e ∙ ap (λ l. l ++ ys) b)).0))
apart_by t u xs ys (by_extension id m r is h) (by_extension jd n v are g) e =
    let w = extensions_apart id jd m n r v xs ys h g (ap (λ s. type_bytes s ++ xs) (sym is) ∙ e ∙ ap (λ s. type_bytes s ++ ys) are) in
    (is ∙ w.0 ∙ sym are, w.1)

pub types_apart : AreApart type_bytes IsPlain
types_apart = record { apart = λ t u xs ys h g e. apart_by t u xs ys (form t h) (form u g) e }

-- ---- where none goes on

some_type : (s : List ℕ) × IsEncodingOf byte_string HasByte s
some_type = (byte_string null_type, encoding_of byte_string HasByte null_type tt)

pub no_type : (byte : ℕ) (old more : List ℕ) → old ≡ byte ∷ more → type_at byte ≡ None → IsStuck (IsEncodingOf byte_string HasByte) old old
no_type byte old more e none =
    stuck_here (IsEncodingOf byte_string HasByte) old some_type
    (none_byte (IsEncodingOf byte_string HasByte) byte old more e
    (λ s zs rest h f.
    let w = first_same byte (type_byte h.value) zs rest (f ∙ ap (λ xs. xs ++ rest) h.is) in
    not_none h.value (sym (type_back h.value h.is_one) ∙ ap type_at (sym w.0) ∙ none)))

no_empty : (h : IsEncodingOf byte_string HasByte []) → ⊥
no_empty h = let e = h.is in cc

pub type_missing : (old : List ℕ) → old ≡ [] → IsStuck (IsEncodingOf byte_string HasByte) old old
type_missing old e = stuck_here (IsEncodingOf byte_string HasByte) old some_type (none_end (IsEncodingOf byte_string HasByte) old e no_empty)

-- ---- such types

byte_ordered : (t : TypeTree) → HasByte t → HasNoVariant t
byte_ordered null_type h = tt
byte_ordered (integer_type k n) h = tt
byte_ordered (bool_type n) h = tt
byte_ordered (utf8_type n) h = tt
byte_ordered (binary_type n) h = tt
byte_ordered _ h = absurd h

pub plain_ordered : (t : TypeTree) → IsPlain t → HasNoVariant t
plain_ordered (extension_type id metadata u) h = byte_ordered u h.stored
plain_ordered null_type h = tt
plain_ordered (integer_type k n) h = tt
plain_ordered (bool_type n) h = tt
plain_ordered (utf8_type n) h = tt
plain_ordered (binary_type n) h = tt
plain_ordered _ h = absurd h

pub type_read : (byte : ℕ) (t : TypeTree) (old now : List ℕ) → (more : List ℕ) × (old ≡ byte ∷ more) → HasByte t × (type_byte t ≡ byte) → now ≡ drop 1 old → HasRead byte_string HasByte t old now
type_read byte t old now h is e = record { is_one = is.0; is = h.1 ∙ ap (λ b. b ∷ h.0) (sym is.1) ∙ ap (λ xs. type_byte t ∷ xs) (sym (e ∙ ap (drop 1) h.1)) }

pub a_type : IsPlain null_type
a_type = tt
