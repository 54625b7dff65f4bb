-- Extensions: what comes after their first byte, and where it does not go on.
use Rattle.std.proofs.Common.{◌≡◌, ◌≢◌, ℕ, List, [], ◌∷◌, ◌++◌, refl, sym, subst, ap, ap₂, ◌∙◌}
use Rattle.std.specs.Prelude.{Err, Ok, Result}
use Rattle.vortex_dtype.specs.TypeOf.{type_of}
use Rattle.vortex_dtype.specs.TypeTree.{TypeTree, null_type, utf8_type, binary_type, extension_type}
use Rattle.vortex_dtype.specs.declared.nullability.Nullability.TheVariants.{NonNullable}
use Rattle.vortex_dtype.specs.declared.types.DType.{DType}
use Rattle.vortex_value.specs.Validity.{Valid}
use Rattle.vortex_value.specs.Values.Content.{Content, content, text, string}
use Rattle.vortex_value.specs.Values.RawTree.{RawTree, absent, raw_bytes, raw_text}
use Rattle.vortex_row.specs.Held.{IsHeld}
use Rattle.vortex_row.specs.Keys.{key}
use Rattle.vortex_row.proofs.ApartLaws.{key-apart}
use Rattle.vortex_row.proofs.KeyLaws.{values_have_no_typed}
use Rattle.vortex_row.proofs.PartSteps.{some_value}
use Rattle.filter_encoding.specs.Encoding.{HasByte, IsPlain, IsPlainExtension, byte_string, extension_bytes, type_byte, type_bytes}
use Rattle.filter_encoding.specs.Steps.{IsKeyOfType, ReadsByte, ReadsType, Writes}
use Rattle.filter_encoding.specs.Strings.{BeginAlike, IsEncodingOf, IsStuck, Then}
use Rattle.filter_encoding.specs.declared.error.FilterEncodingError.{FilterEncodingError}
use Rattle.filter_encoding.specs.declared.reader.FilterDecodeError.{FilterDecodeError}
use Rattle.filter_encoding.proofs.Stuck.{AreAlone, GoesOn, encoding_of, stuck_later, stuck_within, then_begins, then_goes_on}
use Rattle.filter_encoding.proofs.TypeLaws.{Form, by_byte, by_extension, first_same, form, no_extension, plain_bytes, plain_of, plain_ordered}
use Rattle.filter_encoding.proofs.WriteSteps.{written_as}

abbrev Types : List ℕ → Type 0
Types = IsEncodingOf type_bytes IsPlain

abbrev Bytes : List ℕ → Type 0
Bytes = IsEncodingOf byte_string HasByte

abbrev texts : TypeTree
texts = utf8_type NonNullable

abbrev strings : TypeTree
strings = binary_type NonNullable

abbrev Metadata : List ℕ → Type 0
Metadata = Then (IsKeyOfType strings) Bytes

abbrev Extended : List ℕ → Type 0
Extended = Then (IsKeyOfType texts) Metadata

-- ---- values of these two types

pub text_value : (v : RawTree) → Valid texts v → (bs : List ℕ) × (v ≡ raw_text bs)
text_value (raw_text bs) h = (bs, refl)
text_value absent h = absurd cc
text_value _ h = absurd h

pub string_value : (v : RawTree) → Valid strings v → (bs : List ℕ) × (v ≡ raw_bytes bs)
string_value (raw_bytes bs) h = (bs, refl)
string_value absent h = absurd cc
string_value _ h = absurd h

-- what begins with two keys of a type goes on alike
keys_alone : (t : TypeTree) → IsPlain t → AreAlone (IsKeyOfType t)
keys_alone t plain = record {
  alone = λ s r xs ys h g e.
      (key-apart (content h.value) (content g.value) xs ys (values_have_no_typed t h.value (plain_ordered t plain) h.is_value.valid) h.is_value.held g.is_value.held
      (ap (λ l. l ++ xs) (sym h.is) ∙ e ∙ ap (λ l. l ++ ys) g.is)).1;
}

text_key : (bs : List ℕ) → IsHeld (text bs) → IsKeyOfType texts (key (text bs))
text_key bs h = record { value = raw_text bs; is_value = record { valid = tt; held = h }; is = refl }

string_key : (bs : List ℕ) → IsHeld (string bs) → IsKeyOfType strings (key (string bs))
string_key bs h = record { value = raw_bytes bs; is_value = record { valid = tt; held = h }; is = refl }

some_bytes : (s : List ℕ) × Bytes s
some_bytes = (byte_string null_type, encoding_of byte_string HasByte null_type tt)

some_metadata : (s : List ℕ) × Metadata s
some_metadata =
    let v = some_value strings tt in
    let k = key (content v.0) in
    (k ++ some_bytes.0, record { first = k; second = some_bytes.0; is_first = record { value = v.0; is_value = record { valid = v.1.kind; held = v.1.held }; is = refl }; is_second = some_bytes.1; is = refl })

-- ---- after the first byte

extension_of : (q : List ℕ) → Extended q → Types (32 ∷ q)
extension_of q h =
    let a = h.is_first in
    let b = h.is_second.is_first in
    let c = h.is_second.is_second in
    let id = text_value a.value a.is_value.valid in
    let metadata = string_value b.value b.is_value.valid in
    let i : content a.value ≡ text id.0 = ap content id.1 in
    let m : content b.value ≡ string metadata.0 = ap content metadata.1 in
    record {
      value = extension_type id.0 metadata.0 c.value;
      is_one = record { id_held = held i a.is_value.held; metadata_held = held m b.is_value.held; stored = c.is_one };
      is = ap (λ l. 32 ∷ l) (h.is ∙ ap₂ (λ xs ys. xs ++ ys) (a.is ∙ ap key i) (h.is_second.is ∙ ap₂ (λ xs ys. xs ++ ys) (b.is ∙ ap key m) c.is));
    }
  where
    held : {c d : Content} → c ≡ d → IsHeld c → IsHeld d
    held e h = subst IsHeld e h

extended_split : (zs rest : List ℕ) (t : TypeTree) → Form t → 32 ∷ zs ≡ type_bytes t ++ rest → (q : List ℕ) × Extended q × (zs ≡ q ++ rest)
extended_split zs rest t (by_byte h a) e = absurd (no_extension t h (sym (first_same 32 (type_byte t) zs rest (e ∙ ap (λ l. l ++ rest) a)).0))
extended_split zs rest t (by_extension id m u is h) e =
    let q = key (text id) ++ (key (string m) ++ byte_string u) in (
      q,
      record {
        first = key (text id);
        second = key (string m) ++ byte_string u;
        is_first = text_key id h.id_held;
        is_second = record { first = key (string m); second = byte_string u; is_first = string_key m h.metadata_held; is_second = encoding_of byte_string HasByte u h.stored; is = refl };
        is = refl;
      },
      (first_same 32 32 zs (q ++ rest) (e ∙ ap (λ s. type_bytes s ++ rest) is)).1,
    )

extension_goes_on : GoesOn (32 ∷ []) Types Extended
extension_goes_on = record {
  join = λ q h. extension_of q h;
  split = λ s zs rest h e. extended_split zs rest h.value (form h.value h.is_one) (e ∙ ap (λ l. l ++ rest) h.is);
}

-- ---- where it does not go on

later : (old now : List ℕ) → IsStuck Extended old now → IsStuck Types (32 ∷ old) now
later old now stuck = stuck_later (32 ∷ []) Types Extended (32 ∷ old) old now extension_goes_on refl stuck

behind_id : (id old mid now : List ℕ) → IsHeld (text id) → old ≡ key (text id) ++ mid → IsStuck Metadata mid now → IsStuck Types (32 ∷ old) now
behind_id id old mid now h e stuck =
    later old now (stuck_later (key (text id)) Extended Metadata old mid now (then_goes_on (IsKeyOfType texts) Metadata (key (text id)) (keys_alone texts tt) (text_key id h)) e stuck)

pub id_stuck : (old now : List ℕ) → IsStuck (IsKeyOfType texts) old now → IsStuck Types (32 ∷ old) now
id_stuck old now stuck = later old now (stuck_within (IsKeyOfType texts) Extended old now (then_begins (IsKeyOfType texts) Metadata some_metadata) stuck)

pub metadata_stuck : (id old mid now : List ℕ) → IsHeld (text id) × (old ≡ key (text id) ++ mid) → IsStuck (IsKeyOfType strings) mid now → IsStuck Types (32 ∷ old) now
metadata_stuck id old mid now a stuck =
    behind_id id old mid now a.0 a.1 (stuck_within (IsKeyOfType strings) Metadata mid now (then_begins (IsKeyOfType strings) Bytes some_bytes) stuck)

pub storage_stuck : (id m old mid here now : List ℕ) → IsHeld (text id) × (old ≡ key (text id) ++ mid) → IsHeld (string m) × (mid ≡ key (string m) ++ here) → IsStuck Bytes here now → IsStuck Types (32 ∷ old) now
storage_stuck id m old mid here now a b stuck =
    behind_id id old mid now a.0 a.1 (stuck_later (key (string m)) Metadata Bytes mid here now (then_goes_on (IsKeyOfType strings) Bytes (key (string m)) (keys_alone strings tt) (string_key m b.0)) b.1 stuck)

-- ---- types by their byte

-- what begins alike begins with the same byte
same_first : (done now zs rest : List ℕ) → BeginAlike now zs → done ++ zs ≡ 32 ∷ rest → (bs : List ℕ) × (done ++ now ≡ 32 ∷ bs)
same_first [] [] [] rest alike e = absurd (cc)
same_first [] [] (z ∷ zs) rest alike e = absurd alike
same_first [] (n ∷ ns) [] rest alike e = absurd alike
same_first [] (n ∷ ns) (z ∷ zs) rest alike e = (ns, ap (λ b. b ∷ ns) (alike ∙ (first_same z 32 zs rest e).0))
same_first (d ∷ ds) now zs rest alike e = (ds ++ now, ap (λ b. b ∷ (ds ++ now)) (first_same d 32 (ds ++ zs) rest e).0)

byte_stuck : (old now : List ℕ) → ((bs : List ℕ) → old ≢ 32 ∷ bs) → IsStuck Bytes old now → IsStuck Types old now
byte_stuck old now other stuck = record {
  done = stuck.done;
  split = stuck.split;
  more = stuck.more;
  begins = (let h = stuck.begins in record { value = h.value; is_one = plain_of h.value h.is_one; is = h.is ∙ sym (plain_bytes h.value h.is_one) });
  none = λ s zs rest h alike e. none s zs rest h.value h.is (form h.value h.is_one) alike e;
}
  where
    none : (s zs rest : List ℕ) (t : TypeTree) → s ≡ type_bytes t → Form t → BeginAlike now zs → stuck.done ++ zs ≡ s ++ rest → ⊥
    none s zs rest t is (by_byte h a) alike e = stuck.none s zs rest (record { value = t; is_one = h; is = is ∙ a }) alike e
    none s zs rest t is (by_extension id m u same h) alike e =
        let w = same_first stuck.done now zs ((key (text id) ++ (key (string m) ++ byte_string u)) ++ rest) alike (e ∙ ap (λ l. l ++ rest) is ∙ ap (λ r. type_bytes r ++ rest) same) in
        other w.0 (stuck.split ∙ w.1)

pub by_its_byte : (r : Result DType FilterDecodeError) (old mid now : List ℕ) → mid ≡ old → ((bs : List ℕ) → old ≢ 32 ∷ bs) → ReadsByte r mid now → ReadsType r old now
by_its_byte (Ok t) old mid now e other h = record { is_one = plain_of (type_of t) h.is_one; is = sym e ∙ h.is ∙ ap (λ l. l ++ now) (sym (plain_bytes (type_of t) h.is_one)) }
by_its_byte (Err d) old mid now e other h = λ bad. byte_stuck old now other (subst (λ l. IsStuck Bytes l now) e (h bad))

-- ---- writing

pub extension_written : (id m : List ℕ) (u t : TypeTree) (r : Result Unit FilterEncodingError) (old now : List ℕ) → t ≡ extension_type id m u → Writes (IsPlainExtension id m u) (extension_bytes id m u) r old now → Writes (IsPlain t) (type_bytes t) r old now
extension_written id m u t r old now is h = subst (λ (s : TypeTree). Writes (IsPlain s) (type_bytes s) r old now) (sym is) h

byte_of_plain : (t : TypeTree) → ((id m : List ℕ) (u : TypeTree) → t ≢ extension_type id m u) → Form t → HasByte t
byte_of_plain t none (by_byte h a) = h
byte_of_plain t none (by_extension id m u is h) = absurd (none id m u is)

pub no_extension_bytes : (t : TypeTree) → ((id m : List ℕ) (u : TypeTree) → t ≢ extension_type id m u) → byte_string t ≡ type_bytes t
no_extension_bytes (extension_type id m u) none = absurd (none id m u refl)
no_extension_bytes _ none = refl

pub byte_written : (t : TypeTree) (r : Result Unit FilterEncodingError) (old now : List ℕ) → ((id m : List ℕ) (u : TypeTree) → t ≢ extension_type id m u) → Writes (HasByte t) (byte_string t) r old now → Writes (IsPlain t) (type_bytes t) r old now
byte_written t r old now none h =
    written_as (HasByte t) (IsPlain t) (HasByte t) (IsPlain t) (byte_string t) (type_bytes t) r old now (plain_of t) (λ p. byte_of_plain t none (form t p)) (no_extension_bytes t none) h
