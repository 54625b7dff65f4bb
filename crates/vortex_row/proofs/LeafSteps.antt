-- Steps of the reading of values without parts.
use Rattle.std.proofs.Common.{◌≡◌, ◌≢◌, ℕ, Bool, true, false, List, [], ◌∷◌, ◌++◌, IsUtf8, refl, sym, subst, ap, ◌∙◌}
use Rattle.vortex_dtype.specs.TypeTree.{bool_type, utf8_type, binary_type}
use Rattle.vortex_dtype.specs.declared.nullability.Nullability.TheVariants.{NonNullable}
use Rattle.vortex_value.specs.Values.Content.{content}
use Rattle.vortex_value.specs.Values.RawTree.{RawTree, absent, raw_bool, raw_text, raw_bytes}
use Rattle.vortex_row.specs.Keys.{key, truth_byte, escaped}
use Rattle.vortex_row.specs.Reading.{BeginAlike, HasRead, IsKey, IsPlain, IsPresent, IsStuck}
use Rattle.vortex_row.specs.Strings.{HasString, IsAny, IsEscaped}
use Rattle.vortex_row.proofs.PartSteps.{Opens, opens-none, opens-stuck}
use Rattle.vortex_row.proofs.StringSteps.{some-escaped}
use Rattle.vortex_row.proofs.StuckLaws.{stuck-here}
use Rattle.vortex_row.proofs.TextSteps.{continue-end}
use Rattle.std.proofs.lemmas.Str.{IsUtf8-nil}

-- truth values

pub truth-read : (b : Bool) (old now : List ℕ) → old ≡ truth_byte b ∷ now → HasRead (IsPresent (bool_type NonNullable)) (raw_bool b) old now
truth-read b old now e = record { plain = record { kind = record { valid = tt; present = refl }; held = tt; untyped = tt }; is = e }

pub false-read : (old now : List ℕ) → old ≡ 2 ∷ now → HasRead (IsPresent (bool_type NonNullable)) (raw_bool false) old now
false-read old now e = truth-read false old now e

pub true-read : (old mid now : List ℕ) → mid ≡ old → mid ≡ 3 ∷ now → HasRead (IsPresent (bool_type NonNullable)) (raw_bool true) old now
true-read old mid now same e = truth-read true old now (sym same ∙ e)

a_truth : (v : RawTree) → IsPlain (IsPresent (bool_type NonNullable)) v → (b : Bool) × (v ≡ raw_bool b)
a_truth (raw_bool b) h = (b, refl)
a_truth absent h = let p = h.kind.present in absurd (cc)
a_truth _ h = absurd h.kind.valid

no_truth : (b : Bool) (old zs rest : List ℕ) → ((bs : List ℕ) → old ≢ 2 ∷ bs) → ((bs : List ℕ) → old ≢ 3 ∷ bs) → BeginAlike old zs → zs ≡ truth_byte b ∷ rest → ⊥
no_truth b [] [] rest h k alike e = cc
no_truth b [] (z ∷ zs) rest h k alike e = alike
no_truth b (x ∷ old) [] rest h k alike e = alike
no_truth false (x ∷ old) (z ∷ zs) rest h k alike e = let first : z ≡ 2 = cc in h old (ap (λ c. c ∷ old) (alike ∙ first))
no_truth true (x ∷ old) (z ∷ zs) rest h k alike e = let first : z ≡ 3 = cc in k old (ap (λ c. c ∷ old) (alike ∙ first))

pub truth-none : (old mid now : List ℕ) → mid ≡ old → now ≡ mid → ((bs : List ℕ) → old ≢ 2 ∷ bs) → ((bs : List ℕ) → mid ≢ 3 ∷ bs) → IsStuck (IsKey (IsPresent (bool_type NonNullable))) old now
truth-none old mid now same again h k =
    subst (λ xs. IsStuck (IsKey (IsPresent (bool_type NonNullable))) old xs) (sym (again ∙ same)) (stuck-here (IsKey (IsPresent (bool_type NonNullable))) old none)
  where
    none : (s zs rest : List ℕ) → IsKey (IsPresent (bool_type NonNullable)) s → BeginAlike old zs → ¬ (zs ≡ s ++ rest)
    none s zs rest p alike e =
        let (b, is) = a_truth p.value p.plain in
        no_truth b old zs rest h (λ bs f. k bs (same ∙ f)) alike (e ∙ ap (λ xs. xs ++ rest) (p.is ∙ ap (λ v. key (content v)) is))

-- strings

text-split : (v : RawTree) → IsPlain (IsPresent (utf8_type NonNullable)) v → (q : List ℕ) × IsEscaped IsUtf8 q × (key (content v) ≡ 21 ∷ q)
text-split (raw_text bs) h = (escaped bs, record { string = bs; kind = h.held.1; bytes = h.held.0; is = refl }, refl)
text-split absent h = let p = h.kind.present in absurd (cc)
text-split _ h = absurd h.kind.valid

pub text-opens : Opens (utf8_type NonNullable) 21 (IsEscaped IsUtf8)
text-opens = record {
  join = λ q h. record {
    value = raw_text h.string;
    plain = record { kind = record { valid = tt; present = refl }; held = (h.bytes, h.kind); untyped = tt };
    is = ap (λ xs. 21 ∷ xs) h.is;
  };
  split = text-split;
}

string-split : (v : RawTree) → IsPlain (IsPresent (binary_type NonNullable)) v → (q : List ℕ) × IsEscaped IsAny q × (key (content v) ≡ 22 ∷ q)
string-split (raw_bytes bs) h = (escaped bs, record { string = bs; kind = tt; bytes = h.held; is = refl }, refl)
string-split absent h = let p = h.kind.present in absurd (cc)
string-split _ h = absurd h.kind.valid

pub string-opens : Opens (binary_type NonNullable) 22 (IsEscaped IsAny)
string-opens = record {
  join = λ q h. record {
    value = raw_bytes h.string;
    plain = record { kind = record { valid = tt; present = refl }; held = h.bytes; untyped = tt };
    is = ap (λ xs. 22 ∷ xs) h.is;
  };
  split = string-split;
}

pub text-none : (old now : List ℕ) → now ≡ old → ((bs : List ℕ) → old ≢ 21 ∷ bs) → IsStuck (IsKey (IsPresent (utf8_type NonNullable))) old now
text-none old now same other = opens-none (utf8_type NonNullable) 21 (IsEscaped IsUtf8) old now text-opens same other

pub string-none : (old now : List ℕ) → now ≡ old → ((bs : List ℕ) → old ≢ 22 ∷ bs) → IsStuck (IsKey (IsPresent (binary_type NonNullable))) old now
string-none old now same other = opens-none (binary_type NonNullable) 22 (IsEscaped IsAny) old now string-opens same other

pub text-stuck : (old mid now : List ℕ) → old ≡ 21 ∷ mid → IsStuck (IsEscaped IsUtf8) mid now → IsStuck (IsKey (IsPresent (utf8_type NonNullable))) old now
text-stuck old mid now e stuck =
    opens-stuck (utf8_type NonNullable) 21 (IsEscaped IsUtf8) old mid now text-opens e (0 ∷ [], continue-end IsUtf8 IsUtf8-nil) stuck

pub string-stuck : (old mid now : List ℕ) → old ≡ 22 ∷ mid → IsStuck (IsEscaped IsAny) mid now → IsStuck (IsKey (IsPresent (binary_type NonNullable))) old now
string-stuck old mid now e stuck = opens-stuck (binary_type NonNullable) 22 (IsEscaped IsAny) old mid now string-opens e some-escaped stuck

pub text-found : (bs old mid now : List ℕ) → old ≡ 21 ∷ mid → HasString IsUtf8 bs mid now → HasRead (IsPresent (utf8_type NonNullable)) (raw_text bs) old now
text-found bs old mid now e h = record {
  plain = record { kind = record { valid = tt; present = refl }; held = (h.bytes, h.kind); untyped = tt };
  is = e ∙ ap (λ xs. 21 ∷ xs) h.is;
}

pub string-found : (bs old mid now : List ℕ) → old ≡ 22 ∷ mid → HasString IsAny bs mid now → HasRead (IsPresent (binary_type NonNullable)) (raw_bytes bs) old now
string-found bs old mid now e h = record {
  plain = record { kind = record { valid = tt; present = refl }; held = h.bytes; untyped = tt };
  is = e ∙ ap (λ xs. 22 ∷ xs) h.is;
}

pub ruleset shown = (false-read, true-read, truth-none, text-none, string-none, text-stuck, string-stuck, text-found, string-found)
