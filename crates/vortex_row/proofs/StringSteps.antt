-- Steps of the reading of a string, byte by byte.
use Rattle.std.proofs.Common.{◌≡◌, ◌≢◌, ℕ, zero, suc, ◌+◌, ◌<◌, ◌≤◌, ◌==◌, ◌||◌, inl, inr, Bool, true, false, List, [], ◌∷◌, ◌++◌, IsAscii, IsUtf8, length, length-append, take, drop, get_or, refl, sym, subst, ap, ap₂, ◌∙◌, append_assoc, append-nil, arith}
use Rattle.std.proofs.lemmas.Str.{IsUtf8-from_ascii}
use Rattle.std.proofs.lemmas.Str.Ascii.{IsAscii-cons}
use Rattle.vortex_row.specs.Held.{AreBytes}
use Rattle.vortex_row.specs.Keys.{escape, escaped, inverted}
use Rattle.vortex_row.specs.Reading.{BeginsWithOne, ContinueWith, IsStuck}
use Rattle.vortex_row.specs.Strings.{AreCharacters, HasString, IsAny, IsEscaped, IsHalfEscaped}
use Rattle.vortex_value.specs.Values.Content.{string}
use Rattle.vortex_row.proofs.ApartLaws.{key-apart}
use Rattle.vortex_row.proofs.ByteLaws.{bytes_first, bytes_rest, inverted-length}
use Rattle.vortex_row.proofs.ReaderSteps.{take-bytes, take-length}
use Rattle.vortex_row.proofs.StuckLaws.{NoneHere, Some, continue-itself, continue-then, none-byte, none-end, not-stuck, stuck-here, stuck-later}
use Rattle.vortex_row.proofs.TextSteps.{Follow, continue-end, continue-half, continue-plain, continue-second, escaped-some, none-second, plain-byte}

any-follows : (b : ℕ) → Follow IsAny b IsAny
any-follows b s = ((λ h. h), (λ h. h))

-- a byte, written as one or as two
pub continue-byte : (b : ℕ) → b < 256 → ContinueWith (escape b) (IsEscaped IsAny) (IsEscaped IsAny)
continue-byte zero h =
    continue-then (1 ∷ []) (1 ∷ []) (IsEscaped IsAny) (IsHalfEscaped IsAny) (IsEscaped IsAny) (continue-half IsAny IsAny (any-follows 0) (any-follows 1)) (continue-second IsAny 1 (inl refl))
continue-byte (suc zero) h =
    continue-then (1 ∷ []) (2 ∷ []) (IsEscaped IsAny) (IsHalfEscaped IsAny) (IsEscaped IsAny) (continue-half IsAny IsAny (any-follows 0) (any-follows 1)) (continue-second IsAny 2 (inr refl))
continue-byte (suc (suc b)) h = continue-plain IsAny IsAny (suc (suc b)) (omega arith) h (any-follows (suc (suc b)))

-- the bytes of a string, without its end
abbrev pub escaped_bytes : List ℕ → List ℕ
escaped_bytes [] = []
escaped_bytes (b ∷ bs) = escape b ++ escaped_bytes bs

pub continue-bytes : (bs : List ℕ) → AreBytes bs → ContinueWith (escaped_bytes bs) (IsEscaped IsAny) (IsEscaped IsAny)
continue-bytes [] h = continue-itself (IsEscaped IsAny)
continue-bytes (b ∷ bs) h =
    continue-then (escape b) (escaped_bytes bs) (IsEscaped IsAny) (IsEscaped IsAny) (IsEscaped IsAny) (continue-byte b (bytes_first b bs h)) (continue-bytes bs (bytes_rest b bs h))

pub escaped-end : (bs : List ℕ) → escaped bs ≡ escaped_bytes bs ++ 0 ∷ []
escaped-end [] = refl
escaped-end (b ∷ bs) = ap (λ xs. escape b ++ xs) (escaped-end bs) ∙ sym (append_assoc (escape b) (escaped_bytes bs) (0 ∷ []))

pub escaped-more : (bs : List ℕ) (b : ℕ) → escaped_bytes (bs ++ b ∷ []) ≡ escaped_bytes bs ++ escape b
escaped-more [] b = append-nil (escape b)
escaped-more (c ∷ bs) b = ap (λ xs. escape c ++ xs) (escaped-more bs b) ∙ sym (append_assoc (escape c) (escaped_bytes bs) (escape b))

-- there is always a way on

pub some-escaped : Some (IsEscaped IsAny)
some-escaped = (0 ∷ [], continue-end IsAny tt)

pub some-half : Some (IsHalfEscaped IsAny)
some-half = (1 ∷ 0 ∷ [], record { second = 1; either = inl refl; more = 0 ∷ []; escaped = continue-end IsAny tt; is = refl })

pub none-escaped : (now : List ℕ) → now ≡ [] → NoneHere (IsEscaped IsAny) now
none-escaped now e = none-end (IsEscaped IsAny) now e (λ h. escaped-some h.string h.is)

-- steps

-- no second byte
pub half-stuck : (old : List ℕ) → ((bs : List ℕ) → old ≢ 1 ∷ bs) → ((bs : List ℕ) → old ≢ 2 ∷ bs) → IsStuck (IsHalfEscaped IsAny) old old
half-stuck [] h k = stuck-here (IsHalfEscaped IsAny) [] (none-end (IsHalfEscaped IsAny) [] refl (λ p. let e = p.is in absurd (cc)))
half-stuck (b ∷ old) h k =
    stuck-here (IsHalfEscaped IsAny) (b ∷ old) (none-byte (IsHalfEscaped IsAny) b (b ∷ old) old refl
    (none-second IsAny b (λ e. h old (ap (λ c. c ∷ old) e)) (λ e. k old (ap (λ c. c ∷ old) e))))

pub half-stuck_at : (old now : List ℕ) → now ≡ old → ((bs : List ℕ) → old ≢ 1 ∷ bs) → ((bs : List ℕ) → now ≢ 2 ∷ bs) → IsStuck (IsHalfEscaped IsAny) old now
half-stuck_at old now e h k = subst (λ xs. IsStuck (IsHalfEscaped IsAny) old xs) (sym e) (half-stuck old h (λ bs f. k bs (e ∙ f)))

-- the first byte of two, and no second one
pub escape-stuck : (old mid now : List ℕ) → old ≡ 1 ∷ mid → IsStuck (IsHalfEscaped IsAny) mid now → IsStuck (IsEscaped IsAny) old now
escape-stuck old mid now e h =
    stuck-later (1 ∷ []) (IsEscaped IsAny) (IsHalfEscaped IsAny) old mid now (continue-half IsAny IsAny (any-follows 0) (any-follows 1)) e some-half h

pub byte-missing : (old : List ℕ) → old ≡ [] → IsStuck (IsEscaped IsAny) old old
byte-missing old e = stuck-here (IsEscaped IsAny) old (none-escaped old e)

-- after some bytes
pub later-stuck : (bs old mid now : List ℕ) → AreBytes bs → old ≡ escaped_bytes bs ++ mid → IsStuck (IsEscaped IsAny) mid now → IsStuck (IsEscaped IsAny) old now
later-stuck bs old mid now h e stuck = stuck-later (escaped_bytes bs) (IsEscaped IsAny) (IsEscaped IsAny) old mid now (continue-bytes bs h) e some-escaped stuck

pub string-ends : (bs old mid now : List ℕ) → AreBytes bs → old ≡ escaped_bytes bs ++ mid → mid ≡ 0 ∷ now → HasString IsAny bs old now
string-ends bs old mid now h e f = record {
  kind = tt;
  bytes = h;
  is = e ∙ ap (λ xs. escaped_bytes bs ++ xs) f ∙ sym (append_assoc (escaped_bytes bs) (0 ∷ []) now) ∙ ap (λ xs. xs ++ now) (sym (escaped-end bs));
}

pub string-more : (bs more old mid now : List ℕ) (b : ℕ) → old ≡ escaped_bytes bs ++ mid → mid ≡ escape b ++ now → more ≡ bs ++ b ∷ [] → old ≡ escaped_bytes more ++ now
string-more bs more old mid now b e f g =
    e ∙ ap (λ xs. escaped_bytes bs ++ xs) f ∙ sym (append_assoc (escaped_bytes bs) (escape b) now) ∙ ap (λ xs. xs ++ now) (sym (ap escaped_bytes g ∙ escaped-more bs b))

-- a string without bytes that are written as two

plain-bytes : (bs : List ℕ) (end : ℕ) → end < length bs → ((k : ℕ) → k < end → 2 ≤ get_or bs k 0) → get_or bs end 0 ≡ 0 → bs ≡ escaped (take end bs) ++ drop (suc end) bs
plain-bytes [] end h plain e = absurd (omega arith)
plain-bytes (b ∷ bs) zero h plain e = ap (λ c. c ∷ bs) e
plain-bytes (b ∷ bs) (suc end) h plain e =
    let tail = plain-bytes bs end (omega arith) (λ k less. plain (suc k) (omega arith)) e in
    let two : 2 ≤ b = plain 0 (omega arith) in
    ap (λ xs. b ∷ xs) tail ∙ ap (λ xs. (xs ++ escaped (take end bs)) ++ drop (suc end) bs) (sym (plain-byte b two))

pub plain-found : (bs word : List ℕ) (end : ℕ) → AreBytes bs → end < length bs → ((k : ℕ) → k < end → 2 ≤ get_or bs k 0) → get_or bs end 0 ≡ 0 → word ≡ take end bs
    → HasString IsAny word bs (drop (length word + 1) bs)
plain-found bs word end bytes h plain e is =
    let long : length word + 1 ≡ suc end = let count = ap length is ∙ take-length end bs (omega arith) in omega arith in
    record {
      kind = tt;
      bytes = subst AreBytes (sym is) (take-bytes end bs bytes);
      is = plain-bytes bs end h plain e ∙ ap₂ (λ s n. escaped s ++ drop n bs) (sym is) (sym long);
    }

pub plain-read : {IsOne : List ℕ → Type 0} (d : Bool) (word bs old now : List ℕ) → d ≡ false → HasString IsOne word bs (drop (length word + 1) bs) → old ≡ inverted d bs → now ≡ drop (length word + 1) old → HasString IsOne word old now
plain-read true word bs old now e h f g = absurd (cc)
plain-read false word bs old now e h f g = record { kind = h.kind; bytes = h.bytes; is = f ∙ h.is ∙ ap (λ xs. escaped word ++ xs) (sym (g ∙ ap (drop (length word + 1)) f)) }

escaped-longer : (bs : List ℕ) → length bs + 1 ≤ length (escaped bs)
escaped-longer [] = omega arith
escaped-longer (zero ∷ bs) = let rest = escaped-longer bs in omega arith
escaped-longer (suc zero ∷ bs) = let rest = escaped-longer bs in omega arith
escaped-longer (suc (suc b) ∷ bs) = let rest = escaped-longer bs in omega arith

pub plain-within : {IsOne : List ℕ → Type 0} (d : Bool) (word bs now : List ℕ) → HasString IsOne word bs now → length word + 1 ≤ length (inverted d bs)
plain-within d word bs now h =
    let more = escaped-longer word in
    let all = ap length h.is in
    let parts = length-append (escaped word) now in
    let long = inverted-length d bs in
    omega arith

-- a byte that is neither 0 nor 1
pub not_special : (b : ℕ) → ¬ ((b == 0 || b == 1) ≡ true) → 2 ≤ b
not_special zero h = absurd (h refl)
not_special (suc zero) h = absurd (h refl)
not_special (suc (suc b)) h = omega arith

-- texts

-- strings with one escaped encoding are one
same-string : (bs cs xs ys : List ℕ) → AreBytes bs → AreBytes cs → escaped bs ++ xs ≡ escaped cs ++ ys → bs ≡ cs
same-string bs cs xs ys h k e =
    let one = key-apart (string bs) (string cs) xs ys tt h k (ap (λ zs. 22 ∷ zs) e) in
    let same = one.0 in
    cc

-- what was read is no text, so no text was there
pub no-text : (bs old now : List ℕ) → HasString IsAny bs old now → ¬ (IsUtf8 bs) → ¬ (BeginsWithOne (IsEscaped IsUtf8) old)
no-text bs old now h no_utf8 text =
    let is = text.is_one.is in
    let same = same-string bs text.is_one.string now text.rest h.bytes text.is_one.bytes (sym h.is ∙ text.is ∙ ap (λ zs. zs ++ text.rest) is) in
    no_utf8 (subst IsUtf8 (sym same) text.is_one.kind)

-- and a text is a string
pub no-string : (old now : List ℕ) → IsStuck (IsEscaped IsAny) old now → ¬ (BeginsWithOne (IsEscaped IsUtf8) old)
no-string old now stuck text =
    let e = text.is_one in
    not-stuck (IsEscaped IsAny) old now text.string text.rest stuck (record { string = e.string; kind = tt; bytes = e.bytes; is = e.is }) text.is

pub text-read : (bs old now : List ℕ) → HasString IsAny bs old now → IsUtf8 bs → HasString IsUtf8 bs old now
text-read bs old now h utf8 = record { kind = utf8; bytes = h.bytes; is = h.is }

-- a plain string that is one
pub plain-text : (word text bs : List ℕ) → HasString IsAny word bs (drop (length word + 1) bs) → text ≡ word → IsUtf8 word → HasString IsUtf8 text bs (drop (length text + 1) bs)
plain-text word text bs h e utf8 = subst (λ w. HasString IsUtf8 w bs (drop (length w + 1) bs)) (sym e) (text-read word bs (drop (length word + 1) bs) h utf8)

-- a text of ASCII alone

pub ascii-before : (bs : List ℕ) (end : ℕ) → AreCharacters bs end → IsAscii (take end bs)
ascii-before bs zero h = λ i. omega arith
ascii-before [] (suc end) h = λ i. omega arith
ascii-before (b ∷ bs) (suc end) h = IsAscii-cons b (take end bs) (h 0 (omega arith)).1 (ascii-before bs end (λ k less. h (suc k) (omega arith)))

pub ascii-found : (bs word : List ℕ) (end : ℕ) → AreBytes bs → end < length bs → AreCharacters bs end → get_or bs end 0 ≡ 0 → word ≡ take end bs → HasString IsUtf8 word bs (drop (length word + 1) bs)
ascii-found bs word end bytes h plain e is =
    text-read word bs (drop (length word + 1) bs) (plain-found bs word end bytes h (λ k less. (plain k less).0) e is) (subst IsUtf8 (sym is) (IsUtf8-from_ascii (take end bs) (ascii-before bs end plain)))

pub ruleset texts = (plain-text)

pub ruleset bytes = (half-stuck_at, escape-stuck, byte-missing)

pub ruleset strings = (later-stuck, string-ends, string-more, no-text, no-string, text-read)

pub ruleset plain = (plain-within)
