-- One character at the front or the end of a text: a byte that begins it, and bytes inside of it.
use Rattle.std.proofs.Common.{◌≡◌, ℕ, zero, suc, ◌+◌, ◌-◌, ◌<◌, ◌≤◌, ◌⊎◌, inl, inr, true, List, [], ◌∷◌, ◌++◌, length, take, drop, get_or, refl, sym, ap, ◌∙◌, subst, append_assoc, append-nil, length-append, add-zero, arith}
use Rattle.std.proofs.lemmas.Bool.{and_parts, cases_lt}
use Rattle.std.proofs.lemmas.List.{drop_at, get_or-append-add, get_or_append_left, get_or_at, take_all, take_at, take_more, take_rest}
use Rattle.std.proofs.lemmas.Str.{IsCharBoundary-start, IsUtf8-drop, IsUtf8-take, len_utf8_bounds, length-encode}
use Rattle.std.specs.Char.{IsScalar, encode_utf8}
use Rattle.std.specs.Str.{IsCharBoundary, IsUtf8, all_scalars, encode_utf8_all}
use Rattle.like_patterns.specs.Characters.{BeginsWithOne, EndsWithOne, IsInside}

-- a byte that begins a character is not inside of one
begins_it : (text : List ℕ) → IsUtf8 text → 0 < length text → IsInside (get_or text 0 0) → ⊥
begins_it text utf8 some inside =
    let lead : 192 ≤ get_or text 0 0 = (IsCharBoundary-start text utf8).1 some inside.0 in
    let below : get_or text 0 0 < 192 = inside.1 in
    omega arith

lead_of : (b : ℕ) → ¬ (IsInside b) → 128 ≤ b → (b < 192) ⊎ (192 ≤ b) → 192 ≤ b
lead_of b begins high (inl low) = absurd (begins (high, low))
lead_of b begins high (inr lead) = lead

-- where a text is cut before such a byte, or at its end
boundary_at : (text front rest : List ℕ) → text ≡ front ++ rest → (0 < length rest → ¬ (IsInside (get_or rest 0 0))) → IsCharBoundary text (length front)
boundary_at text front rest is begins =
    let long : length text ≡ length front + length rest = ap length is ∙ length-append front rest in
    let first : get_or text (length front) 0 ≡ get_or rest 0 0 =
    ap (λ (l : List ℕ). get_or l (length front) 0) is ∙ ap (λ (n : ℕ). get_or (front ++ rest) n 0) (sym (add-zero (length front))) ∙ get_or-append-add front rest 0 0 in (
      omega arith,
      λ below high.
          subst (λ (n : ℕ). 192 ≤ n) (sym first) (lead_of (get_or rest 0 0) (begins (omega arith)) (subst (λ (n : ℕ). 128 ≤ n) first high) (cases_lt (get_or rest 0 0) 192)),
    )

-- bytes that are one character
record One (bytes : List ℕ) : Type 0 where
  character : ℕ
  scalar : IsScalar character
  is : bytes ≡ encode_utf8 character

abbrev AreInside : List ℕ → Type 0
AreInside bytes = (k : ℕ) → 0 < k → k < length bytes → IsInside (get_or bytes k 0)

one_of : (cs bytes : List ℕ) → all_scalars cs ≡ true → encode_utf8_all cs ≡ bytes → 0 < length bytes → AreInside bytes → One bytes
one_of [] bytes are is some inside = let none : 0 ≡ length bytes = ap length is in absurd (omega arith)
one_of (c ∷ []) bytes are is some inside =
    record { character = c; scalar = (and_parts _ true are).0; is = sym is ∙ append-nil (encode_utf8 c) }
one_of (c ∷ d ∷ cs) bytes are is some inside =
    let rest = encode_utf8_all (d ∷ cs) in
    let others : all_scalars (d ∷ cs) ≡ true = (and_parts _ (all_scalars (d ∷ cs)) are).1 in
    let one : 1 ≤ length (encode_utf8 c) = subst (λ (n : ℕ). 1 ≤ n) (sym (length-encode c)) (len_utf8_bounds c).0 in
    let next : 1 ≤ length (encode_utf8 d) = subst (λ (n : ℕ). 1 ≤ n) (sym (length-encode d)) (len_utf8_bounds d).0 in
    let long : length bytes ≡ length (encode_utf8 c) + length rest = ap length (sym is) ∙ length-append (encode_utf8 c) rest in
    let more : length rest ≡ length (encode_utf8 d) + length (encode_utf8_all cs) = length-append (encode_utf8 d) (encode_utf8_all cs) in
    let first : get_or bytes (length (encode_utf8 c)) 0 ≡ get_or rest 0 0 =
    ap (λ (l : List ℕ). get_or l (length (encode_utf8 c)) 0) (sym is) ∙ ap (λ (n : ℕ). get_or (encode_utf8 c ++ rest) n 0) (sym (add-zero (length (encode_utf8 c)))) ∙ get_or-append-add (encode_utf8 c) rest 0 0 in
    absurd (begins_it rest (d ∷ cs, (others, refl)) (omega arith) (subst IsInside first (inside (length (encode_utf8 c)) (omega arith) (omega arith))))

is_one : (bytes : List ℕ) → IsUtf8 bytes → 0 < length bytes → AreInside bytes → One bytes
is_one bytes utf8 some inside = one_of utf8.0 bytes utf8.1.0 utf8.1.1 some inside

pub nothing_below : (bytes : List ℕ) → length bytes < 1 → bytes ≡ []
nothing_below [] below = refl
nothing_below (b ∷ bytes) below = absurd (omega arith)

first_of : (bytes : List ℕ) → 1 ≤ length bytes → bytes ≡ get_or bytes 0 0 ∷ drop 1 bytes
first_of [] some = absurd (omega arith)
first_of (b ∷ bytes) some = refl

pub first_byte : (bytes : List ℕ) → 1 ≤ length bytes → bytes ≡ get_or bytes 0 0 ∷ take (length bytes - 1) (drop 1 bytes)
first_byte bytes some = first_of bytes some ∙ ap (λ (l : List ℕ). get_or bytes 0 0 ∷ l) (sym (take_rest bytes 1))

pub last_byte : (bytes : List ℕ) → 1 ≤ length bytes → bytes ≡ take (length bytes - 1) bytes ++ get_or bytes (length bytes - 1) 0 ∷ []
last_byte bytes some =
    let n = length bytes - 1 in
    let whole : length bytes ≤ n + 1 = omega arith in
    sym (take_all (n + 1) bytes whole) ∙ take_more bytes n 0 (omega arith)

-- ---- at the front

-- the rest behind a first byte and bytes that are inside
pub record Skipped (text rest : List ℕ) : Type 0 where
  pub gone : List ℕ
  pub is : text ≡ gone ++ rest
  pub some : 0 < length gone
  pub inside : (k : ℕ) → 0 < k → k < length gone → IsInside (get_or gone k 0)

pub skipped_first : (text tail : List ℕ) → 0 < length text → tail ≡ drop 1 text → Skipped text tail
skipped_first [] tail some is = absurd (omega arith)
skipped_first (b ∷ text) tail some is = record { gone = b ∷ []; is = ap (λ (l : List ℕ). b ∷ l) (sym is); some = omega arith; inside = λ k later below. absurd (omega arith) }

inside_push : (gone : List ℕ) (byte k : ℕ) → AreInside gone → IsInside byte → 0 < k → k < length (gone ++ byte ∷ []) → (k < length gone) ⊎ (length gone ≤ k) → IsInside (get_or (gone ++ byte ∷ []) k 0)
inside_push gone byte k inside is later below (inl within) = subst IsInside (sym (get_or_append_left gone (byte ∷ []) 0 k within)) (inside k later within)
inside_push gone byte k inside is later below (inr last) =
    let at : length gone ≡ k = omega (arith, length-append gone (byte ∷ [])) in
    subst IsInside (sym (get_or_at gone byte [] 0 k at)) is

pub skipped_more : (text rest others : List ℕ) (byte : ℕ) → rest ≡ byte ∷ others → IsInside byte → Skipped text rest → Skipped text others
skipped_more text rest others byte first inside so_far = record {
  gone = so_far.gone ++ byte ∷ [];
  is = so_far.is ∙ ap (λ (l : List ℕ). so_far.gone ++ l) first ∙ sym (append_assoc so_far.gone (byte ∷ []) others);
  some = omega (arith, length-append so_far.gone (byte ∷ []), so_far.some);
  inside = λ k later below. inside_push so_far.gone byte k so_far.inside inside later below (cases_lt k (length so_far.gone));
}

pub skipped_all : (text rest : List ℕ) → IsUtf8 text → Skipped text rest → (0 < length rest → ¬ (IsInside (get_or rest 0 0))) → BeginsWithOne text rest
skipped_all text rest utf8 skipped begins =
    let gone = skipped.gone in
    let at : IsCharBoundary text (length gone) = boundary_at text gone rest skipped.is begins in
    let front : IsUtf8 gone = subst IsUtf8 (ap (take (length gone)) skipped.is ∙ take_at gone rest (length gone) refl) (IsUtf8-take text (length gone) utf8 at) in
    let one = is_one gone front skipped.some skipped.inside in
    record {
      character = one.character;
      scalar = one.scalar;
      is = skipped.is ∙ ap (λ (l : List ℕ). l ++ rest) one.is;
      utf8 = subst IsUtf8 (ap (drop (length gone)) skipped.is ∙ drop_at gone rest (length gone) refl) (IsUtf8-drop text (length gone) utf8 at);
    }

pub skipped_shorter : (text rest : List ℕ) → Skipped text rest → length rest < length text
skipped_shorter text rest skipped = omega (arith, ap length skipped.is, length-append skipped.gone rest, skipped.some)

-- ---- at the end

-- what stands before bytes that are inside
pub record Backed (text rest : List ℕ) : Type 0 where
  pub tail : List ℕ
  pub is : text ≡ rest ++ tail
  pub inside : (k : ℕ) → k < length tail → IsInside (get_or tail k 0)

pub backed_none : (text : List ℕ) → Backed text text
backed_none text = record { tail = []; is = sym (append-nil text); inside = λ k below. absurd (omega arith) }

inside_more : (byte : ℕ) (tail : List ℕ) → IsInside byte → ((k : ℕ) → k < length tail → IsInside (get_or tail k 0)) → (k : ℕ) → k < length (byte ∷ tail) → IsInside (get_or (byte ∷ tail) k 0)
inside_more byte tail first inside zero below = first
inside_more byte tail first inside (suc k) below = inside k (omega arith)

pub backed_more : (text rest front : List ℕ) (byte : ℕ) → rest ≡ front ++ byte ∷ [] → IsInside byte → Backed text rest → Backed text front
backed_more text rest front byte last inside so_far = record {
  tail = byte ∷ so_far.tail;
  is = so_far.is ∙ ap (λ (l : List ℕ). l ++ so_far.tail) last ∙ append_assoc front (byte ∷ []) so_far.tail;
  inside = inside_more byte so_far.tail inside so_far.inside;
}

inside_tail : (byte : ℕ) (tail : List ℕ) → ((k : ℕ) → k < length tail → IsInside (get_or tail k 0)) → (k : ℕ) → 0 < k → k < length (byte ∷ tail) → IsInside (get_or (byte ∷ tail) k 0)
inside_tail byte tail inside zero later below = absurd (omega arith)
inside_tail byte tail inside (suc k) later below = inside k (omega arith)

pub backed_all : (text rest front : List ℕ) (byte : ℕ) → IsUtf8 text → rest ≡ front ++ byte ∷ [] → ¬ (IsInside byte) → Backed text rest → EndsWithOne text front
backed_all text rest front byte utf8 last begins backed =
    let end = byte ∷ backed.tail in
    let is : text ≡ front ++ end = backed.is ∙ ap (λ (l : List ℕ). l ++ backed.tail) last ∙ append_assoc front (byte ∷ []) backed.tail in
    let at : IsCharBoundary text (length front) = boundary_at text front end is (λ some. begins) in
    let end_utf8 : IsUtf8 end = subst IsUtf8 (ap (drop (length front)) is ∙ drop_at front end (length front) refl) (IsUtf8-drop text (length front) utf8 at) in
    let one = is_one end end_utf8 (omega arith) (inside_tail byte backed.tail backed.inside) in
    record {
      character = one.character;
      scalar = one.scalar;
      is = is ∙ ap (λ (l : List ℕ). front ++ l) one.is;
      utf8 = subst IsUtf8 (ap (take (length front)) is ∙ take_at front end (length front) refl) (IsUtf8-take text (length front) utf8 at);
    }

pub backed_nothing : (text rest : List ℕ) → IsUtf8 text → Backed text rest → rest ≡ [] → text ≡ []
backed_nothing [] rest utf8 backed none = refl
backed_nothing (b ∷ text) rest utf8 backed none =
    let is : b ∷ text ≡ backed.tail = backed.is ∙ ap (λ (l : List ℕ). l ++ backed.tail) none in
    let long : suc (length text) ≡ length backed.tail = ap length is in
    absurd (begins_it (b ∷ text) utf8 (omega arith) (subst IsInside (ap (λ (l : List ℕ). get_or l 0 0) (sym is)) (backed.inside 0 (omega arith))))
