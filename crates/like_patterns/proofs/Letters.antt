-- Texts as they are compared are texts, cut at the same places.
use Rattle.std.proofs.Common.{◌≡◌, ℕ, suc, ◌<◌, ◌≤◌, ◌⊎◌, inl, inr, ⊎_elim, true, List, [], ◌∷◌, ◌++◌, map, length, drop, get_or, refl, sym, ap, ◌∙◌, subst, length-append, arith}
use Rattle.std.proofs.Math.ListN.{get_or-map}
use Rattle.std.proofs.lemmas.Bool.{and_from, and_parts, cases_lt}
use Rattle.std.proofs.lemmas.List.{drop-map, drop_at, length-map, map-append, take_at, append-nil}
use Rattle.std.proofs.lemmas.Str.{IsCharBoundary-at_seam, IsCharBoundary-from_take, IsUtf8-drop, IsUtf8-take, chars-encodes, encode_ascii, encodes-chars, inside_one, scalars-chars}
use Rattle.std.proofs.lemmas.Str.Ascii.{lowercase_ascii, lowercase_is}
use Rattle.std.specs.Char.{IsScalar, encode_utf8, to_ascii_lowercase}
use Rattle.std.specs.Str.{IsCharBoundary, IsUtf8, all_scalars, chars, encode_utf8_all}
use lib.Utf8.{low_scalar}
use Rattle.like_patterns.specs.declared.case.Case.{Case}
use Rattle.like_patterns.specs.declared.case.Case.TheVariants.{Sensitive, Insensitive}
use Rattle.like_patterns.specs.Characters.{compared}

-- ---- letters

lower_high : (c : ℕ) → 128 ≤ c → to_ascii_lowercase c ≡ c
lower_high c high = (lowercase_is c).2 (omega arith)

all_high : (bytes : List ℕ) → ((k : ℕ) → k < length bytes → 128 ≤ get_or bytes k 0) → map to_ascii_lowercase bytes ≡ bytes
all_high [] high = refl
all_high (b ∷ bytes) high =
    ap (λ (n : ℕ). n ∷ map to_ascii_lowercase bytes) (lower_high b (high 0 (omega arith))) ∙ ap (λ (l : List ℕ). b ∷ l) (all_high bytes (λ k below. high (suc k) (omega arith)))

high_low : (c b : ℕ) → 128 ≤ c → b < 128 → c ≡ b → ⊥
high_low c b high low same = omega arith

pub bytes_high : (c k : ℕ) → 128 ≤ c → k < length (encode_utf8 c) → 128 ≤ get_or (encode_utf8 c) k 0
bytes_high c k high below =
    ⊎_elim
    (λ low. absurd (high_low c (get_or (encode_utf8 c) k 0) high low (inside_one c [] (encode_utf8 c) k (sym (append-nil (encode_utf8 c))) below low)))
    (λ h. h)
    (cases_lt (get_or (encode_utf8 c) k 0) 128)

lower_encode_by : (c : ℕ) → (c < 128) ⊎ (128 ≤ c) → map to_ascii_lowercase (encode_utf8 c) ≡ encode_utf8 (to_ascii_lowercase c)
lower_encode_by c (inl low) = ap (map to_ascii_lowercase) (encode_ascii c low) ∙ sym (encode_ascii (to_ascii_lowercase c) (lowercase_ascii c low))
lower_encode_by c (inr high) = all_high (encode_utf8 c) (λ k below. bytes_high c k high below) ∙ ap encode_utf8 (sym (lower_high c high))

pub lower_encode : (c : ℕ) → map to_ascii_lowercase (encode_utf8 c) ≡ encode_utf8 (to_ascii_lowercase c)
lower_encode c = lower_encode_by c (cases_lt c 128)

lower_encodes : (cs : List ℕ) → map to_ascii_lowercase (encode_utf8_all cs) ≡ encode_utf8_all (map to_ascii_lowercase cs)
lower_encodes [] = refl
lower_encodes (c ∷ cs) =
    map-append to_ascii_lowercase (encode_utf8 c) (encode_utf8_all cs) ∙ ap (λ (l : List ℕ). l ++ map to_ascii_lowercase (encode_utf8_all cs)) (lower_encode c)
    ∙ ap (λ (l : List ℕ). encode_utf8 (to_ascii_lowercase c) ++ l) (lower_encodes cs)

lower_scalar_by : (c : ℕ) → IsScalar c → (c < 128) ⊎ (128 ≤ c) → IsScalar (to_ascii_lowercase c)
lower_scalar_by c is (inl low) = let small : to_ascii_lowercase c < 128 = lowercase_ascii c low in low_scalar (to_ascii_lowercase c) (omega arith)
lower_scalar_by c is (inr high) = subst (λ (n : ℕ). IsScalar n) (sym (lower_high c high)) is

pub lower_scalar : (c : ℕ) → IsScalar c → IsScalar (to_ascii_lowercase c)
lower_scalar c is = lower_scalar_by c is (cases_lt c 128)

lower_scalars : (cs : List ℕ) → all_scalars cs ≡ true → all_scalars (map to_ascii_lowercase cs) ≡ true
lower_scalars [] are = refl
lower_scalars (c ∷ cs) are =
    let parts = and_parts _ (all_scalars cs) are in
    and_from _ (all_scalars (map to_ascii_lowercase cs)) (lower_scalar c parts.0) (lower_scalars cs parts.1)

lower_utf8 : (bytes : List ℕ) → IsUtf8 bytes → IsUtf8 (map to_ascii_lowercase bytes)
lower_utf8 bytes is = (map to_ascii_lowercase is.0, (lower_scalars is.0 is.1.0, sym (lower_encodes is.0) ∙ ap (map to_ascii_lowercase) is.1.1))

lower_chars : (bytes : List ℕ) → IsUtf8 bytes → chars (map to_ascii_lowercase bytes) ≡ map to_ascii_lowercase (chars bytes)
lower_chars bytes is =
    ap (λ (l : List ℕ). chars (map to_ascii_lowercase l)) (sym (encodes-chars bytes is)) ∙ ap chars (lower_encodes (chars bytes))
    ∙ chars-encodes (map to_ascii_lowercase (chars bytes)) (lower_scalars (chars bytes) (scalars-chars bytes is))

lower_boundary : (bytes : List ℕ) (n : ℕ) → IsCharBoundary (map to_ascii_lowercase bytes) n → IsCharBoundary bytes n
lower_boundary bytes n at =
    let long = length-map bytes to_ascii_lowercase in (
      omega (arith, at.0, long),
      λ below high.
          let same : get_or (map to_ascii_lowercase bytes) n 0 ≡ get_or bytes n 0 = get_or-map to_ascii_lowercase bytes n 0 ∙ lower_high (get_or bytes n 0) high in
          subst (λ (b : ℕ). 192 ≤ b) same (at.1 (omega (arith, long)) (subst (λ (b : ℕ). 128 ≤ b) (sym same) high)),
    )

-- ---- texts as they are compared

pub IsUtf8-compared : (case : Case) (text : List ℕ) → IsUtf8 text → IsUtf8 (compared case text)
IsUtf8-compared Sensitive text is = is
IsUtf8-compared Insensitive text is = lower_utf8 text is

pub chars-compared : (case : Case) (text : List ℕ) → IsUtf8 text → chars (compared case text) ≡ compared case (chars text)
chars-compared Sensitive text is = refl
chars-compared Insensitive text is = lower_chars text is

pub compared-append : (case : Case) (xs ys : List ℕ) → compared case (xs ++ ys) ≡ compared case xs ++ compared case ys
compared-append Sensitive xs ys = refl
compared-append Insensitive xs ys = map-append to_ascii_lowercase xs ys

pub compared-drop : (case : Case) (n : ℕ) (text : List ℕ) → compared case (drop n text) ≡ drop n (compared case text)
compared-drop Sensitive n text = refl
compared-drop Insensitive n text = sym (drop-map to_ascii_lowercase n text)

pub length-compared : (case : Case) (text : List ℕ) → length (compared case text) ≡ length text
length-compared Sensitive text = refl
length-compared Insensitive text = length-map text to_ascii_lowercase

pub compared-nil : (case : Case) (text : List ℕ) → text ≡ [] → compared case text ≡ []
compared-nil Sensitive text is = is
compared-nil Insensitive text is = ap (map to_ascii_lowercase) is

pub compared_one : (case : Case) (c : ℕ) → IsScalar c → (d : ℕ) × (IsScalar d × (compared case (encode_utf8 c) ≡ encode_utf8 d))
compared_one Sensitive c is = (c, (is, refl))
compared_one Insensitive c is = (to_ascii_lowercase c, (lower_scalar c is, lower_encode c))

pub boundary_from_compared : (case : Case) (text : List ℕ) (n : ℕ) → IsCharBoundary (compared case text) n → IsCharBoundary text n
boundary_from_compared Sensitive text n at = at
boundary_from_compared Insensitive text n at = lower_boundary text n at

-- ---- where a text is cut

-- what follows a text in a text is a text, and what stands before one
pub utf8_behind : (xs ys : List ℕ) → IsUtf8 xs → IsUtf8 (xs ++ ys) → IsUtf8 ys
utf8_behind xs ys first all =
    let at : IsCharBoundary (xs ++ ys) (length xs) =
    IsCharBoundary-from_take (xs ++ ys) (length xs) all (omega (arith, length-append xs ys)) (subst IsUtf8 (sym (take_at xs ys (length xs) refl)) first) in
    subst IsUtf8 (drop_at xs ys (length xs) refl) (IsUtf8-drop (xs ++ ys) (length xs) all at)

pub utf8_before : (xs ys : List ℕ) → IsUtf8 ys → IsUtf8 (xs ++ ys) → IsUtf8 xs
utf8_before xs ys last all =
    subst IsUtf8 (take_at xs ys (length xs) refl) (IsUtf8-take (xs ++ ys) (length xs) all (IsCharBoundary-at_seam (xs ++ ys) xs ys refl last))

-- the same, if it is a text only as it is compared
pub utf8_behind_compared : (case : Case) (xs ys : List ℕ) → IsUtf8 (compared case xs) → IsUtf8 (xs ++ ys) → IsUtf8 ys
utf8_behind_compared case xs ys first all =
    let same = compared-append case xs ys in
    let rest : IsUtf8 (compared case ys) = utf8_behind (compared case xs) (compared case ys) first (subst IsUtf8 same (IsUtf8-compared case (xs ++ ys) all)) in
    let at : IsCharBoundary (compared case (xs ++ ys)) (length xs) =
    subst (λ (n : ℕ). IsCharBoundary (compared case (xs ++ ys)) n) (length-compared case xs) (IsCharBoundary-at_seam (compared case (xs ++ ys)) (compared case xs) (compared case ys) same rest) in
    subst IsUtf8 (drop_at xs ys (length xs) refl) (IsUtf8-drop (xs ++ ys) (length xs) all (boundary_from_compared case (xs ++ ys) (length xs) at))

pub utf8_before_compared : (case : Case) (xs ys : List ℕ) → IsUtf8 (compared case ys) → IsUtf8 (xs ++ ys) → IsUtf8 xs
utf8_before_compared case xs ys last all =
    let at : IsCharBoundary (compared case (xs ++ ys)) (length xs) =
    subst (λ (n : ℕ). IsCharBoundary (compared case (xs ++ ys)) n) (length-compared case xs) (IsCharBoundary-at_seam (compared case (xs ++ ys)) (compared case xs) (compared case ys) (compared-append case xs ys) last) in
    subst IsUtf8 (take_at xs ys (length xs) refl) (IsUtf8-take (xs ++ ys) (length xs) all (boundary_from_compared case (xs ++ ys) (length xs) at))
