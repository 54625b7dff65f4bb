-- Special characters are bytes, so they are found among the bytes of a text.
use Rattle.std.proofs.Common.{◌≡◌, ℕ, suc, ◌+◌, ◌<◌, ◌≤◌, ◌⊎◌, inl, inr, Bool, true, false, ◌||◌, eqb, List, [], ◌∷◌, ◌++◌, drop, get_or, length, refl, sym, ap, ◌∙◌, arith}
use Rattle.std.proofs.lemmas.Bool.{cases_lt, ne_eqb, or_from, or_left}
use Rattle.std.proofs.lemmas.List.{drop_all, drop_more}
use Rattle.std.proofs.lemmas.List.Folds.{list_any-append}
use Rattle.std.proofs.lemmas.Str.{encode_ascii, encodes-chars}
use Rattle.std.specs.Char.{encode_utf8}
use Rattle.std.specs.List.{list_any}
use Rattle.std.specs.Str.{IsUtf8, chars, encode_utf8_all}
use Rattle.like_patterns.specs.declared.case.Case.TheVariants.{Sensitive}
use Rattle.like_patterns.specs.declared.pieces.Piece.{Piece}
use Rattle.like_patterns.specs.Patterns.{Part, literal, any_character, any_string}
use Rattle.like_patterns.specs.Pieces.{literals, parts_of, piece_parts}
use Rattle.like_patterns.specs.Texts.{has_special, is_special}
use Rattle.like_patterns.proofs.Letters.{bytes_high}

high_plain : (c : ℕ) → 128 ≤ c → is_special c ≡ false
high_plain c high =
    or_from (eqb c 37 || eqb c 95) (eqb c 92) (or_from (eqb c 37) (eqb c 95) (ne_eqb c 37 (λ e. absurd (omega arith))) (ne_eqb c 95 (λ e. absurd (omega arith)))) (ne_eqb c 92 (λ e. absurd (omega arith)))

all_plain : (bytes : List ℕ) → ((k : ℕ) → k < length bytes → 128 ≤ get_or bytes k 0) → list_any is_special bytes ≡ false
all_plain [] high = refl
all_plain (b ∷ bytes) high = or_from (is_special b) (list_any is_special bytes) (high_plain b (high 0 (omega arith))) (all_plain bytes (λ k below. high (suc k) (omega arith)))

or_none : (b : Bool) → (b || false) ≡ b
or_none true = refl
or_none false = refl

special_by : (c : ℕ) → (c < 128) ⊎ (128 ≤ c) → list_any is_special (encode_utf8 c) ≡ is_special c
special_by c (inl low) = ap (list_any is_special) (encode_ascii c low) ∙ or_none (is_special c)
special_by c (inr high) = all_plain (encode_utf8 c) (λ k below. bytes_high c k high below) ∙ sym (high_plain c high)

special_encodes : (cs : List ℕ) → list_any is_special (encode_utf8_all cs) ≡ has_special (literals cs)
special_encodes [] = refl
special_encodes (c ∷ cs) =
    list_any-append is_special (encode_utf8 c) (encode_utf8_all cs)
    ∙ ap (λ (b : Bool). b || list_any is_special (encode_utf8_all cs)) (special_by c (cases_lt c 128)) ∙ ap (λ (b : Bool). is_special c || b) (special_encodes cs)

pub special_text : (bytes : List ℕ) → IsUtf8 bytes → list_any is_special bytes ≡ has_special (literals (chars bytes))
special_text bytes utf8 = ap (list_any is_special) (sym (encodes-chars bytes utf8)) ∙ special_encodes (chars bytes)

-- ---- piece by piece

or_assoc : (a b c : Bool) → (a || (b || c)) ≡ ((a || b) || c)
or_assoc true b c = refl
or_assoc false b c = refl

has_special-append : (xs ys : List Part) → has_special (xs ++ ys) ≡ (has_special xs || has_special ys)
has_special-append [] ys = refl
has_special-append (literal c ∷ xs) ys = ap (λ (b : Bool). is_special c || b) (has_special-append xs ys) ∙ or_assoc (is_special c) (has_special xs) (has_special ys)
has_special-append (any_character ∷ xs) ys = has_special-append xs ys
has_special-append (any_string ∷ xs) ys = has_special-append xs ys

rest_is : (items : List Piece) (i : ℕ) (piece : Piece) → i < length items → piece ≡ get_or items i piece → has_special (parts_of Sensitive (drop i items)) ≡ (has_special (piece_parts Sensitive piece) || has_special (parts_of Sensitive (drop (i + 1) items)))
rest_is items i piece below is =
    ap (λ (l : List Piece). has_special (parts_of Sensitive l)) (drop_more items i piece below ∙ ap (λ (p : Piece). p ∷ drop (i + 1) items) (sym is))
    ∙ has_special-append (piece_parts Sensitive piece) (parts_of Sensitive (drop (i + 1) items))

pub special_here : (items : List Piece) (i : ℕ) (piece : Piece) → i < length items → piece ≡ get_or items i piece → has_special (piece_parts Sensitive piece) ≡ true → has_special (parts_of Sensitive (drop i items)) ≡ true
special_here items i piece below is special = rest_is items i piece below is ∙ or_left (has_special (piece_parts Sensitive piece)) (has_special (parts_of Sensitive (drop (i + 1) items))) special

pub special_behind : (items : List Piece) (i : ℕ) (piece : Piece) → i < length items → piece ≡ get_or items i piece → has_special (piece_parts Sensitive piece) ≡ false → has_special (parts_of Sensitive (drop (i + 1) items)) ≡ has_special (parts_of Sensitive (drop i items))
special_behind items i piece below is plain = sym (rest_is items i piece below is ∙ ap (λ (b : Bool). b || has_special (parts_of Sensitive (drop (i + 1) items))) plain)

pub special_none : (items : List Piece) (i : ℕ) → length items ≤ i → has_special (parts_of Sensitive (drop i items)) ≡ false
special_none items i past = ap (λ (l : List Piece). has_special (parts_of Sensitive l)) (drop_all i items past)
