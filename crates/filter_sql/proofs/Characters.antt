-- What is written character by character, as a text of bytes.
use Rattle.std.proofs.Common.{◌≡◌, ℕ, zero, suc, ◌<◌, ◌≤◌, ◌^◌, ◌/◌, ◌%◌, ◌==◌, ◌&&◌, ◌||◌, Bool, true, false, cond, List, [], ◌∷◌, ◌++◌, Some, length, get_or, codes, encode_utf8, IsUtf8, refl, sym, ap, ◌∙◌, subst, arith, append_assoc, append-nil, ⊎_elim, eqb-true}
use Rattle.std.specs.Fmt.{decimal, digit_glyph}
use Rattle.std.specs.List.{flat_map, list_any, slice_index}
use Rattle.std.specs.Str.{chars, encode_utf8_all}
use Rattle.std.specs.Str.Parse.{AllDigits}
use Rattle.std.proofs.str.Laws.{order}
use Rattle.std.proofs.lemmas.Bool.Decides.{nat_tests}
use Rattle.std.proofs.lemmas.Fmt.{decimal_is_IsNumeral_wide, hex_byte}
use Rattle.std.proofs.lemmas.List.Folds.{list_any-append}
use Rattle.std.proofs.lemmas.Str.{encode_ascii, encodes-append, encodes-chars, inside_one}
use Rattle.std.proofs.lemmas.Str.Parse.{digit_from_value}
use Rattle.hex.specs.Hex.{encode_lower, encode_with, lower_digits}
use Rattle.like_patterns.specs.Patterns.{literal, any_string}
use Rattle.like_patterns.specs.Pieces.{literals}
use Rattle.like_patterns.specs.Texts.{has_special, part_text, quotable_text, pattern_text as parts_text}
use Rattle.vortex_value.specs.Texts.{two_digits}
use Rattle.filter_sql.specs.Tokens.{doubled, quoted}
use Rattle.filter_sql.specs.Printing.{escaped_byte, is_special, prefix_pattern}
use Rattle.filter_sql.proofs.Again.{both_true}
use Rattle.filter_sql.specs.Pieces.{patterned, quotable}

-- what `{:02x}` writes of a byte
pub ruleset digits_of_byte = (hex_byte)

flat_map_append : (g : ℕ → List ℕ) (xs ys : List ℕ) → flat_map g (xs ++ ys) ≡ flat_map g xs ++ flat_map g ys
flat_map_append g [] ys = refl
flat_map_append g (x ∷ xs) ys = ap (λ (l : List ℕ). g x ++ l) (flat_map_append g xs ys) ∙ sym (append_assoc (g x) (flat_map g xs) (flat_map g ys))

flat_map_same : (g : ℕ → List ℕ) → ((b : ℕ) → 128 ≤ b → g b ≡ b ∷ []) → (bs : List ℕ) → ((k : ℕ) → k < length bs → 128 ≤ get_or bs k 0) → flat_map g bs ≡ bs
flat_map_same g plain [] high = refl
flat_map_same g plain (b ∷ bs) high = rw (plain b (high 0 (omega arith)), flat_map_same g plain bs (λ k below. high (suc k) (omega arith))) refl

-- each byte of a character past ASCII is past ASCII
high_bytes : (c : ℕ) → 128 ≤ c → (k : ℕ) → k < length (encode_utf8 c) → 128 ≤ get_or (encode_utf8 c) k 0
high_bytes c high k below = ⊎_elim
    (λ low. let same : c ≡ get_or (encode_utf8 c) k 0 = inside_one c [] (encode_utf8 c) k (sym (append-nil (encode_utf8 c))) below low in absurd (omega arith))
    (λ past. past)
    (order (get_or (encode_utf8 c) k 0) 128)

module _ (g h : ℕ → List ℕ) (low : (c : ℕ) → c < 128 → h c ≡ g c) (high : (c : ℕ) → 128 ≤ c → h c ≡ encode_utf8 c) (plain : (b : ℕ) → 128 ≤ b → g b ≡ b ∷ []) where
  of_character : (c : ℕ) → flat_map g (encode_utf8 c) ≡ h c
  of_character c = ⊎_elim
      (λ small. rw (encode_ascii c small) (append-nil (g c) ∙ sym (low c small)))
      (λ great. flat_map_same g plain (encode_utf8 c) (high_bytes c great) ∙ sym (high c great))
      (order c 128)

  of_characters : (cs : List ℕ) → flat_map g (encode_utf8_all cs) ≡ flat_map h cs
  of_characters [] = refl
  of_characters (c ∷ cs) = flat_map_append g (encode_utf8 c) (encode_utf8_all cs) ∙ (λ i. of_character c i ++ of_characters cs i)

  -- the same byte by byte and character by character
  pub by_characters : (text : List ℕ) → IsUtf8 text → flat_map h (chars text) ≡ flat_map g text
  by_characters text utf8 = sym (of_characters (chars text)) ∙ ap (flat_map g) (encodes-chars text utf8)

-- ---- quotes

pub doubled_characters : (quote : ℕ) (text : List ℕ) → quote < 128 → IsUtf8 text → flat_map (quotable quote) (chars text) ≡ doubled quote text
doubled_characters quote text small utf8 = by_characters (λ b. cond (b == quote) (b ∷ b ∷ []) (b ∷ [])) (quotable quote)
    (λ c low. rw (encode_ascii c low) refl)
    (λ c high. let other : (c == quote) ≡ false = grind (arith, nat_tests) in rw other refl)
    (λ b high. let other : (b == quote) ≡ false = grind (arith, nat_tests) in rw other refl)
    text utf8

-- the characters of a pattern in quotes
pub quoted_characters : (cs : List ℕ) → codes "'" ++ (quotable_text (Some 39) cs ++ codes "'") ≡ quoted 39 (encode_utf8_all cs)
quoted_characters cs =
    ap (λ (l : List ℕ). 39 ∷ (l ++ 39 ∷ [])) (sym (of_characters (λ b. cond (b == 39) (b ∷ b ∷ []) (b ∷ [])) (quotable 39)
    (λ c low. rw (encode_ascii c low) refl)
    (λ c high. let other : (c == 39) ≡ false = grind (arith, nat_tests) in rw other refl)
    (λ b high. let other : (b == 39) ≡ false = grind (arith, nat_tests) in rw other refl)
    cs))

-- ---- patterns

doubled_append : (xs ys : List ℕ) → doubled 39 (xs ++ ys) ≡ doubled 39 xs ++ doubled 39 ys
doubled_append xs ys = flat_map_append (λ b. cond (b == 39) (b ∷ b ∷ []) (b ∷ [])) xs ys

doubled_escaped : (bs : List ℕ) → doubled 39 (flat_map escaped_byte bs) ≡ flat_map (λ b. doubled 39 (escaped_byte b)) bs
doubled_escaped [] = refl
doubled_escaped (b ∷ bs) = doubled_append (escaped_byte b) (flat_map escaped_byte bs) ∙ ap (λ (l : List ℕ). doubled 39 (escaped_byte b) ++ l) (doubled_escaped bs)

pattern_low : (c : ℕ) → c < 128 → patterned c ≡ doubled 39 (escaped_byte c)
pattern_low c low = by_tests (c == 39) (is_special c) refl refl
  where
    by_tests : (a b : Bool) → (c == 39) ≡ a → is_special c ≡ b → patterned c ≡ doubled 39 (escaped_byte c)
    by_tests true b is special = let byte : c ≡ 39 = grind (arith, nat_tests) in rw byte refl
    by_tests false true is special = rw (special, is) refl
    by_tests false false is special = rw (special, is) (encode_ascii c low)

pattern_high : (c : ℕ) → 128 ≤ c → patterned c ≡ encode_utf8 c
pattern_high c high =
    let quote : (c == 39) ≡ false = grind (arith, nat_tests) in
    let special : is_special c ≡ false = grind (arith, nat_tests) in
    rw (quote, special) refl

pattern_plain : (b : ℕ) → 128 ≤ b → doubled 39 (escaped_byte b) ≡ b ∷ []
pattern_plain b high =
    let quote : (b == 39) ≡ false = grind (arith, nat_tests) in
    let special : is_special b ≡ false = grind (arith, nat_tests) in
    rw (special, quote) refl

-- a pattern in quotes
pub pattern_text : (prefix : List ℕ) → IsUtf8 prefix → codes "'" ++ (flat_map patterned (chars prefix) ++ codes "%'") ≡ quoted 39 (prefix_pattern prefix)
pattern_text prefix utf8 =
    let inner = by_characters (λ b. doubled 39 (escaped_byte b)) patterned pattern_low pattern_high pattern_plain prefix utf8 in
    let all : doubled 39 (prefix_pattern prefix) ≡ flat_map patterned (chars prefix) ++ 37 ∷ []
    = doubled_append (flat_map escaped_byte prefix) (37 ∷ []) ∙ ap (λ (l : List ℕ). l ++ 37 ∷ []) (doubled_escaped prefix ∙ sym inner) in
    sym (ap (λ (l : List ℕ). 39 ∷ (l ++ 39 ∷ [])) all ∙ ap (λ (l : List ℕ). 39 ∷ l) (append_assoc (flat_map patterned (chars prefix)) (37 ∷ []) (39 ∷ [])))

-- a pattern with a % at its end alone, by its characters
literal_text : ℕ → List ℕ
literal_text c = encode_utf8_all (part_text (literal c))

literal_low : (c : ℕ) → c < 128 → literal_text c ≡ escaped_byte c
unfolding literal_text
literal_low c low = by_test (is_special c) refl
  where
    by_test : (special : Bool) → is_special c ≡ special → literal_text c ≡ escaped_byte c
    by_test true is = let small : 92 < 128 = omega arith in rw (is, encode_ascii 92 small, encode_ascii c low) refl
    by_test false is = rw (is, encode_ascii c low) refl

literal_high : (c : ℕ) → 128 ≤ c → literal_text c ≡ encode_utf8 c
unfolding literal_text
literal_high c high =
    let special : is_special c ≡ false = grind (arith, nat_tests) in
    rw special (append-nil (encode_utf8 c))

escaped_plain : (b : ℕ) → 128 ≤ b → escaped_byte b ≡ b ∷ []
escaped_plain b high =
    let special : is_special b ≡ false = grind (arith, nat_tests) in
    rw special refl

-- `%` and `\` are bytes
percent_text : 37 ∷ [] ≡ encode_utf8_all (37 ∷ [])
percent_text = let small : 37 < 128 = omega arith in rw (encode_ascii 37 small) refl

pub backslash_text : encode_utf8_all (92 ∷ []) ≡ 92 ∷ []
backslash_text = let small : 92 < 128 = omega arith in rw (encode_ascii 92 small) refl

literals_text : (cs : List ℕ) → flat_map literal_text cs ++ 37 ∷ [] ≡ encode_utf8_all (parts_text (literals cs ++ any_string ∷ []))
unfolding literal_text
literals_text [] = percent_text
literals_text (c ∷ cs) =
    append_assoc (literal_text c) (flat_map literal_text cs) (37 ∷ []) ∙ ap (λ (l : List ℕ). literal_text c ++ l) (literals_text cs)
    ∙ sym (encodes-append (part_text (literal c)) (parts_text (literals cs ++ any_string ∷ [])))

pub prefix_text : (cs : List ℕ) → prefix_pattern (encode_utf8_all cs) ≡ encode_utf8_all (parts_text (literals cs ++ any_string ∷ []))
prefix_text cs = ap (λ (l : List ℕ). l ++ 37 ∷ []) (of_characters escaped_byte literal_text literal_low literal_high escaped_plain cs) ∙ literals_text cs

-- what is special in them
plain_byte : (b : ℕ) → 128 ≤ b → is_special b ≡ false
plain_byte b high = grind (arith, nat_tests)

all_plain : (bs : List ℕ) → ((k : ℕ) → k < length bs → 128 ≤ get_or bs k 0) → list_any is_special bs ≡ false
all_plain [] high = refl
all_plain (b ∷ bs) high = rw (plain_byte b (high 0 (omega arith)), all_plain bs (λ k below. high (suc k) (omega arith))) refl

or_none : (b : Bool) → (b || false) ≡ b
or_none true = refl
or_none false = refl

special_character : (c : ℕ) → list_any is_special (encode_utf8 c) ≡ is_special c
special_character c = ⊎_elim
    (λ small. ap (list_any is_special) (encode_ascii c small) ∙ or_none (is_special c))
    (λ great. all_plain (encode_utf8 c) (high_bytes c great) ∙ sym (plain_byte c great))
    (order c 128)

pub special_characters : (cs : List ℕ) → list_any is_special (encode_utf8_all cs) ≡ has_special (literals cs ++ any_string ∷ [])
special_characters [] = refl
special_characters (c ∷ cs) =
    list_any-append is_special (encode_utf8 c) (encode_utf8_all cs)
    ∙ ap (λ (b : Bool). b || list_any is_special (encode_utf8_all cs)) (special_character c) ∙ ap (λ (b : Bool). is_special c || b) (special_characters cs)

-- ---- bytes

below_all : ℕ → (ℕ → Bool) → Bool
below_all zero p = true
below_all (suc n) p = p n && below_all n p

below_at : (n k : ℕ) (p : ℕ → Bool) → below_all n p ≡ true → k < n → p k ≡ true
unfolding below_all
below_at zero k p all below = absurd (omega arith)
below_at (suc n) k p all below =
    let parts = both_true (p n) (below_all n p) all in
    ⊎_elim
    (λ less. below_at n k p parts.1 less)
    (λ more. let same : n ≡ k = omega arith in subst (λ (j : ℕ). p j ≡ true) same parts.0)
    (order k n)

-- the digits of a table and of a format are the same
is_glyph : ℕ → Bool
is_glyph d = slice_index lower_digits d == digit_glyph false d

all_glyphs : below_all 16 is_glyph ≡ true
unfolding below_all is_glyph
all_glyphs = refl

glyph : (d : ℕ) → d < 16 → digit_glyph false d ≡ slice_index lower_digits d
unfolding is_glyph
glyph d below =
    let same : (slice_index lower_digits d == digit_glyph false d) ≡ true = below_at 16 d is_glyph all_glyphs below in
    sym (eqb-true (slice_index lower_digits d) (digit_glyph false d) same)

-- bytes as two digits each
pub digits_text : (bytes : List ℕ) → ((k : ℕ) → k < length bytes → get_or bytes k 0 < 256) → flat_map two_digits bytes ≡ encode_lower bytes
unfolding encode_with
digits_text [] small = refl
digits_text (b ∷ bs) small =
    let here : b < 256 = small 0 (omega arith) in
    let high = glyph (b / 16) (omega arith) in
    let low = glyph (b % 16) (omega arith) in
    let rest = digits_text bs (λ k below. small (suc k) (omega arith)) in
    (λ i. high i ∷ low i ∷ rest i)

-- ---- columns

undoubled : (digits : List ℕ) → AllDigits 10 digits → doubled 34 digits ≡ digits
undoubled [] all = refl
undoubled (c ∷ cs) all =
    let range = digit_from_value c all.0 in
    let other : (c == 34) ≡ false = grind (arith, nat_tests) in
    rw (other, undoubled cs all.1) refl

-- the number of a column in quotes
pub number_text : (n : ℕ) → n < 10 ^ 64 → codes "\"$" ++ (decimal n ++ codes "\"") ≡ quoted 34 (36 ∷ decimal n)
number_text n small = rw (undoubled (decimal n) (decimal_is_IsNumeral_wide n small).0.1) refl
