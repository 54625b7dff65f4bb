-- The strings among the tokens of a text are UTF-8 as the text is, and no longer; and so are the patterns that they spell.
use Rattle.std.proofs.Common.{◌≡◌, ◌≢◌, ◌⊎◌, inl, inr, ℕ, zero, suc, ◌+◌, ◌<◌, ◌≤◌, ◌==◌, Bool, true, false, cond, List, [], ◌∷◌, ◌++◌, length, take, get_or, Option, Some, None, option_map, IsUtf8, chars, encode_utf8_all, append_assoc, append-nil, length-append, take-append-drop, ⊎_elim, refl, sym, subst, ap, ap₂, ◌∙◌, arith}
use Rattle.std.specs.Char.{IsScalar, encode_utf8, is_ascii_whitespace}
use Rattle.std.specs.List.{AllByRecursion, prefix_len}
use Rattle.std.specs.Str.{all_scalars}
use Rattle.std.proofs.Math.Seq.{get_or-append_seam, take-append_seam}
use Rattle.std.proofs.lemmas.Bool.{and_parts}
use Rattle.std.proofs.lemmas.Bool.Decides.{nat_tests}
use Rattle.std.proofs.lemmas.Str.{IsCharBoundary-before_ascii, IsUtf8-append, IsUtf8-encode, IsUtf8-nil, IsUtf8-take, chars-encodes, encode_ascii, encode_same, inside_one, length-le-encodes}
use Rattle.std.proofs.str.Laws.{order}
use Rattle.like_patterns.specs.Patterns.{Part, any_character, any_string, literal}
use Rattle.like_patterns.specs.Texts.{is_escape, part_of, parts_from, pattern_of}
use Rattle.filter_encoding.specs.Patterns.{IsPart}
use Rattle.filter_sql.specs.Parsing.{tokens_in}
use Rattle.filter_sql.specs.Texts.{AreItemsOf, Item, Leads, trimmed}
use Rattle.filter_sql.specs.Tokens.{IsFront, TokenTree, doubled, quoted, string_token}
use Rattle.filter_sql.proofs.Cuts.{text_after}

-- ---- bytes in which each quote stands twice

-- each byte of a character past ASCII is past ASCII
high-bytes : (c : ℕ) → 128 ≤ c → (k : ℕ) → k < length (encode_utf8 c) → 128 ≤ get_or (encode_utf8 c) k 0
high-bytes c high k below = ⊎_elim
    (λ low. let same : c ≡ get_or (encode_utf8 c) k 0 = inside_one c [] (encode_utf8 c) k (sym (append-nil (encode_utf8 c))) below low in absurd (omega arith))
    (λ past. past)
    (order (get_or (encode_utf8 c) k 0) 128)

-- no byte is the quote
abbrev Lacks : List ℕ → Type 0
Lacks xs = (k : ℕ) → k < length xs → get_or xs k 0 ≢ 39

one-lacks : (c : ℕ) → c ≢ 39 → Lacks (c ∷ [])
one-lacks c other zero below = other
one-lacks c other (suc k) below = absurd (omega arith)

-- no byte of another character is
lacks : (c : ℕ) → c ≢ 39 → Lacks (encode_utf8 c)
lacks c other = ⊎_elim
    (λ low. subst Lacks (sym (encode_ascii c low)) (one-lacks c other))
    (λ high k below same. let past = high-bytes c high k below in absurd (omega arith))
    (order c 128)

-- bytes without a quote that stand first in doubled ones stand first in those that were doubled
record Stripped (front more content : List ℕ) : Type 0 where
  rest : List ℕ
  is : content ≡ front ++ rest
  left : more ≡ doubled 39 rest

stripped : (front more content : List ℕ) → Lacks front → front ++ more ≡ doubled 39 content → Stripped front more content
stripped [] more content none is = record { rest = content; is = refl; left = is }
stripped (b ∷ front) more [] none is = cc
stripped (b ∷ front) more (c ∷ content) none is = by_test (c == 39) refl is (stripped front more content (λ k below. none (suc k) (omega arith)))
  where
    by_test : (t : Bool) → (c == 39) ≡ t → b ∷ (front ++ more) ≡ cond t (c ∷ c ∷ []) (c ∷ []) ++ doubled 39 content → (front ++ more ≡ doubled 39 content → Stripped front more content) → Stripped (b ∷ front) more (c ∷ content)
    by_test true quote e next =
        let same : b ≡ c = cc in
        let byte : c ≡ 39 = grind (arith, nat_tests) in
        absurd (none 0 (omega arith) (same ∙ byte))
    by_test false quote e next =
        let same : b ≡ c = cc in
        let after : front ++ more ≡ doubled 39 content = cc in
        let s = next after in
        record { rest = s.rest; is = ap₂ (λ (x : ℕ) (l : List ℕ). x ∷ l) (sym same) s.is; left = s.left }

-- what is doubled is characters too
abbrev Undoubles : List ℕ → Type 0
Undoubles ds = (content : List ℕ) → all_scalars ds ≡ true → encode_utf8_all ds ≡ doubled 39 content → IsUtf8 content

nothing-undoubles : Undoubles []
nothing-undoubles [] scalars is = IsUtf8-nil
nothing-undoubles (c ∷ content) scalars is = by_test (c == 39) is
  where
    by_test : (t : Bool) → [] ≡ cond t (c ∷ c ∷ []) (c ∷ []) ++ doubled 39 content → IsUtf8 (c ∷ content)
    by_test true e = cc
    by_test false e = cc

other-undoubles : (d : ℕ) (ds : List ℕ) → d ≢ 39 → Undoubles ds → Undoubles (d ∷ ds)
other-undoubles d ds other next content scalars is =
    let both = and_parts _ (all_scalars ds) scalars in
    let s = stripped (encode_utf8 d) (encode_utf8_all ds) content (lacks d other) is in
    subst IsUtf8 (sym s.is) (IsUtf8-append (encode_utf8 d) s.rest (IsUtf8-encode d both.0) (next s.rest both.1 s.left))

-- a quote is the first of two
quote-first : (more content : List ℕ) → 39 ∷ more ≡ doubled 39 content → (rest : List ℕ) × (content ≡ 39 ∷ rest) × (more ≡ 39 ∷ doubled 39 rest)
quote-first more [] is = cc
quote-first more (c ∷ content) is = by_test (c == 39) refl is
  where
    by_test : (t : Bool) → (c == 39) ≡ t → 39 ∷ more ≡ cond t (c ∷ c ∷ []) (c ∷ []) ++ doubled 39 content → (rest : List ℕ) × (c ∷ content ≡ 39 ∷ rest) × (more ≡ 39 ∷ doubled 39 rest)
    by_test true quote e =
        let byte : c ≡ 39 = grind (arith, nat_tests) in
        let after : more ≡ c ∷ doubled 39 content = cc in
        (content, ap (λ (x : ℕ). x ∷ content) byte, after ∙ ap (λ (x : ℕ). x ∷ doubled 39 content) byte)
    by_test false quote e =
        let same : 39 ≡ c = cc in
        absurd (grind (arith, nat_tests))

quote-alone : (d : ℕ) → d ≡ 39 → Undoubles (d ∷ [])
unfolding encode_utf8
quote-alone d quote content scalars is =
    let first = quote-first [] content (ap (λ (x : ℕ). encode_utf8_all (x ∷ [])) (sym quote) ∙ is) in
    let none : [] ≡ 39 ∷ doubled 39 first.0 = first.2 in cc

quote-undoubles : (d e : ℕ) (ds : List ℕ) → d ≡ 39 → Undoubles ds → Undoubles (d ∷ e ∷ ds)
unfolding encode_utf8
quote-undoubles d e ds quote next content scalars is =
    let first = quote-first (encode_utf8_all (e ∷ ds)) content (ap (λ (x : ℕ). encode_utf8_all (x ∷ e ∷ ds)) (sym quote) ∙ is) in
    let second = encode_same e 39 (encode_utf8_all ds) (doubled 39 first.0) first.2 in
    let both = and_parts _ (all_scalars (e ∷ ds)) scalars in
    let others = and_parts _ (all_scalars ds) both.1 in
    subst IsUtf8 (sym first.1) (IsUtf8-append (39 ∷ []) first.0 (39 ∷ [], (refl, refl)) (next first.0 others.1 second.1))

same-or-other : (d : ℕ) → (d ≡ 39) ⊎ (d ≢ 39)
same-or-other d = by_test (d == 39) refl
  where
    by_test : (t : Bool) → (d == 39) ≡ t → (d ≡ 39) ⊎ (d ≢ 39)
    by_test true e = let same : d ≡ 39 = grind (arith, nat_tests) in inl same
    by_test false e = let other : d ≢ 39 = grind (arith, nat_tests) in inr other

undoubled : (ds : List ℕ) → Undoubles ds
undoubled [] = nothing-undoubles
undoubled (d ∷ []) = ⊎_elim (λ quote. quote-alone d quote) (λ other. other-undoubles d [] other (undoubled [])) (same-or-other d)
undoubled (d ∷ e ∷ ds) = ⊎_elim (λ quote. quote-undoubles d e ds quote (undoubled ds)) (λ other. other-undoubles d (e ∷ ds) other (undoubled (e ∷ ds))) (same-or-other d)

length-doubled : (content : List ℕ) → length content ≤ length (doubled 39 content)
length-doubled [] = omega arith
length-doubled (c ∷ content) = by_test (c == 39) (length-doubled content)
  where
    by_test : (t : Bool) → length content ≤ length (doubled 39 content) → suc (length content) ≤ length (cond t (c ∷ c ∷ []) (c ∷ []) ++ doubled 39 content)
    by_test true less = omega (arith, less)
    by_test false less = omega (arith, less)

-- ---- tokens

-- a string is UTF-8, and of no more bytes
abbrev pub IsStringIn : ℕ → TokenTree → Type 0
IsStringIn n (string_token bs) = IsUtf8 bs × (length bs ≤ n)
IsStringIn n _ = Unit {0}

string-read : (whole front bs after : List ℕ) → IsUtf8 whole → whole ≡ front ++ (quoted 39 bs ++ after) → IsUtf8 bs × (length bs ≤ length whole)
string-read whole front bs after utf8 is =
    let content = doubled 39 bs in
    let split : whole ≡ front ++ (39 ∷ (content ++ (39 ∷ after))) = is ∙ ap (λ (l : List ℕ). front ++ (39 ∷ l)) (append_assoc content (39 ∷ []) after) in
    let behind : IsUtf8 (content ++ (39 ∷ after)) = text_after 39 whole front (content ++ (39 ∷ after)) utf8 split (omega arith) in
    let long : length (content ++ (39 ∷ after)) ≡ length content + suc (length after) = length-append content (39 ∷ after) in
    let all : length whole ≡ length front + suc (length (content ++ (39 ∷ after))) = ap length split ∙ length-append front (39 ∷ (content ++ (39 ∷ after))) in
    let end : get_or (content ++ (39 ∷ after)) (length content) 0 ≡ 39 = get_or-append_seam content 39 after 0 in
    let boundary = IsCharBoundary-before_ascii (content ++ (39 ∷ after)) (length content) (omega (arith, long)) (omega (arith, end)) in
    let inner : IsUtf8 content = subst IsUtf8 (take-append_seam content (39 ∷ after)) (IsUtf8-take (content ++ (39 ∷ after)) (length content) behind boundary) in
    (undoubled inner.0 bs inner.1.0 inner.1.1, omega (arith, length-doubled bs, long, all))

token-read : (whole front text word after : List ℕ) (t : TokenTree) → IsUtf8 whole → whole ≡ front ++ text → IsFront text t word after → IsStringIn (length whole) t
token-read whole front text word after (string_token bs) utf8 is begins =
    string-read whole front bs after utf8 (is ∙ ap (λ (l : List ℕ). front ++ l) (begins.whole ∙ ap (λ (w : List ℕ). w ++ after) begins.spelled))
token-read whole front text word after _ utf8 is begins = tt

items-read : (whole : List ℕ) → IsUtf8 whole → (end : ℕ) (front text : List ℕ) (items : List Item) (rest : List ℕ) → whole ≡ front ++ text → Leads end text items rest → AllByRecursion (IsStringIn (length whole)) (tokens_in items)
items-read whole utf8 end front text [] rest is h = tt
items-read whole utf8 end front text (item ∷ items) rest is h =
    let word = h.0 in
    let after = h.1 in
    let spaces = take (prefix_len is_ascii_whitespace after) after in
    let cut : after ≡ spaces ++ trimmed after = sym (take-append-drop (prefix_len is_ascii_whitespace after) after) in
    let next : whole ≡ (front ++ (word ++ spaces)) ++ trimmed after
    = is ∙ ap (λ (l : List ℕ). front ++ l) (h.2.whole ∙ ap (λ (l : List ℕ). word ++ l) cut ∙ sym (append_assoc word spaces (trimmed after))) ∙ sym (append_assoc front (word ++ spaces) (trimmed after)) in
    (token-read whole front text word after item.token utf8 is h.2, items-read whole utf8 end (front ++ (word ++ spaces)) (trimmed after) items rest next h.4)

-- the strings among the tokens of a text
pub strings-read : (text : List ℕ) (items : List Item) → IsUtf8 text → AreItemsOf text items → AllByRecursion (IsStringIn (length text)) (tokens_in items)
strings-read text items utf8 h =
    items-read text utf8 (length text) (take (prefix_len is_ascii_whitespace text) text) (trimmed text) items [] (sym (take-append-drop (prefix_len is_ascii_whitespace text) text)) h

-- ---- patterns

part-is : (c : ℕ) → IsScalar c → IsPart (part_of c)
part-is c scalar = by_tests (c == 37) (c == 95)
  where
    by_tests : (a b : Bool) → IsPart (cond a any_string (cond b any_character (literal c)))
    by_tests true b = tt
    by_tests false true = tt
    by_tests false false = scalar

-- so many parts, of such characters
abbrev AreParts : ℕ → List Part → Type 0
AreParts n parts = AllByRecursion IsPart parts × (length parts ≤ n)

one-more : (n : ℕ) (part : Part) (o : Option (List Part)) (parts : List Part) → IsPart part → ((more : List Part) → o ≡ Some more → AreParts n more) → option_map (λ more. part ∷ more) o ≡ Some parts → AreParts (suc n) parts
one-more n part None parts is next e = cc
one-more n part (Some more) parts is next e =
    let same : part ∷ more ≡ parts = cc in
    let m = next more refl in
    subst (AreParts (suc n)) same ((is, m.0), omega (arith, m.1))

parts-of : (escape : Option ℕ) (escaped : Bool) (cs : List ℕ) (parts : List Part) → all_scalars cs ≡ true → parts_from escape escaped cs ≡ Some parts → AreParts (length cs) parts
unfolding parts_from
parts-of escape false [] parts scalars e = let same : [] ≡ parts = cc in subst (AreParts 0) same (tt, omega arith)
parts-of escape true [] parts scalars e = cc
parts-of escape true (c ∷ cs) parts scalars e =
    let both = and_parts _ (all_scalars cs) scalars in
    one-more (length cs) (literal c) (parts_from escape false cs) parts both.0 (λ more is. parts-of escape false cs more both.1 is) e
parts-of escape false (c ∷ cs) parts scalars e =
    let both = and_parts _ (all_scalars cs) scalars in
    by_test both.0 (λ more is. parts-of escape true cs more both.1 is) (λ more is. parts-of escape false cs more both.1 is) (is_escape escape c) e
  where
    by_test : IsScalar c → ((more : List Part) → parts_from escape true cs ≡ Some more → AreParts (length cs) more) → ((more : List Part) → parts_from escape false cs ≡ Some more → AreParts (length cs) more)
        → (t : Bool) → cond t (parts_from escape true cs) (option_map (λ more. part_of c ∷ more) (parts_from escape false cs)) ≡ Some parts → AreParts (suc (length cs)) parts
    by_test scalar escaped plain true is = let m = escaped parts is in (m.0, omega (arith, m.1))
    by_test scalar escaped plain false is = one-more (length cs) (part_of c) (parts_from escape false cs) parts (part-is c scalar) plain is

-- a pattern that a text spells has no more parts than the text has bytes
pub parts-read : (escape : Option ℕ) (text : List ℕ) (parts : List Part) → IsUtf8 text → pattern_of escape (chars text) ≡ Some parts → AllByRecursion IsPart parts × (length parts ≤ length text)
parts-read escape text parts utf8 e =
    let spelled : chars text ≡ utf8.0 = ap chars (sym utf8.1.1) ∙ chars-encodes utf8.0 utf8.1.0 in
    let m = parts-of escape false (chars text) parts (ap all_scalars spelled ∙ utf8.1.0) e in
    let few : length (chars text) ≤ length text = subst (λ (l : List ℕ). length l ≤ length text) (sym spelled) (subst (λ (l : List ℕ). length utf8.0 ≤ length l) utf8.1.1 (length-le-encodes utf8.0)) in
    (m.0, omega (arith, m.1, few))
