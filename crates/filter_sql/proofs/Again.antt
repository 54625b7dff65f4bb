-- What is spelled as a token says is read as that token.
use Rattle.std.proofs.Common.{◌≡◌, ◌⊎◌, inl, inr, ℕ, ◌+◌, ◌-◌, ◌||◌, ◌&&◌, List, [], ◌∷◌, ◌++◌, Some, None, Option, IfSome, option_and_then, Bool, true, false, not, Ok, append_assoc, add-one, nat_lt, length-append, length, get_or, take, drop, map, refl, sym, ap, ◌∙◌, arith, ◌==◌}
use Rattle.std.specs.Char.{is_ascii_digit, to_ascii_lowercase}
use Rattle.std.specs.List.{AllByRecursion, prefix_len, position_or_len, list_all, find}
use Rattle.std.specs.Str.{bytes_eq}
use Rattle.std.specs.Str.Parse.{AllDigits, IsNumeral}
use Rattle.std.proofs.lemmas.Bool.Decides.{nat_tests}
use Rattle.std.proofs.lemmas.Str.Parse.{digit_from_value}
use Rattle.std.proofs.lemmas.List.Elements.{recursion_from_All}
use Rattle.std.proofs.lemmas.Str.Ascii.{lowercase-lowercase}
use Rattle.filter_sql.proofs.Cuts.{drop-behind, unquoted_other}
use Rattle.hex.specs.Hex.{decode_of, is_hex_digit}
use Rattle.hex.proofs.HexLemmas.{decode_of-ok}
use Rattle.vortex_filter.specs.declared.operator.CompareOperator.{CompareOperator}
use Rattle.vortex_filter.specs.declared.operator.CompareOperator.TheVariants as operators
use Rattle.filter_sql.specs.declared.token.Keyword.{Keyword}
use Rattle.filter_sql.specs.declared.token.Keyword.TheVariants as keywords
use Rattle.filter_sql.specs.Tokens.{TokenTree, keyword_token, name_token, number_token, string_token, bytes_token, operator_token, opening, closing, comma, verbatim, all_keywords, keyword_text, keyword_named, doubled, quoted, sign_text, Power, Sign, no_sign, plus_sign, minus_sign, IsNumber, IsPower, fraction_text, is_e, is_point, number_goes_on, power_sign, power_text, is_word, is_word_byte, is_word_start, is_x, name_goes_on, goes_on, IsBareName, Spells}
use Rattle.filter_sql.specs.Lexing.{after_digits, after_fraction, after_minus, after_number, after_power, after_sign, bytes_at, is_quote, mark_of, number_at, other_at, parameter_at, token_at, unquoted_at, with_byte, word_at, word_token}

-- ---- runs

-- each byte passes
abbrev pub AllPassing : (ℕ → Bool) → List ℕ → Type 0
AllPassing p bs = AllByRecursion (λ b. p b ≡ true) bs

-- a run ends where a byte does not pass
pub run_len : (p : ℕ → Bool) (word rest : List ℕ) → AllPassing p word → p (get_or rest 0 0) ≡ false → prefix_len p (word ++ rest) ≡ length word
run_len p [] [] all stops = refl
run_len p [] (b ∷ rest) all stops = rw stops refl
run_len p (b ∷ word) rest all stops = rw (all.0, run_len p word rest all.1 stops) (omega arith)

pub take_word : (word rest : List ℕ) → take (length word) (word ++ rest) ≡ word
take_word [] rest = refl
take_word (b ∷ word) rest = ap (λ l. b ∷ l) (take_word word rest)

pub drop_word : (word rest : List ℕ) → drop (length word) (word ++ rest) ≡ rest
drop_word [] rest = refl
drop_word (b ∷ word) rest = drop_word word rest

pub digits_pass : (digits : List ℕ) → AllDigits 10 digits → AllPassing is_ascii_digit digits
digits_pass [] all = tt
digits_pass (c ∷ cs) all =
    let range = digit_from_value c all.0 in
    let digit : is_ascii_digit c ≡ true = grind (arith, nat_tests) in
    (digit, digits_pass cs all.1)

-- ---- numbers

digits_again : (digits rest : List ℕ) → IsNumeral 10 digits → is_ascii_digit (get_or rest 0 0) ≡ false → after_digits (digits ++ rest) ≡ Some rest
unfolding after_digits
digits_again digits rest numeral stops =
    let count = run_len is_ascii_digit digits rest (digits_pass digits numeral.1) stops in
    let some : (length digits == 0) ≡ false = grind (arith, nat_tests, numeral.0) in
    rw (count, some, drop_word digits rest) refl

-- what may stand behind a number
record IsOutside (next : ℕ) : Type 0 where
  pub digit : is_ascii_digit next ≡ false
  pub point : is_point next ≡ false
  pub power : is_e next ≡ false

no_or : (a b : Bool) → (a || b) ≡ false → (a ≡ false) × (b ≡ false)
no_or false b h = (refl, h)
no_or true b h = cc

outside : (next : ℕ) → number_goes_on next ≡ false → IsOutside next
outside next h =
    let a = no_or (is_ascii_digit next) (is_point next || is_e next) h in
    let b = no_or (is_point next) (is_e next) a.1 in
    record { digit = a.0; point = b.0; power = b.1 }

sign_again : (s : Sign) (digits rest : List ℕ) → IsNumeral 10 digits → after_sign ((power_sign s ++ digits) ++ rest) ≡ digits ++ rest
sign_again plus_sign digits rest numeral = refl
sign_again minus_sign digits rest numeral = refl
sign_again no_sign [] rest numeral = absurd (omega (arith, numeral.0))
sign_again no_sign (d ∷ ds) rest numeral =
    let digit : is_ascii_digit d ≡ true = (digits_pass (d ∷ ds) numeral.1).0 in
    let none : (d == 43 || d == 45) ≡ false = grind (arith, nat_tests) in
    rw none refl

power_again : (power : Option Power) (rest : List ℕ) → IfSome power IsPower → IsOutside (get_or rest 0 0) → after_power (power_text power ++ rest) ≡ Some rest
unfolding after_power
power_again None rest is ends = rw ends.power refl
power_again (Some p) rest is ends =
    let letter : is_e p.letter ≡ true = grind (arith, nat_tests, is.0) in
    rw letter (ap after_digits (sign_again p.sign p.digits rest is.1) ∙ digits_again p.digits rest is.1 ends.digit)

pub an_e : (b : ℕ) → to_ascii_lowercase b ≡ 101 → (b ≡ 69) ⊎ (b ≡ 101)
an_e b h = grind (arith, nat_tests)

-- the byte behind the digits of a fraction, and behind those before a point
power_first : (power : Option Power) (rest : List ℕ) → IfSome power IsPower → IsOutside (get_or rest 0 0)
    → (is_ascii_digit (get_or (power_text power ++ rest) 0 0) ≡ false) × (is_point (get_or (power_text power ++ rest) 0 0) ≡ false)
power_first None rest is ends = (ends.digit, ends.point)
power_first (Some p) rest is ends = by_letter (an_e p.letter is.0)
  where
    by_letter : (p.letter ≡ 69) ⊎ (p.letter ≡ 101) → (is_ascii_digit p.letter ≡ false) × (is_point p.letter ≡ false)
    by_letter (inl upper) = rw upper (refl, refl)
    by_letter (inr lower) = rw lower (refl, refl)

fraction_first : (fraction : Option (List ℕ)) (tail : List ℕ) → is_ascii_digit (get_or tail 0 0) ≡ false → is_ascii_digit (get_or (fraction_text fraction ++ tail) 0 0) ≡ false
fraction_first None tail stops = stops
fraction_first (Some digits) tail stops = refl

fraction_again : (fraction : Option (List ℕ)) (tail : List ℕ) → IfSome fraction (IsNumeral 10) → is_ascii_digit (get_or tail 0 0) ≡ false → is_point (get_or tail 0 0) ≡ false
    → after_fraction (fraction_text fraction ++ tail) ≡ Some tail
unfolding after_fraction
fraction_again None tail is digit point = rw point refl
fraction_again (Some digits) tail is digit point = digits_again digits tail is digit

unsigned_again : (whole : List ℕ) (fraction : Option (List ℕ)) (power : Option Power) (rest : List ℕ) → IsNumeral 10 whole → IfSome fraction (IsNumeral 10) → IfSome power IsPower → IsOutside (get_or rest 0 0)
    → after_number (whole ++ (fraction_text fraction ++ (power_text power ++ rest))) ≡ Some rest
unsigned_again whole fraction power rest digits places raised ends =
    let first = power_first power rest raised ends in
    ap (λ (o : Option (List ℕ)). option_and_then after_power (option_and_then after_fraction o))
    (digits_again whole (fraction_text fraction ++ (power_text power ++ rest)) digits (fraction_first fraction (power_text power ++ rest) first.0))
    ∙ ap (option_and_then after_power) (fraction_again fraction (power_text power ++ rest) places first.0 first.1)
    ∙ power_again power rest raised ends

-- a minus sign, or a digit first
minus_again : (negative : Bool) (whole more : List ℕ) → IsNumeral 10 whole → after_minus (sign_text negative ++ (whole ++ more)) ≡ whole ++ more
minus_again true whole more numeral = refl
minus_again false [] more numeral = absurd (omega (arith, numeral.0))
minus_again false (d ∷ ds) more numeral =
    let digit : is_ascii_digit d ≡ true = (digits_pass (d ∷ ds) numeral.1).0 in
    let none : (d == 45) ≡ false = grind (arith, nat_tests) in
    rw none refl

pub regrouped : (sign whole fraction power rest : List ℕ) → (sign ++ (whole ++ (fraction ++ power))) ++ rest ≡ sign ++ (whole ++ (fraction ++ (power ++ rest)))
regrouped sign whole fraction power rest =
    append_assoc sign (whole ++ (fraction ++ power)) rest
    ∙ ap (λ (l : List ℕ). sign ++ l) (append_assoc whole (fraction ++ power) rest ∙ ap (λ (l : List ℕ). whole ++ l) (append_assoc fraction power rest))

number_read : (word rest : List ℕ) → IsNumber word → number_goes_on (get_or rest 0 0) ≡ false → number_at (word ++ rest) ≡ Ok (number_token word, rest)
unfolding number_at
number_read word rest is ends =
    let more : List ℕ = fraction_text is.fraction ++ (power_text is.power ++ rest) in
    let text : word ++ rest ≡ sign_text is.negative ++ (is.whole ++ more) = ap (λ (l : List ℕ). l ++ rest) is.text ∙ regrouped (sign_text is.negative) is.whole (fraction_text is.fraction) (power_text is.power) rest in
    let read : after_number (after_minus (word ++ rest)) ≡ Some rest =
    ap (λ (l : List ℕ). after_number (after_minus l)) text ∙ ap after_number (minus_again is.negative is.whole more is.digits)
    ∙ unsigned_again is.whole is.fraction is.power rest is.digits is.places is.raised (outside (get_or rest 0 0) ends) in
    let count : length (word ++ rest) - length rest ≡ length word = simp length-append (omega arith) in
    rw (read, ends, count, take_word word rest) refl

parameter_again : (digits rest : List ℕ) → IsNumeral 10 digits → is_ascii_digit (get_or rest 0 0) ≡ false
    → parameter_at (36 ∷ (digits ++ rest)) ≡ Ok (name_token (36 ∷ digits), rest)
unfolding parameter_at
parameter_again digits rest numeral stops =
    let count = run_len is_ascii_digit digits rest (digits_pass digits numeral.1) stops in
    let some : (length digits == 0) ≡ false = grind (arith, nat_tests, numeral.0) in
    rw (count, some, add-one, take_word digits rest, drop_word digits rest) refl

-- ---- quotes

same : (b : ℕ) → (b == b) ≡ true
same b = grind (arith, nat_tests)

-- what stands in quotes is read, up to a lone quote
pub unquoted_again : (quote : ℕ) (content rest : List ℕ) → (get_or rest 0 0 == quote) ≡ false → unquoted_at quote (doubled quote content ++ (quote ∷ rest)) ≡ Some (content, rest)
unfolding unquoted_at
unquoted_again quote [] [] lone = rw (same quote) refl
unquoted_again quote [] (c ∷ rest) lone = rw (same quote, lone) refl
unquoted_again quote (b ∷ bs) rest lone = by_test (unquoted_again quote bs rest lone) (b == quote) refl
  where
    by_test : unquoted_at quote (doubled quote bs ++ (quote ∷ rest)) ≡ Some (bs, rest) → (t : Bool) → (b == quote) ≡ t → unquoted_at quote (doubled quote (b ∷ bs) ++ (quote ∷ rest)) ≡ Some (b ∷ bs, rest)
    by_test before true is =
        let is_quote : b ≡ quote = grind (arith, nat_tests) in
        let text : doubled quote (b ∷ bs) ++ (quote ∷ rest) ≡ b ∷ b ∷ (doubled quote bs ++ (quote ∷ rest)) = rw is refl in
        let read : unquoted_at quote (b ∷ b ∷ (doubled quote bs ++ (quote ∷ rest))) ≡ with_byte quote (unquoted_at quote (doubled quote bs ++ (quote ∷ rest))) = rw is refl in
        ap (unquoted_at quote) text ∙ read ∙ ap (with_byte quote) before ∙ ap (λ (c : ℕ). Some (c ∷ bs, rest)) (sym is_quote)
    by_test before false other =
        let text : doubled quote (b ∷ bs) ++ (quote ∷ rest) ≡ b ∷ (doubled quote bs ++ (quote ∷ rest)) = rw other refl in
        ap (unquoted_at quote) text ∙ unquoted_other quote b (doubled quote bs ++ (quote ∷ rest)) other ∙ ap (with_byte b) before

-- ---- bytes

no_quotes : (digits : List ℕ) → AllPassing is_hex_digit digits → AllPassing (λ b. not (is_quote b)) digits
no_quotes [] all = tt
no_quotes (c ∷ cs) all =
    let here : is_hex_digit c ≡ true = all.0 in
    let other : not (is_quote c) ≡ true = grind (arith, nat_tests) in
    (other, no_quotes cs all.1)

bytes_again : (digits content rest : List ℕ) → decode_of digits ≡ Ok content → bytes_at (digits ++ (39 ∷ rest)) ≡ Ok (bytes_token content, rest)
unfolding bytes_at
bytes_again digits content rest decoded =
    let ok = decode_of-ok digits content decoded in
    let place : position_or_len is_quote (digits ++ (39 ∷ rest)) ≡ length digits = run_len (λ b. not (is_quote b)) digits (39 ∷ rest) (no_quotes digits (recursion_from_All _ digits ok.1)) refl in
    let size = length-append digits (39 ∷ rest) in
    let within : nat_lt (length digits) (length (digits ++ (39 ∷ rest))) ≡ true = grind (arith, nat_tests) in
    let front : take (length digits) (digits ++ (39 ∷ rest)) ≡ digits = take_word digits (39 ∷ rest) in
    let behind : drop (length digits + 1) (digits ++ (39 ∷ rest)) ≡ rest = rw add-one (drop-behind digits rest 39) in
    rw (place, within, front, behind, decoded) refl

-- ---- words

lower_byte : (b : ℕ) → is_word_byte (to_ascii_lowercase b) ≡ is_word_byte b
lower_byte b = grind (arith, nat_tests)

lower_start : (b : ℕ) → is_word_start (to_ascii_lowercase b) ≡ is_word_start b
lower_start b = grind (arith, nat_tests)

pub both_true : (a b : Bool) → (a && b) ≡ true → (a ≡ true) × (b ≡ true)
both_true true b h = (refl, h)
both_true false b h = cc

neither : (a b : Bool) → (a || b) ≡ false → (a ≡ false) × (b ≡ false)
neither true b h = cc
neither false b h = (refl, h)

all_passing : (p : ℕ → Bool) (bs : List ℕ) → list_all p bs ≡ true → AllPassing p bs
all_passing p [] h = tt
all_passing p (b ∷ bs) h = let parts = both_true (p b) (list_all p bs) h in (parts.0, all_passing p bs parts.1)

-- no mark begins as a word does
mark_of_word : (b second : ℕ) → is_word_start b ≡ true → mark_of b second ≡ None
unfolding mark_of
mark_of_word b second start = grind (arith, nat_tests)

other_at_word : (b second : ℕ) (text : List ℕ) → is_word_start b ≡ true → ((to_ascii_lowercase b == 120) && (second == 39)) ≡ false → other_at b second text ≡ word_at text
other_at_word b second text start other =
    let q : (b == 34) ≡ false = grind (arith, nat_tests) in
    let r : (b == 39) ≡ false = grind (arith, nat_tests) in
    let m : (b == 45 || is_ascii_digit b) ≡ false = grind (arith, nat_tests) in
    let d : (b == 36) ≡ false = grind (arith, nat_tests) in
    rw (q, r, m, d, other, start) refl

word_read : (word rest : List ℕ) → is_word word ≡ true → is_word_byte (get_or rest 0 0) ≡ false → word_at (word ++ rest) ≡ Ok (word_token word (keyword_named word), rest)
unfolding word_at
word_read [] rest is stops = cc
word_read (b ∷ bs) rest is stops =
    let parts = both_true (is_word_start b) (list_all is_word_byte bs) is in
    let first : is_word_byte b ≡ true = rw parts.0 refl in
    let count = run_len is_word_byte (b ∷ bs) rest (first, all_passing is_word_byte bs parts.1) stops in
    rw (count, take_word (b ∷ bs) rest, drop_word (b ∷ bs) rest) refl

-- what stands behind the first byte of a word makes it no bytes
no_bytes : (b : ℕ) (bs rest : List ℕ) → list_all is_word_byte bs ≡ true → (is_x (b ∷ bs) && (get_or rest 0 0 == 39)) ≡ false
    → ((to_ascii_lowercase b == 120) && (get_or (bs ++ rest) 0 0 == 39)) ≡ false
no_bytes b [] rest all other = other
no_bytes b (c ∷ bs) rest all other =
    let here = (both_true (is_word_byte c) (list_all is_word_byte bs) all).0 in
    let quote : (c == 39) ≡ false = grind (arith, nat_tests) in
    grind (arith, nat_tests)

-- a word is read whole
word_again : (word rest : List ℕ) → is_word word ≡ true → is_word_byte (get_or rest 0 0) ≡ false → (is_x word && (get_or rest 0 0 == 39)) ≡ false
    → token_at (word ++ rest) ≡ Ok (word_token word (keyword_named word), rest)
unfolding token_at
word_again [] rest is stops other = cc
word_again (b ∷ bs) rest is stops other =
    let parts = both_true (is_word_start b) (list_all is_word_byte bs) is in
    rw (mark_of_word b (get_or (bs ++ rest) 0 0) parts.0)
    (other_at_word b _ _ parts.0 (no_bytes b bs rest parts.1 other) ∙ word_read (b ∷ bs) rest is stops)

-- ---- keywords

lower_all : (bs : List ℕ) → list_all is_word_byte (map to_ascii_lowercase bs) ≡ list_all is_word_byte bs
lower_all [] = refl
lower_all (b ∷ bs) = rw (lower_byte b, lower_all bs) refl

lower_word : (bs : List ℕ) → is_word (map to_ascii_lowercase bs) ≡ is_word bs
lower_word [] = refl
lower_word (b ∷ bs) = rw (lower_start b, lower_all bs) refl

lower_x : (bs : List ℕ) → is_x (map to_ascii_lowercase bs) ≡ is_x bs
lower_x [] = refl
lower_x (b ∷ []) = rw (lowercase-lowercase b) refl
lower_x (b ∷ c ∷ bs) = refl

keyword_is_word : (k : Keyword) → (is_word (keyword_text k) ≡ true) × (is_x (keyword_text k) ≡ false)
keyword_is_word keywords.And = (refl, refl)
keyword_is_word keywords.Or = (refl, refl)
keyword_is_word keywords.Not = (refl, refl)
keyword_is_word keywords.In = (refl, refl)
keyword_is_word keywords.Is = (refl, refl)
keyword_is_word keywords.Null = (refl, refl)
keyword_is_word keywords.Between = (refl, refl)
keyword_is_word keywords.Like = (refl, refl)
keyword_is_word keywords.Ilike = (refl, refl)
keyword_is_word keywords.Escape = (refl, refl)
keyword_is_word keywords.True = (refl, refl)
keyword_is_word keywords.False = (refl, refl)
keyword_is_word keywords.StartsWith = (refl, refl)

keyword_found : (k : Keyword) → find (λ other. bytes_eq (keyword_text k) (keyword_text other)) all_keywords ≡ Some k
keyword_found keywords.And = refl
keyword_found keywords.Or = refl
keyword_found keywords.Not = refl
keyword_found keywords.In = refl
keyword_found keywords.Is = refl
keyword_found keywords.Null = refl
keyword_found keywords.Between = refl
keyword_found keywords.Like = refl
keyword_found keywords.Ilike = refl
keyword_found keywords.Escape = refl
keyword_found keywords.True = refl
keyword_found keywords.False = refl
keyword_found keywords.StartsWith = refl

keyword_again : (k : Keyword) (word rest : List ℕ) → map to_ascii_lowercase word ≡ keyword_text k → is_word_byte (get_or rest 0 0) ≡ false → token_at (word ++ rest) ≡ Ok (keyword_token k, rest)
unfolding keyword_named
keyword_again k word rest spelled stops =
    let facts = keyword_is_word k in
    let is : is_word word ≡ true = sym (lower_word word) ∙ ap is_word spelled ∙ facts.0 in
    let x : is_x word ≡ false = sym (lower_x word) ∙ ap is_x spelled ∙ facts.1 in
    let named : keyword_named word ≡ Some k = rw spelled (keyword_found k) in
    word_again word rest is stops (rw x refl) ∙ rw named refl

-- ---- names

pub quoted_text : (quote : ℕ) (content rest : List ℕ) → quoted quote content ++ rest ≡ quote ∷ (doubled quote content ++ (quote ∷ rest))
quoted_text quote content rest = ap (λ l. quote ∷ l) (append_assoc (doubled quote content) (quote ∷ []) rest)

bare_again : (word rest : List ℕ) → is_word word ≡ true → keyword_named word ≡ None → name_goes_on word (get_or rest 0 0) ≡ false → token_at (word ++ rest) ≡ Ok (name_token word, rest)
bare_again [] rest is none ends = cc
bare_again (b ∷ bs) rest is none ends =
    let start = (both_true (is_word_start b) (list_all is_word_byte bs) is).0 in
    let q : (b == 34) ≡ false = grind (arith, nat_tests) in
    let d : (b == 36) ≡ false = grind (arith, nat_tests) in
    let parts = neither (is_word_byte (get_or rest 0 0)) (is_x (b ∷ bs) && (get_or rest 0 0 == 39)) (rw (q, d) at ends) in
    word_again (b ∷ bs) rest is parts.0 parts.1 ∙ rw none refl

name_again : (content word rest : List ℕ) → (IsBareName content × (word ≡ content)) ⊎ (word ≡ quoted 34 content) → name_goes_on word (get_or rest 0 0) ≡ false → token_at (word ++ rest) ≡ Ok (name_token content, rest)
unfolding token_at mark_of
name_again content word rest (inl (inl (is, none), same_name)) ends =
    rw same_name (bare_again content rest is none (rw same_name at ends))
name_again content word rest (inl (inr (digits, is, numeral), same_name)) ends =
    let spelled : word ≡ 36 ∷ digits = same_name ∙ is in
    rw (spelled, is) (parameter_again digits rest numeral (rw spelled at ends))
name_again content word rest (inr whole) ends =
    let read = unquoted_again 34 content rest (rw whole at ends) in
    rw (whole, quoted_text 34 content rest, read) refl

-- ---- numbers

digit_first : (b second : ℕ) → is_ascii_digit b ≡ true → mark_of b second ≡ None
unfolding mark_of
digit_first b second digit = grind (arith, nat_tests)

other_at_digit : (b second : ℕ) (text : List ℕ) → is_ascii_digit b ≡ true → other_at b second text ≡ number_at text
other_at_digit b second text digit =
    let q : (b == 34) ≡ false = grind (arith, nat_tests) in
    let r : (b == 39) ≡ false = grind (arith, nat_tests) in
    let m : (b == 45 || is_ascii_digit b) ≡ true = grind (arith, nat_tests) in
    rw (q, r, m) refl

-- what begins with a minus sign or a digit is a number
begins_number : (negative : Bool) (whole more : List ℕ) → IsNumeral 10 whole → token_at (sign_text negative ++ (whole ++ more)) ≡ number_at (sign_text negative ++ (whole ++ more))
unfolding token_at mark_of
begins_number true whole more numeral = refl
begins_number false [] more numeral = absurd (omega (arith, numeral.0))
begins_number false (d ∷ ds) more numeral =
    let digit : is_ascii_digit d ≡ true = (digits_pass (d ∷ ds) numeral.1).0 in
    rw (digit_first d (get_or (ds ++ more) 0 0) digit) (other_at_digit d _ _ digit)

number_again : (word rest : List ℕ) → IsNumber word → number_goes_on (get_or rest 0 0) ≡ false → token_at (word ++ rest) ≡ Ok (number_token word, rest)
number_again word rest is ends =
    let more : List ℕ = fraction_text is.fraction ++ (power_text is.power ++ rest) in
    let text : word ++ rest ≡ sign_text is.negative ++ (is.whole ++ more) = ap (λ (l : List ℕ). l ++ rest) is.text ∙ regrouped (sign_text is.negative) is.whole (fraction_text is.fraction) (power_text is.power) rest in
    ap token_at text ∙ begins_number is.negative is.whole more is.digits ∙ ap number_at (sym text) ∙ number_read word rest is ends

-- ---- all tokens

an_x : (x : ℕ) → to_ascii_lowercase x ≡ 120 → (x ≡ 88) ⊎ (x ≡ 120)
an_x x h = grind (arith, nat_tests)

pub hex_text : (x : ℕ) (digits rest : List ℕ) → (x ∷ 39 ∷ (digits ++ 39 ∷ [])) ++ rest ≡ x ∷ 39 ∷ (digits ++ (39 ∷ rest))
hex_text x digits rest = ap (λ l. x ∷ 39 ∷ l) (append_assoc digits (39 ∷ []) rest)

hex_again : (x : ℕ) (digits content rest : List ℕ) → (x ≡ 88) ⊎ (x ≡ 120) → decode_of digits ≡ Ok content → token_at (x ∷ 39 ∷ (digits ++ (39 ∷ rest))) ≡ Ok (bytes_token content, rest)
unfolding token_at mark_of
hex_again x digits content rest (inl upper) decoded = rw upper (bytes_again digits content rest decoded)
hex_again x digits content rest (inr lower) decoded = rw lower (bytes_again digits content rest decoded)

operator_again : (o : CompareOperator) (word rest : List ℕ) → Spells (operator_token o) word → goes_on (operator_token o) word (get_or rest 0 0) ≡ false → token_at (word ++ rest) ≡ Ok (operator_token o, rest)
unfolding token_at mark_of
operator_again operators.Eq word rest spelled ends = rw spelled refl
operator_again operators.NotEq word rest (inl spelled) ends = rw spelled refl
operator_again operators.NotEq word rest (inr spelled) ends = rw spelled refl
operator_again operators.Gt word rest spelled ends = rw (spelled, ends) refl
operator_again operators.Gte word rest spelled ends = rw spelled refl
operator_again operators.Lt word rest spelled ends =
    let parts = neither (get_or rest 0 0 == 61) (get_or rest 0 0 == 62) ends in
    rw (spelled, parts.0, parts.1) refl
operator_again operators.Lte word rest spelled ends = rw spelled refl

-- what a text begins with is read, and what follows is left
pub token_again : (t : TokenTree) (word rest : List ℕ) → Spells t word → goes_on t word (get_or rest 0 0) ≡ false → token_at (word ++ rest) ≡ Ok (t, rest)
unfolding token_at mark_of
token_again (keyword_token k) word rest spelled ends = keyword_again k word rest spelled ends
token_again (name_token content) word rest spelled ends = name_again content word rest spelled ends
token_again (number_token number) word rest (whole, is) ends = rw whole (number_again number rest is ends)
token_again (string_token content) word rest whole ends =
    let read = unquoted_again 39 content rest ends in
    rw (whole, quoted_text 39 content rest, read) refl
token_again (bytes_token content) word rest (x, digits, an, whole, decoded) ends =
    let text : word ++ rest ≡ x ∷ 39 ∷ (digits ++ (39 ∷ rest)) = rw whole (hex_text x digits rest) in
    rw text (hex_again x digits content rest (an_x x an) decoded)
token_again (operator_token o) word rest spelled ends = operator_again o word rest spelled ends
token_again opening word rest spelled ends = rw spelled refl
token_again closing word rest spelled ends = rw spelled refl
token_again comma word rest spelled ends = rw spelled refl
token_again (verbatim text) word rest spelled ends = absurd spelled
