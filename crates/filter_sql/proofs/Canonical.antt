-- Printed tokens are read as themselves.
use Rattle.std.proofs.Common.{◌≡◌, inl, inr, ℕ, zero, suc, ◌<◌, ◌==◌, ◌||◌, ◌&&◌, Bool, true, false, cond, List, [], ◌∷◌, ◌++◌, Ok, length, get_or, map, refl, sym, subst, arith, append-nil}
use Rattle.std.specs.Char.{is_ascii_digit, is_ascii_whitespace, to_ascii_lowercase}
use Rattle.std.specs.List.{AllByRecursion, prefix_len}
use Rattle.std.specs.Str.Parse.{IsNumeral}
use Rattle.std.proofs.lemmas.Bool.Decides.{nat_tests}
use Rattle.std.proofs.lemmas.Str.Parse.{digit_from_value}
use Rattle.hex.specs.Hex.{IsBytes, encode_lower}
use Rattle.hex.proofs.HexLemmas.{decode_of-encode_lower}
use Rattle.vortex_filter.specs.declared.operator.CompareOperator.TheVariants as operators
use Rattle.filter_sql.specs.declared.token.Keyword.{Keyword}
use Rattle.filter_sql.specs.declared.token.Keyword.TheVariants as keywords
use Rattle.filter_sql.specs.Tokens.{TokenTree, keyword_token, name_token, number_token, string_token, bytes_token, operator_token, opening, closing, comma, verbatim, canonical, gap, goes_on, is_close_behind, is_joined, is_opening, is_word_byte, is_x, keyword_text, number_goes_on, sign_text, fraction_text, power_text, spelling, AreTokens, IsToken, Spells}
use Rattle.filter_sql.specs.Lexing.{token_at}
use Rattle.filter_sql.specs.Texts.{trimmed}
use Rattle.filter_sql.proofs.Again.{token_again}
use Rattle.filter_sql.proofs.Runs.{Reads}

-- ---- the spelling that is printed

one_more_byte : (b : ℕ) (bs : List ℕ) → b < 256 → IsBytes bs → IsBytes (b ∷ bs)
one_more_byte b bs here all = λ i. at i
  where
    at : (i : ℕ) → get_or (b ∷ bs) i 0 < 256
    at zero = here
    at (suc i) = all i

are_bytes : (content : List ℕ) → AllByRecursion (λ b. b < 256) content → IsBytes content
are_bytes [] all = λ i. omega arith
are_bytes (b ∷ bs) all = one_more_byte b bs all.0 (are_bytes bs all.1)

keyword_spelled : (k : Keyword) → map to_ascii_lowercase (keyword_text k) ≡ keyword_text k
keyword_spelled keywords.And = refl
keyword_spelled keywords.Or = refl
keyword_spelled keywords.Not = refl
keyword_spelled keywords.In = refl
keyword_spelled keywords.Is = refl
keyword_spelled keywords.Null = refl
keyword_spelled keywords.Between = refl
keyword_spelled keywords.Like = refl
keyword_spelled keywords.Ilike = refl
keyword_spelled keywords.Escape = refl
keyword_spelled keywords.True = refl
keyword_spelled keywords.False = refl
keyword_spelled keywords.StartsWith = refl

spelled : (t : TokenTree) → IsToken t → Spells t (spelling t)
spelled (keyword_token k) is = keyword_spelled k
spelled (name_token content) is = inr refl
spelled (number_token word) is = (refl, is)
spelled (string_token content) is = refl
spelled (bytes_token content) all = (120, encode_lower content, refl, refl, decode_of-encode_lower content (are_bytes content all))
spelled (operator_token operators.Eq) is = refl
spelled (operator_token operators.NotEq) is = inl refl
spelled (operator_token operators.Gt) is = refl
spelled (operator_token operators.Gte) is = refl
spelled (operator_token operators.Lt) is = refl
spelled (operator_token operators.Lte) is = refl
spelled opening is = refl
spelled closing is = refl
spelled comma is = refl
spelled (verbatim text) is = absurd is

-- a text that begins with a byte that is no white space
record IsDark (text : List ℕ) : Type 0 where
  pub some : 0 < length text
  pub dark : is_ascii_whitespace (get_or text 0 0) ≡ false

dark_numeral : (digits : List ℕ) → IsNumeral 10 digits → IsDark digits
dark_numeral [] numeral = absurd (omega (arith, numeral.0))
dark_numeral (c ∷ cs) numeral =
    let range = digit_from_value c numeral.1.0 in
    record { some = omega arith; dark = grind (arith, nat_tests) }

dark_keyword : (k : Keyword) → IsDark (keyword_text k)
dark_keyword keywords.And = record { some = omega arith; dark = refl }
dark_keyword keywords.Or = record { some = omega arith; dark = refl }
dark_keyword keywords.Not = record { some = omega arith; dark = refl }
dark_keyword keywords.In = record { some = omega arith; dark = refl }
dark_keyword keywords.Is = record { some = omega arith; dark = refl }
dark_keyword keywords.Null = record { some = omega arith; dark = refl }
dark_keyword keywords.Between = record { some = omega arith; dark = refl }
dark_keyword keywords.Like = record { some = omega arith; dark = refl }
dark_keyword keywords.Ilike = record { some = omega arith; dark = refl }
dark_keyword keywords.Escape = record { some = omega arith; dark = refl }
dark_keyword keywords.True = record { some = omega arith; dark = refl }
dark_keyword keywords.False = record { some = omega arith; dark = refl }
dark_keyword keywords.StartsWith = record { some = omega arith; dark = refl }

dark_behind : (digits more : List ℕ) → IsNumeral 10 digits → IsDark (digits ++ more)
dark_behind [] more numeral = absurd (omega (arith, numeral.0))
dark_behind (c ∷ cs) more numeral = record { some = omega arith; dark = (dark_numeral (c ∷ cs) numeral).dark }

dark_signed : (negative : Bool) (digits more : List ℕ) → IsNumeral 10 digits → IsDark (sign_text negative ++ (digits ++ more))
dark_signed true digits more numeral = record { some = omega arith; dark = refl }
dark_signed false digits more numeral = dark_behind digits more numeral

-- no token begins with white space
dark_token : (t : TokenTree) → IsToken t → IsDark (spelling t)
dark_token (keyword_token k) is = dark_keyword k
dark_token (name_token content) is = record { some = omega arith; dark = refl }
dark_token (number_token word) is = subst IsDark (sym is.text) (dark_signed is.negative is.whole (fraction_text is.fraction ++ power_text is.power) is.digits)
dark_token (string_token content) is = record { some = omega arith; dark = refl }
dark_token (bytes_token content) all = record { some = omega arith; dark = refl }
dark_token (operator_token operators.Eq) is = record { some = omega arith; dark = refl }
dark_token (operator_token operators.NotEq) is = record { some = omega arith; dark = refl }
dark_token (operator_token operators.Gt) is = record { some = omega arith; dark = refl }
dark_token (operator_token operators.Gte) is = record { some = omega arith; dark = refl }
dark_token (operator_token operators.Lt) is = record { some = omega arith; dark = refl }
dark_token (operator_token operators.Lte) is = record { some = omega arith; dark = refl }
dark_token opening is = record { some = omega arith; dark = refl }
dark_token closing is = record { some = omega arith; dark = refl }
dark_token comma is = record { some = omega arith; dark = refl }
dark_token (verbatim text) is = absurd is

first_of : (xs ys : List ℕ) → 0 < length xs → get_or (xs ++ ys) 0 0 ≡ get_or xs 0 0
first_of [] ys some = absurd (omega arith)
first_of (b ∷ xs) ys some = refl

-- the first byte of a list's text is that of its first token
canonical_first : (u : TokenTree) (ts : List TokenTree) → IsToken u → get_or (canonical (u ∷ ts)) 0 0 ≡ get_or (spelling u) 0 0
canonical_first u [] is = refl
canonical_first u (v ∷ ts) is = first_of (spelling u) _ (dark_token u is).some

-- ---- white space

dark_is_trimmed : (text : List ℕ) → is_ascii_whitespace (get_or text 0 0) ≡ false → trimmed text ≡ text
dark_is_trimmed [] dark = refl
dark_is_trimmed (b ∷ bs) dark = rw dark refl

pub canonical_trimmed : (ts : List TokenTree) → AreTokens ts → trimmed (canonical ts) ≡ canonical ts
canonical_trimmed [] all = refl
canonical_trimmed (t ∷ ts) all = dark_is_trimmed (canonical (t ∷ ts)) (rw (canonical_first t ts all.0) (dark_token t all.0).dark)

dark_len : (text : List ℕ) → is_ascii_whitespace (get_or text 0 0) ≡ false → prefix_len is_ascii_whitespace text ≡ 0
dark_len [] dark = refl
dark_len (b ∷ bs) dark = rw dark refl

space_trimmed : (text : List ℕ) → is_ascii_whitespace (get_or text 0 0) ≡ false → trimmed (32 ∷ text) ≡ text
space_trimmed text dark = rw (dark_len text dark) refl

after_gap : (t u : TokenTree) (text : List ℕ) → is_ascii_whitespace (get_or text 0 0) ≡ false → trimmed (gap t u ++ text) ≡ text
after_gap t u text dark = by_test (is_joined t u) refl
  where
    by_test : (joined : Bool) → is_joined t u ≡ joined → trimmed (gap t u ++ text) ≡ text
    by_test true is = rw is (dark_is_trimmed text dark)
    by_test false is = rw is (space_trimmed text dark)

-- ---- what stands behind a token

-- a byte that belongs to no token before it
record IsQuiet (next : ℕ) : Type 0 where
  pub word : is_word_byte next ≡ false
  pub digit : is_ascii_digit next ≡ false
  pub quote : (next == 39) ≡ false
  pub double_quote : (next == 34) ≡ false
  pub equals : (next == 61) ≡ false
  pub greater : (next == 62) ≡ false
  pub number : number_goes_on next ≡ false

quiet_name : (a b c : Bool) (next : ℕ) → IsQuiet next → cond a (next == 34) (cond b (is_ascii_digit next) (is_word_byte next || (c && (next == 39)))) ≡ false
quiet_name true b c next quiet = quiet.double_quote
quiet_name false true c next quiet = quiet.digit
quiet_name false false true next quiet = rw (quiet.word, quiet.quote) refl
quiet_name false false false next quiet = rw quiet.word refl

quiet_ends : (t : TokenTree) (word : List ℕ) (next : ℕ) → IsQuiet next → goes_on t word next ≡ false
quiet_ends (keyword_token k) word next quiet = quiet.word
quiet_ends (name_token content) word next quiet = quiet_name (get_or word 0 0 == 34) (get_or word 0 0 == 36) (is_x word) next quiet
quiet_ends (number_token number) word next quiet = quiet.number
quiet_ends (string_token content) word next quiet = quiet.quote
quiet_ends (bytes_token content) word next quiet = refl
quiet_ends (operator_token operators.Eq) word next quiet = refl
quiet_ends (operator_token operators.NotEq) word next quiet = refl
quiet_ends (operator_token operators.Gt) word next quiet = quiet.equals
quiet_ends (operator_token operators.Gte) word next quiet = refl
quiet_ends (operator_token operators.Lt) word next quiet = rw (quiet.equals, quiet.greater) refl
quiet_ends (operator_token operators.Lte) word next quiet = refl
quiet_ends opening word next quiet = refl
quiet_ends closing word next quiet = refl
quiet_ends comma word next quiet = refl
quiet_ends (verbatim text) word next quiet = refl

quiet_end : IsQuiet 0
quiet_end = record { word = refl; digit = refl; quote = refl; double_quote = refl; equals = refl; greater = refl; number = refl }

quiet_space : IsQuiet 32
quiet_space = record { word = refl; digit = refl; quote = refl; double_quote = refl; equals = refl; greater = refl; number = refl }

quiet_close : (u t : TokenTree) → is_close_behind u t ≡ true → IsQuiet (get_or (spelling u) 0 0)
quiet_close (keyword_token k) t close = cc
quiet_close (name_token content) t close = cc
quiet_close (number_token number) t close = cc
quiet_close (string_token content) t close = cc
quiet_close (bytes_token content) t close = cc
quiet_close (operator_token o) t close = cc
quiet_close opening t close = record { word = refl; digit = refl; quote = refl; double_quote = refl; equals = refl; greater = refl; number = refl }
quiet_close closing t close = record { word = refl; digit = refl; quote = refl; double_quote = refl; equals = refl; greater = refl; number = refl }
quiet_close comma t close = record { word = refl; digit = refl; quote = refl; double_quote = refl; equals = refl; greater = refl; number = refl }
quiet_close (verbatim text) t close = cc

opening_ends : (t : TokenTree) (word : List ℕ) (next : ℕ) → is_opening t ≡ true → goes_on t word next ≡ false
opening_ends (keyword_token k) word next is = cc
opening_ends (name_token content) word next is = cc
opening_ends (number_token number) word next is = cc
opening_ends (string_token content) word next is = cc
opening_ends (bytes_token content) word next is = cc
opening_ends (operator_token o) word next is = cc
opening_ends opening word next is = refl
opening_ends closing word next is = cc
opening_ends comma word next is = cc
opening_ends (verbatim text) word next is = cc

-- a token ends where the next one begins, or a space before it
ends_before : (t u : TokenTree) (ts : List TokenTree) → IsToken u → goes_on t (spelling t) (get_or (gap t u ++ canonical (u ∷ ts)) 0 0) ≡ false
ends_before t u ts is = by_tests (is_opening t) (is_close_behind u t) refl refl
  where
    by_tests : (a b : Bool) → is_opening t ≡ a → is_close_behind u t ≡ b → goes_on t (spelling t) (get_or (gap t u ++ canonical (u ∷ ts)) 0 0) ≡ false
    by_tests true b open_is close_is = opening_ends t (spelling t) _ open_is
    by_tests false true open_is close_is = rw (open_is, close_is, canonical_first u ts is) (quiet_ends t (spelling t) _ (quiet_close u t close_is))
    by_tests false false open_is close_is = rw (open_is, close_is) (quiet_ends t (spelling t) 32 quiet_space)

-- ---- the whole

-- printed tokens are read as themselves
pub canonical_reads : (ts : List TokenTree) → AreTokens ts → Reads (canonical ts) ts
canonical_reads [] all = refl
canonical_reads (t ∷ []) all = (
  [],
  subst (λ (l : List ℕ). token_at l ≡ Ok (t, [])) (append-nil (spelling t)) (token_again t (spelling t) [] (spelled t all.0) (quiet_ends t (spelling t) 0 quiet_end)),
  refl,
)
canonical_reads (t ∷ u ∷ ts) all =
    let dark : is_ascii_whitespace (get_or (canonical (u ∷ ts)) 0 0) ≡ false = rw (canonical_first u ts all.1.0) (dark_token u all.1.0).dark in (
      gap t u ++ canonical (u ∷ ts),
      token_again t (spelling t) (gap t u ++ canonical (u ∷ ts)) (spelled t all.0) (ends_before t u ts all.1.0),
      subst (λ (l : List ℕ). Reads l (u ∷ ts)) (sym (after_gap t u (canonical (u ∷ ts)) dark)) (canonical_reads (u ∷ ts) all.1),
    )
