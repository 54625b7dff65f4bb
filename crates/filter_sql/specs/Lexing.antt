-- The token that stands first in a text, and what follows it, as a function of the text.
use Rattle.std.specs.Prelude.{◌≡◌, ◌+◌, ◌-◌, ◌==◌, ◌||◌, ℕ, nat_lt, Bool, List, [], ◌∷◌, length, take, drop, slice_index, if◌then◌else◌, Option, Some, None, Result, Ok, Err, ◌&&◌, option_and_then, true, false}
use Rattle.std.specs.Borrow.{Bor}
use Rattle.std.specs.Char.{is_ascii_digit, to_ascii_lowercase}
use Rattle.std.specs.List.{prefix_len, position_or_len, before_first, after_first}
use Rattle.hex.specs.Hex.{decode_of}
use Rattle.hex.specs.declared.error.FromHexError.{FromHexError}
use Rattle.vortex_filter.specs.declared.operator.CompareOperator.TheVariants as operators
use Rattle.filter_sql.specs.declared.error.ParseError.{ParseError}
use Rattle.filter_sql.specs.declared.error.ParseError.TheVariants as errors
use Rattle.filter_sql.specs.declared.lex.LexError.{LexError}
use Rattle.filter_sql.specs.declared.lex.LexError.TheVariants.{OutOfMemory, BadText}
use Rattle.filter_sql.specs.declared.token.Keyword.{Keyword}
use Rattle.filter_sql.specs.declared.token.Token.{Token}
use Rattle.filter_sql.specs.Tokens.{TokenTree, keyword_token, name_token, number_token, string_token, bytes_token, operator_token, opening, closing, comma, token_tree, is_e, is_point, keyword_named, number_goes_on, is_word_byte, is_word_start}

-- a token and what follows it
abbrev pub Cut : Type 0
Cut = TokenTree × List ℕ

-- what a function returns, without where it lies in memory
abbrev pub view : Token × Bor (List ℕ) → Cut
view found = (token_tree found.0, found.1.now)

-- a function failed as the text says, or for want of memory
abbrev pub Fails : LexError → Result Cut LexError → Type 0
Fails OutOfMemory read = Unit {0}
Fails fault read = read ≡ Err fault

-- a function returned what the text says, unless memory ran out
abbrev pub Gives : {X : Type 0} → (X → Cut) → Result X LexError → Result Cut LexError → Type 0
Gives view (Ok x) read = read ≡ Ok (view x)
Gives view (Err e) read = Fails e read

-- a token of one or two bytes, and how many it takes
unfoldable pub mark_of : ℕ → ℕ → Option (TokenTree × ℕ)
mark_of first second =
    if first == 40 then Some (opening, 1)
    else if first == 41 then Some (closing, 1)
    else if first == 44 then Some (comma, 1)
    else if first == 61 then Some (operator_token operators.Eq, 1)
    else if first == 60 then
    (if second == 61 then Some (operator_token operators.Lte, 2)
    else if second == 62 then Some (operator_token operators.NotEq, 2)
    else Some (operator_token operators.Lt, 1))
    else if first == 62 then
    (if second == 61 then Some (operator_token operators.Gte, 2)
    else Some (operator_token operators.Gt, 1))
    else if first == 33 then
    (if second == 61 then Some (operator_token operators.NotEq, 2) else None)
    else None

-- one more byte in front of what a quoted text holds
abbrev pub with_byte : ℕ → Option (List ℕ × List ℕ) → Option (List ℕ × List ℕ)
with_byte b None = None
with_byte b (Some found) = Some (b ∷ found.0, found.1)

-- what stands before the lone quote, each doubled quote once, and what follows it
unfoldable pub unquoted_at : ℕ → List ℕ → Option (List ℕ × List ℕ)
unquoted_at quote [] = None
unquoted_at quote (b ∷ []) = if b == quote then Some ([], []) else None
unquoted_at quote (b ∷ c ∷ bs) =
    if b == quote then (if c == quote then with_byte quote (unquoted_at quote bs) else Some ([], c ∷ bs))
    else with_byte b (unquoted_at quote (c ∷ bs))

abbrev pub quoted_token : ℕ → List ℕ → TokenTree
quoted_token quote content = if quote == 34 then name_token content else string_token content

abbrev pub quoted_cut : ℕ → Option (List ℕ × List ℕ) → Result Cut LexError
quoted_cut quote None = Err BadText
quoted_cut quote (Some found) = Ok (quoted_token quote found.0, found.1)

-- a name or a string, behind its first quote
abbrev pub quoted_at : ℕ → List ℕ → Result Cut LexError
quoted_at quote text = quoted_cut quote (unquoted_at quote text)

abbrev pub bytes_cut : Result (List ℕ) FromHexError → List ℕ → Result Cut LexError
bytes_cut (Ok content) after = Ok (bytes_token content, after)
bytes_cut (Err e) after = Err BadText

abbrev pub is_quote : ℕ → Bool
is_quote b = b == 39

-- the bytes behind x and a quote
unfoldable pub bytes_at : List ℕ → Result Cut LexError
bytes_at text =
    if nat_lt (position_or_len is_quote text) (length text) then bytes_cut (decode_of (before_first is_quote text)) (after_first is_quote text)
    else Err BadText

-- what follows digits, if one stands first
unfoldable pub after_digits : List ℕ → Option (List ℕ)
after_digits text = let count = prefix_len is_ascii_digit text in if count == 0 then None else Some (drop count text)

-- what follows a point and digits, if a point stands first
unfoldable pub after_fraction : List ℕ → Option (List ℕ)
after_fraction text = if is_point (slice_index text 0) then after_digits (drop 1 text) else Some text

abbrev pub after_sign : List ℕ → List ℕ
after_sign text = if (slice_index text 0 == 43 || slice_index text 0 == 45) then drop 1 text else text

-- what follows an exponent, if an `e` stands first
unfoldable pub after_power : List ℕ → Option (List ℕ)
after_power text = if is_e (slice_index text 0) then after_digits (after_sign (drop 1 text)) else Some text

-- what follows a number without a sign
abbrev pub after_number : List ℕ → Option (List ℕ)
after_number text = option_and_then after_power (option_and_then after_fraction (after_digits text))

abbrev pub after_minus : List ℕ → List ℕ
after_minus text = if slice_index text 0 == 45 then drop 1 text else text

-- whether a word is a number, to its end
abbrev pub is_all : Option (List ℕ) → Bool
is_all (Some []) = true
is_all _ = false

abbrev pub is_number : List ℕ → Bool
is_number word = is_all (after_number (after_minus word))

abbrev pub number_cut : List ℕ → Option (List ℕ) → Result Cut LexError
number_cut text None = Err BadText
number_cut text (Some rest) = if number_goes_on (slice_index rest 0) then Err BadText else Ok (number_token (take (length text - length rest) text), rest)

-- a number, with a minus sign or none
unfoldable pub number_at : List ℕ → Result Cut LexError
number_at text = number_cut text (after_number (after_minus text))

-- a name of a dollar sign and digits
unfoldable pub parameter_at : List ℕ → Result Cut LexError
parameter_at text =
    let count = prefix_len is_ascii_digit (drop 1 text) in
    if count == 0 then Err BadText else Ok (name_token (take (count + 1) text), drop (count + 1) text)

abbrev pub word_token : List ℕ → Option Keyword → TokenTree
word_token word None = name_token word
word_token word (Some k) = keyword_token k

-- a keyword or a bare name
unfoldable pub word_at : List ℕ → Result Cut LexError
word_at text =
    let count = prefix_len is_word_byte text in
    Ok (word_token (take count text) (keyword_named (take count text)), drop count text)

-- what is no mark, by its first two bytes
abbrev pub other_at : ℕ → ℕ → List ℕ → Result Cut LexError
other_at first second text =
    if first == 34 then quoted_at 34 (drop 1 text)
    else if first == 39 then quoted_at 39 (drop 1 text)
    else if first == 45 || is_ascii_digit first then number_at text
    else if first == 36 then parameter_at text
    else if (to_ascii_lowercase first == 120) && (second == 39) then bytes_at (drop 2 text)
    else if is_word_start first then word_at text
    else Err BadText

abbrev pub cut_after : Option (TokenTree × ℕ) → List ℕ → Result Cut LexError → Result Cut LexError
cut_after None text other = other
cut_after (Some found) text other = Ok (found.0, drop found.1 text)

-- the first token of a text that has no white space first
unfoldable pub token_at : List ℕ → Result Cut LexError
token_at text =
    let first = slice_index text 0 in
    let second = slice_index text 1 in
    cut_after (mark_of first second) text (other_at first second text)

-- the fault, at its offset
abbrev pub fault_at : LexError → ℕ → ParseError
fault_at OutOfMemory place = errors.OutOfMemory
fault_at BadText place = errors.BadText place
