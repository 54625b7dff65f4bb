-- The tokens of SQL text, and how they are spelled.
use Rattle.std.specs.Prelude.{◌≡◌, ◌<◌, ◌==◌, ◌||◌, ◌&&◌, ◌⊎◌, ℕ, Bool, true, false, List, [], ◌∷◌, ◌++◌, map, slice_index, codes, if◌then◌else◌, Option, None, Some, IfSome, find, Ok}
use Rattle.std.specs.Char.{is_ascii_alphabetic, is_ascii_digit, to_ascii_lowercase}
use Rattle.std.specs.List.{AllByRecursion, flat_map, list_all}
use Rattle.std.specs.Str.{bytes_eq}
use Rattle.std.specs.Str.Parse.{IsNumeral}
use Rattle.std.specs.String.{string_bytes}
use Rattle.hex.specs.Hex.{decode_of, encode_lower}
use Rattle.vortex_filter.specs.declared.operator.CompareOperator.{CompareOperator}
use Rattle.vortex_filter.specs.declared.operator.CompareOperator.TheVariants as operators
use Rattle.filter_sql.specs.declared.token.Keyword.{Keyword}
use Rattle.filter_sql.specs.declared.token.Keyword.TheVariants as keywords
use Rattle.filter_sql.specs.declared.token.Placed.{Placed}
use Rattle.filter_sql.specs.declared.token.Token.{Token}
use Rattle.filter_sql.specs.declared.token.Token.TheVariants as tokens

-- a token without where it lies in memory
pub data TokenTree : Type 0 where
  -- a word that SQL keeps for itself
  keyword_token : Keyword → TokenTree
  -- a name: a bare word, or anything in double quotes
  name_token : List ℕ → TokenTree
  -- a number, by its word
  number_token : List ℕ → TokenTree
  -- a string, in single quotes
  string_token : List ℕ → TokenTree
  -- bytes, as in x'00ff'
  bytes_token : List ℕ → TokenTree
  -- a comparison
  operator_token : CompareOperator → TokenTree
  opening : TokenTree
  closing : TokenTree
  comma : TokenTree
  -- what is printed of a value that SQL has no literal for; no token that is read
  verbatim : List ℕ → TokenTree

-- the tree of a token
abbrev pub token_tree : Token → TokenTree
token_tree (tokens.Keyword k) = keyword_token k
token_tree (tokens.Name s) = name_token (string_bytes s)
token_tree (tokens.Number s) = number_token (string_bytes s)
token_tree (tokens.Text s) = string_token (string_bytes s)
token_tree (tokens.Bytes v) = bytes_token v.items
token_tree (tokens.Operator o) = operator_token o
token_tree tokens.Open = opening
token_tree tokens.Close = closing
token_tree tokens.Comma = comma

-- the trees of tokens with their offsets
abbrev pub trees : List Placed → List TokenTree
trees placed = map (λ p. token_tree p.token) placed

-- ---- how a token is printed

abbrev pub keyword_text : Keyword → List ℕ
keyword_text keywords.And = codes "and"
keyword_text keywords.Or = codes "or"
keyword_text keywords.Not = codes "not"
keyword_text keywords.In = codes "in"
keyword_text keywords.Is = codes "is"
keyword_text keywords.Null = codes "null"
keyword_text keywords.Between = codes "between"
keyword_text keywords.Like = codes "like"
keyword_text keywords.Ilike = codes "ilike"
keyword_text keywords.Escape = codes "escape"
keyword_text keywords.True = codes "true"
keyword_text keywords.False = codes "false"
keyword_text keywords.StartsWith = codes "starts_with"

abbrev pub operator_text : CompareOperator → List ℕ
operator_text operators.Eq = codes "="
operator_text operators.NotEq = codes "<>"
operator_text operators.Gt = codes ">"
operator_text operators.Gte = codes ">="
operator_text operators.Lt = codes "<"
operator_text operators.Lte = codes "<="

-- bytes with each quote twice
abbrev pub doubled : ℕ → List ℕ → List ℕ
doubled quote content = flat_map (λ b. if b == quote then b ∷ b ∷ [] else b ∷ []) content

-- bytes in quotes, and each quote in them twice
abbrev pub quoted : ℕ → List ℕ → List ℕ
quoted quote content = quote ∷ (doubled quote content ++ quote ∷ [])

abbrev pub sign_text : Bool → List ℕ
sign_text negative = if negative then codes "-" else []

-- the one spelling that is printed
abbrev pub spelling : TokenTree → List ℕ
spelling (keyword_token k) = keyword_text k
spelling (name_token content) = quoted 34 content
spelling (number_token word) = word
spelling (string_token content) = quoted 39 content
spelling (bytes_token content) = codes "x'" ++ (encode_lower content ++ codes "'")
spelling (operator_token o) = operator_text o
spelling opening = codes "("
spelling closing = codes ")"
spelling comma = codes ","
spelling (verbatim text) = text

abbrev pub is_opening : TokenTree → Bool
is_opening opening = true
is_opening _ = false

abbrev pub is_starts_with : TokenTree → Bool
is_starts_with (keyword_token keywords.StartsWith) = true
is_starts_with _ = false

-- whether no space stands before this token, behind that one
abbrev pub is_close_behind : TokenTree → TokenTree → Bool
is_close_behind closing t = true
is_close_behind comma t = true
is_close_behind opening t = is_starts_with t
is_close_behind _ t = false

-- whether a token stands right behind another, with no space between them
abbrev pub is_joined : TokenTree → TokenTree → Bool
is_joined t u = is_opening t || is_close_behind u t

abbrev pub gap : TokenTree → TokenTree → List ℕ
gap t u = if is_joined t u then [] else codes " "

-- the text of tokens as it is printed
abbrev pub canonical : List TokenTree → List ℕ
canonical [] = []
canonical (t ∷ []) = spelling t
canonical (t ∷ u ∷ ts) = spelling t ++ (gap t u ++ canonical (u ∷ ts))

-- ---- what can be read

-- a point and digits, or nothing
abbrev pub fraction_text : Option (List ℕ) → List ℕ
fraction_text None = []
fraction_text (Some digits) = 46 ∷ digits

-- `+`, `-` or nothing
pub data Sign : Type 0 where
  no_sign : Sign
  plus_sign : Sign
  minus_sign : Sign

abbrev pub power_sign : Sign → List ℕ
power_sign no_sign = []
power_sign plus_sign = codes "+"
power_sign minus_sign = codes "-"

-- `e` in either case, a sign and digits
pub record Power : Type 0 where
  pub letter : ℕ
  pub sign : Sign
  pub digits : List ℕ

abbrev pub power_text : Option Power → List ℕ
power_text None = []
power_text (Some p) = p.letter ∷ (power_sign p.sign ++ p.digits)

abbrev pub IsPower : Power → Type 0
IsPower p = (to_ascii_lowercase p.letter ≡ 101) × IsNumeral 10 p.digits

-- the word is a number: perhaps a minus sign, digits, perhaps a point and digits, perhaps an exponent
pub record IsNumber (word : List ℕ) : Type 0 where
  pub negative : Bool
  pub whole : List ℕ
  pub fraction : Option (List ℕ)
  pub power : Option Power
  pub text : word ≡ sign_text negative ++ (whole ++ (fraction_text fraction ++ power_text power))
  pub digits : IsNumeral 10 whole
  pub places : IfSome fraction (IsNumeral 10)
  pub raised : IfSome power IsPower

-- a token that has a spelling which is read
abbrev pub IsToken : TokenTree → Type 0
IsToken (number_token word) = IsNumber word
IsToken (bytes_token content) = AllByRecursion (λ b. b < 256) content
IsToken (verbatim text) = ⊥
IsToken _ = Unit {0}

abbrev pub AreTokens : List TokenTree → Type 0
AreTokens ts = AllByRecursion IsToken ts

-- ---- every spelling that is read

abbrev pub all_keywords : List Keyword
all_keywords = keywords.And ∷ keywords.Or ∷ keywords.Not ∷ keywords.In ∷ keywords.Is ∷ keywords.Null ∷ keywords.Between ∷ keywords.Like ∷ keywords.Ilike ∷ keywords.Escape ∷ keywords.True ∷ keywords.False ∷ keywords.StartsWith ∷ []

-- the keyword that is spelled so, in any case
unfoldable pub keyword_named : List ℕ → Option Keyword
keyword_named word = find (λ k. bytes_eq (map to_ascii_lowercase word) (keyword_text k)) all_keywords

-- a letter or an underscore
abbrev pub is_word_start : ℕ → Bool
is_word_start b = is_ascii_alphabetic b || b == 95

-- a letter, a digit or an underscore
abbrev pub is_word_byte : ℕ → Bool
is_word_byte b = is_word_start b || is_ascii_digit b

-- letters, digits and underscores, with no digit first
abbrev pub is_word : List ℕ → Bool
is_word [] = false
is_word (b ∷ bs) = is_word_start b && list_all is_word_byte bs

-- a dollar sign and digits
abbrev pub IsParameter : List ℕ → Type 0
IsParameter word = (digits : List ℕ) × (word ≡ 36 ∷ digits) × IsNumeral 10 digits

-- a name without quotes: a word that is no keyword, or $1, $2 and so on
abbrev pub IsBareName : List ℕ → Type 0
IsBareName word = ((is_word word ≡ true) × (keyword_named word ≡ None)) ⊎ IsParameter word

-- a token is spelled so
abbrev pub Spells : TokenTree → List ℕ → Type 0
Spells (keyword_token k) word = map to_ascii_lowercase word ≡ keyword_text k
Spells (name_token content) word = (IsBareName content × (word ≡ content)) ⊎ (word ≡ quoted 34 content)
Spells (number_token number) word = (word ≡ number) × IsNumber number
Spells (string_token content) word = word ≡ quoted 39 content
Spells (bytes_token content) word = (x : ℕ) × (digits : List ℕ) × (to_ascii_lowercase x ≡ 120) × (word ≡ x ∷ 39 ∷ (digits ++ 39 ∷ [])) × (decode_of digits ≡ Ok content)
Spells (operator_token operators.NotEq) word = (word ≡ codes "<>") ⊎ (word ≡ codes "!=")
Spells (operator_token o) word = word ≡ operator_text o
Spells opening word = word ≡ codes "("
Spells closing word = word ≡ codes ")"
Spells comma word = word ≡ codes ","
Spells (verbatim text) word = ⊥

-- an x in either case, alone
abbrev pub is_x : List ℕ → Bool
is_x (b ∷ []) = to_ascii_lowercase b == 120
is_x _ = false

-- whether a byte behind this name belongs to it
abbrev pub name_goes_on : List ℕ → ℕ → Bool
name_goes_on word next =
    if slice_index word 0 == 34 then next == 34
    else if slice_index word 0 == 36 then is_ascii_digit next
    else is_word_byte next || (is_x word && next == 39)

-- a point, and an `e` in either case
abbrev pub is_point : ℕ → Bool
is_point b = b == 46

abbrev pub is_e : ℕ → Bool
is_e b = to_ascii_lowercase b == 101

-- whether a byte cannot stand behind a number
abbrev pub number_goes_on : ℕ → Bool
number_goes_on next = is_ascii_digit next || (is_point next || is_e next)

-- whether a byte behind the token belongs to it: then it ends further on
abbrev pub goes_on : TokenTree → List ℕ → ℕ → Bool
goes_on (keyword_token k) word next = is_word_byte next
goes_on (name_token content) word next = name_goes_on word next
goes_on (number_token number) word next = number_goes_on next
goes_on (string_token content) word next = next == 39
goes_on (operator_token operators.Lt) word next = next == 61 || next == 62
goes_on (operator_token operators.Gt) word next = next == 61
goes_on _ word next = false

-- the text begins with a token that is spelled so, and goes on with what does not belong to it
pub record IsFront (text : List ℕ) (t : TokenTree) (word rest : List ℕ) : Type 0 where
  pub whole : text ≡ word ++ rest
  pub spelled : Spells t word
  pub ends : goes_on t word (slice_index rest 0) ≡ false
