-- What `Display` writes of raw values and of scalars, as bytes.
use Rattle.std.specs.Prelude.{ℕ, ◌-◌, ◌/◌, ◌%◌, ◌==◌, ◌||◌, nat_lt, Bool, false, List, [], ◌∷◌, ◌++◌, length, map, take, drop, Option, Some, position, slice_get, option_and_then, if◌then◌else◌, codes, encode_utf8}
use Rattle.std.specs.Fmt.{decimal, digits, digit_glyph}
use Rattle.std.specs.List.{flat_map, join_by}
use Rattle.std.specs.Str.{chars, encode_utf8_all}
use Rattle.vortex_dtype.specs.TypeTree.{TypeTree, list_type, fixed_size_list_type, map_type, struct_type, union_type, TypeTrees, type_then, storage}
use Rattle.vortex_pvalue.specs.Whole.{number_text}
use Rattle.vortex_value.specs.Breaches.{is_valid}
use Rattle.vortex_value.specs.Values.RawTree.{RawTree, absent, raw_bool, raw_integer, raw_text, raw_bytes, raw_tuple, raw_union, raw_variant, RawTrees, no_raws, raw_then}
use Rattle.vortex_value.specs.Validity.{type_with}

-- of a null
abbrev pub null_text : List ℕ
null_text = codes "null"

-- of a truth value
abbrev pub truth_text : Bool → List ℕ
truth_text b = if b then codes "true" else codes "false"

-- a string with one before it and another after it
abbrev pub between : List ℕ → List ℕ → List ℕ → List ℕ
between before after text = before ++ (text ++ after)

-- a string in double quotes, in brackets, in braces, and in parentheses
abbrev pub in_quotes : List ℕ → List ℕ
in_quotes = between (codes "\"") (codes "\"")

abbrev pub in_brackets : List ℕ → List ℕ
in_brackets = between (codes "[") (codes "]")

abbrev pub in_braces : List ℕ → List ℕ
in_braces = between (codes "{") (codes "}")

abbrev pub in_parentheses : List ℕ → List ℕ
in_parentheses = between (codes "(") (codes ")")

-- strings in order, with the separator between each two
abbrev pub joined : List ℕ → List (List ℕ) → List ℕ
joined separator = join_by (λ text. text) separator

-- of a list of characters or bytes; of more than ten only the first five, two points, and the last five
abbrev pub shortened : (List ℕ → List ℕ) → List ℕ → List ℕ
shortened text items =
    if nat_lt 10 (length items) then text (take 5 items) ++ (codes ".." ++ text (drop (length items - 5) items)) else text items

-- a byte as two lower case hexadecimal digits
abbrev pub two_digits : ℕ → List ℕ
two_digits b = digit_glyph false (b / 16) ∷ digit_glyph false (b % 16) ∷ []

-- a number in lower case hexadecimal without leading zeros
abbrev pub hexadecimal : ℕ → List ℕ
hexadecimal n = digits 16 false n

-- the escape table: what stands in quotes for a character
unfoldable pub escaped_char : ℕ → List ℕ
escaped_char c =
    if c == 0x5C then codes "\\\\"
    else if c == 0x22 then codes "\\\""
    else if c == 0x0A then codes "\\n"
    else if c == 0x0D then codes "\\r"
    else if c == 0x09 then codes "\\t"
    else if nat_lt c 0x20 || c == 0x7F then between (codes "\\u{") (codes "}") (hexadecimal c)
    else encode_utf8 c

-- a string in quotes, each character by the escape table
abbrev pub escaped : List ℕ → List ℕ
escaped bs = in_quotes (flat_map escaped_char (chars bs))

-- the name of the variant with this id, if there is one
abbrev pub name_with : ℕ → List ℕ → List (List ℕ) → Option (List ℕ)
name_with id ids names = option_and_then (slice_get names) (position (λ i. i == id) ids)

-- a variant's name, and in parentheses what its type writes
abbrev pub child_text : Option (List ℕ) → Option TypeTree → (TypeTree → List ℕ) → List ℕ
child_text (Some name) (Some t) text = name ++ in_parentheses (text t)
child_text _ _ text = []

-- of a valid value at a type that is no extension; leaves whatever their type, and nothing of parts that no value of
-- the type has
abbrev mutual
  pub text_at : TypeTree → RawTree → List ℕ
  text_at t absent = null_text
  text_at t (raw_bool b) = truth_text b
  text_at t (raw_integer k z) = number_text k z
  text_at t (raw_text bs) = escaped bs
  text_at t (raw_bytes bs) = in_quotes (joined (codes " ") (map hexadecimal bs))
  text_at (list_type e n) (raw_tuple vs) = in_brackets (joined (codes ", ") (element_texts e vs))
  text_at (fixed_size_list_type e size n) (raw_tuple vs) =
      between (codes "fixed_size<") (codes ">") (decimal size) ++ in_brackets (joined (codes ", ") (element_texts e vs))
  text_at (map_type k w sorted n) (raw_tuple vs) = in_braces (joined (codes ", ") (entry_texts k w vs))
  text_at (struct_type names ts n) (raw_tuple vs) = in_braces (joined (codes ", ") (field_texts names ts vs))
  text_at (union_type names ts ids n) (raw_union id v) = child_text (name_with id ids names) (type_with id ids ts) (λ t. text_at (storage t) v)
  text_at t (raw_variant u v) = between (codes "variant(") (codes ")") (text_at (storage u) v)
  text_at _ _ = []

  -- of each element
  pub element_texts : TypeTree → RawTrees → List (List ℕ)
  element_texts e no_raws = []
  element_texts e (raw_then v vs) = text_at (storage e) v ∷ element_texts e vs

  -- of each entry
  pub entry_texts : TypeTree → TypeTree → RawTrees → List (List ℕ)
  entry_texts k w no_raws = []
  entry_texts k w (raw_then v vs) = entry_text k w v ∷ entry_texts k w vs

  -- of an entry: the key and the value
  pub entry_text : TypeTree → TypeTree → RawTree → List ℕ
  entry_text k w (raw_tuple (raw_then x (raw_then y no_raws))) = text_at (storage k) x ++ (codes ": " ++ text_at (storage w) y)
  entry_text k w _ = []

  -- of each field: the name and the value
  pub field_texts : List (List ℕ) → TypeTrees → RawTrees → List (List ℕ)
  field_texts (name ∷ names) (type_then t ts) (raw_then v vs) = (name ++ (codes ": " ++ text_at (storage t) v)) ∷ field_texts names ts vs
  field_texts _ _ _ = []

-- what is written of a value that is valid for the type, and something else if it is not
abbrev pub valid_text_or : TypeTree → RawTree → List ℕ → List ℕ
valid_text_or t v other = if is_valid t v then text_at (storage t) v else other

abbrev mutual
  -- what is written of an optional raw value, whatever its type
  pub raw_text_of : RawTree → List ℕ
  raw_text_of absent = null_text
  raw_text_of (raw_bool b) = truth_text b
  raw_text_of (raw_integer k z) = number_text k z
  raw_text_of (raw_text bs) = in_quotes (shortened encode_utf8_all (chars bs))
  raw_text_of (raw_bytes bs) = shortened (flat_map two_digits) bs
  raw_text_of (raw_tuple vs) = in_brackets (joined (codes ", ") (raw_texts vs))
  raw_text_of (raw_union id v) = codes "union@" ++ (decimal id ++ in_parentheses (raw_text_of v))
  raw_text_of (raw_variant t v) = valid_text_or t v (raw_text_of v)

  -- of each part
  pub raw_texts : RawTrees → List (List ℕ)
  raw_texts no_raws = []
  raw_texts (raw_then v vs) = raw_text_of v ∷ raw_texts vs

-- what is written of an optional raw value of the type: as a raw value if it is not valid
abbrev pub text_of : TypeTree → RawTree → List ℕ
text_of t v = valid_text_or t v (raw_text_of v)
