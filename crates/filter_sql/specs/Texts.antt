-- The tokens of a whole text.
use Rattle.std.specs.Prelude.{◌≡◌, ◌<◌, ◌+◌, ℕ, List, [], ◌∷◌, map, length, drop, Option, Some, None, Result, Ok, Err, Vec}
use Rattle.std.specs.Global.{Global}
use Rattle.std.specs.Char.{is_ascii_whitespace}
use Rattle.std.specs.List.{prefix_len}
use Rattle.filter_sql.specs.declared.lex.LexError.{LexError}
use Rattle.filter_sql.specs.declared.lex.LexError.TheVariants.{OutOfMemory}
use Rattle.filter_sql.specs.declared.lex.Ending.{Ending}
use Rattle.filter_sql.specs.declared.lex.Lexed.{Lexed}
use Rattle.filter_sql.specs.declared.error.ParseError.{ParseError}
use Rattle.filter_sql.specs.declared.error.ParseError.TheVariants as errors
use Rattle.filter_sql.specs.declared.token.Placed.{Placed}
use Rattle.filter_sql.specs.Tokens.{IsFront, TokenTree, token_tree}
use Rattle.filter_sql.specs.Lexing.{token_at}

-- a token and its offset
pub record Item : Type 0 where
  pub token : TokenTree
  pub place : ℕ

abbrev pub items : List Placed → List Item
items placed = map (λ p. record { token = token_tree p.token; place = p.place }) placed

-- the text without the white space that stands first
abbrev pub trimmed : List ℕ → List ℕ
trimmed text = drop (prefix_len is_ascii_whitespace text) text

-- the text is the end of one of this length; it begins with these tokens at their offsets, with white space
-- between them, and then comes the rest
abbrev pub Leads : ℕ → List ℕ → List Item → List ℕ → Type 0
Leads end text [] rest = text ≡ rest
Leads end text (item ∷ items) rest =
    (word : List ℕ) × (after : List ℕ) × IsFront text item.token word after × (item.place + length text ≡ end) × Leads end (trimmed after) items rest

-- the whole text is these tokens, with white space before, between and behind them
abbrev pub AreItemsOf : List ℕ → List Item → Type 0
AreItemsOf text items = Leads (length text) (trimmed text) items []

-- the text goes on behind these tokens, and for this fault no token begins at the offset where it does
pub record StopsAt (text : List ℕ) (items : List Item) (fault : LexError) (place : ℕ) : Type 0 where
  pub rest : List ℕ
  pub read : Leads (length text) (trimmed text) items rest
  pub here : place + length rest ≡ length text
  pub some : 0 < length rest
  pub none : (t : TokenTree) (word after : List ℕ) → IsFront rest t word after → ⊥
  pub why : token_at rest ≡ Err fault

abbrev pub EndsFor : List ℕ → List Item → ℕ → Option LexError → Type 0
EndsFor text items place None = AreItemsOf text items × (place ≡ length text)
EndsFor text items place (Some fault) = StopsAt text items fault place

-- the tokens of the text end so: with the text, or before what is no token
abbrev pub EndsAt : List ℕ → List Item → Ending → Type 0
EndsAt text items ending = EndsFor text items ending.place ending.fault

-- the tokens before an offset where none was read, unless it was for want of memory
abbrev pub stopped : Vec Placed Global → ℕ → LexError → Result Lexed ParseError
stopped tokens place OutOfMemory = Err errors.OutOfMemory
stopped tokens place fault = Ok (record { tokens = tokens; ending = record { place = place; fault = Some fault } })
