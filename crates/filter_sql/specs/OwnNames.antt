-- Words in which a name may stand in another case than its column's.
use Rattle.std.specs.Prelude.{◌≡◌, ◌++◌, ℕ, List, [], ◌∷◌, length}
use Rattle.std.specs.List.{prefix_len}
use Rattle.std.specs.Str.{str_to_ascii_lowercase}
use Rattle.vortex_filter.specs.Formula.{Formula}
use Rattle.filter_sql.specs.ColumnNames.{ColumnTree}
use Rattle.filter_sql.specs.Parsing.{IsSqlWithin, RefusesSqlWithin}
use Rattle.filter_sql.specs.Tokens.{is_word_byte}
use Rattle.filter_sql.specs.declared.error.ParseError.{ParseError}
use Rattle.filter_sql.specs.declared.error.ParseError.TheVariants.{NoColumn, OutOfMemory}

-- texts that differ in the case of letters alone
abbrev pub AreSameButCase : List ℕ → List ℕ → Type 0
AreSameButCase a b = str_to_ascii_lowercase a ≡ str_to_ascii_lowercase b

-- the names of the columns that differ from a name in case alone, or not at all
pub data AreNamedLike (name : List ℕ) : List ColumnTree → List (List ℕ) → Type 0 where
  no_column : AreNamedLike name [] []
  alike : {c : ColumnTree} {cs : List ColumnTree} {ns : List (List ℕ)} → AreSameButCase c.name name → AreNamedLike name cs ns → AreNamedLike name (c ∷ cs) (c.name ∷ ns)
  another : {c : ColumnTree} {cs : List ColumnTree} {ns : List (List ℕ)} → ¬ (AreSameButCase c.name name) → AreNamedLike name cs ns → AreNamedLike name (c ∷ cs) ns

-- one column alone has this name in another case, or as it is: its own name is this
abbrev pub IsOnlyName : List ColumnTree → List ℕ → List ℕ → Type 0
IsOnlyName columns name own = AreNamedLike name columns (own ∷ [])

-- the word at this offset, whole, and what stands before it and behind it
pub record IsWordIn (words : List ℕ) (offset : ℕ) (before word after : List ℕ) : Type 0 where
  pub parts : words ≡ before ++ (word ++ after)
  pub place : length before ≡ offset
  pub whole : length word ≡ prefix_len is_word_byte (word ++ after)

-- the same words but for the one at this offset, which is the own name of the one column that has it in another case
pub record IsRenamed (columns : List ColumnTree) (words : List ℕ) (offset : ℕ) (renamed : List ℕ) : Type 0 where
  pub before : List ℕ
  pub word : List ℕ
  pub after : List ℕ
  pub own : List ℕ
  pub stands : IsWordIn words offset before word after
  pub only : IsOnlyName columns word own
  pub is : renamed ≡ before ++ (own ++ after)

-- words after some renamings, each of the first name that no column has
pub data AreRenamed (depth : ℕ) (columns : List ColumnTree) (words : List ℕ) : List ℕ → Type 0 where
  as_they_are : AreRenamed depth columns words words
  and_one_more : {some more : List ℕ} {offset : ℕ} → AreRenamed depth columns words some → RefusesSqlWithin depth columns some (NoColumn offset) → IsRenamed columns some offset more → AreRenamed depth columns words more

-- the formula is that of the words after some renamings
pub record IsOwnFilter (depth : ℕ) (columns : List ColumnTree) (words : List ℕ) (f : Formula) : Type 0 where
  pub own : List ℕ
  pub renamed : AreRenamed depth columns words own
  pub means : IsSqlWithin depth columns own f

-- and it is that of the words themselves, if they are a filter
pub record IsFilterOf (depth : ℕ) (columns : List ColumnTree) (words : List ℕ) (f : Formula) : Type 0 where
  pub own : IsOwnFilter depth columns words f
  pub exact : (g : Formula) → IsSqlWithin depth columns words g → f ≡ g

-- the words are refused so after some renamings, and as they are they are no filter
pub record AreRefused (depth : ℕ) (columns : List ColumnTree) (words : List ℕ) (e : ParseError) : Type 0 where
  pub own : List ℕ
  pub renamed : AreRenamed depth columns words own
  pub refuses : RefusesSqlWithin depth columns own e
  pub none : (g : Formula) → ¬ (IsSqlWithin depth columns words g)

-- why words are no filter: memory ran out, or they are refused so
abbrev pub RefusesWords : ℕ → List ColumnTree → List ℕ → ParseError → Type 0
RefusesWords depth columns words OutOfMemory = Unit {0}
RefusesWords depth columns words e = AreRefused depth columns words e
