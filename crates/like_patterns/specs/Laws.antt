-- The laws of patterns.
use Rattle.std.specs.Prelude.{◌≡◌, ◌↔◌, ℕ, List, [], ◌∷◌, ◌++◌, true, false, Some, None}
use Rattle.like_patterns.specs.Patterns.{Part, any_string, leading, matches}
use Rattle.like_patterns.specs.Pieces.{literals}
use Rattle.like_patterns.specs.Texts.{has_special, pattern_of, pattern_text}

-- a string that a pattern matches begins with what stands before its first `_` or `%`
abbrev pub MatchesBegin : Type 0
MatchesBegin = (parts : List Part) (cs : List ℕ) → matches parts cs ≡ true → (rest : List ℕ) × (cs ≡ leading parts ++ rest)

-- a pattern without `_` and `%` matches one string
abbrev pub ExactMatch : Type 0
ExactMatch = (wanted cs : List ℕ) → (matches (literals wanted) cs ≡ true) ↔ (cs ≡ wanted)

-- one with a `%` at its end alone matches what begins with the characters before
abbrev pub PrefixMatches : Type 0
PrefixMatches = (wanted cs : List ℕ) → (matches (literals wanted ++ any_string ∷ []) cs ≡ true) ↔ ((rest : List ℕ) × (cs ≡ wanted ++ rest))

-- a pattern's text spells that pattern, if its escape is `\`; and without an escape, if nothing is escaped
abbrev pub TextsComeBack : Type 0
TextsComeBack = (parts : List Part) → pattern_of (Some 92) (pattern_text parts) ≡ Some parts

abbrev pub PlainTextsComeBack : Type 0
PlainTextsComeBack = (parts : List Part) → has_special parts ≡ false → pattern_of None (pattern_text parts) ≡ Some parts
