-- Worked cases of the definitions, each a theorem. SQLite with `case_sensitive_like` and PostgreSQL answer so, with this escape or none,
-- and to those of `ilike` SQLite without that pragma.
use Rattle.std.specs.Prelude.{◌≡◌, ⊤, ℕ, Bool, true, false, List, [], ◌∷◌, codes, Option, Some, None, refl}
use Rattle.std.specs.Option.{option_map}
use Rattle.like_patterns.specs.declared.case.Case.{Case}
use Rattle.like_patterns.specs.declared.case.Case.TheVariants.{Sensitive, Insensitive}
use Rattle.like_patterns.specs.Patterns.{is_like, leading, matches}
use Rattle.like_patterns.specs.Texts.{parts_from, pattern_of, pattern_text}

-- what the proofs compute by
unfoldable on_texts : ⊤
unfolding matches parts_from
on_texts = tt

-- whether the string is like the pattern; nothing if that is refused
abbrev answer : Case → Option ℕ → List ℕ → List ℕ → Option Bool
answer case escape pattern cs = option_map (λ parts. is_like case parts cs) (pattern_of escape pattern)

abbrev like : List ℕ → List ℕ → Option Bool
like pattern cs = answer Sensitive None pattern cs

-- with the escape `\`
abbrev escaped : List ℕ → List ℕ → Option Bool
escaped pattern cs = answer Sensitive (Some 92) pattern cs

-- é is one character
abbrev e_acute : List ℕ
e_acute = 233 ∷ []

pub the_whole_string : (like (codes "abc") (codes "abc") ≡ Some true) × (like (codes "abc") (codes "abcd") ≡ Some false) × (like [] [] ≡ Some true) × (like [] (codes "a") ≡ Some false)
unfolding on_texts
the_whole_string = (refl, refl, refl, refl)

pub any_string_is : (like (codes "%") [] ≡ Some true) × (like (codes "a%") (codes "a") ≡ Some true) × (like (codes "a%") (codes "ba") ≡ Some false) × (like (codes "%b%") (codes "abc") ≡ Some true)
unfolding on_texts
any_string_is = (refl, refl, refl, refl)

pub any_character_is : (like (codes "_") [] ≡ Some false) × (like (codes "_") e_acute ≡ Some true) × (like (codes "__") e_acute ≡ Some false) × (like (codes "%__") (codes "a") ≡ Some false)
unfolding on_texts
any_character_is = (refl, refl, refl, refl)

-- the end is sought at the end, and pieces do not overlap
pub ends_and_pieces : (like (codes "a%c") (codes "acbc") ≡ Some true) × (like (codes "%aab") (codes "aaaab") ≡ Some true) × (like (codes "%ab%ba%") (codes "aba") ≡ Some false) × (like (codes "%ab%ba%") (codes "abba") ≡ Some true)
unfolding on_texts
ends_and_pieces = (refl, refl, refl, refl)

-- the first `a` has no `c` behind it, but a later one
pub a_later_place : (like (codes "%a_c%") (codes "aaxabc") ≡ Some true) × (like (codes "%a_c") (codes "axcayc") ≡ Some true)
unfolding on_texts
a_later_place = (refl, refl)

pub escapes : (escaped (codes "1\\%") (codes "1%") ≡ Some true) × (escaped (codes "1\\%") (codes "10") ≡ Some false) × (escaped (codes "a\\_b") (codes "axb") ≡ Some false) × (escaped (codes "a\\\\b") (codes "a\\b") ≡ Some true)
unfolding on_texts
escapes = (refl, refl, refl, refl)

-- behind the escape any character stands for itself; without an escape `\` does
pub escaped_letters : (escaped (codes "a\\b") (codes "ab") ≡ Some true) × (like (codes "a\\%") (codes "a\\b") ≡ Some true)
unfolding on_texts
escaped_letters = (refl, refl)

-- `%` as the escape is no wildcard
pub percent_escapes : answer Sensitive (Some 37) (codes "%%") (codes "%") ≡ Some true
unfolding on_texts
percent_escapes = refl

-- PostgreSQL refuses it, as is done here, where SQLite answers that it does not match
pub escape_at_end : escaped (codes "a\\") (codes "a\\") ≡ None
unfolding on_texts
escape_at_end = refl

pub without_case : (answer Insensitive None (codes "A%") (codes "abc") ≡ Some true) × (answer Insensitive None (codes "a_C") (codes "AbC") ≡ Some true) × (answer Insensitive None e_acute (201 ∷ []) ≡ Some false) × (like (codes "A%") (codes "abc") ≡ Some false)
unfolding on_texts
without_case = (refl, refl, refl, refl)

pub beginnings : (option_map leading (pattern_of None (codes "ab_c%")) ≡ Some (codes "ab")) × (option_map leading (pattern_of (Some 92) (codes "1\\%%")) ≡ Some (codes "1%"))
unfolding on_texts
beginnings = (refl, refl)

-- written with the escape `\`
pub written : option_map pattern_text (pattern_of (Some 33) (codes "50!%_%")) ≡ Some (codes "50\\%_%")
unfolding on_texts
written = refl
