-- What stands before a pattern's first wildcard, and what a pattern is whose only wildcard is a `%` at its end, or that has none.
use Rattle.std.proofs.Common.{◌≡◌, ℕ, ◌<◌, true, false, ltb, List, [], ◌∷◌, ◌++◌, length, refl, sym, ap, ◌∙◌, append-nil, arith, ltb-true}
use Rattle.std.proofs.lemmas.Bool.{and_parts, false≢true}
use Rattle.std.proofs.lemmas.Str.{IsUtf8-string_bytes, encodes-chars}
use Rattle.std.specs.Str.{IsUtf8, chars, encode_utf8_all}
use Rattle.std.specs.String.{string_bytes}
use Rattle.like_patterns.specs.declared.case.Case.TheVariants.{Sensitive}
use Rattle.like_patterns.specs.declared.pieces.Fixed.TheVariants as fixed
use Rattle.like_patterns.specs.declared.pieces.Piece.{Piece}
use Rattle.like_patterns.specs.declared.pieces.Piece.TheVariants as pieces
use Rattle.like_patterns.specs.Patterns.{Part, any_character, any_string, leading, literal}
use Rattle.like_patterns.specs.Pieces.{are_in_runs, literals, parts_of}

leading-literals : (cs : List ℕ) (more : List Part) → leading (literals cs ++ more) ≡ cs ++ leading more
leading-literals [] more = refl
leading-literals (c ∷ cs) more = ap (λ (l : List ℕ). c ∷ l) (leading-literals cs more)

leading_behind : (ps : List Piece) → are_in_runs true ps ≡ true → leading (parts_of Sensitive ps) ≡ []
leading_behind [] runs = refl
leading_behind (pieces.Fixed (fixed.Text text) ∷ ps) runs = absurd (false≢true runs)
leading_behind (pieces.Fixed fixed.AnyCharacter ∷ ps) runs = refl
leading_behind (pieces.AnyString ∷ ps) runs = refl

pub leading_is : (text : List ℕ) (parts : List Part) (behind : List Piece) → IsUtf8 text → parts ≡ literals (chars text) ++ parts_of Sensitive behind → are_in_runs true behind ≡ true → text ≡ encode_utf8_all (leading parts)
leading_is text parts behind utf8 are runs =
    let same : leading parts ≡ chars text = ap leading are ∙ leading-literals (chars text) (parts_of Sensitive behind) ∙ ap (λ (l : List ℕ). chars text ++ l) (leading_behind behind runs) ∙ append-nil (chars text) in
    sym (encodes-chars text utf8) ∙ ap encode_utf8_all (sym same)

-- ---- the parts behind the first characters

abbrev after_text : List Part → List Part
after_text [] = []
after_text (literal c ∷ parts) = after_text parts
after_text (any_character ∷ parts) = any_character ∷ parts
after_text (any_string ∷ parts) = any_string ∷ parts

after_text-literals : (cs : List ℕ) (more : List Part) → after_text (literals cs ++ more) ≡ after_text more
after_text-literals [] more = refl
after_text-literals (c ∷ cs) more = after_text-literals cs more

after_text_behind : (ps : List Piece) → are_in_runs true ps ≡ true → after_text (parts_of Sensitive ps) ≡ parts_of Sensitive ps
after_text_behind [] runs = refl
after_text_behind (pieces.Fixed (fixed.Text text) ∷ ps) runs = absurd (false≢true runs)
after_text_behind (pieces.Fixed fixed.AnyCharacter ∷ ps) runs = refl
after_text_behind (pieces.AnyString ∷ ps) runs = refl

behind_is : (text : List ℕ) (parts : List Part) (behind : List Piece) (cs : List ℕ) (more : List Part) → parts ≡ literals (chars text) ++ parts_of Sensitive behind → are_in_runs true behind ≡ true → parts ≡ literals cs ++ more
    → parts_of Sensitive behind ≡ after_text more
behind_is text parts behind cs more are runs is =
    sym (after_text_behind behind runs) ∙ sym (after_text-literals (chars text) (parts_of Sensitive behind)) ∙ ap after_text (sym are ∙ is) ∙ after_text-literals cs more

no_characters : (cs : List ℕ) (rest : List Part) (bytes : List ℕ) → encode_utf8_all cs ≡ bytes → 0 < length bytes → literals cs ++ rest ≡ [] → ⊥
no_characters [] rest bytes is some none = let zero : 0 ≡ length bytes = ap length is in absurd (omega arith)
no_characters (c ∷ cs) rest bytes is some none = absurd cc

some_part : (bytes : List ℕ) (rest : List Part) → IsUtf8 bytes → 0 < length bytes → literals (chars bytes) ++ rest ≡ [] → ⊥
some_part bytes rest utf8 some none = no_characters (chars bytes) rest bytes (encodes-chars bytes utf8) some none

parts_of_none : (ps : List Piece) → are_in_runs false ps ≡ true → parts_of Sensitive ps ≡ [] → ps ≡ []
parts_of_none [] runs none = refl
parts_of_none (pieces.Fixed (fixed.Text text) ∷ ps) runs none =
    let some = (and_parts (ltb 0 (length (string_bytes text.string))) (are_in_runs true ps) runs).0 in
    absurd (some_part (string_bytes text.string) (parts_of Sensitive ps) (IsUtf8-string_bytes text.string) (ltb-true 0 (length (string_bytes text.string)) some) none)
parts_of_none (pieces.Fixed fixed.AnyCharacter ∷ ps) runs none = absurd cc
parts_of_none (pieces.AnyString ∷ ps) runs none = absurd cc

runs_anyhow : (ps : List Piece) → are_in_runs true ps ≡ true → are_in_runs false ps ≡ true
runs_anyhow [] runs = refl
runs_anyhow (pieces.Fixed (fixed.Text text) ∷ ps) runs = absurd (false≢true runs)
runs_anyhow (pieces.Fixed fixed.AnyCharacter ∷ ps) runs = runs
runs_anyhow (pieces.AnyString ∷ ps) runs = runs

-- a pattern without a wildcard
pub exact_is : (text : List ℕ) (parts : List Part) (behind : List Piece) → parts ≡ literals (chars text) ++ parts_of Sensitive behind → behind ≡ [] → parts ≡ literals (chars text)
exact_is text parts behind are none = are ∙ ap (λ (l : List Piece). literals (chars text) ++ parts_of Sensitive l) none ∙ append-nil (literals (chars text))

pub exact_only : (text : List ℕ) (parts : List Part) (behind : List Piece) → parts ≡ literals (chars text) ++ parts_of Sensitive behind → are_in_runs true behind ≡ true → (cs : List ℕ) → parts ≡ literals cs → behind ≡ []
exact_only text parts behind are runs cs is =
    parts_of_none behind (runs_anyhow behind runs) (behind_is text parts behind cs [] are runs (is ∙ sym (append-nil (literals cs))))

-- one whose only wildcard is a `%` at its end
pub prefix_is : (text : List ℕ) (parts : List Part) (behind : List Piece) → parts ≡ literals (chars text) ++ parts_of Sensitive behind → behind ≡ pieces.AnyString ∷ [] → parts ≡ literals (chars text) ++ any_string ∷ []
prefix_is text parts behind are one = are ∙ ap (λ (l : List Piece). literals (chars text) ++ parts_of Sensitive l) one

one_any : (behind : List Piece) → are_in_runs true behind ≡ true → parts_of Sensitive behind ≡ any_string ∷ [] → behind ≡ pieces.AnyString ∷ []
one_any [] runs is = absurd cc
one_any (pieces.Fixed (fixed.Text text) ∷ ps) runs is = absurd (false≢true runs)
one_any (pieces.Fixed fixed.AnyCharacter ∷ ps) runs is = absurd cc
one_any (pieces.AnyString ∷ ps) runs is =
    let none : parts_of Sensitive ps ≡ [] = cc in
    ap (λ (l : List Piece). pieces.AnyString ∷ l) (parts_of_none ps runs none)

pub prefix_only : (text : List ℕ) (parts : List Part) (behind : List Piece) → parts ≡ literals (chars text) ++ parts_of Sensitive behind → are_in_runs true behind ≡ true → (cs : List ℕ) → parts ≡ literals cs ++ any_string ∷ []
    → behind ≡ pieces.AnyString ∷ []
prefix_only text parts behind are runs cs is = one_any behind runs (behind_is text parts behind cs (any_string ∷ []) are runs is)
