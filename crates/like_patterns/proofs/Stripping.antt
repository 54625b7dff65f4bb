-- What stripping a text, at its front or its end, leaves to be matched.
use Rattle.std.proofs.Common.{Bor, IfSome, MatchOption, None, Option, Some, ◌≡◌, drop, get_or, ℕ, ◌+◌, ◌<◌, ◌≤◌, Bool, true, false, List, [], ◌∷◌, ◌++◌, length, refl, sym, ap, ◌∙◌, subst, append_assoc, append-nil, length-append, eqb, arith}
use Rattle.std.proofs.lemmas.Bool.{false_from_ne_true, eqb-true, eq-eqb}
use Rattle.std.proofs.lemmas.Str.{IsUtf8-encode, chars-append, chars-nil, chars_past_char, encodes-append, encodes-chars}
use Rattle.std.specs.Char.{encode_utf8}
use Rattle.std.specs.Str.{IsUtf8, chars, encode_utf8_all}
use Rattle.std.specs.String.{string_bytes}
use Rattle.like_patterns.specs.declared.case.Case.{Case}
use Rattle.like_patterns.specs.declared.pieces.Fixed.{Fixed}
use Rattle.like_patterns.specs.declared.pieces.Fixed.TheVariants as fixed
use Rattle.like_patterns.specs.declared.pieces.Piece.{Piece}
use Rattle.like_patterns.specs.declared.pieces.Piece.TheVariants as pieces
use Rattle.like_patterns.specs.Characters.{Begins, BeginsOtherwise, BeginsWithOne, Ends, EndsOtherwise, EndsWithOne, compared}
use Rattle.like_patterns.specs.Patterns.{Part, any_character, any_string, matches}
use Rattle.like_patterns.specs.Pieces.{FailsAtEnd, FailsAtFront, StopsAtAny, StripsEnd, StripsFront, StripsTo, fixed_parts, is_fixed, literals, matches_inside, parts_of, piece_parts}
use Rattle.like_patterns.proofs.Letters.{IsUtf8-compared, compared-append, compared-nil, compared_one, length-compared, utf8_before_compared, utf8_behind_compared}
use Rattle.like_patterns.proofs.Splitting.{Split-from, any_alone, any_any, any_character_first, fails_at_end, is_fixed-append, is_fixed-literals, length-fixed, literals_match, matches-append, matches-literals, matches_before, matches_behind, no_character, one_character, same_tests}

-- ---- characters that stand for themselves

text_cut : (case : Case) (text one other : List ℕ) → text ≡ one ++ other → IsUtf8 (compared case one) → chars (compared case text) ≡ chars (compared case one) ++ chars (compared case other)
text_cut case text one other is utf8 = ap (λ (l : List ℕ). chars (compared case l)) is ∙ ap chars (compared-append case one other) ∙ chars-append (compared case one) (compared case other) utf8

pub text_begins : (case : Case) (text wanted rest : List ℕ) → IsUtf8 wanted → Begins case text wanted rest → StripsFront (literals (chars (compared case wanted))) (compared case text) (compared case rest)
text_begins case text wanted rest utf8 begins =
    let first : IsUtf8 (compared case begins.first) = subst IsUtf8 (sym begins.same) (IsUtf8-compared case wanted utf8) in
    record {
      front = chars (compared case wanted);
      is = text_cut case text begins.first rest begins.is first ∙ ap (λ (l : List ℕ). chars l ++ chars (compared case rest)) begins.same;
      matched = matches-literals (chars (compared case wanted));
    }

pub text_begins_utf8 : (case : Case) (text wanted rest : List ℕ) → IsUtf8 text → IsUtf8 wanted → Begins case text wanted rest → IsUtf8 rest
text_begins_utf8 case text wanted rest utf8 wanted_utf8 begins =
    utf8_behind_compared case begins.first rest (subst IsUtf8 (sym begins.same) (IsUtf8-compared case wanted wanted_utf8)) (subst IsUtf8 begins.is utf8)

-- a text whose characters are these and then others
spelled : (text wanted : List ℕ) (rest : List ℕ) → IsUtf8 text → IsUtf8 wanted → chars text ≡ chars wanted ++ rest → text ≡ wanted ++ encode_utf8_all rest
spelled text wanted rest utf8 wanted_utf8 is =
    sym (encodes-chars text utf8) ∙ ap encode_utf8_all is ∙ encodes-append (chars wanted) rest ∙ ap (λ (l : List ℕ). l ++ encode_utf8_all rest) (encodes-chars wanted wanted_utf8)

spelled_behind : (text wanted : List ℕ) (front : List ℕ) → IsUtf8 text → IsUtf8 wanted → chars text ≡ front ++ chars wanted → text ≡ encode_utf8_all front ++ wanted
spelled_behind text wanted front utf8 wanted_utf8 is =
    sym (encodes-chars text utf8) ∙ ap encode_utf8_all is ∙ encodes-append front (chars wanted) ∙ ap (λ (l : List ℕ). encode_utf8_all front ++ l) (encodes-chars wanted wanted_utf8)

pub text_begins_otherwise : (case : Case) (text wanted : List ℕ) → IsUtf8 text → IsUtf8 wanted → BeginsOtherwise case text wanted → FailsAtFront (literals (chars (compared case wanted))) (compared case text)
text_begins_otherwise case text wanted utf8 wanted_utf8 otherwise = λ more.
    let cs = chars (compared case wanted) in
    false_from_ne_true (matches (literals cs ++ more) (chars (compared case text))) (λ met.
    let split = Split-from (literals cs) more (chars (compared case text)) met in
    let same : split.front ≡ cs = literals_match cs split.front split.front_matches in
    otherwise (encode_utf8_all split.rest)
    (spelled (compared case text) (compared case wanted) split.rest (IsUtf8-compared case text utf8) (IsUtf8-compared case wanted wanted_utf8) (split.is ∙ ap (λ (l : List ℕ). l ++ split.rest) same)))

pub text_ends : (case : Case) (text wanted front : List ℕ) → IsUtf8 text → IsUtf8 wanted → Ends case text wanted front → StripsEnd (literals (chars (compared case wanted))) (compared case text) (compared case front)
text_ends case text wanted front utf8 wanted_utf8 ends =
    let last : IsUtf8 (compared case ends.last) = subst IsUtf8 (sym ends.same) (IsUtf8-compared case wanted wanted_utf8) in
    let before : IsUtf8 front = utf8_before_compared case front ends.last last (subst IsUtf8 ends.is utf8) in
    record {
      rest = chars (compared case wanted);
      is = text_cut case text front ends.last ends.is (IsUtf8-compared case front before) ∙ ap (λ (l : List ℕ). chars (compared case front) ++ chars l) ends.same;
      matched = matches-literals (chars (compared case wanted));
    }

pub text_ends_utf8 : (case : Case) (text wanted front : List ℕ) → IsUtf8 text → IsUtf8 wanted → Ends case text wanted front → IsUtf8 front
text_ends_utf8 case text wanted front utf8 wanted_utf8 ends =
    utf8_before_compared case front ends.last (subst IsUtf8 (sym ends.same) (IsUtf8-compared case wanted wanted_utf8)) (subst IsUtf8 ends.is utf8)

pub text_ends_otherwise : (case : Case) (text wanted : List ℕ) → IsUtf8 text → IsUtf8 wanted → EndsOtherwise case text wanted → FailsAtEnd (literals (chars (compared case wanted))) (compared case text)
text_ends_otherwise case text wanted utf8 wanted_utf8 otherwise = λ more.
    let cs = chars (compared case wanted) in
    false_from_ne_true (matches (more ++ literals cs) (chars (compared case text))) (λ met.
    let split = Split-from more (literals cs) (chars (compared case text)) met in
    let same : split.rest ≡ cs = literals_match cs split.rest split.rest_matches in
    otherwise (encode_utf8_all split.front)
    (spelled_behind (compared case text) (compared case wanted) split.front (IsUtf8-compared case text utf8) (IsUtf8-compared case wanted wanted_utf8) (split.is ∙ ap (λ (l : List ℕ). split.front ++ l) same)))

-- ---- one character

pub no_characters : (case : Case) (text : List ℕ) → text ≡ [] → chars (compared case text) ≡ []
no_characters case text none = ap chars (compared-nil case text none) ∙ chars-nil

pub one_begins : (case : Case) (text rest : List ℕ) → IsUtf8 text → BeginsWithOne text rest → StripsFront (any_character ∷ []) (compared case text) (compared case rest)
one_begins case text rest utf8 begins =
    let one = compared_one case begins.character begins.scalar in
    let is : compared case text ≡ encode_utf8 one.0 ++ compared case rest =
    ap (compared case) begins.is ∙ compared-append case (encode_utf8 begins.character) rest ∙ ap (λ (l : List ℕ). l ++ compared case rest) one.1.1 in
    record {
      front = one.0 ∷ [];
      is = chars_past_char (compared case text) (compared case rest) one.0 (IsUtf8-compared case text utf8) is;
      matched = one_character one.0;
    }

pub none_begins : (case : Case) (text : List ℕ) → text ≡ [] → FailsAtFront (any_character ∷ []) (compared case text)
none_begins case text none = λ more.
    subst (λ (l : List ℕ). matches (any_character ∷ more) l ≡ false) (sym (no_characters case text none)) (no_character more)

pub one_ends : (case : Case) (text front : List ℕ) → IsUtf8 text → EndsWithOne text front → StripsEnd (any_character ∷ []) (compared case text) (compared case front)
one_ends case text front utf8 ends =
    let one = compared_one case ends.character ends.scalar in
    let is : compared case text ≡ compared case front ++ encode_utf8 one.0 =
    ap (compared case) ends.is ∙ compared-append case front (encode_utf8 ends.character) ∙ ap (λ (l : List ℕ). compared case front ++ l) one.1.1 in
    let last : chars (encode_utf8 one.0) ≡ one.0 ∷ [] =
    chars_past_char (encode_utf8 one.0) [] one.0 (IsUtf8-encode one.0 one.1.0) (sym (append-nil (encode_utf8 one.0))) ∙ ap (λ (l : List ℕ). one.0 ∷ l) chars-nil in
    record {
      rest = one.0 ∷ [];
      is = ap chars is ∙ chars-append (compared case front) (encode_utf8 one.0) (IsUtf8-compared case front ends.utf8) ∙ ap (λ (l : List ℕ). chars (compared case front) ++ l) last;
      matched = one_character one.0;
    }

pub none_ends : (case : Case) (text : List ℕ) → text ≡ [] → FailsAtEnd (any_character ∷ []) (compared case text)
none_ends case text none = λ more.
    false_from_ne_true (matches (more ++ any_character ∷ []) (chars (compared case text))) (λ met.
    let split = Split-from more (any_character ∷ []) (chars (compared case text)) met in
    let one : length split.rest ≡ 1 = length-fixed (any_character ∷ []) split.rest refl split.rest_matches in
    let all : length (chars (compared case text)) ≡ length split.front + length split.rest = ap length split.is ∙ length-append split.front split.rest in
    let zero : length (chars (compared case text)) ≡ 0 = ap length (no_characters case text none) in
    absurd (omega arith))

-- ---- what a call gave

pub text_after : (case : Case) (text wanted : List ℕ) (r : Option (Bor (List ℕ))) → IsUtf8 text → IsUtf8 wanted → MatchOption r (BeginsOtherwise case text wanted) (λ rest. Begins case text wanted rest.now)
    → MatchOption r (FailsAtFront (literals (chars (compared case wanted))) (compared case text)) (λ rest. StripsFront (literals (chars (compared case wanted))) (compared case text) (compared case rest.now))
text_after case text wanted None utf8 wanted_utf8 gave = text_begins_otherwise case text wanted utf8 wanted_utf8 gave
text_after case text wanted (Some rest) utf8 wanted_utf8 gave = text_begins case text wanted rest.now wanted_utf8 gave

pub text_after_utf8 : (case : Case) (text wanted : List ℕ) (r : Option (Bor (List ℕ))) → IsUtf8 text → IsUtf8 wanted → MatchOption r (BeginsOtherwise case text wanted) (λ rest. Begins case text wanted rest.now)
    → IfSome r (λ rest. IsUtf8 rest.now)
text_after_utf8 case text wanted None utf8 wanted_utf8 gave = tt
text_after_utf8 case text wanted (Some rest) utf8 wanted_utf8 gave = text_begins_utf8 case text wanted rest.now utf8 wanted_utf8 gave

pub text_before : (case : Case) (text wanted : List ℕ) (r : Option (Bor (List ℕ))) → IsUtf8 text → IsUtf8 wanted → MatchOption r (EndsOtherwise case text wanted) (λ front. Ends case text wanted front.now)
    → MatchOption r (FailsAtEnd (literals (chars (compared case wanted))) (compared case text)) (λ front. StripsEnd (literals (chars (compared case wanted))) (compared case text) (compared case front.now))
text_before case text wanted None utf8 wanted_utf8 gave = text_ends_otherwise case text wanted utf8 wanted_utf8 gave
text_before case text wanted (Some front) utf8 wanted_utf8 gave = text_ends case text wanted front.now utf8 wanted_utf8 gave

pub text_before_utf8 : (case : Case) (text wanted : List ℕ) (r : Option (Bor (List ℕ))) → IsUtf8 text → IsUtf8 wanted → MatchOption r (EndsOtherwise case text wanted) (λ front. Ends case text wanted front.now)
    → IfSome r (λ front. IsUtf8 front.now)
text_before_utf8 case text wanted None utf8 wanted_utf8 gave = tt
text_before_utf8 case text wanted (Some front) utf8 wanted_utf8 gave = text_ends_utf8 case text wanted front.now utf8 wanted_utf8 gave

pub one_after : (case : Case) (text : List ℕ) (r : Option (Bor (List ℕ))) → IsUtf8 text → MatchOption r (text ≡ []) (λ rest. BeginsWithOne text rest.now)
    → MatchOption r (FailsAtFront (any_character ∷ []) (compared case text)) (λ rest. StripsFront (any_character ∷ []) (compared case text) (compared case rest.now))
one_after case text None utf8 gave = none_begins case text gave
one_after case text (Some rest) utf8 gave = one_begins case text rest.now utf8 gave

pub one_before : (case : Case) (text : List ℕ) (r : Option (Bor (List ℕ))) → IsUtf8 text → MatchOption r (text ≡ []) (λ front. EndsWithOne text front.now)
    → MatchOption r (FailsAtEnd (any_character ∷ []) (compared case text)) (λ front. StripsEnd (any_character ∷ []) (compared case text) (compared case front.now))
one_before case text None utf8 gave = none_ends case text gave
one_before case text (Some front) utf8 gave = one_ends case text front.now utf8 gave

-- ---- pieces

pub fixed_is_fixed : (case : Case) (piece : Fixed) → is_fixed (fixed_parts case piece) ≡ true
fixed_is_fixed case (fixed.Text text) = is_fixed-literals (chars (compared case (string_bytes text.string)))
fixed_is_fixed case fixed.AnyCharacter = refl

pub parts_of-append : (case : Case) (xs ys : List Piece) → parts_of case (xs ++ ys) ≡ parts_of case xs ++ parts_of case ys
parts_of-append case [] ys = refl
parts_of-append case (x ∷ xs) ys = ap (λ (l : List Part). piece_parts case x ++ l) (parts_of-append case xs ys) ∙ sym (append_assoc (piece_parts case x) (parts_of case xs) (parts_of case ys))

pub parts_of-push : (case : Case) (xs : List Piece) (y : Piece) → parts_of case (xs ++ y ∷ []) ≡ parts_of case xs ++ piece_parts case y
parts_of-push case xs y = parts_of-append case xs (y ∷ []) ∙ ap (λ (l : List Part). parts_of case xs ++ l) (append-nil (piece_parts case y))

-- ---- from the front

pub strips_none : (parts : List Part) (text : List ℕ) → StripsTo parts text parts text
strips_none parts text = record { gone = []; are = refl; fixed = refl; strips = record { front = []; is = refl; matched = matches-literals [] } }

pub strips_more : (all more left : List Part) (text rest next : List ℕ) → is_fixed more ≡ true → StripsTo all text (more ++ left) rest → StripsFront more rest next → StripsTo all text left next
strips_more all more left text rest next are so_far step = record {
  gone = so_far.gone ++ more;
  are = so_far.are ∙ sym (append_assoc so_far.gone more left);
  fixed = is_fixed-append so_far.gone more so_far.fixed are;
  strips = record {
    front = so_far.strips.front ++ step.front;
    is = so_far.strips.is ∙ ap (λ (l : List ℕ). so_far.strips.front ++ l) step.is ∙ sym (append_assoc so_far.strips.front step.front (chars next));
    matched = matches-append so_far.gone more so_far.strips.front step.front so_far.strips.matched step.matched;
  };
}

-- what is left has to match what is left of the text
pub strips_match : (all left others : List Part) (text rest : List ℕ) → StripsTo all text left rest → matches (all ++ others) (chars text) ≡ matches (left ++ others) (chars rest)
strips_match all left others text rest to =
    ap (λ (l : List Part). matches (l ++ others) (chars text)) to.are ∙ ap (λ (l : List Part). matches l (chars text)) (append_assoc to.gone left others)
    ∙ ap (matches (to.gone ++ (left ++ others))) to.strips.is ∙ matches_behind to.gone (left ++ others) to.strips.front (chars rest) to.fixed to.strips.matched

pub strips_fails : (all more left : List Part) (text rest : List ℕ) → StripsTo all text (more ++ left) rest → FailsAtFront more rest → FailsAtFront all text
strips_fails all more left text rest to fails = λ others.
    strips_match all (more ++ left) others text rest to ∙ ap (λ (l : List Part). matches l (chars rest)) (append_assoc more left others) ∙ fails (left ++ others)

pub strips_match_all : (all left : List Part) (text rest : List ℕ) → StripsTo all text left rest → matches all (chars text) ≡ matches left (chars rest)
strips_match_all all left text rest to =
    ap (λ (l : List Part). matches l (chars text)) (sym (append-nil all)) ∙ strips_match all left [] text rest to ∙ ap (λ (l : List Part). matches l (chars rest)) (append-nil left)

pub no_bytes : (rest : List ℕ) → length rest ≡ 0 → rest ≡ []
no_bytes [] none = refl
no_bytes (b ∷ rest) none = absurd (omega arith)

-- without parts only the empty text is left
pub ends_here : (case : Case) (rest : List ℕ) (is_empty : Bool) → is_empty ≡ eqb (length rest) 0 → IsUtf8 rest → is_empty ≡ matches [] (chars (compared case rest))
ends_here case rest is_empty says utf8 =
    same_tests is_empty (matches [] (chars (compared case rest)))
    (λ empty. subst (λ (l : List ℕ). matches [] l ≡ true) (sym (no_characters case rest (no_bytes rest (eqb-true (length rest) 0 (sym says ∙ empty))))) (matches-literals []))
    (λ met.
    let none : chars (compared case rest) ≡ [] = literals_match [] (chars (compared case rest)) met in
    let same : compared case rest ≡ [] = sym (encodes-chars (compared case rest) (IsUtf8-compared case rest utf8)) ∙ ap encode_utf8_all none in
    says ∙ eq-eqb (length rest) 0 (sym (length-compared case rest) ∙ ap length same))

-- ---- from the end

pub strips_end : (others parts : List Part) (text front : List ℕ) → is_fixed parts ≡ true → StripsEnd parts text front → matches (others ++ parts) (chars text) ≡ matches others (chars front)
strips_end others parts text front are strips = ap (matches (others ++ parts)) strips.is ∙ matches_before others parts (chars front) strips.rest are strips.matched

-- ---- between `%` and `%`

pub inside_none : (text : List ℕ) → matches_inside [] text ≡ true
inside_none text = any_any [] (chars text) ∙ any_alone (chars text)

pub inside_any : (more : List Part) (text : List ℕ) → matches_inside (any_string ∷ more) text ≡ matches_inside more text
inside_any more text = any_any (more ++ any_string ∷ []) (chars text)

one_off : (more : List Part) (front rest : List ℕ) → length front ≡ 1 → matches (any_string ∷ any_character ∷ more) (front ++ rest) ≡ matches (any_string ∷ more) rest
one_off more [] rest long = absurd (omega arith)
one_off more (c ∷ []) rest long = any_character_first more c rest
one_off more (c ∷ d ∷ front) rest long = absurd (omega arith)

pub inside_one : (more : List Part) (text rest : List ℕ) → StripsFront (any_character ∷ []) text rest → matches_inside (any_character ∷ more) text ≡ matches_inside more rest
inside_one more text rest strips =
    ap (matches (any_string ∷ any_character ∷ (more ++ any_string ∷ []))) strips.is
    ∙ one_off (more ++ any_string ∷ []) strips.front (chars rest) (length-fixed (any_character ∷ []) strips.front refl strips.matched)

pub inside_no_one : (case : Case) (more : List Part) (text : List ℕ) → text ≡ [] → matches_inside (any_character ∷ more) (compared case text) ≡ false
inside_no_one case more text none =
    ap (matches (any_string ∷ any_character ∷ (more ++ any_string ∷ []))) (no_characters case text none) ∙ fails_at_end (any_character ∷ (more ++ any_string ∷ [])) (no_character (more ++ any_string ∷ []))

-- ---- where stripping stops

-- `%` comes next in the parts that are left, or their end
pub record IsLoose (left : List Part) : Type 0 where
  pub more : List Part
  pub is : left ++ any_string ∷ [] ≡ any_string ∷ more

pub stops_loose : (case : Case) (left : List Piece) → StopsAtAny left → IsLoose (parts_of case left)
stops_loose case [] stops = record { more = []; is = refl }
stops_loose case (pieces.Fixed piece ∷ left) stops = absurd stops
stops_loose case (pieces.AnyString ∷ left) stops = record { more = parts_of case left ++ any_string ∷ []; is = refl }

pub no_pieces : (left : List Piece) → length left < 1 → left ≡ []
no_pieces [] below = refl
no_pieces (piece ∷ left) below = absurd (omega arith)

-- the first piece, as a pattern binds it
pub first_is : (left : List Piece) (piece : Piece) → 1 ≤ length left → piece ≡ get_or left 0 piece → left ≡ piece ∷ drop 1 left
first_is [] piece some is = absurd (omega arith)
first_is (other ∷ left) piece some is = ap (λ (p : Piece). p ∷ left) (sym is)

pub any_left : (left : List Piece) → StopsAtAny left → 1 ≤ length left → left ≡ pieces.AnyString ∷ drop 1 left
any_left [] stops some = absurd (omega arith)
any_left (pieces.Fixed piece ∷ left) stops some = absurd stops
any_left (pieces.AnyString ∷ left) stops some = refl

pub strips_at : (case : Case) (all : List Part) (left behind : List Piece) (piece : Piece) (fixed : Fixed) (text rest : List ℕ) → left ≡ piece ∷ behind → piece ≡ pieces.Fixed fixed → StripsTo all text (parts_of case left) rest
    → StripsTo all text (fixed_parts case fixed ++ parts_of case behind) rest
strips_at case all left behind piece fixed text rest first is to =
    subst (λ (l : List Part). StripsTo all text l rest) (ap (parts_of case) (first ∙ ap (λ (p : Piece). p ∷ behind) is)) to

-- pieces that end with this one
pub ends_with : (case : Case) (left before : List Piece) (piece : Piece) (fixed : Fixed) → left ≡ before ++ piece ∷ [] → piece ≡ pieces.Fixed fixed → parts_of case left ≡ parts_of case before ++ fixed_parts case fixed
ends_with case left before piece fixed last is =
    ap (parts_of case) last ∙ parts_of-push case before piece ∙ ap (λ (p : Piece). parts_of case before ++ piece_parts case p) is

pub ends_with_any : (case : Case) (left before : List Piece) (piece : Piece) → left ≡ before ++ piece ∷ [] → piece ≡ pieces.AnyString → parts_of case left ≡ parts_of case before ++ any_string ∷ []
ends_with_any case left before piece last is =
    ap (parts_of case) last ∙ parts_of-push case before piece ∙ ap (λ (p : Piece). parts_of case before ++ piece_parts case p) is

pub nothing_leads : (parts : List Part) → parts ≡ literals (chars []) ++ parts
nothing_leads parts = sym (ap (λ (l : List ℕ). literals l ++ parts) chars-nil)
