-- The laws of patterns.
use Rattle.std.proofs.Common.{◌≡◌, ℕ, Bool, true, false, cond, ◌||◌, eqb, List, [], ◌∷◌, ◌++◌, Option, Some, None, refl, sym, ap, ◌∙◌, subst}
use Rattle.std.proofs.lemmas.Bool.{and_parts, cond-false, eqb-true, false≢true, or_parts}
use Rattle.std.specs.Option.{option_map}
use Rattle.like_patterns.specs.Laws.{ExactMatch, MatchesBegin, PlainTextsComeBack, PrefixMatches, TextsComeBack}
use Rattle.like_patterns.specs.Patterns.{Part, literal, any_character, any_string, matches}
use Rattle.like_patterns.specs.Pieces.{literals}
use Rattle.like_patterns.specs.Texts.{has_special, is_escape, is_special, part_of, parts_from, pattern_text}
use Rattle.like_patterns.proofs.Splitting.{Split-from, any_alone, literals_match, matches-append, matches-literals}

pub matches_begin : MatchesBegin
unfolding matches
matches_begin [] cs met = (cs, refl)
matches_begin (literal d ∷ parts) [] met = absurd (false≢true met)
matches_begin (literal d ∷ parts) (c ∷ cs) met =
    let both = and_parts (eqb c d) (matches parts cs) met in
    let more = matches_begin parts cs both.1 in
    (more.0, ap (λ (n : ℕ). n ∷ cs) (eqb-true c d both.0) ∙ ap (λ (l : List ℕ). d ∷ l) more.1)
matches_begin (any_character ∷ parts) cs met = (cs, refl)
matches_begin (any_string ∷ parts) cs met = (cs, refl)

pub exact_match : ExactMatch
exact_match wanted cs = (λ met. literals_match wanted cs met, λ is. subst (λ (l : List ℕ). matches (literals wanted) l ≡ true) (sym is) (matches-literals wanted))

pub prefix_matches : PrefixMatches
prefix_matches wanted cs = (
  λ met.
      let split = Split-from (literals wanted) (any_string ∷ []) cs met in
      (split.rest, split.is ∙ ap (λ (l : List ℕ). l ++ split.rest) (literals_match wanted split.front split.front_matches)),
  λ begins. subst (λ (l : List ℕ). matches (literals wanted ++ any_string ∷ []) l ≡ true) (sym begins.1) (matches-append (literals wanted) (any_string ∷ []) wanted begins.0 (matches-literals wanted) (any_alone begins.0)),
)

-- ---- texts

part_plain : (c : ℕ) → is_special c ≡ false → part_of c ≡ literal c
part_plain c plain =
    let others = or_parts (eqb c 37 || eqb c 95) (eqb c 92) plain in
    let wildcards = or_parts (eqb c 37) (eqb c 95) others.0 in
    cond-false (eqb c 37) any_string (cond (eqb c 95) any_character (literal c)) wildcards.0 ∙ cond-false (eqb c 95) any_character (literal c) wildcards.1

plain_literal : (escape : Option ℕ) (c : ℕ) (cs : List ℕ) (parts : List Part) → is_escape escape c ≡ false → is_special c ≡ false → parts_from escape false cs ≡ Some parts → parts_from escape false (c ∷ cs) ≡ Some (literal c ∷ parts)
unfolding parts_from
plain_literal escape c cs parts other plain rest =
    cond-false (is_escape escape c) (parts_from escape true cs) (option_map (λ (more : List Part). part_of c ∷ more) (parts_from escape false cs)) other
    ∙ ap (option_map (λ (more : List Part). part_of c ∷ more)) rest ∙ ap (λ (p : Part). Some (p ∷ parts)) (part_plain c plain)

escaped_literal : (c : ℕ) (cs : List ℕ) (parts : List Part) → parts_from (Some 92) false cs ≡ Some parts → parts_from (Some 92) false (92 ∷ c ∷ cs) ≡ Some (literal c ∷ parts)
unfolding parts_from
escaped_literal c cs parts rest = ap (option_map (λ (more : List Part). literal c ∷ more)) rest

any_character_back : (escape : Option ℕ) (cs : List ℕ) (parts : List Part) → is_escape escape 95 ≡ false → parts_from escape false cs ≡ Some parts → parts_from escape false (95 ∷ cs) ≡ Some (any_character ∷ parts)
unfolding parts_from
any_character_back escape cs parts other rest =
    cond-false (is_escape escape 95) (parts_from escape true cs) (option_map (λ (more : List Part). any_character ∷ more) (parts_from escape false cs)) other
    ∙ ap (option_map (λ (more : List Part). any_character ∷ more)) rest

any_string_back : (escape : Option ℕ) (cs : List ℕ) (parts : List Part) → is_escape escape 37 ≡ false → parts_from escape false cs ≡ Some parts → parts_from escape false (37 ∷ cs) ≡ Some (any_string ∷ parts)
unfolding parts_from
any_string_back escape cs parts other rest =
    cond-false (is_escape escape 37) (parts_from escape true cs) (option_map (λ (more : List Part). any_string ∷ more) (parts_from escape false cs)) other
    ∙ ap (option_map (λ (more : List Part). any_string ∷ more)) rest

no_text : (escape : Option ℕ) → parts_from escape false [] ≡ Some []
unfolding parts_from
no_text escape = refl

literal_back_by : (c : ℕ) (parts : List Part) (special : Bool) → is_special c ≡ special → parts_from (Some 92) false (pattern_text parts) ≡ Some parts
    → parts_from (Some 92) false (cond special (92 ∷ c ∷ []) (c ∷ []) ++ pattern_text parts) ≡ Some (literal c ∷ parts)
literal_back_by c parts true is rest = escaped_literal c (pattern_text parts) parts rest
literal_back_by c parts false is rest = plain_literal (Some 92) c (pattern_text parts) parts (or_parts (eqb c 37 || eqb c 95) (eqb c 92) is).1 is rest

pub texts_come_back : TextsComeBack
texts_come_back [] = no_text (Some 92)
texts_come_back (literal c ∷ parts) = literal_back_by c parts (is_special c) refl (texts_come_back parts)
texts_come_back (any_character ∷ parts) = any_character_back (Some 92) (pattern_text parts) parts refl (texts_come_back parts)
texts_come_back (any_string ∷ parts) = any_string_back (Some 92) (pattern_text parts) parts refl (texts_come_back parts)

pub plain_texts_come_back : PlainTextsComeBack
plain_texts_come_back [] plain = no_text None
plain_texts_come_back (literal c ∷ parts) plain =
    let both = or_parts (is_special c) (has_special parts) plain in
    subst (λ (l : List ℕ). parts_from None false (l ++ pattern_text parts) ≡ Some (literal c ∷ parts)) (sym (cond-false (is_special c) (92 ∷ c ∷ []) (c ∷ []) both.0))
    (plain_literal None c (pattern_text parts) parts refl both.0 (plain_texts_come_back parts both.1))
plain_texts_come_back (any_character ∷ parts) plain = any_character_back None (pattern_text parts) parts refl (plain_texts_come_back parts plain)
plain_texts_come_back (any_string ∷ parts) plain = any_string_back None (pattern_text parts) parts refl (plain_texts_come_back parts plain)
