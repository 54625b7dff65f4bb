-- Patterns by their parts, and by the text that spells them.
use Rattle.std.proofs.Common.{◌≡◌, ◌≢◌, ◌+◌, ℕ, Bool, true, false, ◌<◌, cond, eqb, List, [], ◌∷◌, ◌++◌, get_or, length, map, take, Option, Some, None, Vec, Global, refl, sym, subst, ap, ◌∙◌, append_assoc, append-nil}
use Rattle.std.proofs.lemmas.Bool.{cond-false, eqb-true}
use Rattle.std.proofs.lemmas.List.{take_more}
use Rattle.std.proofs.lemmas.Grind.{flat_map-append}
use Rattle.std.proofs.lemmas.Option.{same_Some}
use Rattle.std.proofs.lemmas.Str.{chars_from_encodes, encodes-append}
use Rattle.std.specs.List.{AllByRecursion}
use Rattle.std.specs.Option.{option_map}
use Rattle.std.specs.Prelude.{Err, IfOk, Ok, Result}
use Rattle.std.specs.Str.{IsUtf8, chars, encode_utf8_all}
use Rattle.like_patterns.specs.Laws.{TextsComeBack}
use Rattle.like_patterns.specs.Patterns.{Part, literal, any_character, any_string}
use Rattle.like_patterns.specs.Texts.{part_text, parts_from, pattern_text}
use Rattle.filter_encoding.specs.Patterns.{IsPart, goes_on, part_of}
use Rattle.filter_encoding.specs.declared.error.FilterEncodingError.{FilterEncodingError}
use Rattle.filter_encoding.specs.declared.patterns.PatternPart.{PatternPart}
use Rattle.filter_encoding.specs.declared.patterns.PatternPart.TheVariants.{AnyCharacter, AnyString, Character}
use Rattle.filter_encoding.proofs.ListLaws.{all_append, map_last}

-- ---- parts that a text spells

-- the parts so far, behind which those of the other characters come
pub record Spelled (done : List ℕ) (parts : List PatternPart) (is_escaped : Bool) : Type 0 where
  pub goes : (cs : List ℕ) → parts_from (Some 92) false (done ++ cs) ≡ option_map (λ more. map part_of parts ++ more) (parts_from (Some 92) is_escaped cs)
  pub are : AllByRecursion IsPart (map part_of parts)

behind_escape : (c : ℕ) (cs : List ℕ) → parts_from (Some 92) true (c ∷ cs) ≡ goes_on (Some (Character c)) cs
unfolding parts_from
behind_escape c cs = refl

escape_next : (cs : List ℕ) → parts_from (Some 92) false (92 ∷ cs) ≡ goes_on None cs
unfolding parts_from
escape_next cs = refl

string_next : (cs : List ℕ) → parts_from (Some 92) false (37 ∷ cs) ≡ goes_on (Some AnyString) cs
unfolding parts_from
string_next cs = refl

character_next : (cs : List ℕ) → parts_from (Some 92) false (95 ∷ cs) ≡ goes_on (Some AnyCharacter) cs
unfolding parts_from
character_next cs = refl

other_next : (c : ℕ) (cs : List ℕ) → eqb c 92 ≡ false → eqb c 37 ≡ false → eqb c 95 ≡ false → parts_from (Some 92) false (c ∷ cs) ≡ goes_on (Some (Character c)) cs
unfolding parts_from
other_next c cs e f g =
    cond-false (eqb c 92) (parts_from (Some 92) true cs) (option_map (λ more. cond (eqb c 37) any_string (cond (eqb c 95) any_character (literal c)) ∷ more) (parts_from (Some 92) false cs)) e
    ∙ ap (λ p. option_map (λ more. p ∷ more) (parts_from (Some 92) false cs)) (cond-false (eqb c 37) any_string (cond (eqb c 95) any_character (literal c)) f ∙ cond-false (eqb c 95) any_character (literal c) g)

no_test : (c n : ℕ) → c ≢ n → eqb c n ≡ false
no_test c n h = by_test (eqb c n) refl
  where
    by_test : (b : Bool) → eqb c n ≡ b → eqb c n ≡ false
    by_test true e = absurd (h (eqb-true c n e))
    by_test false e = e

-- the steps as the code takes them
pub goes_escaped : (escaped : Bool) (c : ℕ) → escaped ≡ true → (cs : List ℕ) → parts_from (Some 92) escaped (c ∷ cs) ≡ goes_on (Some (Character c)) cs
goes_escaped escaped c e cs = ap (λ b. parts_from (Some 92) b (c ∷ cs)) e ∙ behind_escape c cs

pub goes_escape : (escaped : Bool) (c : ℕ) → escaped ≡ false → c ≡ 92 → (cs : List ℕ) → parts_from (Some 92) escaped (c ∷ cs) ≡ goes_on None cs
goes_escape escaped c e is cs = ap (λ b. parts_from (Some 92) b (c ∷ cs)) e ∙ ap (λ n. parts_from (Some 92) false (n ∷ cs)) is ∙ escape_next cs

pub goes_string : (escaped : Bool) (c : ℕ) → escaped ≡ false → c ≡ 37 → (cs : List ℕ) → parts_from (Some 92) escaped (c ∷ cs) ≡ goes_on (Some AnyString) cs
goes_string escaped c e is cs = ap (λ b. parts_from (Some 92) b (c ∷ cs)) e ∙ ap (λ n. parts_from (Some 92) false (n ∷ cs)) is ∙ string_next cs

pub goes_other : (escaped : Bool) (c : ℕ) → escaped ≡ false → c ≢ 92 → c ≢ 37 → c ≢ 95 → (cs : List ℕ) → parts_from (Some 92) escaped (c ∷ cs) ≡ goes_on (Some (Character c)) cs
goes_other escaped c e f g h cs = ap (λ b. parts_from (Some 92) b (c ∷ cs)) e ∙ other_next c cs (no_test c 92 f) (no_test c 37 g) (no_test c 95 h)

pub goes_character : (escaped : Bool) (c : ℕ) → escaped ≡ false → c ≡ 95 → (cs : List ℕ) → parts_from (Some 92) escaped (c ∷ cs) ≡ goes_on (Some AnyCharacter) cs
goes_character escaped c e is cs = ap (λ b. parts_from (Some 92) b (c ∷ cs)) e ∙ ap (λ n. parts_from (Some 92) false (n ∷ cs)) is ∙ character_next cs

no_text : (escaped : Bool) (ps : List Part) → parts_from (Some 92) escaped [] ≡ Some ps → ps ≡ []
unfolding parts_from
no_text false ps e = sym (same_Some [] ps e)
no_text true ps e = let clash : None ≡ Some ps = e in absurd cc

option_front : (o : Option (List Part)) → o ≡ option_map (λ more. [] ++ more) o
option_front None = refl
option_front (Some more) = refl

option_push : (ps : List Part) (p : Part) (o : Option (List Part)) → option_map (λ more. ps ++ more) (option_map (λ more. p ∷ more) o) ≡ option_map (λ more. (ps ++ p ∷ []) ++ more) o
option_push ps p None = refl
option_push ps p (Some more) = ap Some (sym (append_assoc ps (p ∷ []) more))

pub spelled_none : (items : List PatternPart) → items ≡ [] → Spelled [] items false
spelled_none items e = subst (λ l. Spelled [] l false) (sym e) (record { goes = λ cs. option_front (parts_from (Some 92) false cs); are = tt })

-- one character more, which is a part
pub spelled_part : (done : List ℕ) (items more : List PatternPart) (escaped : Bool) (c : ℕ) (part : PatternPart) → Spelled done items escaped → ((cs : List ℕ) → parts_from (Some 92) escaped (c ∷ cs) ≡ goes_on (Some part) cs)
    → IsPart (part_of part) → more ≡ items ++ part ∷ [] → Spelled (done ++ c ∷ []) more false
spelled_part done items more escaped c part h goes one e =
    let last : map part_of more ≡ map part_of items ++ part_of part ∷ [] = ap (map part_of) e ∙ map_last part_of items part in
    record {
      goes = λ cs.
          ap (parts_from (Some 92) false) (append_assoc done (c ∷ []) cs) ∙ h.goes (c ∷ cs) ∙ ap (option_map (λ rest. map part_of items ++ rest)) (goes cs)
          ∙ option_push (map part_of items) (part_of part) (parts_from (Some 92) false cs) ∙ ap (λ ps. option_map (λ rest. ps ++ rest) (parts_from (Some 92) false cs)) (sym last);
      are = subst (AllByRecursion IsPart) (sym last) (all_append IsPart (map part_of items) (part_of part ∷ []) h.are (one, tt));
    }

-- or the escape
pub spelled_escape : (done : List ℕ) (items : List PatternPart) (escaped : Bool) (c : ℕ) → Spelled done items escaped → ((cs : List ℕ) → parts_from (Some 92) escaped (c ∷ cs) ≡ goes_on None cs) → Spelled (done ++ c ∷ []) items true
spelled_escape done items escaped c h goes = record {
  goes = λ cs. ap (parts_from (Some 92) false) (append_assoc done (c ∷ []) cs) ∙ h.goes (c ∷ cs) ∙ ap (option_map (λ rest. map part_of items ++ rest)) (goes cs);
  are = h.are;
}

-- all characters
pub spelled_all : (done cs : List ℕ) (items : List PatternPart) (escaped : Bool) → done ≡ cs → Spelled done items escaped → (ps : List Part) → parts_from (Some 92) false cs ≡ Some ps → map part_of items ≡ ps
spelled_all done cs items escaped whole h ps e = by_rest (parts_from (Some 92) escaped []) refl (sym e ∙ ap (parts_from (Some 92) false) (sym whole ∙ sym (append-nil done)) ∙ h.goes [])
  where
    by_rest : (o : Option (List Part)) → parts_from (Some 92) escaped [] ≡ o → Some ps ≡ option_map (λ more. map part_of items ++ more) o → map part_of items ≡ ps
    by_rest None is f = let clash : Some ps ≡ None = f in absurd cc
    by_rest (Some more) is f =
        sym (append-nil (map part_of items)) ∙ ap (λ rest. map part_of items ++ rest) (sym (no_text escaped more is)) ∙ sym (same_Some ps (map part_of items ++ more) f)

-- ---- the text of parts

-- the text of a pattern spells it
pub text_spells : TextsComeBack → (pattern : List Part) (text : List ℕ) → IsUtf8 text → text ≡ encode_utf8_all (pattern_text pattern) → parts_from (Some 92) false (chars text) ≡ Some pattern
text_spells law pattern text utf8 e = ap (parts_from (Some 92) false) (sym (chars_from_encodes (pattern_text pattern) text utf8 (sym e))) ∙ law pattern

pub parts_of_spelled : (r : Result (Vec PatternPart Global) FilterEncodingError) (cs : List ℕ) (pattern : List Part) → IfOk r (λ parts. (ps : List Part) → parts_from (Some 92) false cs ≡ Some ps → map part_of parts.items ≡ ps)
    → parts_from (Some 92) false cs ≡ Some pattern → IfOk r (λ parts. map part_of parts.items ≡ pattern)
parts_of_spelled (Ok parts) cs pattern h e = h pattern e
parts_of_spelled (Err d) cs pattern h e = tt

pub text_more : (items : List PatternPart) (i : ℕ) (item : PatternPart) (old now : List ℕ) → i < length items → item ≡ get_or items i item → old ≡ encode_utf8_all (pattern_text (map part_of (take i items)))
    → now ≡ old ++ encode_utf8_all (part_text (part_of item)) → now ≡ encode_utf8_all (pattern_text (map part_of (take (i + 1) items)))
text_more items i item old now less is e f =
    let parts = map part_of (take i items) in
    let one : take (i + 1) items ≡ take i items ++ item ∷ [] = take_more items i item less ∙ ap (λ p. take i items ++ p ∷ []) (sym is) in
    let last : pattern_text (map part_of (take (i + 1) items)) ≡ pattern_text parts ++ part_text (part_of item) =
    ap (λ l. pattern_text (map part_of l)) one ∙ ap pattern_text (map_last part_of (take i items) item) ∙ flat_map-append part_text parts (part_of item ∷ []) ∙ ap (λ l. pattern_text parts ++ l) (append-nil (part_text (part_of item))) in
    f ∙ ap (λ l. l ++ encode_utf8_all (part_text (part_of item))) e ∙ sym (encodes-append (pattern_text parts) (part_text (part_of item))) ∙ ap encode_utf8_all (sym last)
