-- A pattern's text is read character by character.
use Rattle.std.proofs.Common.{◌≡◌, ℕ, ◌<◌, ◌≤◌, ◌-◌, Bool, true, false, cond, not, ◌&&◌, eqb, ltb, List, [], ◌∷◌, ◌++◌, length, drop, Option, Some, None, refl, sym, ap, ◌∙◌, subst, append_assoc, append-nil, length-append, arith}
use Rattle.std.proofs.lemmas.Bool.{and_from, and_parts, cond-false, cond-true, lt-ltb, ne_eqb}
use Rattle.std.proofs.lemmas.List.{drop_at, map-append}
use Rattle.std.proofs.lemmas.Str.{IsUtf8-encode, chars-append, chars-nil, chars_past_char, encodes-append, encodes-chars, length-encode}
use Rattle.std.specs.Char.{IsScalar, encode_utf8, len_utf8}
use Rattle.std.specs.Option.{option_map}
use Rattle.std.specs.Str.{IsUtf8, chars, encode_utf8_all}
use Rattle.std.proofs.Common.{Err, Global, IfSome, IsErr, IsErrAnd, Ok, Result, String, is_some}
use Rattle.std.specs.String.{string_bytes}
use Rattle.like_patterns.specs.declared.case.Case.TheVariants.{Sensitive}
use Rattle.like_patterns.specs.declared.error.PatternError.{PatternError}
use Rattle.like_patterns.specs.declared.error.PatternError.TheVariants.{EscapeAtEnd, OutOfMemory}
use Rattle.like_patterns.specs.declared.pieces.Fixed.TheVariants as fixed
use Rattle.like_patterns.specs.declared.pieces.Piece.{Piece}
use Rattle.like_patterns.specs.declared.pieces.Piece.TheVariants as pieces
use Rattle.like_patterns.specs.declared.reading.Reader.{Reader}
use Rattle.like_patterns.specs.declared.text.Text.{Text}
use Rattle.like_patterns.specs.Patterns.{Part, literal, any_character, any_string}
use Rattle.like_patterns.specs.Pieces.{are_in_runs, ends_in_text, literals, parts_of, piece_parts}
use Rattle.like_patterns.specs.Reading.{Goes, IsOpen, IsWildcard, Reads, reader_parts}
use Rattle.like_patterns.specs.Texts.{EndsInEscape, is_escape, part_of, parts_from, pattern_of}
use Rattle.like_patterns.proofs.Stripping.{parts_of-push}

-- ---- one part behind others

option_map-push : (parts : List Part) (part : Part) (o : Option (List Part)) → option_map (λ more. parts ++ more) (option_map (λ more. part ∷ more) o) ≡ option_map (λ more. (parts ++ part ∷ []) ++ more) o
option_map-push parts part None = refl
option_map-push parts part (Some more) = ap (λ (l : List Part). Some l) (sym (append_assoc parts (part ∷ []) more))

option_map-none : (o : Option (List Part)) → option_map (λ more. [] ++ more) o ≡ o
option_map-none None = refl
option_map-none (Some more) = refl

-- a character that is escaped
pub goes_escaped : (escape : Option ℕ) (parts : List Part) (c : ℕ) → Goes escape parts true c (parts ++ literal c ∷ []) false
unfolding parts_from
goes_escaped escape parts c = λ cs. option_map-push parts (literal c) (parts_from escape false cs)

-- the escape
pub goes_to_escape : (escape : Option ℕ) (parts : List Part) (c : ℕ) → is_escape escape c ≡ true → Goes escape parts false c parts true
unfolding parts_from
goes_to_escape escape parts c is = λ cs.
    ap (option_map (λ (more : List Part). parts ++ more))
    (cond-true (is_escape escape c) (parts_from escape true cs) (option_map (λ (more : List Part). part_of c ∷ more) (parts_from escape false cs)) is)

-- another character
pub goes_on : (escape : Option ℕ) (parts : List Part) (c : ℕ) (part : Part) → is_escape escape c ≡ false → part_of c ≡ part → Goes escape parts false c (parts ++ part ∷ []) false
unfolding parts_from
goes_on escape parts c part other is = λ cs.
    ap (option_map (λ (more : List Part). parts ++ more))
    (cond-false (is_escape escape c) (parts_from escape true cs) (option_map (λ (more : List Part). part_of c ∷ more) (parts_from escape false cs)) other
    ∙ ap (λ (p : Part). option_map (λ (more : List Part). p ∷ more) (parts_from escape false cs)) is)
    ∙ option_map-push parts part (parts_from escape false cs)

pub part_other : (c : ℕ) → (c ≡ 37 → ⊥) → (c ≡ 95 → ⊥) → part_of c ≡ literal c
part_other c no_percent no_underscore =
    cond-false (eqb c 37) any_string (cond (eqb c 95) any_character (literal c)) (ne_eqb c 37 no_percent) ∙ cond-false (eqb c 95) any_character (literal c) (ne_eqb c 95 no_underscore)

-- ---- characters that stand for themselves

chars-one : (c : ℕ) → IsScalar c → chars (encode_utf8 c) ≡ c ∷ []
chars-one c is = chars_past_char (encode_utf8 c) [] c (IsUtf8-encode c is) (sym (append-nil (encode_utf8 c))) ∙ ap (λ (l : List ℕ). c ∷ l) chars-nil

pub run_push : (parts : List Part) (run next : List ℕ) (c : ℕ) → IsUtf8 run → IsScalar c → next ≡ run ++ encode_utf8 c → parts ++ literals (chars next) ≡ (parts ++ literals (chars run)) ++ literal c ∷ []
run_push parts run next c utf8 is pushed =
    ap (λ (l : List ℕ). parts ++ literals (chars l)) pushed
    ∙ ap (λ (l : List ℕ). parts ++ literals l) (chars-append run (encode_utf8 c) utf8 ∙ ap (λ (l : List ℕ). chars run ++ l) (chars-one c is))
    ∙ ap (λ (l : List Part). parts ++ l) (map-append literal (chars run) (c ∷ []))
    ∙ sym (append_assoc parts (literals (chars run)) (literal c ∷ []))

pub run_nil : (parts : List Part) (run : List ℕ) → run ≡ [] → parts ++ literals (chars run) ≡ parts
run_nil parts run none = ap (λ (l : List ℕ). parts ++ literals l) (ap chars none ∙ chars-nil) ∙ append-nil parts

-- ---- texts beside one another

pub runs_push_text : (before : Bool) (ps : List Piece) (text : Text) → are_in_runs before ps ≡ true → ends_in_text before ps ≡ false → 0 < length (string_bytes text.string) → are_in_runs before (ps ++ pieces.Fixed (fixed.Text text) ∷ []) ≡ true
runs_push_text before [] text runs ended some = and_from (not before) _ (ap not ended) (and_from (ltb 0 (length (string_bytes text.string))) true (lt-ltb 0 (length (string_bytes text.string)) some) refl)
runs_push_text before (pieces.Fixed (fixed.Text other) ∷ ps) text runs ended some =
    let parts = and_parts (not before) (ltb 0 (length (string_bytes other.string)) && are_in_runs true ps) runs in
    let inner = and_parts (ltb 0 (length (string_bytes other.string))) (are_in_runs true ps) parts.1 in
    and_from (not before) _ parts.0 (and_from (ltb 0 (length (string_bytes other.string))) _ inner.0 (runs_push_text true ps text inner.1 ended some))
runs_push_text before (pieces.Fixed fixed.AnyCharacter ∷ ps) text runs ended some = runs_push_text false ps text runs ended some
runs_push_text before (pieces.AnyString ∷ ps) text runs ended some = runs_push_text false ps text runs ended some

runs_one : (before : Bool) (wildcard : Piece) → IsWildcard wildcard → are_in_runs before (wildcard ∷ []) ≡ true
runs_one before (pieces.Fixed (fixed.Text text)) is = absurd is
runs_one before (pieces.Fixed fixed.AnyCharacter) is = refl
runs_one before pieces.AnyString is = refl

ends_one : (before : Bool) (wildcard : Piece) → IsWildcard wildcard → ends_in_text before (wildcard ∷ []) ≡ false
ends_one before (pieces.Fixed (fixed.Text text)) is = absurd is
ends_one before (pieces.Fixed fixed.AnyCharacter) is = refl
ends_one before pieces.AnyString is = refl

runs_push_wildcard : (before : Bool) (ps : List Piece) (wildcard : Piece) → IsWildcard wildcard → are_in_runs before ps ≡ true → are_in_runs before (ps ++ wildcard ∷ []) ≡ true
runs_push_wildcard before [] wildcard is runs = runs_one before wildcard is
runs_push_wildcard before (pieces.Fixed (fixed.Text other) ∷ ps) wildcard is runs =
    let parts = and_parts (not before) (ltb 0 (length (string_bytes other.string)) && are_in_runs true ps) runs in
    let inner = and_parts (ltb 0 (length (string_bytes other.string))) (are_in_runs true ps) parts.1 in
    and_from (not before) _ parts.0 (and_from (ltb 0 (length (string_bytes other.string))) _ inner.0 (runs_push_wildcard true ps wildcard is inner.1))
runs_push_wildcard before (pieces.Fixed fixed.AnyCharacter ∷ ps) wildcard is runs = runs_push_wildcard false ps wildcard is runs
runs_push_wildcard before (pieces.AnyString ∷ ps) wildcard is runs = runs_push_wildcard false ps wildcard is runs

ends_push_wildcard : (before : Bool) (ps : List Piece) (wildcard : Piece) → IsWildcard wildcard → ends_in_text before (ps ++ wildcard ∷ []) ≡ false
ends_push_wildcard before [] wildcard is = ends_one before wildcard is
ends_push_wildcard before (pieces.Fixed (fixed.Text other) ∷ ps) wildcard is = ends_push_wildcard true ps wildcard is
ends_push_wildcard before (pieces.Fixed fixed.AnyCharacter ∷ ps) wildcard is = ends_push_wildcard false ps wildcard is
ends_push_wildcard before (pieces.AnyString ∷ ps) wildcard is = ends_push_wildcard false ps wildcard is

pub open_push : (reader next : Reader) (wildcard : Piece) → IsWildcard wildcard → are_in_runs false reader.pieces.items ≡ true → next.pieces.items ≡ reader.pieces.items ++ wildcard ∷ [] → IsOpen next
open_push reader next wildcard is runs pushed = record {
  in_runs = subst (λ (l : List Piece). are_in_runs false l ≡ true) (sym pushed) (runs_push_wildcard false reader.pieces.items wildcard is runs);
  open_end = subst (λ (l : List Piece). ends_in_text false l ≡ false) (sym pushed) (ends_push_wildcard false reader.pieces.items wildcard is);
}

pub parts_push : (old : List Part) (middle last : List Piece) (run : List ℕ) (wildcard : Piece) → parts_of Sensitive middle ≡ old → last ≡ middle ++ wildcard ∷ [] → run ≡ [] → parts_of Sensitive last ++ literals (chars run) ≡ old ++ piece_parts Sensitive wildcard
parts_push old middle last run wildcard same pushed none =
    run_nil (parts_of Sensitive last) run none ∙ ap (parts_of Sensitive) pushed ∙ parts_of-push Sensitive middle wildcard ∙ ap (λ (l : List Part). l ++ piece_parts Sensitive wildcard) same

pub text_some : (text : Text) (run : String Global) → text.string ≡ run → 0 < length (string_bytes run) → 0 < length (string_bytes text.string)
text_some text run same some = subst (λ (s : String Global). 0 < length (string_bytes s)) (sym same) some

-- ---- the whole text

pub reads_none : (escape : Option ℕ) (reader : Reader) → reader.pieces.items ≡ [] → string_bytes reader.run ≡ [] → Reads escape [] reader None
reads_none escape reader no_pieces no_run =
    let none : reader_parts reader ≡ [] = run_nil (parts_of Sensitive reader.pieces.items) (string_bytes reader.run) no_run ∙ ap (parts_of Sensitive) no_pieces in
    record {
      is_open = record {
        in_runs = ap (are_in_runs false) no_pieces;
        open_end = ap (ends_in_text false) no_pieces;
      };
      parts = λ cs. sym (ap (λ (l : List Part). option_map (λ (more : List Part). l ++ more) (parts_from escape false cs)) none ∙ option_map-none (parts_from escape false cs));
      last = tt;
    }

last_of : (escape : Option ℕ) (done : List ℕ) (c : ℕ) (pending : Option ℕ) → IfSome pending (λ d. (d ≡ c) × (escape ≡ Some d))
    → IfSome pending (λ d. (escape ≡ Some d) × ((front : List ℕ) × (done ++ c ∷ [] ≡ front ++ d ∷ [])))
last_of escape done c None is = tt
last_of escape done c (Some d) is = (is.1, (done, ap (λ (n : ℕ). done ++ n ∷ []) (sym is.0)))

pub reads_more : (escape : Option ℕ) (done : List ℕ) (c : ℕ) (old new : Reader) (pending next : Option ℕ) → Reads escape done old pending → IsOpen new
    → Goes escape (reader_parts old) (is_some pending) c (reader_parts new) (is_some next) → IfSome next (λ d. (d ≡ c) × (escape ≡ Some d)) → Reads escape (done ++ c ∷ []) new next
reads_more escape done c old new pending next so_far now_open goes last = record {
  is_open = now_open;
  parts = λ cs. ap (parts_from escape false) (append_assoc done (c ∷ []) cs) ∙ so_far.parts (c ∷ cs) ∙ goes cs;
  last = last_of escape done c next last;
}

pub reads_end : (escape : Option ℕ) (done text : List ℕ) (reader : Reader) (pending next : Option ℕ) → done ≡ chars text → pending ≡ next → Reads escape done reader pending → Reads escape (chars text) reader next
reads_end escape done text reader pending next all is reads =
    subst (λ (o : Option ℕ). Reads escape (chars text) reader o) is (subst (λ (l : List ℕ). Reads escape l reader pending) all reads)

pub reads_all : (escape : Option ℕ) (text : List ℕ) (reader : Reader) (ps : List Piece) → Reads escape (chars text) reader None → parts_of Sensitive ps ≡ reader_parts reader → pattern_of escape (chars text) ≡ Some (parts_of Sensitive ps)
unfolding parts_from
reads_all escape text reader ps reads same =
    ap (parts_from escape false) (sym (append-nil (chars text))) ∙ reads.parts [] ∙ ap (λ (l : List Part). Some l) (append-nil (reader_parts reader) ∙ sym same)

-- ---- the escape at the end

record Last (text : List ℕ) (c : ℕ) : Type 0 where
  front : List ℕ
  is : text ≡ front ++ encode_utf8 c

last_character : (text front : List ℕ) (c : ℕ) → IsUtf8 text → chars text ≡ front ++ c ∷ [] → Last text c
last_character text front c utf8 is = record {
  front = encode_utf8_all front;
  is = sym (encodes-chars text utf8) ∙ ap encode_utf8_all is ∙ encodes-append front (c ∷ []) ∙ ap (λ (l : List ℕ). encode_utf8_all front ++ l) (append-nil (encode_utf8 c));
}

pub escape_fits : (escape : Option ℕ) (text : List ℕ) (reader : Reader) (c : ℕ) → IsUtf8 text → Reads escape (chars text) reader (Some c) → len_utf8 c ≤ length text
escape_fits escape text reader c utf8 reads =
    let last = last_character text reads.last.1.0 c utf8 reads.last.1.1 in
    omega (arith, ap length last.is, length-append last.front (encode_utf8 c), length-encode c)

pub escape_ends : (escape : Option ℕ) (text : List ℕ) (reader : Reader) (c : ℕ) → IsUtf8 text → Reads escape (chars text) reader (Some c) → EndsInEscape escape text (length text - len_utf8 c)
unfolding parts_from
escape_ends escape text reader c utf8 reads =
    let last = last_character text reads.last.1.0 c utf8 reads.last.1.1 in
    let at : length last.front ≡ length text - len_utf8 c = omega (arith, ap length last.is, length-append last.front (encode_utf8 c), length-encode c) in
    record {
      character = c;
      is = reads.last.0;
      last = ap (drop (length text - len_utf8 c)) last.is ∙ drop_at last.front (encode_utf8 c) (length text - len_utf8 c) at;
      none = ap (parts_from escape false) (sym (append-nil (chars text))) ∙ reads.parts [];
    }

-- for want of memory nothing is told of an escape
pub only_memory : {X : Type 0} (r : Result X PatternError) (e : PatternError) (offset : ℕ) → IsErr r × IsErrAnd r (λ f. f ≡ e) → e ≡ OutOfMemory → r ≡ Err (EscapeAtEnd offset) → ⊥
only_memory (Ok x) e offset gave memory same = absurd cc
only_memory (Err f) e offset gave memory same =
    let is : f ≡ e = gave.1 in
    absurd cc
