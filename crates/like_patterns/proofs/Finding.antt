-- The first place of some characters in a text, and that no earlier one is missed.
use Rattle.std.proofs.Common.{◌≡◌, ℕ, ◌+◌, ◌-◌, ◌<◌, ◌≤◌, ◌⊎◌, inl, inr, true, false, List, [], ◌∷◌, ◌++◌, length, take, drop, get_or, None, Some, refl, sym, ap, ◌∙◌, subst, append_assoc, length-append, add-zero, arith, take-append-drop}
use Rattle.std.proofs.lemmas.Bool.{and_from, and_parts, cases_lt, false_from_ne_true}
use Rattle.std.proofs.lemmas.List.{append_cancel_right, drop_at, length-take-le, take_rest}
use Rattle.std.proofs.lemmas.List.Prefix.{at_from_reads, at_reads}
use Rattle.std.proofs.lemmas.Str.{IsCharBoundary-start, IsUtf8-drop, IsUtf8-take, chars-append, chars-encodes, encodes-append, encodes-chars, scalars-chars}
use Rattle.std.specs.Str.{IsCharBoundary, IsUtf8, all_scalars, chars, encode_utf8_all}
use Rattle.memchr.specs.Find.{FindsNeedle, Nowhere, OccursAt}
use Rattle.like_patterns.specs.declared.case.Case.{Case}
use Rattle.like_patterns.specs.Characters.{BeginsWithOne, compared}
use Rattle.like_patterns.specs.Patterns.{Part, any_character, any_string, matches}
use Rattle.like_patterns.specs.Pieces.{FailsAtFront, StripsTo, literals, matches_inside}
use Rattle.like_patterns.proofs.Letters.{IsUtf8-compared, boundary_from_compared, compared-append, compared-drop, length-compared, utf8_behind, utf8_behind_compared}
use Rattle.like_patterns.proofs.Stripping.{IsLoose, no_characters, one_begins}
use Rattle.like_patterns.proofs.Splitting.{Passing-any, Split-from, any_absorbs, any_from, fails_at_end, fails_here, first_place, is_fixed-append, is_fixed-literals, later_cut, length-fixed, literals_match, matches-append, matches-literals, matches_behind, any_any, same_tests}

scalars_of : (xs ys : List ℕ) → all_scalars (xs ++ ys) ≡ true → (all_scalars xs ≡ true) × (all_scalars ys ≡ true)
scalars_of [] ys are = (refl, are)
scalars_of (x ∷ xs) ys are =
    let parts = and_parts _ (all_scalars (xs ++ ys)) are in
    let others = scalars_of xs ys parts.1 in
    (and_from _ (all_scalars xs) parts.0 others.0, others.1)

-- a place of the characters in the text, where a match goes on with what follows
record Place (wanted : List ℕ) (more : List Part) (text : List ℕ) : Type 0 where
  before : List ℕ
  behind : List ℕ
  is : chars text ≡ before ++ (chars wanted ++ behind)
  cut : text ≡ encode_utf8_all before ++ (wanted ++ encode_utf8_all behind)
  occurs : OccursAt text wanted (length (encode_utf8_all before))
  before_utf8 : IsUtf8 (encode_utf8_all before)
  behind_utf8 : IsUtf8 (encode_utf8_all behind)
  behind_chars : chars (encode_utf8_all behind) ≡ behind
  matches_behind : matches more behind ≡ true

occurs_at_cut : (text front wanted rest : List ℕ) → text ≡ front ++ (wanted ++ rest) → OccursAt text wanted (length front)
occurs_at_cut text front wanted rest is =
    let long : length text ≡ length front + (length wanted + length rest) = ap length is ∙ length-append front (wanted ++ rest) ∙ ap (λ (n : ℕ). length front + n) (length-append wanted rest) in
    let behind : drop (length front) text ≡ wanted ++ rest = ap (drop (length front)) is ∙ drop_at front (wanted ++ rest) (length front) refl in
    record {
      fits = omega arith;
      reads = λ j below. at_reads 0 text wanted (length front) rest behind j below;
    }

place_of : (wanted : List ℕ) (more : List Part) (text : List ℕ) → IsUtf8 text → IsUtf8 wanted → matches (any_string ∷ (literals (chars wanted) ++ more)) (chars text) ≡ true → Place wanted more text
place_of wanted more text utf8 wanted_utf8 met =
    let found = Passing-any (literals (chars wanted) ++ more) (chars text) met in
    let split = Split-from (literals (chars wanted)) more found.rest found.passes in
    let same : split.front ≡ chars wanted = literals_match (chars wanted) split.front split.front_matches in
    let is : chars text ≡ found.front ++ (chars wanted ++ split.rest) = found.is ∙ ap (λ (l : List ℕ). found.front ++ l) (split.is ∙ ap (λ (l : List ℕ). l ++ split.rest) same) in
    let cut : text ≡ encode_utf8_all found.front ++ (wanted ++ encode_utf8_all split.rest) =
    sym (encodes-chars text utf8) ∙ ap encode_utf8_all is ∙ encodes-append found.front (chars wanted ++ split.rest)
    ∙ ap (λ (l : List ℕ). encode_utf8_all found.front ++ l) (encodes-append (chars wanted) split.rest ∙ ap (λ (l : List ℕ). l ++ encode_utf8_all split.rest) (encodes-chars wanted wanted_utf8)) in
    let all : all_scalars (found.front ++ (chars wanted ++ split.rest)) ≡ true = subst (λ (l : List ℕ). all_scalars l ≡ true) is (scalars-chars text utf8) in
    let halves = scalars_of found.front (chars wanted ++ split.rest) all in
    let rest = scalars_of (chars wanted) split.rest halves.1 in
    record {
      before = found.front;
      behind = split.rest;
      is = is;
      cut = cut;
      occurs = occurs_at_cut text (encode_utf8_all found.front) wanted (encode_utf8_all split.rest) cut;
      before_utf8 = (found.front, (halves.0, refl));
      behind_utf8 = (split.rest, (rest.1, refl));
      behind_chars = chars-encodes split.rest rest.1;
      matches_behind = split.rest_matches;
    }

-- where the characters are nowhere
pub found_nowhere : (wanted : List ℕ) (more : List Part) (text : List ℕ) → IsUtf8 text → IsUtf8 wanted → FindsNeedle text wanted 0 None → matches (any_string ∷ (literals (chars wanted) ++ more)) (chars text) ≡ false
found_nowhere wanted more text utf8 wanted_utf8 nowhere =
    false_from_ne_true (matches (any_string ∷ (literals (chars wanted) ++ more)) (chars text)) (λ met.
    let place = place_of wanted more text utf8 wanted_utf8 met in
    let fits : length (encode_utf8_all place.before) + length wanted ≤ length text = place.occurs.fits in
    nowhere (length (encode_utf8_all place.before)) (omega arith) (omega arith) place.occurs)

empty_occurs : (text : List ℕ) → OccursAt text [] 0
empty_occurs text = record { fits = omega arith; reads = λ j below. absurd (omega arith) }

at_start : (text : List ℕ) (k : ℕ) → IsUtf8 text → Nowhere (OccursAt text []) 0 k → (0 < k) ⊎ (k ≤ 0) → IsCharBoundary text k
at_start text k utf8 nowhere (inl later) = absurd (nowhere 0 (omega arith) later (empty_occurs text))
at_start text k utf8 nowhere (inr first) = let zero : 0 ≡ k = omega arith in subst (λ (n : ℕ). IsCharBoundary text n) zero (IsCharBoundary-start text utf8)

boundary_of : (text wanted : List ℕ) (k : ℕ) → IsUtf8 text → IsUtf8 wanted → OccursAt text wanted k → Nowhere (OccursAt text wanted) 0 k → IsCharBoundary text k
boundary_of text [] k utf8 wanted_utf8 occurs nowhere = at_start text k utf8 nowhere (cases_lt 0 k)
boundary_of text (b ∷ wanted) k utf8 wanted_utf8 occurs nowhere =
    let fits : k + length (b ∷ wanted) ≤ length text = occurs.fits in
    let first : get_or text k 0 ≡ b = ap (λ (n : ℕ). get_or text n 0) (sym (add-zero k)) ∙ occurs.reads 0 (omega arith) in
    (omega arith, λ below high. subst (λ (n : ℕ). 192 ≤ n) (sym first) ((IsCharBoundary-start (b ∷ wanted) wanted_utf8).1 (omega arith) (subst (λ (n : ℕ). 128 ≤ n) first high)))

reached : (text wanted : List ℕ) (k n : ℕ) → Nowhere (OccursAt text wanted) 0 k → OccursAt text wanted n → (n < k) ⊎ (k ≤ n) → k ≤ n
reached text wanted k n nowhere occurs (inl early) = absurd (nowhere n (omega arith) early occurs)
reached text wanted k n nowhere occurs (inr late) = late

-- before the first place there is none
skipped : (wanted : List ℕ) (more : List Part) (text : List ℕ) (k : ℕ) → IsUtf8 text → IsUtf8 wanted → IsCharBoundary text k → Nowhere (OccursAt text wanted) 0 k
    → matches (any_string ∷ (literals (chars wanted) ++ more)) (chars text) ≡ true → matches (any_string ∷ (literals (chars wanted) ++ more)) (chars (drop k text)) ≡ true
skipped wanted more text k utf8 wanted_utf8 at nowhere met =
    let place = place_of wanted more text utf8 wanted_utf8 met in
    let before = encode_utf8_all place.before in
    let last = wanted ++ encode_utf8_all place.behind in
    let long : length (take k text) ≡ k = length-take-le k text at.0 in
    let late : k ≤ length before = reached text wanted k (length before) nowhere place.occurs (cases_lt (length before) k) in
    let cut = later_cut (take k text) (drop k text) before last (take-append-drop k text ∙ place.cut) (omega arith) in
    let between : IsUtf8 cut.between = utf8_behind (take k text) cut.between (IsUtf8-take text k utf8 at) (subst IsUtf8 cut.front_is place.before_utf8) in
    let is : chars (drop k text) ≡ chars cut.between ++ (chars wanted ++ place.behind) =
    ap chars cut.rest_is ∙ chars-append cut.between last between
    ∙ ap (λ (l : List ℕ). chars cut.between ++ l) (chars-append wanted (encode_utf8_all place.behind) wanted_utf8 ∙ ap (λ (l : List ℕ). chars wanted ++ l) place.behind_chars) in
    subst (λ (l : List ℕ). matches (any_string ∷ (literals (chars wanted) ++ more)) l ≡ true) (sym is)
    (any_absorbs (literals (chars wanted) ++ more) (chars cut.between) (chars wanted ++ place.behind)
    (any_from (literals (chars wanted) ++ more) (chars wanted ++ place.behind) (matches-append (literals (chars wanted)) more (chars wanted) place.behind (matches-literals (chars wanted)) place.matches_behind)))

-- what a search found: what stands there, and behind it, is a text, and matches are only there or later
pub record FoundAt (case : Case) (text wanted : List ℕ) (place : ℕ) : Type 0 where
  pub fits : place + length wanted ≤ length text
  pub found_utf8 : IsUtf8 (drop place text)
  pub behind_utf8 : IsUtf8 (drop (length wanted) (drop place text))
  pub is : chars (compared case (drop place text)) ≡ chars (compared case wanted) ++ chars (compared case (drop (length wanted) (drop place text)))
  pub later : (more : List Part) → matches (any_string ∷ (literals (chars (compared case wanted)) ++ more)) (chars (compared case text))
      ≡ matches (any_string ∷ (literals (chars (compared case wanted)) ++ more)) (chars (compared case (drop place text)))

pub found_at : (case : Case) (text wanted : List ℕ) (place : ℕ) → IsUtf8 text → IsUtf8 wanted → FindsNeedle (compared case text) (compared case wanted) 0 (Some place) → FoundAt case text wanted place
found_at case text wanted place utf8 wanted_utf8 finds =
    let h = compared case text in
    let w = compared case wanted in
    let h_utf8 : IsUtf8 h = IsUtf8-compared case text utf8 in
    let w_utf8 : IsUtf8 w = IsUtf8-compared case wanted wanted_utf8 in
    let nowhere : Nowhere (OccursAt h w) 0 place = finds.0.before in
    let at : IsCharBoundary h place = boundary_of h w place h_utf8 w_utf8 finds.1 nowhere in
    let found = drop place text in
    let behind = drop (length wanted) found in
    let found_utf8 : IsUtf8 found = IsUtf8-drop text place utf8 (boundary_from_compared case text place at) in
    let stands : drop place h ≡ w ++ drop (place + length w) h = at_from_reads 0 h w place finds.1.fits finds.1.reads in
    let long : length w ≡ length wanted = length-compared case wanted in
    let rest : compared case behind ≡ drop (place + length w) h =
    compared-drop case (length wanted) found ∙ ap (drop (length wanted)) (compared-drop case place text ∙ stands) ∙ drop_at w (drop (place + length w) h) (length wanted) long in
    let all : compared case found ≡ w ++ compared case behind = compared-drop case place text ∙ stands ∙ ap (λ (l : List ℕ). w ++ l) (sym rest) in
    let parts : take (length wanted) found ++ behind ≡ found = take-append-drop (length wanted) found in
    let first : compared case (take (length wanted) found) ≡ w =
    append_cancel_right (compared case (take (length wanted) found)) w (compared case behind) (sym (compared-append case (take (length wanted) found) behind) ∙ ap (compared case) parts ∙ all) in
    record {
      fits = omega (arith, finds.1.fits, long, length-compared case text);
      found_utf8 = found_utf8;
      behind_utf8 = utf8_behind_compared case (take (length wanted) found) behind (subst IsUtf8 (sym first) w_utf8) (subst IsUtf8 (sym parts) found_utf8);
      is = ap chars all ∙ chars-append w (compared case behind) w_utf8;
      later = λ more.
          let q = any_string ∷ (literals (chars w) ++ more) in
          ap (matches q) (sym (ap chars (take-append-drop place h)))
          ∙ same_tests (matches q (chars (take place h ++ drop place h))) (matches q (chars (drop place h)))
          (λ met. skipped w more h place h_utf8 w_utf8 at nowhere (subst (λ (l : List ℕ). matches q (chars l) ≡ true) (take-append-drop place h) met))
          (λ met. subst (λ (l : List ℕ). matches q l ≡ true) (sym (chars-append (take place h) (drop place h) (IsUtf8-take h place h_utf8 at))) (any_absorbs (literals (chars w) ++ more) (chars (take place h)) (chars (drop place h)) met))
          ∙ ap (λ (l : List ℕ). matches q (chars l)) (sym (compared-drop case place text));
    }

-- ---- the pieces behind the characters that were found

-- they match: the first place will do
pub found_match : (case : Case) (text wanted : List ℕ) (place : ℕ) (parts left : List Part) (rest : List ℕ) → FoundAt case text wanted place → IsLoose left
    → StripsTo parts (compared case (drop (length wanted) (drop place text))) left rest
    → matches_inside (literals (chars (compared case wanted)) ++ parts) (compared case text) ≡ matches_inside left rest
found_match case text wanted place parts left rest found loose to =
    let w = chars (compared case wanted) in
    let found_chars = chars (compared case (drop place text)) in
    let ends = any_string ∷ [] in
    let fixed = literals w ++ to.gone in
    let front = w ++ to.strips.front in
    let shape : (literals w ++ parts) ++ ends ≡ fixed ++ any_string ∷ loose.more =
    ap (λ (l : List Part). (literals w ++ l) ++ ends) to.are ∙ ap (λ (l : List Part). l ++ ends) (sym (append_assoc (literals w) to.gone left))
    ∙ append_assoc fixed left ends ∙ ap (λ (l : List Part). fixed ++ l) loose.is in
    let is : found_chars ≡ front ++ chars rest = found.is ∙ ap (λ (l : List ℕ). w ++ l) to.strips.is ∙ sym (append_assoc w to.strips.front (chars rest)) in
    ap (λ (l : List Part). matches (any_string ∷ l) (chars (compared case text))) (append_assoc (literals w) parts ends)
    ∙ found.later (parts ++ ends)
    ∙ ap (λ (l : List Part). matches (any_string ∷ l) found_chars) (sym (append_assoc (literals w) parts ends) ∙ shape)
    ∙ ap (matches (any_string ∷ (fixed ++ any_string ∷ loose.more))) is
    ∙ first_place fixed loose.more front (chars rest) (is_fixed-append (literals w) to.gone (is_fixed-literals w) to.fixed) (matches-append (literals w) to.gone w to.strips.front (matches-literals w) to.strips.matched)
    ∙ sym (any_any loose.more (chars rest))
    ∙ ap (λ (l : List Part). matches (any_string ∷ l) (chars rest)) (sym loose.is)

-- they fail: the search goes on behind the first character there, or there is none
fails_there : (case : Case) (text wanted : List ℕ) (place : ℕ) (parts : List Part) → FoundAt case text wanted place → FailsAtFront parts (compared case (drop (length wanted) (drop place text)))
    → matches (literals (chars (compared case wanted)) ++ (parts ++ any_string ∷ [])) (chars (compared case (drop place text))) ≡ false
fails_there case text wanted place parts found fails =
    let w = chars (compared case wanted) in
    ap (matches (literals w ++ (parts ++ any_string ∷ []))) found.is
    ∙ matches_behind (literals w) (parts ++ any_string ∷ []) w (chars (compared case (drop (length wanted) (drop place text)))) (is_fixed-literals w) (matches-literals w)
    ∙ fails (any_string ∷ [])

goes_behind : (more : List Part) (front rest : List ℕ) → length front ≡ 1 → matches more (front ++ rest) ≡ false → matches (any_string ∷ more) (front ++ rest) ≡ matches (any_string ∷ more) rest
goes_behind more [] rest long fails = absurd (omega arith)
goes_behind more (c ∷ []) rest long fails = fails_here more c rest fails
goes_behind more (c ∷ d ∷ front) rest long fails = absurd (omega arith)

pub found_goes_on : (case : Case) (text wanted : List ℕ) (place : ℕ) (parts : List Part) (next : List ℕ) → FoundAt case text wanted place → FailsAtFront parts (compared case (drop (length wanted) (drop place text)))
    → BeginsWithOne (drop place text) next → matches_inside (literals (chars (compared case wanted)) ++ parts) (compared case text) ≡ matches_inside (literals (chars (compared case wanted)) ++ parts) (compared case next)
found_goes_on case text wanted place parts next found fails begins =
    let w = literals (chars (compared case wanted)) in
    let more = w ++ (parts ++ any_string ∷ []) in
    let one = one_begins case (drop place text) next found.found_utf8 begins in
    let long : length one.front ≡ 1 = length-fixed (any_character ∷ []) one.front refl one.matched in
    ap (λ (l : List Part). matches (any_string ∷ l) (chars (compared case text))) (append_assoc w parts (any_string ∷ []))
    ∙ found.later (parts ++ any_string ∷ [])
    ∙ ap (matches (any_string ∷ more)) one.is
    ∙ goes_behind more one.front (chars (compared case next)) long (subst (λ (l : List ℕ). matches more l ≡ false) one.is (fails_there case text wanted place parts found fails))
    ∙ ap (λ (l : List Part). matches (any_string ∷ l) (chars (compared case next))) (sym (append_assoc w parts (any_string ∷ [])))

pub found_at_end : (case : Case) (text wanted : List ℕ) (place : ℕ) (parts : List Part) → FoundAt case text wanted place → FailsAtFront parts (compared case (drop (length wanted) (drop place text)))
    → drop place text ≡ [] → matches_inside (literals (chars (compared case wanted)) ++ parts) (compared case text) ≡ false
found_at_end case text wanted place parts found fails none =
    let w = literals (chars (compared case wanted)) in
    let more = w ++ (parts ++ any_string ∷ []) in
    let no_chars : chars (compared case (drop place text)) ≡ [] = no_characters case (drop place text) none in
    ap (λ (l : List Part). matches (any_string ∷ l) (chars (compared case text))) (append_assoc w parts (any_string ∷ []))
    ∙ found.later (parts ++ any_string ∷ [])
    ∙ ap (matches (any_string ∷ more)) no_chars
    ∙ fails_at_end more (subst (λ (l : List ℕ). matches more l ≡ false) no_chars (fails_there case text wanted place parts found fails))

pub found_no_place : (case : Case) (text wanted : List ℕ) (parts : List Part) → IsUtf8 text → IsUtf8 wanted → FindsNeedle (compared case text) (compared case wanted) 0 None
    → matches_inside (literals (chars (compared case wanted)) ++ parts) (compared case text) ≡ false
found_no_place case text wanted parts utf8 wanted_utf8 nowhere =
    ap (λ (l : List Part). matches (any_string ∷ l) (chars (compared case text))) (append_assoc (literals (chars (compared case wanted))) parts (any_string ∷ []))
    ∙ found_nowhere (compared case wanted) (parts ++ any_string ∷ []) (compared case text) (IsUtf8-compared case text utf8) (IsUtf8-compared case wanted wanted_utf8) nowhere

-- the text behind what was found, as it is cut off
pub after_is : (text : List ℕ) (place n : ℕ) (wanted : List ℕ) → n ≡ length wanted
    → take (length (take (length text - place) (drop place text)) - n) (drop n (take (length text - place) (drop place text))) ≡ drop (length wanted) (drop place text)
after_is text place n wanted is =
    take_rest (take (length text - place) (drop place text)) n ∙ ap (drop n) (take_rest text place) ∙ ap (λ (k : ℕ). drop k (drop place text)) is
