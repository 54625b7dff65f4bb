-- Parts that stand behind one another: what each of them matches.
use Rattle.std.proofs.Common.{◌≡◌, ℕ, suc, ◌+◌, ◌≤◌, Bool, true, false, ◌||◌, ◌⊎◌, inl, inr, eqb, List, [], ◌∷◌, ◌++◌, length, refl, sym, ap, ◌∙◌, subst, append_assoc, append-nil, length-append, arith}
use Rattle.std.proofs.lemmas.Bool.{false≢true, and_parts, and_from, or_cases, or_left, or_right, eqb-true, eq-eqb}
use Rattle.like_patterns.specs.Patterns.{Part, literal, any_character, any_string, matches, some_rest}
use Rattle.like_patterns.specs.Pieces.{is_fixed, literals}

-- tests of which each passes if the other does
pub same_tests : (x y : Bool) → (x ≡ true → y ≡ true) → (y ≡ true → x ≡ true) → x ≡ y
same_tests true y along back = sym (along refl)
same_tests false true along back = back refl
same_tests false false along back = refl

-- ---- lists

-- of two ways to cut a list, the one that cuts later
pub record LaterCut (front rest later last : List ℕ) : Type 0 where
  pub between : List ℕ
  pub front_is : later ≡ front ++ between
  pub rest_is : rest ≡ between ++ last

later_more : (x y : ℕ) (front rest later last : List ℕ) → x ≡ y → LaterCut front rest later last → LaterCut (x ∷ front) rest (y ∷ later) last
later_more x y front rest later last same cut =
    record { between = cut.between; front_is = ap (λ (n : ℕ). n ∷ later) (sym same) ∙ ap (λ (l : List ℕ). x ∷ l) cut.front_is; rest_is = cut.rest_is }

head_same : (x y : ℕ) (xs ys : List ℕ) → x ∷ xs ≡ y ∷ ys → x ≡ y
head_same x y xs ys e = cc

tail_same : (x y : ℕ) (xs ys : List ℕ) → x ∷ xs ≡ y ∷ ys → xs ≡ ys
tail_same x y xs ys e = cc

pub later_cut : (front rest later last : List ℕ) → front ++ rest ≡ later ++ last → length front ≤ length later → LaterCut front rest later last
later_cut [] rest later last same below = record { between = later; front_is = refl; rest_is = same }
later_cut (x ∷ front) rest [] last same below = absurd (omega arith)
later_cut (x ∷ front) rest (y ∷ later) last same below =
    later_more x y front rest later last (head_same x y (front ++ rest) (later ++ last) same)
    (later_cut front rest later last (tail_same x y (front ++ rest) (later ++ last) same) (omega arith))

none_between : (xs : List ℕ) → length xs ≡ 0 → xs ≡ []
none_between [] none = refl
none_between (x ∷ xs) none = absurd (omega arith)

-- two cuts before ends of one length are one
pub same_fronts : (front rest other last : List ℕ) → front ++ rest ≡ other ++ last → length rest ≡ length last → front ≡ other
same_fronts front rest other last same long =
    let lengths : length front + length rest ≡ length other + length last = sym (length-append front rest) ∙ ap length same ∙ length-append other last in
    let cut = later_cut front rest other last same (omega arith) in
    let between : length rest ≡ length cut.between + length last = ap length cut.rest_is ∙ length-append cut.between last in
    let none : cut.between ≡ [] = none_between cut.between (omega arith) in
    sym (cut.front_is ∙ ap (λ (l : List ℕ). front ++ l) none ∙ append-nil front)

-- ---- any string

pub some_rest-append : (test : List ℕ → Bool) (front rest : List ℕ) → test rest ≡ true → some_rest test (front ++ rest) ≡ true
some_rest-append test [] [] passes = passes
some_rest-append test [] (c ∷ cs) passes = or_left (test (c ∷ cs)) (some_rest test cs) passes
some_rest-append test (c ∷ front) rest passes = or_right (test (c ∷ (front ++ rest))) (some_rest test (front ++ rest)) (some_rest-append test front rest passes)

-- a rest that passes
pub record Passing (test : List ℕ → Bool) (cs : List ℕ) : Type 0 where
  pub front : List ℕ
  pub rest : List ℕ
  pub is : cs ≡ front ++ rest
  pub passes : test rest ≡ true

passing_more : (test : List ℕ → Bool) (c : ℕ) (cs : List ℕ) → (test (c ∷ cs) ≡ true) ⊎ (some_rest test cs ≡ true) → (some_rest test cs ≡ true → Passing test cs) → Passing test (c ∷ cs)
passing_more test c cs (inl here) later = record { front = []; rest = c ∷ cs; is = refl; passes = here }
passing_more test c cs (inr found) later =
    let more = later found in
    record { front = c ∷ more.front; rest = more.rest; is = ap (λ (l : List ℕ). c ∷ l) more.is; passes = more.passes }

pub Passing-from : (test : List ℕ → Bool) (cs : List ℕ) → some_rest test cs ≡ true → Passing test cs
Passing-from test [] found = record { front = []; rest = []; is = refl; passes = found }
Passing-from test (c ∷ cs) found = passing_more test c cs (or_cases (test (c ∷ cs)) (some_rest test cs) found) (λ h. Passing-from test cs h)

-- ---- parts behind parts

-- a string cut in two, of which each half is matched
pub record Split (first second : List Part) (cs : List ℕ) : Type 0 where
  pub front : List ℕ
  pub rest : List ℕ
  pub is : cs ≡ front ++ rest
  pub front_matches : matches first front ≡ true
  pub rest_matches : matches second rest ≡ true

pub Split-from : (first second : List Part) (cs : List ℕ) → matches (first ++ second) cs ≡ true → Split first second cs
unfolding matches
Split-from [] second cs both = record { front = []; rest = cs; is = refl; front_matches = refl; rest_matches = both }
Split-from (literal d ∷ first) second [] both = absurd (false≢true both)
Split-from (literal d ∷ first) second (c ∷ cs) both =
    let parts = and_parts (eqb c d) (matches (first ++ second) cs) both in
    let split = Split-from first second cs parts.1 in
    record {
      front = c ∷ split.front;
      rest = split.rest;
      is = ap (λ (l : List ℕ). c ∷ l) split.is;
      front_matches = and_from (eqb c d) (matches first split.front) parts.0 split.front_matches;
      rest_matches = split.rest_matches;
    }
Split-from (any_character ∷ first) second [] both = absurd (false≢true both)
Split-from (any_character ∷ first) second (c ∷ cs) both =
    let split = Split-from first second cs both in
    record {
      front = c ∷ split.front;
      rest = split.rest;
      is = ap (λ (l : List ℕ). c ∷ l) split.is;
      front_matches = split.front_matches;
      rest_matches = split.rest_matches;
    }
Split-from (any_string ∷ first) second cs both =
    let found = Passing-from (matches (first ++ second)) cs both in
    let split = Split-from first second found.rest found.passes in
    record {
      front = found.front ++ split.front;
      rest = split.rest;
      is = found.is ∙ ap (λ (l : List ℕ). found.front ++ l) split.is ∙ sym (append_assoc found.front split.front split.rest);
      front_matches = some_rest-append (matches first) found.front split.front split.front_matches;
      rest_matches = split.rest_matches;
    }

pub matches-append : (first second : List Part) (front rest : List ℕ) → matches first front ≡ true → matches second rest ≡ true → matches (first ++ second) (front ++ rest) ≡ true
unfolding matches
matches-append [] second [] rest one other = other
matches-append [] second (c ∷ front) rest one other = absurd (false≢true one)
matches-append (literal d ∷ first) second [] rest one other = absurd (false≢true one)
matches-append (literal d ∷ first) second (c ∷ front) rest one other =
    let parts = and_parts (eqb c d) (matches first front) one in
    and_from (eqb c d) (matches (first ++ second) (front ++ rest)) parts.0 (matches-append first second front rest parts.1 other)
matches-append (any_character ∷ first) second [] rest one other = absurd (false≢true one)
matches-append (any_character ∷ first) second (c ∷ front) rest one other = matches-append first second front rest one other
matches-append (any_string ∷ first) second front rest one other =
    let found = Passing-from (matches first) front one in
    subst (λ (l : List ℕ). some_rest (matches (first ++ second)) l ≡ true) (sym (append_assoc found.front found.rest rest) ∙ ap (λ (l : List ℕ). l ++ rest) (sym found.is))
    (some_rest-append (matches (first ++ second)) found.front (found.rest ++ rest) (matches-append first second found.rest rest found.passes other))

-- ---- literals

pub matches-literals : (cs : List ℕ) → matches (literals cs) cs ≡ true
unfolding matches
matches-literals [] = refl
matches-literals (c ∷ cs) = and_from (eqb c c) (matches (literals cs) cs) (eq-eqb c c refl) (matches-literals cs)

pub literals_match : (wanted cs : List ℕ) → matches (literals wanted) cs ≡ true → cs ≡ wanted
unfolding matches
literals_match [] [] met = refl
literals_match [] (c ∷ cs) met = absurd (false≢true met)
literals_match (d ∷ wanted) [] met = absurd (false≢true met)
literals_match (d ∷ wanted) (c ∷ cs) met =
    let parts = and_parts (eqb c d) (matches (literals wanted) cs) met in
    ap (λ (n : ℕ). n ∷ cs) (eqb-true c d parts.0) ∙ ap (λ (l : List ℕ). d ∷ l) (literals_match wanted cs parts.1)

-- ---- parts of a fixed length

pub is_fixed-append : (first second : List Part) → is_fixed first ≡ true → is_fixed second ≡ true → is_fixed (first ++ second) ≡ true
is_fixed-append [] second one other = other
is_fixed-append (literal c ∷ first) second one other = is_fixed-append first second one other
is_fixed-append (any_character ∷ first) second one other = is_fixed-append first second one other
is_fixed-append (any_string ∷ first) second one other = absurd (false≢true one)

pub is_fixed-literals : (cs : List ℕ) → is_fixed (literals cs) ≡ true
is_fixed-literals [] = refl
is_fixed-literals (c ∷ cs) = is_fixed-literals cs

pub length-fixed : (parts : List Part) (cs : List ℕ) → is_fixed parts ≡ true → matches parts cs ≡ true → length cs ≡ length parts
unfolding matches
length-fixed [] [] fixed met = refl
length-fixed [] (c ∷ cs) fixed met = absurd (false≢true met)
length-fixed (literal d ∷ parts) [] fixed met = absurd (false≢true met)
length-fixed (literal d ∷ parts) (c ∷ cs) fixed met = ap suc (length-fixed parts cs fixed (and_parts (eqb c d) (matches parts cs) met).1)
length-fixed (any_character ∷ parts) [] fixed met = absurd (false≢true met)
length-fixed (any_character ∷ parts) (c ∷ cs) fixed met = ap suc (length-fixed parts cs fixed met)
length-fixed (any_string ∷ parts) cs fixed met = absurd (false≢true fixed)

-- behind a front that fixed parts match, the others are asked of what follows
pub matches_behind : (fixed others : List Part) (front rest : List ℕ) → is_fixed fixed ≡ true → matches fixed front ≡ true → matches (fixed ++ others) (front ++ rest) ≡ matches others rest
matches_behind fixed others front rest are met =
    same_tests (matches (fixed ++ others) (front ++ rest)) (matches others rest)
    (λ both.
    let split = Split-from fixed others (front ++ rest) both in
    let long : length split.front ≡ length front = length-fixed fixed split.front are split.front_matches ∙ sym (length-fixed fixed front are met) in
    let cut = later_cut front rest split.front split.rest split.is (omega arith) in
    let between : length split.front ≡ length front + length cut.between = ap length cut.front_is ∙ length-append front cut.between in
    let none : cut.between ≡ [] = none_between cut.between (omega arith) in
    subst (λ (l : List ℕ). matches others l ≡ true) (sym (cut.rest_is ∙ ap (λ (l : List ℕ). l ++ split.rest) none)) split.rest_matches)
    (λ later. matches-append fixed others front rest met later)

-- and before an end that they match, of what stands before
pub matches_before : (others fixed : List Part) (front rest : List ℕ) → is_fixed fixed ≡ true → matches fixed rest ≡ true → matches (others ++ fixed) (front ++ rest) ≡ matches others front
matches_before others fixed front rest are met =
    same_tests (matches (others ++ fixed) (front ++ rest)) (matches others front)
    (λ both.
    let split = Split-from others fixed (front ++ rest) both in
    let long : length rest ≡ length split.rest = length-fixed fixed rest are met ∙ sym (length-fixed fixed split.rest are split.rest_matches) in
    subst (λ (l : List ℕ). matches others l ≡ true) (sym (same_fronts front rest split.front split.rest split.is long)) split.front_matches)
    (λ earlier. matches-append others fixed front rest earlier met)

-- ---- behind `%`

pub any_absorbs : (more : List Part) (front rest : List ℕ) → matches (any_string ∷ more) rest ≡ true → matches (any_string ∷ more) (front ++ rest) ≡ true
unfolding matches
any_absorbs more front rest met =
    let found = Passing-from (matches more) rest met in
    subst (λ (l : List ℕ). some_rest (matches more) l ≡ true) (append_assoc front found.front found.rest ∙ ap (λ (l : List ℕ). front ++ l) (sym found.is))
    (some_rest-append (matches more) (front ++ found.front) found.rest found.passes)

-- what matches at the front matches behind `%`
pub any_from : (more : List Part) (cs : List ℕ) → matches more cs ≡ true → matches (any_string ∷ more) cs ≡ true
unfolding matches
any_from more cs met = some_rest-append (matches more) [] cs met

pub Passing-any : (more : List Part) (cs : List ℕ) → matches (any_string ∷ more) cs ≡ true → Passing (matches more) cs
unfolding matches
Passing-any more cs met = Passing-from (matches more) cs met

pub any_any : (more : List Part) (cs : List ℕ) → matches (any_string ∷ any_string ∷ more) cs ≡ matches (any_string ∷ more) cs
any_any more cs =
    same_tests (matches (any_string ∷ any_string ∷ more) cs) (matches (any_string ∷ more) cs)
    (λ twice.
    let found = Passing-any (any_string ∷ more) cs twice in
    subst (λ (l : List ℕ). matches (any_string ∷ more) l ≡ true) (sym found.is) (any_absorbs more found.front found.rest found.passes))
    (λ once. any_from (any_string ∷ more) cs once)

-- `%` alone, and twice
pub any_alone : (cs : List ℕ) → matches (any_string ∷ []) cs ≡ true
any_alone cs = subst (λ (l : List ℕ). matches (any_string ∷ []) l ≡ true) (append-nil cs) (any_absorbs [] cs [] (any_from [] [] (matches-literals [])))

-- the first place of fixed parts will do, since a `%` behind them takes all up to a later one
pub first_place : (fixed more : List Part) (front rest : List ℕ) → is_fixed fixed ≡ true → matches fixed front ≡ true
    → matches (any_string ∷ (fixed ++ any_string ∷ more)) (front ++ rest) ≡ matches (any_string ∷ more) rest
first_place fixed more front rest are met =
    same_tests (matches (any_string ∷ (fixed ++ any_string ∷ more)) (front ++ rest)) (matches (any_string ∷ more) rest)
    (λ all.
    let found = Passing-any (fixed ++ any_string ∷ more) (front ++ rest) all in
    let split = Split-from fixed (any_string ∷ more) found.rest found.passes in
    let long : length split.front ≡ length front = length-fixed fixed split.front are split.front_matches ∙ sym (length-fixed fixed front are met) in
    let same : front ++ rest ≡ (found.front ++ split.front) ++ split.rest =
    found.is ∙ ap (λ (l : List ℕ). found.front ++ l) split.is ∙ sym (append_assoc found.front split.front split.rest) in
    let cut = later_cut front rest (found.front ++ split.front) split.rest same (omega (arith, length-append found.front split.front)) in
    subst (λ (l : List ℕ). matches (any_string ∷ more) l ≡ true) (sym cut.rest_is) (any_absorbs more cut.between split.rest split.rest_matches))
    (λ later. any_from (fixed ++ any_string ∷ more) (front ++ rest) (matches-append fixed (any_string ∷ more) front rest met later))

-- where the parts fail at the first character, they are sought behind it
pub fails_here : (more : List Part) (c : ℕ) (cs : List ℕ) → matches more (c ∷ cs) ≡ false → matches (any_string ∷ more) (c ∷ cs) ≡ matches (any_string ∷ more) cs
unfolding matches
fails_here more c cs fails = ap (λ (b : Bool). b || some_rest (matches more) cs) fails

pub fails_at_end : (more : List Part) → matches more [] ≡ false → matches (any_string ∷ more) [] ≡ false
unfolding matches
fails_at_end more fails = fails

-- ---- `_`

pub one_character : (c : ℕ) → matches (any_character ∷ []) (c ∷ []) ≡ true
unfolding matches
one_character c = refl

pub no_character : (more : List Part) → matches (any_character ∷ more) [] ≡ false
unfolding matches
no_character more = refl

pub record LastOf (c : ℕ) (cs : List ℕ) : Type 0 where
  pub front : List ℕ
  pub last : ℕ
  pub is : c ∷ cs ≡ front ++ last ∷ []

last_more : (c d : ℕ) (cs : List ℕ) → LastOf d cs → LastOf c (d ∷ cs)
last_more c d cs more = record { front = c ∷ more.front; last = more.last; is = ap (λ (l : List ℕ). c ∷ l) more.is }

pub last_of : (c : ℕ) (cs : List ℕ) → LastOf c cs
last_of c [] = record { front = []; last = c; is = refl }
last_of c (d ∷ cs) = last_more c d cs (last_of d cs)

-- an `_` behind `%` may as well stand before it
pub any_character_first : (more : List Part) (c : ℕ) (cs : List ℕ) → matches (any_string ∷ any_character ∷ more) (c ∷ cs) ≡ matches (any_string ∷ more) cs
any_character_first more c cs =
    same_tests (matches (any_string ∷ any_character ∷ more) (c ∷ cs)) (matches (any_string ∷ more) cs)
    (λ all.
    let found = Passing-any (any_character ∷ more) (c ∷ cs) all in
    let split = Split-from (any_character ∷ []) more found.rest found.passes in
    let one : length split.front ≡ 1 = length-fixed (any_character ∷ []) split.front refl split.front_matches in
    let same : (c ∷ []) ++ cs ≡ (found.front ++ split.front) ++ split.rest =
    found.is ∙ ap (λ (l : List ℕ). found.front ++ l) split.is ∙ sym (append_assoc found.front split.front split.rest) in
    let cut = later_cut (c ∷ []) cs (found.front ++ split.front) split.rest same (omega (arith, length-append found.front split.front)) in
    subst (λ (l : List ℕ). matches (any_string ∷ more) l ≡ true) (sym cut.rest_is) (any_absorbs more cut.between split.rest (any_from more split.rest split.rest_matches)))
    (λ later.
    let found = Passing-any more cs later in
    let last = last_of c found.front in
    let behind : matches (any_character ∷ more) (last.last ∷ found.rest) ≡ true = matches-append (any_character ∷ []) more (last.last ∷ []) found.rest (one_character last.last) found.passes in
    subst (λ (l : List ℕ). matches (any_string ∷ any_character ∷ more) l ≡ true)
    (sym (append_assoc last.front (last.last ∷ []) found.rest) ∙ ap (λ (l : List ℕ). l ++ found.rest) (sym last.is) ∙ ap (λ (l : List ℕ). c ∷ l) (sym found.is))
    (any_absorbs (any_character ∷ more) last.front (last.last ∷ found.rest) (any_from (any_character ∷ more) (last.last ∷ found.rest) behind)))

-- nothing that the parts match begins a string
pub none_matches : (parts : List Part) (cs : List ℕ) → ((more : List Part) → matches (parts ++ more) cs ≡ false) → matches parts cs ≡ false
none_matches parts cs fails = subst (λ (l : List Part). matches l cs ≡ false) (append-nil parts) (fails [])
