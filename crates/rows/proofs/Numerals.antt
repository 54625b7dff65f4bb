-- The number that a row of digits represents, digit by digit.
use Rattle.std.proofs.Common.{◌≡◌, ℕ, ◌<◌, ◌≤◌, ◌^◌, ◌+◌, ◌*◌, ◌-◌, ◌&&◌, Bool, true, false, List, [], ◌∷◌, length, get_or, drop, None, Some, refl, arith, sym, ap, ◌∙◌, add-one, lit<, nat_lt, nat_le, min, ◌≢◌, ◌++◌, ◌==◌, take, take-suc, pos, neg_ℤ, subst, ⊎_elim}
use Rattle.std.proofs.Math.Nat.{pow-le-pow_right}
use Rattle.std.proofs.lemmas.Bool.{and_right, false≢true, ne_eqb}
use Rattle.std.proofs.lemmas.Bool.Decides.{nat_tests}
use Rattle.std.proofs.lemmas.List.{get_or-take, length-take-le, take-take, take_all, take_rest}
use Rattle.std.proofs.lemmas.List.Folds.{list_all_at, list_all_more}
use Rattle.std.proofs.lemmas.Int.Digits.{digits_value-lt}
use Rattle.std.proofs.lemmas.Str.{digit_value_digit}
use Rattle.std.proofs.str.Laws.{order}
use Rattle.std.specs.Char.{digit_value, is_ascii_digit}
use Rattle.std.specs.Int.{IsInRange}
use Rattle.std.specs.List.{list_all}
use Rattle.std.specs.Option.{option_map}
use Rattle.std.specs.Str.Parse.{AllDigits, digits_value, digits_value_after}
use Rattle.rows.specs.Fronts.{FirstSays, FirstSaysNone, LeadingDigits}
use Rattle.rows.specs.Grammar.{all_digits, is_natural, natural_named, negative_named, number_named, size_named}
use Rattle.rows.specs.Lines.{words_of}
use Rattle.rows.proofs.Beginnings.{Begins, begins_with, first_same, others_same, some_word}
use Rattle.rows.proofs.Cuts.{first_of_words}

-- n is the number of the first i bytes, which are digits
pub record IsReadTo (ds : List ℕ) (i n : ℕ) : Type 0 where
  pub digits : list_all is_ascii_digit (take i ds) ≡ true
  pub number : n ≡ digits_value 10 (take i ds)

-- before the first digit
pub read_none : (ds : List ℕ) → IsReadTo ds 0 0
read_none ds = record { digits = refl; number = refl }

digit_of : (c : ℕ) → is_ascii_digit c ≡ true → digit_value c ≡ c - 48
digit_of c h = let within : IsInRange 48 57 c = grind (arith, nat_tests) in let e = digit_value_digit c within in omega (arith, e)

both : (x y : Bool) → (x && y) ≡ true → (x ≡ true) × (y ≡ true)
both true y e = (refl, e)
both false y e = absurd (false≢true e)

all_digits_of : (ds : List ℕ) → list_all is_ascii_digit ds ≡ true → AllDigits 10 ds
all_digits_of [] every = tt
all_digits_of (d ∷ ds) every =
    let parts = both (is_ascii_digit d) (list_all is_ascii_digit ds) every in
    let e = digit_of d parts.0 in
    let within : d ≤ 57 = let h : is_ascii_digit d ≡ true = parts.0 in grind (arith, nat_tests) in
    (omega (arith, e, within), all_digits_of ds parts.1)

-- the number of digits is below the power of ten that their count is
below_power : (ds : List ℕ) → list_all is_ascii_digit ds ≡ true → digits_value 10 ds < 10 ^ length ds
below_power ds every = digits_value-lt 10 ds (all_digits_of ds every)

-- a power of ten is at most a later one
ten_grows : (i j : ℕ) → i ≤ j → 10 ^ i ≤ 10 ^ j
ten_grows i j h = pow-le-pow_right (lit< tt) h

digits_append : (front : List ℕ) (c n : ℕ) → digits_value_after 10 n (front ++ c ∷ []) ≡ digits_value_after 10 n front * 10 + digit_value c
digits_append [] c n = refl
digits_append (d ∷ front) c n = digits_append front c (n * 10 + digit_value d)

-- the number of one more digit
one_more : (ds : List ℕ) (i n : ℕ) → n ≡ digits_value 10 (take i ds) → i < length ds → is_ascii_digit (get_or ds i 0) ≡ true → n * 10 + (get_or ds i 0 - 48) ≡ digits_value 10 (take (i + 1) ds)
one_more ds i n e inside digit =
    let c : ℕ = get_or ds i 0 in
    let longer : take (i + 1) ds ≡ take i ds ++ c ∷ [] = ap (λ k. take k ds) (add-one i) ∙ take-suc ds i 0 inside in
    let more : digits_value 10 (take i ds ++ c ∷ []) ≡ digits_value 10 (take i ds) * 10 + digit_value c = digits_append (take i ds) c 0 in
    sym (ap (digits_value 10) longer ∙ more ∙ ap (λ m. m * 10 + digit_value c) (sym e) ∙ ap (λ m. n * 10 + m) (digit_of c digit))

-- after one more digit
pub read_more : (ds : List ℕ) (i n : ℕ) → IsReadTo ds i n → i < length ds → is_ascii_digit (get_or ds i 0) ≡ true → IsReadTo ds (i + 1) (n * 10 + (get_or ds i 0 - 48))
read_more ds i n so_far inside digit =
    record {
      digits = list_all_more is_ascii_digit ds i 0 inside ∙ ap (λ t. t && is_ascii_digit (get_or ds i 0)) so_far.digits ∙ digit;
      number = one_more ds i n so_far.number inside digit;
    }

-- the first bytes are at most 19 of the text
front_of : (text : List ℕ) (m : ℕ) → m ≡ min (length text) 19 → length (take m text) ≡ m
front_of text m is = length-take-le m text (omega (arith, is))

-- the next digit of the first bytes fits
pub small : (text : List ℕ) (m i n : ℕ) → m ≡ min (length text) 19 → IsReadTo (take m text) i n → i < length (take m text) → n * 10 + 9 < 2 ^ 64
small text m i n is so_far inside =
    let count = front_of text m is in
    let first : length (take i (take m text)) ≡ i = length-take-le i (take m text) (omega arith) in
    let b : n < 10 ^ length (take i (take m text)) = subst (λ (v : ℕ). v < 10 ^ length (take i (take m text))) (sym so_far.number) (below_power (take i (take m text)) so_far.digits) in
    let g = ten_grows (length (take i (take m text))) 18 (omega (arith, is, count, first)) in
    omega (arith, b, g)

-- what is read of the first bytes stands at the front of the text
front_read : (text : List ℕ) (m i n : ℕ) → m ≡ min (length text) 19 → i ≤ m → IsReadTo (take m text) i n → (i < 19 → i < length text → is_ascii_digit (get_or text i 0) ≡ false) → LeadingDigits 19 text n i
unfolding all_digits
front_read text m i n is inside so_far ended =
    let same : take i (take m text) ≡ take i text = take-take i m text inside in
    record {
      within = omega (arith, is);
      few = omega (arith, is);
      digits = rw (sym same) so_far.digits;
      number = so_far.number ∙ ap (digits_value 10) same;
      ended = ended;
    }

-- a byte is no digit
pub read_other : (text : List ℕ) (m i n : ℕ) → m ≡ min (length text) 19 → IsReadTo (take m text) i n → i < length (take m text) → is_ascii_digit (get_or (take m text) i 0) ≡ false → LeadingDigits 19 text n i
read_other text m i n is so_far inside other =
    let count = front_of text m is in
    let below : i < m = omega (arith, count) in
    front_read text m i n is (omega arith) so_far (λ _ _. sym (ap is_ascii_digit (get_or-take m text i 0 below)) ∙ other)

-- each of the first bytes is a digit
pub read_all : (text : List ℕ) (m i n : ℕ) → m ≡ min (length text) 19 → IsReadTo (take m text) i n → length (take m text) ≤ i → i ≤ length (take m text) → LeadingDigits 19 text n (length (take m text))
read_all text m i n is so_far past upto =
    let count = front_of text m is in
    let same : i ≡ length (take m text) = omega arith in
    subst (λ (k : ℕ). LeadingDigits 19 text n k) same
    (front_read text m i n is (omega (arith, count)) so_far (λ below inside. absurd (omega (arith, is, count))))

-- a word of as many digits as are read, at most 18, is their number
pub some_size : (ds : List ℕ) (n k : ℕ) → LeadingDigits 19 ds n k → k ≢ 0 → length ds ≤ k → k ≤ 18 → Some n ≡ size_named ds
unfolding size_named natural_named is_natural all_digits
some_size ds n k read some all few =
    let is : take k ds ≡ ds = take_all k ds all in
    let within = read.within in
    let a : nat_le (length ds) 18 ≡ true = grind (arith, nat_tests) in
    let b : nat_lt 0 (length ds) ≡ true = grind (arith, nat_tests) in
    let d : nat_le (length ds) 20 ≡ true = grind (arith, nat_tests) in
    let every : list_all is_ascii_digit ds ≡ true = rw is at read.digits in
    rw (a, b, d, every) (ap (λ m. Some m) (read.number ∙ ap (digits_value 10) is))

-- a byte that is no digit is among them
not_all : (ds : List ℕ) (i : ℕ) → i < length ds → is_ascii_digit (get_or ds i 0) ≡ false → natural_named ds ≡ None
unfolding natural_named is_natural all_digits
not_all ds i inside other = rw (list_all_at is_ascii_digit ds i 0 inside other, and_right _ false refl, and_right _ false refl) refl

-- a word of no digits
no_digits : (ds : List ℕ) → length ds ≡ 0 → natural_named ds ≡ None
unfolding natural_named is_natural all_digits
no_digits ds none = let a : nat_lt 0 (length ds) ≡ false = grind (arith, nat_tests) in rw a refl

-- a word that is read in part is longer than a size, or has a byte that is no digit
pub read_in_part : (ds : List ℕ) (n k : ℕ) → LeadingDigits 19 ds n k → k < length ds → None ≡ size_named ds
unfolding size_named
read_in_part ds n k read part = by_test (nat_le (length ds) 18) refl
  where
    by_test : (t : Bool) → nat_le (length ds) 18 ≡ t → None ≡ size_named ds
    by_test true t = let few : length ds ≤ 18 = grind (arith, nat_tests) in rw t (sym (not_all ds k part (read.ended (omega arith) part)))
    by_test false t = rw t refl

-- a word of which nothing is read is empty, or begins with a byte that is no digit
pub read_nothing : (ds : List ℕ) (n k : ℕ) → LeadingDigits 19 ds n k → k ≡ 0 → None ≡ size_named ds
unfolding size_named
read_nothing ds n k read none =
    ⊎_elim (λ (some : 0 < length ds). read_in_part ds n k read (omega arith))
    (λ (empty : length ds ≤ 0). let a : nat_le (length ds) 18 ≡ true = grind (arith, nat_tests) in rw a (sym (no_digits ds (omega arith))))
    (order 0 (length ds))

-- a word of more digits than a size
pub read_more_than_size : (ds : List ℕ) (n k : ℕ) → LeadingDigits 19 ds n k → 18 < k → None ≡ size_named ds
unfolding size_named
read_more_than_size ds n k read many =
    let within = read.within in
    let a : nat_le (length ds) 18 ≡ false = grind (arith, nat_tests) in rw a refl

-- digits are no spaces
no_space : (text : List ℕ) (k : ℕ) → k ≤ length text → list_all is_ascii_digit (take k text) ≡ true → (j : ℕ) → j < k → get_or text j 0 ≢ 32
no_space text k inside every j below is =
    let at : get_or (take k text) j 0 ≡ 32 = get_or-take k text j 0 below ∙ is in
    let other : is_ascii_digit (get_or (take k text) j 0) ≡ false = rw at refl in
    false≢true (sym (list_all_at is_ascii_digit (take k text) j 0 (omega (arith, length-take-le k text inside)) other) ∙ every)

-- the word before the space at offset k is this number
first_says : (text : List ℕ) (k n : ℕ) → k < length text → 0 < k → k ≤ 20 → get_or text k 0 ≡ 32 → list_all is_ascii_digit (take k text) ≡ true → n ≡ digits_value 10 (take k text) → FirstSays natural_named text n (drop (k + 1) text)
unfolding natural_named is_natural all_digits
first_says text k n inside some few space every number =
    let count : length (take k text) ≡ k = length-take-le k text (omega arith) in
    let a : nat_lt 0 (length (take k text)) ≡ true = grind (arith, nat_tests) in
    let b : nat_le (length (take k text)) 20 ≡ true = grind (arith, nat_tests) in
    record {
      word = take k text;
      first = first_of_words text k inside space (no_space text k (omega arith) every);
      says = rw (a, b, every) (ap (λ m. Some m) (sym number));
    }

-- another digit after the 19
pub last_read : (text : List ℕ) (n k : ℕ) → LeadingDigits 19 text n k → k < length text → is_ascii_digit (get_or text k 0) ≡ true → LeadingDigits 20 text (n * 10 + (get_or text k 0 - 48)) (k + 1)
unfolding all_digits
last_read text n k read inside digit =
    let few = read.few in
    record {
      within = omega arith;
      few = omega (arith, few);
      digits = list_all_more is_ascii_digit text k 0 inside ∙ ap (λ t. t && is_ascii_digit (get_or text k 0)) read.digits ∙ digit;
      number = one_more text k n read.number inside digit;
      ended = λ below _. absurd (false≢true (sym (read.ended (omega arith) inside) ∙ digit));
    }

-- no other digit
pub none_read : (text : List ℕ) (n k : ℕ) → LeadingDigits 19 text n k → (k < length text → is_ascii_digit (get_or text k 0) ≡ false) → LeadingDigits 20 text n k
none_read text n k read other =
    let few = read.few in
    record { within = read.within; few = omega (arith, few); digits = read.digits; number = read.number; ended = λ _ inside. other inside }

-- 20 digits are a number below the 20th power of ten
pub small_number : (text : List ℕ) (n k : ℕ) → LeadingDigits 20 text n k → n < 10 ^ 20
unfolding all_digits
small_number text n k read =
    let few = read.few in
    let count : length (take k text) ≡ k = length-take-le k text read.within in
    let b : n < 10 ^ length (take k text) = subst (λ (m : ℕ). m < 10 ^ length (take k text)) (sym read.number) (below_power (take k text) read.digits) in
    let g = ten_grows (length (take k text)) 20 (omega (arith, few, count)) in
    omega (arith, b, g)

-- the digits before a space are a number
pub says_number : (text : List ℕ) (n k : ℕ) → LeadingDigits 20 text n k → k ≢ 0 → k < length text → get_or text k 0 ≡ 32 → FirstSays natural_named text n (drop (k + 1) text)
unfolding all_digits
says_number text n k read some inside space = let few = read.few in first_says text k n inside (omega arith) few space read.digits read.number

-- a first word that is a natural number is what was read
is_read : (text w : List ℕ) (n k : ℕ) → LeadingDigits 20 text n k → Begins text w → is_natural w ≡ true → (0 < length w) × (length w ≡ k)
unfolding is_natural all_digits
is_read text w n k read begins natural =
    let first = both (nat_lt 0 (length w)) (nat_le (length w) 20 && list_all is_ascii_digit w) natural in
    let second = both (nat_le (length w) 20) (list_all is_ascii_digit w) first.1 in
    let some : 0 < length w = let h : nat_lt 0 (length w) ≡ true = first.0 in grind (arith, nat_tests) in
    let few : length w ≤ 20 = let h : nat_le (length w) 20 ≡ true = second.0 in grind (arith, nat_tests) in (
      some,
      ⊎_elim
          (λ (less : length w < k). absurd (no_space text k read.within read.digits (length w) less begins.ends))
          (λ (upto : k ≤ length w). ⊎_elim
          (λ (more : k < length w).
          let here : is_ascii_digit (get_or text k 0) ≡ false = read.ended (omega arith) (let fits = begins.fits in omega (arith, fits)) in
          let other : is_ascii_digit (get_or w k 0) ≡ false = sym (ap is_ascii_digit (begins.same k more)) ∙ here in
          absurd (false≢true (sym (list_all_at is_ascii_digit w k 0 more other) ∙ second.1)))
          (λ (most : length w ≤ k). let e : length w ≡ k = omega arith in e)
          (order k (length w)))
          (order (length w) k),
    )

-- where what was read is no first word, that says nothing
says_none : (text : List ℕ) (n k : ℕ) → LeadingDigits 20 text n k → ((w : List ℕ) → Begins text w → 0 < length w → length w ≡ k → ⊥) → FirstSaysNone natural_named text
unfolding natural_named
says_none text n k read not w v ws e = by_test (is_natural w) refl
  where
    by_test : (t : Bool) → is_natural w ≡ t → natural_named w ≡ None
    by_test true t =
        let begins = begins_with text w v ws e in
        let is = is_read text w n k read begins t in
        absurd (not w begins is.0 is.1)
    by_test false t = rw t refl

-- nothing was read
pub reads_nothing : (text : List ℕ) (n k : ℕ) → LeadingDigits 20 text n k → k ≡ 0 → FirstSaysNone natural_named text
reads_nothing text n k read none = says_none text n k read (λ w begins some is. omega (arith, none))

-- all was read
pub reads_all : (text : List ℕ) (n k : ℕ) → LeadingDigits 20 text n k → length text ≤ k → FirstSaysNone natural_named text
reads_all text n k read all = says_none text n k read (λ w begins some is. let fits = begins.fits in omega (arith, fits))

-- no space follows
pub no_space_follows : (text : List ℕ) (n k : ℕ) → LeadingDigits 20 text n k → get_or text k 0 ≢ 32 → FirstSaysNone natural_named text
no_space_follows text n k read other = says_none text n k read (λ w begins some is. other (subst (λ (j : ℕ). get_or text j 0 ≡ 32) is begins.ends))

minus_of : (word : List ℕ) → number_named (45 ∷ word) ≡ option_map (λ n. neg_ℤ (pos n)) (natural_named word)
unfolding number_named negative_named
minus_of word = refl

without_minus : (word : List ℕ) → (0 < length word → get_or word 0 0 ≢ 45) → number_named word ≡ option_map (λ n. pos n) (natural_named word)
unfolding number_named natural_named is_natural all_digits
without_minus [] other = refl
without_minus (b ∷ bs) other = rw (ne_eqb b 45 (other (omega arith))) refl

-- a byte that is no space belongs to the first word
longer_word : (b : ℕ) (bs w : List ℕ) (ws : List (List ℕ)) → (b == 32) ≡ false → words_of bs ≡ w ∷ ws → words_of (b ∷ bs) ≡ (b ∷ w) ∷ ws
longer_word b bs w ws other e = rw (other, e) refl

-- a minus sign and digits
minus_says : (text : List ℕ) (n : ℕ) (rest : List ℕ) → 0 < length text → get_or text 0 0 ≡ 45 → FirstSays natural_named (drop 1 text) n rest → FirstSays number_named text (neg_ℤ (pos n)) rest
minus_says [] n rest some minus says = absurd (omega arith)
minus_says (b ∷ bs) n rest some minus says =
    let other : (b == 32) ≡ false = rw minus refl in
    record {
      word = b ∷ says.word;
      first = longer_word b bs says.word (words_of rest) other says.first;
      says = rw minus (minus_of says.word ∙ ap (option_map (λ n. neg_ℤ (pos n))) says.says);
    }

-- a minus sign, and no digits
minus_says_none : (text : List ℕ) → 0 < length text → get_or text 0 0 ≡ 45 → FirstSaysNone natural_named (drop 1 text) → FirstSaysNone number_named text
minus_says_none [] some minus none w v ws e = absurd (omega arith)
minus_says_none (b ∷ bs) some minus none w v ws e =
    let other : (b == 32) ≡ false = rw minus refl in
    let more = some_word bs in
    let same = sym (longer_word b bs more.0 more.1 other more.2) ∙ e in
    let digits : natural_named more.0 ≡ None = none more.0 v ws (more.2 ∙ ap (λ (us : List (List ℕ)). more.0 ∷ us) (others_same _ _ _ _ same)) in
    let word : number_named (b ∷ more.0) ≡ None = rw minus (minus_of more.0 ∙ ap (option_map (λ n. neg_ℤ (pos n))) digits) in
    ap number_named (sym (first_same _ _ _ _ same)) ∙ word

-- the first word of a text without a minus sign has none
plain_first : (text w v : List ℕ) (ws : List (List ℕ)) → (0 < length text → get_or text 0 0 ≢ 45) → words_of text ≡ w ∷ v ∷ ws → number_named w ≡ option_map (λ n. pos n) (natural_named w)
plain_first text w v ws other e =
    let begins = begins_with text w v ws e in
    without_minus w (λ some is. let fits = begins.fits in other (omega (arith, fits)) (begins.same 0 some ∙ is))

-- digits alone
pub plain_says : (text : List ℕ) (n : ℕ) (rest : List ℕ) → (0 < length text → get_or text 0 0 ≢ 45) → FirstSays natural_named text n rest → FirstSays number_named text (pos n) rest
plain_says text n rest other says =
    let more = some_word rest in
    let e : words_of text ≡ says.word ∷ more.0 ∷ more.1 = says.first ∙ ap (λ (ws : List (List ℕ)). says.word ∷ ws) more.2 in
    record {
      word = says.word;
      first = says.first;
      says = plain_first text says.word more.0 more.1 other e ∙ ap (option_map (λ n. pos n)) says.says;
    }

-- neither a minus sign nor digits
pub plain_says_none : (text : List ℕ) → (0 < length text → get_or text 0 0 ≢ 45) → FirstSaysNone natural_named text → FirstSaysNone number_named text
plain_says_none text other none w v ws e = plain_first text w v ws other e ∙ ap (option_map (λ n. pos n)) (none w v ws e)

-- the same of what follows the first byte
pub after_minus_says : (text : List ℕ) (n : ℕ) (rest : List ℕ) → 0 < length text → get_or text 0 0 ≡ 45 → FirstSays natural_named (take (length text - 1) (drop 1 text)) n rest → FirstSays number_named text (neg_ℤ (pos n)) rest
after_minus_says text n rest some minus says = minus_says text n rest some minus (subst (λ (l : List ℕ). FirstSays natural_named l n rest) (take_rest text 1) says)

pub after_minus_none : (text : List ℕ) → 0 < length text → get_or text 0 0 ≡ 45 → FirstSaysNone natural_named (take (length text - 1) (drop 1 text)) → FirstSaysNone number_named text
after_minus_none text some minus none = minus_says_none text some minus (subst (λ (l : List ℕ). FirstSaysNone natural_named l) (take_rest text 1) none)

pub ruleset numbers = (read_none, read_more, read_other, read_all, small, some_size, after_minus_says, after_minus_none, plain_says, plain_says_none, says_number, reads_nothing, reads_all, no_space_follows, take_rest, last_read, none_read, small_number)
