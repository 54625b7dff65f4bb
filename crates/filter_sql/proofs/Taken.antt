-- What is read is spelled as the token says, and ends where it has to.
use Rattle.std.proofs.Common.{◌≡◌, ◌≢◌, ◌⊎◌, inl, inr, ℕ, zero, suc, ◌+◌, ◌-◌, ◌<◌, ◌≤◌, ◌||◌, ◌&&◌, List, [], ◌∷◌, ◌++◌, Option, Some, None, IfSome, option_and_then, Bool, true, false, not, cond, Result, Ok, Err, append_assoc, append-nil, add-one, add-zero, nat_lt, length-append, length, get_or, take, drop, map, refl, sym, ap, ◌∙◌, subst, arith, ◌==◌, ⊎_elim, length-take-le, get_or-drop, take-append-drop, ltb-true}
use Rattle.std.proofs.str.Laws.{order}
use Rattle.std.specs.Char.{digit_value, is_ascii_digit, to_ascii_lowercase}
use Rattle.std.specs.List.{AllByRecursion, prefix_len, position_or_len, list_all, find}
use Rattle.std.specs.Str.{IsCharBoundary, IsUtf8, bytes_eq}
use Rattle.std.proofs.lemmas.Str.{IsCharBoundary-at_seam}
use Rattle.std.proofs.lemmas.Slice.Eq.{bytes_eq-Decides}
use Rattle.std.specs.Str.Parse.{AllDigits, IsNumeral}
use Rattle.std.proofs.lemmas.Str.Parse.{digit_from_value}
use Rattle.std.proofs.lemmas.Bool.Decides.{nat_tests}
use Rattle.std.proofs.lemmas.List.{drop_more, drop_all}
use Rattle.std.proofs.lemmas.List.Sums.{prefix_len-le-length, prefix_len_passes, prefix_len_stops}
use Rattle.hex.specs.Hex.{decode_of}
use Rattle.hex.specs.declared.error.FromHexError.{FromHexError}
use Rattle.vortex_filter.specs.declared.operator.CompareOperator.TheVariants as operators
use Rattle.filter_sql.specs.declared.lex.LexError.{LexError}
use Rattle.filter_sql.specs.declared.token.Keyword.{Keyword}
use Rattle.filter_sql.specs.Tokens.{TokenTree, name_token, number_token, bytes_token, operator_token, opening, closing, comma, doubled, quoted, sign_text, Power, Sign, no_sign, plus_sign, minus_sign, IsNumber, IsPower, fraction_text, is_e, is_point, number_goes_on, power_sign, power_text, all_keywords, keyword_text, keyword_named, is_word, is_word_byte, is_word_start, is_x, goes_on, IsFront, Spells}
use Rattle.filter_sql.specs.Lexing.{Cut, after_digits, after_fraction, after_minus, after_number, after_power, after_sign, bytes_at, bytes_cut, cut_after, is_all, is_number, is_quote, mark_of, number_at, number_cut, other_at, parameter_at, quoted_cut, quoted_token, token_at, unquoted_at, with_byte, word_at, word_token}
use Rattle.filter_sql.proofs.Cuts.{text_after}
use Rattle.filter_sql.proofs.Again.{AllPassing, an_e, both_true, hex_text, quoted_text, regrouped, take_word}

-- the text begins with the token, which takes at least a byte, and goes on so
pub record Taken (text : List ℕ) (t : TokenTree) (after : List ℕ) : Type 0 where
  pub word : List ℕ
  pub front : IsFront text t word after
  pub some : 0 < length word

-- which way a test went
chosen : {A : Type 0} (b : Bool) (x y z : A) → cond b x y ≡ z → ((b ≡ true) × (x ≡ z)) ⊎ ((b ≡ false) × (y ≡ z))
chosen true x y z h = inl (refl, h)
chosen false x y z h = inr (refl, h)

-- ---- marks

one_byte : (b code : ℕ) (bs : List ℕ) (t : TokenTree) (found : TokenTree × ℕ) → (b == code) ≡ true → Some (t, 1) ≡ Some found
    → Spells t (code ∷ []) → goes_on t (code ∷ []) (get_or bs 0 0) ≡ false → Taken (b ∷ bs) found.0 (drop found.1 (b ∷ bs))
one_byte b code bs t found is found_is spelled ends =
    let same : ◌≡◌ {A = TokenTree × ℕ} (t, 1) found = cc in
    let byte : b ≡ code = grind (arith, nat_tests) in
    subst (λ (f : TokenTree × ℕ). Taken (b ∷ bs) f.0 (drop f.1 (b ∷ bs))) same (record {
      word = code ∷ [];
      front = record { whole = ap (λ (c : ℕ). c ∷ bs) byte; spelled = spelled; ends = ends };
      some = omega arith;
    })

two_bytes : (b code next : ℕ) (bs : List ℕ) (t : TokenTree) (found : TokenTree × ℕ) → (b == code) ≡ true → (get_or bs 0 0 == next) ≡ true → 0 < next → Some (t, 2) ≡ Some found
    → Spells t (code ∷ next ∷ []) → ((c : ℕ) → goes_on t (code ∷ next ∷ []) c ≡ false) → Taken (b ∷ bs) found.0 (drop found.1 (b ∷ bs))
two_bytes b code next [] t found is second some found_is spelled ends =
    let none : 0 ≡ next = grind (arith, nat_tests) in
    absurd (omega arith)
two_bytes b code next (c ∷ bs) t found is second some found_is spelled ends =
    let same : ◌≡◌ {A = TokenTree × ℕ} (t, 2) found = cc in
    let byte : b ≡ code = grind (arith, nat_tests) in
    let other : c ≡ next = grind (arith, nat_tests) in
    subst (λ (f : TokenTree × ℕ). Taken (b ∷ c ∷ bs) f.0 (drop f.1 (b ∷ c ∷ bs))) same (record {
      word = code ∷ next ∷ [];
      front = record { whole = ap (λ (x : ℕ). x ∷ c ∷ bs) byte ∙ ap (λ (x : ℕ). code ∷ x ∷ bs) other; spelled = spelled; ends = ends (get_or bs 0 0) };
      some = omega arith;
    })

mark_taken : (text : List ℕ) (found : TokenTree × ℕ) → mark_of (get_or text 0 0) (get_or text 1 0) ≡ Some found → Taken text found.0 (drop found.1 text)
unfolding mark_of
mark_taken [] found h = cc
mark_taken (b ∷ bs) found h =
    let second = get_or bs 0 0 in
    elim (chosen (b == 40) _ _ _ h) [
      | inl (is, e) ↦ one_byte b 40 bs opening found is e refl refl
      | inr (differs, h1) ↦ elim (chosen (b == 41) _ _ _ h1) [
        | inl (is, e) ↦ one_byte b 41 bs closing found is e refl refl
        | inr (_, h2) ↦ elim (chosen (b == 44) _ _ _ h2) [
          | inl (is, e) ↦ one_byte b 44 bs comma found is e refl refl
          | inr (_, h3) ↦ elim (chosen (b == 61) _ _ _ h3) [
            | inl (is, e) ↦ one_byte b 61 bs (operator_token operators.Eq) found is e refl refl
            | inr (_, h4) ↦ elim (chosen (b == 60) _ _ _ h4) [
              | inl (is, e) ↦ elim (chosen (second == 61) _ _ _ e) [
                | inl (next, e1) ↦ two_bytes b 60 61 bs (operator_token operators.Lte) found is next (omega arith) e1 refl (λ c. refl)
                | inr (no_next, e1) ↦ elim (chosen (second == 62) _ _ _ e1) [
                  | inl (next, e2) ↦ two_bytes b 60 62 bs (operator_token operators.NotEq) found is next (omega arith) e2 (inl refl) (λ c. refl)
                  | inr (none, e2) ↦ one_byte b 60 bs (operator_token operators.Lt) found is e2 refl (rw (no_next, none) refl)
                ]
              ]
              | inr (_, h5) ↦ elim (chosen (b == 62) _ _ _ h5) [
                | inl (is, e) ↦ elim (chosen (second == 61) _ _ _ e) [
                  | inl (next, e1) ↦ two_bytes b 62 61 bs (operator_token operators.Gte) found is next (omega arith) e1 refl (λ c. refl)
                  | inr (none, e1) ↦ one_byte b 62 bs (operator_token operators.Gt) found is e1 refl none
                ]
                | inr (_, h6) ↦ elim (chosen (b == 33) _ _ _ h6) [
                  | inl (is, e) ↦ elim (chosen (second == 61) _ _ _ e) [
                    | inl (next, e1) ↦ two_bytes b 33 61 bs (operator_token operators.NotEq) found is next (omega arith) e1 (inr refl) (λ c. refl)
                    | inr (none, e1) ↦ cc
                  ]
                  | inr (_, h7) ↦ cc
                ]
              ]
            ]
          ]
        ]
      ]
    ]

-- ---- quotes

with_byte_some : (b : ℕ) (o : Option (List ℕ × List ℕ)) (content after : List ℕ) → with_byte b o ≡ Some (content, after)
    → (front : List ℕ) × (o ≡ Some (front, after)) × (content ≡ b ∷ front)
with_byte_some b None content after h = cc
with_byte_some b (Some found) content after h =
    let same : ◌≡◌ {A = List ℕ × List ℕ} (b ∷ found.0, found.1) (content, after) = cc in
    (found.0, ap (λ (l : List ℕ). Some (found.0, l)) (ap (λ (p : List ℕ × List ℕ). p.1) same), sym (ap (λ (p : List ℕ × List ℕ). p.0) same))

same_byte : (b : ℕ) → (b == b) ≡ true
same_byte b = grind (arith, nat_tests)

-- what was read of a quoted text stands there
pub unquoted_taken : (quote : ℕ) (text content after : List ℕ) → (0 == quote) ≡ false → unquoted_at quote text ≡ Some (content, after)
    → (text ≡ doubled quote content ++ (quote ∷ after)) × ((get_or after 0 0 == quote) ≡ false)
unfolding unquoted_at
unquoted_taken quote [] content after other h = cc
unquoted_taken quote (b ∷ []) content after other h = elim (chosen (b == quote) _ _ _ h) [
  | inl (is, e) ↦
      let byte : b ≡ quote = grind (arith, nat_tests) in
      let same : ◌≡◌ {A = List ℕ × List ℕ} ([], []) (content, after) = cc in
      let empty : [] ≡ content = ap (λ (p : List ℕ × List ℕ). p.0) same in
      let end : [] ≡ after = ap (λ (p : List ℕ × List ℕ). p.1) same in
      (rw (← empty, ← end) (ap (λ (x : ℕ). x ∷ []) byte), rw (← end) other)
  | inr (differs, e) ↦ cc
]
unquoted_taken quote (b ∷ c ∷ bs) content after other h = elim (chosen (b == quote) _ _ _ h) [
  | inl (is, e) ↦
      let byte : b ≡ quote = grind (arith, nat_tests) in
      elim (chosen (c == quote) _ _ _ e) [
        | inl (twice, e1) ↦
            let next : c ≡ quote = grind (arith, nat_tests) in
            let found = with_byte_some quote (unquoted_at quote bs) content after e1 in
            let rest = unquoted_taken quote bs found.0 after other found.1 in
            let written : doubled quote content ++ (quote ∷ after) ≡ quote ∷ quote ∷ (doubled quote found.0 ++ (quote ∷ after)) = ap (λ (l : List ℕ). doubled quote l ++ (quote ∷ after)) found.2 ∙ rw (same_byte quote) refl in
            let front : b ∷ c ∷ bs ≡ quote ∷ quote ∷ bs = rw (byte, next) refl in
            (front ∙ ap (λ (l : List ℕ). quote ∷ quote ∷ l) rest.0 ∙ sym written, rest.1)
        | inr (lone, e1) ↦
            let same : ◌≡◌ {A = List ℕ × List ℕ} ([], c ∷ bs) (content, after) = cc in
            let empty : [] ≡ content = ap (λ (p : List ℕ × List ℕ). p.0) same in
            let end : c ∷ bs ≡ after = ap (λ (p : List ℕ × List ℕ). p.1) same in
            (rw (← empty, ← end) (ap (λ (x : ℕ). x ∷ c ∷ bs) byte), rw (← end) lone)
      ]
  | inr (differs, e) ↦
      let found = with_byte_some b (unquoted_at quote (c ∷ bs)) content after e in
      let rest = unquoted_taken quote (c ∷ bs) found.0 after other found.1 in
      let written : doubled quote content ++ (quote ∷ after) ≡ b ∷ (doubled quote found.0 ++ (quote ∷ after)) = ap (λ (l : List ℕ). doubled quote l ++ (quote ∷ after)) found.2 ∙ rw differs refl in
      (ap (λ (l : List ℕ). b ∷ l) rest.0 ∙ sym written, rest.1)
]

-- ---- bytes

cut_taken : (r : Result (List ℕ) FromHexError) (rest : List ℕ) (t : TokenTree) (after : List ℕ) → bytes_cut r rest ≡ Ok (t, after)
    → (content : List ℕ) × (r ≡ Ok content) × (t ≡ bytes_token content) × (rest ≡ after)
cut_taken (Ok content) rest t after h =
    let same : ◌≡◌ {A = Cut} (bytes_token content, rest) (t, after) = cc in
    (content, refl, sym (ap (λ (c : Cut). c.0) same), ap (λ (c : Cut). c.1) same)
cut_taken (Err e) rest t after h = cc

stops_at_quote : (b : ℕ) → not (is_quote b) ≡ false → b ≡ 39
stops_at_quote b h = grind (arith, nat_tests)

bytes_taken : (text : List ℕ) (t : TokenTree) (after : List ℕ) → bytes_at text ≡ Ok (t, after)
    → (digits : List ℕ) × (content : List ℕ) × (t ≡ bytes_token content) × (decode_of digits ≡ Ok content) × (text ≡ digits ++ (39 ∷ after))
unfolding bytes_at
bytes_taken text t after h =
    let place = position_or_len is_quote text in
    elim (chosen (nat_lt place (length text)) _ _ _ h) [
      | inl (within, e) ↦
          let below : place < length text = ltb-true place (length text) within in
          let found = cut_taken _ _ t after e in
          let quote : get_or text place 0 ≡ 39 = stops_at_quote (get_or text place 0) (prefix_len_stops (λ b. not (is_quote b)) text 0 below) in
          let rest : drop place text ≡ 39 ∷ after = drop_more text place 0 below ∙ ap (λ (b : ℕ). b ∷ drop (place + 1) text) quote ∙ ap (λ (l : List ℕ). 39 ∷ l) found.3 in
          (take place text, found.0, found.2, found.1, sym (take-append-drop place text) ∙ ap (λ (l : List ℕ). take place text ++ l) rest)
      | inr (_, e) ↦ cc
    ]

-- ---- runs

passing_take : (p : ℕ → Bool) (n : ℕ) (text : List ℕ) → ((k : ℕ) → k < n → p (get_or text k 0) ≡ true) → n ≤ length text → AllPassing p (take n text)
passing_take p zero text passes within = tt
passing_take p (suc n) [] passes within = absurd (omega arith)
passing_take p (suc n) (b ∷ bs) passes within = (passes 0 (omega arith), passing_take p n bs (λ k below. passes (suc k) (omega arith)) (omega arith))

-- the longest front of bytes that pass, and what follows it
record Run (p : ℕ → Bool) (text : List ℕ) : Type 0 where
  pub whole : text ≡ take (prefix_len p text) text ++ drop (prefix_len p text) text
  pub size : length (take (prefix_len p text) text) ≡ prefix_len p text
  pub passes : AllPassing p (take (prefix_len p text) text)
  pub stops : p (get_or (drop (prefix_len p text) text) 0 0) ≡ false

run : (p : ℕ → Bool) (text : List ℕ) → p 0 ≡ false → Run p text
run p text zero_fails =
    let count = prefix_len p text in
    let within = prefix_len-le-length p text in
    record {
      whole = sym (take-append-drop count text);
      size = length-take-le count text within;
      passes = passing_take p count text (λ k below. prefix_len_passes p text k 0 below) within;
      stops = ⊎_elim
          (λ below. rw (get_or-drop count text 0 0, add-zero) (prefix_len_stops p text 0 below))
          (λ past. rw (drop_all count text past) zero_fails)
          (order count (length text));
    }

all_digits : (digits : List ℕ) → AllPassing is_ascii_digit digits → AllDigits 10 digits
all_digits [] all = tt
all_digits (c ∷ cs) all =
    let here : is_ascii_digit c ≡ true = all.0 in
    let small : digit_value c < 10 = grind (arith, nat_tests) in
    (small, all_digits cs all.1)

-- ---- numbers

-- digits, and what follows them
record HasDigits (text rest : List ℕ) : Type 0 where
  pub digits : List ℕ
  pub whole : text ≡ digits ++ rest
  pub numeral : IsNumeral 10 digits

digits_taken : (text rest : List ℕ) → after_digits text ≡ Some rest → HasDigits text rest
unfolding after_digits
digits_taken text rest h =
    let count = prefix_len is_ascii_digit text in
    elim (chosen (count == 0) _ _ _ h) [
      | inl (_, e) ↦ cc
      | inr (differs, e) ↦
          let cut = run is_ascii_digit text refl in
          let same : drop count text ≡ rest = cc in
          let some : count ≢ 0 = grind (arith, nat_tests) in
          record {
            digits = take count text;
            whole = cut.whole ∙ ap (λ (l : List ℕ). take count text ++ l) same;
            numeral = (omega (arith, cut.size), all_digits (take count text) cut.passes);
          }
    ]

fraction_taken : (text rest : List ℕ) → after_fraction text ≡ Some rest → (fraction : Option (List ℕ)) × (text ≡ fraction_text fraction ++ rest) × IfSome fraction (IsNumeral 10)
unfolding after_fraction
fraction_taken [] rest h = let same : ◌≡◌ {A = List ℕ} [] rest = cc in (None, same, tt)
fraction_taken (b ∷ bs) rest h = elim (chosen (is_point b) _ _ _ h) [
  | inl (is, e) ↦
      let d = digits_taken bs rest e in
      let byte : b ≡ 46 = grind (arith, nat_tests) in
      (Some d.digits, ap (λ (x : ℕ). x ∷ bs) byte ∙ ap (λ (l : List ℕ). 46 ∷ l) d.whole, d.numeral)
  | inr (_, e) ↦ let same : b ∷ bs ≡ rest = cc in (None, same, tt)
]

sign_taken : (text : List ℕ) → (s : Sign) × (text ≡ power_sign s ++ after_sign text)
sign_taken [] = (no_sign, refl)
sign_taken (c ∷ cs) = by_tests (c == 43) (c == 45) refl refl
  where
    by_tests : (a b : Bool) → (c == 43) ≡ a → (c == 45) ≡ b → (s : Sign) × (c ∷ cs ≡ power_sign s ++ after_sign (c ∷ cs))
    by_tests true b p m = let byte : c ≡ 43 = grind (arith, nat_tests) in (plus_sign, rw p (ap (λ (x : ℕ). x ∷ cs) byte))
    by_tests false true p m = let byte : c ≡ 45 = grind (arith, nat_tests) in (minus_sign, rw (p, m) (ap (λ (x : ℕ). x ∷ cs) byte))
    by_tests false false p m = (no_sign, rw (p, m) refl)

power_taken : (text rest : List ℕ) → after_power text ≡ Some rest → (power : Option Power) × (text ≡ power_text power ++ rest) × IfSome power IsPower
unfolding after_power
power_taken [] rest h = let same : ◌≡◌ {A = List ℕ} [] rest = cc in (None, same, tt)
power_taken (b ∷ bs) rest h = elim (chosen (is_e b) _ _ _ h) [
  | inl (is, e) ↦
      let d = digits_taken (after_sign bs) rest e in
      let s = sign_taken bs in
      let letter : to_ascii_lowercase b ≡ 101 = grind (arith, nat_tests) in (
        Some (record { letter = b; sign = s.0; digits = d.digits }),
        ap (λ (l : List ℕ). b ∷ l) (s.1 ∙ ap (λ (l : List ℕ). power_sign s.0 ++ l) d.whole ∙ sym (append_assoc (power_sign s.0) d.digits rest)),
        (letter, d.numeral),
      )
  | inr (_, e) ↦ let same : b ∷ bs ≡ rest = cc in (None, same, tt)
]

minus_taken : (text : List ℕ) → (negative : Bool) × (text ≡ sign_text negative ++ after_minus text)
minus_taken [] = (false, refl)
minus_taken (b ∷ bs) = by_test (b == 45) refl
  where
    by_test : (t : Bool) → (b == 45) ≡ t → (negative : Bool) × (b ∷ bs ≡ sign_text negative ++ after_minus (b ∷ bs))
    by_test true h = let byte : b ≡ 45 = grind (arith, nat_tests) in (true, rw h (ap (λ (x : ℕ). x ∷ bs) byte))
    by_test false h = (false, rw h refl)

then_taken : (o : Option (List ℕ)) (f : List ℕ → Option (List ℕ)) (rest : List ℕ) → option_and_then f o ≡ Some rest → (l : List ℕ) × (o ≡ Some l) × (f l ≡ Some rest)
then_taken None f rest h = cc
then_taken (Some l) f rest h = (l, refl, h)

-- a number, and what follows it
record HasNumber (text rest : List ℕ) : Type 0 where
  pub word : List ℕ
  pub whole : text ≡ word ++ rest
  pub is : IsNumber word
  pub some : 0 < length word

unsigned_taken : (text rest : List ℕ) → after_number (after_minus text) ≡ Some rest → HasNumber text rest
unsigned_taken text rest h =
    let m = minus_taken text in
    let a = then_taken (option_and_then after_fraction (after_digits (after_minus text))) after_power rest h in
    let b = then_taken (after_digits (after_minus text)) after_fraction a.0 a.1 in
    let d = digits_taken (after_minus text) b.0 b.1 in
    let f = fraction_taken b.0 a.0 b.2 in
    let p = power_taken a.0 rest a.2 in
    let word : List ℕ = sign_text m.0 ++ (d.digits ++ (fraction_text f.0 ++ power_text p.0)) in
    let parts : text ≡ sign_text m.0 ++ (d.digits ++ (fraction_text f.0 ++ (power_text p.0 ++ rest))) =
    m.1 ∙ ap (λ (l : List ℕ). sign_text m.0 ++ l) (d.whole ∙ ap (λ (l : List ℕ). d.digits ++ l) (f.1 ∙ ap (λ (l : List ℕ). fraction_text f.0 ++ l) p.1)) in
    record {
      word = word;
      whole = parts ∙ sym (regrouped (sign_text m.0) d.digits (fraction_text f.0) (power_text p.0) rest);
      is = record { negative = m.0; whole = d.digits; fraction = f.0; power = p.0; text = refl; digits = d.numeral; places = f.2; raised = p.2 };
      some = simp length-append (omega (arith, d.numeral.0));
    }

-- a number is in ASCII

abbrev AllAscii : List ℕ → Type 0
AllAscii bs = AllByRecursion (λ b. b < 128) bs

ascii_append : (xs ys : List ℕ) → AllAscii xs → AllAscii ys → AllAscii (xs ++ ys)
ascii_append [] ys h g = g
ascii_append (x ∷ xs) ys h g = (h.0, ascii_append xs ys h.1 g)

ascii_digits : (ds : List ℕ) → AllDigits 10 ds → AllAscii ds
ascii_digits [] h = tt
ascii_digits (d ∷ ds) h =
    let range = digit_from_value d h.0 in
    let small : d < 128 = grind arith in
    (small, ascii_digits ds h.1)

ascii_minus : (negative : Bool) → AllAscii (sign_text negative)
ascii_minus true = (omega arith, tt)
ascii_minus false = tt

ascii_fraction : (fraction : Option (List ℕ)) → IfSome fraction (IsNumeral 10) → AllAscii (fraction_text fraction)
ascii_fraction None h = tt
ascii_fraction (Some digits) h = (omega arith, ascii_digits digits h.1)

ascii_sign : (sign : Sign) → AllAscii (power_sign sign)
ascii_sign no_sign = tt
ascii_sign plus_sign = (omega arith, tt)
ascii_sign minus_sign = (omega arith, tt)

ascii_letter : (b : ℕ) → (b ≡ 69) ⊎ (b ≡ 101) → b < 128
ascii_letter b (inl upper) = omega (arith, upper)
ascii_letter b (inr lower) = omega (arith, lower)

ascii_power : (power : Option Power) → IfSome power IsPower → AllAscii (power_text power)
ascii_power None h = tt
ascii_power (Some p) h = (ascii_letter p.letter (an_e p.letter h.0), ascii_append (power_sign p.sign) p.digits (ascii_sign p.sign) (ascii_digits p.digits h.1.1))

ascii_number : (word : List ℕ) → IsNumber word → AllAscii word
ascii_number word is =
    let tail = ascii_append (fraction_text is.fraction) (power_text is.power) (ascii_fraction is.fraction is.places) (ascii_power is.power is.raised) in
    let unsigned = ascii_append is.whole (fraction_text is.fraction ++ power_text is.power) (ascii_digits is.whole is.digits.1) tail in
    subst AllAscii (sym is.text) (ascii_append (sign_text is.negative) (is.whole ++ (fraction_text is.fraction ++ power_text is.power)) (ascii_minus is.negative) unsigned)

-- what follows ASCII is text
text_behind : (xs rest : List ℕ) → AllAscii xs → IsUtf8 (xs ++ rest) → IsUtf8 rest
text_behind [] rest a utf8 = utf8
text_behind (x ∷ xs) rest a utf8 = text_behind xs rest a.1 (text_after x (x ∷ (xs ++ rest)) [] (xs ++ rest) utf8 refl a.0)

-- the word of a number may be cut off
pub number_seam : (text rest : List ℕ) → after_number (after_minus text) ≡ Some rest → IsUtf8 text → (length rest ≤ length text) × IsCharBoundary text (length text - length rest)
number_seam text rest h whole =
    let n = unsigned_taken text rest h in
    let utf8 : IsUtf8 rest = text_behind n.word rest (ascii_number n.word n.is) (subst IsUtf8 n.whole whole) in
    let size : length text ≡ length n.word + length rest = ap length n.whole ∙ length-append n.word rest in
    let count : length n.word ≡ length text - length rest = omega (arith, size) in
    (omega (arith, size), subst (IsCharBoundary text) count (IsCharBoundary-at_seam text n.word rest n.whole utf8))

-- a word that is a number to its end
pub whole_number : (word : List ℕ) → is_number word ≡ true → IsNumber word
whole_number word h = by_rest (after_number (after_minus word)) refl h
  where
    by_rest : (o : Option (List ℕ)) → after_number (after_minus word) ≡ o → is_all o ≡ true → IsNumber word
    by_rest None read e = let no : false ≡ true = e in absurd cc
    by_rest (Some []) read e = let n = unsigned_taken word [] read in subst IsNumber (sym (n.whole ∙ append-nil n.word)) n.is
    by_rest (Some (b ∷ bs)) read e = let no : false ≡ true = e in absurd cc

number_cut_taken : (text : List ℕ) (o : Option (List ℕ)) (t : TokenTree) (after : List ℕ) → after_number (after_minus text) ≡ o → number_cut text o ≡ Ok (t, after) → Taken text t after
number_cut_taken text None t after read h = cc
number_cut_taken text (Some rest) t after read h = elim (chosen (number_goes_on (get_or rest 0 0)) _ _ _ h) [
  | inl (_, e) ↦ cc
  | inr (ends, e) ↦
      let n = unsigned_taken text rest read in
      let same : ◌≡◌ {A = Cut} (number_token (take (length text - length rest) text), rest) (t, after) = cc in
      let size : length text ≡ length n.word + length rest = ap length n.whole ∙ length-append n.word rest in
      let count : length text - length rest ≡ length n.word = omega (arith, size) in
      let word : take (length text - length rest) text ≡ n.word = ap (λ (k : ℕ). take k text) count ∙ ap (take (length n.word)) n.whole ∙ take_word n.word rest in
      let token : number_token n.word ≡ t = ap number_token (sym word) ∙ ap (λ (c : Cut). c.0) same in
      let left : rest ≡ after = ap (λ (c : Cut). c.1) same in
      subst (λ (u : TokenTree). Taken text u after) token (record {
        word = n.word;
        front = record { whole = n.whole ∙ ap (λ (l : List ℕ). n.word ++ l) left; spelled = (refl, n.is); ends = rw (← left) ends };
        some = n.some;
      })
]

number_taken : (text : List ℕ) (t : TokenTree) (after : List ℕ) → number_at text ≡ Ok (t, after) → Taken text t after
unfolding number_at
number_taken text t after h = number_cut_taken text (after_number (after_minus text)) t after refl h

-- ---- names

parameter_taken : (text : List ℕ) (t : TokenTree) (after : List ℕ) → (get_or text 0 0 == 36) ≡ true → parameter_at text ≡ Ok (t, after) → Taken text t after
unfolding parameter_at
parameter_taken [] t after first h = cc
parameter_taken (b ∷ bs) t after first h =
    let byte : b ≡ 36 = grind (arith, nat_tests) in
    let count = prefix_len is_ascii_digit bs in
    elim (chosen (count == 0) _ _ _ h) [
      | inl (_, e) ↦ cc
      | inr (differs, e) ↦
          let cut = run is_ascii_digit bs refl in
          let found : ◌≡◌ {A = Result Cut LexError} (Ok (name_token (b ∷ take count bs), drop count bs)) (Ok (t, after)) = rw add-one at e in
          let same : ◌≡◌ {A = Cut} (name_token (b ∷ take count bs), drop count bs) (t, after) = cc in
          let rest : drop count bs ≡ after = ap (λ (c : Cut). c.1) same in
          let token : name_token (36 ∷ take count bs) ≡ t = ap (λ (x : ℕ). name_token (x ∷ take count bs)) (sym byte) ∙ ap (λ (c : Cut). c.0) same in
          let some : count ≢ 0 = grind (arith, nat_tests) in
          rw (← token) (record {
            word = 36 ∷ take count bs;
            front = record {
              whole = ap (λ (x : ℕ). x ∷ bs) byte ∙ ap (λ (l : List ℕ). 36 ∷ l) (cut.whole ∙ ap (λ (l : List ℕ). take count bs ++ l) rest);
              spelled = inl (inr (take count bs, refl, (omega (arith, cut.size), all_digits (take count bs) cut.passes)), refl);
              ends = rw (← rest) cut.stops;
            };
            some = omega arith;
          })
    ]

-- ---- words

find_passes : {A : Type 0} (p : A → Bool) (xs : List A) (x : A) → find p xs ≡ Some x → p x ≡ true
find_passes p [] x h = cc
find_passes p (y ∷ ys) x h = elim (chosen (p y) _ _ _ h) [
  | inl (passes, e) ↦ let same : y ≡ x = cc in subst (λ z. p z ≡ true) same passes
  | inr (_, e) ↦ find_passes p ys x e
]

keyword_spelled : (word : List ℕ) (k : Keyword) → keyword_named word ≡ Some k → map to_ascii_lowercase word ≡ keyword_text k
unfolding keyword_named
keyword_spelled word k h = (bytes_eq-Decides (map to_ascii_lowercase word) (keyword_text k)).0 (find_passes (λ other. bytes_eq (map to_ascii_lowercase word) (keyword_text other)) all_keywords k h)

passing_all : (p : ℕ → Bool) (bs : List ℕ) → AllPassing p bs → list_all p bs ≡ true
passing_all p [] all = refl
passing_all p (b ∷ bs) all = rw (all.0, passing_all p bs all.1) refl

-- a word that starts so, and what stands behind it
record IsWordAt (word after : List ℕ) : Type 0 where
  pub whole : is_word word ≡ true
  pub stops : is_word_byte (get_or after 0 0) ≡ false
  pub no_bytes : (is_x word && (get_or after 0 0 == 39)) ≡ false

word_token_taken : (word after : List ℕ) (k : Option Keyword) → keyword_named word ≡ k → IsWordAt word after → Taken (word ++ after) (word_token word k) after
word_token_taken [] after k named is = cc
word_token_taken (b ∷ bs) after (Some k) named is = record {
  word = b ∷ bs;
  front = record { whole = refl; spelled = keyword_spelled (b ∷ bs) k named; ends = is.stops };
  some = omega arith;
}
word_token_taken (b ∷ bs) after None named is =
    let start = (both_true (is_word_start b) (list_all is_word_byte bs) is.whole).0 in
    let q : (b == 34) ≡ false = grind (arith, nat_tests) in
    let d : (b == 36) ≡ false = grind (arith, nat_tests) in
    record {
      word = b ∷ bs;
      front = record { whole = refl; spelled = inl (inl (is.whole, named), refl); ends = rw (q, d, is.stops, is.no_bytes) refl };
      some = omega arith;
    }

front_is_word : (b : ℕ) (word after : List ℕ) → is_word_start b ≡ true → AllPassing is_word_byte (b ∷ word) → is_word (b ∷ word) ≡ true
front_is_word b word after start all = rw (start, passing_all is_word_byte word all.1) refl

front_no_bytes : (b : ℕ) (word after : List ℕ) → ((to_ascii_lowercase b == 120) && (get_or (word ++ after) 0 0 == 39)) ≡ false → (is_x (b ∷ word) && (get_or after 0 0 == 39)) ≡ false
front_no_bytes b [] after other = other
front_no_bytes b (c ∷ word) after other = refl

word_taken : (b : ℕ) (bs : List ℕ) (t : TokenTree) (after : List ℕ) → is_word_start b ≡ true → ((to_ascii_lowercase b == 120) && (get_or bs 0 0 == 39)) ≡ false → word_at (b ∷ bs) ≡ Ok (t, after) → Taken (b ∷ bs) t after
unfolding word_at
word_taken b bs t after start other h =
    let count = prefix_len is_word_byte bs in
    let first : is_word_byte b ≡ true = rw start refl in
    let counted : prefix_len is_word_byte (b ∷ bs) ≡ suc count = rw first (omega arith) in
    let found : ◌≡◌ {A = Result Cut LexError} (Ok (word_token (b ∷ take count bs) (keyword_named (b ∷ take count bs)), drop count bs)) (Ok (t, after)) = rw counted at h in
    let same : ◌≡◌ {A = Cut} (word_token (b ∷ take count bs) (keyword_named (b ∷ take count bs)), drop count bs) (t, after) = cc in
    let cut = run is_word_byte bs refl in
    let seam : get_or (take count bs ++ drop count bs) 0 0 ≡ get_or bs 0 0 = ap (λ (l : List ℕ). get_or l 0 0) (sym cut.whole) in
    let taken = word_token_taken (b ∷ take count bs) (drop count bs) _ refl (record {
      whole = front_is_word b (take count bs) (drop count bs) start (first, cut.passes);
      stops = cut.stops;
      no_bytes = front_no_bytes b (take count bs) (drop count bs) (rw seam other);
    }) in
    let whole : Taken (b ∷ bs) (word_token (b ∷ take count bs) (keyword_named (b ∷ take count bs))) (drop count bs) = subst (λ (l : List ℕ). Taken (b ∷ l) (word_token (b ∷ take count bs) (keyword_named (b ∷ take count bs))) (drop count bs)) (sym cut.whole) taken in
    subst (λ (c : Cut). Taken (b ∷ bs) c.0 c.1) same whole

-- ---- all tokens

quoted_taken : (quote : ℕ) (bs : List ℕ) (o : Option (List ℕ × List ℕ)) (t : TokenTree) (after : List ℕ) → unquoted_at quote bs ≡ o → quoted_cut quote o ≡ Ok (t, after) → (0 == quote) ≡ false
    → (content : List ℕ) × (t ≡ quoted_token quote content) × (quote ∷ bs ≡ quoted quote content ++ after) × ((get_or after 0 0 == quote) ≡ false)
quoted_taken quote bs None t after read h other = cc
quoted_taken quote bs (Some found) t after read h other =
    let same : ◌≡◌ {A = Cut} (quoted_token quote found.0, found.1) (t, after) = cc in
    let token : quoted_token quote found.0 ≡ t = ap (λ (c : Cut). c.0) same in
    let rest : found.1 ≡ after = ap (λ (c : Cut). c.1) same in
    let there = unquoted_taken quote bs found.0 found.1 other read in (
      found.0,
      sym token,
      ap (λ (l : List ℕ). quote ∷ l) there.0 ∙ sym (quoted_text quote found.0 found.1) ∙ ap (λ (l : List ℕ). quoted quote found.0 ++ l) rest,
      rw (← rest) there.1,
    )

other_taken : (b : ℕ) (bs : List ℕ) (t : TokenTree) (after : List ℕ) → other_at b (get_or bs 0 0) (b ∷ bs) ≡ Ok (t, after) → Taken (b ∷ bs) t after
other_taken b bs t after h = elim (chosen (b == 34) _ _ _ h) [
  | inl (is, e) ↦
      let byte : b ≡ 34 = grind (arith, nat_tests) in
      let found = quoted_taken 34 bs (unquoted_at 34 bs) t after refl e refl in
      rw (byte, found.1) (record { word = quoted 34 found.0; front = record { whole = found.2; spelled = inr refl; ends = found.3 }; some = omega arith })
  | inr (_, h1) ↦ elim (chosen (b == 39) _ _ _ h1) [
    | inl (is, e) ↦
        let byte : b ≡ 39 = grind (arith, nat_tests) in
        let found = quoted_taken 39 bs (unquoted_at 39 bs) t after refl e refl in
        rw (byte, found.1) (record { word = quoted 39 found.0; front = record { whole = found.2; spelled = refl; ends = found.3 }; some = omega arith })
    | inr (_, h2) ↦ elim (chosen (b == 45 || is_ascii_digit b) _ _ _ h2) [
      | inl (_, e) ↦ number_taken (b ∷ bs) t after e
      | inr (_, h3) ↦ elim (chosen (b == 36) _ _ _ h3) [
        | inl (is, e) ↦ parameter_taken (b ∷ bs) t after is e
        | inr (_, h4) ↦ elim (chosen ((to_ascii_lowercase b == 120) && (get_or bs 0 0 == 39)) _ _ _ h4) [
          | inl (is, e) ↦ hex_taken b bs t after is e
          | inr (other, h5) ↦ elim (chosen (is_word_start b) _ _ _ h5) [
            | inl (start, e) ↦ word_taken b bs t after start other e
            | inr (_, e) ↦ cc
          ]
        ]
      ]
    ]
  ]
]
  where
    hex_taken : (b : ℕ) (bs : List ℕ) (t : TokenTree) (after : List ℕ) → ((to_ascii_lowercase b == 120) && (get_or bs 0 0 == 39)) ≡ true → bytes_at (drop 1 bs) ≡ Ok (t, after) → Taken (b ∷ bs) t after
    hex_taken b [] t after is e = absurd (let no_quote = (both_true (to_ascii_lowercase b == 120) (0 == 39) is).1 in cc)
    hex_taken b (c ∷ bs) t after is e =
        let parts = both_true (to_ascii_lowercase b == 120) (c == 39) is in
        let an_x : to_ascii_lowercase b ≡ 120 = grind (arith, nat_tests) in
        let quote : c ≡ 39 = grind (arith, nat_tests) in
        let found = bytes_taken bs t after e in
        subst (λ (u : TokenTree). Taken (b ∷ c ∷ bs) u after) (sym found.2) (record {
          word = b ∷ 39 ∷ (found.0 ++ 39 ∷ []);
          front = record {
            whole = ap (λ (x : ℕ). b ∷ x ∷ bs) quote ∙ ap (λ (l : List ℕ). b ∷ 39 ∷ l) found.4 ∙ sym (hex_text b found.0 after);
            spelled = (b, found.0, an_x, refl, found.3);
            ends = refl;
          };
          some = omega arith;
        })

token_cut : (text : List ℕ) (m : Option (TokenTree × ℕ)) (t : TokenTree) (after : List ℕ) → mark_of (get_or text 0 0) (get_or text 1 0) ≡ m
    → cut_after m text (other_at (get_or text 0 0) (get_or text 1 0) text) ≡ Ok (t, after) → Taken text t after
token_cut text (Some found) t after marked h =
    let same : ◌≡◌ {A = Cut} (found.0, drop found.1 text) (t, after) = cc in
    subst (λ (c : Cut). Taken text c.0 c.1) same (mark_taken text found marked)
token_cut [] None t after marked h = cc
token_cut (b ∷ bs) None t after marked h = other_taken b bs t after h

-- what is read stands there
pub token_taken : (text : List ℕ) (t : TokenTree) (after : List ℕ) → token_at text ≡ Ok (t, after) → Taken text t after
unfolding token_at
token_taken text t after h = token_cut text (mark_of (get_or text 0 0) (get_or text 1 0)) t after refl h

-- and it takes at least a byte
pub token_shorter : (text : List ℕ) (t : TokenTree) (after : List ℕ) → token_at text ≡ Ok (t, after) → length after < length text
token_shorter text t after h =
    let taken = token_taken text t after h in
    let size : length text ≡ length taken.word + length after = ap length taken.front.whole ∙ length-append taken.word after in
    omega (arith, taken.some)
