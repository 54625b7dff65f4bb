-- Where texts are cut, and how long runs of digits and of a word's bytes are.
use Rattle.std.proofs.Common.{◌≡◌, ◌≢◌, ℕ, ◌+◌, ◌-◌, ◌<◌, ◌≤◌, List, [], ◌∷◌, ◌++◌, Option, Some, None, Bool, true, false, append_assoc, length-append, suc, add-one, length-drop, length, get_or, drop, IsUtf8, refl, sym, ap, ◌∙◌, subst, arith, ◌==◌}
use Rattle.std.specs.Char.{is_ascii_digit}
use Rattle.std.specs.List.{prefix_len}
use Rattle.std.specs.Str.{IsCharBoundary}
use Rattle.std.proofs.lemmas.Bool.Decides.{nat_tests}
use Rattle.std.proofs.lemmas.List.{get_or-drop}
use Rattle.std.proofs.lemmas.List.Sums.{prefix_len-le-length, prefix_len_passes}
use Rattle.std.proofs.lemmas.Str.{IsCharBoundary-after_ascii, IsUtf8-drop}
use Rattle.filter_sql.specs.Tokens.{is_word_byte, is_word_start}
use Rattle.filter_sql.specs.Lexing.{unquoted_at, with_byte}

-- a text may be cut behind an ASCII byte
pub cut_behind : (text : List ℕ) (count : ℕ) → IsUtf8 text → 0 < count → count ≤ length text → get_or text (count - 1) 0 < 128 → IsCharBoundary text count
cut_behind text count utf8 some within ascii =
    let same : count - 1 + 1 ≡ count = omega arith in
    subst (IsCharBoundary text) same (IsCharBoundary-after_ascii text (count - 1) utf8 (omega arith) ascii)

pub ruleset cuts = (cut_behind)

-- ---- runs

digit_is_ascii : (b : ℕ) → is_ascii_digit b ≡ true → b < 128
digit_is_ascii b h = grind (arith, nat_tests)

word_byte_is_ascii : (b : ℕ) → is_word_byte b ≡ true → b < 128
word_byte_is_ascii b h = grind (arith, nat_tests)

-- the last byte of a run passes its test
last_passes : (p : ℕ → Bool) (text : List ℕ) (count : ℕ) → count ≡ prefix_len p text → count ≢ 0 → p (get_or text (count - 1) 0) ≡ true
last_passes p text count is some = prefix_len_passes p text (count - 1) 0 (omega arith)

pub digits_within : (text : List ℕ) (count : ℕ) → count ≡ prefix_len is_ascii_digit text → count ≤ length text
digits_within text count is = omega (arith, prefix_len-le-length is_ascii_digit text)

pub digits_end : (text : List ℕ) (count : ℕ) → count ≡ prefix_len is_ascii_digit text → count ≢ 0 → get_or text (count - 1) 0 < 128
digits_end text count is some = digit_is_ascii _ (last_passes is_ascii_digit text count is some)

pub word_within : (text : List ℕ) (count : ℕ) → count ≡ prefix_len is_word_byte text → count ≤ length text
word_within text count is = omega (arith, prefix_len-le-length is_word_byte text)

pub word_end : (text : List ℕ) (count : ℕ) → count ≡ prefix_len is_word_byte text → count ≢ 0 → get_or text (count - 1) 0 < 128
word_end text count is some = word_byte_is_ascii _ (last_passes is_word_byte text count is some)

-- ---- quotes

-- more bytes before what a quoted text holds
abbrev pub behind : List ℕ → Option (List ℕ × List ℕ) → Option (List ℕ × List ℕ)
behind front None = None
behind front (Some found) = Some (front ++ found.0, found.1)

with_byte_is : (b : ℕ) (found : Option (List ℕ × List ℕ)) → with_byte b found ≡ behind (b ∷ []) found
with_byte_is b None = refl
with_byte_is b (Some found) = refl

behind_behind : (xs ys : List ℕ) (found : Option (List ℕ × List ℕ)) → behind xs (behind ys found) ≡ behind (xs ++ ys) found
behind_behind xs ys None = refl
behind_behind xs ys (Some found) = ap (λ (l : List ℕ). Some (l, found.1)) (sym (append_assoc xs ys found.0))

-- no byte is the quote
abbrev pub Lacks : ℕ → List ℕ → Type 0
Lacks quote xs = (i : ℕ) → i < length xs → get_or xs i 0 ≢ quote

head_lacks : (quote b : ℕ) (bs : List ℕ) → Lacks quote (b ∷ bs) → (b == quote) ≡ false
head_lacks quote b bs lacks = let other : b ≢ quote = lacks 0 (omega arith) in grind (arith, nat_tests)

tail_lacks : (quote b : ℕ) (bs : List ℕ) → Lacks quote (b ∷ bs) → Lacks quote bs
tail_lacks quote b bs lacks = λ i h. lacks (suc i) (omega arith)

-- a byte that is no quote stands for itself
pub unquoted_other : (quote b : ℕ) (bs : List ℕ) → (b == quote) ≡ false → unquoted_at quote (b ∷ bs) ≡ with_byte b (unquoted_at quote bs)
unfolding unquoted_at
unquoted_other quote b [] other = rw other refl
unquoted_other quote b (c ∷ bs) other = rw other refl

-- without a quote there is no end
pub unquoted_none : (quote : ℕ) (text : List ℕ) → Lacks quote text → unquoted_at quote text ≡ None
unfolding unquoted_at
unquoted_none quote [] lacks = refl
unquoted_none quote (b ∷ bs) lacks =
    unquoted_other quote b bs (head_lacks quote b bs lacks) ∙ ap (with_byte b) (unquoted_none quote bs (tail_lacks quote b bs lacks))

same_quote : (quote : ℕ) → (quote == quote) ≡ true
same_quote quote = grind (arith, nat_tests)

-- a doubled quote stands for one
pub unquoted_doubled : (quote : ℕ) (part more : List ℕ) → Lacks quote part → unquoted_at quote (part ++ (quote ∷ quote ∷ more)) ≡ behind (part ++ quote ∷ []) (unquoted_at quote more)
unfolding unquoted_at
unquoted_doubled quote [] more lacks = rw (same_quote quote) (with_byte_is quote (unquoted_at quote more))
unquoted_doubled quote (b ∷ bs) more lacks =
    unquoted_other quote b _ (head_lacks quote b bs lacks)
    ∙ ap (with_byte b) (unquoted_doubled quote bs more (tail_lacks quote b bs lacks))
    ∙ with_byte_is b _ ∙ behind_behind (b ∷ []) (bs ++ quote ∷ []) _

-- a lone quote ends it
pub unquoted_ended : (quote : ℕ) (part after : List ℕ) → Lacks quote part → ((rest : List ℕ) → after ≢ quote ∷ rest) → unquoted_at quote (part ++ (quote ∷ after)) ≡ Some (part, after)
unfolding unquoted_at
unquoted_ended quote [] [] lacks lone = rw (same_quote quote) refl
unquoted_ended quote [] (c ∷ after) lacks lone =
    let other : c ≢ quote = λ same. lone after (ap (λ x. x ∷ after) same) in
    let differs : (c == quote) ≡ false = grind (arith, nat_tests) in
    rw (same_quote quote, differs) refl
unquoted_ended quote (b ∷ bs) after lacks lone =
    unquoted_other quote b _ (head_lacks quote b bs lacks) ∙ ap (with_byte b) (unquoted_ended quote bs after (tail_lacks quote b bs lacks) lone)

-- a doubled quote was read
pub read_doubled : (quote : ℕ) (content part after more rest read : List ℕ) (whole : Option (List ℕ × List ℕ))
    → rest ≡ part ++ (quote ∷ after) → after ≡ quote ∷ more → Lacks quote part → read ≡ (content ++ part) ++ quote ∷ []
    → behind content (unquoted_at quote rest) ≡ whole → behind read (unquoted_at quote more) ≡ whole
read_doubled quote content part after more rest read whole split twice lacks reads before =
    let found : unquoted_at quote rest ≡ behind (part ++ quote ∷ []) (unquoted_at quote more) = rw (split, twice) (unquoted_doubled quote part more lacks) in
    let joined : read ≡ content ++ (part ++ quote ∷ []) = reads ∙ append_assoc content part (quote ∷ []) in
    rw joined (sym (behind_behind content (part ++ quote ∷ []) (unquoted_at quote more)) ∙ ap (behind content) (sym found) ∙ before)

-- a lone quote was read
pub read_ended : (quote : ℕ) (content part after rest read : List ℕ) (whole : Option (List ℕ × List ℕ))
    → rest ≡ part ++ (quote ∷ after) → ((more : List ℕ) → after ≢ quote ∷ more) → Lacks quote part → read ≡ content ++ part
    → behind content (unquoted_at quote rest) ≡ whole → Some (read, after) ≡ whole
read_ended quote content part after rest read whole split lone lacks reads before =
    let found : unquoted_at quote rest ≡ Some (part, after) = rw split (unquoted_ended quote part after lacks lone) in
    rw reads (ap (behind content) (sym found) ∙ before)

-- no quote is left
pub read_none : (quote : ℕ) (content rest : List ℕ) (whole : Option (List ℕ × List ℕ)) → Lacks quote rest → behind content (unquoted_at quote rest) ≡ whole → None ≡ whole
read_none quote content rest whole lacks before = ap (behind content) (sym (unquoted_none quote rest lacks)) ∙ before

get_or-behind : (front after : List ℕ) (c : ℕ) → get_or (front ++ (c ∷ after)) (length front) 0 ≡ c
get_or-behind [] after c = refl
get_or-behind (b ∷ front) after c = get_or-behind front after c

pub drop-behind : (front after : List ℕ) (c : ℕ) → drop (suc (length front)) (front ++ (c ∷ after)) ≡ after
drop-behind [] after c = refl
drop-behind (b ∷ front) after c = drop-behind front after c

-- what follows an ASCII byte is text
pub text_after : (c : ℕ) (text front after : List ℕ) → IsUtf8 text → text ≡ front ++ (c ∷ after) → c < 128 → IsUtf8 after
text_after c text front after utf8 split ascii =
    let here : get_or text (length front) 0 ≡ c = rw split (get_or-behind front after c) in
    let size : length text ≡ length front + length (c ∷ after) = ap length split ∙ length-append front (c ∷ after) in
    let rest : drop (length front + 1) text ≡ after = rw (split, add-one) (drop-behind front after c) in
    subst IsUtf8 rest (IsUtf8-drop text (length front + 1) utf8 (IsCharBoundary-after_ascii text (length front) utf8 (omega arith) (omega arith)))

-- the first byte of a word is part of its run
pub word_some : (text : List ℕ) (count : ℕ) → count ≡ prefix_len is_word_byte text → is_word_start (get_or text 0 0) ≡ true → count ≢ 0
word_some [] count is start = λ none. cc
word_some (b ∷ bs) count is start = λ none.
    let passes : is_word_byte b ≡ true = rw start refl in
    let one : count ≡ 1 + prefix_len is_word_byte bs = is ∙ rw passes refl in
    omega arith

-- the last digit behind a dollar sign
pub parameter_end : (text : List ℕ) (count : ℕ) → count ≡ prefix_len is_ascii_digit (drop 1 text) → count ≢ 0 → get_or text (length text - length (drop count (drop 1 text)) - 1) 0 < 128
parameter_end [] count is some = absurd (some is)
parameter_end (b ∷ bs) count is some =
    let size = length-drop count bs in
    let within = digits_within bs count is in
    let place : suc (length bs) - length (drop count bs) - 1 ≡ 1 + (count - 1) = omega arith in
    rw (place, ← get_or-drop 1 (b ∷ bs) (count - 1) 0) (digits_end bs count is some)
