-- What is guessed for words, and that each word is a value of it.
use Rattle.std.proofs.Common.{◌≡◌, inl, inr, ℕ, ◌+◌, ◌^◌, ◌≤◌, ◌==◌, ◌&&◌, ℤ, Bool, true, false, max, cond, nat_le, nat_lt, List, [], ◌∷◌, ◌++◌, Option, Some, None, length, refl, sym, ap, subst, ◌∙◌, arith}
use Rattle.std.proofs.lemmas.Bool.{and_from, and_parts, cases_Bool, cond-false, cond-true, false≢true, leb-true, lt-ltb}
use Rattle.std.proofs.lemmas.Bool.Decides.{nat_tests}
use Rattle.std.proofs.lemmas.List.{length-append}
use Rattle.std.proofs.lemmas.List.Elements.{All-weaker}
use Rattle.std.proofs.lemmas.List.Folds.{list_all-append}
use Rattle.std.proofs.lemmas.List.Sums.{AllPass-from_list_all}
use Rattle.std.proofs.lemmas.Option.{none-some, same_Some}
use Rattle.std.specs.Prelude.{All, IfNone, IfSome, is_some, option_map, ◌↔◌}
use Rattle.std.specs.List.{find, list_all}
use Rattle.std.specs.Option.{option_and_then, option_or}
use Rattle.std.specs.Str.Parse.{signed_digits_value}
use Rattle.logical_types.specs.Decimals.{decimal_value}
use Rattle.logical_types.specs.Shapes.{Shape, days, decimals, shape_of, storage_in}
use Rattle.logical_types.specs.Words.{Writes}
use Rattle.logical_types.specs.declared.logical.LogicalType.{LogicalType}
use Rattle.record_rows.specs.Cells.{HasMeaning, stored_content}
use Rattle.record_rows.specs.declared.schema.Kind.{Kind}
use Rattle.record_rows.specs.declared.schema.Kind.TheVariants as kinds
use Rattle.vortex_value.specs.Values.Content.{whole}
use Rattle.vortex_dtype.specs.declared.ptype.PType.{PType}
use Rattle.vortex_dtype.specs.declared.ptype.PType.TheVariants.{I64, U64}
use Rattle.csv_columns.specs.Kinds.{Guessed, IsGuessed, Sees, all_write, decimals_for, digits_of, guess_of, integers, is_integer, is_plain, is_texts, logical, logical_for, logical_or_texts, most, place_count, precision_for, texts, timestamp_types, whole_count}
use Rattle.csv_columns.specs.declared.kinds.Digits.{Digits}
use Rattle.csv_columns.specs.declared.kinds.Guess.{Guess}
use Rattle.csv_columns.proofs.PlainNumbers.{is_integer_word, plain_reads}

-- the law of words: what a word writes, as a function
abbrev pub WordsSay : Type 0
WordsSay = (l : LogicalType) (word : List ℕ) (z : ℤ) → (storage_in (shape_of l) word ≡ Some z) ↔ Writes l word z

no_value : (o : Option ℤ) → ((z : ℤ) → o ≡ Some z → ⊥) → false ≡ is_some o
no_value None h = refl
no_value (Some z) h = absurd (h z refl)

-- a word that has a storage writes a value
pub written_is : (l : LogicalType) (word : List ℕ) (r : Option ℤ) → IfSome r (λ z. Writes l word z) → IfNone r ((z : ℤ) → ¬ (Writes l word z)) → WordsSay → is_some r ≡ is_some (storage_in (shape_of l) word)
written_is l word None some none say = no_value (storage_in (shape_of l) word) (λ z e. none z ((say l word z).0 e))
written_is l word (Some z) some none say = sym (ap is_some ((say l word z).1 some))

-- ---- one word more

pub all_more : {X : Type 0} → (p : X → Bool) (xs : List X) (x : X) (b t : Bool) → b ≡ list_all p xs → t ≡ p x → (b && t) ≡ list_all p (xs ++ x ∷ [])
all_more p xs x b t e f =
    ap (λ (z : Bool). z && t) e ∙ ap (λ (z : Bool). list_all p xs && z) f ∙ tail (list_all p xs) (p x) ∙ sym (list_all-append p xs (x ∷ []))
  where
    tail : (a c : Bool) → (a && c) ≡ (a && (c && true))
    tail a true = refl
    tail a false = refl

pub some_more : (words : List (List ℕ)) (word : List ℕ) → true ≡ nat_lt 0 (length (words ++ word ∷ []))
some_more words word = sym (lt-ltb 0 (length (words ++ word ∷ [])) (let e = length-append words (word ∷ []) in omega arith))

most_more : (count : List ℕ → ℕ) (words : List (List ℕ)) (word : List ℕ) → most count (words ++ word ∷ []) ≡ max (most count words) (count word)
most_more count [] word = omega arith
most_more count (w ∷ ws) word = let e = most_more count ws word in omega arith

abbrev pub so_many : ℕ → ℕ → Digits
so_many n m = record { whole = n; places = m }

-- so many digits hold these words
abbrev room : List (List ℕ) → Digits
room words = so_many (max 1 (most whole_count words)) (most place_count words)

digits_there : (words : List (List ℕ)) → list_all is_plain words ≡ true → digits_of words ≡ Some (room words)
digits_there words all = cond-true (list_all is_plain words) (Some (room words)) None all

digits_lack : (words : List (List ℕ)) → list_all is_plain words ≡ false → digits_of words ≡ None
digits_lack words other = cond-false (list_all is_plain words) (Some (room words)) None other

pub same_digits : (a b c d : ℕ) → a ≡ c → b ≡ d → Some (so_many a b) ≡ Some (so_many c d)
same_digits a b c d p q = ap (λ (x : ℕ). Some (so_many x b)) p ∙ ap (λ (x : ℕ). Some (so_many c x)) q

-- the digits of the longest with those of one more
pub digits_more : (words : List (List ℕ)) (word : List ℕ) (d : Digits) → Some d ≡ digits_of words → is_plain word ≡ true
    → Some (record { whole = max d.whole (whole_count word); places = max d.places (place_count word) }) ≡ digits_of (words ++ word ∷ [])
digits_more words word d before plain = elim (cases_Bool (list_all is_plain words)) [
  | inl all ↦
      let same : d ≡ room words = same_Some d (room words) (before ∙ digits_there words all) in
      let more : list_all is_plain (words ++ word ∷ []) ≡ true = sym (all_more is_plain words word true true (sym all) (sym plain)) in
      ap (λ (x : Digits). Some (so_many (max x.whole (whole_count word)) (max x.places (place_count word)))) same
      ∙ same_digits _ _ _ _ (let e = most_more whole_count words word in omega arith) (sym (most_more place_count words word))
      ∙ sym (digits_there (words ++ word ∷ []) more)
  | inr other ↦ absurd (none-some d (sym (digits_lack words other) ∙ sym before))
]

pub no_digits_before : (words : List (List ℕ)) (word : List ℕ) → None ≡ digits_of words → None ≡ digits_of (words ++ word ∷ [])
no_digits_before words word before = elim (cases_Bool (list_all is_plain words)) [
  | inl all ↦ absurd (none-some (room words) (before ∙ digits_there words all))
  | inr other ↦ sym (digits_lack (words ++ word ∷ []) (sym (all_more is_plain words word false (is_plain word) (sym other) refl)))
]

pub no_digits_in : (words : List (List ℕ)) (word : List ℕ) → is_plain word ≡ false → None ≡ digits_of (words ++ word ∷ [])
no_digits_in words word other =
    sym (digits_lack (words ++ word ∷ []) (sym (all_more is_plain words word (list_all is_plain words) false refl (sym other)) ∙ last (list_all is_plain words)))
  where
    last : (b : Bool) → (b && false) ≡ false
    last true = refl
    last false = refl

-- ---- each word is a value of what is guessed

pub integers_fit : (ptype : PType) (words : List (List ℕ)) → list_all (is_integer ptype) words ≡ true → All (HasMeaning (kinds.Integer ptype)) words
integers_fit ptype words all =
    All-weaker (λ w. is_integer ptype w ≡ true) (HasMeaning (kinds.Integer ptype)) (λ w e. (whole (signed_digits_value 10 w), (signed_digits_value 10 w, is_integer_word ptype w e, refl))) words (AllPass-from_list_all (is_integer ptype) words all)

value_of : (o : Option ℤ) → is_some o ≡ true → (z : ℤ) × (o ≡ Some z)
value_of None h = absurd (false≢true h)
value_of (Some z) h = (z, refl)

writes_fit : WordsSay → (l : LogicalType) (words : List (List ℕ)) → all_write words (shape_of l) ≡ true → All (HasMeaning (kinds.Logical l)) words
writes_fit say l words all =
    All-weaker (λ w. is_some (storage_in (shape_of l) w) ≡ true) (HasMeaning (kinds.Logical l))
    (λ w e. let v = value_of (storage_in (shape_of l) w) e in (stored_content l v.0, (v.0, (say l w v.0).0 v.1, refl))) words
    (AllPass-from_list_all (λ w. is_some (storage_in (shape_of l) w)) words all)

-- decimals with room for each digit
decimals_hold : (words : List (List ℕ)) (precision places : ℕ) → list_all is_plain words ≡ true → most whole_count words + places ≤ precision → most place_count words ≤ places → all_write words (decimals precision places) ≡ true
unfolding storage_in
decimals_hold [] precision places plain room few = refl
decimals_hold (w ∷ ws) precision places plain room few =
    let both = and_parts _ _ plain in
    and_from (is_some (decimal_value (10 ^ precision) places w)) (all_write ws (decimals precision places))
    (plain_reads w places precision both.0 (omega arith) (omega arith)) (decimals_hold ws precision places both.1 (omega arith) (omega arith))

precision_holds : (count p : ℕ) → precision_for count ≡ Some p → count ≤ p
precision_holds count p h = elim (cases_Bool (nat_le count 18)) [
  | inl few ↦
      let same : 18 ≡ p = same_Some 18 p (sym (cond-true (nat_le count 18) (Some 18) (cond (nat_le count 38) (Some 38) None) few) ∙ h) in
      let l = leb-true count 18 few in
      omega arith
  | inr more ↦
      let rest : cond (nat_le count 38) (Some 38) None ≡ Some p = sym (cond-false (nat_le count 18) (Some 18) (cond (nat_le count 38) (Some 38) None) more) ∙ h in
      elim (cases_Bool (nat_le count 38)) [
        | inl few ↦
            let same : 38 ≡ p = same_Some 38 p (sym (cond-true (nat_le count 38) (Some 38) None few) ∙ rest) in
            let l = leb-true count 38 few in
            omega arith
        | inr many ↦ absurd (none-some p (sym (cond-false (nat_le count 38) (Some 38) None many) ∙ rest))
      ]
]

decimals_write : (words : List (List ℕ)) (s : Shape) → option_and_then decimals_for (digits_of words) ≡ Some s → all_write words s ≡ true
decimals_write words s h = elim (cases_Bool (list_all is_plain words)) [
  | inl all ↦
      let is : decimals_for (room words) ≡ Some s = sym (ap (option_and_then decimals_for) (digits_there words all)) ∙ h in
      let p = precision_in (precision_for ((room words).whole + (room words).places)) (room words).places s is in
      let l : max 1 (most whole_count words) + most place_count words ≤ p.0 = precision_holds _ p.0 p.1 in
      subst (λ (x : Shape). all_write words x ≡ true) p.2 (decimals_hold words p.0 (room words).places all (omega arith) (omega arith))
  | inr other ↦ absurd (none-some s (sym (ap (option_and_then decimals_for) (digits_lack words other)) ∙ h))
]
  where
    precision_in : (o : Option ℕ) (places : ℕ) (x : Shape) → option_map (λ precision. decimals precision places) o ≡ Some x → (p : ℕ) × (o ≡ Some p) × (decimals p places ≡ x)
    precision_in None places x e = absurd (none-some x e)
    precision_in (Some p) places x e = (p, refl, same_Some (decimals p places) x e)

found_passes : {X : Type 0} → (p : X → Bool) (xs : List X) (x : X) → find p xs ≡ Some x → p x ≡ true
found_passes p [] x h = absurd (none-some x h)
found_passes p (y ∷ ys) x h = elim (cases_Bool (p y)) [
  | inl e ↦ let same : y ≡ x = same_Some y x (sym (cond-true (p y) (Some y) (find p ys) e) ∙ h) in subst (λ z. p z ≡ true) same e
  | inr e ↦ found_passes p ys x (sym (cond-false (p y) (Some y) (find p ys) e) ∙ h)
]

-- all words write values of the type that is guessed
pub logical_writes : (words : List (List ℕ)) (s : Shape) → logical_for words ≡ Some s → all_write words s ≡ true
logical_writes words s h = first (option_and_then decimals_for (digits_of words)) refl
  where
    first : (o : Option Shape) → option_and_then decimals_for (digits_of words) ≡ o → all_write words s ≡ true
    first (Some t) e = decimals_write words s (e ∙ (sym (ap (λ (x : Option Shape). option_or x (find (all_write words) (days ∷ timestamp_types))) e) ∙ h))
    first None e = found_passes (all_write words) (days ∷ timestamp_types) s (sym (ap (λ (x : Option Shape). option_or x (find (all_write words) (days ∷ timestamp_types))) e) ∙ h)

pub logical_fit : WordsSay → (l : LogicalType) (words : List (List ℕ)) → Some (shape_of l) ≡ logical_for words → All (HasMeaning (kinds.Logical l)) words
logical_fit say l words h = writes_fit say l words (logical_writes words (shape_of l) (sym h))

-- ---- the guess

none_seen : (words : List (List ℕ)) → false ≡ nat_lt 0 (length words) → (length words == 0) ≡ true
none_seen words h = grind (arith, nat_tests)

some_seen : (words : List (List ℕ)) → true ≡ nat_lt 0 (length words) → (length words == 0) ≡ false
some_seen words h = grind (arith, nat_tests)

pub guess_unseen : (g : Guess) (words : List (List ℕ)) → Sees g words → g.is_seen ≡ false → guess_of words ≡ texts
guess_unseen g words sees out = rw (none_seen words (sym out ∙ sees.some)) refl

pub guess_signed : (g : Guess) (words : List (List ℕ)) → Sees g words → g.is_seen ≡ true → g.fits_signed ≡ true → guess_of words ≡ integers I64
guess_signed g words sees some fit = rw (some_seen words (sym some ∙ sees.some), sym sees.signed ∙ fit) refl

pub guess_unsigned : (g : Guess) (words : List (List ℕ)) → Sees g words → g.is_seen ≡ true → g.fits_signed ≡ false → g.fits_unsigned ≡ true → guess_of words ≡ integers U64
guess_unsigned g words sees some out fit = rw (some_seen words (sym some ∙ sees.some), sym sees.signed ∙ out, sym sees.unsigned ∙ fit) refl

pub guess_logical : (g : Guess) (words : List (List ℕ)) → Sees g words → g.is_seen ≡ true → g.fits_signed ≡ false → g.fits_unsigned ≡ false → guess_of words ≡ logical_or_texts (logical_for words)
guess_logical g words sees some out none = rw (some_seen words (sym some ∙ sees.some), sym sees.signed ∙ out, sym sees.unsigned ∙ none) refl

-- ---- the logical type

pub decimals_first : (words : List (List ℕ)) (o : Option Digits) (s : Shape) → o ≡ digits_of words → Some s ≡ option_and_then decimals_for o → Some s ≡ logical_for words
decimals_first words o s is held =
    ap (λ (x : Option Shape). option_or x (find (all_write words) (days ∷ timestamp_types))) (held ∙ ap (option_and_then decimals_for) is)

pub others_then : (words : List (List ℕ)) (o : Option Digits) → o ≡ digits_of words → None ≡ option_and_then decimals_for o → find (all_write words) (days ∷ timestamp_types) ≡ logical_for words
others_then words o is held =
    ap (λ (x : Option Shape). option_or x (find (all_write words) (days ∷ timestamp_types))) (held ∙ ap (option_and_then decimals_for) is)

pub days_first : (words : List (List ℕ)) → all_write words days ≡ true → Some days ≡ find (all_write words) (days ∷ timestamp_types)
days_first words all = sym (cond-true (all_write words days) (Some days) (find (all_write words) timestamp_types) all)

pub timestamps_then : (words : List (List ℕ)) → all_write words days ≡ false → find (all_write words) timestamp_types ≡ find (all_write words) (days ∷ timestamp_types)
timestamps_then words other = sym (cond-false (all_write words days) (Some days) (find (all_write words) timestamp_types) other)

pub texts_are : (g : Guessed) → IsGuessed g kinds.Utf8 → true ≡ is_texts g
texts_are texts is = refl
texts_are (integers p) is = absurd (let e : kinds.Utf8 ≡ kinds.Integer p = is in cc)
texts_are (logical s) is = absurd (let e : kinds.Utf8 ≡ kinds.Logical is.0 = is.1 in cc)

pub others_are : (g : Guessed) (k : Kind) → (k ≡ kinds.Utf8 → ⊥) → IsGuessed g k → false ≡ is_texts g
others_are texts k other is = absurd (other is)
others_are (integers p) k other is = refl
others_are (logical s) k other is = refl
