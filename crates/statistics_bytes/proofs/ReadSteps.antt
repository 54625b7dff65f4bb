-- What is read of an encoding, part by part, and where its bytes are wrong.
use Rattle.std.proofs.Common.{◌≡◌, inl, inr, ℕ, zero, suc, ◌+◌, ◌<◌, ◌≤◌, Bool, true, false, List, [], ◌∷◌, ◌++◌, length, length-append, drop, get_or, Option, Some, None, IfErr, Ok, Err, Result, refl, sym, ap, subst, ◌∙◌, arith}
use Rattle.std.specs.Prelude.{◌↔◌, OnOk}
use Rattle.std.proofs.Math.Nat.{suc-add, zero-add}
use Rattle.std.proofs.Math.Seq.{drop-nil}
use Rattle.std.proofs.lemmas.Bool.{false≢true}
use Rattle.std.proofs.lemmas.List.{append_assoc, drop_at, drop_more, length-drop}
use Rattle.vortex_dtype.specs.TypeTree.{TypeTree}
use Rattle.vortex_value.specs.TypesWithin.{HasNoVariant}
use Rattle.vortex_value.specs.Validity.{Valid}
use Rattle.vortex_value.specs.Values.Scalars.{IsValid, scalar_content, scalar_raw}
use Rattle.vortex_value.specs.declared.scalars.Scalar.{Scalar}
use Rattle.vortex_row.specs.Decoded.{IsDecoded, IsFirstBad, IsKeyOf}
use Rattle.vortex_row.specs.Held.{AreBytes}
use Rattle.vortex_row.specs.Keys.{key}
use Rattle.vortex_row.specs.Laws.{KeysAreApart, ValuesHaveNoTyped}
use Rattle.vortex_row.specs.declared.options.SortOptions.{SortOptions}
use Rattle.statistics_bytes.specs.Encoding.{AreOf, IsBoundOf, IsEncodingAs, IsEncodingOf, bound_bytes, count_bytes, encoding, known_count_bytes}
use Rattle.statistics_bytes.specs.EncodingAnswers.{HasValues, IsBadEncoding, IsFirstWrong, ReadsInto, ReadsRight, SayVariant, SaysBound}
use Rattle.statistics_bytes.specs.EncodingSteps.{AreBoundKeys, IsBadBound, IsBoundKey, IsBoundReadAt, IsCountsRead, IsRefusal, IsWrongStart, ascending, counts_length, either_there, flags_byte, flags_of, has_bound, is_there, state_at, state_of}
use Rattle.vortex_statistics.specs.Statistics.{Known, KnownBound, known, known_bound}
use Rattle.vortex_statistics.specs.declared.column_statistics.ColumnStatistics.{ColumnStatistics}
use Rattle.vortex_statistics.specs.declared.error.StatisticsError.{StatisticsError}
use Rattle.vortex_statistics.specs.declared.error.StatisticsError.TheVariants.{BadBytes, HasVariant, OutOfMemory, TooManyRows}
use Rattle.statistics_bytes.specs.declared.flags.BoundState.{BoundState}
use Rattle.statistics_bytes.specs.declared.flags.BoundState.TheVariants.{Missing, Inexact, Exact}
use Rattle.statistics_bytes.specs.declared.flags.Flags.{Flags}
use Rattle.statistics_bytes.proofs.FirstWrong.{after_front, where_more}
use Rattle.statistics_bytes.proofs.EncodingLaws.{read_back, reads_right}
use Rattle.statistics_bytes.proofs.HeadLaws.{IsHead, encoding-head, head_bytes}
use Rattle.statistics_bytes.proofs.KeyBounds.{after_head, after_lower, alone, key-ascending, key_from, wrong_last, wrong_lower}
use Rattle.statistics_bytes.proofs.WrongStarts.{bytes_say, cut_off, flags_say, start_says, wrong_start}

drop-drop : (m n : ℕ) (xs : List ℕ) → drop n (drop m xs) ≡ drop (m + n) xs
drop-drop zero n xs = ap (λ k. drop k xs) (sym (zero-add n))
drop-drop (suc m) n [] = drop-nil n ∙ sym (drop-nil (suc m + n))
drop-drop (suc m) n (x ∷ xs) = drop-drop m n xs ∙ ap (λ k. drop k (x ∷ xs)) (sym (suc-add m n))

pub state-there : (e : Bool) → is_there (state_at e) ≡ true
state-there true = refl
state-there false = refl

either-left : (l u : BoundState) → is_there l ≡ true → either_there l u ≡ true
either-left Missing u e = absurd (false≢true e)
either-left Inexact Missing e = refl
either-left Inexact Inexact e = refl
either-left Inexact Exact e = refl
either-left Exact Missing e = refl
either-left Exact Inexact e = refl
either-left Exact Exact e = refl

either-right : (l u : BoundState) → is_there u ≡ true → either_there l u ≡ true
either-right l Missing e = absurd (false≢true e)
either-right Missing Inexact e = refl
either-right Missing Exact e = refl
either-right Inexact Inexact e = refl
either-right Inexact Exact e = refl
either-right Exact Inexact e = refl
either-right Exact Exact e = refl

weaker : (Is : List ℕ → Type 0) (has less : Type 0) (bytes : List ℕ) (p : ℕ) → (less → has) → IsFirstWrong Is has bytes p → IsFirstWrong Is less bytes p
weaker Is has less bytes p f h = record { within = h.within; before = λ v. h.before (f v); wrong = h.wrong; none = h.none }

pub ruleset states = (state-there)

-- ---- one bound

-- the scalar of a key is valid
pub key_valid : (o : SortOptions) (t : TypeTree) (bytes : List ℕ) (x : Scalar) (n : ℕ) → IsDecoded o t bytes x n → IsValid x
key_valid o t bytes x n h = subst (λ u. Valid u (scalar_raw x)) (sym h.typed) h.begins.value.valid

-- the key of a bound was read
pub key_read : (o : SortOptions) (t : TypeTree) (exact : Bool) (x : Scalar) (bytes : List ℕ) (place n : ℕ) → o ≡ ascending → HasNoVariant t → place ≤ length bytes → IsDecoded o t (drop place bytes) x n
    → IsBoundReadAt t (state_at exact) (Some (known_bound (record { value = x; is_exact = exact }))) bytes place (place + n)
key_read o t exact x bytes place n same ordered inside given =
    let h : IsDecoded ascending t (drop place bytes) x n = subst (λ q. IsDecoded q t (drop place bytes) x n) same given in
    let k = key (scalar_content x) in
    let begins : drop place bytes ≡ k ++ h.rest = h.begins.is ∙ ap (λ ks. ks ++ h.rest) (key-ascending (scalar_content x)) in
    let count : n ≡ length k = h.count ∙ ap length (key-ascending (scalar_content x)) in
    let after : drop (place + n) bytes ≡ h.rest = sym (drop-drop place n bytes) ∙ ap (drop n) begins ∙ drop_at k h.rest n (sym count) in
    let all = ap length begins in
    record {
      within = omega (arith, length-drop place bytes, length-append k h.rest);
      after = ap (λ m. place + m) count;
      bound = record {
        of_type = record { typed = h.typed; ordered = ordered; value = scalar_raw x; is_value = h.begins.value; is = refl };
        state_is = refl;
        is = begins ∙ ap (λ ys. k ++ ys) (sym after);
      };
    }

pub no_key : (o : SortOptions) (t : TypeTree) (exact : Bool) (start : ℕ) (old : List ℕ) (place : ℕ) → o ≡ ascending → IsFirstBad (IsKeyOf o t) old place
    → IsBadBound t (state_at exact) start old (BadBytes (start + place))
no_key o t exact start old place same h = inr (place, refl, state-there exact, subst (λ q. IsFirstBad (IsKeyOf q t) old place) same h)

-- ---- the last bound

pub last_refused : (t : TypeTree) (u : BoundState) (start : ℕ) (old : List ℕ) (e : StatisticsError) → (is_there u ≡ true → HasNoVariant t) → IsBadBound t u start old e
    → IsRefusal (IsBoundKey t u) (is_there u ≡ true) (is_there u ≡ true → HasValues t) start old e
last_refused t u start old e ordered (inl memory) = inl memory
last_refused t u start old e ordered (inr h) = inr (h.0, h.1, weaker (IsBoundKey t u) (HasValues t) _ old h.0 (λ v. v h.2) (wrong_last t u old h.0 h.2 (ordered h.2) h.3))

bound_key : (t : TypeTree) (u : BoundState) (b : Option KnownBound) → IsBoundOf t b → state_of b ≡ u → IsBoundKey t u (bound_bytes b)
bound_key t u b h e = subst (λ s. IsBoundKey t s (bound_bytes b)) e (key_from t b h)

pub more_left : KeysAreApart → ValuesHaveNoTyped → (t : TypeTree) (u : BoundState) (b : Option KnownBound) (bytes : List ℕ) (place next : ℕ) → IsBoundReadAt t u b bytes place next → next < length bytes
    → IsRefusal (IsBoundKey t u) (is_there u ≡ true) (is_there u ≡ true → HasValues t) place (drop place bytes) (BadBytes next)
more_left apart untyped t u b bytes place next h some =
    let key = bound_key t u b h.bound.of_type h.bound.state_is in
    let split : drop place bytes ≡ bound_bytes b ++ get_or bytes next 0 ∷ drop (next + 1) bytes = h.bound.is ∙ ap (λ ys. bound_bytes b ++ ys) (drop_more bytes next 0 some) in
    inr (
      length (bound_bytes b),
      ap BadBytes h.after,
      subst (λ xs. IsFirstWrong (IsBoundKey t u) (is_there u ≡ true → HasValues t) xs (length (bound_bytes b))) (sym split)
          (where_more (IsBoundKey t u) _ (bound_bytes b) (get_or bytes next 0) (drop (next + 1) bytes) key (λ xs more. alone apart untyped t u (bound_bytes b) xs key more)),
    )

-- ---- both bounds

pub lower_refused : (t : TypeTree) (f : Flags) (start : ℕ) (old : List ℕ) (e : StatisticsError) → (has_bound f ≡ true → HasNoVariant t) → IsBadBound t f.lower start old e
    → IsRefusal (AreBoundKeys t f.lower f.upper) (has_bound f ≡ true) (has_bound f ≡ true → HasValues t) start old e
lower_refused t f start old e ordered (inl memory) = inl (memory.0, either-left f.lower f.upper memory.1)
lower_refused t f start old e ordered (inr h) =
    let there : has_bound f ≡ true = either-left f.lower f.upper h.2 in
    inr (h.0, h.1, weaker (AreBoundKeys t f.lower f.upper) (HasValues t) _ old h.0 (λ v. v there) (wrong_lower t f.lower f.upper old h.0 h.2 (ordered there) h.3))

pub upper_refused : KeysAreApart → ValuesHaveNoTyped → (t : TypeTree) (f : Flags) (b : Option KnownBound) (bytes : List ℕ) (place next : ℕ) (e : StatisticsError) → IsBoundReadAt t f.lower b bytes place next
    → IsRefusal (IsBoundKey t f.upper) (is_there f.upper ≡ true) (is_there f.upper ≡ true → HasValues t) next (drop next bytes) e
    → IsRefusal (AreBoundKeys t f.lower f.upper) (has_bound f ≡ true) (has_bound f ≡ true → HasValues t) place (drop place bytes) e
upper_refused apart untyped t f b bytes place next e h (inl memory) = inl (memory.0, either-right f.lower f.upper memory.1)
upper_refused apart untyped t f b bytes place next e h (inr w) =
    let front = bound_bytes b in
    let last : IsFirstWrong (IsBoundKey t f.upper) (has_bound f ≡ true → HasValues t) (drop next bytes) w.0 = weaker (IsBoundKey t f.upper) _ _ (drop next bytes) w.0 (λ v i. v (either-right f.lower f.upper i)) w.2 in
    let step = after_lower apart untyped t f.lower f.upper front (bound_key t f.lower b h.bound.of_type h.bound.state_is) in
    let all = after_front (AreBoundKeys t f.lower f.upper) (IsBoundKey t f.upper) _ front (drop next bytes) w.0 step last in
    let from : next + w.0 ≡ place + (length front + w.0) = omega (arith, h.after) in
    inr (length front + w.0, w.1 ∙ ap BadBytes from, subst (λ xs. IsFirstWrong (AreBoundKeys t f.lower f.upper) (has_bound f ≡ true → HasValues t) xs (length front + w.0)) (sym h.bound.is) all)

-- ---- the whole encoding

pub start_refused : (t : TypeTree) (bytes : List ℕ) (e : StatisticsError) → (place : ℕ) × (e ≡ BadBytes place) × IsWrongStart bytes place → IsBadEncoding t bytes e
start_refused t bytes e h = subst (IsBadEncoding t bytes) (sym h.1) (λ v. start_says bytes h.0 h.2 v.1, wrong_start t _ bytes h.0 h.2)

-- no variant stands in a type, if flags that say a bound show that
no_variant_said : (t : TypeTree) (bytes : List ℕ) (f : Flags) → (rest : List ℕ) × (bytes ≡ 1 ∷ flags_byte f ∷ rest) → (has_bound f ≡ true → HasNoVariant t) → ¬ (SayVariant t bytes)
no_variant_said t bytes f start ordered v = v.0 (ordered (flags_say f bytes start.0 start.1 v.1))

pub variant_refused : (t : TypeTree) (bytes : List ℕ) (f : Flags) (e : StatisticsError) → (rest : List ℕ) × (bytes ≡ 1 ∷ flags_byte f ∷ rest) → e ≡ HasVariant → has_bound f ≡ true → ¬ (HasNoVariant t) → IsBadEncoding t bytes e
variant_refused t bytes f e start is some not = subst (IsBadEncoding t bytes) (sym is) (not, subst SaysBound (sym start.1) (bytes_say f start.0 some))

pub counts_refused : (t : TypeTree) (bytes : List ℕ) (f : Flags) (e : StatisticsError) → AreBytes bytes → (rest : List ℕ) × (bytes ≡ 1 ∷ flags_byte f ∷ rest) → (has_bound f ≡ true → HasNoVariant t)
    → e ≡ BadBytes (length bytes) → length bytes < 2 + counts_length f.has_null_count → IsBadEncoding t bytes e
counts_refused t bytes f e small start ordered is short =
    let rest = start.0 in
    let less : AreBytes (1 ∷ flags_byte f ∷ rest) = subst AreBytes start.1 small in
    let count = ap length start.1 in
    let Wrong : List ℕ → Type 0 = λ xs. IsFirstWrong (IsEncodingOf t) (SaysBound xs → HasValues t) xs (length xs) in
    subst (IsBadEncoding t bytes) (sym is) (no_variant_said t bytes f start ordered, subst Wrong (sym start.1) (cut_off t f rest (λ k. less (suc (suc k))) (omega arith) ordered))

pub bounds_refused : (t : TypeTree) (bytes : List ℕ) (f : Flags) (rows : ℕ) (nulls : Option ℕ) (end : ℕ) (e : StatisticsError) → (rest : List ℕ) × (bytes ≡ 1 ∷ flags_byte f ∷ rest) → (has_bound f ≡ true → HasNoVariant t)
    → IsCountsRead f.has_null_count rows nulls (drop 2 bytes) (drop end bytes) → end ≤ length bytes → IsRefusal (AreBoundKeys t f.lower f.upper) (has_bound f ≡ true) (has_bound f ≡ true → HasValues t) end (drop end bytes) e
    → IsBadEncoding t bytes e
bounds_refused t bytes f rows nulls end e start ordered counts inside (inl memory) =
    subst (IsBadEncoding t bytes) (sym memory.0) (no_variant_said t bytes f start ordered, subst SaysBound (sym start.1) (bytes_say f start.0 memory.1))
bounds_refused t bytes f rows nulls end e start ordered counts inside (inr w) =
    let front = head_bytes f rows nulls in
    let after : start.0 ≡ count_bytes rows ++ (known_count_bytes nulls ++ drop end bytes) = ap (drop 2) (sym start.1) ∙ counts.is in
    let whole : bytes ≡ front ++ drop end bytes =
    start.1 ∙ ap (λ xs. 1 ∷ flags_byte f ∷ xs) (after ∙ sym (append_assoc (count_bytes rows) (known_count_bytes nulls) (drop end bytes))) in
    let all = ap length whole in
    let place : end ≡ length front = omega (arith, length-append front (drop end bytes), length-drop end bytes) in
    let says : has_bound f ≡ true → SaysBound bytes = λ some. subst SaysBound (sym start.1) (bytes_say f start.0 some) in
    let head : IsHead f rows nulls = record { rows_fit = counts.rows_fit; nulls_fit = counts.nulls_fit; known = counts.known } in
    let last : IsFirstWrong (AreBoundKeys t f.lower f.upper) (SaysBound bytes → HasValues t) (drop end bytes) w.0 = weaker (AreBoundKeys t f.lower f.upper) _ _ (drop end bytes) w.0 (λ v some. v (says some)) w.2 in
    let wrong = after_front (IsEncodingOf t) (AreBoundKeys t f.lower f.upper) (SaysBound bytes → HasValues t) front (drop end bytes) w.0 (after_head t f rows nulls head) last in
    let from : end + w.0 ≡ length front + w.0 = omega arith in
    subst (IsBadEncoding t bytes) (sym (w.1 ∙ ap BadBytes from))
    (no_variant_said t bytes f start ordered, subst (λ xs. IsFirstWrong (IsEncodingOf t) (SaysBound bytes → HasValues t) xs (length front + w.0)) (sym whole) wrong)

-- ---- what is read

ordered_in : (t : TypeTree) (a b : Option KnownBound) → IsBoundOf t a → IsBoundOf t b → either_there (state_of a) (state_of b) ≡ true → HasNoVariant t
ordered_in t None None g h e = absurd (false≢true e)
ordered_in t None (Some b) g h e = h.ordered
ordered_in t (Some a) b g h e = g.ordered

-- the encoding of statistics of a type says no bound with a variant
keyed : (t : TypeTree) (bytes : List ℕ) (s : Known) → IsEncodingAs t bytes s → ¬ (SayVariant t bytes)
keyed t bytes s h v = v.0 (ordered_in t s.lower s.upper h.0.lower h.0.upper (flags_say (flags_of s) bytes _ (h.1 ∙ encoding-head s) v.1))

pub reads_into : KeysAreApart → ValuesHaveNoTyped → (t : TypeTree) (bytes : List ℕ) (x : ColumnStatistics) (r : Result Unit StatisticsError) → OnOk r (IsEncodingAs t bytes (known x)) → IfErr r (IsBadEncoding t bytes)
    → (s : Known) → AreOf t s → bytes ≡ encoding s → ReadsInto s (known x) r
reads_into apart untyped t bytes x (Ok u) h g s of is = read_back apart untyped t (known x) s h.0 of (sym h.1 ∙ is)
reads_into apart untyped t bytes x (Err HasVariant) h v s of is = absurd (keyed t bytes s (of, is) v)
reads_into apart untyped t bytes x (Err OutOfMemory) h w s of is = refl
reads_into apart untyped t bytes x (Err TooManyRows) h w s of is = absurd w
reads_into apart untyped t bytes x (Err (BadBytes place)) h w s of is = absurd (w.1.none (record { statistics = s; of_type = of; is = is }))

pub right_into : KeysAreApart → ValuesHaveNoTyped → (t : TypeTree) (bytes : List ℕ) (x : ColumnStatistics) (r : Result Unit StatisticsError) → OnOk r (IsEncodingAs t bytes (known x)) → OnOk r (ReadsRight t bytes (known x))
right_into apart untyped t bytes x (Ok u) h = reads_right apart untyped t bytes (known x) h.0 h.1
right_into apart untyped t bytes x (Err e) h = tt

-- a refusal that is passed on

abbrev not_given : StatisticsError → Result ColumnStatistics StatisticsError
not_given e = Err e

abbrev not_read : StatisticsError → Result Unit StatisticsError
not_read e = Err e

same_given : (e f : StatisticsError) → not_given e ≡ not_given f → e ≡ f
same_given e f h = cc

same_read : (e f : StatisticsError) → not_read e ≡ not_read f → e ≡ f
same_read e f h = cc

pub passed_on : (e f : StatisticsError) (Cause : Type 0) → (not_read e ≡ not_read f) ↔ Cause → (not_given e ≡ not_given f) ↔ Cause
passed_on e f Cause h = (λ is. h.0 (ap not_read (same_given e f is)), λ cause. ap not_given (same_read e f (h.1 cause)))

-- a refusal for a variant is told exactly where it stands

abbrev was_read : Unit {0} → Result (Unit {0}) StatisticsError
was_read u = Ok u

read_or_not : (u : Unit {0}) (e : StatisticsError) → was_read u ≡ not_read e → ⊥
read_or_not u e h = cc

memory_or_variant : not_read OutOfMemory ≡ not_read HasVariant → ⊥
memory_or_variant e = cc

bytes_or_variant : (place : ℕ) → not_read (BadBytes place) ≡ not_read HasVariant → ⊥
bytes_or_variant place e = cc

pub variant_told : (t : TypeTree) (bytes : List ℕ) (x : ColumnStatistics) (r : Result Unit StatisticsError) → OnOk r (IsEncodingAs t bytes (known x)) → IfErr r (IsBadEncoding t bytes) → (r ≡ not_read HasVariant) ↔ SayVariant t bytes
variant_told t bytes x (Ok u) h g = (λ e. absurd (read_or_not u HasVariant e), λ v. absurd (keyed t bytes (known x) h v))
variant_told t bytes x (Err HasVariant) h v = (λ e. v, λ w. refl)
variant_told t bytes x (Err OutOfMemory) h w = (λ e. absurd (memory_or_variant e), λ v. absurd (w.0 v))
variant_told t bytes x (Err TooManyRows) h w = absurd w
variant_told t bytes x (Err (BadBytes place)) h w = (λ e. absurd (bytes_or_variant place e), λ v. absurd (w.0 v))
