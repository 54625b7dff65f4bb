-- Bytes that are wrong before the bounds: the version, the flags, or counts that end too early.
use Rattle.std.proofs.Common.{◌≡◌, ◌⊎◌, inl, inr, ℕ, zero, suc, ◌+◌, ◌-◌, ◌<◌, ◌^◌, Bool, true, false, List, [], ◌∷◌, ◌++◌, length, length-append, take, drop, Option, Some, None, IfSome, is_some, refl, sym, ap, ap₂, subst, ◌∙◌, arith}
use Rattle.std.proofs.Math.Seq.{take-length}
use Rattle.std.proofs.lemmas.Bool.{false≢true}
use Rattle.std.proofs.lemmas.List.{append-nil, append_assoc, length-drop, length-take-le, take-append-drop}
use Rattle.vortex_dtype.specs.TypeTree.{TypeTree, null_type}
use Rattle.vortex_value.specs.TypesWithin.{HasNoVariant}
use Rattle.vortex_value.specs.Values.Content.{content, null}
use Rattle.vortex_row.specs.Columns.{key_with}
use Rattle.vortex_row.specs.Held.{AreBytes}
use Rattle.statistics_bytes.specs.Encoding.{IsEncodingOf, bound_bytes, count_bytes, flags, encoding, known_count_bytes}
use Rattle.statistics_bytes.specs.EncodingAnswers.{HasValues, IsFirstWrong, MayGoOn, SaysBound}
use Rattle.statistics_bytes.specs.EncodingSteps.{AreBoundKeys, IsKeyIn, IsWrongStart, ascending, counts_length, either_there, flags_byte, flags_of, has_bound, state_at, state_of}
use Rattle.vortex_statistics.specs.Merging.{nothing}
use Rattle.vortex_statistics.specs.Statistics.{Known, KnownBound}
use Rattle.statistics_bytes.specs.declared.flags.BoundState.{BoundState}
use Rattle.statistics_bytes.specs.declared.flags.BoundState.TheVariants.{Missing, Inexact, Exact}
use Rattle.statistics_bytes.specs.declared.flags.Flags.{Flags}
use Rattle.statistics_bytes.proofs.CountBytes.{big_endian-length, some_count}
use Rattle.statistics_bytes.proofs.FlagLaws.{flags-apart, flags-byte}
use Rattle.statistics_bytes.proofs.HeadLaws.{IsHead, first-apart, encoding-head}
use Rattle.statistics_bytes.proofs.KeyBounds.{after_head, some_key}

-- ---- the version and the flags

no_rows : (t : TypeTree) → IsEncodingOf t (encoding nothing)
no_rows t = record { statistics = nothing; of_type = record { rows = omega arith; nulls = omega arith; lower = tt; upper = tt }; is = refl }

pub wrong_start : (t : TypeTree) (has : Type 0) (bytes : List ℕ) (place : ℕ) → IsWrongStart bytes place → IsFirstWrong (IsEncodingOf t) has bytes place
wrong_start t has bytes place (inl h) = subst (IsFirstWrong (IsEncodingOf t) has bytes) (sym h.0) (at bytes h.1)
  where
    at : (bs : List ℕ) → ((rest : List ℕ) → bs ≡ 1 ∷ rest → ⊥) → IsFirstWrong (IsEncodingOf t) has bs 0
    at [] none = record {
      within = omega arith;
      before = λ v. record { more = encoding nothing; is_one = no_rows t };
      wrong = λ l. absurd (omega arith);
      none = λ one. absurd (cc (one.is));
    }
    at (b ∷ bs) none = record {
      within = omega arith;
      before = λ v. record { more = encoding nothing; is_one = no_rows t };
      wrong = λ l go. let e : b ≡ 1 = (let f = go.is_one.is in cc) in none bs (ap (λ c. c ∷ bs) e);
      none = λ one. let e : b ≡ 1 = (let f = one.is in cc) in none bs (ap (λ c. c ∷ bs) e);
    }
wrong_start t has bytes place (inr h) =
    subst (λ bs. IsFirstWrong (IsEncodingOf t) has bs place) (sym h.1.1) (subst (IsFirstWrong (IsEncodingOf t) has (1 ∷ h.1.0)) (sym h.0) (at h.1.0 h.1.2))
  where
    with_flags : (b : ℕ) (bs more : List ℕ) (s : Known) → ((f : Flags) (rest : List ℕ) → b ∷ bs ≡ flags_byte f ∷ rest → ⊥) → 1 ∷ b ∷ more ≡ encoding s → ⊥
    with_flags b bs more s none e =
        let w = first-apart b (flags_byte (flags_of s)) more ((count_bytes s.row_count ++ known_count_bytes s.null_count) ++ (bound_bytes s.lower ++ bound_bytes s.upper)) (e ∙ encoding-head s) in
        none (flags_of s) bs (ap (λ c. c ∷ bs) w.0)

    at : (rest : List ℕ) → ((f : Flags) (more : List ℕ) → rest ≡ flags_byte f ∷ more → ⊥) → IsFirstWrong (IsEncodingOf t) has (1 ∷ rest) 1
    at [] none = record {
      within = omega arith;
      before = λ v. record { more = drop 1 (encoding nothing); is_one = no_rows t };
      wrong = λ l. absurd (omega arith);
      none = λ one. absurd (cc (one.is));
    }
    at (b ∷ bs) none = record {
      within = omega arith;
      before = λ v. record { more = drop 1 (encoding nothing); is_one = no_rows t };
      wrong = λ l go. with_flags b bs go.more go.is_one.statistics none go.is_one.is;
      none = λ one. with_flags b bs bs one.statistics none one.is;
    }

-- ---- bounds that the flags say

said_by : (a b : Option KnownBound) → (is_some a ≡ true) ⊎ (is_some b ≡ true) → either_there (state_of a) (state_of b) ≡ true
said_by None None (inl e) = absurd (false≢true e)
said_by None None (inr e) = absurd (false≢true e)
said_by None (Some b) h = by_test b.is_exact
  where
    by_test : (e : Bool) → either_there Missing (state_at e) ≡ true
    by_test true = refl
    by_test false = refl
said_by (Some a) b h = by_test a.is_exact (state_of b)
  where
    by_test : (e : Bool) (u : BoundState) → either_there (state_at e) u ≡ true
    by_test true Missing = refl
    by_test true Inexact = refl
    by_test true Exact = refl
    by_test false Missing = refl
    by_test false Inexact = refl
    by_test false Exact = refl

-- bytes that say a bound have flags that do
pub flags_say : (f : Flags) (bytes rest : List ℕ) → bytes ≡ 1 ∷ flags_byte f ∷ rest → SaysBound bytes → has_bound f ≡ true
flags_say f bytes rest e h =
    let w = first-apart (flags_byte f) (flags h.statistics) rest h.rest (sym e ∙ h.is) in
    let same : f ≡ flags_of h.statistics = flags-apart f (flags_of h.statistics) (w.0 ∙ flags-byte h.statistics) in
    ap has_bound same ∙ said_by h.statistics.lower h.statistics.upper h.bound

-- bytes with a wrong start say none
pub start_says : (bytes : List ℕ) (place : ℕ) → IsWrongStart bytes place → ¬ (SaysBound bytes)
start_says bytes place (inl h) says = h.1 (flags says.statistics ∷ says.rest) says.is
start_says bytes place (inr h) says =
    let e : 1 ∷ h.1.0 ≡ 1 ∷ flags says.statistics ∷ says.rest = sym h.1.1 ∙ says.is in
    let rest : h.1.0 ≡ flags says.statistics ∷ says.rest = cc in
    h.1.2 (flags_of says.statistics) says.rest (rest ∙ ap (λ b. b ∷ says.rest) (flags-byte says.statistics))

some_bound : (l : BoundState) → (b : Option KnownBound) × (state_of b ≡ l)
some_bound Missing = (None, refl)
some_bound Inexact = (Some (record { value = record { typed = null_type; content = null }; is_exact = false }), refl)
some_bound Exact = (Some (record { value = record { typed = null_type; content = null }; is_exact = true }), refl)

some_nulls : (b : Bool) → (n : Option ℕ) × (is_some n ≡ b)
some_nulls true = (Some 0, refl)
some_nulls false = (None, refl)

there_if : (a b : Option KnownBound) → either_there (state_of a) (state_of b) ≡ true → (is_some a ≡ true) ⊎ (is_some b ≡ true)
there_if None None e = absurd (false≢true e)
there_if None (Some b) e = inr refl
there_if (Some a) b e = inl refl

-- flags that say a bound do so in bytes
pub bytes_say : (f : Flags) (rest : List ℕ) → has_bound f ≡ true → SaysBound (1 ∷ flags_byte f ∷ rest)
bytes_say f rest h =
    let l = some_bound f.lower in
    let u = some_bound f.upper in
    let n = some_nulls f.has_null_count in
    let s : Known = record { row_count = 0; null_count = n.0; lower = l.0; upper = u.0 } in
    let made : Bool → BoundState → BoundState → Flags = λ n l u. record { has_null_count = n; lower = l; upper = u } in
    let same : flags_of s ≡ f = ap (λ x. made x (state_of l.0) (state_of u.0)) n.1 ∙ ap (λ x. made f.has_null_count x (state_of u.0)) l.1 ∙ ap (λ x. made f.has_null_count f.lower x) u.1 in
    record {
      statistics = s;
      bound = there_if l.0 u.0 (ap has_bound same ∙ h);
      rest = rest;
      is = ap (λ b. 1 ∷ b ∷ rest) (sym (flags-byte s ∙ ap flags_byte same));
    }

-- ---- counts that end too early

-- bytes of the right number are those of counts
record SomeCounts (has : Bool) (cs : List ℕ) : Type 0 where
  rows : ℕ
  nulls : Option ℕ
  rows_fit : rows < 2 ^ 64
  nulls_fit : IfSome nulls (λ n. n < 2 ^ 64)
  known : is_some nulls ≡ has
  is : cs ≡ count_bytes rows ++ known_count_bytes nulls

one_more : (c : ℕ) (cs : List ℕ) → c < 256 → AreBytes cs → AreBytes (c ∷ cs)
one_more c cs small h zero = small
one_more c cs small h (suc k) = h k

bytes_of_take : (n : ℕ) (cs : List ℕ) → AreBytes cs → AreBytes (take n cs)
bytes_of_take zero cs h = λ k. omega arith
bytes_of_take (suc n) [] h = h
bytes_of_take (suc n) (c ∷ cs) h = one_more c (take n cs) (h 0) (bytes_of_take n cs (λ i. h (suc i)))

bytes_of_drop : (n : ℕ) (cs : List ℕ) → AreBytes cs → AreBytes (drop n cs)
bytes_of_drop zero cs h = h
bytes_of_drop (suc n) [] h = h
bytes_of_drop (suc n) (c ∷ cs) h = bytes_of_drop n cs (λ i. h (suc i))

some_counts : (has : Bool) (cs : List ℕ) → AreBytes cs → length cs ≡ counts_length has → SomeCounts has cs
some_counts false cs h long =
    let w = some_count cs h long in
    record { rows = w.0; nulls = None; rows_fit = w.1; nulls_fit = tt; known = refl; is = w.2 ∙ sym (append-nil (count_bytes w.0)) }
some_counts true cs h long =
    let first = some_count (take 8 cs) (bytes_of_take 8 cs h) (length-take-le 8 cs (omega arith)) in
    let second = some_count (drop 8 cs) (bytes_of_drop 8 cs h) (omega (arith, length-drop 8 cs)) in
    record {
      rows = first.0;
      nulls = Some second.0;
      rows_fit = first.1;
      nulls_fit = second.1;
      known = refl;
      is = sym (take-append-drop 8 cs) ∙ ap₂ (λ xs ys. xs ++ ys) first.2 second.2;
    }

-- ---- zeros after bytes

abbrev zeros : ℕ → List ℕ
zeros zero = []
zeros (suc n) = 0 ∷ zeros n

length-zeros : (n : ℕ) → length (zeros n) ≡ n
length-zeros zero = refl
length-zeros (suc n) = ap suc (length-zeros n)

bytes_then_zeros : (cs : List ℕ) (n : ℕ) → AreBytes cs → AreBytes (cs ++ zeros n)
bytes_then_zeros [] zero h = h
bytes_then_zeros [] (suc n) h = one_more 0 (zeros n) (omega arith) (bytes_then_zeros [] n h)
bytes_then_zeros (c ∷ cs) n h = one_more c (cs ++ zeros n) (h 0) (bytes_then_zeros cs n (λ i. h (suc i)))

-- ---- some keys

both_keys : (t : TypeTree) (l u : BoundState) → (k : List ℕ) × IsKeyIn t k → (q : List ℕ) × AreBoundKeys t l u q
both_keys t l u (k, h) =
    let first = some_key t l k h in
    let second = some_key t u k h in
    (first.0 ++ second.0, record { first = first.0; second = second.0; is_lower = first.1; is_upper = second.1; is = refl })

-- keys of both bounds, if the type has a value wherever one is asked for
some_keys : (t : TypeTree) (l u : BoundState) → (either_there l u ≡ true → (k : List ℕ) × IsKeyIn t k) → (q : List ℕ) × AreBoundKeys t l u q
some_keys t Missing Missing give = ([], record { first = []; second = []; is_lower = refl; is_upper = refl; is = refl })
some_keys t Missing Inexact give = both_keys t Missing Inexact (give refl)
some_keys t Missing Exact give = both_keys t Missing Exact (give refl)
some_keys t Inexact Missing give = both_keys t Inexact Missing (give refl)
some_keys t Inexact Inexact give = both_keys t Inexact Inexact (give refl)
some_keys t Inexact Exact give = both_keys t Inexact Exact (give refl)
some_keys t Exact Missing give = both_keys t Exact Missing (give refl)
some_keys t Exact Inexact give = both_keys t Exact Inexact (give refl)
some_keys t Exact Exact give = both_keys t Exact Exact (give refl)

known_length : (n : Option ℕ) → length (known_count_bytes n) + 8 ≡ counts_length (is_some n)
known_length None = refl
known_length (Some n) = let e = big_endian-length 8 n in omega arith

-- the counts of these flags are cut off
pub cut_off : (t : TypeTree) (f : Flags) (rest : List ℕ) → AreBytes rest → length rest < counts_length f.has_null_count → (has_bound f ≡ true → HasNoVariant t)
    → IsFirstWrong (IsEncodingOf t) (SaysBound (1 ∷ flags_byte f ∷ rest) → HasValues t) (1 ∷ flags_byte f ∷ rest) (length (1 ∷ flags_byte f ∷ rest))
cut_off t f rest bytes short ordered = record {
  within = omega arith;
  before = λ v. subst (MayGoOn (IsEncodingOf t)) (sym (take-length (1 ∷ flags_byte f ∷ rest))) (goes_on v);
  wrong = λ l. absurd (omega arith);
  none = not_whole;
}
  where
    not_whole : IsEncodingOf t (1 ∷ flags_byte f ∷ rest) → ⊥
    not_whole one =
        let s = one.statistics in
        let bounds = bound_bytes s.lower ++ bound_bytes s.upper in
        let w = first-apart (flags_byte f) (flags_byte (flags_of s)) rest ((count_bytes s.row_count ++ known_count_bytes s.null_count) ++ bounds) (one.is ∙ encoding-head s) in
        let same : f ≡ flags_of s = flags-apart f (flags_of s) w.0 in
        let count : counts_length f.has_null_count ≡ counts_length (is_some s.null_count) = ap (λ g. counts_length g.has_null_count) same in
        let all = ap length w.1 in
        let parts = length-append (count_bytes s.row_count ++ known_count_bytes s.null_count) bounds in
        let counts = length-append (count_bytes s.row_count) (known_count_bytes s.null_count) in
        let eight = big_endian-length 8 s.row_count in
        let more = known_length s.null_count in
        omega arith

    key_in : (SaysBound (1 ∷ flags_byte f ∷ rest) → HasValues t) → has_bound f ≡ true → (k : List ℕ) × IsKeyIn t k
    key_in v h =
        let w = v (bytes_say f rest h) in (
          key_with ascending (content w.value),
          record {
            ordered = ordered h;
            key = record { value = w.value; begins = record { value = w.is_value; is = sym (append-nil (key_with ascending (content w.value))) } };
          },
        )

    goes_on : (SaysBound (1 ∷ flags_byte f ∷ rest) → HasValues t) → MayGoOn (IsEncodingOf t) (1 ∷ flags_byte f ∷ rest)
    goes_on v =
        let n = counts_length f.has_null_count - length rest in
        let whole : length (rest ++ zeros n) ≡ counts_length f.has_null_count = omega (arith, length-append rest (zeros n), length-zeros n) in
        let c = some_counts f.has_null_count (rest ++ zeros n) (bytes_then_zeros rest n bytes) whole in
        let q = some_keys t f.lower f.upper (key_in v) in
        let head : IsHead f c.rows c.nulls = record { rows_fit = c.rows_fit; nulls_fit = c.nulls_fit; known = c.known } in
        let made = (after_head t f c.rows c.nulls head).join q.0 q.1 in
        record {
          more = zeros n ++ q.0;
          is_one = subst (IsEncodingOf t) (ap (λ xs. 1 ∷ flags_byte f ∷ (xs ++ q.0)) (sym c.is) ∙ ap (λ xs. 1 ∷ flags_byte f ∷ xs) (append_assoc rest (zeros n) q.0)) made;
        }
