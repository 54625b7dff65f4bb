-- The keys of bounds: what begins with two of them goes on alike, and an encoding goes on with them after its counts.
use Rattle.std.proofs.Common.{◌≡◌, ℕ, Bool, true, false, List, [], ◌++◌, Option, Some, None, refl, sym, ap, ap₂, subst, ◌∙◌}
use Rattle.std.proofs.lemmas.Bool.{false≢true}
use Rattle.std.proofs.lemmas.List.{append-nil}
use Rattle.vortex_dtype.specs.TypeTree.{TypeTree}
use Rattle.vortex_value.specs.TypesWithin.{HasNoVariant}
use Rattle.vortex_value.specs.Values.Content.{Content, content, null, truth, whole, text, string, sequence, tagged, typed}
use Rattle.vortex_row.specs.Columns.{key_with}
use Rattle.vortex_row.specs.Decoded.{IsFirstBad, IsKeyOf}
use Rattle.vortex_row.specs.Keys.{key}
use Rattle.vortex_row.specs.Laws.{KeysAreApart, ValuesHaveNoTyped}
use Rattle.statistics_bytes.specs.Encoding.{IsBoundOf, IsEncodingOf, bound_bytes}
use Rattle.statistics_bytes.specs.EncodingAnswers.{HasValues, IsFirstWrong}
use Rattle.statistics_bytes.specs.EncodingSteps.{AreBoundKeys, IsBoundKey, IsKeyIn, ascending, flags_of, is_there, state_at, state_of}
use Rattle.vortex_statistics.specs.Statistics.{Known, KnownBound}
use Rattle.statistics_bytes.specs.declared.flags.BoundState.{BoundState}
use Rattle.statistics_bytes.specs.declared.flags.BoundState.TheVariants.{Missing, Inexact, Exact}
use Rattle.statistics_bytes.specs.declared.flags.Flags.{Flags}
use Rattle.statistics_bytes.proofs.FirstWrong.{Follow, where_bad}
use Rattle.statistics_bytes.proofs.HeadLaws.{IsHead, encoding-head, head_bytes, heads-apart}

pub key-ascending : (c : Content) → key_with ascending c ≡ key c
key-ascending null = refl
key-ascending (truth b) = refl
key-ascending (whole z) = refl
key-ascending (text bs) = refl
key-ascending (string bs) = refl
key-ascending (sequence cs) = refl
key-ascending (tagged id c) = refl
key-ascending (typed t c) = refl

key_of : (t : TypeTree) (bs : List ℕ) (h : IsKeyIn t bs) → bs ≡ key (content h.key.value)
key_of t bs h = h.key.begins.is ∙ append-nil (key_with ascending (content h.key.value)) ∙ key-ascending (content h.key.value)

-- ---- a key is that of a bound, in the state that the flags say

pub key_there : (t : TypeTree) (l : BoundState) (k : List ℕ) → is_there l ≡ true → IsKeyIn t k → IsBoundKey t l k
key_there t Missing k e h = absurd (false≢true e)
key_there t Inexact k e h = h
key_there t Exact k e h = h

of_there : (t : TypeTree) (l : BoundState) (k : List ℕ) → is_there l ≡ true → IsBoundKey t l k → IsKeyIn t k
of_there t Missing k e h = absurd (false≢true e)
of_there t Inexact k e h = h
of_there t Exact k e h = h

pub key_from : (t : TypeTree) (b : Option KnownBound) → IsBoundOf t b → IsBoundKey t (state_of b) (bound_bytes b)
key_from t None h = refl
key_from t (Some b) h = by_test b.is_exact
  where
    made : IsKeyIn t (key b.value.content)
    made = record {
      ordered = h.ordered;
      key = record {
        value = h.value;
        begins = record { value = h.is_value; is = ap key h.is ∙ sym (key-ascending (content h.value)) ∙ sym (append-nil (key_with ascending (content h.value))) };
      };
    }

    by_test : (e : Bool) → IsBoundKey t (state_at e) (key b.value.content)
    by_test true = made
    by_test false = made

-- a bound of this key
bound_with : (t : TypeTree) (e : Bool) (bs : List ℕ) → IsKeyIn t bs → (b : Option KnownBound) × IsBoundOf t b × (state_of b ≡ state_at e) × (bound_bytes b ≡ bs)
bound_with t e bs h = (
  Some (record { value = record { typed = t; content = content h.key.value }; is_exact = e }),
  record { typed = refl; ordered = h.ordered; value = h.key.value; is_value = h.key.begins.value; is = refl },
  refl,
  sym (key_of t bs h),
)

bound_from : (t : TypeTree) (l : BoundState) (bs : List ℕ) → IsBoundKey t l bs → (b : Option KnownBound) × IsBoundOf t b × (state_of b ≡ l) × (bound_bytes b ≡ bs)
bound_from t Missing bs h = (None, tt, refl, sym h)
bound_from t Inexact bs h = bound_with t false bs h
bound_from t Exact bs h = bound_with t true bs h

-- ---- after the counts come the keys of the bounds

flags_made : (has : Bool) (lower upper : BoundState) (f : Flags) → has ≡ f.has_null_count → lower ≡ f.lower → upper ≡ f.upper → record { has_null_count = has; lower = lower; upper = upper } ≡ f
flags_made has lower upper f e g h =
    let made : Bool → BoundState → BoundState → Flags = λ n l u. record { has_null_count = n; lower = l; upper = u } in
    ap (λ n. made n lower upper) e ∙ ap (λ l. made f.has_null_count l upper) g ∙ ap (λ u. made f.has_null_count f.lower u) h

pub after_head : (t : TypeTree) (f : Flags) (rows : ℕ) (nulls : Option ℕ) → IsHead f rows nulls → Follow (head_bytes f rows nulls) (IsEncodingOf t) (AreBoundKeys t f.lower f.upper)
after_head t f rows nulls head = record { join = join; split = split }
  where
    join : (q : List ℕ) → AreBoundKeys t f.lower f.upper q → IsEncodingOf t (head_bytes f rows nulls ++ q)
    join q h =
        let l = bound_from t f.lower h.first h.is_lower in
        let u = bound_from t f.upper h.second h.is_upper in
        let s : Known = record { row_count = rows; null_count = nulls; lower = l.0; upper = u.0 } in
        let same : flags_of s ≡ f = flags_made _ (state_of l.0) (state_of u.0) f head.known l.2 u.2 in
        record {
          statistics = s;
          of_type = record { rows = head.rows_fit; nulls = head.nulls_fit; lower = l.1; upper = u.1 };
          is = ap₂ (λ g xs. head_bytes g rows nulls ++ xs) (sym same) (h.is ∙ ap₂ (λ a b. a ++ b) (sym l.3) (sym u.3)) ∙ sym (encoding-head s);
        }

    split : (q : List ℕ) → IsEncodingOf t (head_bytes f rows nulls ++ q) → AreBoundKeys t f.lower f.upper q
    split q h =
        let s = h.statistics in
        let made : IsHead (flags_of s) s.row_count s.null_count = record { rows_fit = h.of_type.rows; nulls_fit = h.of_type.nulls; known = refl } in
        let w = heads-apart f (flags_of s) rows s.row_count nulls s.null_count q (bound_bytes s.lower ++ bound_bytes s.upper) head made (h.is ∙ encoding-head s) in
        record {
          first = bound_bytes s.lower;
          second = bound_bytes s.upper;
          is_lower = subst (λ l. IsBoundKey t l (bound_bytes s.lower)) (sym (ap (λ g. g.lower) w.0)) (key_from t s.lower h.of_type.lower);
          is_upper = subst (λ u. IsBoundKey t u (bound_bytes s.upper)) (sym (ap (λ g. g.upper) w.0)) (key_from t s.upper h.of_type.upper);
          is = w.3;
        }

-- ---- where no key of a bound goes on

-- some key in this state
pub some_key : (t : TypeTree) (l : BoundState) (k : List ℕ) → IsKeyIn t k → (bs : List ℕ) × IsBoundKey t l bs
some_key t Missing k h = ([], refl)
some_key t Inexact k h = (k, h)
some_key t Exact k h = (k, h)

-- the key of some value
key_of_value : (t : TypeTree) → HasValues t → (k : List ℕ) × IsKeyOf ascending t k
key_of_value t h = (
  key_with ascending (content h.value),
  record { value = h.value; begins = record { value = h.is_value; is = sym (append-nil (key_with ascending (content h.value))) } },
)

pub wrong_lower : (t : TypeTree) (l u : BoundState) (bytes : List ℕ) (p : ℕ) → is_there l ≡ true → HasNoVariant t → IsFirstBad (IsKeyOf ascending t) bytes p
    → IsFirstWrong (AreBoundKeys t l u) (HasValues t) bytes p
wrong_lower t l u bytes p there ordered h =
    where_bad (IsKeyOf ascending t) (AreBoundKeys t l u) (HasValues t) bytes p (key_of_value t)
    (λ k one. let made : IsKeyIn t k = record { ordered = ordered; key = one } in
    let more = some_key t u k made in
    record { more = more.0; is_one = record { first = k; second = more.0; is_lower = key_there t l k there made; is_upper = more.1; is = refl } })
    (λ q one. record { key = one.first; rest = one.second; is_key = (of_there t l one.first there one.is_lower).key; is = one.is })
    h

pub wrong_last : (t : TypeTree) (u : BoundState) (bytes : List ℕ) (p : ℕ) → is_there u ≡ true → HasNoVariant t → IsFirstBad (IsKeyOf ascending t) bytes p
    → IsFirstWrong (IsBoundKey t u) (HasValues t) bytes p
wrong_last t u bytes p there ordered h =
    where_bad (IsKeyOf ascending t) (IsBoundKey t u) (HasValues t) bytes p (key_of_value t)
    (λ k one. record { more = []; is_one = subst (IsBoundKey t u) (sym (append-nil k)) (key_there t u k there (record { ordered = ordered; key = one })) })
    (λ q one. record { key = q; rest = []; is_key = (of_there t u q there one).key; is = sym (append-nil q) })
    h

-- ---- keys are apart

module _ (apart : KeysAreApart) (untyped : ValuesHaveNoTyped) where
  keyed-apart : (t : TypeTree) (ks js xs ys : List ℕ) → IsKeyIn t ks → IsKeyIn t js → ks ++ xs ≡ js ++ ys → xs ≡ ys
  keyed-apart t ks js xs ys h g e =
      let c = content h.key.value in
      let d = content g.key.value in
      (apart.contents c d xs ys (untyped t h.key.value h.ordered h.key.begins.value.valid) h.key.begins.value.held g.key.begins.value.held
      (ap (λ zs. zs ++ xs) (sym (key_of t ks h)) ∙ e ∙ ap (λ zs. zs ++ ys) (key_of t js g))).1

  pub bounds_then : (t : TypeTree) (l : BoundState) (ks js xs ys : List ℕ) → IsBoundKey t l ks → IsBoundKey t l js → ks ++ xs ≡ js ++ ys → xs ≡ ys
  bounds_then t Missing ks js xs ys h g e = ap (λ zs. zs ++ xs) (sym h) ∙ e ∙ ap (λ zs. zs ++ ys) g
  bounds_then t Inexact ks js xs ys h g e = keyed-apart t ks js xs ys h g e
  bounds_then t Exact ks js xs ys h g e = keyed-apart t ks js xs ys h g e

  pub after_lower : (t : TypeTree) (l u : BoundState) (ks : List ℕ) → IsBoundKey t l ks → Follow ks (AreBoundKeys t l u) (IsBoundKey t u)
  after_lower t l u ks one = record {
    join = λ q h. record { first = ks; second = q; is_lower = one; is_upper = h; is = refl };
    split = λ q h. subst (IsBoundKey t u) (sym (bounds_then t l ks h.first q h.second one h.is_lower h.is)) h.is_upper;
  }

  -- no key of a bound begins another
  pub alone : (t : TypeTree) (u : BoundState) (ks xs : List ℕ) → IsBoundKey t u ks → IsBoundKey t u (ks ++ xs) → xs ≡ []
  alone t u ks xs one more = bounds_then t u ks (ks ++ xs) xs [] one more (sym (append-nil (ks ++ xs)))
