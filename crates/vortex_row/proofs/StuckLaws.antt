-- How the strings that go on after each other are put together, and the offsets where none goes on.
use Rattle.std.proofs.Common.{◌≡◌, ℕ, ◌⊎◌, Bool, true, false, inl, inr, List, [], ◌∷◌, ◌++◌, refl, sym, subst, ap, ◌∙◌, append_assoc, append-nil, arith}
use Rattle.vortex_row.specs.Held.{AreBytes}
use Rattle.vortex_row.specs.Keys.{inverted}
use Rattle.vortex_row.specs.Reading.{BeginAlike, IsInverted, IsStuck, ContinueWith, NoneBegins}
use Rattle.vortex_row.proofs.ByteLaws.{bytes_first}
use Rattle.vortex_row.proofs.ReaderSteps.{bytes-parts, inverted-append, inverted-back}

-- what now begins with, a byte or the end, comes first in none of the strings
abbrev pub NoneHere : (List ℕ → Type 0) → List ℕ → Type 0
NoneHere Is now = (s zs rest : List ℕ) → Is s → BeginAlike now zs → ¬ (zs ≡ s ++ rest)

-- one of the strings
abbrev pub Some : (List ℕ → Type 0) → Type 0
Some Is = (s : List ℕ) × Is s

-- strings that go on after each other

pub continue-itself : (Is : List ℕ → Type 0) → ContinueWith [] Is Is
continue-itself Is = record { join = λ q h. h; split = λ s zs rest h e. (s, h, e) }

pub continue-then : (p q : List ℕ) (Is Rest More : List ℕ → Type 0) → ContinueWith p Is Rest → ContinueWith q Rest More → ContinueWith (p ++ q) Is More
continue-then p q Is Rest More one two = record {
  join = λ r h. subst Is (sym (append_assoc p q r)) (one.join (q ++ r) (two.join r h));
  split = λ s zs rest h e.
      let (x, is_rest, f) = one.split s (q ++ zs) rest h (sym (append_assoc p q zs) ∙ e) in
      two.split x zs rest is_rest f;
}

-- offsets where none goes on

pub alike-through : (done now zs old : List ℕ) → old ≡ done ++ now → BeginAlike now zs → BeginAlike old (done ++ zs)
alike-through [] now zs old e h = subst (λ xs. BeginAlike xs zs) (sym e) h
alike-through (b ∷ done) now zs [] e h = absurd (cc)
alike-through (b ∷ done) now zs (c ∷ old) e h = cc

pub stuck-here : (Is : List ℕ → Type 0) (now : List ℕ) → NoneHere Is now → IsStuck Is now now
stuck-here Is now none = record { done = []; split = refl; begins = inl refl; none = none }

later-begins : (p done : List ℕ) (Is Rest : List ℕ → Type 0) → ContinueWith p Is Rest → Some Rest → (done ≡ []) ⊎ ((more : List ℕ) × Rest (done ++ more))
    → (p ++ done ≡ []) ⊎ ((more : List ℕ) × Is ((p ++ done) ++ more))
later-begins p done Is Rest go some (inl empty) =
    let e : p ++ some.0 ≡ (p ++ done) ++ some.0 = ap (λ ds. ds ++ some.0) (sym (append-nil p)) ∙ ap (λ ds. (p ++ ds) ++ some.0) (sym empty) in
    inr (some.0, subst Is e (go.join some.0 some.1))
later-begins p done Is Rest go some (inr h) = inr (h.0, subst Is (sym (append_assoc p done h.0)) (go.join (done ++ h.0) h.1))

-- after a beginning
pub stuck-later : (p : List ℕ) (Is Rest : List ℕ → Type 0) (old mid now : List ℕ) → ContinueWith p Is Rest → old ≡ p ++ mid → Some Rest
    → IsStuck Rest mid now → IsStuck Is old now
stuck-later p Is Rest old mid now go e some stuck = record {
  done = p ++ stuck.done;
  split = e ∙ ap (λ xs. p ++ xs) stuck.split ∙ sym (append_assoc p stuck.done now);
  begins = later-begins p stuck.done Is Rest go some stuck.begins;
  none = λ s zs rest h alike f.
      let (q, is_rest, g) = go.split s (stuck.done ++ zs) rest h (sym (append_assoc p stuck.done zs) ∙ f) in
      stuck.none q zs rest is_rest alike g;
}

-- right after a beginning
pub stuck-after : (p : List ℕ) (Is Rest : List ℕ → Type 0) (old now : List ℕ) → ContinueWith p Is Rest → old ≡ p ++ now → Some Rest → NoneHere Rest now
    → IsStuck Is old now
stuck-after p Is Rest old now go e some none = stuck-later p Is Rest old now now go e some (stuck-here Rest now none)

-- each string of Is begins one of Whole, and each of Whole that begins as the bytes do begins with one of Is
pub record Begin (Is Whole : List ℕ → Type 0) (old : List ℕ) : Type 0 where
  pub extend : (q : List ℕ) → Is q → (more : List ℕ) × Whole (q ++ more)
  pub front : (s zs rest : List ℕ) → Whole s → BeginAlike old zs → zs ≡ s ++ rest → (q rest : List ℕ) × Is q × (zs ≡ q ++ rest)

within-begins : (done : List ℕ) (Is Whole : List ℕ → Type 0) → ((q : List ℕ) → Is q → (more : List ℕ) × Whole (q ++ more)) → (done ≡ []) ⊎ ((more : List ℕ) × Is (done ++ more))
    → (done ≡ []) ⊎ ((more : List ℕ) × Whole (done ++ more))
within-begins done Is Whole extend (inl empty) = inl empty
within-begins done Is Whole extend (inr h) =
    let (more, whole) = extend (done ++ h.0) h.1 in
    inr (h.0 ++ more, subst Whole (append_assoc done h.0 more) whole)

-- in the first part
pub stuck-within : (Is Whole : List ℕ → Type 0) (old now : List ℕ) → Begin Is Whole old → IsStuck Is old now → IsStuck Whole old now
stuck-within Is Whole old now begin stuck = record {
  done = stuck.done;
  split = stuck.split;
  begins = within-begins stuck.done Is Whole begin.extend stuck.begins;
  none = λ s zs rest h alike e.
      let (q, more, is_one, f) = begin.front s (stuck.done ++ zs) rest h (alike-through stuck.done now zs old stuck.split alike) e in
      stuck.none q zs more is_one alike f;
}

-- of strings that are the same
pub stuck-same : (Is Whole : List ℕ → Type 0) (old now : List ℕ) → ((s : List ℕ) → Is s → Whole s) → ((s : List ℕ) → Whole s → Is s)
    → IsStuck Is old now → IsStuck Whole old now
stuck-same Is Whole old now to from stuck =
    stuck-within Is Whole old now
    (record { extend = λ q h. ([], subst Whole (sym (append-nil q)) (to q h)); front = λ s zs rest h alike e. (s, rest, from s h, e) }) stuck

-- the next byte, or the end, fits none

pub none-byte : (Is : List ℕ → Type 0) (b : ℕ) (now more : List ℕ) → now ≡ b ∷ more → NoneBegins Is b → NoneHere Is now
none-byte Is b now more e none s [] rest h alike f = subst (λ xs. BeginAlike xs []) e alike
none-byte Is b now more e none s (z ∷ zs) rest h alike f =
    let same : b ≡ z = subst (λ xs. BeginAlike xs (z ∷ zs)) e alike in
    none s zs rest h (ap (λ c. c ∷ zs) same ∙ f)

front-empty : (s rest : List ℕ) → [] ≡ s ++ rest → s ≡ []
front-empty [] rest e = refl
front-empty (b ∷ s) rest e = absurd (cc)

pub none-end : (Is : List ℕ → Type 0) (now : List ℕ) → now ≡ [] → ¬ (Is []) → NoneHere Is now
none-end Is now e none s [] rest h alike f = none (subst Is (front-empty s rest f) h)
none-end Is now e none s (z ∷ zs) rest h alike f = subst (λ xs. BeginAlike xs (z ∷ zs)) e alike

-- the bytes begin with one of them after all
pub not-stuck : (Is : List ℕ → Type 0) (old now s rest : List ℕ) → IsStuck Is old now → Is s → ¬ (old ≡ s ++ rest)
not-stuck Is old now s rest stuck h e = stuck.none s now rest h (itself now) (sym stuck.split ∙ e)
  where
    itself : (xs : List ℕ) → BeginAlike xs xs
    itself [] = tt
    itself (x ∷ xs) = refl

-- of bytes that are inverted

alike-inverted : (now zs : List ℕ) → AreBytes now → BeginAlike (inverted true now) zs → BeginAlike now (inverted true zs)
alike-inverted [] [] h alike = tt
alike-inverted [] (z ∷ zs) h alike = absurd alike
alike-inverted (b ∷ now) [] h alike = absurd alike
alike-inverted (b ∷ now) (z ∷ zs) h alike = let small = bytes_first b now h in omega arith

inverted-begins : (Is : List ℕ → Type 0) (done : List ℕ) → (done ≡ []) ⊎ ((more : List ℕ) × Is (done ++ more))
    → (inverted true done ≡ []) ⊎ ((more : List ℕ) × IsInverted true Is (inverted true done ++ more))
inverted-begins Is done (inl e) = inl (ap (inverted true) e)
inverted-begins Is done (inr h) = inr (inverted true h.0, record { string = done ++ h.0; is_one = h.1; is = sym (inverted-append true done h.0) })

pub stuck-inverted : (d : Bool) (Is : List ℕ → Type 0) (old now : List ℕ) → ((s : List ℕ) → Is s → AreBytes s) → AreBytes old → IsStuck Is old now
    → IsStuck (IsInverted d Is) (inverted d old) (inverted d now)
stuck-inverted false Is old now are bytes stuck =
    stuck-same Is (IsInverted false Is) old now (λ s h. record { string = s; is_one = h; is = refl }) (λ s h. subst Is (sym h.is) h.is_one) stuck
stuck-inverted true Is old now are bytes stuck =
    let parts = bytes-parts stuck.done now (subst AreBytes stuck.split bytes) in
    record {
      done = inverted true stuck.done;
      split = ap (inverted true) stuck.split ∙ inverted-append true stuck.done now;
      begins = inverted-begins Is stuck.done stuck.begins;
      none = λ s zs rest h alike e.
          let f : stuck.done ++ inverted true zs ≡ h.string ++ inverted true rest =
          ap (λ ys. ys ++ inverted true zs) (sym (inverted-back stuck.done parts.0)) ∙ sym (inverted-append true (inverted true stuck.done) zs) ∙ ap (inverted true) (e ∙ ap (λ ys. ys ++ rest) h.is)
          ∙ inverted-append true (inverted true h.string) rest ∙ ap (λ ys. ys ++ inverted true rest) (inverted-back h.string (are h.string h.is_one)) in
          stuck.none h.string (inverted true zs) (inverted true rest) h.is_one (alike-inverted now zs parts.1 alike) f;
    }
