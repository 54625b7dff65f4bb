-- How strings that go on after each other are put together, and the offsets where none goes on.
use Rattle.std.proofs.Common.{◌≡◌, ℕ, List, [], ◌∷◌, ◌++◌, refl, sym, subst, ap, ◌∙◌, append_assoc}
use Rattle.filter_encoding.specs.Strings.{BeginAlike, IsEncodingOf, IsStuck, Then}

-- after front come just the strings of Rest: with them it is one of the strings, and no other string agrees with it
pub record GoesOn (front : List ℕ) (Is Rest : List ℕ → Type 0) : Type 0 where
  pub join : (q : List ℕ) → Rest q → Is (front ++ q)
  pub split : (s zs rest : List ℕ) → Is s → front ++ zs ≡ s ++ rest → (q : List ℕ) × Rest q × (zs ≡ q ++ rest)

-- one of the strings
abbrev pub Some : (List ℕ → Type 0) → Type 0
Some Is = (s : List ℕ) × Is s

-- what now begins with, a byte or the end, comes first in none of the strings
abbrev pub NoneHere : (List ℕ → Type 0) → List ℕ → Type 0
NoneHere Is now = (s zs rest : List ℕ) → Is s → BeginAlike now zs → ¬ (zs ≡ s ++ rest)

pub alike_itself : (xs : List ℕ) → BeginAlike xs xs
alike_itself [] = tt
alike_itself (x ∷ xs) = refl

-- ---- where none goes on

pub stuck_here : (Is : List ℕ → Type 0) (now : List ℕ) → Some Is → NoneHere Is now → IsStuck Is now now
stuck_here Is now some none = record { done = []; split = refl; more = some.0; begins = some.1; none = none }

-- after a beginning
pub stuck_later : (p : List ℕ) (Is Rest : List ℕ → Type 0) (old mid now : List ℕ) → GoesOn p Is Rest → old ≡ p ++ mid → IsStuck Rest mid now → IsStuck Is old now
stuck_later p Is Rest old mid now go e stuck = record {
  done = p ++ stuck.done;
  split = e ∙ ap (λ xs. p ++ xs) stuck.split ∙ sym (append_assoc p stuck.done now);
  more = stuck.more;
  begins = subst Is (sym (append_assoc p stuck.done stuck.more)) (go.join (stuck.done ++ stuck.more) stuck.begins);
  none = λ s zs rest h alike f.
      let w = go.split s (stuck.done ++ zs) rest h (sym (append_assoc p stuck.done zs) ∙ f) in
      stuck.none w.0 zs rest w.1 alike w.2;
}

-- in the first part: each string of Is begins one of Whole, and each of Whole begins with one of Is
pub record Begin (Is Whole : List ℕ → Type 0) : Type 0 where
  pub extend : (q : List ℕ) → Is q → (more : List ℕ) × Whole (q ++ more)
  pub front : (s : List ℕ) → Whole s → (q rest : List ℕ) × Is q × (s ≡ q ++ rest)

pub stuck_within : (Is Whole : List ℕ → Type 0) (old now : List ℕ) → Begin Is Whole → IsStuck Is old now → IsStuck Whole old now
stuck_within Is Whole old now begin stuck =
    let w = begin.extend (stuck.done ++ stuck.more) stuck.begins in
    record {
      done = stuck.done;
      split = stuck.split;
      more = stuck.more ++ w.0;
      begins = subst Whole (append_assoc stuck.done stuck.more w.0) w.1;
      none = λ s zs rest h alike e.
          let v = begin.front s h in
          stuck.none v.0 zs (v.1 ++ rest) v.2 alike (e ∙ ap (λ xs. xs ++ rest) v.3 ∙ append_assoc v.0 v.1 rest);
    }

-- ---- one string, and then another

-- what begins with two of the strings goes on alike after them
pub record AreAlone (A : List ℕ → Type 0) : Type 0 where
  pub alone : (s t xs ys : List ℕ) → A s → A t → s ++ xs ≡ t ++ ys → xs ≡ ys

pub then_begins : (A B : List ℕ → Type 0) → Some B → Begin A (Then A B)
then_begins A B some = record {
  extend = λ q h. (some.0, record { first = q; second = some.0; is_first = h; is_second = some.1; is = refl });
  front = λ s h. (h.first, h.second, h.is_first, h.is);
}

pub then_goes_on : (A B : List ℕ → Type 0) (p : List ℕ) → AreAlone A → A p → GoesOn p (Then A B) B
then_goes_on A B p alone one = record {
  join = λ q h. record { first = p; second = q; is_first = one; is_second = h; is = refl };
  split = λ s zs rest h e.
      (h.second, h.is_second, alone.alone p h.first zs (h.second ++ rest) one h.is_first (e ∙ ap (λ xs. xs ++ rest) h.is ∙ append_assoc h.first h.second rest));
}

-- ---- the next byte, or the end, fits none

-- none of the strings begins with this byte, nor is one empty
abbrev pub NoneBegins : (List ℕ → Type 0) → ℕ → Type 0
NoneBegins Is b = (s zs rest : List ℕ) → Is s → ¬ (b ∷ zs ≡ s ++ rest)

pub none_byte : (Is : List ℕ → Type 0) (b : ℕ) (now more : List ℕ) → now ≡ b ∷ more → NoneBegins Is b → NoneHere Is now
none_byte Is b now more e none s [] rest h alike f = subst (λ xs. BeginAlike xs []) e alike
none_byte Is b now more e none s (z ∷ zs) rest h alike f =
    let same : b ≡ z = subst (λ xs. BeginAlike xs (z ∷ zs)) e alike in
    none s zs rest h (ap (λ c. c ∷ zs) same ∙ f)

front_empty : (s rest : List ℕ) → [] ≡ s ++ rest → s ≡ []
front_empty [] rest e = refl
front_empty (b ∷ s) rest e = absurd (cc)

pub none_end : (Is : List ℕ → Type 0) (now : List ℕ) → now ≡ [] → ¬ (Is []) → NoneHere Is now
none_end Is now e none s [] rest h alike f = none (subst Is (front_empty s rest f) h)
none_end Is now e none s (z ∷ zs) rest h alike f = subst (λ xs. BeginAlike xs (z ∷ zs)) e alike

-- ---- strings of values

-- what begins with the bytes of two of the kind has one value and one rest
pub record AreApart {X : Type 0} (bytes_of : X → List ℕ) (Is : X → Type 0) : Type 0 where
  pub apart : (x y : X) (xs ys : List ℕ) → Is x → Is y → bytes_of x ++ xs ≡ bytes_of y ++ ys → (x ≡ y) × (xs ≡ ys)

pub alone_of : {X : Type 0} (bytes_of : X → List ℕ) (Is : X → Type 0) → AreApart bytes_of Is → AreAlone (IsEncodingOf bytes_of Is)
alone_of bytes_of Is law = record {
  alone = λ s t xs ys h g e.
      (law.apart h.value g.value xs ys h.is_one g.is_one (ap (λ zs. zs ++ xs) (sym h.is) ∙ e ∙ ap (λ zs. zs ++ ys) g.is)).1;
}

pub encoding_of : {X : Type 0} (bytes_of : X → List ℕ) (Is : X → Type 0) (x : X) → Is x → IsEncodingOf bytes_of Is (bytes_of x)
encoding_of bytes_of Is x h = record { value = x; is_one = h; is = refl }
