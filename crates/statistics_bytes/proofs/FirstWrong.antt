-- Where bytes are wrong: after bytes that come first, and where no key goes on.
use Rattle.std.proofs.Common.{◌≡◌, ◌⊎◌, inl, inr, ℕ, suc, ◌+◌, List, [], ◌∷◌, ◌++◌, length, length-append, take, drop, refl, sym, subst, ap, ap₂, ◌∙◌, arith}
use Rattle.std.proofs.Math.Nat.{add-suc}
use Rattle.std.proofs.Math.Seq.{take-append-add, take-append_seam}
use Rattle.std.proofs.lemmas.List.{append-nil, append_assoc, take-append-drop}
use Rattle.vortex_row.specs.Decoded.{IsFirstBad, MayBegin}
use Rattle.statistics_bytes.specs.EncodingAnswers.{IsFirstWrong, MayGoOn}

-- after front come just the strings of Rest
pub record Follow (front : List ℕ) (Is Rest : List ℕ → Type 0) : Type 0 where
  pub join : (q : List ℕ) → Rest q → Is (front ++ q)
  pub split : (q : List ℕ) → Is (front ++ q) → Rest q

-- ---- after bytes that come first

past_front : (front rest more : List ℕ) (n p : ℕ) → n ≡ length front + p → take n (front ++ rest) ++ more ≡ front ++ (take p rest ++ more)
past_front front rest more n p e = ap (λ k. take k (front ++ rest) ++ more) e ∙ ap (λ xs. xs ++ more) (take-append-add front rest p) ∙ append_assoc front (take p rest) more

pub after_front : (Is Rest : List ℕ → Type 0) (has_values : Type 0) (front rest : List ℕ) (p : ℕ) → Follow front Is Rest → IsFirstWrong Rest has_values rest p → IsFirstWrong Is has_values (front ++ rest) (length front + p)
after_front Is Rest has_values front rest p step h = record {
  within = omega (arith, length-append front rest);
  before = λ v. let b = h.before v in record { more = b.more; is_one = subst Is (sym (past_front front rest b.more (length front + p) p refl)) (step.join (take p rest ++ b.more) b.is_one) };
  wrong = λ l go. h.wrong (omega (arith, length-append front rest)) (record { more = go.more; is_one = step.split (take (suc p) rest ++ go.more) (subst Is (past_front front rest go.more (suc (length front + p)) (suc p) (sym (add-suc (length front) p))) go.is_one) });
  none = λ one. h.none (step.split rest one);
}

-- ---- where no key goes on

-- of two beginnings of a string one begins with the other
either_longer : (x y more rest : List ℕ) → x ++ more ≡ y ++ rest → ((m : List ℕ) × (y ≡ x ++ m)) ⊎ ((m : List ℕ) × (x ≡ y ++ m))
either_longer [] y more rest e = inl (y, refl)
either_longer (a ∷ x) [] more rest e = inr (a ∷ x, refl)
either_longer (a ∷ x) (b ∷ y) more rest e =
    let first : a ≡ b = cc in
    let after : x ++ more ≡ y ++ rest = cc in
    elim (either_longer x y more rest after) [ inl w ↦ inl (w.0, ap₂ (λ c cs. c ∷ cs) (sym first) w.1) | inr w ↦ inr (w.0, ap₂ (λ c cs. c ∷ cs) first w.1) ]

-- the string begins with one of the keys
pub record BeginsWith (IsKey : List ℕ → Type 0) (bs : List ℕ) : Type 0 where
  pub key : List ℕ
  pub rest : List ℕ
  pub is_key : IsKey key
  pub is : bs ≡ key ++ rest

-- an offset where no key goes on is one where none of the strings does that begin with a key
pub where_bad : (IsKey Is : List ℕ → Type 0) (has_values : Type 0) (bytes : List ℕ) (p : ℕ) → (has_values → (k : List ℕ) × IsKey k) → ((k : List ℕ) → IsKey k → MayGoOn Is k) → ((q : List ℕ) → Is q → BeginsWith IsKey q)
    → IsFirstBad IsKey bytes p → IsFirstWrong Is has_values bytes p
where_bad IsKey Is has_values bytes p some go begin h = record {
  within = h.within;
  before = λ v. either v h.before;
  wrong = λ l w. let b = begin (take (suc p) bytes ++ w.more) w.is_one in h.bad l (record { key = b.key; more = w.more; rest = b.rest; is_one = b.is_key; is = b.is });
  none = λ one. let b = begin bytes one in h.no_key b.key b.rest b.is_key b.is;
}
  where
    longer : (w : MayBegin IsKey (take p bytes)) → ((m : List ℕ) × (w.key ≡ take p bytes ++ m)) ⊎ ((m : List ℕ) × (take p bytes ≡ w.key ++ m)) → MayGoOn Is (take p bytes)
    longer w (inl m) =
        let g = go w.key w.is_one in
        record { more = m.0 ++ g.more; is_one = subst Is (ap (λ xs. xs ++ g.more) m.1 ∙ append_assoc (take p bytes) m.0 g.more) g.is_one }
    longer w (inr m) = absurd (h.no_key w.key (m.0 ++ drop p bytes) w.is_one (sym (take-append-drop p bytes) ∙ ap (λ xs. xs ++ drop p bytes) m.1 ∙ append_assoc w.key m.0 (drop p bytes)))

    goes_on : MayBegin IsKey (take p bytes) → MayGoOn Is (take p bytes)
    goes_on w = longer w (either_longer (take p bytes) w.key w.more w.rest w.is)

    either : has_values → (p ≡ 0) ⊎ MayBegin IsKey (take p bytes) → MayGoOn Is (take p bytes)
    either v (inl none) =
        let (k, one) = some v in
        let g = go k one in
        subst (λ n. MayGoOn Is (take n bytes)) (sym none) (record { more = k ++ g.more; is_one = g.is_one })
    either v (inr w) = goes_on w

-- ---- where more comes after a whole string

-- of the strings none begins with another one
pub where_more : (Is : List ℕ → Type 0) (has_values : Type 0) (whole : List ℕ) (b : ℕ) (more : List ℕ) → Is whole → ((xs : List ℕ) → Is (whole ++ xs) → xs ≡ []) → IsFirstWrong Is has_values (whole ++ b ∷ more) (length whole)
where_more Is has_values whole b more one alone = record {
  within = omega (arith, length-append whole (b ∷ more));
  before = λ v. record { more = []; is_one = subst Is (sym (append-nil (take (length whole) (whole ++ b ∷ more)) ∙ take-append_seam whole (b ∷ more))) one };
  wrong = λ l w. let same = alone (b ∷ w.more) (subst Is (past_front whole (b ∷ more) w.more (suc (length whole)) 1 (omega arith)) w.is_one) in absurd (cc);
  none = λ w. let same = alone (b ∷ more) w in absurd (cc);
}
