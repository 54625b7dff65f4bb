-- What reading gives, step by step, as the code goes.
use Rattle.std.proofs.Common.{◌≡◌, ◌∙◌, ℕ, suc, List, length, Option, Some, None, refl, sym}
use Rattle.std.proofs.lemmas.List.{length-map}
use Rattle.filter_sql.specs.declared.parsing.errors.TokenError.{TokenError}
use Rattle.filter_sql.specs.declared.parsing.errors.TokenError.TheVariants as faults
use Rattle.filter_sql.specs.declared.error.Expected.TheVariants as expects
use Rattle.filter_sql.specs.declared.token.Keyword.TheVariants.{And, Or, Not}
use Rattle.filter_sql.specs.declared.token.Placed.{Placed}
use Rattle.vortex_filter.specs.Formula.{Formula, both, either, negation}
use Rattle.filter_sql.specs.Mistakes.{Fails, conjunction_mistake, disjunction_mistake, expected, group_mistake, mistake_at, mistakes, operand_mistake, too_deep}
use Rattle.filter_sql.specs.Tokens.{TokenTree, token_tree, trees}
use Rattle.filter_sql.specs.Reading.{Read, after_keyword, after_opening, after_closing, reads, read_at, disjunction_of, conjunction_of, operand_of, or_from, and_from, operand_from, group_of}

-- how many trees there are
pub counts_is : (ps : List Placed) → length ps ≡ length (trees ps)
counts_is ps = sym (length-map ps (λ (p : Placed). token_tree p.token))

pub ruleset counts = (counts_is)

-- where nothing is read of a part, nothing is read of the whole, and its mistake is the part's
abbrev pub Passes : {X Y : Type 0} → Option X → TokenError → Option Y → TokenError → Type 0
Passes part m whole n = part ≡ None → (whole ≡ None) × (n ≡ m)

-- what fails in a part, fails in the whole
pub fails_on : {X Y : Type 0} (e m n : TokenError) (part : Option X) (whole : Option Y) → Passes part m whole n → Fails e part m → Fails e whole n
fails_on faults.NoMemory m n part whole on failed = tt
fails_on (faults.At left cause) m n part whole on failed = let pair = on failed.0 in (pair.0, pair.1 ∙ failed.1)

-- where nothing is read, the mistake is told
pub fails_with : {Y : Type 0} (e n : TokenError) (read : Option Y) → (read ≡ None) × (n ≡ e) → Fails e read n
fails_with faults.NoMemory n read told = tt
fails_with (faults.At left cause) n read told = told

module _ (p : List TokenTree → Read) (q : List TokenTree → TokenError) where
  -- what reading gives of a level, and what is wrong
  abbrev or_read : ℕ → List TokenTree → Read
  or_read n = disjunction_of p (reads p n)

  abbrev or_wrong : ℕ → List TokenTree → TokenError
  or_wrong n = disjunction_mistake p q (reads p n) (mistakes p q n)

  abbrev and_read : ℕ → List TokenTree → Read
  and_read n = conjunction_of p (reads p n)

  abbrev and_wrong : ℕ → List TokenTree → TokenError
  and_wrong n = conjunction_mistake p q (reads p n) (mistakes p q n)

  abbrev one_read : ℕ → List TokenTree → Read
  one_read n = operand_of p (reads p n)

  abbrev one_wrong : ℕ → List TokenTree → TokenError
  one_wrong n = operand_mistake p q (reads p n) (mistakes p q n)

  module _ (n : ℕ) (ts : List TokenTree) where
    or_fails : Passes (and_read n ts) (and_wrong n ts) (or_read n ts) (or_wrong n ts)
    unfolding disjunction_of or_from disjunction_mistake
    or_fails e = rw e (refl, refl)

    pub or_left_fails : (e : TokenError) → Fails e (and_read n ts) (and_wrong n ts) → Fails e (or_read n ts) (or_wrong n ts)
    or_left_fails e failed = fails_on e _ _ _ _ or_fails failed

    and_fails : Passes (one_read n ts) (one_wrong n ts) (and_read n ts) (and_wrong n ts)
    unfolding conjunction_of and_from conjunction_mistake
    and_fails e = rw e (refl, refl)

    pub and_left_fails : (e : TokenError) → Fails e (one_read n ts) (one_wrong n ts) → Fails e (and_read n ts) (and_wrong n ts)
    and_left_fails e failed = fails_on e _ _ _ _ and_fails failed

    module _ (f : Formula) (us : List TokenTree) where
      pub or_alone : and_read n ts ≡ Some (f, us) → None ≡ after_keyword Or us → or_read n ts ≡ Some (f, us)
      unfolding disjunction_of or_from
      or_alone left word = rw (left, ← word) refl

      pub and_alone : one_read n ts ≡ Some (f, us) → None ≡ after_keyword And us → and_read n ts ≡ Some (f, us)
      unfolding conjunction_of and_from
      and_alone left word = rw (left, ← word) refl

      module _ (vs : List TokenTree) where
        or_deep : and_read n ts ≡ Some (f, us) → Some vs ≡ after_keyword Or us → n ≡ 0 → (or_read n ts ≡ None) × (or_wrong n ts ≡ too_deep vs)
        unfolding disjunction_of or_from reads read_at disjunction_mistake mistakes
        or_deep left word zero_is = rw (left, ← word, zero_is) (refl, refl)

        pub or_too_deep : (e : TokenError) → and_read n ts ≡ Some (f, us) → Some vs ≡ after_keyword Or us → (n ≡ 0) × (e ≡ too_deep vs) → Fails e (or_read n ts) (or_wrong n ts)
        or_too_deep e left word deep = let pair = or_deep left word deep.0 in fails_with e _ _ (pair.0, pair.1 ∙ sym deep.1)

        and_deep : one_read n ts ≡ Some (f, us) → Some vs ≡ after_keyword And us → n ≡ 0 → (and_read n ts ≡ None) × (and_wrong n ts ≡ too_deep vs)
        unfolding conjunction_of and_from reads read_at conjunction_mistake mistakes
        and_deep left word zero_is = rw (left, ← word, zero_is) (refl, refl)

        pub and_too_deep : (e : TokenError) → one_read n ts ≡ Some (f, us) → Some vs ≡ after_keyword And us → (n ≡ 0) × (e ≡ too_deep vs) → Fails e (and_read n ts) (and_wrong n ts)
        and_too_deep e left word deep = let pair = and_deep left word deep.0 in fails_with e _ _ (pair.0, pair.1 ∙ sym deep.1)

        module _ (d : ℕ) where
          or_right_none : and_read n ts ≡ Some (f, us) → Some vs ≡ after_keyword Or us → n ≡ suc d → Passes (or_read d vs) (or_wrong d vs) (or_read n ts) (or_wrong n ts)
          unfolding disjunction_of or_from reads read_at disjunction_mistake mistakes mistake_at
          or_right_none left word deep right = rw (left, ← word, deep, right) (refl, refl)

          pub or_right_fails : (e : TokenError) → and_read n ts ≡ Some (f, us) → Some vs ≡ after_keyword Or us → n ≡ suc d → Fails e (or_read d vs) (or_wrong d vs) → Fails e (or_read n ts) (or_wrong n ts)
          or_right_fails e left word deep failed = fails_on e _ _ _ _ (or_right_none left word deep) failed

          and_right_none : one_read n ts ≡ Some (f, us) → Some vs ≡ after_keyword And us → n ≡ suc d → Passes (and_read d vs) (and_wrong d vs) (and_read n ts) (and_wrong n ts)
          unfolding conjunction_of and_from reads read_at conjunction_mistake mistakes mistake_at
          and_right_none left word deep right = rw (left, ← word, deep, right) (refl, refl)

          pub and_right_fails : (e : TokenError) → one_read n ts ≡ Some (f, us) → Some vs ≡ after_keyword And us → n ≡ suc d → Fails e (and_read d vs) (and_wrong d vs) → Fails e (and_read n ts) (and_wrong n ts)
          and_right_fails e left word deep failed = fails_on e _ _ _ _ (and_right_none left word deep) failed

          module _ (g h : Formula) (ws : List TokenTree) where
            pub or_joined : and_read n ts ≡ Some (f, us) → Some vs ≡ after_keyword Or us → n ≡ suc d → or_read d vs ≡ Some (g, ws) → h ≡ either f g → or_read n ts ≡ Some (h, ws)
            unfolding disjunction_of or_from reads read_at
            or_joined left word deep right made = rw (left, ← word, deep, right, made) refl

            pub and_joined : one_read n ts ≡ Some (f, us) → Some vs ≡ after_keyword And us → n ≡ suc d → and_read d vs ≡ Some (g, ws) → h ≡ both f g → and_read n ts ≡ Some (h, ws)
            unfolding conjunction_of and_from reads read_at
            and_joined left word deep right made = rw (left, ← word, deep, right, made) refl

    -- ---- `not` and parentheses

    module _ (us : List TokenTree) where
      not_deep : Some us ≡ after_keyword Not ts → n ≡ 0 → (one_read n ts ≡ None) × (one_wrong n ts ≡ too_deep us)
      unfolding operand_of operand_from reads read_at operand_mistake mistakes
      not_deep word zero_is = rw (← word, zero_is) (refl, refl)

      pub not_too_deep : (e : TokenError) → Some us ≡ after_keyword Not ts → (n ≡ 0) × (e ≡ too_deep us) → Fails e (one_read n ts) (one_wrong n ts)
      not_too_deep e word deep = let pair = not_deep word deep.0 in fails_with e _ _ (pair.0, pair.1 ∙ sym deep.1)

      group_deep : None ≡ after_keyword Not ts → Some us ≡ after_opening ts → n ≡ 0 → (one_read n ts ≡ None) × (one_wrong n ts ≡ too_deep us)
      unfolding operand_of operand_from group_of reads read_at operand_mistake group_mistake mistakes
      group_deep word opened zero_is = rw (← word, ← opened, zero_is) (refl, refl)

      pub group_too_deep : (e : TokenError) → None ≡ after_keyword Not ts → Some us ≡ after_opening ts → (n ≡ 0) × (e ≡ too_deep us) → Fails e (one_read n ts) (one_wrong n ts)
      group_too_deep e word opened deep = let pair = group_deep word opened deep.0 in fails_with e _ _ (pair.0, pair.1 ∙ sym deep.1)

      module _ (d : ℕ) where
        not_none : Some us ≡ after_keyword Not ts → n ≡ suc d → Passes (one_read d us) (one_wrong d us) (one_read n ts) (one_wrong n ts)
        unfolding operand_of operand_from reads read_at operand_mistake mistakes mistake_at
        not_none word deep inner = rw (← word, deep, inner) (refl, refl)

        pub not_fails : (e : TokenError) → Some us ≡ after_keyword Not ts → n ≡ suc d → Fails e (one_read d us) (one_wrong d us) → Fails e (one_read n ts) (one_wrong n ts)
        not_fails e word deep failed = fails_on e _ _ _ _ (not_none word deep) failed

        pub negated_is : (f h : Formula) (vs : List TokenTree) → Some us ≡ after_keyword Not ts → n ≡ suc d → one_read d us ≡ Some (f, vs) → h ≡ negation f → one_read n ts ≡ Some (h, vs)
        unfolding operand_of operand_from reads read_at
        negated_is f h vs word deep inner made = rw (← word, deep, inner, made) refl

        group_none : None ≡ after_keyword Not ts → Some us ≡ after_opening ts → n ≡ suc d → Passes (or_read d us) (or_wrong d us) (one_read n ts) (one_wrong n ts)
        unfolding operand_of operand_from group_of reads read_at operand_mistake group_mistake mistakes mistake_at
        group_none word opened deep inner = rw (← word, ← opened, deep, inner) (refl, refl)

        pub group_fails : (e : TokenError) → None ≡ after_keyword Not ts → Some us ≡ after_opening ts → n ≡ suc d → Fails e (or_read d us) (or_wrong d us) → Fails e (one_read n ts) (one_wrong n ts)
        group_fails e word opened deep failed = fails_on e _ _ _ _ (group_none word opened deep) failed

        open_ended : (f : Formula) (vs : List TokenTree) → None ≡ after_keyword Not ts → Some us ≡ after_opening ts → n ≡ suc d → or_read d us ≡ Some (f, vs) → None ≡ after_closing vs → (one_read n ts ≡ None) × (one_wrong n ts ≡ expected vs expects.Closing)
        unfolding operand_of operand_from group_of reads read_at operand_mistake group_mistake mistakes mistake_at
        open_ended f vs word opened deep inner end = rw (← word, ← opened, deep, inner, ← end) (refl, refl)

        pub not_closed : (e : TokenError) (f : Formula) (vs : List TokenTree) → None ≡ after_keyword Not ts → Some us ≡ after_opening ts → n ≡ suc d → or_read d us ≡ Some (f, vs) → None ≡ after_closing vs → e ≡ expected vs expects.Closing → Fails e (one_read n ts) (one_wrong n ts)
        not_closed e f vs word opened deep inner end told = let pair = open_ended f vs word opened deep inner end in fails_with e _ _ (pair.0, pair.1 ∙ sym told)

        pub group_is : (f : Formula) (vs ws : List TokenTree) → None ≡ after_keyword Not ts → Some us ≡ after_opening ts → n ≡ suc d → or_read d us ≡ Some (f, vs) → Some ws ≡ after_closing vs → one_read n ts ≡ Some (f, ws)
        unfolding operand_of operand_from group_of reads read_at
        group_is f vs ws word opened deep inner end = rw (← word, ← opened, deep, inner, ← end) refl

    pub predicate_is : None ≡ after_keyword Not ts → None ≡ after_opening ts → (one_read n ts ≡ p ts) × (one_wrong n ts ≡ q ts)
    unfolding operand_of operand_from group_of operand_mistake
    predicate_is word opened = rw (← word, ← opened) (refl, refl)
