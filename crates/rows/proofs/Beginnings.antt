-- The words of a text: how many there are, and what they say of its bytes.
use Rattle.std.proofs.Common.{◌≡◌, ◌≢◌, ℕ, ◌==◌, ◌<◌, ◌≤◌, ◌+◌, suc, zero, true, false, Bool, List, [], ◌∷◌, length, get_or, take, drop, refl, sym, ap, ◌∙◌, subst, arith}
use Rattle.std.proofs.lemmas.Bool.{eqb-true, false≢true}
pub use Rattle.std.proofs.lemmas.List.{take_rest}
use Rattle.rows.specs.Lines.{words_of}
use Rattle.rows.proofs.Cuts.{first_of_lines, first_of_words, only_line, only_word}

abbrev pub HasWord : List ℕ → Type 0
HasWord line = (w : List ℕ) × (ws : List (List ℕ)) × (words_of line ≡ w ∷ ws)

-- each line has a word
pub some_word : (line : List ℕ) → HasWord line
some_word [] = ([], [], refl)
some_word (b ∷ bs) = by_test (b == 32) refl (some_word bs)
  where
    by_test : (t : Bool) → (b == 32) ≡ t → HasWord bs → HasWord (b ∷ bs)
    by_test true e more = ([], words_of bs, rw e refl)
    by_test false e more = (b ∷ more.0, more.1, rw (e, more.2) refl)

first_of : List (List ℕ) → List ℕ
first_of [] = []
first_of (w ∷ ws) = w

others_of : List (List ℕ) → List (List ℕ)
others_of [] = []
others_of (w ∷ ws) = ws

are_more : List (List ℕ) → Bool
are_more [] = false
are_more (w ∷ []) = false
are_more (w ∷ v ∷ ws) = true

-- two words are not one
pub not_one : (w v u : List ℕ) (ws : List (List ℕ)) → (w ∷ v ∷ ws) ≡ (u ∷ []) → ⊥
unfolding are_more
not_one w v u ws e = false≢true (sym (ap are_more e))

pub first_same : (w v : List ℕ) (ws vs : List (List ℕ)) → (w ∷ ws) ≡ (v ∷ vs) → w ≡ v
unfolding first_of
first_same w v ws vs e = ap first_of e

pub others_same : (w v : List ℕ) (ws vs : List (List ℕ)) → (w ∷ ws) ≡ (v ∷ vs) → ws ≡ vs
unfolding others_of
others_same w v ws vs e = ap others_of e

-- a line of one word is that word
pub lone_word : (line w : List ℕ) → words_of line ≡ w ∷ [] → w ≡ line
lone_word [] w e = sym (first_same _ _ _ _ e)
lone_word (b ∷ bs) w e = by_test (b == 32) refl (some_word bs) (lone_word bs)
  where
    by_test : (t : Bool) → (b == 32) ≡ t → HasWord bs → ((v : List ℕ) → words_of bs ≡ v ∷ [] → v ≡ bs) → w ≡ b ∷ bs
    by_test true t more again =
        let q : words_of (b ∷ bs) ≡ [] ∷ more.0 ∷ more.1 = rw (t, more.2) refl in
        absurd (not_one _ _ _ _ (sym q ∙ e))
    by_test false t more again =
        let q : words_of (b ∷ bs) ≡ (b ∷ more.0) ∷ more.1 = rw (t, more.2) refl in
        let same : (b ∷ more.0) ∷ more.1 ≡ w ∷ [] = sym q ∙ e in
        let none : more.1 ≡ [] = others_same _ _ _ _ same in
        sym (first_same _ _ _ _ same) ∙ ap (λ (l : List ℕ). b ∷ l) (again more.0 (more.2 ∙ ap (λ (ws : List (List ℕ)). more.0 ∷ ws) none))

-- the text begins with the word and a space
pub record Begins (text word : List ℕ) : Type 0 where
  pub fits : length word < length text
  pub ends : get_or text (length word) 0 ≡ 32
  pub same : (k : ℕ) → k < length word → get_or text k 0 ≡ get_or word k 0

-- a text of several words begins with the first and a space
pub begins_with : (text w v : List ℕ) (ws : List (List ℕ)) → words_of text ≡ w ∷ v ∷ ws → Begins text w
begins_with [] w v ws e = absurd (not_one _ _ _ _ (sym e))
begins_with (b ∷ bs) w v ws e = by_test (b == 32) refl (some_word bs) (λ (u : List ℕ). begins_with bs u v ws)
  where
    reads : (b : ℕ) (bs u : List ℕ) → Begins bs u → (k : ℕ) → k < length (b ∷ u) → get_or (b ∷ bs) k 0 ≡ get_or (b ∷ u) k 0
    reads b bs u h zero below = refl
    reads b bs u h (suc k) below = h.same k (omega arith)

    longer : (b : ℕ) (bs u : List ℕ) → Begins bs u → Begins (b ∷ bs) (b ∷ u)
    longer b bs u h = record { fits = omega (arith, h.fits); ends = h.ends; same = reads b bs u h }

    by_test : (t : Bool) → (b == 32) ≡ t → HasWord bs → ((u : List ℕ) → words_of bs ≡ u ∷ v ∷ ws → Begins bs u) → Begins (b ∷ bs) w
    by_test true t more again =
        let q : words_of (b ∷ bs) ≡ [] ∷ words_of bs = rw t refl in
        subst (Begins (b ∷ bs)) (first_same _ _ _ _ (sym q ∙ e))
        (record { fits = omega arith; ends = eqb-true b 32 t; same = λ k below. absurd (omega arith) })
    by_test false t more again =
        let q : words_of (b ∷ bs) ≡ (b ∷ more.0) ∷ more.1 = rw (t, more.2) refl in
        let both : (b ∷ more.0) ∷ more.1 ≡ w ∷ v ∷ ws = sym q ∙ e in
        let later : Begins bs more.0 = again more.0 (more.2 ∙ ap (λ (us : List (List ℕ)). more.0 ∷ us) (others_same _ _ _ _ both)) in
        subst (Begins (b ∷ bs)) (first_same _ _ _ _ both) (longer b bs more.0 later)

pub take_is : (text word : List ℕ) → length word ≤ length text → ((k : ℕ) → k < length word → get_or text k 0 ≡ get_or word k 0) → take (length word) text ≡ word
take_is [] [] fits same = refl
take_is (t ∷ text) [] fits same = refl
take_is [] (w ∷ word) fits same = absurd (omega arith)
take_is (t ∷ text) (w ∷ word) fits same =
    rw (same 0 (omega arith), take_is text word (omega arith) (λ k below. same (suc k) (omega arith))) refl

-- a text that begins with a word and a space has that first word
pub begun : (text word : List ℕ) → length word < length text → get_or text (length word) 0 ≡ 32 → ((k : ℕ) → k < length word → get_or text k 0 ≡ get_or word k 0)
    → ((k : ℕ) → k < length word → get_or word k 0 ≢ 32) → words_of text ≡ word ∷ words_of (drop (length word + 1) text)
begun text word fits ends same plain =
    let cut = first_of_words text (length word) fits ends (λ k below is. plain k below (sym (same k below) ∙ is)) in
    let is : take (length word) text ≡ word = take_is text word (omega arith) same in
    cut ∙ ap (λ (w : List ℕ). w ∷ words_of (drop (length word + 1) text)) is

-- a text that is the word, or has another first one
pub only_or_other : (text word : List ℕ) → ¬ Begins text word → (ws : List (List ℕ)) → words_of text ≡ word ∷ ws → ws ≡ []
only_or_other text word not [] e = refl
only_or_other text word not (v ∷ ws) e = absurd (not (begins_with text word v ws e))

pub too_short : (text word : List ℕ) → length text ≤ length word → (ws : List (List ℕ)) → words_of text ≡ word ∷ ws → ws ≡ []
too_short text word short = only_or_other text word (λ h. omega (arith, h.fits))

pub not_ended : (text word : List ℕ) → get_or text (length word) 0 ≢ 32 → (ws : List (List ℕ)) → words_of text ≡ word ∷ ws → ws ≡ []
not_ended text word other = only_or_other text word (λ h. other h.ends)

pub not_same : (text word : List ℕ) (k : ℕ) → k < length word → get_or text k 0 ≢ get_or word k 0 → (ws : List (List ℕ)) → words_of text ≡ word ∷ ws → ws ≡ []
not_same text word k below other = only_or_other text word (λ h. other (h.same k below))

-- what the cuts of lines and words need
pub ruleset texts = (first_of_lines, only_line, first_of_words, only_word, begun, too_short, not_ended, not_same, take_rest)
