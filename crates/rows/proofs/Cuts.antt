-- A text is cut into lines, and a line into words, at the first offset of a byte.
use Rattle.std.proofs.Common.{◌≡◌, ◌≢◌, ℕ, ◌==◌, ◌<◌, ◌+◌, suc, zero, List, [], ◌∷◌, length, get_or, take, drop, refl, sym, ◌∙◌, subst, arith, add-one}
use Rattle.std.proofs.lemmas.Bool.{eq-eqb, ne_eqb}
use Rattle.std.proofs.lemmas.Grind.{get_or_default_zero}
use Rattle.std.proofs.lemmas.List.Splits.{slice_split_first, slice_split_none}
use Rattle.std.proofs.lemmas.List.Sums.{position_or_len_is}
use Rattle.std.specs.List.{position_or_len}
use Rattle.rows.specs.Lines.{lines_of, words_of}

lines_at : (bs : List ℕ) (i : ℕ) → i < length bs → get_or bs i 0 ≡ 10 → ((k : ℕ) → k < i → get_or bs k 0 ≢ 10) → lines_of bs ≡ take i bs ∷ lines_of (drop (suc i) bs)
lines_at [] i inside here before = absurd (omega arith)
lines_at (b ∷ bs) zero inside here before = rw (eq-eqb b 10 here) refl
lines_at (b ∷ bs) (suc i) inside here before =
    rw (ne_eqb b 10 (before 0 (omega arith)), lines_at bs i (omega arith) here (λ k below. before (suc k) (omega arith))) refl

-- the first line ends at the first line feed
pub first_of_lines : (bs : List ℕ) (i : ℕ) → i < length bs → get_or bs i 0 ≡ 10 → ((k : ℕ) → k < i → get_or bs k 0 ≢ 10) → lines_of bs ≡ take i bs ∷ lines_of (drop (i + 1) bs)
first_of_lines bs i inside here before = rw add-one (lines_at bs i inside here before)

-- without a line feed there is one line
pub only_line : (bs : List ℕ) → 0 < length bs → ((k : ℕ) → k < length bs → get_or bs k 0 ≢ 10) → lines_of bs ≡ bs ∷ []
only_line [] some others = absurd (omega arith)
only_line (b ∷ []) some others = rw (ne_eqb b 10 (others 0 (omega arith))) refl
only_line (b ∷ c ∷ bs) some others =
    rw (ne_eqb b 10 (others 0 (omega arith)), only_line (c ∷ bs) (omega arith) (λ k below. others (suc k) (omega arith))) refl

-- the first word ends at the first space
pub first_of_words : (bs : List ℕ) (i : ℕ) → i < length bs → get_or bs i 0 ≡ 32 → ((k : ℕ) → k < i → get_or bs k 0 ≢ 32) → words_of bs ≡ take i bs ∷ words_of (drop (i + 1) bs)
first_of_words bs i inside here before =
    let at : position_or_len (λ b. b == 32) bs ≡ i =
    position_or_len_is (λ b. b == 32) bs i 0 (omega arith) (λ k below. ne_eqb _ _ (before k below)) (λ _. eq-eqb _ _ here) in
    let cut = slice_split_first (λ b. b == 32) bs 0 (subst (λ (k : ℕ). k < length bs) (sym at) inside) in
    subst (λ (k : ℕ). words_of bs ≡ take k bs ∷ words_of (drop (k + 1) bs)) at cut

-- without a space there is one word
pub only_word : (bs : List ℕ) → ((k : ℕ) → k < length bs → get_or bs k 0 ≢ 32) → words_of bs ≡ bs ∷ []
only_word bs others =
    slice_split_none (λ b. b == 32) bs (λ k d inside. ne_eqb _ _ (λ is. others k inside (sym (get_or_default_zero bs k d inside) ∙ is)))
