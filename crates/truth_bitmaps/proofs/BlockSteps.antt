-- Words that are written one after the other.
use Rattle.std.proofs.Common.{◌≡◌, ◌∙◌, ℕ, ◌+◌, ◌*◌, ◌/◌, ◌%◌, ◌<◌, ◌≤◌, ◌⊎◌, inl, inr, Bool, List, Option, length, ap, arith, sym, subst, slice_index_or, slice_set}
use Rattle.std.proofs.lemmas.List.{get_or-set_other, get_or-set_same, length-set}
use Rattle.truth_bitmaps.specs.Truths.{is_set, no_row, truth_at, truth_in, under_null}
use Rattle.truth_bitmaps.specs.declared.words.TruthWord.{TruthWord}

-- the words before this one have these truth values, and the others are as they were
pub record Written (truth : ℕ → ℕ → Option Bool) (before now : List TruthWord) (k : ℕ) : Type 0 where
  pub size : length now ≡ length before
  pub done : (j : ℕ) → j < k → (row : ℕ) → row < 64 → truth_in (slice_index_or now j no_row) row ≡ truth j row
  pub rest : (j : ℕ) → k ≤ j → slice_index_or now j no_row ≡ slice_index_or before j no_row

-- the rows of all words
pub all-rows : (truth : ℕ → ℕ → Option Bool) (before now : List TruthWord) (k : ℕ) → Written truth before now k → length before ≤ k
    → (row : ℕ) → row < 64 * length before → truth_at now row ≡ truth (row / 64) (row % 64)
all-rows truth before now k written end row below = written.done (row / 64) (omega arith) (row % 64) (omega arith)

-- one word more
pub step : (truth : ℕ → ℕ → Option Bool) (before now : List TruthWord) (k : ℕ) (w : TruthWord) → Written truth before now k → k < length now
    → ((row : ℕ) → row < 64 → truth_in w row ≡ truth k row) → Written truth before (slice_set now k w) (k + 1)
step truth before now k w written within is = record {
  size = length-set now k w ∙ written.size;
  done = λ j below row small. elim (earlier j below) [
    | inl l ↦ ap (λ v. truth_in v row) (get_or-set_other now k j w no_row (λ e. omega arith)) ∙ written.done j l row small
    | inr e ↦ subst (λ i. truth_in (slice_index_or (slice_set now k w) i no_row) row ≡ truth i row) (sym e) (ap (λ v. truth_in v row) (get_or-set_same now k w no_row within) ∙ is row small)
  ];
  rest = λ j above. get_or-set_other now k j w no_row (λ e. omega arith) ∙ written.rest j (omega arith);
}
  where
    earlier : (j : ℕ) → j < k + 1 → (j < k) ⊎ (j ≡ k)
    earlier j below = search (arith)

-- a truth value of two, of which the first is as it was
pub of-both : (f : Option Bool → Option Bool → Option Bool) (w a b v : TruthWord) → a ≡ v
    → ((row : ℕ) → row < 64 → truth_in w row ≡ f (truth_in a row) (truth_in b row)) → (row : ℕ) → row < 64 → truth_in w row ≡ f (truth_in v row) (truth_in b row)
of-both f w a b v e is row small = is row small ∙ ap (λ u. f (truth_in u row) (truth_in b row)) e

-- one word more that is decided
pub more-rows : (t : Option Bool) (words : List TruthWord) (k : ℕ) → ((row : ℕ) → row < 64 * k → truth_at words row ≡ t)
    → ((row : ℕ) → row < 64 → truth_in (slice_index_or words k no_row) row ≡ t) → (row : ℕ) → row < 64 * (k + 1) → truth_at words row ≡ t
more-rows t words k before word row below = elim place [
  | inl l ↦ before row l
  | inr e ↦ subst (λ j. truth_in (slice_index_or words j no_row) (row % 64) ≡ t) (sym e) (word (row % 64) (omega arith))
]
  where
    place : (row < 64 * k) ⊎ (row / 64 ≡ k)
    place = search (arith)

-- the rows of one of so many words
pub of-word : (t : Option Bool) (words : List TruthWord) (n k : ℕ) → ((row : ℕ) → row < 64 * n → truth_at words row ≡ t) → k < n
    → (row : ℕ) → row < 64 → truth_in (slice_index_or words k no_row) row ≡ t
of-word t words n k all below row small =
    let q : (64 * k + row) / 64 ≡ k = omega arith in
    let m : (64 * k + row) % 64 ≡ row = omega arith in
    subst (λ j. truth_in (slice_index_or words j no_row) row ≡ t) q (subst (λ r. truth_in (slice_index_or words ((64 * k + row) / 64) no_row) r ≡ t) m (all (64 * k + row) (omega arith)))

-- a truth value under a bitmap of validity
pub marked : (w a v : TruthWord) (valid : ℕ) (is_valid : ℕ → Bool) → a ≡ v → ((row : ℕ) → row < 64 → is_set valid row ≡ is_valid row)
    → ((row : ℕ) → row < 64 → truth_in w row ≡ under_null (is_set valid row) (truth_in a row)) → (row : ℕ) → row < 64 → truth_in w row ≡ under_null (is_valid row) (truth_in v row)
marked w a v valid is_valid e bits is row small =
    is row small ∙ ap (λ b. under_null b (truth_in a row)) (bits row small) ∙ ap (λ u. under_null (is_valid row) (truth_in u row)) e
