-- What a filter can be on the rows of a zone is decided by the columns that it names.
use Rattle.std.proofs.Common.{◌≡◌, ◌∙◌, ℕ, ◌+◌, ◌<◌, ◌≤◌, ◌⊎◌, inl, inr, List, [], ◌∷◌, length, get_or, refl, sym, ap, ap₂, arith}
use Rattle.std.specs.Prelude.{Option, Some, slice_get}
use Rattle.std.proofs.lemmas.Bool.{cases_lt}
use Rattle.std.proofs.lemmas.List.{append_cancel_left}
use Rattle.std.proofs.lemmas.Option.{slice_get-get_or, slice_get_past}
use Rattle.vortex_dtype.specs.TypeTree.{TypeTree, null_type}
use Rattle.vortex_statistics.specs.Statistics.{Known}
use Rattle.statistics_bytes.specs.Encoding.{EncodingsTellStatistics, encoding}
use Rattle.statistics_bytes.specs.Pieces.{nothing_known}
use Rattle.named_statistics.specs.Heads.{head_of}
use Rattle.named_statistics.specs.Named.{SaysNamed}
use Rattle.vortex_filter.specs.Formula.{Formula, both, comparison, constant, either, membership, negation, null_test, pattern_test, prefix_test, range}
use Rattle.vortex_filter.specs.Named.{IsNamed}
use Rattle.filter_pruning.specs.OutcomeSets.{outcomes_and, outcomes_not, outcomes_or}
use Rattle.filter_pruning.specs.Outcomes.{compare_outcomes, member_outcomes, null_outcomes, outcomes, prefix_outcomes, range_outcomes}
use Rattle.filter_pruning.specs.PatternOutcomes.{pattern_outcomes}
use Rattle.column_filters.specs.Zones.{AreSaid, NamedPiecesDecide, outcomes_byte, piece_at}

-- ---- whether a column is named

one-or-other : (j k : ℕ) → (j ≡ k) ⊎ (¬ (j ≡ k))
one-or-other j k = by_order (cases_lt j k) (cases_lt k j)
  where
    by_order : (j < k) ⊎ (k ≤ j) → (k < j) ⊎ (j ≤ k) → (j ≡ k) ⊎ (¬ (j ≡ k))
    by_order (inl below) _ = inr (λ e. omega arith)
    by_order (inr above) (inl over) = inr (λ e. omega arith)
    by_order (inr above) (inr under) = inl (omega arith)

of-two : {A B : Type 0} → A ⊎ (¬ A) → B ⊎ (¬ B) → (A ⊎ B) ⊎ (¬ (A ⊎ B))
of-two (inl a) _ = inl (inl a)
of-two (inr neither) (inl b) = inl (inr b)
of-two (inr neither) (inr nor) = inr (λ h. elim h [ inl a ↦ neither a | inr b ↦ nor b ])

pub named-or-not : (f : Formula) (k : ℕ) → IsNamed f k ⊎ (¬ (IsNamed f k))
named-or-not (constant t) k = inr (λ h. h)
named-or-not (comparison j op literal) k = one-or-other j k
named-or-not (null_test j) k = one-or-other j k
named-or-not (membership j literals) k = one-or-other j k
named-or-not (range j lower upper) k = one-or-other j k
named-or-not (prefix_test j prefix) k = one-or-other j k
named-or-not (pattern_test j case parts) k = one-or-other j k
named-or-not (both p q) k = of-two (named-or-not p k) (named-or-not q k)
named-or-not (either p q) k = of-two (named-or-not p k) (named-or-not q k)
named-or-not (negation p) k = named-or-not p k

-- ---- outcomes

-- statistics that are the same for the named columns have the same outcomes
same-outcomes : (f : Formula) (ss rs : List Known) → ((k : ℕ) → IsNamed f k → slice_get ss k ≡ slice_get rs k) → outcomes f ss ≡ outcomes f rs
same-outcomes (constant t) ss rs h = refl
same-outcomes (comparison k op literal) ss rs h = ap (λ (s : Option Known). compare_outcomes s op literal) (h k refl)
same-outcomes (null_test k) ss rs h = ap null_outcomes (h k refl)
same-outcomes (membership k literals) ss rs h = ap (λ (s : Option Known). member_outcomes s literals) (h k refl)
same-outcomes (range k lower upper) ss rs h = ap (λ (s : Option Known). range_outcomes s lower upper) (h k refl)
same-outcomes (prefix_test k prefix) ss rs h = ap (λ (s : Option Known). prefix_outcomes s prefix) (h k refl)
same-outcomes (pattern_test k case parts) ss rs h = ap (λ (s : Option Known). pattern_outcomes s case parts) (h k refl)
same-outcomes (both p q) ss rs h = ap₂ outcomes_and (same-outcomes p ss rs (λ k n. h k (inl n))) (same-outcomes q ss rs (λ k n. h k (inr n)))
same-outcomes (either p q) ss rs h = ap₂ outcomes_or (same-outcomes p ss rs (λ k n. h k (inl n))) (same-outcomes q ss rs (λ k n. h k (inr n)))
same-outcomes (negation p) ss rs h = ap outcomes_not (same-outcomes p ss rs h)

-- ---- what pieces say

module _ (law : EncodingsTellStatistics) where
  -- a piece says one thing
  says-one : (t : TypeTree) (piece : List ℕ) (s r : Known) → SaysNamed t piece s → SaysNamed t piece r → s ≡ r
  says-one t [] s r is also = is ∙ sym also
  says-one t (b ∷ bytes) s r is also = law t s r is.0 also.0 (append_cancel_left (head_of t) (encoding s) (encoding r) (sym is.1 ∙ also.1))

  same-known : (f : Formula) (types : List TypeTree) (bytes offsets : List ℕ) (p : ℕ) (ss rs : List Known) → length ss ≡ length types → length rs ≡ length types → AreSaid f types bytes offsets p (length types) ss
      → AreSaid f types bytes offsets p (length types) rs → (k : ℕ) → IsNamed f k → slice_get ss k ≡ slice_get rs k
  same-known f types bytes offsets p ss rs all as_many said also k n = by_place (cases_lt k (length types))
    where
      by_place : (k < length types) ⊎ (length types ≤ k) → slice_get ss k ≡ slice_get rs k
      by_place (inl here) =
          let one : get_or ss k nothing_known ≡ get_or rs k nothing_known =
          says-one (get_or types k null_type) (piece_at bytes offsets (p + k)) (get_or ss k nothing_known) (get_or rs k nothing_known) (said k here n).says (also k here n).says in
          slice_get-get_or ss k nothing_known (omega (arith, here, all)) ∙ ap Some one ∙ sym (slice_get-get_or rs k nothing_known (omega (arith, here, as_many)))
      by_place (inr past) = slice_get_past ss k (omega (arith, past, all)) ∙ sym (slice_get_past rs k (omega (arith, past, as_many)))

  pub named_decide : NamedPiecesDecide
  named_decide f types bytes offsets p byte outcome statistics as_many said =
      outcome.is
      ∙ ap outcomes_byte (same-outcomes f outcome.statistics statistics (same-known f types bytes offsets p outcome.statistics statistics outcome.are_known.all as_many outcome.are_known.said said))
