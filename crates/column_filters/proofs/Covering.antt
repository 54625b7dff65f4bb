-- The byte of a zone has the truth of each of its rows, whatever the cells of columns of which nothing is known.
use Rattle.std.proofs.Common.{◌≡◌, ◌≢◌, ℕ, ◌+◌, ◌<◌, ◌⊎◌, inl, inr, Bool, true, false, List, [], ◌∷◌, length, get_or, refl, sym, subst, ◌∙◌, arith, lit<}
use Rattle.std.proofs.lemmas.Bool.{false≢true}
use Rattle.std.proofs.lemmas.Option.{same_Some, slice_get-get_or, slice_get_within}
use Rattle.vortex_dtype.specs.TypeTree.{TypeTree, null_type}
use Rattle.named_statistics.specs.Named.{SaysNamed}
use Rattle.statistics_bytes.specs.Pieces.{nothing_known}
use Rattle.vortex_cells.specs.Cells.{Cell, cell_order}
use Rattle.vortex_statistics.specs.Statistics.{AreRight, Known}
use Rattle.vortex_cells.proofs.CellLaws.{IsOrder}
use Rattle.vortex_filter.specs.Formula.{Formula, truth}
use Rattle.vortex_filter.specs.Named.{IsNamed}
use Rattle.filter_pruning.specs.OutcomeSets.{allows}
use Rattle.filter_pruning.specs.Outcomes.{outcomes}
use Rattle.filter_pruning.specs.Pruning.{AreOpen, AreStatisticsOf, column}
use Rattle.vortex_filter.specs.declared.truth.Truth.{Truth}
use Rattle.vortex_filter.specs.declared.truth.Truth.TheVariants.{False, Unknown, True}
use Rattle.filter_pruning.proofs.Soundness.{covered}
use Rattle.column_filters.proofs.Deciding.{named-or-not}
use Rattle.column_filters.specs.Zones.{AreKnown, ArePiecesRight, IsAmong, IsSaid, OutcomesCoverRows, outcomes_byte, piece_at}

-- ---- pieces

open_known : AreOpen nothing_known
open_known = record { rows = lit< tt; nulls = refl; lower = refl; upper = refl }

-- a piece has bytes, or leaves all open
open-or-bytes : (t : TypeTree) (piece : List ℕ) (s : Known) → SaysNamed t piece s → AreOpen s ⊎ (piece ≢ [])
open-or-bytes t [] s says = inl (subst AreOpen (sym says) open_known)
open-or-bytes t (b ∷ piece) s says = inr (λ e. absurd cc)

right-or-open : (f : Formula) (types : List TypeTree) (bytes offsets : List ℕ) (p : ℕ) (rows : List (List Cell)) (k : ℕ) (s : Known) → ArePiecesRight f types bytes offsets p rows → IsNamed f k → k < length types → IsSaid (get_or types k null_type) bytes offsets (p + k) s
    → AreOpen s ⊎ (piece_at bytes offsets (p + k) ≢ []) → AreOpen s ⊎ AreRight s (column k rows)
right-or-open f types bytes offsets p rows k s right n inside said (inl open') = inl open'
right-or-open f types bytes offsets p rows k s right n inside said (inr some) = inr (right k s n inside some said)

-- what is known of a zone is known of its rows
known_of_rows : (f : Formula) (types : List TypeTree) (bytes offsets : List ℕ) (p : ℕ) (rows : List (List Cell)) (ss : List Known) → AreKnown f types bytes offsets p (length types) ss → ArePiecesRight f types bytes offsets p rows → AreStatisticsOf ss rows
known_of_rows f types bytes offsets p rows ss all right k s got = by_name (named-or-not f k)
  where
    here : k < length ss
    here = slice_get_within ss k s got

    is : get_or ss k nothing_known ≡ s
    is = same_Some (get_or ss k nothing_known) s (sym (slice_get-get_or ss k nothing_known here) ∙ got)

    by_name : IsNamed f k ⊎ (¬ (IsNamed f k)) → AreOpen s ⊎ AreRight s (column k rows)
    by_name (inl n) =
        let inside : k < length types = omega (arith, all.all, here) in
        let said : IsSaid (get_or types k null_type) bytes offsets (p + k) s = subst (IsSaid (get_or types k null_type) bytes offsets (p + k)) is (all.said k inside n) in
        right-or-open f types bytes offsets p rows k s right n inside said (open-or-bytes (get_or types k null_type) (piece_at bytes offsets (p + k)) s said.says)
    by_name (inr other) = inl (subst AreOpen (sym (sym is ∙ all.others k other)) open_known)

-- ---- the byte

among : (a b c : Bool) (t : Truth) → allows (record { may_be_false = a; may_be_unknown = b; may_be_true = c }) t ≡ true → IsAmong (outcomes_byte (record { may_be_false = a; may_be_unknown = b; may_be_true = c })) t
among true true true False h = refl
among true true false False h = refl
among true false true False h = refl
among true false false False h = refl
among false b c False h = absurd (false≢true h)
among true true true Unknown h = refl
among true true false Unknown h = refl
among false true true Unknown h = refl
among false true false Unknown h = refl
among a false c Unknown h = absurd (false≢true h)
among true true true True h = refl
among true false true True h = refl
among false true true True h = refl
among false false true True h = refl
among a b false True h = absurd (false≢true h)

module _ (law : IsOrder cell_order) where
  pub covers : OutcomesCoverRows
  covers f types bytes offsets p byte outcome rows right row within =
      let ss : List Known = outcome.statistics in
      let o = outcomes f ss in
      let allowed : allows o (truth f row) ≡ true = covered law f ss rows (known_of_rows f types bytes offsets p rows ss outcome.are_known right) row within in
      subst (λ b. IsAmong b (truth f row)) (sym outcome.is) (among o.may_be_false o.may_be_unknown o.may_be_true (truth f row) allowed)
