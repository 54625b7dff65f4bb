-- What a search takes of a zone is what matches there.
use Rattle.std.proofs.Common.{◌≡◌, zero, suc, Bool, true, false, cond, List, [], ◌∷◌, ◌++◌, All, Contains, refl, sym, ap, ◌∙◌, arith}
use Rattle.std.proofs.lemmas.List.Elements.{filter-append}
use Rattle.std.specs.List.{filter, flat_map}
use Rattle.vortex_cells.specs.Cells.{cell_order}
use Rattle.vortex_cells.proofs.CellLaws.{IsOrder}
use Rattle.vortex_filter.specs.declared.truth.Truth.{Truth}
use Rattle.vortex_filter.specs.declared.truth.Truth.TheVariants.{False, Unknown, True}
use Rattle.vortex_filter.specs.Formula.{is_match, truth}
use Rattle.filter_pruning.specs.OutcomeSets.{is_only_true}
use Rattle.filter_pruning.specs.Outcomes.{outcomes}
use Rattle.filter_pruning.specs.Searching.{IsRightZone, SearchesFindAll, Zone, ZonesAreSearched, matching, taken_of}
use Rattle.vortex_filter.specs.Truths.{is_true}
use Rattle.filter_pruning.proofs.Soundness.{all_match, covered, none_match}

later : {X : Type 0} (y : X) (ys : List X) (x : X) → Contains ys x → Contains (y ∷ ys) x
later y ys x c = (suc c.0, omega (arith, c.1), c.2)

first : {X : Type 0} (y : X) (ys : List X) → Contains (y ∷ ys) y
first y ys = (zero, omega arith, refl)

filter_none : {X : Type 0} (p : X → Bool) (xs : List X) → ((x : X) → Contains xs x → p x ≡ false) → filter p xs ≡ []
filter_none p [] h = refl
filter_none p (y ∷ ys) h =
    ap (λ b. cond b (y ∷ filter p ys) (filter p ys)) (h y (first y ys)) ∙ filter_none p ys (λ x c. h x (later y ys x c))

filter_each : {X : Type 0} (p : X → Bool) (xs : List X) → ((x : X) → Contains xs x → p x ≡ true) → filter p xs ≡ xs
filter_each p [] h = refl
filter_each p (y ∷ ys) h =
    ap (λ b. cond b (y ∷ filter p ys) (filter p ys)) (h y (first y ys)) ∙ ap (λ zs. y ∷ zs) (filter_each p ys (λ x c. h x (later y ys x c)))

not_true : (t : Truth) → ¬ (t ≡ True) → is_true t ≡ false
not_true False h = refl
not_true Unknown h = refl
not_true True h = absurd (h refl)

first_of : (P : Zone → Type 0) (z : Zone) (zs : List Zone) → All P (z ∷ zs) → P z
first_of P z zs h = h 0 z (omega arith)

rest_of : (P : Zone → Type 0) (z : Zone) (zs : List Zone) → All P (z ∷ zs) → All P zs
rest_of P z zs h = λ k d l. h (suc k) d (omega (arith, l))

module _ (law : IsOrder cell_order) where
  pub zone_searched : ZonesAreSearched
  zone_searched f z right = by_may ((outcomes f z.statistics).may_be_true) (is_only_true (outcomes f z.statistics)) refl refl
    where
      by_may : (b c : Bool) → (outcomes f z.statistics).may_be_true ≡ b → is_only_true (outcomes f z.statistics) ≡ c → cond b (cond c z.rows (matching f z.rows)) [] ≡ matching f z.rows
      by_may false c e g = sym (filter_none (is_match f) z.rows (λ row k. not_true (truth f row) (none_match f z.statistics (outcomes f z.statistics) (covered law f z.statistics) e z.rows right row k)))
      by_may true true e g = sym (filter_each (is_match f) z.rows (λ row k. ap is_true (all_match f z.statistics (outcomes f z.statistics) (covered law f z.statistics) g z.rows right row k)))
      by_may true false e g = refl

  pub zones_searched : SearchesFindAll
  zones_searched f [] right = refl
  zones_searched f (z ∷ zs) right =
      ap (λ rows. rows ++ flat_map (taken_of f) zs) (zone_searched f z (first_of IsRightZone z zs right))
      ∙ ap (λ rows. matching f z.rows ++ rows) (zones_searched f zs (rest_of IsRightZone z zs right))
      ∙ sym (filter-append (is_match f) z.rows (flat_map (λ (y : Zone). y.rows) zs))
