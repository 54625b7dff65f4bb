-- Merged statistics are right, and complete, for the cells of both pieces.
use Rattle.std.proofs.Common.{◌≡◌, inl, inr, ◌+◌, ◌<◌, ◌^◌, Bool, true, false, List, [], ◌∷◌, ◌++◌, is_some, refl, sym, subst, fold, append_assoc, arith, length-append}
use Rattle.std.proofs.lemmas.List.{append-nil}
use Rattle.vortex_value.specs.Order.{IsReversed, IsTransitive, order}
use Rattle.vortex_cells.specs.Cells.{AllCompare, Cell, cell_order, order_from_above}
use Rattle.vortex_statistics.specs.Merging.{AnyGroupingIsRight, AreEachRight, AreRightForAll, AreRightTogether, bound_of_both, bound_order, both, joined_cells, merged, no_piece, nothing, piece}
use Rattle.vortex_statistics.specs.Statistics.{AreComplete, AreRight, HasExactBounds, IsBoundedFor, Known, may_be_value}
use Rattle.vortex_statistics.proofs.BoundLaws.{both_bound, both_exact, both_there, value_cases, value_left, value_right}
use Rattle.vortex_cells.proofs.CellLaws.{IsOrder, from_above, from_below}
use Rattle.vortex_statistics.proofs.CountLaws.{no_value, sum_fits, sum_right, value_there}

module _ (rev : IsReversed order) (trans : IsTransitive order) where
  below : IsOrder cell_order
  below = from_below rev trans

  above : IsOrder order_from_above
  above = from_above (from_below rev trans)

  pub merged_right : (s t : Known) → AreRightTogether s t (merged s t)
  merged_right s t cells others h k = record {
    rows = omega (arith, length-append cells others, h.rows, k.rows);
    nulls = sum_right cells others s.null_count t.null_count h.nulls k.nulls;
    lower = both_bound cell_order below cells others (may_be_value s) (may_be_value t) s.lower t.lower (λ e. no_value s e cells h) (λ e. no_value t e others k) h.lower k.lower;
    upper = both_bound order_from_above above cells others (may_be_value s) (may_be_value t) s.upper t.upper (λ e. no_value s e cells h) (λ e. no_value t e others k) h.upper k.upper;
  }

  merged_exact : (s t : Known) → HasExactBounds s → HasExactBounds t → HasExactBounds (merged s t)
  merged_exact s t e f = record {
    lower = both_exact (bound_order cell_order s.lower t.lower) (may_be_value s) (may_be_value t) s.lower t.lower e.lower f.lower;
    upper = both_exact (bound_order order_from_above s.upper t.upper) (may_be_value s) (may_be_value t) s.upper t.upper e.upper f.upper;
  }

  merged_bounded : (s t : Known) (cells others : List Cell) → AreComplete s cells → AreComplete t others → IsBoundedFor (cells ++ others) (merged s t)
  merged_bounded s t cells others h k compare x v = by_values (may_be_value s) (may_be_value t) refl refl
    where
      left : AllCompare cells
      left y z p q = compare y z (value_left cells others y p) (value_left cells others z q)

      right : AllCompare others
      right y z p q = compare y z (value_right cells others y p) (value_right cells others z q)

      by_values : (p q : Bool) → may_be_value s ≡ p → may_be_value t ≡ q
          → (is_some (bound_of_both (bound_order cell_order s.lower t.lower) p q s.lower t.lower) ≡ true) × (is_some (bound_of_both (bound_order order_from_above s.upper t.upper) p q s.upper t.upper) ≡ true)
      by_values true true i j =
          let u = value_there s cells h.right h.counted i in
          let w = value_there t others k.right k.counted j in
          let bs = h.bounded left u.0 u.1 in
          let bt = k.bounded right w.0 w.1 in (
            both_there cell_order below cells others s.lower t.lower compare h.right.lower k.right.lower h.exact.lower k.exact.lower bs.0 bt.0,
            both_there order_from_above above cells others s.upper t.upper (λ y z p q. compare z y q p) h.right.upper k.right.upper h.exact.upper k.exact.upper bs.1 bt.1,
          )
      by_values true false i j = let u = value_there s cells h.right h.counted i in h.bounded left u.0 u.1
      by_values false true i j = let w = value_there t others k.right k.counted j in k.bounded right w.0 w.1
      by_values false false i j = absurd (elim (value_cases cells others x v) [
        | inl c ↦ no_value s i cells h.right x c
        | inr c ↦ no_value t j others k.right x c
      ])

  pub merged_complete : (s t : Known) → s.row_count + t.row_count < 2 ^ 64 → (cells others : List Cell) → AreComplete s cells → AreComplete t others → AreComplete (merged s t) (cells ++ others)
  merged_complete s t fits cells others h k = record {
    right = merged_right s t cells others h.right k.right;
    counted = sum_fits cells others s.row_count t.row_count s.null_count t.null_count h.counted k.counted h.right.rows k.right.rows h.right.nulls k.right.nulls fits;
    exact = merged_exact s t h.exact k.exact;
    bounded = merged_bounded s t cells others h k;
  }

  pub any_grouping : AnyGroupingIsRight
  any_grouping no_piece h = record { rows = refl; nulls = refl; lower = tt; upper = tt }
  any_grouping (piece s cells) h = h
  any_grouping (both p q) h = merged_right _ _ _ _ (any_grouping p h.0) (any_grouping q h.1)

  -- statistics merged from the first to the last
  fold_right : (s : Known) (ss : List Known) (cells : List Cell) (pieces : List (List Cell)) → AreRight s cells → AreEachRight ss pieces → AreRight (fold merged s ss) (cells ++ joined_cells pieces)
  fold_right s [] cells [] h k = let P : List Cell → Type 0 = λ c. AreRight s c in subst P (sym (append-nil cells)) h
  fold_right s [] cells (p ∷ pieces) h k = absurd k
  fold_right s (t ∷ ts) cells [] h k = absurd k
  fold_right s (t ∷ ts) cells (p ∷ pieces) h k =
      let P : List Cell → Type 0 = λ c. AreRight (fold merged (merged s t) ts) c in
      subst P (append_assoc cells p (joined_cells pieces)) (fold_right (merged s t) ts (cells ++ p) pieces (merged_right s t cells p h k.0) k.1)

  pub all_right : (ss : List Known) → AreRightForAll ss (fold merged nothing ss)
  all_right ss pieces h = fold_right nothing ss [] pieces (record { rows = refl; nulls = refl; lower = tt; upper = tt }) h
