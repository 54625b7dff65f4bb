-- Prefixes by their order to the beginning.
use Rattle.std.proofs.Common.{◌≡◌, ℕ, ◌<◌, Bool, true, false, cond, List, length, take, Option, Some, None, option_map, Bor, Ordering, refl, sym, ap, ◌∙◌, arith}
use Rattle.std.proofs.lemmas.List.{take_all}
use Rattle.std.specs.Cmp.Lexicographic.{texts_ties}
use Rattle.std.specs.Ordering.{is_eq}
use Rattle.vortex_value.specs.Equality.{same_type}
use Rattle.vortex_value.specs.Values.Content.{Content, text, string}
use Rattle.vortex_value.specs.declared.scalars.Scalar.{Scalar}
use Rattle.vortex_cells.specs.Cells.{Cell, cell_of}
use Rattle.vortex_filter.specs.Formula.{lent_cell}
use Rattle.vortex_filter.specs.Prefixes.{begins, begins_truth, cell_begins, cell_prefix_order, prefix_order, prefix_truth}

begins_by_order : (d p : Content) → begins d p ≡ option_map is_eq (prefix_order d p)
begins_by_order (text bs) (text ps) = ap Some (texts_ties ps (take (length ps) bs))
begins_by_order (string bs) (string ps) = ap Some (texts_ties ps (take (length ps) bs))
begins_by_order _ _ = refl

-- a cell begins with what is equal to its beginning
pub begins_as_ordered : (x p : Cell) → cell_begins x p ≡ option_map is_eq (cell_prefix_order x p)
begins_as_ordered x p = by_types (same_type x.typed p.typed) (begins_by_order x.content p.content)
  where
    by_types : (b : Bool) → begins x.content p.content ≡ option_map is_eq (prefix_order x.content p.content)
        → cond b (begins x.content p.content) None ≡ option_map is_eq (cond b (prefix_order x.content p.content) None)
    by_types true h = h
    by_types false h = refl

-- a list shorter than the prefix is its own beginning
pub take_whole : (bs ps : List ℕ) → length bs < length ps → take (length ps) bs ≡ bs
take_whole bs ps h = take_all (length ps) bs (omega arith)

-- a cell that is lent begins with the prefix by the order that was found
pub begins_when : (cell : Option (Bor Scalar)) (x : Bor Scalar) (p : Cell) (o : Option Ordering) → cell ≡ Some x → o ≡ cell_prefix_order (cell_of x.now) p
    → prefix_truth (lent_cell cell) p ≡ begins_truth (option_map is_eq o)
begins_when cell x p o e h =
    ap (λ c. prefix_truth (lent_cell c) p) e ∙ ap begins_truth (begins_as_ordered (cell_of x.now) p) ∙ ap (λ y. begins_truth (option_map is_eq y)) (sym h)
