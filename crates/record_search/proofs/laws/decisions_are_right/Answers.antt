use Rattle.vortex_cells.proofs.CellLaws.{from_below}
use Rattle.record_search.specs.Searched.{row_under}
use Rattle.record_search.proofs.SearchLaws.{decided_all, decided_none}
use Rattle.record_search.proofs.laws.decisions_are_right.Goals as goal

pub returns : goal.returns
returns c =
    let law = from_below c.order_is_reversed.ensures.contents c.order_is_transitive.ensures.contents in
    let apart = c.keys_are_apart.ensures in
    let untyped = c.values_have_no_typed.ensures in
    record {
      none = λ s f bytes records e described. decided_none law apart untyped s.columns.items f (row_under s) bytes records e described;
      all = λ s f bytes records e described. decided_all law apart untyped s.columns.items f (row_under s) bytes records e described;
    }
