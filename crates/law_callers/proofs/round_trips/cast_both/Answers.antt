-- Casts to one type keep equality and order.
use Rattle.law_callers.proofs.round_trips.cast_both.Goals as goal

pub returns-clause-ordered : goal.returns-clause-ordered
returns-clause-ordered c = (c.equality_and_order_are_kept.ensures.scalars _ _ c.in_ok-one.one c.in_ok-other.other _ c.requires.typed
    c.in_ok-one.ensures.one c.in_ok-other.ensures.one).1

pub returns-clause-equal : goal.returns-clause-equal
returns-clause-equal c = (c.equality_and_order_are_kept.ensures.scalars _ _ c.in_ok-one.one c.in_ok-other.other _ c.requires.typed
    c.in_ok-one.ensures.one c.in_ok-other.ensures.one).0
