-- The list comes back by the law of casts there and back, and both casts are possible by the cases of contents.
use Rattle.std.proofs.Common.{◌≡◌, Err, rules}
use Rattle.vortex_dtype.specs.TypeOf.{type_of}
use Rattle.law_callers.proofs.ListCasts.{back_again, can_widen, if_both, if_refused, only_memory, refused_with}
use Rattle.law_callers.proofs.round_trips.widened_and_back.Goals as goal

pub returns-in_err-widened-clause-refused : goal.returns-in_err-widened-clause-refused
returns-in_err-widened-clause-refused c =
    let can = can_widen c.has_by_cases.ensures _ (type_of c.in_ok-longs.longs) _ c.requires.typed c.in_ok-longs.ensures.made c.requires.valid in
    let is : c.from_residual-in_err-widened.result ≡ Err c.in_err-widened.field-0.0 = search rules in
    refused_with _ _ _ is (only_memory _ _ _ can.0 c.in_err-widened.ensures.refuses_only)

pub returns-clause-came_back : goal.returns-clause-came_back
returns-clause-came_back c =
    if_both c.cast-2.result _ _ _ c.cast-2.ensures.succeeds_only c.cast-2.ensures.one
    (λ back can one. back_again c.calls_are_chains.ensures c.there_and_back.ensures _ c.in_ok-widened.widened back _
    c.requires.valid c.in_ok-widened.ensures.succeeds_only c.in_ok-widened.ensures.one can one)

pub returns-clause-refused : goal.returns-clause-refused
returns-clause-refused c =
    let can = can_widen c.has_by_cases.ensures _ (type_of c.in_ok-longs.longs) _ c.requires.typed c.in_ok-longs.ensures.made c.requires.valid in
    let one = c.in_ok-widened.ensures.one in
    if_refused c.cast-2.result _ _ (rw one.typed (rw one.same can.1)) c.cast-2.ensures.refuses_only
