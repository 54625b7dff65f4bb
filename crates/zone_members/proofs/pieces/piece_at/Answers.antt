-- A piece more, the piece that is sought, and none.
use Rattle.std.proofs.Common.{◌≡◌, None, sym, ap, ◌∙◌, arith, rules, slice_get}
use Rattle.std.specs.Option.{option_copied}
use Rattle.zone_members.proofs.PieceLaws.{next_piece, none_later}
use Rattle.zone_members.proofs.pieces.piece_at.Goals as goal

pub returns-in_err-after : goal.returns-in_err-after
returns-in_err-after c = λ count all are.
    let gone : option_copied c.from_residual.result ≡ None = search rules in
    gone ∙ none_later all c.loop.counter c.args.place c.loop.rest.now are.fit (c.loop.invariant count all are) (search rules) (omega arith)

pub loop-preserved : goal.loop-preserved
loop-preserved c = λ count all are.
    (next_piece all c.loop.counter c.loop.rest.now c.in_ok-after.field-0-0.now c.in_ok-after.after.now are.fit (c.loop.invariant count all are) (search rules)).after_is

pub returns-in_err-piece : goal.returns-in_err-piece
returns-in_err-piece c = λ count all are.
    let gone : option_copied c.from_residual-in_err-piece.result ≡ None = search rules in
    gone ∙ none_later all c.loop.counter c.args.place c.loop.rest.now are.fit (c.loop.invariant count all are) (search rules) (omega arith)

pub returns : goal.returns
returns c = λ count all are.
    let here : c.loop.counter ≡ c.args.place = omega arith in
    sym (next_piece all c.loop.counter c.loop.rest.now c.in_ok-piece.piece.now c.in_ok-piece.field-0-1.now are.fit (c.loop.invariant count all are) (search rules)).piece_is
    ∙ ap (slice_get all) here
