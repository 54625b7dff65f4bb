use Rattle.std.proofs.Common.{◌≡◌, ◌∙◌, sym, arith, ◌<◌, ◌^◌, to_z, of_z, unsigned_abs, ap}
use mir.Syntax.{w128}
use Rattle.std.proofs.lemmas.Int.{ints}
use Rattle.logical_types.specs.Decimals.{decimal_text, decimal_value}
use Rattle.logical_types.proofs.DecimalsBack.{limit_small, read_back}
use Rattle.logical_types.proofs.words.decimal_word.Goals as goal

pub returns-clause-reads : goal.returns-clause-reads
returns-clause-reads c =
    let e : to_z w128 (of_z w128 c.args.storage) ≡ c.args.storage = omega (arith, ints) in
    let limit = 10 ^ c.args.decimal.precision in
    let scale = c.args.decimal.scale in
    let text = c.in_ok-text.ensures ∙ ap (decimal_text scale) e in
    let size : c.unsigned_abs.result ≡ unsigned_abs c.args.storage = c.unsigned_abs.ensures.value ∙ ap unsigned_abs e in
    let below : unsigned_abs c.args.storage < limit = omega (arith, sym size, c.if-unsigned_abs-limit.false, c.limit.ensures.value) in
    let most = limit_small c.args.decimal.precision c.args.decimal.small in
    let small : unsigned_abs c.args.storage < 10 ^ 64 = omega (arith, below, most) in
    ap (decimal_value limit scale) text ∙ read_back limit scale c.args.storage below small

pub returns-clause-printed : goal.returns-clause-printed
returns-clause-printed c =
    let e : to_z w128 (of_z w128 c.args.storage) ≡ c.args.storage = omega (arith, ints) in
    c.in_ok-text.ensures ∙ ap (decimal_text c.args.decimal.scale) e
