use Rattle.std.proofs.Common.{◌≡◌, ◌≢◌, ◌∙◌, sym, arith}
use lib.Pointwise.{bytes_decides}
use mathlib.Core.Bool.{true≢false}
use Rattle.logical_types.specs.Names.{decimal_name}
use Rattle.logical_types.specs.declared.logical.DecimalType.{DecimalType}
use Rattle.logical_types.proofs.NamesBack.{next_scale}
use Rattle.logical_types.proofs.names.decimal_of_precision.Goals as goal

pub loop-scale-preserved : goal.loop-scale-preserved
loop-scale-preserved c =
    let tried : DecimalType = record { precision = c.args.precision; scale = c.loop-scale.scale; some = c.requires.some; small = c.requires.small; within = omega arith } in
    let text : c.as_bytes.result.now ≡ decimal_name tried = c.as_bytes.ensures.value ∙ c.deref.ensures.0 ∙ c.decimal_name.ensures in
    let fresh : c.args.word.now ≢ decimal_name tried =
    λ h. true≢false (sym ((bytes_decides _ _).1 (text ∙ sym h)) ∙ sym c.if-eq.ensures) in
    next_scale c.args.word.now tried fresh c.loop-scale.invariant

pub returns-clause-none : goal.returns-clause-none
returns-clause-none c = λ d p w. c.loop-scale.invariant d p (let h = d.within in omega arith) w
