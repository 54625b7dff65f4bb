-- The bit is set, and no other one changes.
use Rattle.std.proofs.Common.{◌≡◌, ◌∙◌, rules, sym, true}
use Rattle.arrow_columns.proofs.BitWrites.{byte-is, set-other, set-same}
use Rattle.arrow_columns.proofs.bitmaps.put_bit.Goals as goal

pub returns-then-is_set-clause-bit : goal.returns-then-is_set-clause-bit
returns-then-is_set-clause-bit c =
    let on : c.args.is_set ≡ true = search rules in
    set-same c.args.bitmap.now c.args.i _ c.requires.within (byte-is _ c.args.i) ∙ sym on

pub returns-then-is_set-clause-others : goal.returns-then-is_set-clause-others
returns-then-is_set-clause-others c = λ other apart. set-other c.args.bitmap.now c.args.i _ other c.requires.within (byte-is _ c.args.i) apart
