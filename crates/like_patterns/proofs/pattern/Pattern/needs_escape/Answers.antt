-- A piece that has one, a piece that has none, and no more pieces.
use Rattle.std.proofs.Common.{◌∙◌, ap, sym}
use Rattle.like_patterns.specs.declared.case.Case.TheVariants.{Sensitive}
use Rattle.like_patterns.specs.Pieces.{parts_of}
use Rattle.like_patterns.specs.Texts.{has_special}
use Rattle.like_patterns.proofs.Escaping.{special_behind, special_here, special_none}
use Rattle.like_patterns.proofs.pattern.Pattern.needs_escape.Goals as goal

pub returns-then-is_escaped : goal.returns-then-is_escaped
returns-then-is_escaped c =
    let items = c.deref-piece-items.result.now in
    sym
    (sym (ap has_special (ap (parts_of Sensitive) c.deref-piece-items.ensures.value ∙ c.self.view_is)) ∙ sym c.loop-piece.invariant
    ∙ special_here items c.loop-piece.piece-index c.piece-item.result c.loop-piece-test.true c.piece-item.is (sym c.is_escaped.ensures ∙ c.if-is_escaped.true))

pub loop-piece-preserved : goal.loop-piece-preserved
loop-piece-preserved c =
    special_behind c.deref-piece-items.result.now c.loop-piece.piece-index c.piece-item.result c.loop-piece-test.true c.piece-item.is (sym c.is_escaped.ensures ∙ c.if-is_escaped.false)
    ∙ c.loop-piece.invariant

pub returns : goal.returns
returns c =
    let items = c.deref-piece-items.result.now in
    sym
    (sym (ap has_special (ap (parts_of Sensitive) c.deref-piece-items.ensures.value ∙ c.self.view_is)) ∙ sym c.loop-piece.invariant
    ∙ special_none items c.loop-piece.piece-index c.loop-piece-test.false)
