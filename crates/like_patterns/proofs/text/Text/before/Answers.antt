-- The end differs.
use Rattle.std.proofs.Common.{ℕ, ◌-◌, arith, ap, sym, drop, length, ◌∙◌}
use Rattle.std.proofs.lemmas.Bool.{false≢true}
use Rattle.std.specs.String.{string_bytes}
use Rattle.like_patterns.specs.Characters.{compared}
use Rattle.like_patterns.proofs.TextCuts.{ends_differs}
use Rattle.like_patterns.proofs.text.Text.before.Goals as goal

pub returns-else-are_same : goal.returns-else-are_same
returns-else-are_same c =
    ends_differs c.args.case c.args.text.now (string_bytes c.args.self.now.string) c.split_at.result.1.now
    (c.split_at.ensures.back ∙ ap (λ (n : ℕ). drop (length c.args.text.now - n) c.args.text.now) c.len-2.ensures) (omega (arith, c.len.ensures))
    (λ same. false≢true (sym c.if-are_same.false ∙ c.are_same.ensures.1 (same ∙ ap (compared c.args.case) (sym c.as_bytes.ensures.value))))
