-- The first timestamps that all words are.
use Rattle.std.proofs.Common.{◌∙◌, refl, sym}
use Rattle.csv_columns.proofs.kinds.Timestamps.logical.Goals as goal

pub returns-then-self : goal.returns-then-self
returns-then-self c = λ words are. rw (sym are.local ∙ c.if-self.true) refl

pub returns-then-self-2 : goal.returns-then-self-2
returns-then-self-2 c = λ words are. rw (sym are.local ∙ c.if-self.false, sym are.zoned ∙ c.if-self-2.true) refl

pub returns-then-self-3 : goal.returns-then-self-3
returns-then-self-3 c = λ words are.
    rw (sym are.local ∙ c.if-self.false, sym are.zoned ∙ c.if-self-2.false, sym are.fine_local ∙ c.if-self-3.true) refl

pub returns-then-self-4 : goal.returns-then-self-4
returns-then-self-4 c = λ words are.
    rw (sym are.local ∙ c.if-self.false, sym are.zoned ∙ c.if-self-2.false, sym are.fine_local ∙ c.if-self-3.false, sym are.fine_zoned ∙ c.if-self-4.true) refl

pub returns-else-self-4 : goal.returns-else-self-4
returns-else-self-4 c = λ words are.
    rw (sym are.local ∙ c.if-self.false, sym are.zoned ∙ c.if-self-2.false, sym are.fine_local ∙ c.if-self-3.false, sym are.fine_zoned ∙ c.if-self-4.false) refl
