-- The index is given, or its length; or why it is not.
use Rattle.std.proofs.Common.{◌≡◌, ℕ, inl, inr, length, rules, subst}
use Rattle.vortex_c.specs.Indexes.{SaysWhyNoBytes}
use Rattle.vortex_c.proofs.IndexSteps.{index_answered}
use Rattle.vortex_c.proofs.indexes.doqallin_write_index.Goals as goal

pub returns-in-Ok-clause-answer : goal.returns-in-Ok-clause-answer
returns-in-Ok-clause-answer c =
    let many : c.len.result ≡ length c.in-Ok.read.columns.items = search rules in
    index_answered c.args.setup.now c.in-Ok.read c.len.result c.args.file_length c.args.changed c.args.start c.args.zones.now c.args.statistics.now _ _ _ _ _ c.in-Ok.ensures.is many c.write_into.ensures.answer

pub returns-in-Ok-clause-refused : goal.returns-in-Ok-clause-refused
returns-in-Ok-clause-refused c =
    let many : c.len.result ≡ length c.in-Ok.read.columns.items = search rules in
    let Why : ℕ → Type 0 = λ (n : ℕ). SaysWhyNoBytes n c.args.zones.now c.args.statistics.now c.args.fault.now c.write_into.new.fault c.write_into.result in
    elim c.write_into.ensures.refused [
      | inl has ↦ inl has
      | inr why ↦ inr (inr (c.in-Ok.read, c.in-Ok.ensures.is, subst Why many why))
    ]
