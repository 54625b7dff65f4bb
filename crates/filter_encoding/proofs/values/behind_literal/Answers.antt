-- Its type, and then its key.
use Rattle.std.proofs.Common.{◌∙◌, rules, sym, true≢false}
use Rattle.vortex_cells.specs.Cells.{cell_of}
use Rattle.filter_encoding.proofs.NoValueLaws.{literal_passed, literal_refused}
use Rattle.filter_encoding.proofs.values.behind_literal.Goals as goal

pub returns-then-not-is_logically_valid : goal.returns-then-not-is_logically_valid
returns-then-not-is_logically_valid c =
    literal_refused (cell_of c.args.literal.now) c.args.offset c.type_length.result c.saturating_add-key.result c.type_length.ensures c.saturating_add-key.ensures
    (λ v. true≢false (sym (c.is_logically_valid.ensures.1 v) ∙ c.if-not-is_logically_valid.true))

pub returns : goal.returns
returns c = (
  c.is_logically_valid.ensures.0 c.if-not-is_logically_valid.false,
  literal_passed (cell_of c.args.literal.now) c.args.offset c.type_length.result c.saturating_add-key.result c.key_length.result c.saturating_add.result c.type_length.ensures c.saturating_add-key.ensures (search rules) c.saturating_add.ensures,
)
