-- The first byte, and then what the kind has.
use Rattle.std.proofs.Common.{◌∷◌, [], ap, ◌∙◌, map, refl, sym}
use Rattle.vortex_filter.specs.Formula.{comparison, constant, formula, membership, null_test, pattern_test, prefix_test, range}
use Rattle.vortex_filter.proofs.Steps.{formula-Between, formula-Compare, formula-Constant, formula-In, formula-IsNull, formula-Like, formula-StartsWith}
use Rattle.vortex_cells.specs.Cells.{cell_of}
use Rattle.filter_encoding.proofs.WriteSteps.{node_written}
use Rattle.filter_encoding.proofs.writing.+append_node.Goals as goal

pub returns-in-Constant : goal.returns-in-Constant
returns-in-Constant t c =
    node_written c.args.depth (Unit {0}) (Unit {0}) _ _ (constant c.in-Constant.truth) _ _ _ (ap formula c.in-Constant.is ∙ formula-Constant c.in-Constant.truth) (λ u. tt) (λ u. tt) (ap (λ b. b ∷ []) c.byte.ensures) c.append_byte.ensures

pub returns-in-Compare : goal.returns-in-Compare
returns-in-Compare t c =
    node_written c.args.depth _ _ _ _ (comparison c.in-Compare.column c.in-Compare.operator (cell_of c.in-Compare.literal)) _ _ _ (ap formula c.in-Compare.is ∙ formula-Compare c.in-Compare.column c.in-Compare.operator c.in-Compare.literal) (λ h. h) (λ h. h) refl c.append_comparison.ensures

pub returns-in-IsNull : goal.returns-in-IsNull
returns-in-IsNull t c = node_written c.args.depth _ _ _ _ (null_test c.in-IsNull.column) _ _ _ (ap formula c.in-IsNull.is ∙ formula-IsNull c.in-IsNull.column) (λ h. h) (λ h. h) refl c.append_test.ensures

pub returns-in-In : goal.returns-in-In
returns-in-In t c =
    let k = c.in-In.column in
    node_written c.args.depth _ _ _ _ (membership k (map cell_of c.deref.result.now)) _ _ _ (ap formula c.in-In.is ∙ formula-In k c.in-In.literals ∙ ap (λ xs. membership k (map cell_of xs)) (sym c.deref.ensures.value)) (λ h. h) (λ h. h) refl c.append_membership.ensures

pub returns-in-Between : goal.returns-in-Between
returns-in-Between t c =
    node_written c.args.depth _ _ _ _ (range c.in-Between.column (cell_of c.in-Between.lower) (cell_of c.in-Between.upper)) _ _ _ (ap formula c.in-Between.is ∙ formula-Between c.in-Between.column c.in-Between.lower c.in-Between.upper) (λ h. h) (λ h. h) refl c.append_range.ensures

pub returns-in-StartsWith : goal.returns-in-StartsWith
returns-in-StartsWith t c =
    node_written c.args.depth _ _ _ _ (prefix_test c.in-StartsWith.column (cell_of c.in-StartsWith.prefix)) _ _ _ (ap formula c.in-StartsWith.is ∙ formula-StartsWith c.in-StartsWith.column c.in-StartsWith.prefix) (λ h. h) (λ h. h) refl c.append_prefix.ensures

pub returns-in-Like : goal.returns-in-Like
returns-in-Like t c =
    node_written c.args.depth _ _ _ _ (pattern_test c.in-Like.column c.in-Like.case c.in-Like.pattern) _ _ _ (ap formula c.in-Like.is ∙ formula-Like c.in-Like.column c.in-Like.pattern c.in-Like.case) (λ h. h) (λ h. h) refl c.append_like.ensures
