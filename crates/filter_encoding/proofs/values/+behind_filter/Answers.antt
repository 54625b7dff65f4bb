-- What is found in each kind of filter.
use Rattle.std.proofs.Common.{◌≡◌, ℕ, ◌+◌, Ok, Result, length, ◌∙◌, ap, map, rules, subst, sym}
use Rattle.vortex_cells.specs.Cells.{cell_of}
use Rattle.vortex_filter.specs.Formula.{Formula, formula}
use Rattle.vortex_filter.specs.declared.filter.Filter.{Filter}
use Rattle.vortex_filter.proofs.Steps.{formula-And, formula-Between, formula-Compare, formula-In, formula-IsNull, formula-Like, formula-Not, formula-Or, formula-StartsWith}
use Rattle.vortex_value.specs.Size.{capped}
use Rattle.filter_encoding.specs.Encoding.{FirstIn, HasValues, node_bytes}
use Rattle.filter_encoding.specs.declared.values.NoValue.{NoValue}
use Rattle.filter_encoding.proofs.NoValueLaws.{FilterPasses, both_passed, both_refused, comparison_passes, either_passed, either_refused, like_passes, membership_passes, negation_passes, null_passes, prefix_passes, range_passes}
use Rattle.filter_encoding.proofs.values.+behind_filter.Goals as goal

-- of a filter with this formula
of_formula : (f g : Formula) (offset : ℕ) (r : Result ℕ NoValue) → f ≡ g → FilterPasses g offset r → FilterPasses f offset r
of_formula f g offset r e h = subst (λ (p : Formula). FilterPasses p offset r) (sym e) h

-- of the part that the code borrows
part_passes : (d f : Filter) (offset : ℕ) (r : Result ℕ NoValue) → d ≡ f → FilterPasses (formula d) offset r → FilterPasses (formula f) offset r
part_passes d f offset r e h = subst (λ (x : Filter). FilterPasses (formula x) offset r) e h

part_refused : (d f : Filter) (offset : ℕ) (e : NoValue) → d ≡ f → (n : ℕ) × (e.offset ≡ capped (offset + n)) × FirstIn (formula d) n → (n : ℕ) × (e.offset ≡ capped (offset + n)) × FirstIn (formula f) n
part_refused d f offset e is h = subst (λ (x : Filter). (n : ℕ) × (e.offset ≡ capped (offset + n)) × FirstIn (formula x) n) is h

part_passed : (d f : Filter) (offset end : ℕ) → d ≡ f → HasValues (formula d) × (end ≡ capped (offset + length (node_bytes (formula d)))) → HasValues (formula f) × (end ≡ capped (offset + length (node_bytes (formula f))))
part_passed d f offset end is h = subst (λ (x : Filter). HasValues (formula x) × (end ≡ capped (offset + length (node_bytes (formula x))))) is h

pub returns-in-Compare : goal.returns-in-Compare
returns-in-Compare t c =
    of_formula _ _ c.args.offset c.behind_literal.result (ap formula c.in-Compare.is ∙ formula-Compare c.in-Compare.column c.in-Compare.operator c.in-Compare.literal)
    (comparison_passes c.in-Compare.column c.args.offset _ c.behind_literal.result c.in-Compare.operator (cell_of c.in-Compare.literal) c.saturating_add-in-Compare.ensures c.behind_literal.ensures)

pub returns-in-IsNull : goal.returns-in-IsNull
returns-in-IsNull t c = of_formula _ _ c.args.offset (Ok c.saturating_add-in-IsNull.result) (ap formula c.in-IsNull.is ∙ formula-IsNull c.in-IsNull.column) (null_passes c.in-IsNull.column c.args.offset _ c.saturating_add-in-IsNull.ensures)

pub returns-in-Between : goal.returns-in-Between
returns-in-Between t c =
    of_formula _ _ c.args.offset c.behind_two.result (ap formula c.in-Between.is ∙ formula-Between c.in-Between.column c.in-Between.lower c.in-Between.upper)
    (range_passes c.in-Between.column c.args.offset _ c.behind_two.result (cell_of c.in-Between.lower) (cell_of c.in-Between.upper) c.saturating_add-in-Between.ensures c.behind_two.ensures)

pub returns-in-StartsWith : goal.returns-in-StartsWith
returns-in-StartsWith t c =
    of_formula _ _ c.args.offset c.behind_literal-in-StartsWith.result (ap formula c.in-StartsWith.is ∙ formula-StartsWith c.in-StartsWith.column c.in-StartsWith.prefix)
    (prefix_passes c.in-StartsWith.column c.args.offset _ c.behind_literal-in-StartsWith.result (cell_of c.in-StartsWith.prefix) c.saturating_add-in-StartsWith.ensures c.behind_literal-in-StartsWith.ensures)

pub returns-in-Like : goal.returns-in-Like
returns-in-Like t c =
    of_formula _ _ c.args.offset (Ok c.behind_pattern.result) (ap formula c.in-Like.is ∙ formula-Like c.in-Like.column c.in-Like.pattern c.in-Like.case)
    (like_passes c.in-Like.column c.in-Like.case c.in-Like.pattern c.args.offset _ _ c.saturating_add-in-Like.ensures c.behind_pattern.ensures)

pub returns-in-In : goal.returns-in-In
returns-in-In t c =
    of_formula _ _ c.args.offset c.behind_literals.result (ap formula c.in-In.is ∙ formula-In c.in-In.column c.in-In.literals)
    (membership_passes c.in-In.column c.args.offset _ c.behind_literals.result (map cell_of c.in-In.literals.items) c.saturating_add-in-In.ensures (search rules))

pub returns-in_err-middle-in-And : goal.returns-in_err-middle-in-And
returns-in_err-middle-in-And t c =
    of_formula _ _ c.args.offset c.from_residual.result (ap formula c.in-And.is ∙ formula-And c.in-And.left c.in-And.right)
    (both_refused (formula c.in-And.left.value) (formula c.in-And.right.value) c.args.offset _ c.saturating_add-in-And.ensures c.from_residual.result _ c.from_residual.ensures
    (part_refused c.deref-in-And.result.now c.in-And.left.value _ _ (search rules) c.in_err-middle-in-And.ensures))

pub returns-in_ok-middle-in-And : goal.returns-in_ok-middle-in-And
returns-in_ok-middle-in-And t c =
    of_formula _ _ c.args.offset c.behind_filter-in-And.result (ap formula c.in-And.is ∙ formula-And c.in-And.left c.in-And.right)
    (both_passed (formula c.in-And.left.value) (formula c.in-And.right.value) c.args.offset _ c.saturating_add-in-And.ensures c.in_ok-middle-in-And.middle c.behind_filter-in-And.result
    (part_passed c.deref-in-And.result.now c.in-And.left.value _ _ (search rules) c.in_ok-middle-in-And.ensures) (part_passes c.deref-in-And-2.result.now c.in-And.right.value _ _ (search rules) c.behind_filter-in-And.ensures))

pub returns-in_err-middle-in-Or : goal.returns-in_err-middle-in-Or
returns-in_err-middle-in-Or t c =
    of_formula _ _ c.args.offset c.from_residual-in_err-middle-in-Or.result (ap formula c.in-Or.is ∙ formula-Or c.in-Or.one c.in-Or.other)
    (either_refused (formula c.in-Or.one.value) (formula c.in-Or.other.value) c.args.offset _ c.saturating_add-in-Or.ensures c.from_residual-in_err-middle-in-Or.result _ c.from_residual-in_err-middle-in-Or.ensures
    (part_refused c.deref-in-Or.result.now c.in-Or.one.value _ _ (search rules) c.in_err-middle-in-Or.ensures))

pub returns-in_ok-middle-in-Or : goal.returns-in_ok-middle-in-Or
returns-in_ok-middle-in-Or t c =
    of_formula _ _ c.args.offset c.behind_filter-in-Or-2.result (ap formula c.in-Or.is ∙ formula-Or c.in-Or.one c.in-Or.other)
    (either_passed (formula c.in-Or.one.value) (formula c.in-Or.other.value) c.args.offset _ c.saturating_add-in-Or.ensures c.in_ok-middle-in-Or.middle c.behind_filter-in-Or-2.result
    (part_passed c.deref-in-Or.result.now c.in-Or.one.value _ _ (search rules) c.in_ok-middle-in-Or.ensures) (part_passes c.deref-in-Or-2.result.now c.in-Or.other.value _ _ (search rules) c.behind_filter-in-Or-2.ensures))

pub returns-in-Not : goal.returns-in-Not
returns-in-Not t c =
    of_formula _ _ c.args.offset c.behind_filter-in-Not.result (ap formula c.in-Not.is ∙ formula-Not c.in-Not.inner)
    (negation_passes (formula c.in-Not.inner.value) c.args.offset _ c.behind_filter-in-Not.result c.saturating_add-in-Not.ensures (part_passes c.deref-in-Not.result.now c.in-Not.inner.value _ _ (search rules) c.behind_filter-in-Not.ensures))
