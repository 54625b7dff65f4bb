use Rattle.std.proofs.Common.{◌≡◌, inl, inr, ◌+◌, ◌<◌, ◌^◌, true, false, [], ◌∷◌, ◌++◌, option_map, refl, sym, subst, rules}
use Rattle.std.proofs.lemmas.Result.{err_from_is_err_and}
use Rattle.vortex_value.specs.Values.RawTree.{RawTree, is_absent}
use Rattle.vortex_value.specs.Values.Refs.{ref_raw}
use Rattle.vortex_cells.specs.Cells.{Cell, cell_of_ref}
use Rattle.vortex_statistics.specs.Observing.{RefusesCell, becomes_bound}
use Rattle.vortex_statistics.specs.Statistics.{AreComplete, AreRight, Known, known, known_bound}
use Rattle.vortex_statistics.proofs.ObserveLaws.{observed_complete, observed_right}
use Rattle.vortex_statistics.proofs.ObserveSteps.{lower_becomes, null_step, upper_becomes, value_step}
use Rattle.vortex_statistics.proofs.column_statistics.ColumnStatistics.observe.Goals as goal

pub returns-then-is_null-clause-right : goal.returns-then-is_null-clause-right
returns-then-is_null-clause-right c = λ cells h.
    let s : Known = known c.args.self.now in
    let x : Cell = cell_of_ref c.args.value in
    let P : Known → Type 0 = λ t. AreRight t (cells ++ x ∷ []) in
    let void : is_absent (ref_raw c.args.value) ≡ true = cc in
    let rows : c.in-Some.row_count ≡ c.args.self.now.row_count + 1 = search rules in
    subst P (sym (null_step s x (ref_raw c.args.value) c.in-Some.row_count c.sum_of-self.result void refl rows c.sum_of-self.ensures))
    (observed_right c.order_is_reversed.ensures.contents c.order_is_transitive.ensures.contents s cells x h)

pub returns-then-is_null-clause-complete : goal.returns-then-is_null-clause-complete
returns-then-is_null-clause-complete c = λ cells h.
    let s : Known = known c.args.self.now in
    let x : Cell = cell_of_ref c.args.value in
    let P : Known → Type 0 = λ t. AreComplete t (cells ++ x ∷ []) in
    let void : is_absent (ref_raw c.args.value) ≡ true = cc in
    let rows : c.in-Some.row_count ≡ c.args.self.now.row_count + 1 = search rules in
    let fits : c.args.self.now.row_count + 1 < 2 ^ 64 = search rules in
    subst P (sym (null_step s x (ref_raw c.args.value) c.in-Some.row_count c.sum_of-self.result void refl rows c.sum_of-self.ensures))
    (observed_complete c.order_is_reversed.ensures.contents c.order_is_transitive.ensures.contents s cells x fits h)

pub returns-in_err-change_bounds-clause-refused : goal.returns-in_err-change_bounds-clause-refused
returns-in_err-change_bounds-clause-refused c =
    let s : Known = known c.args.self.now in
    let x : Cell = cell_of_ref c.args.value in
    let v : RawTree = ref_raw c.args.value in
    let there : is_absent v ≡ false = cc in
    let fits : c.args.self.now.row_count + 1 < 2 ^ 64 = search rules in
    let becomes : becomes_bound s x ≡ true = elim c.in_err-change_bounds.ensures.refused.1 [
      | inl r ↦ lower_becomes s x v c.changes-below.result.0 there refl c.changes-below.ensures.below r
      | inr r ↦ upper_becomes s x v c.changes-below.result.1 there refl c.changes-below.ensures.above r
    ] in
    let why : RefusesCell s c.args.value c.in_err-change_bounds.field-0.0 = inr (c.in_err-change_bounds.ensures.refused.0, fits, becomes, c.in_err-change_bounds.ensures.refused.2) in
    let p = err_from_is_err_and c.from_residual.result c.from_residual.ensures.1 in rw (p.1, p.2) why

pub returns-clause-value : goal.returns-clause-value
returns-clause-value c =
    let there : is_absent (ref_raw c.args.value) ≡ false = cc in
    let rows : c.in-Some.row_count ≡ c.args.self.now.row_count + 1 = search rules in
    value_step (known c.args.self.now) (cell_of_ref c.args.value) (ref_raw c.args.value) c.in-Some.row_count c.change_bounds.new.self.null_count c.changes-below.result.0 c.changes-below.result.1
    (option_map known_bound c.change_bounds.new.self.lower) (option_map known_bound c.change_bounds.new.self.upper)
    there refl rows c.change_bounds.ensures.nulls c.changes-below.ensures.below c.changes-below.ensures.above c.in_ok-change_bounds.ensures.lower c.in_ok-change_bounds.ensures.upper

pub returns-clause-right : goal.returns-clause-right
returns-clause-right c = λ cells h.
    let P : Known → Type 0 = λ t. AreRight t (cells ++ cell_of_ref c.args.value ∷ []) in
    subst P (sym (returns-clause-value c))
    (observed_right c.order_is_reversed.ensures.contents c.order_is_transitive.ensures.contents (known c.args.self.now) cells (cell_of_ref c.args.value) h)

pub returns-clause-complete : goal.returns-clause-complete
returns-clause-complete c = λ cells h.
    let P : Known → Type 0 = λ t. AreComplete t (cells ++ cell_of_ref c.args.value ∷ []) in
    let fits : c.args.self.now.row_count + 1 < 2 ^ 64 = search rules in
    subst P (sym (returns-clause-value c))
    (observed_complete c.order_is_reversed.ensures.contents c.order_is_transitive.ensures.contents (known c.args.self.now) cells (cell_of_ref c.args.value) fits h)

pub returns-then-is_null-clause-valid : goal.returns-then-is_null-clause-valid
returns-then-is_null-clause-valid c = λ _ h. record { lower = h.lower; upper = h.upper }

pub returns-clause-valid : goal.returns-clause-valid
returns-clause-valid c = λ valid h.
    let now = c.in_ok-change_bounds.ensures.valid valid h in record { lower = now.lower; upper = now.upper }
