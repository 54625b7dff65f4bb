-- The types so far have no variant, and ids that are bytes.
use Rattle.std.proofs.Common.{◌≡◌, ◌∙◌, false, refl, sym, true}
use Rattle.vortex_dtype.specs.TypeOf.{dtype_trees}
use Rattle.vortex_cells.specs.Variants.{have_variant}
use Rattle.vortex_cells.proofs.VariantSteps.{found-at, ids-end, ids-from, none-end, rest-decides, tied_all}
use Rattle.vortex_cells.proofs.variants.+variants.Goals as goal

pub have_variant-loop-dtype-init : goal.have_variant-loop-dtype-init
have_variant-loop-dtype-init t c = (refl, λ h. h)

pub have_variant-loop-dtype-preserved : goal.have_variant-loop-dtype-preserved
have_variant-loop-dtype-preserved t c = (
  rest-decides c.loop-dtype.dtype-index c.args.dtypes.now c.dtype-item.result _ _ c.loop-dtype-test.true c.dtype-item.is c.has_variant.ensures.decided c.if-has_variant.false c.loop-dtype.invariant.0,
  ids-from c.loop-dtype.dtype-index c.args.dtypes.now c.dtype-item.result c.loop-dtype-test.true c.dtype-item.is (c.has_variant.ensures.ids c.if-has_variant.false) c.loop-dtype.invariant.1,
)

pub have_variant-returns-clause-ids : goal.have_variant-returns-clause-ids
have_variant-returns-clause-ids t c = λ none. c.loop-dtype.invariant.1 (ids-end c.loop-dtype.dtype-index c.args.dtypes.now c.loop-dtype-test.false)

pub have_variant-returns-then-has_variant-clause-none : goal.have_variant-returns-then-has_variant-clause-none
have_variant-returns-then-has_variant-clause-none t c =
    let found : true ≡ have_variant (dtype_trees c.args.dtypes.now) = sym (found-at c.loop-dtype.dtype-index c.args.dtypes.now c.dtype-item.result _ c.loop-dtype-test.true c.dtype-item.is c.has_variant.ensures.decided c.if-has_variant.true) ∙ c.loop-dtype.invariant.0 in
    tied_all (dtype_trees c.args.dtypes.now) true found

pub have_variant-returns-clause-none : goal.have_variant-returns-clause-none
have_variant-returns-clause-none t c =
    let passed : false ≡ have_variant (dtype_trees c.args.dtypes.now) = sym (none-end c.loop-dtype.dtype-index c.args.dtypes.now c.loop-dtype-test.false) ∙ c.loop-dtype.invariant.0 in
    tied_all (dtype_trees c.args.dtypes.now) false passed
