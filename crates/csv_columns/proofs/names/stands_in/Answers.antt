-- The name at hand is the one at its place.
use Rattle.std.proofs.Common.{◌≡◌, ◌∙◌, sym, ap, arith, below_more}
use Rattle.std.specs.Prelude.{string_bytes}
use Rattle.std.proofs.lemmas.Bool.Decides.{Decides-eqb}
use Rattle.std.proofs.lemmas.List.{get_or-map, length-map}
use Rattle.std.proofs.lemmas.Slice.Eq.{slice_eq-Decides}
use Rattle.csv_columns.proofs.Naming.{true_is_not}
use Rattle.csv_columns.proofs.names.stands_in.Goals as goal

pub returns-then-eq : goal.returns-then-eq
returns-then-eq c = (
  c.loop-one.one-index,
  simp length-map (omega arith),
  get_or-map string_bytes c.args.names.now c.loop-one.one-index c.one-item.result c.args.name.now (omega arith)
      ∙ ap string_bytes (sym c.one-item.is) ∙ sym c.as_str.ensures.value
      ∙ (slice_eq-Decides Decides-eqb c.as_str.result.now c.args.name.now c.eq.result c.eq.ensures).0 c.if-eq.true,
)

pub loop-one-preserved : goal.loop-one-preserved
loop-one-preserved c =
    below_more _ _ c.loop-one.invariant (λ is.
    let same : c.as_str.result.now ≡ c.args.name.now =
    c.as_str.ensures.value ∙ ap string_bytes c.one-item.is
    ∙ sym (get_or-map string_bytes c.args.names.now c.loop-one.one-index c.one-item.result c.args.name.now (omega arith)) ∙ is in
    let yes = (slice_eq-Decides Decides-eqb c.as_str.result.now c.args.name.now c.eq.result c.eq.ensures).1 same in
    true_is_not c.eq.result yes c.if-eq.false)
