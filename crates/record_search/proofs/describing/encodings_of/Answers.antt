-- A column more, and all of them.
use Rattle.std.proofs.Common.{◌≡◌, ◌<◌, ◌∙◌, ◌∷◌, [], ap, append_assoc, arith, length, length-append, rules, sym}
use Rattle.std.specs.Vec.Iter.{into_iter_items}
use Rattle.record_search.proofs.ObserveLaws.{columns_done, encoding_more, no_encodings, nothing_left}
use Rattle.record_search.proofs.describing.encodings_of.Goals as goal

pub loop-column-init : goal.loop-column-init
loop-column-init c = (search rules, no_encodings c.args.describer.now.schema.now.columns.items c.args.describer.now.bound_length _ (search rules), search rules)

pub loop-column-preserved : goal.loop-column-preserved
loop-column-preserved c =
    let at = c.loop-column in
    let x = c.in-Some.column in
    let s = c.args.describer.now.schema.now in
    let steps : into_iter_items at.column-iterator ≡ x ∷ into_iter_items c.next.new.self = c.in-Some.ensures.steps.0 in
    let given = c.into_iter-column-iterator.ensures.into_iter_gives.0 in
    let below : length at.yielded < length s.columns.items = omega (arith, ap length at.invariant.0, length-append at.yielded (into_iter_items at.column-iterator), ap length steps, ap length given, c.requires) in (
      append_assoc at.yielded (x ∷ []) _ ∙ rw (← steps) at.invariant.0,
      encoding_more s.columns.items c.args.describer.now.bound_length at.yielded x at.output.items c.push_cut.new.output.items below at.invariant.1 c.in_ok-push_cut.ensures,
      let was = at.invariant.2 in
          let gone = c.in-Some.ensures.steps.1 in
          let short = ap length steps in
          omega arith,
    )

pub returns-clause-right : goal.returns-clause-right
returns-clause-right c = λ rows are all.
    let at = c.loop-column in
    let none = c.in-None.ensures.steps in
    (columns_done c.args.describer.now.schema.now.columns.items c.args.describer.now.bound_length at.yielded (into_iter_items at.column-iterator) c.args.statistics.items at.output.items (nothing_left _ (sym at.invariant.2 ∙ none.0)) (at.invariant.0 ∙ c.into_iter-column-iterator.ensures.into_iter_gives.0) c.requires at.invariant.1 rows are all).0

pub returns-clause-full : goal.returns-clause-full
returns-clause-full c = λ rows are all typed valid.
    let at = c.loop-column in
    let none = c.in-None.ensures.steps in
    (columns_done c.args.describer.now.schema.now.columns.items c.args.describer.now.bound_length at.yielded (into_iter_items at.column-iterator) c.args.statistics.items at.output.items (nothing_left _ (sym at.invariant.2 ∙ none.0)) (at.invariant.0 ∙ c.into_iter-column-iterator.ensures.into_iter_gives.0) c.requires at.invariant.1 rows are all).1 (record { typed = typed; valid = valid })
