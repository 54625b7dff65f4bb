-- The refusal of an entry is that of the entries up to it, and the parts are those of all entries at the end.
use Rattle.std.proofs.Common.{◌≡◌, ◌++◌, ◌∷◌, [], Some, None, Err, IsErrAnd, IfErr, MatchOption, length, refl, sym, ap, ◌∙◌, subst, rules, arith}
use Rattle.std.proofs.lemmas.Grind.{common_steps}
use Rattle.std.specs.Iterator.Runs.{SomeRun}
use Rattle.vortex_dtype.specs.Parts.{map_in}
use Rattle.vortex_dtype.specs.TypeOf.{map_of, type_of}
use Rattle.vortex_dtype.specs.declared.error.VortexError.TheVariants.{OutOfMemory, WrongKind}
use Rattle.vortex_value.specs.Items.{IsRefusedAtLast}
use Rattle.vortex_value.specs.Makers.{entries_cause, entry_cause, map_cause, raw_entries}
use Rattle.vortex_value.specs.Values.RawOf.{as_raw_trees, value_tree}
use Rattle.vortex_value.specs.Values.RawTree.{raw_tuple}
use Rattle.vortex_value.specs.declared.values.ScalarValue.{Tuple}
use Rattle.vortex_value.proofs.ItemMakers.{accepted, given_all, kind_known, refused_at, refused_with}
use Rattle.vortex_value.proofs.MapMakers.{next_cause}
use Rattle.vortex_value.proofs.ValueSteps.{value_tree-Tuple}
use Rattle.vortex_value.proofs.constructor.maps.map_value.Goals as goal

pub returns-in_err-part-clause-refused : goal.returns-in_err-part-clause-refused
returns-in_err-part-clause-refused g c =
    let steps = g.I.Iterator.next_gives in
    let parts = map_of c.in-Some.map.now in
    let entry = c.in-Some-entry.entry in
    let taken = c.loop-entry.yielded in
    let e = c.in_err-part.field-0.0 in
    let known : map_in (type_of c.args.dtype.now) ≡ Some (map_of c.in-Some.map.now) = search rules in
    let is : c.from_residual.result ≡ Err c.in_err-part.field-0.0 = search rules in
    let place : length c.loop-entry.yielded ≡ c.len.result = search rules in
    let next = next_cause parts taken entry c.loop-entry.invariant.2 ∙ ap (λ n. entry_cause parts n entry) place in
    let answer = refused_with (entries_cause parts) (taken ++ entry ∷ []) (entry_cause parts c.len.result entry) c.part_of.result e next c.in_err-part.was c.part_of.ensures.refused in
    kind_known (map_in (type_of c.args.dtype.now)) parts (IsErrAnd c.from_residual.result (λ f. f ≡ WrongKind))
    (λ p. IfErr c.from_residual.result (λ f. SomeRun steps c.args.entries (λ run. IsRefusedAtLast (entries_cause p) f run.items))) known
    (subst (λ r. IfErr r (λ f. SomeRun steps c.args.entries (λ run. IsRefusedAtLast (entries_cause parts) f run.items))) (sym is)
    (refused_at steps c.args.entries c.into_iter-entry-iterator.result c.loop-entry.entry-iterator c.next.new.self c.into_iter-entry-iterator.ensures.into_iter_gives
    taken c.loop-entry.yielded_by c.next.result c.next.ensures.steps entry c.in-Some-entry.is (entries_cause parts) e c.loop-entry.invariant.2 answer))

pub loop-entry-preserved : goal.loop-entry-preserved
loop-entry-preserved g c =
    let parts = map_of c.in-Some.map.now in
    let entry = c.in-Some-entry.entry in
    let place : length c.loop-entry.yielded ≡ c.len.result = search rules in
    let next = next_cause parts c.loop-entry.yielded entry c.loop-entry.invariant.2 ∙ ap (λ n. entry_cause parts n entry) place in
    let right = accepted (entry_cause parts c.len.result entry) c.part_of.result c.in_ok-part.part c.in_ok-part.was c.part_of.ensures.refused in
    (search rules, search rules, next ∙ right, grind (arith, common_steps), grind (arith, common_steps))

pub returns-in_err-push-clause-refused : goal.returns-in_err-push-clause-refused
returns-in_err-push-clause-refused g c =
    let steps = g.I.Iterator.next_gives in
    let parts = map_of c.in-Some.map.now in
    let entry = c.in-Some-entry.entry in
    let taken = c.loop-entry.yielded in
    let known : map_in (type_of c.args.dtype.now) ≡ Some (map_of c.in-Some.map.now) = search rules in
    let is : c.from_residual-in_err-push.result ≡ Err OutOfMemory = search rules in
    let place : length c.loop-entry.yielded ≡ c.len.result = search rules in
    let next = next_cause parts taken entry c.loop-entry.invariant.2 ∙ ap (λ n. entry_cause parts n entry) place in
    let right = accepted (entry_cause parts c.len.result entry) c.part_of.result c.in_ok-part.part c.in_ok-part.was c.part_of.ensures.refused in
    kind_known (map_in (type_of c.args.dtype.now)) parts (IsErrAnd c.from_residual-in_err-push.result (λ f. f ≡ WrongKind))
    (λ p. IfErr c.from_residual-in_err-push.result (λ f. SomeRun steps c.args.entries (λ run. IsRefusedAtLast (entries_cause p) f run.items))) known
    (subst (λ r. IfErr r (λ f. SomeRun steps c.args.entries (λ run. IsRefusedAtLast (entries_cause parts) f run.items))) (sym is)
    (refused_at steps c.args.entries c.into_iter-entry-iterator.result c.loop-entry.entry-iterator c.next.new.self c.into_iter-entry-iterator.ensures.into_iter_gives
    taken c.loop-entry.yielded_by c.next.result c.next.ensures.steps entry c.in-Some-entry.is (entries_cause parts) OutOfMemory c.loop-entry.invariant.2
    (subst (λ o. MatchOption o (OutOfMemory ≡ OutOfMemory) (λ f. OutOfMemory ≡ f)) (sym (next ∙ right)) refl)))

pub returns-clause-made : goal.returns-clause-made
returns-clause-made g c =
    let known : map_in (type_of c.args.dtype.now) ≡ Some (map_of c.in-Some.map.now) = search rules in
    given_all g.I.Iterator.next_gives c.args.entries c.into_iter-entry-iterator.result c.loop-entry.entry-iterator c.next.new.self c.into_iter-entry-iterator.ensures.into_iter_gives
    c.loop-entry.yielded c.loop-entry.yielded_by c.next.result c.next.ensures.steps c.in-None.is
    (λ items. (map_cause (map_in (type_of c.args.dtype.now)) items ≡ None) × (value_tree (Tuple c.loop-entry.parts) ≡ raw_tuple (raw_entries items))) (
      subst (λ o. map_cause o c.loop-entry.yielded ≡ None) (sym known) c.loop-entry.invariant.2,
      value_tree-Tuple c.loop-entry.parts ∙ ap (λ vs. raw_tuple (as_raw_trees vs)) c.loop-entry.invariant.4,
    )
