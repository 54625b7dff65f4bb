use Rattle.std.proofs.Common.{◌≡◌, ◌⊎◌, Some, IsErrAnd, IfErr, sym, subst, rules}
use Rattle.std.specs.Iterator.Runs.{WholeRun}
use Rattle.vortex_dtype.specs.Parts.{fields_in}
use Rattle.vortex_dtype.specs.Refusals.{RefusesOrNoMemory}
use Rattle.vortex_dtype.specs.TypeOf.{fields_of, type_of}
use Rattle.vortex_dtype.specs.declared.error.VortexError.TheVariants.{OutOfMemory, WrongKind}
use Rattle.vortex_value.specs.Makers.{fields_cause, child_trees, struct_cause}
use Rattle.vortex_value.specs.Values.RawOf.{raw_of}
use Rattle.vortex_value.specs.Values.RawTree.{raw_tuple}
use Rattle.vortex_value.proofs.ItemMakers.{kept_made, kept_refused, kind_known}
use Rattle.vortex_value.proofs.constructor.structs.struct_value.Goals as goal

pub returns-clause-refused : goal.returns-clause-refused
returns-clause-refused g c =
    let steps = g.I.Iterator.next_gives in
    let parts = fields_of c.in-Some.fields.now in
    let result = c.fields_value.result in
    let run = c.in_ok-children.ensures.runs tt in
    let known : fields_in (type_of c.args.dtype.now) ≡ Some (fields_of c.in-Some.fields.now) = search rules in
    kind_known (fields_in (type_of c.args.dtype.now)) parts (IsErrAnd result (λ e. e ≡ WrongKind))
    (λ fields. IfErr result (λ e. (e ≡ OutOfMemory) ⊎ WholeRun steps c.args.children (λ p. fields_cause fields.types p.items ≡ Some e))) known
    (kept_refused steps c.args.children c.in_ok-children.children.items (run.0, run.1, run.2, run.3.0) (fields_cause parts.types) result c.fields_value.ensures.refused)

pub returns-clause-made : goal.returns-clause-made
returns-clause-made g c =
    let items = c.in_ok-children.children.items in
    let result = c.fields_value.result in
    let run = c.in_ok-children.ensures.runs tt in
    let known : fields_in (type_of c.args.dtype.now) ≡ Some (fields_of c.in-Some.fields.now) = search rules in
    kept_made g.I.Iterator.next_gives c.args.children items (run.0, run.1, run.2, run.3.0) (struct_cause (fields_in (type_of c.args.dtype.now)))
    (λ xs v. raw_of v ≡ raw_tuple (child_trees xs)) result (subst (λ o. RefusesOrNoMemory (struct_cause o items) result) (sym known) c.fields_value.ensures.refused)
    c.fields_value.ensures.made
