-- The plan of the index, or why there is none.
use Rattle.std.proofs.Common.{◌≡◌, List, Bool, Ok, refl, sym, subst, ◌∙◌, ap}
use Rattle.vortex_filter.specs.Formula.{formula}
use Rattle.zone_index.specs.Encoding.{index_value, root_value}
use Rattle.zone_index.specs.EncodingReading.{Fails, index_at}
use Rattle.zone_index.specs.declared.zones.Zone.{Zone}
use Rattle.zone_scans.specs.Ranges.{IsFarZone}
use Rattle.zone_scans.specs.Wanted.{wanted_root}
use Rattle.file_search.specs.Plans.{NoPlanFor}
use Rattle.file_search.specs.Sought.{planned_rows}
use Rattle.file_search.specs.declared.index_bytes.PlanError.{PlanError}
use Rattle.file_search.proofs.SoughtSteps.{far_plan, no_blocks}
use Rattle.file_search.proofs.index_bytes.plan_by_bytes.Goals as goal

pub returns-in-Err-clause-refused : goal.returns-in-Err-clause-refused
returns-in-Err-clause-refused c =
    let named = c.in_ok-named.named.items in
    let root = root_value c.in_ok-root.root in
    let fails : Fails c.in-Err.error (index_at named (wanted_root named root) c.args.blocks.now) =
    subst (λ (w : List Bool). Fails c.in-Err.error (index_at w (wanted_root w root) c.args.blocks.now)) c.deref.ensures.value c.in-Err.ensures.exact in
    subst (λ (e : PlanError). NoPlanFor c.args.depth c.args.root.now c.args.blocks.now c.args.words.now c.args.purpose e) (sym c.bad_blocks.ensures)
    (no_blocks c.args.depth c.args.root.now c.args.blocks.now c.args.words.now c.args.purpose root c.in_ok-root.field-0-1 c.in_ok-sought.sought.schema (formula c.in_ok-sought.sought.filter) named c.in-Err.error (record { read = c.in_ok-root.ensures.read; sought = c.in_ok-sought.ensures.sought; marked = c.in_ok-named.ensures }) fails)

pub returns-in-Ok-plan_search-clause-plan : goal.returns-in-Ok-plan_search-clause-plan
returns-in-Ok-plan_search-clause-plan c =
    let named = c.in_ok-named.named.items in
    let root = root_value c.in_ok-root.root in
    let schema = c.in_ok-sought.sought.schema in
    let f = formula c.in_ok-sought.sought.filter in
    record {
      root = root;
      start = c.in_ok-root.field-0-1;
      schema = schema;
      f = f;
      named = named;
      seeks = record { read = c.in_ok-root.ensures.read; sought = c.in_ok-sought.ensures.sought; marked = c.in_ok-named.ensures };
      zones = c.in-Ok.index.zones.items;
      of_index = record {
        index = index_value c.in-Ok.index;
        read = subst (λ (w : List Bool). index_at w (wanted_root w root) c.args.blocks.now ≡ Ok (index_value c.in-Ok.index)) c.deref.ensures.value c.in-Ok.ensures.exact;
        are = refl;
      };
      planned = c.in-Ok-plan_search.ensures.zones ∙ ap (planned_rows schema f) c.deref-2.ensures.value;
      covers = c.in-Ok-plan_search.ensures.covers;
      joined = c.in-Ok-plan_search.ensures.joined;
    }

pub returns-clause-refused : goal.returns-clause-refused
returns-clause-refused c =
    let named = c.in_ok-named.named.items in
    let root = root_value c.in_ok-root.root in
    let schema = c.in_ok-sought.sought.schema in
    let f = formula c.in_ok-sought.sought.filter in
    let far : IsFarZone c.args.purpose (planned_rows schema f c.in-Ok.index.zones.items) c.in-Err-plan_search.error =
    subst (λ (zones : List Zone). IsFarZone c.args.purpose (planned_rows schema f zones) c.in-Err-plan_search.error) c.deref-2.ensures.value c.in-Err-plan_search.ensures.far in
    subst (λ (e : PlanError). NoPlanFor c.args.depth c.args.root.now c.args.blocks.now c.args.words.now c.args.purpose e) (sym c.far_zone.ensures)
    (far_plan c.args.depth c.args.root.now c.args.blocks.now c.args.words.now c.args.purpose root c.in_ok-root.field-0-1 schema f named c.in-Ok.index.zones.items c.in-Err-plan_search.error
    (record { read = c.in_ok-root.ensures.read; sought = c.in_ok-sought.ensures.sought; marked = c.in_ok-named.ensures })
    (record { index = index_value c.in-Ok.index; read = subst (λ (w : List Bool). index_at w (wanted_root w root) c.args.blocks.now ≡ Ok (index_value c.in-Ok.index)) c.deref.ensures.value c.in-Ok.ensures.exact; are = refl }) far)
