-- One name more.
use Rattle.std.proofs.Common.{◌≡◌, ◌⊎◌, [], List, rules, sym, subst, get_or}
use Rattle.std.specs.Prelude.{Contains, string_bytes}
use Rattle.std.specs.declared.string.String.{String}
use Rattle.std.specs.Global.{Global}
use Rattle.csv_columns.specs.Names.{IsFirstFree, made_up, texts}
use Rattle.csv_columns.proofs.Naming.{made_begun, made_next, naming_begun, naming_next}
use Rattle.csv_columns.proofs.names.names_for.Goals as goal

pub loop-place-init : goal.loop-place-init
loop-place-init c = (naming_begun _ _ (search rules), search rules, made_begun _ _ _ (search rules))

pub loop-place-preserved : goal.loop-place-preserved
loop-place-preserved c = (
  naming_next c.args.given.now c.loop-place.names.items c.in_ok-name.name c.push.new.self.items c.loop-place.place
      c.loop-place.invariant.0 c.loop-place.invariant.1 c.in_ok-push.ensures.items
      c.in_ok-name.ensures.valid
      (subst (λ (l : List (String Global)). ¬ (Contains (texts l) (string_bytes c.in_ok-name.name))) c.deref.ensures.value c.in_ok-name.ensures.other)
      c.in_ok-name.ensures.own
      (λ more is_name first. c.in_ok-name.ensures.kept more is_name (subst (λ (l : List (String Global)). ¬ (Contains (texts l) (get_or (texts c.args.given.now) c.loop-place.place []))) (sym c.deref.ensures.value) first)),
  search rules,
  made_next c.args.are_divided c.args.given.now c.loop-place.names.items c.in_ok-name.name c.push.new.self.items c.loop-place.place
      c.loop-place.invariant.2 c.loop-place.invariant.1 c.in_ok-push.ensures.items
      (subst (λ (l : List (String Global)). (string_bytes c.in_ok-name.name ≡ get_or (texts c.args.given.now) c.loop-place.place [])
      ⊎ IsFirstFree (made_up c.args.are_divided c.loop-place.place) (texts c.args.given.now) (texts l) (string_bytes c.in_ok-name.name)) c.deref.ensures.value c.in_ok-name.ensures.made),
)
