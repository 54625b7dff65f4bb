-- A column more, whose name no other has.
use Rattle.std.proofs.Common.{◌≡◌, ◌∙◌, subst, sym}
use Rattle.zone_map.specs.ColumnLists.{AreApart}
use Rattle.zone_map.proofs.Apart.{apart-push}
use Rattle.zone_map.proofs.column_lists.add_column.Goals as goal

pub returns-in_ok-push-in-Some : goal.returns-in_ok-push-in-Some
returns-in_ok-push-in-Some c = λ apart.
    let named = rw (c.in-Some.is) at c.in_ok-column.ensures in
    let none = rw (c.deref.ensures.value, c.deref-in-Some.ensures) at (sym c.has_name.ensures ∙ c.if-has_name.false) in
    subst AreApart (sym (c.in_ok-push-in-Some.ensures.items)) (apart-push c.args.columns.now.items c.in-Some.column named none apart)
