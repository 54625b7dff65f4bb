-- The lesser scalar is merged, until there is none.
use Rattle.std.proofs.Common.{rules, ◌≡◌, true, subst, sym}
use Rattle.std.specs.Ordering.{is_lt}
use Rattle.std.specs.Result.{is_ok}
use Rattle.law_callers.specs.Keyed.{keyed_cmp}
use Rattle.law_callers.proofs.KeySteps.{keyed-ranks, sorted-partial}
use Rattle.law_callers.proofs.MergeSteps.{IsMerge, Merges, merge_begins, merge_ends, merge_step}
use Rattle.law_callers.proofs.key_laws.merge_by_keys.Goals as goal

pub loop-next-init : goal.loop-next-init
loop-next-init c =
    rw (c.new-merged.ensures.items, c.from_vec-left.ensures.items, c.from_vec-right.ensures.items) (merge_begins (λ x y. is_lt (keyed_cmp x y)) c.args.left.items c.args.right.items)

pub loop-next-preserved : goal.loop-next-preserved
loop-next-preserved c =
    let good : is_ok c.push.result ≡ true = search rules in
    let items = rw good at c.push.ensures.items in
    let step = merge_step keyed_cmp (keyed-ranks c.keys_are_ordered.ensures) c.args.left.items c.args.right.items c.loop-next.merged.items c.loop-next.left.items c.loop-next.right.items c.take_lesser.new.left.items c.take_lesser.new.right.items c.in-Some.next c.in-Some.ensures.taken c.loop-next.invariant in
    subst (λ done. Merges (λ x y. is_lt (keyed_cmp x y)) c.args.left.items c.args.right.items done c.take_lesser.new.left.items c.take_lesser.new.right.items) (sym items) step

pub returns : goal.returns
returns c =
    let none = c.in_default.ensures.none in
    let all : IsMerge (λ x y. is_lt (keyed_cmp x y)) c.args.left.items c.args.right.items c.loop-next.merged.items =
    merge_ends (λ x y. is_lt (keyed_cmp x y)) c.args.left.items c.args.right.items c.loop-next.merged.items c.loop-next.left.items c.loop-next.right.items c.loop-next.invariant none.0 none.1 in
    record {
      permutation = all.moved;
      sorted = all.sorted;
      partial = λ h g. sorted-partial c.order_is_content_order.ensures c.loop-next.merged.items (all.sorted h g);
      stable = all.stable;
    }
