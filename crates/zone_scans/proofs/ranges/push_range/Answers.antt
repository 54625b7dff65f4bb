-- The last range goes on, or there is one more.
use Rattle.std.proofs.Common.{◌≡◌, ◌<◌, ◌+◌, ◌-◌, ◌^◌, List, arith, length, rules, subst, true}
use Rattle.zone_scans.specs.Ranges.{AreJoined, EndAt}
use Rattle.zone_scans.specs.declared.ranges.ByteRange.{ByteRange}
use Rattle.zone_scans.proofs.RangeSteps.{extend_covers, joined_extend, joined_push, last_end, some_range}
use Rattle.zone_scans.proofs.ranges.push_range.Goals as goal

pub overflow_add-index_mut : goal.overflow_add-index_mut
overflow_add-index_mut c =
    let items = c.args.ranges.now.items in
    let ends : EndAt items c.args.range.place = search rules in
    let some : 0 < length items = some_range items c.args.range.place ends in
    let long : c.len-last.result - 1 + 1 ≡ length items = omega (arith, some, c.len-last.ensures) in
    let meets = last_end items (c.len-last.result - 1) c.index_mut.result.now c.args.range.place long ends in
    let own : c.index_mut.result.now.place + c.index_mut.result.now.length ≡ c.args.range.place = subst (λ (r : ByteRange). r.place + r.length ≡ c.args.range.place) (search rules) meets in
    let near : c.args.range.place + c.args.range.length < 2 ^ 64 = c.requires (search rules) in
    omega (arith, own, near)

pub returns-then-ends_at-clause-covers : goal.returns-then-ends_at-clause-covers
returns-then-ends_at-clause-covers c = λ bytes.
    let items = c.args.ranges.now.items in
    let ends : EndAt items c.args.range.place = search rules in
    let some : 0 < length items = some_range items c.args.range.place ends in
    extend_covers bytes items (c.len-last.result - 1) c.index_mut.result.now c.args.range c.args.is_read (search rules) (omega (arith, some, c.len-last.ensures)) (search rules) ends

pub returns-then-ends_at-clause-joined : goal.returns-then-ends_at-clause-joined
returns-then-ends_at-clause-joined c = λ h.
    let items = c.args.ranges.now.items in
    let ends : EndAt items c.args.range.place = search rules in
    let some : 0 < length items = some_range items c.args.range.place ends in
    let filled : 0 < c.args.range.length = omega (arith, c.if-range-eq0.false) in
    joined_extend items (c.len-last.result - 1) c.index_mut.result.now c.args.range (omega (arith, some, c.len-last.ensures)) (search rules) ends filled (c.requires (search rules)) h

pub returns-clause-joined : goal.returns-clause-joined
returns-clause-joined c = λ h.
    let items = c.args.ranges.now.items in
    let other : ¬ (EndAt items c.args.range.place) = search rules in
    let filled : 0 < c.args.range.length = omega (arith, c.if-range-eq0.false) in
    subst (λ (l : List ByteRange). AreJoined l) (search rules) (joined_push items c.args.range filled (c.requires (search rules)) other h)
