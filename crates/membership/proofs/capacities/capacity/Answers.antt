use Rattle.std.proofs.Common.{◌-◌, ◌≤◌, ◌+◌, arith, get_or}
use Rattle.membership.specs.Capacities.{capacities}
use Rattle.membership.proofs.Rates.{between-some, between-within, capacity-at, capacity-is}
use Rattle.membership.proofs.capacities.capacity.Goals as goal

pub overflow_mul-result-2 : goal.overflow_mul-result-2
overflow_mul-result-2 c =
    let i = c.power_below-exponent.result.0 in
    let power = c.power_below-exponent.result.1 in
    let all = between-within (get_or capacities i 0) (get_or capacities (i + 1) 0) power (c.args.rate - power) (capacity-at i (omega arith)).1 (capacity-at (i + 1) (omega arith)).1 (omega arith) (omega arith) in
    omega arith

pub overflow_add-result-2 : goal.overflow_add-result-2
overflow_add-result-2 c =
    let i = c.power_below-exponent.result.0 in
    let power = c.power_below-exponent.result.1 in
    let all = between-within (get_or capacities i 0) (get_or capacities (i + 1) 0) power (c.args.rate - power) (capacity-at i (omega arith)).1 (capacity-at (i + 1) (omega arith)).1 (omega arith) (omega arith) in
    omega arith

pub returns-clause-value : goal.returns-clause-value
returns-clause-value c = capacity-is c.args.rate c.power_below-exponent.result.0 c.power_below-exponent.result.1 c.power_below-exponent.ensures.exponent c.power_below-exponent.ensures.power

pub returns-clause-some : goal.returns-clause-some
returns-clause-some c =
    let i = c.power_below-exponent.result.0 in
    let power = c.power_below-exponent.result.1 in
    let low : 3959 ≤ get_or capacities i 0 = (capacity-at i (omega arith)).0 in
    let high : 3959 ≤ get_or capacities (i + 1) 0 = (capacity-at (i + 1) (omega arith)).0 in
    between-some (get_or capacities i 0) (get_or capacities (i + 1) 0) power (c.args.rate - power) (omega arith) (omega arith) (omega arith) (omega arith)
