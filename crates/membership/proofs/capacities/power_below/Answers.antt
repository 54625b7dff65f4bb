use Rattle.std.proofs.Common.{◌*◌, ◌^◌, ◌<◌, ◌≤◌, ℕ, arith, subst, sym}
use Rattle.std.proofs.lemmas.Nat.{one_shl}
use Rattle.membership.specs.Capacities.{exponent}
use Rattle.membership.proofs.Rates.{exponent-of}
use Rattle.membership.proofs.capacities.power_below.Goals as goal

pub returns-clause-power : goal.returns-clause-power
returns-clause-power c =
    let found : (exponent c.args.rate < 19) × (2 ^ exponent c.args.rate ≤ c.args.rate) × (c.args.rate < 2 * 2 ^ exponent c.args.rate) = exponent-of c.args.rate c.requires.some c.requires.half in
    one_shl (exponent c.args.rate) 64 (omega arith)

pub returns-clause-within : goal.returns-clause-within
returns-clause-within c = (exponent-of c.args.rate c.requires.some c.requires.half).0

pub returns-clause-below : goal.returns-clause-below
returns-clause-below c =
    let found : (exponent c.args.rate < 19) × (2 ^ exponent c.args.rate ≤ c.args.rate) × (c.args.rate < 2 * 2 ^ exponent c.args.rate) = exponent-of c.args.rate c.requires.some c.requires.half in
    let P : ℕ → Type 0 = λ power. power ≤ c.args.rate in
    subst P (sym (one_shl (exponent c.args.rate) 64 (omega arith))) found.1

pub returns-clause-above : goal.returns-clause-above
returns-clause-above c =
    let found : (exponent c.args.rate < 19) × (2 ^ exponent c.args.rate ≤ c.args.rate) × (c.args.rate < 2 * 2 ^ exponent c.args.rate) = exponent-of c.args.rate c.requires.some c.requires.half in
    let P : ℕ → Type 0 = λ power. c.args.rate < 2 * power in
    subst P (sym (one_shl (exponent c.args.rate) 64 (omega arith))) found.2
