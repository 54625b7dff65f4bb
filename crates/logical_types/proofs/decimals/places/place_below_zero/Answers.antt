use Rattle.std.proofs.Common.{◌≡◌, ◌∙◌, ap, ◌+◌, ◌-◌, ◌*◌, ◌/◌, ◌%◌, ◌<◌, ◌≤◌, arith, pos, neg_ℤ, ◌-ℤ◌, to_z, of_z}
use Rattle.std.proofs.Math.Nat.{div-add-mod, mod-lt}
use mir.Syntax.{w128}
use Rattle.std.proofs.lemmas.Int.{ints}
use Rattle.logical_types.specs.declared.decimals.places.DecimalPlace.TheVariants.{At, Behind}
use Rattle.logical_types.proofs.PlacesAre.{at_below_is, behind_below_is, below_is}
use Rattle.logical_types.proofs.PlacesShown.{at_below_zero, behind_below_zero, below_below_zero}
use Rattle.logical_types.proofs.decimals.places.place_below_zero.Goals as goal
use Rattle.logical_types.proofs.decimals.places.place_below_zero.Goals.{else-rest-eq0-via-then-rest-eq0+else-factor-limit, else-rest-eq0-via-else-rest-eq0, else-rest-ne0-via-then-rest-ne0+else-factor-limit-2, else-rest-ne0-via-else-rest-ne0}

pub returns-then-factor-limit-clause-lies : goal.returns-then-factor-limit-clause-lies
returns-then-factor-limit-clause-lies c =
    let d : c.args.unit * (c.args.size / c.args.unit) + c.args.size % c.args.unit ≡ c.args.size = div-add-mod c.args.size c.args.unit in
    let e : c.args.unit * (c.args.size / c.args.unit) + 0 ≡ c.args.size = omega (arith, d, c.if-rest-eq0.true) in
    let z : to_z w128 (of_z w128 (pos 0 -ℤ to_z w128 (c.args.size / c.args.unit))) ≡ neg_ℤ (pos (c.args.size / c.args.unit)) = omega (arith, ints, c.if-factor-limit.true, c.requires.small) in
    at_below_zero c.args.limit c.args.unit (c.args.size / c.args.unit) c.args.size _ z e c.if-factor-limit.true

pub returns-then-factor-limit-2-clause-lies : goal.returns-then-factor-limit-2-clause-lies
returns-then-factor-limit-2-clause-lies c =
    let d : c.args.unit * (c.args.size / c.args.unit) + c.args.size % c.args.unit ≡ c.args.size = div-add-mod c.args.size c.args.unit in
    let some : 0 < c.args.size % c.args.unit = omega (arith, c.if-rest-ne0.true) in
    let z : to_z w128 (of_z w128 (to_z w128 (of_z w128 (pos 0 -ℤ to_z w128 (c.args.size / c.args.unit))) -ℤ pos 1)) ≡ neg_ℤ (pos (c.args.size / c.args.unit + 1)) = omega (arith, ints, c.if-factor-limit-2.true, c.requires.small) in
    behind_below_zero c.args.limit c.args.unit (c.args.size / c.args.unit) c.args.size (c.args.size % c.args.unit) _ z d some (mod-lt c.args.size c.requires.unit) c.if-factor-limit-2.true

pub returns-else-rest-ne0-clause-lies : goal.returns-else-rest-ne0-clause-lies
returns-else-rest-ne0-clause-lies c =
    let d : c.args.unit * (c.args.size / c.args.unit) + c.args.size % c.args.unit ≡ c.args.size = div-add-mod c.args.size c.args.unit in
    let least : c.args.limit - 1 ≤ c.args.size / c.args.unit = elim c.else-rest-eq0.branch [
      | else-rest-eq0-via-then-rest-eq0+else-factor-limit w ↦ omega (arith, w.if-factor-limit.false)
      | else-rest-eq0-via-else-rest-eq0 w ↦ elim c.else-rest-ne0.branch [
        | else-rest-ne0-via-then-rest-ne0+else-factor-limit-2 v ↦ omega (arith, v.if-factor-limit-2.false)
        | else-rest-ne0-via-else-rest-ne0 v ↦ absurd (omega (arith, w.if-rest-eq0.false, v.if-rest-ne0.false))
      ]
    ] in
    let exact : c.args.size % c.args.unit ≡ 0 → c.args.limit ≤ c.args.size / c.args.unit = λ h. elim c.else-rest-eq0.branch [
      | else-rest-eq0-via-then-rest-eq0+else-factor-limit w ↦ omega (arith, w.if-factor-limit.false)
      | else-rest-eq0-via-else-rest-eq0 w ↦ absurd (omega (arith, h, w.if-rest-eq0.false))
    ] in
    below_below_zero c.args.limit c.args.unit (c.args.size / c.args.unit) c.args.size (c.args.size % c.args.unit) c.requires.unit d least exact c.requires.some

pub returns-then-factor-limit-clause-value : goal.returns-then-factor-limit-clause-value
returns-then-factor-limit-clause-value c =
    let z : to_z w128 (of_z w128 (pos 0 -ℤ to_z w128 (c.args.size / c.args.unit))) ≡ neg_ℤ (pos (c.args.size / c.args.unit)) = omega (arith, ints, c.if-factor-limit.true, c.requires.small) in
    ap At z ∙ at_below_is c.args.limit (c.args.size / c.args.unit) (c.args.size % c.args.unit) c.if-rest-eq0.true c.if-factor-limit.true

pub returns-then-factor-limit-2-clause-value : goal.returns-then-factor-limit-2-clause-value
returns-then-factor-limit-2-clause-value c =
    let some : 0 < c.args.size % c.args.unit = omega (arith, c.if-rest-ne0.true) in
    let z : to_z w128 (of_z w128 (to_z w128 (of_z w128 (pos 0 -ℤ to_z w128 (c.args.size / c.args.unit))) -ℤ pos 1)) ≡ neg_ℤ (pos (c.args.size / c.args.unit + 1)) = omega (arith, ints, c.if-factor-limit-2.true, c.requires.small) in
    ap Behind z ∙ behind_below_is c.args.limit (c.args.size / c.args.unit) (c.args.size % c.args.unit) some c.if-factor-limit-2.true

pub returns-else-rest-ne0-clause-value : goal.returns-else-rest-ne0-clause-value
returns-else-rest-ne0-clause-value c =
    let least : c.args.limit - 1 ≤ c.args.size / c.args.unit = elim c.else-rest-eq0.branch [
      | else-rest-eq0-via-then-rest-eq0+else-factor-limit w ↦ omega (arith, w.if-factor-limit.false)
      | else-rest-eq0-via-else-rest-eq0 w ↦ elim c.else-rest-ne0.branch [
        | else-rest-ne0-via-then-rest-ne0+else-factor-limit-2 v ↦ omega (arith, v.if-factor-limit-2.false)
        | else-rest-ne0-via-else-rest-ne0 v ↦ absurd (omega (arith, w.if-rest-eq0.false, v.if-rest-ne0.false))
      ]
    ] in
    let exact : c.args.size % c.args.unit ≡ 0 → c.args.limit ≤ c.args.size / c.args.unit = λ h. elim c.else-rest-eq0.branch [
      | else-rest-eq0-via-then-rest-eq0+else-factor-limit w ↦ omega (arith, w.if-factor-limit.false)
      | else-rest-eq0-via-else-rest-eq0 w ↦ absurd (omega (arith, h, w.if-rest-eq0.false))
    ] in
    below_is c.args.limit (c.args.size / c.args.unit) (c.args.size % c.args.unit) exact least
