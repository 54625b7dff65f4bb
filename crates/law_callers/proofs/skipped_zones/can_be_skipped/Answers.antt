use Rattle.std.proofs.Common.{◌≡◌, ℕ, ◌/◌, ◌%◌, arith, refl, nat_eq, true, false}
use Rattle.std.proofs.lemmas.Bool.{eqb-true}
use Rattle.vortex_filter.specs.Truths.{is_true}
use Rattle.vortex_filter.specs.declared.truth.Truth.{Truth}
use Rattle.vortex_filter.specs.declared.truth.Truth.TheVariants.{True, False, Unknown}
use Rattle.column_filters.specs.Zones.{IsAmong}
use Rattle.law_callers.proofs.skipped_zones.can_be_skipped.Goals as goal

-- a byte without the bit of True has not True among its truths
no-true : (byte : ℕ) (t : Truth) → IsAmong byte t → nat_eq (byte / 4 % 2) 0 ≡ true → is_true t ≡ false
no-true byte False among skipped = refl
no-true byte Unknown among skipped = refl
no-true byte True among skipped =
    let even : byte / 4 % 2 ≡ 0 = eqb-true (byte / 4 % 2) 0 skipped in
    let no : ⊥ = omega (arith, even, among) in
    absurd no

pub returns : goal.returns
returns c = λ f types bytes offsets p is rows right row among skipped.
    no-true c.args.byte _ (c.outcomes_cover_rows.ensures f types bytes offsets p c.args.byte is rows right row among) skipped
