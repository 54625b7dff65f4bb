-- What becomes of the zones so far, and of the others.
use Rattle.std.proofs.Common.{◌≡◌, ◌<◌, ◌≤◌, ◌+◌, ◌-◌, ◌^◌, min, ℕ, suc, List, [], ◌∷◌, ◌++◌, refl, sym, ap, ap₂, ◌∙◌, subst, length, drop, get_or, arith, append_assoc, drop-cons, add-one}
use Rattle.zone_index.specs.Sinks.{told}
use Rattle.zone_index.specs.declared.records.Decision.{Decision}
use Rattle.zone_index.specs.declared.zones.Zone.{Zone}
use Rattle.zone_scans.specs.Planning.{planned_at, planned_from}
use Rattle.zone_scans.specs.declared.planning.PlannedZone.{PlannedZone}

-- numbers that are told as the same
pub planned_told : (decides : List ℕ → Decision) (m n : ℕ) (zones : List Zone) → told m ≡ told n → planned_from decides m zones ≡ planned_from decides n zones
planned_told decides m n [] e = refl
planned_told decides m n (z ∷ zones) e =
    let next : told (m + z.records) ≡ told (n + z.records) = omega (arith, e) in
    ap₂ (λ (p : PlannedZone) (ps : List PlannedZone). p ∷ ps) (ap (λ (k : ℕ). planned_at decides k z) e) (planned_told decides (m + z.records) (n + z.records) zones next)

-- the zones so far, and those that follow
abbrev pub ArePlannedSoFar : (List ℕ → Decision) → ℕ → List Zone → List PlannedZone → ℕ → ℕ → Type 0
ArePlannedSoFar decides first zones planned number i = planned ++ planned_from decides number (drop i zones) ≡ planned_from decides first zones

pub planned_more : (decides : List ℕ → Decision) (first : ℕ) (zones : List Zone) (old new : List PlannedZone) (number next i : ℕ) (z : Zone) (p : PlannedZone) → i < length zones → z ≡ get_or zones i z → number < 2 ^ 64 → p ≡ planned_at decides number z → new ≡ old ++ p ∷ [] → next ≡ min (number + z.records) (2 ^ 64 - 1)
    → ArePlannedSoFar decides first zones old number i → ArePlannedSoFar decides first zones new next (i + 1)
planned_more decides first zones old new number next i z p inside is fits here pushed next_is before =
    let others : List Zone = drop (suc i) zones in
    let own : told number ≡ number = omega (arith, fits) in
    let later : told (number + z.records) ≡ told next = omega (arith, next_is) in
    let parts : drop i zones ≡ z ∷ others = drop-cons zones i z inside ∙ ap (λ (y : Zone). y ∷ others) (sym is) in
    let one : planned_at decides (told number) z ≡ p = ap (λ (n : ℕ). planned_at decides n z) own ∙ sym here in
    let all : planned_from decides number (drop i zones) ≡ p ∷ planned_from decides next others =
    ap (planned_from decides number) parts ∙ ap₂ (λ (q : PlannedZone) (ps : List PlannedZone). q ∷ ps) one (planned_told decides (number + z.records) next others later) in
    rw add-one (ap (λ (l : List PlannedZone). l ++ planned_from decides next others) pushed ∙ append_assoc old (p ∷ []) (planned_from decides next others) ∙ ap (λ (l : List PlannedZone). old ++ l) (sym all) ∙ before)
