-- Zones of so many records each.
use Rattle.std.proofs.Common.{◌≡◌, ◌<◌, ◌+◌, ◌*◌, ℕ, zero, suc, List, [], ◌∷◌, ◌++◌, Bool, refl, sym, ap, ap₂, ◌∙◌, length, drop, replicate, sum_by, arith}
use Rattle.std.proofs.lemmas.List.{drop_at, length-append, length-replicate}
use Rattle.std.proofs.lemmas.List.Elements.{All-head, All-tail}
use Rattle.std.proofs.lemmas.List.Sums.{sum_by-cons}
use Rattle.std.specs.List.{All, AllByRecursion, flat_map}
use Rattle.csv_records.specs.Records.{records_of}
use Rattle.zone_index.specs.Zones.{HaveSizes, IsIndexOf, IsZoneOf, zone_records}
use Rattle.zone_index.specs.declared.zones.Zone.{Zone}

-- the records of all zones
sum_of : (d : ℕ) (has_row : List ℕ → Bool) (Describes : List ℕ → List (List ℕ) → Type 0) (bytes : List ℕ) (zones : List Zone) → All (IsZoneOf d has_row Describes bytes) zones → sum_by (λ z. z.records) zones ≡ length (flat_map (zone_records d bytes) zones)
sum_of d has_row Describes bytes [] h = refl
sum_of d has_row Describes bytes (z ∷ zones) h =
    let one = All-head (IsZoneOf d has_row Describes bytes) z zones h in
    let others = sum_of d has_row Describes bytes zones (All-tail (IsZoneOf d has_row Describes bytes) z zones h) in
    sum_by-cons (λ (y : Zone). y.records) z zones ∙ ap₂ (λ (m n : ℕ). m + n) one.records others ∙ sym (length-append (zone_records d bytes z) (flat_map (zone_records d bytes) zones))

all_full : (size n : ℕ) (zones : List Zone) → 0 < size → HaveSizes size zones → sum_by (λ z. z.records) zones ≡ n * size → AllByRecursion (λ z. z.records ≡ size) zones
all_full size n [] some h sum = tt
all_full size zero (z ∷ []) some h sum = absurd (omega (arith, sum, sum_by-cons (λ (y : Zone). y.records) z [], h.0))
all_full size (suc n) (z ∷ []) some h sum =
    let more : suc n * size ≡ n * size + size = grind arith in
    let full : z.records ≡ size = omega (arith, sum, more, sum_by-cons (λ (y : Zone). y.records) z [], h.1) in
    (full, tt)
all_full size zero (z ∷ y ∷ zones) some h sum = absurd (omega (arith, sum, sum_by-cons (λ (x : Zone). x.records) z (y ∷ zones), h.0, some))
all_full size (suc n) (z ∷ y ∷ zones) some h sum =
    let more : suc n * size ≡ n * size + size = grind arith in
    (h.0, all_full size n (y ∷ zones) some h.1 (omega (arith, sum, more, sum_by-cons (λ (x : Zone). x.records) z (y ∷ zones), h.0)))

-- zones that have the records of a text, which are those of so many full zones
pub full_zones : (d size start n : ℕ) (has_row : List ℕ → Bool) (Describes : List ℕ → List (List ℕ) → Type 0) (front : List ℕ) (zones : List Zone) → 0 < size → ((before : List ℕ) → length before ≡ start → IsIndexOf d has_row Describes start zones (before ++ front))
    → HaveSizes size zones → length (records_of d front) ≡ n * size → AllByRecursion (λ z. z.records ≡ size) zones
full_zones d size start n has_row Describes front zones some index sizes many =
    let before : List ℕ = replicate start 0 in
    let long : length before ≡ start = length-replicate start 0 in
    let is = index before long in
    let same : drop start (before ++ front) ≡ front = drop_at before front start long in
    all_full size n zones some sizes (sum_of d has_row Describes (before ++ front) zones is.right ∙ ap length (sym is.records ∙ ap (records_of d) same) ∙ many)
