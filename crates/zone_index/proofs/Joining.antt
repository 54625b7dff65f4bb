-- The zones of two parts of a file are an index of both.
use Rattle.std.proofs.Common.{◌≡◌, ◌≤◌, ◌+◌, ℕ, List, [], ◌∷◌, ◌++◌, Bool, refl, sym, ap, ap₂, ◌∙◌, subst, length, take, drop, arith}
use Rattle.std.proofs.lemmas.Grind.{flat_map-append}
use Rattle.std.proofs.lemmas.List.{drop-append-le, length-append, length-drop, take-append-le}
use Rattle.std.proofs.lemmas.List.Elements.{All-append, All-head, All-tail, All-weaker}
use Rattle.std.proofs.Math.Seq.{drop-append_seam}
use Rattle.std.specs.List.{All, count_by, flat_map}
use Rattle.csv_records.specs.Records.{records_of}
use Rattle.zone_index.specs.Laws.{IndexesAreJoined}
use Rattle.zone_index.specs.Zones.{Follow, IsZoneOf, zone_bytes, zone_records}
use Rattle.zone_index.specs.declared.zones.Zone.{Zone}

-- zones end behind their start
pub follow_le : (at end : ℕ) (zones : List Zone) → Follow at zones end → at ≤ end
follow_le at end [] h = omega (arith, h)
follow_le at end (z ∷ zones) h = omega (arith, follow_le (at + z.length) end zones h.1)

follow-append : (at mid end : ℕ) (zones more : List Zone) → Follow at zones mid → Follow mid more end → Follow at (zones ++ more) end
follow-append at mid end [] more h k = subst (λ (n : ℕ). Follow n more end) (sym h) k
follow-append at mid end (z ∷ zones) more h k = (h.0, follow-append (at + z.length) mid end zones more h.1 k)

-- what stands behind a zone does not change its bytes
pub same_bytes : (front behind : List ℕ) (z : Zone) → z.first + z.length ≤ length front → zone_bytes (front ++ behind) z ≡ zone_bytes front z
same_bytes front behind z inside =
    ap (take z.length) (drop-append-le z.first front behind (omega arith))
    ∙ take-append-le z.length (drop z.first front) behind (omega (arith, length-drop z.first front))

zone_stays : (d : ℕ) (has_row : List ℕ → Bool) (Describes : List ℕ → List (List ℕ) → Type 0) (front behind : List ℕ) (z : Zone) → IsZoneOf d has_row Describes front z → IsZoneOf d has_row Describes (front ++ behind) z
zone_stays d has_row Describes front behind z h =
    let same : zone_records d front z ≡ zone_records d (front ++ behind) z = ap (records_of d) (sym (same_bytes front behind z h.inside)) in
    record {
      inside = omega (arith, h.inside, length-append front behind);
      records = h.records ∙ ap length same;
      rows = h.rows ∙ ap (count_by has_row) same;
      described = subst (Describes z.statistics.items) same h.described;
    }

records_stay : (d : ℕ) (has_row : List ℕ → Bool) (Describes : List ℕ → List (List ℕ) → Type 0) (front behind : List ℕ) (zones : List Zone) → All (IsZoneOf d has_row Describes front) zones
    → flat_map (zone_records d front) zones ≡ flat_map (zone_records d (front ++ behind)) zones
records_stay d has_row Describes front behind [] h = refl
records_stay d has_row Describes front behind (z ∷ zones) h =
    let here = All-head (IsZoneOf d has_row Describes front) z zones h in
    ap₂ (λ (xs ys : List (List ℕ)). xs ++ ys) (ap (records_of d) (sym (same_bytes front behind z here.inside)))
    (records_stay d has_row Describes front behind zones (All-tail (IsZoneOf d has_row Describes front) z zones h))

pub joined : (d : ℕ) (has_row : List ℕ → Bool) (Describes : List ℕ → List (List ℕ) → Type 0) → IndexesAreJoined d has_row Describes
joined d has_row Describes start zones more front behind parts =
    let h = parts.before in
    let k = parts.after in
    let begins : start ≤ length front = follow_le start (length front) zones h.follow in
    let left : drop start (front ++ behind) ≡ drop start front ++ behind = drop-append-le start front behind begins in
    let rest : records_of d behind ≡ flat_map (zone_records d (front ++ behind)) more =
    ap (records_of d) (sym (drop-append_seam front behind)) ∙ k.records in
    record {
      follow = follow-append start (length front) (length (front ++ behind)) zones more h.follow k.follow;
      records = ap (records_of d) left ∙ parts.ends
          ∙ ap₂ (λ (xs ys : List (List ℕ)). xs ++ ys) (h.records ∙ records_stay d has_row Describes front behind zones h.right) rest
          ∙ sym (flat_map-append (zone_records d (front ++ behind)) zones more);
      right = All-append (IsZoneOf d has_row Describes (front ++ behind)) zones more
          (All-weaker (IsZoneOf d has_row Describes front) (IsZoneOf d has_row Describes (front ++ behind)) (zone_stays d has_row Describes front behind) zones h.right) k.right;
    }
