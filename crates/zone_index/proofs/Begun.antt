-- A zone more of an index.
use Rattle.std.proofs.Common.{◌≡◌, ◌+◌, ℕ, List, [], ◌∷◌, ◌++◌, Bool, Option, Some, refl, sym, ap, ◌∙◌, subst, length, take, drop, arith, append_assoc, append-nil, drop_at}
use Rattle.std.proofs.lemmas.Grind.{flat_map-append}
use Rattle.std.proofs.lemmas.List.{length-append}
use Rattle.std.proofs.lemmas.List.Elements.{All-push}
use lib.Seq.{drop-append_seam, take-append_seam}
use Rattle.std.specs.List.{All, count_by, flat_map}
use Rattle.csv_records.specs.Records.{records_of}
use Rattle.zone_index.specs.Taking.{IsTaken}
use Rattle.zone_index.specs.Zones.{Follow, IsIndexOf, IsZoneOf, IsZoneOfText, zone_bytes, zone_records}
use Rattle.zone_index.specs.declared.zones.Zone.{Zone}

-- an index of the bytes so far: those from the start up to this offset, and the rest is left
pub record IsBegun (d : ℕ) (has_row : List ℕ → Bool) (Describes : List ℕ → List (List ℕ) → Type 0) (start : ℕ) (zones : List Zone) (bytes : List ℕ) (left : Option (List ℕ)) (at : ℕ) : Type 0 where
  pub before : List ℕ
  pub rest : List ℕ
  pub is : left ≡ Some rest
  pub parts : bytes ≡ before ++ rest
  pub long : length before ≡ at
  pub follow : Follow start zones at
  pub records : records_of d (drop start bytes) ≡ flat_map (zone_records d bytes) zones ++ records_of d rest
  pub right : All (IsZoneOf d has_row Describes bytes) zones

pub begun : (d : ℕ) (has_row : List ℕ → Bool) (Describes : List ℕ → List (List ℕ) → Type 0) (start : ℕ) (zones : List Zone) (front bytes : List ℕ) (left : Option (List ℕ)) → zones ≡ [] → length front ≡ start → left ≡ Some bytes
    → IsBegun d has_row Describes start zones (front ++ bytes) left start
begun d has_row Describes start zones front bytes left none long is =
    subst (λ (zs : List Zone). IsBegun d has_row Describes start zs (front ++ bytes) left start) (sym none)
    (record { before = front; rest = bytes; is = is; parts = refl; long = long; follow = refl; records = ap (records_of d) (drop_at front bytes start long); right = λ k e below. absurd (omega arith) })

-- nothing is left
pub ended : (d : ℕ) (has_row : List ℕ → Bool) (Describes : List ℕ → List (List ℕ) → Type 0) (start : ℕ) (zones : List Zone) (bytes : List ℕ) (left : Option (List ℕ)) (at : ℕ) (b : IsBegun d has_row Describes start zones bytes left at) → b.rest ≡ []
    → IsIndexOf d has_row Describes start zones bytes
ended d has_row Describes start zones bytes left at b none =
    let all : bytes ≡ b.before = b.parts ∙ ap (λ (l : List ℕ). b.before ++ l) none ∙ append-nil b.before in
    record {
      follow = subst (Follow start zones) (sym b.long ∙ ap length (sym all)) b.follow;
      records = b.records ∙ ap (λ (l : List ℕ). flat_map (zone_records d bytes) zones ++ records_of d l) none ∙ append-nil (flat_map (zone_records d bytes) zones);
      right = b.right;
    }

follow_more : (at end : ℕ) (zones : List Zone) (z : Zone) → Follow at zones end → z.first ≡ end → Follow at (zones ++ z ∷ []) (end + z.length)
follow_more at end [] z h e = (e ∙ sym h, ap (λ n. n + z.length) h)
follow_more at end (y ∷ zones) z h e = (h.0, follow_more (at + y.length) end zones z h.1 e)

-- the zone that was taken
pub more : (d : ℕ) (has_row : List ℕ → Bool) (Describes : List ℕ → List (List ℕ) → Type 0) (start : ℕ) (zones : List Zone) (bytes text : List ℕ) (left next : Option (List ℕ)) (at : ℕ) (z : Zone) (b : IsBegun d has_row Describes start zones bytes left at)
    → IsTaken d b.rest text next → IsZoneOfText d has_row Describes at text z → IsBegun d has_row Describes start (zones ++ z ∷ []) bytes next (at + z.length)
more d has_row Describes start zones bytes text left next at z b t new =
    let parts : bytes ≡ b.before ++ (text ++ t.rest) = b.parts ∙ ap (λ (l : List ℕ). b.before ++ l) t.parts in
    let behind : drop z.first bytes ≡ text ++ t.rest = ap (λ n. drop n bytes) (new.begins ∙ sym b.long) ∙ ap (drop (length b.before)) parts ∙ drop-append_seam b.before (text ++ t.rest) in
    let own : zone_bytes bytes z ≡ text = ap (take z.length) behind ∙ ap (λ n. take n (text ++ t.rest)) new.long ∙ take-append_seam text t.rest in
    let own_records : zone_records d bytes z ≡ records_of d text = ap (records_of d) own in
    let first = new.begins in
    let zone : IsZoneOf d has_row Describes bytes z = record {
      inside = omega (arith, ap length parts, length-append b.before (text ++ t.rest), length-append text t.rest, b.long, new.begins, new.long);
      records = new.records ∙ ap length (sym own_records);
      rows = new.rows ∙ ap (count_by has_row) (sym own_records);
      described = subst (Describes z.statistics.items) (sym own_records) new.described;
    } in
    record {
      before = b.before ++ text;
      rest = t.rest;
      is = t.is;
      parts = parts ∙ sym (append_assoc b.before text t.rest);
      long = length-append b.before text ∙ ap (λ n. n + length text) b.long ∙ ap (λ n. at + n) (sym new.long);
      follow = follow_more start at zones z b.follow first;
      records = b.records
          ∙ ap (λ (l : List (List ℕ)). flat_map (zone_records d bytes) zones ++ l) (t.records ∙ ap (λ (l : List (List ℕ)). l ++ records_of d t.rest) (sym own_records))
          ∙ sym (append_assoc (flat_map (zone_records d bytes) zones) (zone_records d bytes z) (records_of d t.rest))
          ∙ ap (λ (l : List (List ℕ)). l ++ records_of d t.rest) (ap (λ (l : List (List ℕ)). flat_map (zone_records d bytes) zones ++ l) (sym (append-nil (zone_records d bytes z))) ∙ sym (flat_map-append (zone_records d bytes) zones (z ∷ [])));
      right = All-push (IsZoneOf d has_row Describes bytes) zones z b.right zone;
    }

-- the same, where text, zones, offset and delimiter go by other names
pub more_at : (d e : ℕ) (has_row : List ℕ → Bool) (Describes : List ℕ → List (List ℕ) → Type 0) (start : ℕ) (zones new : List Zone) (bytes text view : List ℕ) (left next : Option (List ℕ)) (at end : ℕ) (z : Zone) (b : IsBegun d has_row Describes start zones bytes left at)
    → e ≡ d → IsTaken e b.rest text next → view ≡ text → IsZoneOfText d has_row Describes at view z → new ≡ zones ++ z ∷ [] → end ≡ at + z.length → IsBegun d has_row Describes start new bytes next end
more_at d e has_row Describes start zones new bytes text view left next at end z b by t same zone new_is end_is =
    let taken : IsTaken d b.rest text next = subst (λ (n : ℕ). IsTaken n b.rest text next) by t in
    let m = more d has_row Describes start zones bytes text left next at z b taken (subst (λ (l : List ℕ). IsZoneOfText d has_row Describes at l z) same zone) in
    subst (λ (zs : List Zone). IsBegun d has_row Describes start zs bytes next end) (sym new_is) (subst (IsBegun d has_row Describes start (zones ++ z ∷ []) bytes next) (sym end_is) m)
