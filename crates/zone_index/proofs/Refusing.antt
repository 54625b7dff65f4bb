-- The record that a refusal tells.
use Rattle.std.proofs.Common.{◌≡◌, ◌≤◌, ◌<◌, ◌+◌, ◌-◌, ◌^◌, min, arith, ℕ, zero, suc, List, [], ◌∷◌, ◌++◌, Bool, Option, Some, refl, sym, ap, ◌∙◌, subst, length, drop, get_or, append_assoc, append-nil, drop_at}
use Rattle.std.proofs.Math.ListN.{replicate}
use Rattle.std.proofs.lemmas.List.{length-append, length-drop, length-replicate, length-take}
use Rattle.std.proofs.lemmas.List.Folds.{concat-append}
use Rattle.std.specs.List.{All, concat, flat_map}
use Rattle.csv_records.specs.Lemmas.RecordLaws.{concat-records_of}
use Rattle.csv_records.specs.Records.{records_of}
use Rattle.zone_index.specs.Errors.{EndsFar, IfRecordRefused, IfRefused, IsOfReading, TellsOneOf, TellsRecord, fault_at}
use Rattle.zone_index.specs.Taking.{IsTaken}
use Rattle.zone_index.specs.Zones.{Follow, IsHeld, IsIndexOf, IsZoneOf, zone_bytes, zone_records}
use Rattle.zone_index.specs.declared.errors.Cause.{Cause}
use Rattle.zone_index.specs.declared.errors.SearchError.{SearchError}
use Rattle.zone_index.specs.declared.errors.SearchError.TheVariants as errors
use Rattle.zone_index.specs.declared.errors.RecordError.{RecordError}
use Rattle.zone_index.specs.declared.errors.RecordError.TheVariants as record_faults
use Rattle.zone_index.specs.declared.errors.Refusal.{Refusal}
use Rattle.zone_index.specs.declared.zones.Zone.{Zone}
use Rattle.zone_index.proofs.Begun.{IsBegun}

-- no record is told
pub none_told : (P : Refusal → Type 0) (f : SearchError) → IsOfReading f → IfRefused P f
none_told P (errors.Refused r) h = absurd h
none_told P errors.Read h = tt
none_told P errors.CutShort h = tt
none_told P errors.TooFar h = tt
none_told P errors.Write h = absurd h
none_told P errors.Memory h = tt

-- ---- one record

pub told_here : (R : List ℕ → Cause → Type 0) (place : ℕ) (line : List ℕ) (f : RecordError) → place < 2 ^ 64 → IfRecordRefused (TellsRecord R 0 line) f → IfRefused (TellsRecord R place line) (fault_at place f)
told_here R place line record_faults.Memory fits h = tt
told_here R place line (record_faults.Refused r) fits h = record { begins = omega (arith, h.begins, fits); cause = h.cause }

concat_long : (xs ys : List (List ℕ)) → length (concat (xs ++ ys)) ≡ length (concat xs) + length (concat ys)
concat_long xs ys = ap length (concat-append xs ys) ∙ length-append (concat xs) (concat ys)

regroup : (front before others back : List (List ℕ)) (line : List ℕ) → front ++ ((before ++ line ∷ others) ++ back) ≡ (front ++ before) ++ line ∷ (others ++ back)
regroup front before others back line = simp append_assoc

-- one of records that stand among others
pub told_among : (R : List ℕ → Cause → Type 0) (at first : ℕ) (front records back : List (List ℕ)) (r : Refusal) → ((n : ℕ) → min (first + n) (2 ^ 64 - 1) ≡ min (at + length (concat front) + n) (2 ^ 64 - 1))
    → TellsOneOf R first records r → TellsOneOf R at (front ++ (records ++ back)) r
told_among R at first front records back r here h =
    let place : min (first + length (concat h.before)) (2 ^ 64 - 1) ≡ min (at + length (concat (front ++ h.before))) (2 ^ 64 - 1) = omega (arith, here (length (concat h.before)), concat_long front h.before) in
    record {
      before = front ++ h.before;
      line = h.line;
      others = h.others ++ back;
      among = ap (λ (l : List (List ℕ)). front ++ (l ++ back)) h.among ∙ regroup front h.before h.others back h.line;
      told = record { begins = h.told.begins ∙ place; cause = h.told.cause };
    }

-- ---- a text, record by record

-- the rest of a text that is left behind some of its records
pub record IsReached (d : ℕ) (text rest : List ℕ) : Type 0 where
  pub before : List (List ℕ)
  pub records : records_of d text ≡ before ++ records_of d rest
  pub long : length (concat before) + length rest ≡ length text

pub reached_none : (d : ℕ) (text : List ℕ) → IsReached d text text
reached_none d text = let long : 0 + length text ≡ length text = omega arith in record { before = []; records = refl; long = long }

pub reached_more : (d : ℕ) (text rest line after : List ℕ) → IsReached d text rest → records_of d rest ≡ line ∷ records_of d after → rest ≡ line ++ after → IsReached d text after
reached_more d text rest line after h cut parts =
    let one : length (concat (line ∷ [])) ≡ length line = ap length (append-nil line) in
    let all : length rest ≡ length line + length after = ap length parts ∙ length-append line after in
    record {
      before = h.before ++ line ∷ [];
      records = h.records ∙ ap (λ (l : List (List ℕ)). h.before ++ l) cut ∙ sym (append_assoc h.before (line ∷ []) (records_of d after));
      long = omega (arith, h.long, concat_long h.before (line ∷ []), one, all);
    }

-- the same, where the delimiter goes by another name
pub reached_more_at : (d e : ℕ) (text rest line after : List ℕ) → IsReached d text rest → e ≡ d → records_of e rest ≡ line ∷ records_of e after → rest ≡ line ++ after → IsReached d text after
reached_more_at d e text rest line after h by cut parts = reached_more d text rest line after h (subst (λ (n : ℕ). records_of n rest ≡ line ∷ records_of n after) by cut) parts

pub told_in_text : (R : List ℕ → Cause → Type 0) (d first place : ℕ) (text rest line after : List ℕ) (r : Refusal) → IsReached d text rest → records_of d rest ≡ line ∷ records_of d after
    → place ≡ min (first + (length text - length rest)) (2 ^ 64 - 1) → TellsRecord R place line r → TellsOneOf R first (records_of d text) r
told_in_text R d first place text rest line after r h cut is told =
    let here : min (first + (length text - length rest)) (2 ^ 64 - 1) ≡ min (first + length (concat h.before)) (2 ^ 64 - 1) = ap (λ (n : ℕ). min (first + n) (2 ^ 64 - 1)) (omega (arith, h.long)) in
    record {
      before = h.before;
      line = line;
      others = records_of d after;
      among = h.records ∙ ap (λ (l : List (List ℕ)). h.before ++ l) cut;
      told = record { begins = told.begins ∙ is ∙ here; cause = told.cause };
    }

-- the same of an error, where the text begins at offset 0
pub refused_in_text : (R : List ℕ → Cause → Type 0) (d place : ℕ) (text rest line after : List ℕ) (f : RecordError) → IsReached d text rest → records_of d rest ≡ line ∷ records_of d after
    → place ≡ min (0 + (length text - length rest)) (2 ^ 64 - 1) → IfRecordRefused (TellsRecord R place line) f → IfRecordRefused (TellsOneOf R 0 (records_of d text)) f
refused_in_text R d place text rest line after record_faults.Memory reached cut is h = tt
refused_in_text R d place text rest line after (record_faults.Refused r) reached cut is h = told_in_text R d 0 place text rest line after r reached cut is h

-- what is told of a record's text, told of the file
pub told_at : (R : List ℕ → Cause → Type 0) (first : ℕ) (records : List (List ℕ)) (f : RecordError) → IfRecordRefused (TellsOneOf R 0 records) f → IfRefused (TellsOneOf R first records) (fault_at first f)
told_at R first records record_faults.Memory h = tt
told_at R first records (record_faults.Refused r) h = record {
  before = h.before;
  line = h.line;
  others = h.others;
  among = h.among;
  told = record { begins = omega (arith, h.told.begins); cause = h.told.cause };
}

-- ---- zones of an index

zone_long : (d : ℕ) (has_row : List ℕ → Bool) (Describes : List ℕ → List (List ℕ) → Type 0) (was : List ℕ) (z : Zone) → IsZoneOf d has_row Describes was z → length (concat (zone_records d was z)) ≡ z.length
zone_long d has_row Describes was z h =
    ap length (concat-records_of d (zone_bytes was z)) ∙ omega (arith, length-take z.length (drop z.first was), length-drop z.first was, h.inside)

told_in_first : (R : List ℕ → Cause → Type 0) (at first : ℕ) (records others : List (List ℕ)) (r : Refusal) → first ≡ at → TellsOneOf R first records r → TellsOneOf R at (records ++ others) r
told_in_first R at first records others r same h = record {
  before = h.before;
  line = h.line;
  others = h.others ++ others;
  among = ap (λ (l : List (List ℕ)). l ++ others) h.among ∙ append_assoc h.before (h.line ∷ h.others) others;
  told = record { begins = h.told.begins ∙ ap (λ (n : ℕ). min (n + length (concat h.before)) (2 ^ 64 - 1)) same; cause = h.told.cause };
}

told_in_zone : (R : List ℕ → Cause → Type 0) (d : ℕ) (has_row : List ℕ → Bool) (Describes : List ℕ → List (List ℕ) → Type 0) (was : List ℕ) (at end : ℕ) (zones : List Zone) (i : ℕ) (z : Zone) (r : Refusal) → i < length zones
    → Follow at zones end → All (IsZoneOf d has_row Describes was) zones → TellsOneOf R (get_or zones i z).first (zone_records d was (get_or zones i z)) r → TellsOneOf R at (flat_map (zone_records d was) zones) r
told_in_zone R d has_row Describes was at end [] i z r inside follow right h = absurd (omega (arith, inside))
told_in_zone R d has_row Describes was at end (y ∷ zones) zero z r inside follow right h =
    told_in_first R at y.first (zone_records d was y) (flat_map (zone_records d was) zones) r follow.0 h
told_in_zone R d has_row Describes was at end (y ∷ zones) (suc i) z r inside follow right h =
    let own = zone_records d was y in
    let long : length (concat own) ≡ y.length = zone_long d has_row Describes was y (right 0 y (omega arith)) in
    let later : TellsOneOf R (at + y.length) (flat_map (zone_records d was) zones) r =
    told_in_zone R d has_row Describes was (at + y.length) end zones i z r (omega (arith, inside)) follow.1 (λ k e below. right (suc k) e (omega (arith, below))) h in
    subst (λ (l : List (List ℕ)). TellsOneOf R at (own ++ l) r) (append-nil (flat_map (zone_records d was) zones))
    (told_among R at (at + y.length) own (flat_map (zone_records d was) zones) [] r (λ n. ap (λ (m : ℕ). min (at + m + n) (2 ^ 64 - 1)) (sym long)) later)

-- one of a zone of an index is one of the bytes
pub told_in_index : (R : List ℕ → Cause → Type 0) (d : ℕ) (has_row : List ℕ → Bool) (Describes : List ℕ → List (List ℕ) → Type 0) (was : List ℕ) (start : ℕ) (zones : List Zone) (i : ℕ) (z : Zone) (r : Refusal) → i < length zones → z ≡ get_or zones i z
    → IsIndexOf d has_row Describes start zones was → TellsOneOf R z.first (zone_records d was z) r → TellsOneOf R start (records_of d (drop start was)) r
told_in_index R d has_row Describes was start zones i z r inside is index h =
    subst (λ (l : List (List ℕ)). TellsOneOf R start l r) (sym index.records)
    (told_in_zone R d has_row Describes was start (length was) zones i z r inside index.follow index.right (subst (λ (y : Zone). TellsOneOf R y.first (zone_records d was y) r) is h))

-- the same of an error, where the reader has the bytes that it had
pub refused_in_zone : (R : List ℕ → Cause → Type 0) (d : ℕ) (has_row : List ℕ → Bool) (Describes : List ℕ → List (List ℕ) → Type 0) (old now : Option (List ℕ)) (zones : List Zone) (i : ℕ) (z : Zone) (f : SearchError) → i < length zones → z ≡ get_or zones i z → now ≡ old
    → IfRefused (λ r. (was : List ℕ) → IsHeld now was → z.first + z.length ≤ length was → TellsOneOf R z.first (zone_records d was z) r) f
    → IfRefused (λ r. (was : List ℕ) (start : ℕ) → IsHeld old was → IsIndexOf d has_row Describes start zones was → TellsOneOf R start (records_of d (drop start was)) r) f
refused_in_zone R d has_row Describes old now zones i z (errors.Refused r) inside is same h = λ was start held index.
    let own : IsZoneOf d has_row Describes was z = subst (λ (y : Zone). IsZoneOf d has_row Describes was y) (sym is) (index.right i z inside) in
    told_in_index R d has_row Describes was start zones i z r inside is index (h was (subst (λ (known : Option (List ℕ)). IsHeld known was) (sym same) held) own.inside)
refused_in_zone R d has_row Describes old now zones i z errors.Read inside is same h = tt
refused_in_zone R d has_row Describes old now zones i z errors.CutShort inside is same h = tt
refused_in_zone R d has_row Describes old now zones i z errors.TooFar inside is same h = tt
refused_in_zone R d has_row Describes old now zones i z errors.Write inside is same h = tt
refused_in_zone R d has_row Describes old now zones i z errors.Memory inside is same h = tt

-- ---- a stream, piece by piece

-- what is left of a stream behind some of its records, which have so many bytes
pub record IsPassed (d : ℕ) (bytes : List ℕ) (left : Option (List ℕ)) (passed : ℕ) : Type 0 where
  pub done : List (List ℕ)
  pub rest : List ℕ
  pub is : left ≡ Some rest
  pub records : records_of d bytes ≡ done ++ records_of d rest
  pub long : length (concat done) ≡ passed

pub passed_none : (d : ℕ) (bytes : List ℕ) (left : Option (List ℕ)) → left ≡ Some bytes → IsPassed d bytes left 0
passed_none d bytes left is = record { done = []; rest = bytes; is = is; records = refl; long = refl }

pub passed_more : (d e : ℕ) (bytes text : List ℕ) (left next : Option (List ℕ)) (passed now : ℕ) (s : IsPassed d bytes left passed) → e ≡ d → IsTaken e s.rest text next → now ≡ passed + length text → IsPassed d bytes next now
passed_more d e bytes text left next passed now s by t is =
    let taken : IsTaken d s.rest text next = subst (λ (n : ℕ). IsTaken n s.rest text next) by t in
    record {
      done = s.done ++ records_of d text;
      rest = taken.rest;
      is = taken.is;
      records = s.records ∙ ap (λ (l : List (List ℕ)). s.done ++ l) taken.records ∙ sym (append_assoc s.done (records_of d text) (records_of d taken.rest));
      long = omega (arith, is, s.long, concat_long s.done (records_of d text), ap length (concat-records_of d text));
    }

-- a piece that ends so far behind the first byte
pub passed_far : (d e : ℕ) (text : List ℕ) (all left next : Option (List ℕ)) (passed : ℕ) → ((bytes : List ℕ) → all ≡ Some bytes → IsPassed d bytes left passed)
    → ((bytes : List ℕ) → left ≡ Some bytes → IsTaken e bytes text next) → 2 ^ 64 ≤ passed + length text → EndsFar 0 all
passed_far d e text all left next passed before taken far bytes is =
    let s : IsPassed d bytes left passed = before bytes is in
    let t : IsTaken e s.rest text next = taken s.rest s.is in
    let parts : length (concat s.done) + length (concat (records_of d s.rest)) ≡ length bytes =
    sym (concat_long s.done (records_of d s.rest)) ∙ ap (λ (l : List (List ℕ)). length (concat l)) (sym s.records) ∙ ap length (concat-records_of d bytes) in
    omega (arith, far, parts, s.long, ap length (concat-records_of d s.rest), ap length t.parts, length-append text t.rest)

pub told_in_piece : (R : List ℕ → Cause → Type 0) (d e : ℕ) (bytes text view : List ℕ) (left next : Option (List ℕ)) (start passed at : ℕ) (r : Refusal) (s : IsPassed d bytes left passed) → at ≡ min (start + passed) (2 ^ 64 - 1) → e ≡ d → IsTaken e s.rest text next → view ≡ text
    → TellsOneOf R at (records_of d view) r → TellsOneOf R start (records_of d bytes) r
told_in_piece R d e bytes text view left next start passed at r s place by t same h =
    let taken : IsTaken d s.rest text next = subst (λ (n : ℕ). IsTaken n s.rest text next) by t in
    let piece : TellsOneOf R at (records_of d text) r = subst (λ (l : List ℕ). TellsOneOf R at (records_of d l) r) same h in
    subst (λ (l : List (List ℕ)). TellsOneOf R start l r) (sym (s.records ∙ ap (λ (l : List (List ℕ)). s.done ++ l) taken.records))
    (told_among R start at s.done (records_of d text) (records_of d taken.rest) r (λ n. omega (arith, s.long, place)) piece)

pub refused_in_piece : (R : List ℕ → Cause → Type 0) (d e : ℕ) (text view : List ℕ) (all left next : Option (List ℕ)) (start passed at : ℕ) (f : SearchError) → ((bytes : List ℕ) → all ≡ Some bytes → IsPassed d bytes left passed) → at ≡ min (start + passed) (2 ^ 64 - 1) → e ≡ d
    → ((bytes : List ℕ) → left ≡ Some bytes → IsTaken e bytes text next) → view ≡ text → IfRefused (TellsOneOf R at (records_of d view)) f
    → IfRefused (λ r. (bytes : List ℕ) → all ≡ Some bytes → TellsOneOf R start (records_of d bytes) r) f
refused_in_piece R d e text view all left next start passed at (errors.Refused r) before place by taken same h = λ bytes is.
    let s : IsPassed d bytes left passed = before bytes is in
    told_in_piece R d e bytes text view left next start passed at r s place by (taken s.rest s.is) same h
refused_in_piece R d e text view all left next start passed at errors.Read before place by taken same h = tt
refused_in_piece R d e text view all left next start passed at errors.CutShort before place by taken same h = tt
refused_in_piece R d e text view all left next start passed at errors.TooFar before place by taken same h = tt
refused_in_piece R d e text view all left next start passed at errors.Write before place by taken same h = tt
refused_in_piece R d e text view all left next start passed at errors.Memory before place by taken same h = tt

-- ---- an index that is being made

begun_long : (d : ℕ) (has_row : List ℕ → Bool) (Describes : List ℕ → List (List ℕ) → Type 0) (start : ℕ) (zones : List Zone) (front bytes : List ℕ) (left : Option (List ℕ)) (at : ℕ) (b : IsBegun d has_row Describes start zones (front ++ bytes) left at) → length front ≡ start
    → at ≡ start + length (concat (flat_map (zone_records d (front ++ bytes)) zones))
begun_long d has_row Describes start zones front bytes left at b long =
    let done = flat_map (zone_records d (front ++ bytes)) zones in
    let rest = ap length (concat-records_of d b.rest) in
    let all : length (concat done) + length (concat (records_of d b.rest)) ≡ length bytes =
    sym (concat_long done (records_of d b.rest)) ∙ ap (λ (l : List (List ℕ)). length (concat l)) (sym b.records) ∙ ap length (concat-records_of d (drop start (front ++ bytes))) ∙ ap length (drop_at front bytes start long) in
    omega (arith, rest, all, ap length b.parts, length-append front bytes, length-append b.before b.rest, b.long, long)

-- a piece that ends so far, whatever stands before what is left
pub far_in_stream : (d e : ℕ) (has_row : List ℕ → Bool) (Describes : List ℕ → List (List ℕ) → Type 0) (zones : List Zone) (text : List ℕ) (all left next : Option (List ℕ)) (start at : ℕ)
    → ((front bytes : List ℕ) → length front ≡ start → all ≡ Some bytes → IsBegun d has_row Describes start zones (front ++ bytes) left at)
    → ((bytes : List ℕ) → left ≡ Some bytes → IsTaken e bytes text next) → 2 ^ 64 ≤ at + length text → EndsFar start all
far_in_stream d e has_row Describes zones text all left next start at begun taken far bytes is =
    let front : List ℕ = replicate start 0 in
    let long : length front ≡ start = length-replicate start 0 in
    let b : IsBegun d has_row Describes start zones (front ++ bytes) left at = begun front bytes long is in
    omega (arith, far, long, b.long, ap length b.parts, length-append front bytes, length-append b.before b.rest, ap length (taken b.rest b.is).parts, length-append text (taken b.rest b.is).rest)

pub told_in_stream : (R : List ℕ → Cause → Type 0) (d e : ℕ) (has_row : List ℕ → Bool) (Describes : List ℕ → List (List ℕ) → Type 0) (start : ℕ) (zones : List Zone) (front bytes text view : List ℕ) (left next : Option (List ℕ)) (at : ℕ) (r : Refusal) (b : IsBegun d has_row Describes start zones (front ++ bytes) left at) → length front ≡ start
    → e ≡ d → IsTaken e b.rest text next → view ≡ text → TellsOneOf R at (records_of d view) r → TellsOneOf R start (records_of d bytes) r
told_in_stream R d e has_row Describes start zones front bytes text view left next at r b long by t same h =
    let taken : IsTaken d b.rest text next = subst (λ (n : ℕ). IsTaken n b.rest text next) by t in
    let done = flat_map (zone_records d (front ++ bytes)) zones in
    let piece : TellsOneOf R at (records_of d text) r = subst (λ (l : List ℕ). TellsOneOf R at (records_of d l) r) same h in
    let records : records_of d bytes ≡ done ++ (records_of d text ++ records_of d taken.rest) = ap (records_of d) (sym (drop_at front bytes start long)) ∙ b.records ∙ ap (λ (l : List (List ℕ)). done ++ l) taken.records in
    subst (λ (l : List (List ℕ)). TellsOneOf R start l r) (sym records)
    (told_among R start at done (records_of d text) (records_of d taken.rest) r (λ n. ap (λ (m : ℕ). min (m + n) (2 ^ 64 - 1)) (begun_long d has_row Describes start zones front bytes left at b long)) piece)

-- whatever stands before what is left
pub refused_in_stream : (R : List ℕ → Cause → Type 0) (d e : ℕ) (has_row : List ℕ → Bool) (Describes : List ℕ → List (List ℕ) → Type 0) (zones : List Zone) (text view : List ℕ) (all left next : Option (List ℕ)) (start at : ℕ) (f : SearchError)
    → ((front bytes : List ℕ) → length front ≡ start → all ≡ Some bytes → IsBegun d has_row Describes start zones (front ++ bytes) left at) → e ≡ d
    → ((bytes : List ℕ) → left ≡ Some bytes → IsTaken e bytes text next) → view ≡ text → IfRefused (TellsOneOf R at (records_of d view)) f
    → IfRefused (λ r. (bytes : List ℕ) → all ≡ Some bytes → TellsOneOf R start (records_of d bytes) r) f
refused_in_stream R d e has_row Describes zones text view all left next start at (errors.Refused r) begun by taken same h = λ bytes is.
    let front : List ℕ = replicate start 0 in
    let long : length front ≡ start = length-replicate start 0 in
    let b : IsBegun d has_row Describes start zones (front ++ bytes) left at = begun front bytes long is in
    told_in_stream R d e has_row Describes start zones front bytes text view left next at r b long by (taken b.rest b.is) same h
refused_in_stream R d e has_row Describes zones text view all left next start at errors.Read begun by taken same h = tt
refused_in_stream R d e has_row Describes zones text view all left next start at errors.CutShort begun by taken same h = tt
refused_in_stream R d e has_row Describes zones text view all left next start at errors.TooFar begun by taken same h = tt
refused_in_stream R d e has_row Describes zones text view all left next start at errors.Write begun by taken same h = tt
refused_in_stream R d e has_row Describes zones text view all left next start at errors.Memory begun by taken same h = tt
