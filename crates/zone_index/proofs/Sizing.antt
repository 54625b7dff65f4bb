-- Zones of so many records, and a sum over the records of a stream.
use Rattle.std.proofs.Common.{◌≡◌, ◌<◌, ◌≤◌, ◌+◌, ◌⊎◌, inl, inr, ℕ, List, [], ◌∷◌, ◌++◌, Option, Some, refl, sym, ap, ◌∙◌, subst, length, min, arith, append_assoc, append-nil}
use Rattle.std.proofs.lemmas.List.{length-append}
use Rattle.std.proofs.lemmas.List.Sums.{sum_by-append}
use Rattle.std.specs.List.{AllByRecursion, sum_by}
use Rattle.csv_records.specs.Records.{records_of}
use Rattle.zone_index.specs.Sinks.{told}
use Rattle.zone_index.specs.Taking.{IsTaken}
use Rattle.zone_index.specs.Zones.{HaveSizes}
use Rattle.zone_index.specs.declared.zones.Zone.{Zone}
use Rattle.zone_index.proofs.TakeMore.{some_records}

-- ---- sizes

abbrev AreFull : ℕ → List Zone → Type 0
AreFull size zones = AllByRecursion (λ z. z.records ≡ size) zones

full_more : (size : ℕ) (zones : List Zone) (z : Zone) → AreFull size zones → z.records ≡ size → AreFull size (zones ++ z ∷ [])
full_more size [] z h e = (e, tt)
full_more size (y ∷ zones) z h e = (h.0, full_more size zones z h.1 e)

last_sized : (size : ℕ) (zones : List Zone) (z : Zone) → AreFull size zones → 0 < z.records → z.records ≤ size → HaveSizes size (zones ++ z ∷ [])
last_sized size [] z h some few = (some, few)
last_sized size (y ∷ []) z h some few = (h.0, (some, few))
last_sized size (y ∷ x ∷ zones) z h some few = (h.0, last_sized size (x ∷ zones) z h.1 some few)

full_sized : (size : ℕ) (zones : List Zone) → 0 < size → AreFull size zones → HaveSizes size zones
full_sized size [] some h = tt
full_sized size (y ∷ []) some h = (omega (arith, h.0), omega (arith, h.0))
full_sized size (y ∷ x ∷ zones) some h = (h.0, full_sized size (x ∷ zones) some h.1)

-- each zone so far has so many records, or the last one fewer, and nothing is left
pub record AreSized (size : ℕ) (zones : List Zone) (left : Option (List ℕ)) : Type 0 where
  pub rest : List ℕ
  pub is : left ≡ Some rest
  pub sizes : AreFull size zones ⊎ (HaveSizes size zones × (rest ≡ []))

pub none_sized : (size : ℕ) (zones : List Zone) (bytes : List ℕ) (left : Option (List ℕ)) → zones ≡ [] → left ≡ Some bytes → AreSized size zones left
none_sized size zones bytes left none is = record { rest = bytes; is = is; sizes = inl (subst (AreFull size) (sym none) tt) }

one_more : (d size : ℕ) (zones : List Zone) (text rest after : List ℕ) (z : Zone) → AreFull size zones → 0 < length text → z.records ≡ length (records_of d text) → length (records_of d text) ≡ min size (length (records_of d rest))
    → records_of d rest ≡ records_of d text ++ records_of d after → AreFull size (zones ++ z ∷ []) ⊎ (HaveSizes size (zones ++ z ∷ []) × (after ≡ []))
one_more d size zones text rest [] z h some count many parts =
    let long : 0 < length (records_of d text) = some_records d text some in
    inr (last_sized size zones z h (omega (arith, long, count)) (omega (arith, many, count)), refl)
one_more d size zones text rest (x ∷ after) z h some count many parts =
    let more : 0 < length (records_of d (x ∷ after)) = some_records d (x ∷ after) (omega arith) in
    inl (full_more size zones z h (omega (arith, many, count, more, ap length parts, length-append (records_of d text) (records_of d (x ∷ after)))))

-- a zone more
pub one_sized : (d e size : ℕ) (zones new : List Zone) (text view : List ℕ) (left next : Option (List ℕ)) (z : Zone) (s : AreSized size zones left) → e ≡ d → IsTaken e s.rest text next → length (records_of e text) ≡ min size (length (records_of e s.rest))
    → 0 < length text → view ≡ text → z.records ≡ length (records_of d view) → new ≡ zones ++ z ∷ [] → AreSized size new next
one_sized d e size zones new text view left next z s by taken many some same count new_is = by_sizes s.sizes
  where
    own : IsTaken d s.rest text next
    own = subst (λ (n : ℕ). IsTaken n s.rest text next) by taken

    here : length (records_of d text) ≡ min size (length (records_of d s.rest))
    here = subst (λ (n : ℕ). length (records_of n text) ≡ min size (length (records_of n s.rest))) by many

    records : z.records ≡ length (records_of d text)
    records = count ∙ ap (λ (l : List ℕ). length (records_of d l)) same

    by_sizes : AreFull size zones ⊎ (HaveSizes size zones × (s.rest ≡ [])) → AreSized size new next
    by_sizes (inr h) = absurd (omega (arith, some, ap length h.1, ap length own.parts, length-append text own.rest))
    by_sizes (inl h) = record {
      rest = own.rest;
      is = own.is;
      sizes = subst (λ (zs : List Zone). AreFull size zs ⊎ (HaveSizes size zs × (own.rest ≡ []))) (sym new_is) (one_more d size zones text s.rest own.rest z h some records here own.records);
    }

pub all_sized : (size : ℕ) (zones : List Zone) (left : Option (List ℕ)) → 0 < size → AreSized size zones left → HaveSizes size zones
all_sized size zones left some s = by_sizes s.sizes
  where
    by_sizes : AreFull size zones ⊎ (HaveSizes size zones × (s.rest ≡ [])) → HaveSizes size zones
    by_sizes (inl h) = full_sized size zones some h
    by_sizes (inr h) = h.0

-- ---- a sum

-- the sum over the records so far, as far as 64 bits tell; the others are left
pub record Summed (d : ℕ) (f : List ℕ → ℕ) (bytes : List ℕ) (left : Option (List ℕ)) (total : ℕ) : Type 0 where
  pub rest : List ℕ
  pub is : left ≡ Some rest
  pub done : List (List ℕ)
  pub records : records_of d bytes ≡ done ++ records_of d rest
  pub sum : total ≡ told (sum_by f done)

pub none_summed : (d : ℕ) (f : List ℕ → ℕ) (bytes : List ℕ) (left : Option (List ℕ)) → left ≡ Some bytes → Summed d f bytes left 0
none_summed d f bytes left is = record { rest = bytes; is = is; done = []; records = refl; sum = omega arith }

-- a piece more
pub one_summed : (d e : ℕ) (f : List ℕ → ℕ) (bytes text view : List ℕ) (left next : Option (List ℕ)) (total more sum : ℕ) (s : Summed d f bytes left total) → e ≡ d → IsTaken e s.rest text next → view ≡ text
    → more ≡ told (sum_by f (records_of d view)) → sum ≡ told (total + more) → Summed d f bytes next sum
one_summed d e f bytes text view left next total more sum s by taken same more_is sum_is =
    let own : IsTaken d s.rest text next = subst (λ (n : ℕ). IsTaken n s.rest text next) by taken in
    let here : more ≡ told (sum_by f (records_of d text)) = more_is ∙ ap (λ (l : List ℕ). told (sum_by f (records_of d l))) same in
    record {
      rest = own.rest;
      is = own.is;
      done = s.done ++ records_of d text;
      records = s.records ∙ ap (λ (l : List (List ℕ)). s.done ++ l) own.records ∙ sym (append_assoc s.done (records_of d text) (records_of d own.rest));
      sum = omega (arith, sum_is, here, s.sum, sum_by-append f s.done (records_of d text));
    }

pub all_summed : (d : ℕ) (f : List ℕ → ℕ) (bytes : List ℕ) (left : Option (List ℕ)) (total : ℕ) (s : Summed d f bytes left total) → s.rest ≡ [] → total ≡ told (sum_by f (records_of d bytes))
all_summed d f bytes left total s none =
    let all : s.done ≡ records_of d bytes = sym (append-nil s.done) ∙ ap (λ (l : List ℕ). s.done ++ records_of d l) (sym none) ∙ sym s.records in
    s.sum ∙ ap (λ (l : List (List ℕ)). told (sum_by f l)) all
