-- Steps of reading the statistics of zones.
use Rattle.std.proofs.Common.{◌≡◌, ℕ, suc, ◌+◌, ◌*◌, ◌<◌, ◌≤◌, ◌⊎◌, inl, inr, Bool, true, false, List, [], ◌∷◌, ◌++◌, length, replicate, map, get_or, refl, sym, subst, ap, ◌∙◌, arith}
use Rattle.std.specs.Prelude.{Err, IfErr, IsErr, IsErrAnd, None, Ok, Option, Result, Some, option_map, if◌then◌else◌}
use Rattle.std.proofs.Math.ListN.{set}
use Rattle.std.proofs.Math.Nat.{mul-le-mul_right, suc-mul}
use Rattle.std.proofs.lemmas.Bool.{cases_lt}
use Rattle.std.proofs.Math.Seq.{get_or-append_seam}
use Rattle.std.proofs.lemmas.List.{get_or-replicate, get_or-set_other, get_or-set_same, get_or_append_left, get_or_default, get_or_past, length-map, length-replicate, map-set}
use Rattle.std.proofs.lemmas.Option.{same_Some}
use Rattle.vortex_dtype.specs.TypeOf.{type_of}
use Rattle.vortex_dtype.specs.TypeTree.{TypeTree, null_type}
use Rattle.vortex_dtype.specs.declared.types.DType.{DType}
use Rattle.arrayvec.specs.ArrayVec.{ArrayVec}
use Rattle.named_statistics.specs.Heads.{head_of}
use Rattle.named_statistics.specs.Named.{IsBadNamedPiece, SaysNamed}
use Rattle.statistics_bytes.specs.Pieces.{nothing_known}
use Rattle.vortex_statistics.specs.Statistics.{Known, known}
use Rattle.vortex_statistics.specs.declared.column_statistics.ColumnStatistics.{ColumnStatistics}
use Rattle.vortex_statistics.specs.declared.error.StatisticsError.{StatisticsError}
use Rattle.vortex_statistics.specs.declared.error.StatisticsError.TheVariants as refusals
use Rattle.vortex_filter.specs.Formula.{Formula}
use Rattle.vortex_filter.specs.Named.{IsNamed}
use Rattle.filter_pruning.specs.Outcomes.{outcomes}
use Rattle.column_filters.proofs.ColumnSteps.{typed_at}
use Rattle.column_filters.specs.Zones.{AreEnough, AreHeads, AreOthersOpen, AreOutcomes, AreSaid, AreSaidBefore, IsBadAt, IsHeadAt, IsOutcome, IsPiece, IsSaid, RefusesZone, RefusesZones, fault_of_piece, outcomes_byte, piece_at}
use Rattle.column_filters.specs.declared.errors.ZoneError.{ZoneError}
use Rattle.column_filters.specs.declared.errors.ZoneError.TheVariants.{BadBytes, BadOffsets, HasVariant, OutOfMemory, WrongLength}

-- ---- one piece

pub said_at : (t : TypeTree) (bytes offsets part : List ℕ) (p : ℕ) (s : Known) → IsPiece bytes offsets p → part ≡ piece_at bytes offsets p → SaysNamed t part s → IsSaid t bytes offsets p s
said_at t bytes offsets part p s piece is says = record { piece = piece; says = subst (λ xs. SaysNamed t xs s) is says }

pub bad_at : (t : TypeTree) (bytes offsets part : List ℕ) (p : ℕ) (e : StatisticsError) → IsPiece bytes offsets p → part ≡ piece_at bytes offsets p → IsBadNamedPiece t part e → IsBadAt t bytes offsets p (fault_of_piece p e)
bad_at t bytes offsets part p refusals.OutOfMemory piece is bad = (piece, subst (λ xs. IsBadNamedPiece t xs refusals.OutOfMemory) is bad)
bad_at t bytes offsets part p refusals.TooManyRows piece is bad = absurd bad.1
bad_at t bytes offsets part p refusals.HasVariant piece is bad = (refl, piece, subst (λ xs. IsBadNamedPiece t xs refusals.HasVariant) is bad)
bad_at t bytes offsets part p (refusals.BadBytes place) piece is bad = (refl, piece, subst (λ xs. IsBadNamedPiece t xs (refusals.BadBytes place)) is bad)

-- ---- heads

-- the head of a column by the flag of its name
pub head-by : (f : Formula) (types : List TypeTree) (k : ℕ) (b : Bool) (t : TypeTree) (head : Option (ArrayVec ℕ)) → t ≡ get_or types k null_type → (b ≡ true → IsNamed f k) → (b ≡ false → ¬ (IsNamed f k))
    → option_map (λ (h : ArrayVec ℕ). h.items) head ≡ (if b then Some (head_of t) else None) → IsHeadAt f types k head
head-by f types k true t (Some head) is named other e = (named refl, same_Some head.items (head_of t) e ∙ ap head_of is)
head-by f types k true t None is named other e = absurd cc
head-by f types k false t (Some head) is named other e = absurd cc
head-by f types k false t None is named other e = other refl

-- the heads of the first columns
abbrev pub AreHeadsBefore : Formula → List TypeTree → ℕ → List (Option (ArrayVec ℕ)) → Type 0
AreHeadsBefore f types count heads = (k : ℕ) → k < count → IsHeadAt f types k (get_or heads k None)

pub heads-none : (f : Formula) (types : List TypeTree) (heads : List (Option (ArrayVec ℕ))) → AreHeadsBefore f types 0 heads
heads-none f types heads k l = absurd (omega arith)

pub heads-more : (f : Formula) (types : List TypeTree) (k : ℕ) (heads more : List (Option (ArrayVec ℕ))) (head : Option (ArrayVec ℕ)) → length heads ≡ k → AreHeadsBefore f types k heads → IsHeadAt f types k head → more ≡ heads ++ head ∷ []
    → AreHeadsBefore f types (k + 1) more
heads-more f types k heads more head long all one e j l = subst (λ xs. IsHeadAt f types j (get_or xs j None)) (sym e) (by_place (cases_lt j k))
  where
    by_place : (j < k) ⊎ (k ≤ j) → IsHeadAt f types j (get_or (heads ++ head ∷ []) j None)
    by_place (inl before) = subst (IsHeadAt f types j) (sym (get_or_append_left heads (head ∷ []) None j (omega (arith, long)))) (all j before)
    by_place (inr after) =
        let at : j ≡ k = omega arith in
        subst (λ i. IsHeadAt f types i (get_or (heads ++ head ∷ []) i None)) (sym at)
        (subst (IsHeadAt f types k) (sym (ap (λ i. get_or (heads ++ head ∷ []) i None) (sym long) ∙ get_or-append_seam heads head [] None)) one)

-- a column that has a head is named, and one that has none is not
head-at : (f : Formula) (columns : List DType) (heads : List (Option (ArrayVec ℕ))) (k : ℕ) (got : Option (ArrayVec ℕ)) → AreHeads f (map type_of columns) heads → k < length columns → got ≡ get_or heads k got → IsHeadAt f (map type_of columns) k got
head-at f columns heads k got all l is =
    let many : k < length heads = omega (arith, l, all.all, length-map columns type_of) in
    subst (IsHeadAt f (map type_of columns) k) (sym (is ∙ get_or_default heads k got None many)) (all.each k (omega (arith, l, length-map columns type_of)))

pub head-named : (f : Formula) (columns : List DType) (heads : List (Option (ArrayVec ℕ))) (k : ℕ) (got : Option (ArrayVec ℕ)) (head : ArrayVec ℕ) → AreHeads f (map type_of columns) heads → k < length columns → got ≡ get_or heads k got → got ≡ Some head → IsNamed f k
head-named f columns heads k got head all l is e = (subst (IsHeadAt f (map type_of columns) k) e (head-at f columns heads k got all l is)).0

pub head-other : (f : Formula) (columns : List DType) (heads : List (Option (ArrayVec ℕ))) (k : ℕ) (got : Option (ArrayVec ℕ)) → AreHeads f (map type_of columns) heads → k < length columns → got ≡ get_or heads k got → got ≡ None → ¬ (IsNamed f k)
head-other f columns heads k got all l is e = subst (IsHeadAt f (map type_of columns) k) e (head-at f columns heads k got all l is)

-- ---- the pieces of a zone

pub said-none : (f : Formula) (types : List TypeTree) (bytes offsets : List ℕ) (p : ℕ) (said : List Known) → AreSaid f types bytes offsets p 0 said
said-none f types bytes offsets p said k l n = absurd (omega arith)

said-set : (f : Formula) (types : List TypeTree) (bytes offsets : List ℕ) (p k : ℕ) (said : List Known) (s : Known) → k < length said → AreSaid f types bytes offsets p k said → IsSaid (get_or types k null_type) bytes offsets (p + k) s
    → AreSaid f types bytes offsets p (k + 1) (set said k s)
said-set f types bytes offsets p k said s here all one j l n = by_place (cases_lt j k)
  where
    by_place : (j < k) ⊎ (k ≤ j) → IsSaid (get_or types j null_type) bytes offsets (p + j) (get_or (set said k s) j nothing_known)
    by_place (inl before) = subst (λ x. IsSaid (get_or types j null_type) bytes offsets (p + j) x) (sym (get_or-set_other said k j s nothing_known (λ e. omega arith))) (all j before n)
    by_place (inr after) =
        let at : k ≡ j = omega arith in
        subst (λ i. IsSaid (get_or types i null_type) bytes offsets (p + i) (get_or (set said k s) i nothing_known)) at
        (subst (λ x. IsSaid (get_or types k null_type) bytes offsets (p + k) x) (sym (get_or-set_same said k s nothing_known here)) one)

-- a column that is not named
pub said-skip : (f : Formula) (types : List TypeTree) (bytes offsets : List ℕ) (p k : ℕ) (said : List Known) → AreSaid f types bytes offsets p k said → ¬ (IsNamed f k) → AreSaid f types bytes offsets p (k + 1) said
said-skip f types bytes offsets p k said all other j l n = by_place (cases_lt j k)
  where
    by_place : (j < k) ⊎ (k ≤ j) → IsSaid (get_or types j null_type) bytes offsets (p + j) (get_or said j nothing_known)
    by_place (inl before) = all j before n
    by_place (inr after) =
        let at : j ≡ k = omega arith in
        absurd (other (subst (IsNamed f) at n))

-- what is put in the place of a named column leaves the others open
others-set : (f : Formula) (k : ℕ) (said : List Known) (s : Known) → AreOthersOpen f said → IsNamed f k → AreOthersOpen f (set said k s)
others-set f k said s open' n j other = get_or-set_other said k j s nothing_known (λ e. other (subst (IsNamed f) (sym e) n)) ∙ open' j other

pub all-open : (f : Formula) (n : ℕ) (said : List Known) → said ≡ replicate n nothing_known → AreOthersOpen f said
all-open f n said is k other = ap (λ xs. get_or xs k nothing_known) is ∙ elim (cases_lt k n) [
  | inl l ↦ get_or-replicate n k nothing_known nothing_known l
  | inr l ↦ get_or_past (replicate n nothing_known) k nothing_known (omega (arith, length-replicate n nothing_known))
]

pub open-count : (n : ℕ) (read : List ColumnStatistics) → map known read ≡ replicate n nothing_known → length read ≡ n
open-count n read is = sym (length-map read known) ∙ ap length is ∙ length-replicate n nothing_known

-- the statistics that are known before a column, and that the others are open
abbrev pub AreReadTo : Formula → List DType → List ℕ → List ℕ → ℕ → ℕ → List ColumnStatistics → Type 0
AreReadTo f columns bytes offsets p count read = AreSaid f (map type_of columns) bytes offsets p count (map known read) × AreOthersOpen f (map known read)

pub read-more : (f : Formula) (columns : List DType) (bytes offsets : List ℕ) (p k : ℕ) (d : DType) (read more : List ColumnStatistics) (s : ColumnStatistics) → k < length columns → length read ≡ length columns → d ≡ get_or columns k d → IsNamed f k
    → AreReadTo f columns bytes offsets p k read → IsSaid (type_of d) bytes offsets (p + k) (known s) → more ≡ set read k s → AreReadTo f columns bytes offsets p (k + 1) more
read-more f columns bytes offsets p k d read more s l long is n all one e =
    let types = map type_of columns in
    let same : set (map known read) k (known s) ≡ map known more = sym (ap (map known) e ∙ map-set known read k s) in (
      subst (AreSaid f types bytes offsets p (k + 1)) same
          (said-set f types bytes offsets p k (map known read) (known s) (omega (arith, long, length-map read known)) all.0 (subst (λ t. IsSaid t bytes offsets (p + k) (known s)) (typed_at columns k d l is) one)),
      subst (AreOthersOpen f) same (others-set f k (map known read) (known s) all.1 n),
    )

pub read-skip : (f : Formula) (columns : List DType) (bytes offsets : List ℕ) (p k : ℕ) (read more : List ColumnStatistics) → ¬ (IsNamed f k) → AreReadTo f columns bytes offsets p k read → more ≡ read → AreReadTo f columns bytes offsets p (k + 1) more
read-skip f columns bytes offsets p k read more other all e = subst (AreReadTo f columns bytes offsets p (k + 1)) (sym e) (said-skip f (map type_of columns) bytes offsets p k (map known read) all.0 other, all.1)

-- the byte of a zone whose columns are all read
pub outcome-of : (f : Formula) (columns : List DType) (bytes offsets : List ℕ) (p k byte : ℕ) (read : List ColumnStatistics) → length columns ≤ k → length read ≡ length columns → AreReadTo f columns bytes offsets p k read
    → byte ≡ outcomes_byte (outcomes f (map known read)) → IsOutcome f (map type_of columns) bytes offsets p byte
outcome-of f columns bytes offsets p k byte read end long all is = record {
  statistics = map known read;
  are_known = record { all = length-map read known ∙ long ∙ sym (length-map columns type_of); said = λ j l n. all.0 j (omega (arith, end, length-map columns type_of)) n; others = all.1 };
  is = is;
}

-- each of the pieces says something
pub said_before : (f : Formula) (types : List TypeTree) (bytes offsets : List ℕ) (p k : ℕ) (said : List Known) → AreSaid f types bytes offsets p k said → AreSaidBefore f types bytes offsets p k
said_before f types bytes offsets p k said all j l n = (get_or said j nothing_known, all j l n)

pub zone_refused : (f : Formula) (columns : List DType) (bytes offsets : List ℕ) (p k : ℕ) (d : DType) (read : List ColumnStatistics) (r : Result ℕ ZoneError) (e : ZoneError) → IsErr r × IsErrAnd r (λ g. g ≡ e) → k < length columns
    → d ≡ get_or columns k d → IsNamed f k → AreReadTo f columns bytes offsets p k read → IsBadAt (type_of d) bytes offsets (p + k) e → IfErr r (RefusesZone f (map type_of columns) bytes offsets p)
zone_refused f columns bytes offsets p k d read (Ok u) e h l is n all bad = tt
zone_refused f columns bytes offsets p k d read (Err g) e h l is n all bad =
    let types = map type_of columns in
    subst (RefusesZone f types bytes offsets p) (sym h.1) (record {
      column = k;
      within = omega (arith, l, length-map columns type_of);
      is_named = n;
      before = said_before f types bytes offsets p k (map known read) all.0;
      cause = subst (λ t. IsBadAt t bytes offsets (p + k) e) (typed_at columns k d l is) bad;
    })

-- ---- zones

-- the outcomes of the zones so far
abbrev pub AreOutcomesBefore : Formula → List TypeTree → List ℕ → List ℕ → ℕ → List ℕ → Type 0
AreOutcomesBefore f types bytes offsets zones done = (z : ℕ) → z < zones → IsOutcome f types bytes offsets (z * length types) (get_or done z 0)

pub outcomes_none : (f : Formula) (types : List TypeTree) (bytes offsets done : List ℕ) → AreOutcomesBefore f types bytes offsets 0 done
outcomes_none f types bytes offsets done z l = absurd (omega arith)

pub outcomes_more : (f : Formula) (types : List TypeTree) (bytes offsets : List ℕ) (zone b : ℕ) (done : List ℕ) → zone < length done → AreOutcomesBefore f types bytes offsets zone done → IsOutcome f types bytes offsets (zone * length types) b
    → AreOutcomesBefore f types bytes offsets (zone + 1) (set done zone b)
outcomes_more f types bytes offsets zone b done here all one z l = by_place (cases_lt z zone)
  where
    by_place : (z < zone) ⊎ (zone ≤ z) → IsOutcome f types bytes offsets (z * length types) (get_or (set done zone b) z 0)
    by_place (inl before) = subst (IsOutcome f types bytes offsets (z * length types)) (sym (get_or-set_other done zone z b 0 (λ e. omega arith))) (all z before)
    by_place (inr after) =
        let at : zone ≡ z = omega arith in
        subst (λ i. IsOutcome f types bytes offsets (i * length types) (get_or (set done zone b) i 0)) at (subst (IsOutcome f types bytes offsets (zone * length types)) (sym (get_or-set_same done zone b 0 here)) one)

pub all_outcomes : (f : Formula) (columns : List DType) (bytes offsets done : List ℕ) (zones : ℕ) → AreEnough zones (length columns) (length offsets) → length done ≡ zones → AreOutcomesBefore f (map type_of columns) bytes offsets zones done
    → AreOutcomes f (map type_of columns) bytes offsets done
all_outcomes f columns bytes offsets done zones enough all each = record {
  enough = subst (λ m. AreEnough (length done) m (length offsets)) (sym (length-map columns type_of)) (subst (λ z. AreEnough z (length columns) (length offsets)) (sym all) enough);
  each = λ z l. each z (omega (arith, all));
}

-- there are not as many offsets
pub not_enough : (f : Formula) (columns : List DType) (bytes offsets : List ℕ) (zones : ℕ) → ¬ (AreEnough zones (length columns) (length offsets)) → RefusesZones f (map type_of columns) bytes offsets zones WrongLength
not_enough f columns bytes offsets zones few enough = few (subst (λ m. AreEnough zones m (length offsets)) (length-map columns type_of) enough)

-- the next zone has its byte
pub outcomes_next : (f : Formula) (columns : List DType) (bytes offsets : List ℕ) (p zone b : ℕ) (done : List ℕ) → p ≡ zone * length columns → zone < length done → AreOutcomesBefore f (map type_of columns) bytes offsets zone done
    → IsOutcome f (map type_of columns) bytes offsets p b → AreOutcomesBefore f (map type_of columns) bytes offsets (zone + 1) (set done zone b)
outcomes_next f columns bytes offsets p zone b done at here all one =
    let types = map type_of columns in
    outcomes_more f types bytes offsets zone b done here all (subst (λ i. IsOutcome f types bytes offsets i b) (at ∙ ap (λ m. zone * m) (sym (length-map columns type_of))) one)

next-product : (zone n : ℕ) → (zone + 1) * n ≡ zone * n + n
next-product zone n = ap (λ m. m * n) (add-one-is zone) ∙ suc-mul zone n
  where
    add-one-is : (m : ℕ) → m + 1 ≡ suc m
    add-one-is m = omega arith

-- the next zone's pieces are there
pub zone_there : (zone zones n piece offsets : ℕ) → piece ≡ zone * n → zone < zones → offsets ≡ zones * n + 1 → piece + n < offsets
zone_there zone zones n piece offsets at l e = omega (arith, at, mul-le-mul_right {m = zone + 1} {n = zones} n (omega arith), next-product zone n)

pub next_zone : (zone n piece : ℕ) → piece ≡ zone * n → piece + n ≡ (zone + 1) * n
next_zone zone n piece e = ap (λ p. p + n) e ∙ sym (next-product zone n)

before_of : (f : Formula) (types : List TypeTree) (bytes offsets : List ℕ) (zone : ℕ) (done : List ℕ) → AreOutcomesBefore f types bytes offsets zone done
    → (z : ℕ) → z < zone → AreSaidBefore f types bytes offsets (z * length types) (length types)
before_of f types bytes offsets zone done all z l =
    let one = all z l in
    said_before f types bytes offsets (z * length types) (length types) one.statistics one.are_known.said

zones_refused_by : (f : Formula) (types : List TypeTree) (bytes offsets : List ℕ) (zones zone : ℕ) (e : ZoneError) → AreEnough zones (length types) (length offsets) → zone < zones
    → ((z : ℕ) → z < zone → AreSaidBefore f types bytes offsets (z * length types) (length types)) → RefusesZone f types bytes offsets (zone * length types) e → RefusesZones f types bytes offsets zones e
zones_refused_by f types bytes offsets zones zone OutOfMemory enough l before bad = enough
zones_refused_by f types bytes offsets zones zone WrongLength enough l before bad = absurd bad.cause
zones_refused_by f types bytes offsets zones zone (BadOffsets piece) enough l before bad = (enough, record { zone = zone; within = l; before = before; cause = bad })
zones_refused_by f types bytes offsets zones zone (BadBytes piece place) enough l before bad = (enough, record { zone = zone; within = l; before = before; cause = bad })
zones_refused_by f types bytes offsets zones zone (HasVariant piece) enough l before bad = (enough, record { zone = zone; within = l; before = before; cause = bad })

pub zones_refused : (f : Formula) (columns : List DType) (bytes offsets : List ℕ) (zones zone piece : ℕ) (done : List ℕ) (r : Result Unit ZoneError) (e : ZoneError) → IsErr r × IsErrAnd r (λ f. f ≡ e)
    → AreEnough zones (length columns) (length offsets) → zone < zones → piece ≡ zone * length columns → AreOutcomesBefore f (map type_of columns) bytes offsets zone done → RefusesZone f (map type_of columns) bytes offsets piece e
    → IfErr r (RefusesZones f (map type_of columns) bytes offsets zones)
zones_refused f columns bytes offsets zones zone piece done (Ok u) e h enough l at all bad = tt
zones_refused f columns bytes offsets zones zone piece done (Err x) e h enough l at all bad =
    let ts = map type_of columns in
    let same : length columns ≡ length ts = sym (length-map columns type_of) in
    subst (RefusesZones f ts bytes offsets zones) (sym h.1)
    (zones_refused_by f ts bytes offsets zones zone e (subst (λ m. AreEnough zones m (length offsets)) same enough) l (before_of f ts bytes offsets zone done all) (subst (λ p. RefusesZone f ts bytes offsets p e) (at ∙ ap (λ m. zone * m) same) bad))

pub memory_refused : (f : Formula) (columns : List DType) (bytes offsets : List ℕ) (zones : ℕ) (r : Result Unit ZoneError) (e : ZoneError) → IsErr r × IsErrAnd r (λ f. f ≡ e) → AreEnough zones (length columns) (length offsets) → e ≡ OutOfMemory
    → IfErr r (RefusesZones f (map type_of columns) bytes offsets zones)
memory_refused f columns bytes offsets zones (Ok u) e h enough is = tt
memory_refused f columns bytes offsets zones (Err g) e h enough is =
    subst (RefusesZones f (map type_of columns) bytes offsets zones) (sym (h.1 ∙ is)) (subst (λ m. AreEnough zones m (length offsets)) (sym (length-map columns type_of)) enough)

pub ruleset shown = (said-none, not_enough)
