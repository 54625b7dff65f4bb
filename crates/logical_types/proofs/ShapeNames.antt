-- The logical type of an extension by a function is what it is by the relation.
use Rattle.std.proofs.Common.{◌≡◌, ◌∙◌, ◌↔◌, ◌+◌, ◌*◌, ◌<◌, ◌≤◌, ◌==◌, ◌&&◌, ℕ, Bool, true, false, cond, List, [], ◌∷◌, length, Option, Some, None, nat_le, nat_lt, bytes_eq, codes, option_and_then, option_map, refl, sym, subst, ap, arith}
use lib.Pointwise.{bytes_decides}
use Rattle.std.proofs.lemmas.Bool.{false≢true}
use Rattle.std.proofs.lemmas.Bool.Decides.{nat_tests}
use Rattle.logical_types.specs.Extensions.{HasMetadata, HasZone, IsExtension, id_of, storage_type_of, unit_byte}
use Rattle.logical_types.specs.Shapes.{Shape, float64, float32, decimals, days, times, timestamps, days_of, decimals_of, float_of, same_storage, shape_named, shape_of, shape_of_extension, stored_as, stored_so, times_of, timestamps_of, unit_of}
use Rattle.logical_types.specs.declared.extensions.StorageType.{StorageType}
use Rattle.logical_types.specs.declared.extensions.StorageType.TheVariants.{I32, I64, Bytes}
use Rattle.logical_types.specs.declared.logical.LogicalType.{LogicalType}
use Rattle.logical_types.specs.declared.logical.LogicalType.TheVariants.{Float64, Float32, Decimal, Date, Time, Timestamp}
use Rattle.logical_types.specs.declared.times.TimeUnit.{TimeUnit}
use Rattle.logical_types.specs.declared.times.TimeUnit.TheVariants.{Seconds, Milliseconds, Microseconds, Nanoseconds}

-- ---- storages

same_self : (k : StorageType) → same_storage k k ≡ true
same_self I32 = refl
same_self I64 = refl
same_self Bytes = refl

same_only : (j k : StorageType) → same_storage j k ≡ true → j ≡ k
same_only I32 I32 e = refl
same_only I64 I64 e = refl
same_only Bytes Bytes e = refl
same_only I32 I64 e = absurd cc
same_only I32 Bytes e = absurd cc
same_only I64 I32 e = absurd cc
same_only I64 Bytes e = absurd cc
same_only Bytes I32 e = absurd cc
same_only Bytes I64 e = absurd cc

stored_self : (s : Shape) → stored_so (stored_as s) s ≡ Some s
stored_self s = ap (λ (b : Bool). cond b (Some s) None) (same_self (stored_as s))

stored_only : (k : StorageType) (s q : Shape) → stored_so k s ≡ Some q → (k ≡ stored_as s) × (s ≡ q)
stored_only k s q e = by_test (same_storage k (stored_as s)) refl e
  where
    by_test : (b : Bool) → same_storage k (stored_as s) ≡ b → cond b (Some s) None ≡ Some q → (k ≡ stored_as s) × (s ≡ q)
    by_test true h i = let same : s ≡ q = cc in (same_only k (stored_as s) h, same)
    by_test false h i = absurd cc

storage_is : (l : LogicalType) → storage_type_of l ≡ stored_as (shape_of l)
storage_is Float64 = refl
storage_is Float32 = refl
storage_is (Decimal d) = refl
storage_is Date = refl
storage_is (Time Seconds) = refl
storage_is (Time Milliseconds) = refl
storage_is (Time Microseconds) = refl
storage_is (Time Nanoseconds) = refl
storage_is (Timestamp unit zoned) = refl

-- ---- ids and metadata, by shape

abbrev id_at : Shape → List ℕ
id_at float64 = codes "doqallin.f64"
id_at float32 = codes "doqallin.f32"
id_at (decimals p s) = codes "doqallin.decimal"
id_at days = codes "vortex.date"
id_at (times unit) = codes "vortex.time"
id_at (timestamps unit zoned) = codes "vortex.timestamp"

abbrev Described : Shape → List ℕ → Type 0
Described float64 m = m ≡ []
Described float32 m = m ≡ []
Described (decimals p s) m = m ≡ p ∷ s ∷ []
Described days m = m ≡ 4 ∷ []
Described (times unit) m = m ≡ unit_byte unit ∷ []
Described (timestamps unit false) m = m ≡ unit_byte unit ∷ 0 ∷ 0 ∷ []
Described (timestamps unit true) m = HasZone unit m

id_is : (l : LogicalType) → id_at (shape_of l) ≡ id_of l
id_is Float64 = refl
id_is Float32 = refl
id_is (Decimal d) = refl
id_is Date = refl
id_is (Time unit) = refl
id_is (Timestamp unit zoned) = refl

described_from : (l : LogicalType) (m : List ℕ) → Described (shape_of l) m → HasMetadata l m
described_from Float64 m h = h
described_from Float32 m h = h
described_from (Decimal d) m h = h
described_from Date m h = h
described_from (Time unit) m h = h
described_from (Timestamp unit false) m h = h
described_from (Timestamp unit true) m h = h

-- some logical type has the shape
abbrev IsShape : Shape → Type 0
IsShape q = (l : LogicalType) × (shape_of l ≡ q)

-- what is found by an id and metadata
abbrev IsNamed : List ℕ → List ℕ → Shape → Type 0
IsNamed id m q = (id ≡ id_at q) × Described q m × IsShape q

-- ---- metadata that are read

float_is : (s q : Shape) (m : List ℕ) → float_of s m ≡ Some q → (s ≡ q) × (m ≡ [])
float_is s q [] h = let same : s ≡ q = cc in (same, refl)
float_is s q (b ∷ bs) h = absurd cc

decimals_is : (id m : List ℕ) (q : Shape) → id ≡ codes "doqallin.decimal" → decimals_of m ≡ Some q → IsNamed id m q
decimals_is id [] q e h = absurd cc
decimals_is id (p ∷ []) q e h = absurd cc
decimals_is id (p ∷ s ∷ []) q e h = by_test (nat_lt 0 p && (nat_le p 38 && nat_le s p)) refl h
  where
    by_test : (b : Bool) → (nat_lt 0 p && (nat_le p 38 && nat_le s p)) ≡ b → cond b (Some (decimals p s)) None ≡ Some q → IsNamed id (p ∷ s ∷ []) q
    by_test true t i =
        let same : decimals p s ≡ q = cc in
        let some : 0 < p = grind (arith, nat_tests) in
        let small : p ≤ 38 = grind (arith, nat_tests) in
        let within : s ≤ p = grind (arith, nat_tests) in
        subst (IsNamed id (p ∷ s ∷ [])) same (e, refl, (Decimal (record { precision = p; scale = s; some = some; small = small; within = within }), refl))
    by_test false t i = absurd cc
decimals_is id (p ∷ s ∷ t ∷ ts) q e h = absurd cc

days_is : (id m : List ℕ) (q : Shape) → id ≡ codes "vortex.date" → days_of m ≡ Some q → IsNamed id m q
days_is id [] q e h = absurd cc
days_is id (b ∷ []) q e h = by_test (b == 4) refl h
  where
    by_test : (c : Bool) → (b == 4) ≡ c → cond c (Some days) None ≡ Some q → IsNamed id (b ∷ []) q
    by_test true i j =
        let four : b ≡ 4 = grind (arith, nat_tests) in
        let same : days ≡ q = cc in
        subst (IsNamed id (b ∷ [])) same (e, ap (λ n. n ∷ []) four, (Date, refl))
    by_test false i j = absurd cc
days_is id (b ∷ c ∷ cs) q e h = absurd cc

unit_by : (b n : ℕ) (u v : TimeUnit) (rest : Option TimeUnit) (c : Bool) → (b == n) ≡ c → n ≡ unit_byte u → (rest ≡ Some v → b ≡ unit_byte v) → cond c (Some u) rest ≡ Some v → b ≡ unit_byte v
unit_by b n u v rest true i j k h =
    let at : b ≡ n = grind (arith, nat_tests) in
    let same : u ≡ v = cc in
    at ∙ j ∙ ap unit_byte same
unit_by b n u v rest false i j k h = k h

unit_is : (b : ℕ) (v : TimeUnit) → unit_of b ≡ Some v → b ≡ unit_byte v
unit_is b v =
    unit_by b 0 Nanoseconds v _ (b == 0) refl refl
    (unit_by b 1 Microseconds v _ (b == 1) refl refl
    (unit_by b 2 Milliseconds v _ (b == 2) refl refl
    (unit_by b 3 Seconds v None (b == 3) refl refl (λ h. absurd cc))))

mapped : (o : Option TimeUnit) (f : TimeUnit → Shape) (q : Shape) → option_map f o ≡ Some q → (u : TimeUnit) × (o ≡ Some u) × (f u ≡ q)
mapped None f q h = absurd cc
mapped (Some u) f q h = let same : f u ≡ q = cc in (u, refl, same)

times_is : (id m : List ℕ) (q : Shape) → id ≡ codes "vortex.time" → times_of m ≡ Some q → IsNamed id m q
times_is id [] q e h = absurd cc
times_is id (b ∷ []) q e h =
    let a = mapped (unit_of b) times q h in
    subst (IsNamed id (b ∷ [])) a.2 (e, ap (λ n. n ∷ []) (unit_is b a.0 a.1), (Time a.0, refl))
times_is id (b ∷ c ∷ cs) q e h = absurd cc

zone_by : (id : List ℕ) (b low high : ℕ) (name : List ℕ) (u : TimeUnit) (zoned : Bool) → id ≡ codes "vortex.timestamp" → b ≡ unit_byte u → length name ≡ low + 256 * high → nat_lt 0 (length name) ≡ zoned
    → IsNamed id (b ∷ low ∷ high ∷ name) (timestamps u zoned)
zone_by id b low high [] u false e h s n =
    let l : low ≡ 0 = omega (arith, s) in
    let g : high ≡ 0 = omega (arith, s) in
    (e, ap (λ x. x ∷ low ∷ high ∷ []) h ∙ ap (λ x. unit_byte u ∷ x ∷ high ∷ []) l ∙ ap (λ x. unit_byte u ∷ 0 ∷ x ∷ []) g, (Timestamp u false, refl))
zone_by id b low high [] u true e h s n = absurd (false≢true n)
zone_by id b low high (c ∷ cs) u false e h s n = let k : length (c ∷ cs) ≤ 0 = grind (arith, nat_tests) in absurd (omega (arith, k))
zone_by id b low high (c ∷ cs) u true e h s n =
    (e, record { low = low; high = high; name = c ∷ cs; parts = ap (λ x. x ∷ low ∷ high ∷ c ∷ cs) h; size = s; some = omega arith }, (Timestamp u true, refl))

timestamps_is : (id m : List ℕ) (q : Shape) → id ≡ codes "vortex.timestamp" → timestamps_of m ≡ Some q → IsNamed id m q
timestamps_is id [] q e h = absurd cc
timestamps_is id (b ∷ []) q e h = absurd cc
timestamps_is id (b ∷ low ∷ []) q e h = absurd cc
timestamps_is id (b ∷ low ∷ high ∷ name) q e h = by_test (length name == low + 256 * high) refl h
  where
    by_test : (c : Bool) → (length name == low + 256 * high) ≡ c → cond c (option_map (λ unit. timestamps unit (nat_lt 0 (length name))) (unit_of b)) None ≡ Some q → IsNamed id (b ∷ low ∷ high ∷ name) q
    by_test true i j =
        let size : length name ≡ low + 256 * high = grind (arith, nat_tests) in
        let a = mapped (unit_of b) (λ unit. timestamps unit (nat_lt 0 (length name))) q j in
        subst (IsNamed id (b ∷ low ∷ high ∷ name)) a.2 (zone_by id b low high name a.0 (nat_lt 0 (length name)) e (unit_is b a.0 a.1) size refl)
    by_test false i j = absurd cc

-- by one id, or by those behind it
by_id : (id wanted m : List ℕ) (q : Shape) (this rest : Option Shape) (b : Bool) → bytes_eq id wanted ≡ b → (id ≡ wanted → this ≡ Some q → IsNamed id m q) → (rest ≡ Some q → IsNamed id m q) → cond b this rest ≡ Some q → IsNamed id m q
by_id id wanted m q this rest true i j k h = j ((bytes_decides _ _).0 i) h
by_id id wanted m q this rest false i j k h = k h

float_named : (id m : List ℕ) (l : LogicalType) (q : Shape) → id ≡ id_at (shape_of l) → (m ≡ [] → Described (shape_of l) m) → float_of (shape_of l) m ≡ Some q → IsNamed id m q
float_named id m l q e d h = let a = float_is (shape_of l) q m h in subst (IsNamed id m) a.0 (e, d a.1, (l, refl))

named : (id m : List ℕ) (q : Shape) → shape_named id m ≡ Some q → IsNamed id m q
named id m q =
    by_id id (codes "doqallin.f64") m q (float_of float64 m) _ (bytes_eq id (codes "doqallin.f64")) refl (λ e. float_named id m Float64 q e (λ h. h))
    (by_id id (codes "doqallin.f32") m q (float_of float32 m) _ (bytes_eq id (codes "doqallin.f32")) refl (λ e. float_named id m Float32 q e (λ h. h))
    (by_id id (codes "doqallin.decimal") m q (decimals_of m) _ (bytes_eq id (codes "doqallin.decimal")) refl (decimals_is id m q)
    (by_id id (codes "vortex.date") m q (days_of m) _ (bytes_eq id (codes "vortex.date")) refl (days_is id m q)
    (by_id id (codes "vortex.time") m q (times_of m) _ (bytes_eq id (codes "vortex.time")) refl (times_is id m q)
    (by_id id (codes "vortex.timestamp") m q (timestamps_of m) None (bytes_eq id (codes "vortex.timestamp")) refl (timestamps_is id m q) (λ h. absurd cc))))))

-- ---- both ways

found : (o : Option Shape) (k : StorageType) (q : Shape) → option_and_then (stored_so k) o ≡ Some q → (s : Shape) × (o ≡ Some s) × (stored_so k s ≡ Some q)
found None k q h = absurd cc
found (Some s) k q h = (s, refl, h)

extension_from : (id m : List ℕ) (k : StorageType) (l : LogicalType) → shape_of_extension id m k ≡ Some (shape_of l) → IsExtension id m k l
extension_from id m k l h =
    let a = found (shape_named id m) k (shape_of l) h in
    let b = stored_only k a.0 (shape_of l) a.2 in
    let n : IsNamed id m (shape_of l) = named id m (shape_of l) (a.1 ∙ ap Some b.1) in
    record { named = n.0 ∙ id_is l; described = described_from l m n.1; stored = b.0 ∙ ap stored_as b.1 ∙ sym (storage_is l) }

shape_by : (l : LogicalType) (m : List ℕ) → HasMetadata l m → shape_named (id_of l) m ≡ Some (shape_of l)
shape_by Float64 m h = ap (shape_named (codes "doqallin.f64")) h
shape_by Float32 m h = ap (shape_named (codes "doqallin.f32")) h
shape_by (Decimal d) m h =
    let some : nat_lt 0 d.precision ≡ true = let e = d.some in grind (arith, nat_tests, e) in
    let small : nat_le d.precision 38 ≡ true = let e = d.small in grind (arith, nat_tests, e) in
    let within : nat_le d.scale d.precision ≡ true = let e = d.within in grind (arith, nat_tests, e) in
    let all : (nat_lt 0 d.precision && (nat_le d.precision 38 && nat_le d.scale d.precision)) ≡ true = rw (some, small, within) in
    ap (shape_named (codes "doqallin.decimal")) h ∙ ap (λ (b : Bool). cond b (Some (decimals d.precision d.scale)) None) all
shape_by Date m h = ap (shape_named (codes "vortex.date")) h
shape_by (Time Seconds) m h = ap (shape_named (codes "vortex.time")) h
shape_by (Time Milliseconds) m h = ap (shape_named (codes "vortex.time")) h
shape_by (Time Microseconds) m h = ap (shape_named (codes "vortex.time")) h
shape_by (Time Nanoseconds) m h = ap (shape_named (codes "vortex.time")) h
shape_by (Timestamp Seconds false) m h = ap (shape_named (codes "vortex.timestamp")) h
shape_by (Timestamp Milliseconds false) m h = ap (shape_named (codes "vortex.timestamp")) h
shape_by (Timestamp Microseconds false) m h = ap (shape_named (codes "vortex.timestamp")) h
shape_by (Timestamp Nanoseconds false) m h = ap (shape_named (codes "vortex.timestamp")) h
shape_by (Timestamp unit true) m h = ap (shape_named (codes "vortex.timestamp")) h.parts ∙ by_zone unit h.low h.high h.name h.size h.some
  where
    by_size : (unit : TimeUnit) (low high : ℕ) (name : List ℕ) → length name ≡ low + 256 * high → 0 < length name → (o : Option TimeUnit) → o ≡ Some unit
        → cond (length name == low + 256 * high) (option_map (λ unit. timestamps unit (nat_lt 0 (length name))) o) None ≡ Some (timestamps unit true)
    by_size unit low high name s t o e =
        let whole : (length name == low + 256 * high) ≡ true = grind (arith, nat_tests) in
        let some : nat_lt 0 (length name) ≡ true = grind (arith, nat_tests) in
        rw (whole, some, e)

    by_zone : (unit : TimeUnit) (low high : ℕ) (name : List ℕ) → length name ≡ low + 256 * high → 0 < length name → timestamps_of (unit_byte unit ∷ low ∷ high ∷ name) ≡ Some (timestamps unit true)
    by_zone Seconds low high name s t = by_size Seconds low high name s t (Some Seconds) refl
    by_zone Milliseconds low high name s t = by_size Milliseconds low high name s t (Some Milliseconds) refl
    by_zone Microseconds low high name s t = by_size Microseconds low high name s t (Some Microseconds) refl
    by_zone Nanoseconds low high name s t = by_size Nanoseconds low high name s t (Some Nanoseconds) refl

extension_to : (id m : List ℕ) (k : StorageType) (l : LogicalType) → IsExtension id m k l → shape_of_extension id m k ≡ Some (shape_of l)
extension_to id m k l e =
    ap (λ (i : List ℕ). option_and_then (stored_so k) (shape_named i m)) e.named
    ∙ ap (option_and_then (stored_so k)) (shape_by l m e.described)
    ∙ ap (λ (j : StorageType). stored_so j (shape_of l)) (e.stored ∙ storage_is l)
    ∙ stored_self (shape_of l)

-- only shapes of logical types are found
pub shapes_are : (id m : List ℕ) (k : StorageType) (q : Shape) → shape_of_extension id m k ≡ Some q → IsShape q
shapes_are id m k q h =
    let a = found (shape_named id m) k q h in
    let b = stored_only k a.0 q a.2 in
    (named id m q (a.1 ∙ ap Some b.1)).2

pub extensions_say : (l : LogicalType) (id m : List ℕ) (k : StorageType) → (shape_of_extension id m k ≡ Some (shape_of l)) ↔ IsExtension id m k l
extensions_say l id m k = (extension_from id m k l, extension_to id m k l)
