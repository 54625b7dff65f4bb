-- The two laws of a root: what is read has this encoding, and what has it is read.
use Rattle.std.proofs.Common.{◌≡◌, ℕ, zero, suc, ◌^◌, ◌<◌, cond, eqb, List, [], ◌∷◌, ◌++◌, length, map, Result, Ok, Err, refl, sym, ap, subst, ◌∙◌, append_assoc, lit<, Bor}
use Rattle.std.specs.Prelude.{IfErr, IfOk}
use Rattle.std.specs.List.{flat_map, concat, AllByRecursion}
use Rattle.std.specs.Int.{w32, w64, to_le_bytes}
use Rattle.std.proofs.lemmas.Bool.{eqb-true}
use Rattle.std.proofs.lemmas.List.{append-nil, nil_from_length, length-map}
use Rattle.std.proofs.lemmas.List.Concat.{flat_map-cons}
use Rattle.sha2.specs.Sha256.{sha256}
use Rattle.sha2.proofs.Facts256.{length-sha256}
use Rattle.zone_index.specs.declared.encoding.TheConstants.{MAGIC, VERSION}
use Rattle.zone_index.specs.declared.encoding.EncodingError.{EncodingError}
use Rattle.zone_index.specs.declared.encoding.EncodingError.TheVariants.{Magic, Trailing, Version}
use Rattle.zone_index.specs.Encoding.{BlockValue, FitsFile, FitsEncoding, FitsZone, IndexValue, RootValue, ZoneValue, block_encoding, block_of, blocks_of, bytes_encoding, content_encoding, counted_encoding, file_encoding, index_encoding, root_encoding, root_of, root_value, without_statistics, zone_encoding}
use Rattle.zone_index.specs.declared.encoding.ReadError.{ReadError}
use Rattle.zone_index.specs.declared.encoding.ReadError.TheVariants as errors
use Rattle.zone_index.specs.declared.encoding.Root.{Root}
use Rattle.zone_index.specs.EncodingReading.{◌>>=◌, Gives, block_at, bytes_at, content_at, counted_at, file_at, front_at, known_at, many_at, number_at, root_at, signed_at, zone_at}
use Rattle.zone_index.proofs.FieldLaws.{IsBytes, bind_ok, guard_met, not_both, ok_is, Takes, Takes-then, wide64, number_takes, number_again, known_takes, known_again, bytes_takes, bytes_again, front_takes, front_again, signed_takes, signed_again}

-- ---- a zone, and a block

abbrev zone_made : ℕ → ℕ → ℕ → ℕ → ZoneValue
zone_made f l n r = record { first = f; length = l; records = n; rows = r; statistics = [] }

zone_takes : (bytes : List ℕ) (x : ZoneValue × List ℕ) → IsBytes bytes → zone_at bytes ≡ Ok x → Takes bytes (zone_encoding x.0) x.1
unfolding zone_at
zone_takes bytes x fits e =
    let a = bind_ok (number_at w64 bytes) (λ f. number_at w64 f.1 >>= λ l. number_at w64 l.1 >>= λ n. number_at w64 n.1 >>= λ r. Ok (zone_made f.0 l.0 n.0 r.0, r.1)) x e in
    let b = bind_ok (number_at w64 a.0.1) (λ l. number_at w64 l.1 >>= λ n. number_at w64 n.1 >>= λ r. Ok (zone_made a.0.0 l.0 n.0 r.0, r.1)) x a.2 in
    let c = bind_ok (number_at w64 b.0.1) (λ n. number_at w64 n.1 >>= λ r. Ok (zone_made a.0.0 b.0.0 n.0 r.0, r.1)) x b.2 in
    let d = bind_ok (number_at w64 c.0.1) (λ r. Ok (zone_made a.0.0 b.0.0 c.0.0 r.0, r.1)) x c.2 in
    let t0 = number_takes w64 (2 ^ 64) wide64 bytes a.0.0 a.0.1 fits a.1 in
    let t1 = number_takes w64 (2 ^ 64) wide64 a.0.1 b.0.0 b.0.1 t0.0.rest_fits b.1 in
    let t2 = number_takes w64 (2 ^ 64) wide64 b.0.1 c.0.0 c.0.1 t1.0.rest_fits c.1 in
    let t3 = number_takes w64 (2 ^ 64) wide64 c.0.1 d.0.0 d.0.1 t2.0.rest_fits d.1 in
    let e23 = Takes-then b.0.1 (to_le_bytes w64 c.0.0) c.0.1 (to_le_bytes w64 d.0.0) d.0.1 t2.0 t3.0 in
    let e13 = Takes-then a.0.1 (to_le_bytes w64 b.0.0) b.0.1 (to_le_bytes w64 c.0.0 ++ to_le_bytes w64 d.0.0) d.0.1 t1.0 e23 in
    let e03 = Takes-then bytes (to_le_bytes w64 a.0.0) a.0.1 (to_le_bytes w64 b.0.0 ++ (to_le_bytes w64 c.0.0 ++ to_le_bytes w64 d.0.0)) d.0.1 t0.0 e13 in
    let made : ZoneValue × List ℕ = (zone_made a.0.0 b.0.0 c.0.0 d.0.0, d.0.1) in
    subst (λ (y : ZoneValue × List ℕ). Takes bytes (zone_encoding y.0) y.1) (ok_is made x d.2) e03

-- a zone without statistics that has an encoding
pub record FitsBare (z : ZoneValue) : Type 0 where
  pub fits : FitsZone z
  pub bare : without_statistics z ≡ z

zone_again : (z : ZoneValue) (rest : List ℕ) → FitsBare z → zone_at (zone_encoding z ++ rest) ≡ Ok (z, rest)
unfolding zone_at
zone_again z rest h =
    let fits = h.fits in
    let f = to_le_bytes w64 z.first in
    let l = to_le_bytes w64 z.length in
    let n = to_le_bytes w64 z.records in
    let r = to_le_bytes w64 z.rows in
    let regrouped : zone_encoding z ++ rest ≡ f ++ (l ++ (n ++ (r ++ rest))) =
    append_assoc f (l ++ (n ++ r)) rest ∙ ap (λ (x : List ℕ). f ++ x) (append_assoc l (n ++ r) rest ∙ ap (λ (x : List ℕ). l ++ x) (append_assoc n r rest)) in
    let read : zone_at (zone_encoding z ++ rest) ≡ Ok (without_statistics z, rest) =
    ap zone_at regrouped ∙ rw (number_again w64 (2 ^ 64) wide64 z.first (l ++ (n ++ (r ++ rest))) fits.first, number_again w64 (2 ^ 64) wide64 z.length (n ++ (r ++ rest)) fits.long, number_again w64 (2 ^ 64) wide64 z.records (r ++ rest) fits.records, number_again w64 (2 ^ 64) wide64 z.rows rest fits.rows) refl in
    read ∙ ap (λ (y : ZoneValue). Ok (y, rest)) h.bare

abbrev block_made : ℕ → List ℕ → BlockValue
block_made n d = record { length = n; digest = d }

block_takes : (bytes : List ℕ) (x : BlockValue × List ℕ) → IsBytes bytes → block_at bytes ≡ Ok x → Takes bytes (block_encoding x.0) x.1
unfolding block_at
block_takes bytes x fits e =
    let a = bind_ok (number_at w64 bytes) (λ n. front_at 32 n.1 >>= λ d. Ok (block_made n.0 d.0, d.1)) x e in
    let b = bind_ok (front_at 32 a.0.1) (λ d. Ok (block_made a.0.0 d.0, d.1)) x a.2 in
    let t0 = number_takes w64 (2 ^ 64) wide64 bytes a.0.0 a.0.1 fits a.1 in
    let t1 = front_takes 32 a.0.1 b.0.0 b.0.1 t0.0.rest_fits b.1 in
    let both = Takes-then bytes (to_le_bytes w64 a.0.0) a.0.1 b.0.0 b.0.1 t0.0 t1.0 in
    let made : BlockValue × List ℕ = (block_made a.0.0 b.0.0, b.0.1) in
    subst (λ (y : BlockValue × List ℕ). Takes bytes (block_encoding y.0) y.1) (ok_is made x b.2) both

pub record FitsBlock (b : BlockValue) : Type 0 where
  pub long : b.length < 2 ^ 64
  pub digest : length b.digest ≡ 32

block_again : (b : BlockValue) (rest : List ℕ) → FitsBlock b → block_at (block_encoding b ++ rest) ≡ Ok (b, rest)
unfolding block_at
block_again b rest fits = ap block_at (append_assoc (to_le_bytes w64 b.length) b.digest rest) ∙ rw (number_again w64 (2 ^ 64) wide64 b.length (b.digest ++ rest) fits.long, front_again 32 b.digest rest fits.digest) refl

-- ---- many

many_take : {A : Type 0} (one_at : List ℕ → Result (A × List ℕ) EncodingError) (encoding : A → List ℕ) (one_takes : (bytes : List ℕ) (x : A × List ℕ) → IsBytes bytes → one_at bytes ≡ Ok x → Takes bytes (encoding x.0) x.1) (n : ℕ) (bytes : List ℕ) (x : List A × List ℕ)
    → IsBytes bytes → many_at one_at n bytes ≡ Ok x → Takes bytes (flat_map encoding x.0) x.1 × (length x.0 ≡ n)
unfolding many_at
many_take {A} one_at encoding one_takes zero bytes x fits e =
    subst (λ (y : List A × List ℕ). Takes bytes (flat_map encoding y.0) y.1 × (length y.0 ≡ 0)) (ok_is ([], bytes) x e) (record { parts = refl; rest_fits = fits }, refl)
many_take {A} one_at encoding one_takes (suc n) bytes x fits e =
    let a = bind_ok (one_at bytes) (λ first. many_at one_at n first.1 >>= λ others. Ok (first.0 ∷ others.0, others.1)) x e in
    let b = bind_ok (many_at one_at n a.0.1) (λ others. Ok (a.0.0 ∷ others.0, others.1)) x a.2 in
    let first = one_takes bytes a.0 fits a.1 in
    let second = many_take one_at encoding one_takes n a.0.1 b.0 first.rest_fits b.1 in
    let both = Takes-then bytes (encoding a.0.0) a.0.1 (flat_map encoding b.0.0) b.0.1 first second.0 in
    let made : List A × List ℕ = (a.0.0 ∷ b.0.0, b.0.1) in
    subst (λ (y : List A × List ℕ). Takes bytes (flat_map encoding y.0) y.1 × (length y.0 ≡ suc n)) (ok_is made x b.2) (rw flat_map-cons both, ap suc second.1)

many_again : {A : Type 0} (one_at : List ℕ → Result (A × List ℕ) EncodingError) (encoding : A → List ℕ) (Fits : A → Type 0) (one_again : (x : A) (rest : List ℕ) → Fits x → one_at (encoding x ++ rest) ≡ Ok (x, rest)) (xs : List A) (rest : List ℕ)
    → AllByRecursion Fits xs → many_at one_at (length xs) (flat_map encoding xs ++ rest) ≡ Ok (xs, rest)
unfolding many_at
many_again one_at encoding Fits one_again [] rest fits = refl
many_again one_at encoding Fits one_again (x ∷ xs) rest fits =
    let regrouped : flat_map encoding (x ∷ xs) ++ rest ≡ encoding x ++ (flat_map encoding xs ++ rest) = ap (λ (l : List ℕ). l ++ rest) (flat_map-cons encoding x xs) ∙ append_assoc (encoding x) (flat_map encoding xs) rest in
    ap (many_at one_at (suc (length xs))) regrouped ∙ rw (one_again x (flat_map encoding xs ++ rest) fits.0, many_again one_at encoding Fits one_again xs rest fits.1) refl

counted_takes : {A : Type 0} (one_at : List ℕ → Result (A × List ℕ) EncodingError) (encoding : A → List ℕ) (one_takes : (bytes : List ℕ) (x : A × List ℕ) → IsBytes bytes → one_at bytes ≡ Ok x → Takes bytes (encoding x.0) x.1) (bytes : List ℕ) (x : List A × List ℕ)
    → IsBytes bytes → counted_at one_at bytes ≡ Ok x → Takes bytes (counted_encoding encoding x.0) x.1
unfolding counted_at
counted_takes {A} one_at encoding one_takes bytes x fits e =
    let a = bind_ok (number_at w64 bytes) (λ n. many_at one_at n.0 n.1) x e in
    let t0 = number_takes w64 (2 ^ 64) wide64 bytes a.0.0 a.0.1 fits a.1 in
    let t1 = many_take one_at encoding one_takes a.0.0 a.0.1 x t0.0.rest_fits a.2 in
    let both = Takes-then bytes (to_le_bytes w64 a.0.0) a.0.1 (flat_map encoding x.0) x.1 t0.0 t1.0 in
    subst (λ (n : ℕ). Takes bytes (to_le_bytes w64 n ++ flat_map encoding x.0) x.1) (sym t1.1) both

counted_again : {A : Type 0} (one_at : List ℕ → Result (A × List ℕ) EncodingError) (encoding : A → List ℕ) (Fits : A → Type 0) (one_again : (x : A) (rest : List ℕ) → Fits x → one_at (encoding x ++ rest) ≡ Ok (x, rest)) (xs : List A) (rest : List ℕ)
    → length xs < 2 ^ 64 → AllByRecursion Fits xs → counted_at one_at (counted_encoding encoding xs ++ rest) ≡ Ok (xs, rest)
unfolding counted_at
counted_again one_at encoding Fits one_again xs rest few fits =
    ap (counted_at one_at) (append_assoc (to_le_bytes w64 (length xs)) (flat_map encoding xs) rest) ∙ rw (number_again w64 (2 ^ 64) wide64 (length xs) (flat_map encoding xs ++ rest) few) (many_again one_at encoding Fits one_again xs rest fits)

-- ---- what is said of the file

abbrev file_made : ℕ → ℕ → ℕ → List ℕ → IndexValue
file_made f c s u = record { file_length = f; changed = c; setup = u; start = s; zones = [] }

file_takes : (bytes : List ℕ) (x : IndexValue × List ℕ) → IsBytes bytes → file_at bytes ≡ Ok x → Takes bytes (file_encoding x.0) x.1
unfolding file_at
file_takes bytes x fits e =
    let a = bind_ok (number_at w64 bytes) (λ f. number_at w64 f.1 >>= λ l. number_at w64 l.1 >>= λ n. bytes_at n.1 >>= λ r. Ok (file_made f.0 l.0 n.0 r.0, r.1)) x e in
    let b = bind_ok (number_at w64 a.0.1) (λ l. number_at w64 l.1 >>= λ n. bytes_at n.1 >>= λ r. Ok (file_made a.0.0 l.0 n.0 r.0, r.1)) x a.2 in
    let c = bind_ok (number_at w64 b.0.1) (λ n. bytes_at n.1 >>= λ r. Ok (file_made a.0.0 b.0.0 n.0 r.0, r.1)) x b.2 in
    let d = bind_ok (bytes_at c.0.1) (λ r. Ok (file_made a.0.0 b.0.0 c.0.0 r.0, r.1)) x c.2 in
    let t0 = number_takes w64 (2 ^ 64) wide64 bytes a.0.0 a.0.1 fits a.1 in
    let t1 = number_takes w64 (2 ^ 64) wide64 a.0.1 b.0.0 b.0.1 t0.0.rest_fits b.1 in
    let t2 = number_takes w64 (2 ^ 64) wide64 b.0.1 c.0.0 c.0.1 t1.0.rest_fits c.1 in
    let t3 = bytes_takes c.0.1 d.0.0 d.0.1 t2.0.rest_fits d.1 in
    let e23 = Takes-then b.0.1 (to_le_bytes w64 c.0.0) c.0.1 (bytes_encoding d.0.0) d.0.1 t2.0 t3.0 in
    let e13 = Takes-then a.0.1 (to_le_bytes w64 b.0.0) b.0.1 (to_le_bytes w64 c.0.0 ++ bytes_encoding d.0.0) d.0.1 t1.0 e23 in
    let e03 = Takes-then bytes (to_le_bytes w64 a.0.0) a.0.1 (to_le_bytes w64 b.0.0 ++ (to_le_bytes w64 c.0.0 ++ bytes_encoding d.0.0)) d.0.1 t0.0 e13 in
    let made : IndexValue × List ℕ = (file_made a.0.0 b.0.0 c.0.0 d.0.0, d.0.1) in
    subst (λ (y : IndexValue × List ℕ). Takes bytes (file_encoding y.0) y.1) (ok_is made x d.2) e03

file_again : (x : IndexValue) (rest : List ℕ) → FitsFile x → file_at (file_encoding x ++ rest) ≡ Ok (record x { zones = [] }, rest)
unfolding file_at
file_again x rest fits =
    let f = to_le_bytes w64 x.file_length in
    let l = to_le_bytes w64 x.changed in
    let n = to_le_bytes w64 x.start in
    let r = bytes_encoding x.setup in
    let regrouped : file_encoding x ++ rest ≡ f ++ (l ++ (n ++ (r ++ rest))) =
    append_assoc f (l ++ (n ++ r)) rest ∙ ap (λ (y : List ℕ). f ++ y) (append_assoc l (n ++ r) rest ∙ ap (λ (y : List ℕ). l ++ y) (append_assoc n r rest)) in
    ap file_at regrouped ∙ rw (number_again w64 (2 ^ 64) wide64 x.file_length (l ++ (n ++ (r ++ rest))) fits.file_length, number_again w64 (2 ^ 64) wide64 x.changed (n ++ (r ++ rest)) fits.changed, number_again w64 (2 ^ 64) wide64 x.start (r ++ rest) fits.start, bytes_again x.setup rest fits.setup) refl

-- ---- what is signed

abbrev made : IndexValue → List ZoneValue → List BlockValue → RootValue
made f zs bs = record { index = record f { zones = zs }; blocks = bs }

abbrev ended : RootValue → List ℕ → Result RootValue EncodingError
ended x rest = cond (eqb (length rest) 0) (Ok x) (Err Trailing)

content_takes : (bytes : List ℕ) (x : RootValue) → IsBytes bytes → content_at bytes ≡ Ok x → bytes ≡ content_encoding x
unfolding content_at
content_takes bytes x fits e =
    let a = bind_ok (file_at bytes) (λ f. counted_at zone_at f.1 >>= λ z. counted_at block_at z.1 >>= λ y. ended (made f.0 z.0 y.0) y.1) x e in
    let z = bind_ok (counted_at zone_at a.0.1) (λ z. counted_at block_at z.1 >>= λ y. ended (made a.0.0 z.0 y.0) y.1) x a.2 in
    let q = bind_ok (counted_at block_at z.0.1) (λ y. ended (made a.0.0 z.0.0 y.0) y.1) x z.2 in
    let g = guard_met (eqb (length q.0.1) 0) Trailing (made a.0.0 z.0.0 q.0.0) x q.2 in
    let t0 = file_takes bytes a.0 fits a.1 in
    let t1 = counted_takes zone_at zone_encoding zone_takes a.0.1 z.0 t0.rest_fits z.1 in
    let t2 = counted_takes block_at block_encoding block_takes z.0.1 q.0 t1.rest_fits q.1 in
    let nothing : q.0.1 ≡ [] = nil_from_length q.0.1 (eqb-true _ _ g.0) in
    let f = file_encoding a.0.0 in
    let zs = counted_encoding zone_encoding z.0.0 in
    let bs = counted_encoding block_encoding q.0.0 in
    let whole : bytes ≡ f ++ (zs ++ bs) = three_taken bytes f a.0.1 zs z.0.1 bs q.0.1 t0.parts t1.parts t2.parts nothing in
    subst (λ (y : RootValue). bytes ≡ content_encoding y) g.1 whole
  where
    three_taken : (b f r1 zs r2 bs r3 : List ℕ) → b ≡ f ++ r1 → r1 ≡ zs ++ r2 → r2 ≡ bs ++ r3 → r3 ≡ [] → b ≡ f ++ (zs ++ bs)
    three_taken b f r1 zs r2 bs r3 p q r none =
        p ∙ ap (λ (l : List ℕ). f ++ l) (q ∙ ap (λ (l : List ℕ). zs ++ l) (r ∙ ap (λ (l : List ℕ). bs ++ l) none ∙ append-nil bs))

-- a root that has an encoding
pub record FitsRoot (r : RootValue) : Type 0 where
  pub file : FitsFile r.index
  pub count : length r.index.zones < 2 ^ 64
  pub zones : AllByRecursion FitsBare r.index.zones
  pub columns : length r.blocks < 2 ^ 64
  pub blocks_fit : AllByRecursion FitsBlock r.blocks
  pub content : length (content_encoding r) < 2 ^ 64

content_again : (x : RootValue) → FitsRoot x → content_at (content_encoding x) ≡ Ok x
unfolding content_at
content_again x fits =
    let zs = counted_encoding zone_encoding x.index.zones in
    let bs = counted_encoding block_encoding x.blocks in
    let last : counted_at block_at bs ≡ Ok (x.blocks, []) = ap (counted_at block_at) (sym (append-nil bs)) ∙ counted_again block_at block_encoding FitsBlock block_again x.blocks [] fits.columns fits.blocks_fit in
    rw (file_again x.index (zs ++ bs) fits.file, counted_again zone_at zone_encoding FitsBare zone_again x.index.zones bs fits.count fits.zones, last) refl

-- ---- all

root_takes : (bytes : List ℕ) (x : RootValue × List ℕ) → IsBytes bytes → root_at bytes ≡ Ok x → bytes ≡ root_encoding x.0 ++ x.1
unfolding root_at
root_takes bytes x fits e =
    let k = bind_ok (known_at Magic MAGIC bytes) (λ m. known_at Version VERSION m >>= λ v. signed_at v >>= λ s. content_at s.0 >>= λ r. Ok (r, s.1)) x e in
    let v = bind_ok (known_at Version VERSION k.0) (λ v. signed_at v >>= λ s. content_at s.0 >>= λ r. Ok (r, s.1)) x k.2 in
    let s = bind_ok (signed_at v.0) (λ s. content_at s.0 >>= λ r. Ok (r, s.1)) x v.2 in
    let r = bind_ok (content_at s.0.0) (λ r. Ok (r, s.0.1)) x s.2 in
    let t0 = known_takes Magic MAGIC bytes k.0 fits k.1 in
    let t1 = known_takes Version VERSION k.0 v.0 t0.rest_fits v.1 in
    let t2 = signed_takes v.0 s.0.0 s.0.1 t1.rest_fits s.1 in
    let content : s.0.0 ≡ content_encoding r.0 = content_takes s.0.0 r.0 t2.fits r.1 in
    let body : List ℕ → List ℕ = λ (c : List ℕ). bytes_encoding c ++ sha256 c in
    let e12 = Takes-then k.0 (to_le_bytes w32 VERSION) v.0 (body s.0.0) s.0.1 t1 t2.takes in
    let e02 = Takes-then bytes (to_le_bytes w32 MAGIC) k.0 (to_le_bytes w32 VERSION ++ body s.0.0) s.0.1 t0 e12 in
    let made : RootValue × List ℕ = (r.0, s.0.1) in
    let whole : bytes ≡ root_encoding r.0 ++ s.0.1 = e02.parts ∙ ap (λ (c : List ℕ). (to_le_bytes w32 MAGIC ++ (to_le_bytes w32 VERSION ++ body c)) ++ s.0.1) content in
    subst (λ (y : RootValue × List ℕ). bytes ≡ root_encoding y.0 ++ y.1) (ok_is made x r.2) whole

root_again : (r : RootValue) (rest : List ℕ) → FitsRoot r → root_at (root_encoding r ++ rest) ≡ Ok (r, rest)
unfolding root_at
root_again r rest fits =
    let body = bytes_encoding (content_encoding r) ++ sha256 (content_encoding r) in
    let regrouped : root_encoding r ++ rest ≡ to_le_bytes w32 MAGIC ++ (to_le_bytes w32 VERSION ++ (body ++ rest)) =
    append_assoc (to_le_bytes w32 MAGIC) (to_le_bytes w32 VERSION ++ body) rest ∙ ap (λ (l : List ℕ). to_le_bytes w32 MAGIC ++ l) (append_assoc (to_le_bytes w32 VERSION) body rest) in
    ap root_at regrouped ∙ rw (known_again Magic MAGIC (to_le_bytes w32 VERSION ++ (body ++ rest)) (lit< tt), known_again Version VERSION (body ++ rest) (lit< tt), signed_again (content_encoding r) rest fits.content, content_again r fits) refl

abbrev seen : Root × Bor (List ℕ) → RootValue × List ℕ
seen r = (root_value r.0, r.1.now)

pub is_found : (bytes : List ℕ) (r : Result (Root × Bor (List ℕ)) ReadError) → IsBytes bytes → Gives seen r (root_at bytes) → IfOk r (λ x. bytes ≡ root_encoding (root_value x.0) ++ x.1.now)
is_found bytes (Ok x) fits given = root_takes bytes (seen x) fits given
is_found bytes (Err e) fits given = tt

-- ---- the root of an index with its pieces

bare_fit : (zs : List ZoneValue) → AllByRecursion FitsZone zs → AllByRecursion FitsBare (map without_statistics zs)
bare_fit [] h = tt
bare_fit (z ∷ zs) h = (record { fits = record { first = h.0.first; long = h.0.long; records = h.0.records; rows = h.0.rows }; bare = refl }, bare_fit zs h.1)

blocks_fit : (bs : List (List ℕ)) → AllByRecursion (λ b. length b < 2 ^ 64) bs → AllByRecursion FitsBlock (map block_of bs)
blocks_fit [] h = tt
blocks_fit (b ∷ bs) h = (record { long = h.0; digest = length-sha256 b }, blocks_fit bs h.1)

pub encoding_again : (n : ℕ) (x : IndexValue) (pieces : List (List (List ℕ))) → FitsEncoding n x pieces → root_at (index_encoding n x pieces) ≡ Ok (root_of x (blocks_of n pieces), concat (blocks_of n pieces))
encoding_again n x pieces fits =
    let blocks = blocks_of n pieces in
    root_again (root_of x blocks) (concat blocks) (record {
      file = record { file_length = fits.parts.file.file_length; changed = fits.parts.file.changed; start = fits.parts.file.start; setup = fits.parts.file.setup };
      count = subst (λ (k : ℕ). k < 2 ^ 64) (sym (length-map x.zones without_statistics)) fits.parts.count;
      zones = bare_fit x.zones fits.parts.zones;
      columns = subst (λ (k : ℕ). k < 2 ^ 64) (sym (length-map blocks block_of)) fits.parts.columns;
      blocks_fit = blocks_fit blocks fits.parts.blocks_long;
      content = fits.content;
    })

-- what was written is read
pub is_read : (n : ℕ) (x : IndexValue) (pieces : List (List (List ℕ))) (r : Result (Root × Bor (List ℕ)) ReadError) (bytes : List ℕ) → FitsEncoding n x pieces → bytes ≡ index_encoding n x pieces → Gives seen r (root_at bytes)
    → IfOk r (λ y. (root_value y.0 ≡ root_of x (blocks_of n pieces)) × (y.1.now ≡ concat (blocks_of n pieces)))
is_read n x pieces (Ok y) bytes fits e given =
    let same : (root_of x (blocks_of n pieces), concat (blocks_of n pieces)) ≡ seen y = ok_is (root_of x (blocks_of n pieces), concat (blocks_of n pieces)) (seen y) (sym (encoding_again n x pieces fits) ∙ ap root_at (sym e) ∙ given) in
    (sym (ap (λ (p : RootValue × List ℕ). p.0) same), sym (ap (λ (p : RootValue × List ℕ). p.1) same))
is_read n x pieces (Err e') bytes fits e given = tt

pub memory_alone : (n : ℕ) (x : IndexValue) (pieces : List (List (List ℕ))) (r : Result (Root × Bor (List ℕ)) ReadError) (bytes : List ℕ) → FitsEncoding n x pieces → bytes ≡ index_encoding n x pieces → Gives seen r (root_at bytes) → IfErr r (λ f. f ≡ errors.Memory)
memory_alone n x pieces (Ok y) bytes fits e given = tt
memory_alone n x pieces (Err errors.Memory) bytes fits e given = refl
memory_alone n x pieces (Err (errors.Fault f)) bytes fits e given = absurd (not_both (root_at bytes) f (root_of x (blocks_of n pieces), concat (blocks_of n pieces)) given (ap root_at e ∙ encoding_again n x pieces fits))
