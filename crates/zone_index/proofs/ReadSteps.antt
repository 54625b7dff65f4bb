-- Reading one after the other, as loops do.
use Rattle.std.proofs.Common.{◌≡◌, ℕ, zero, suc, ◌-◌, ◌+◌, ◌≤◌, ◌<◌, Bool, true, false, cond, eqb, List, [], ◌∷◌, ◌++◌, Result, Ok, Err, refl, sym, ap, ap₂, subst, ◌∙◌, add-one, append_assoc, arith, map, take, take_all, drop, set, get_or, length}
use Rattle.std.proofs.lemmas.List.{append-nil, map-append}
use Rattle.zone_index.specs.declared.encoding.EncodingError.{EncodingError}
use Rattle.zone_index.specs.declared.encoding.ReadError.{ReadError}
use Rattle.zone_index.specs.declared.encoding.ReadError.TheVariants as errors
use Rattle.zone_index.specs.EncodingReading.{◌>>=◌, Fails, added_at, blocks_at, dealt_at, front_at, known_at, many_at, piece_at, signed_at, signed_root_at}
use Rattle.std.specs.Prelude.{IfErr}
use Rattle.zone_index.specs.declared.encoding.TheConstants.{MAGIC, VERSION}
use Rattle.zone_index.specs.declared.encoding.Block.{Block}
use Rattle.zone_index.specs.declared.encoding.EncodingError.TheVariants.{Magic, Trailing, Version}
use Rattle.zone_index.specs.Encoding.{ZoneValue, block_value, is_wanted}

-- what was read before, and what is still read
abbrev pub with_front : {A : Type 0} → List A → Result (List A × List ℕ) EncodingError → Result (List A × List ℕ) EncodingError
with_front front read = read >>= λ x. Ok (front ++ x.0, x.1)

regroup : {A : Type 0} (front : List A) (n : A) (read : Result (List A × List ℕ) EncodingError) → with_front front (read >>= λ x. Ok (n ∷ x.0, x.1)) ≡ with_front (front ++ n ∷ []) read
regroup {A} front n (Ok x) = ap (λ (ns : List A). Ok (ns, x.1)) (simp append_assoc)
regroup {A} front n (Err f) = refl

pub goes_on : {A : Type 0} (one_at : List ℕ → Result (A × List ℕ) EncodingError) (front : List A) (count i : ℕ) (bytes : List ℕ) (n : A) (after : List ℕ) (total : Result (List A × List ℕ) EncodingError) → i < count → one_at bytes ≡ Ok (n, after)
    → with_front front (many_at one_at (count - i) bytes) ≡ total → with_front (front ++ n ∷ []) (many_at one_at (count - (i + 1)) after) ≡ total
unfolding many_at
goes_on one_at front count i bytes n after total lt h so_far =
    let k : count - i ≡ suc (count - (i + 1)) = omega arith in
    let one : with_front front (many_at one_at (count - i) bytes) ≡ with_front (front ++ n ∷ []) (many_at one_at (count - (i + 1)) after) = rw (k, h) (regroup front n (many_at one_at (count - (i + 1)) after)) in
    sym one ∙ so_far

pub ends : {A : Type 0} (one_at : List ℕ → Result (A × List ℕ) EncodingError) (e : ReadError) (front : List A) (count i : ℕ) (bytes : List ℕ) (total : Result (List A × List ℕ) EncodingError) → i < count → Fails e (one_at bytes)
    → with_front front (many_at one_at (count - i) bytes) ≡ total → Fails e total
unfolding many_at
ends one_at errors.Memory front count i bytes total lt h so_far = tt
ends one_at (errors.Fault f) front count i bytes total lt h so_far =
    let k : count - i ≡ suc (count - (i + 1)) = omega arith in
    let one : with_front front (many_at one_at (count - i) bytes) ≡ Err f = rw (k, h) refl in
    sym so_far ∙ one

pub is_done : {A : Type 0} (one_at : List ℕ → Result (A × List ℕ) EncodingError) (front : List A) (count i : ℕ) (bytes : List ℕ) (total : Result (List A × List ℕ) EncodingError) → count ≤ i → with_front front (many_at one_at (count - i) bytes) ≡ total → total ≡ Ok (front, bytes)
unfolding many_at
is_done {A} one_at front count i bytes total le so_far =
    let k : count - i ≡ 0 = omega arith in
    let one : with_front front (many_at one_at (count - i) bytes) ≡ Ok (front, bytes) = rw k (ap (λ (ns : List A). Ok (ns, bytes)) (append-nil front)) in
    sym so_far ∙ one

-- ---- pieces that are dealt

abbrev after_front : {B : Type 0} → List B → Result (List B) EncodingError → Result (List B) EncodingError
after_front front read = read >>= λ ys. Ok (front ++ ys)

-- what was dealt, and what is still dealt, are what all gives
abbrev pub IsDealtSoFar : {A B : Type 0} → (A → B) → (B → List ℕ → B) → List A → List ℕ → ℕ → List A → List ℕ → Type 0
IsDealtSoFar view give initial bytes i now rest = after_front (map view (take i now)) (dealt_at give (map view (drop i now)) rest) ≡ dealt_at give (map view initial) bytes

-- a list whose item at a place was set: what is before it, and behind it; and the item that stood there
pub record IsSet {A : Type 0} (xs : List A) (i : ℕ) (y d : A) : Type 0 where
  pub front : take (i + 1) (set xs i y) ≡ take i xs ++ y ∷ []
  pub back : drop (i + 1) (set xs i y) ≡ drop (i + 1) xs
  pub here : drop i xs ≡ get_or xs i d ∷ drop (i + 1) xs

set_splits : {A : Type 0} (xs : List A) (i : ℕ) (y d : A) → i < length xs → (take (suc i) (set xs i y) ≡ take i xs ++ y ∷ []) × (drop (suc i) (set xs i y) ≡ drop (suc i) xs) × (drop i xs ≡ get_or xs i d ∷ drop (suc i) xs)
set_splits [] i y d inside = absurd (omega arith)
set_splits (x ∷ xs) zero y d inside = (refl, refl, refl)
set_splits {A} (x ∷ xs) (suc i) y d inside =
    let later = set_splits xs i y d (omega arith) in
    (ap (λ (l : List A). x ∷ l) later.0, later.1, later.2)

pub is_set : {A : Type 0} (xs : List A) (i : ℕ) (y d : A) → i < length xs → IsSet xs i y d
is_set xs i y d inside =
    let s = set_splits xs i y d inside in
    record { front = rw add-one s.0; back = rw add-one s.1; here = rw add-one s.2 }

drop_past : {A : Type 0} (xs : List A) (i : ℕ) → length xs ≤ i → drop i xs ≡ []
drop_past [] zero h = refl
drop_past [] (suc i) h = refl
drop_past (x ∷ xs) zero h = absurd (omega arith)
drop_past (x ∷ xs) (suc i) h = drop_past xs i (omega arith)

given_more : {B : Type 0} (front : List B) (y : B) (read : Result (List B) EncodingError) → after_front front (read >>= λ others. Ok (y ∷ others)) ≡ after_front (front ++ y ∷ []) read
given_more {B} front y (Ok ys) = ap (λ (l : List B). Ok l) (sym (append_assoc front (y ∷ []) ys))
given_more front y (Err f) = refl

pub dealt_begins : {A B : Type 0} (view : A → B) (give : B → List ℕ → B) (xs : List A) (bytes : List ℕ) → IsDealtSoFar view give xs bytes 0 xs bytes
dealt_begins {A} {B} view give xs bytes = by_result (dealt_at give (map view xs) bytes)
  where
    by_result : (r : Result (List B) EncodingError) → after_front [] r ≡ r
    by_result (Ok ys) = refl
    by_result (Err f) = refl

pub dealt_more : {A B : Type 0} (view : A → B) (give : B → List ℕ → B) (initial now : List A) (bytes rest piece after : List ℕ) (i : ℕ) (y d : A) → i < length now → piece_at rest ≡ Ok (piece, after) → view y ≡ give (view (get_or now i d)) piece
    → IsDealtSoFar view give initial bytes i now rest → IsDealtSoFar view give initial bytes (i + 1) (set now i y) after
unfolding dealt_at
dealt_more {A} {B} view give initial now bytes rest piece after i y d inside cut is so_far =
    let s = is_set now i y d inside in
    let front = map view (take i now) in
    let x = view (get_or now i d) in
    let later = map view (drop (i + 1) now) in
    let all = dealt_at give (map view initial) bytes in
    let opened : after_front front (dealt_at give (x ∷ later) rest) ≡ all = ap (λ (l : List A). after_front front (dealt_at give (map view l) rest)) (sym s.here) ∙ so_far in
    let one : after_front front (dealt_at give (x ∷ later) rest) ≡ after_front (front ++ give x piece ∷ []) (dealt_at give later after) = rw cut (given_more front (give x piece) (dealt_at give later after)) in
    let fronts : map view (take (i + 1) (set now i y)) ≡ front ++ give x piece ∷ [] = ap (map view) s.front ∙ map-append view (take i now) (y ∷ []) ∙ ap (λ (b : B). front ++ b ∷ []) is in
    ap₂ (λ (f l : List B). after_front f (dealt_at give l after)) fronts (ap (map view) s.back) ∙ sym one ∙ opened

pub dealt_fails : {A B : Type 0} (view : A → B) (give : B → List ℕ → B) (initial now : List A) (bytes rest : List ℕ) (i : ℕ) (e : ReadError) (d : A) → i < length now → Fails e (piece_at rest) → IsDealtSoFar view give initial bytes i now rest → Fails e (dealt_at give (map view initial) bytes)
unfolding dealt_at
dealt_fails view give initial now bytes rest i errors.Memory d inside fails so_far = tt
dealt_fails {A} {B} view give initial now bytes rest i (errors.Fault f) d inside fails so_far =
    let here = (is_set now i d d inside).here in
    let front = map view (take i now) in
    let later = map view (drop (i + 1) now) in
    let one : after_front front (dealt_at give (view (get_or now i d) ∷ later) rest) ≡ Err f = rw fails refl in
    sym so_far ∙ ap (λ (l : List A). after_front front (dealt_at give (map view l) rest)) here ∙ one

last_is : {A B : Type 0} (view : A → B) (give : B → List ℕ → B) (initial now : List A) (bytes rest : List ℕ) (i : ℕ) → length now ≤ i → IsDealtSoFar view give initial bytes i now rest → dealt_at give (map view initial) bytes ≡ after_front (map view now) (cond (eqb (length rest) 0) (Ok []) (Err Trailing))
unfolding dealt_at
last_is {A} view give initial now bytes rest i past so_far = sym so_far ∙ ap₂ (λ (f l : List A). after_front (map view f) (dealt_at give (map view l) rest)) (take_all i now past) (drop_past now i past)

pub dealt_done : {A B : Type 0} (view : A → B) (give : B → List ℕ → B) (initial now : List A) (bytes rest : List ℕ) (i : ℕ) (b : Bool) → length now ≤ i → b ≡ eqb (length rest) 0 → b ≡ true → IsDealtSoFar view give initial bytes i now rest → dealt_at give (map view initial) bytes ≡ Ok (map view now)
dealt_done {A} {B} view give initial now bytes rest i b past is full so_far =
    last_is view give initial now bytes rest i past so_far ∙ ap (λ (t : Bool). after_front (map view now) (cond t (Ok []) (Err Trailing))) (sym is ∙ full) ∙ ap (λ (l : List B). Ok l) (append-nil (map view now))

pub dealt_trails : {A B : Type 0} (view : A → B) (give : B → List ℕ → B) (initial now : List A) (bytes rest : List ℕ) (i : ℕ) (b : Bool) → length now ≤ i → b ≡ eqb (length rest) 0 → b ≡ false → IsDealtSoFar view give initial bytes i now rest → dealt_at give (map view initial) bytes ≡ Err Trailing
dealt_trails view give initial now bytes rest i b past is full so_far =
    last_is view give initial now bytes rest i past so_far ∙ ap (λ (t : Bool). after_front (map view now) (cond t (Ok []) (Err Trailing))) (sym is ∙ full)

-- ---- something that each item is given

pub mapped_more : {A B : Type 0} (view : A → B) (h : B → B) (all : List B) (now : List A) (i : ℕ) (y d : A) → i < length now → view y ≡ h (view (get_or now i d)) → map view (take i now) ++ map h (map view (drop i now)) ≡ all
    → map view (take (i + 1) (set now i y)) ++ map h (map view (drop (i + 1) (set now i y))) ≡ all
mapped_more {A} {B} view h all now i y d inside is so_far =
    let s = is_set now i y d inside in
    let front = map view (take i now) in
    let later = map h (map view (drop (i + 1) now)) in
    ap₂ (λ (f l : List B). f ++ l) (ap (map view) s.front ∙ map-append view (take i now) (y ∷ []) ∙ ap (λ (b : B). front ++ b ∷ []) is) (ap (λ (l : List A). map h (map view l)) s.back)
    ∙ append_assoc front (h (view (get_or now i d)) ∷ []) later ∙ ap (λ (l : List A). front ++ map h (map view l)) (sym s.here) ∙ so_far

pub mapped_done : {A B : Type 0} (view : A → B) (h : B → B) (all : List B) (now : List A) (i : ℕ) → length now ≤ i → map view (take i now) ++ map h (map view (drop i now)) ≡ all → map view now ≡ all
mapped_done {A} {B} view h all now i past so_far =
    sym (append-nil (map view now)) ∙ ap₂ (λ (f l : List A). map view f ++ map h (map view l)) (sym (take_all i now past)) (sym (drop_past now i past)) ∙ so_far

-- ---- blocks

-- what is still added gives what all does
abbrev pub AreAddedSoFar : List Bool → List Block → List ZoneValue → List ℕ → ℕ → List ZoneValue → List ℕ → Type 0
AreAddedSoFar wanted blocks initial bytes k now rest = blocks_at wanted k (map block_value (drop k blocks)) now rest ≡ blocks_at wanted 0 (map block_value blocks) initial bytes

drop_here : {A : Type 0} (xs : List A) (i : ℕ) (x : A) → i < length xs → x ≡ get_or xs i x → drop i xs ≡ x ∷ drop (i + 1) xs
drop_here {A} xs i x inside is = (is_set xs i x x inside).here ∙ ap (λ (y : A). y ∷ drop (i + 1) xs) (sym is)

-- the next block
opened : (wanted : List Bool) (blocks : List Block) (k : ℕ) (now : List ZoneValue) (rest : List ℕ) (b : Block) → k < length blocks → b ≡ get_or blocks k b
    → blocks_at wanted k (map block_value (drop k blocks)) now rest ≡ (front_at b.length rest >>= λ block. added_at (is_wanted wanted k) (block_value b) now block.0 >>= λ more. blocks_at wanted (k + 1) (map block_value (drop (k + 1) blocks)) more block.1)
unfolding blocks_at
opened wanted blocks k now rest b inside is = ap (λ (l : List Block). blocks_at wanted k (map block_value l) now rest) (drop_here blocks k b inside is) ∙ rw add-one refl

pub added_more : (wanted : List Bool) (blocks : List Block) (initial now new : List ZoneValue) (bytes rest front after : List ℕ) (k : ℕ) (b : Block) (w : Bool) → k < length blocks → b ≡ get_or blocks k b → front_at b.length rest ≡ Ok (front, after) → w ≡ is_wanted wanted k
    → added_at w (block_value b) now front ≡ Ok new → AreAddedSoFar wanted blocks initial bytes k now rest → AreAddedSoFar wanted blocks initial bytes (k + 1) new after
added_more wanted blocks initial now new bytes rest front after k b w inside is cut same added so_far =
    let added' : added_at (is_wanted wanted k) (block_value b) now front ≡ Ok new = subst (λ (t : Bool). added_at t (block_value b) now front ≡ Ok new) same added in
    let one : (front_at b.length rest >>= λ block. added_at (is_wanted wanted k) (block_value b) now block.0 >>= λ more. blocks_at wanted (k + 1) (map block_value (drop (k + 1) blocks)) more block.1) ≡ blocks_at wanted (k + 1) (map block_value (drop (k + 1) blocks)) new after = rw (cut, added') refl in
    sym one ∙ sym (opened wanted blocks k now rest b inside is) ∙ so_far

pub front_fails : (wanted : List Bool) (blocks : List Block) (initial now : List ZoneValue) (bytes rest : List ℕ) (k : ℕ) (b : Block) (e : ReadError) → k < length blocks → b ≡ get_or blocks k b → Fails e (front_at b.length rest)
    → AreAddedSoFar wanted blocks initial bytes k now rest → Fails e (blocks_at wanted 0 (map block_value blocks) initial bytes)
front_fails wanted blocks initial now bytes rest k b errors.Memory inside is fails so_far = tt
front_fails wanted blocks initial now bytes rest k b (errors.Fault f) inside is fails so_far =
    let one : (front_at b.length rest >>= λ block. added_at (is_wanted wanted k) (block_value b) now block.0 >>= λ more. blocks_at wanted (k + 1) (map block_value (drop (k + 1) blocks)) more block.1) ≡ Err f = rw fails refl in
    sym so_far ∙ opened wanted blocks k now rest b inside is ∙ one

pub added_fails : (wanted : List Bool) (blocks : List Block) (initial now : List ZoneValue) (bytes rest front after : List ℕ) (k : ℕ) (b : Block) (w : Bool) (e : ReadError) → k < length blocks → b ≡ get_or blocks k b → front_at b.length rest ≡ Ok (front, after) → w ≡ is_wanted wanted k
    → Fails e (added_at w (block_value b) now front) → AreAddedSoFar wanted blocks initial bytes k now rest → Fails e (blocks_at wanted 0 (map block_value blocks) initial bytes)
added_fails wanted blocks initial now bytes rest front after k b w errors.Memory inside is cut same fails so_far = tt
added_fails wanted blocks initial now bytes rest front after k b w (errors.Fault f) inside is cut same fails so_far =
    let fails' : added_at (is_wanted wanted k) (block_value b) now front ≡ Err f = subst (λ (t : Bool). added_at t (block_value b) now front ≡ Err f) same fails in
    let one : (front_at b.length rest >>= λ block. added_at (is_wanted wanted k) (block_value b) now block.0 >>= λ more. blocks_at wanted (k + 1) (map block_value (drop (k + 1) blocks)) more block.1) ≡ Err f = rw (cut, fails') refl in
    sym so_far ∙ opened wanted blocks k now rest b inside is ∙ one

no_more : (wanted : List Bool) (blocks : List Block) (now : List ZoneValue) (rest : List ℕ) (k : ℕ) → length blocks ≤ k → blocks_at wanted k (map block_value (drop k blocks)) now rest ≡ cond (eqb (length rest) 0) (Ok now) (Err Trailing)
unfolding blocks_at
no_more wanted blocks now rest k past = ap (λ (l : List Block). blocks_at wanted k (map block_value l) now rest) (drop_past blocks k past)

pub added_done : (wanted : List Bool) (blocks : List Block) (initial now : List ZoneValue) (bytes rest : List ℕ) (k : ℕ) (b : Bool) → length blocks ≤ k → b ≡ eqb (length rest) 0 → b ≡ true → AreAddedSoFar wanted blocks initial bytes k now rest
    → blocks_at wanted 0 (map block_value blocks) initial bytes ≡ Ok now
added_done wanted blocks initial now bytes rest k b past is full so_far = sym so_far ∙ no_more wanted blocks now rest k past ∙ ap (λ (t : Bool). cond t (Ok now) (Err Trailing)) (sym is ∙ full)

pub added_trails : (wanted : List Bool) (blocks : List Block) (initial now : List ZoneValue) (bytes rest : List ℕ) (k : ℕ) (b : Bool) → length blocks ≤ k → b ≡ eqb (length rest) 0 → b ≡ false → AreAddedSoFar wanted blocks initial bytes k now rest
    → blocks_at wanted 0 (map block_value blocks) initial bytes ≡ Err Trailing
added_trails wanted blocks initial now bytes rest k b past is full so_far = sym so_far ∙ no_more wanted blocks now rest k past ∙ ap (λ (t : Bool). cond t (Ok now) (Err Trailing)) (sym is ∙ full)

-- the root has the digest that stands behind it

pub signed_then : (bytes a b : List ℕ) (s : List ℕ × List ℕ) → known_at Magic MAGIC bytes ≡ Ok a → known_at Version VERSION a ≡ Ok b → signed_at b ≡ Ok s → signed_root_at bytes ≡ Ok s
unfolding signed_root_at
signed_then bytes a b s p q r = rw (p, q, r) refl

pub always : {A B : Type 0} (r : Result A B) (P : B → Type 0) → ((e : B) → P e) → IfErr r P
always {A} {B} (Ok a) P every = tt
always {A} {B} (Err e) P every = every e
