-- Pieces one after another, and the pieces of a filter among others.
use Rattle.std.proofs.Common.{◌≡◌, ℕ, zero, suc, ◌+◌, ◌*◌, ◌/◌, ◌<◌, ◌≤◌, ◌^◌, ◌==◌, Bool, true, false, cond, List, [], ◌∷◌, ◌++◌, length, slice_get, take, drop, Some, None, Result, Ok, IsErr, refl, sym, ap, ap₂, subst, ◌∙◌, arith}
use Rattle.std.specs.List.{AllByRecursion, flat_map}
use Rattle.std.specs.Simd.{first_chunks}
use Rattle.std.proofs.lemmas.Bool.{false≢true}
use Rattle.std.proofs.lemmas.List.{drop-drop}
use Rattle.std.proofs.lemmas.Option.{slice_get_past}
use Rattle.zone_index.specs.Encoding.{bytes_encoding, is_wanted, wanted_pieces}
use Rattle.zone_index.specs.EncodingReading.{bytes_at}
use Rattle.zone_index.specs.declared.encoding.EncodingError.{EncodingError}
use Rattle.zone_index.proofs.FieldLaws.{bytes_again, ok_is}
use Rattle.membership.specs.BloomFilters.{block_of, may_contain}
use Rattle.zone_members.specs.Laws.{PiecesDecide}
use Rattle.zone_members.specs.Pieces.{block_at, block_may_contain, blocks_in, piece_may_contain}
use Rattle.zone_members.proofs.BlockLaws.{block-long, block-within, by_block}

-- ---- one piece after another

-- the bytes of pieces
abbrev pub bytes_of : List (List ℕ) → List ℕ
bytes_of pieces = flat_map bytes_encoding pieces

abbrev pub AllFit : List (List ℕ) → Type 0
AllFit pieces = AllByRecursion (λ p. length p < 2 ^ 64) pieces

-- where bytes are read, they are no end
no_bytes : (parts : List ℕ × List ℕ) → bytes_at [] ≡ Ok parts → ⊥
unfolding bytes_at
no_bytes parts e = cc

-- what is read where pieces are left
pub record IsNext (all : List (List ℕ)) (i : ℕ) (piece after : List ℕ) : Type 0 where
  pub within : i < length all
  pub piece_is : slice_get all i ≡ Some piece
  pub after_is : after ≡ bytes_of (drop (i + 1) all)

both_are : (x y v w : List ℕ) → ◌≡◌ {A = List ℕ × List ℕ} (x, v) (y, w) → (x ≡ y) × (v ≡ w)
both_are x y v w e = (ap (λ (p : List ℕ × List ℕ). p.0) e, ap (λ (p : List ℕ × List ℕ). p.1) e)

pub next_piece : (all : List (List ℕ)) (i : ℕ) (rest piece after : List ℕ) → AllFit all → rest ≡ bytes_of (drop i all) → bytes_at rest ≡ Ok (piece, after) → IsNext all i piece after
next_piece [] i rest piece after fit e r = absurd (no_bytes (piece, after) (sym (ap bytes_at (e ∙ ap bytes_of (drop_nil i))) ∙ r))
  where
    drop_nil : (i : ℕ) → drop i (let none : List (List ℕ) = [] in none) ≡ []
    drop_nil zero = refl
    drop_nil (suc i) = refl
next_piece (x ∷ all) zero rest piece after fit e r =
    let same = both_are x piece (bytes_of all) after (ok_is (x, bytes_of all) (piece, after) (sym (bytes_again x (bytes_of all) fit.0) ∙ ap bytes_at (sym e) ∙ r)) in
    record { within = omega arith; piece_is = ap Some same.0; after_is = sym same.1 }
next_piece (x ∷ all) (suc i) rest piece after fit e r =
    let found = next_piece all i rest piece after fit.1 e r in
    let within = found.within in
    let next' : suc (i + 1) ≡ suc i + 1 = omega arith in
    record { within = omega arith; piece_is = found.piece_is; after_is = found.after_is ∙ ap (λ n. bytes_of (drop n (x ∷ all))) next' }

-- where nothing is read, no piece is left
pub no_piece : (all : List (List ℕ)) (i : ℕ) (rest : List ℕ) → AllFit all → rest ≡ bytes_of (drop i all) → IsErr (bytes_at rest) → length all ≤ i
no_piece [] i rest fit e r = omega arith
no_piece (x ∷ all) zero rest fit e r =
    let P : Result (List ℕ × List ℕ) EncodingError → Type 0 = λ a. IsErr a in
    absurd (false≢true (subst P (ap bytes_at e ∙ bytes_again x (bytes_of all) fit.0) r))
no_piece (x ∷ all) (suc i) rest fit e r = let less = no_piece all i rest fit.1 e r in omega arith

-- where nothing is read, there is no piece with a later number
pub none_later : (all : List (List ℕ)) (i place : ℕ) (rest : List ℕ) → AllFit all → rest ≡ bytes_of (drop i all) → IsErr (bytes_at rest) → i ≤ place → None ≡ slice_get all place
none_later all i place rest fit e r h = let less = no_piece all i rest fit e r in sym (slice_get_past all place (omega arith))

-- ---- a piece among others

wanted_at : (wanted : List Bool) (j : ℕ) (pieces : List (List ℕ)) (k : ℕ) (p : List ℕ) → slice_get pieces k ≡ Some p
    → slice_get (wanted_pieces wanted j pieces) k ≡ Some (cond (is_wanted wanted (j + k)) p [])
wanted_at wanted j [] k p e = absurd cc
wanted_at wanted j (x ∷ pieces) zero p e =
    let same : x ≡ p = cc in
    let place : j ≡ j + 0 = omega arith in
    ap₂ (λ n q. Some (cond (is_wanted wanted n) q [])) place same
wanted_at wanted j (x ∷ pieces) (suc k) p e =
    let place : suc j + k ≡ j + suc k = omega arith in
    wanted_at wanted (suc j) pieces k p e ∙ ap (λ n. Some (cond (is_wanted wanted n) p [])) place

behind : (before rest : List (List ℕ)) (k : ℕ) → slice_get (before ++ rest) (length before + k) ≡ slice_get rest k
behind [] rest k = let place : 0 + k ≡ k = omega arith in ap (slice_get rest) place
behind (x ∷ before) rest k = let place : length (x ∷ before) + k ≡ suc (length before + k) = omega arith in ap (slice_get (x ∷ (before ++ rest))) place ∙ behind before rest k

in_front : (pieces rest : List (List ℕ)) (k : ℕ) (p : List ℕ) → slice_get pieces k ≡ Some p → slice_get (pieces ++ rest) k ≡ Some p
in_front [] rest k p e = absurd cc
in_front (x ∷ pieces) rest zero p e = e
in_front (x ∷ pieces) rest (suc k) p e = in_front pieces rest k p e

chunk_at : (n : ℕ) (filter : List ℕ) (b : ℕ) → b < n → slice_get (first_chunks 32 n filter) b ≡ Some (block_at filter b)
chunk_at zero filter b h = absurd (omega arith)
chunk_at (suc n) filter zero h = refl
chunk_at (suc n) filter (suc b) h =
    let within : b < n = omega arith in
    let place : 32 + 32 * b ≡ 32 * suc b = omega arith in
    chunk_at n (drop 32 filter) b within ∙ ap (λ xs. Some (take 32 xs)) (drop-drop (32 * b) 32 filter ∙ ap (λ m. drop m filter) place)

-- ---- the piece of a hash

eq_true : (n : ℕ) → n ≡ 32 → (n == 32) ≡ true
eq_true n e = ap (λ m. m == 32) e

by_test : (b : Bool) (block : List ℕ) (hash : ℕ) (r : Bool) → length block ≡ 32 → may_contain block hash ≡ r
    → block_may_contain (cond b block []) hash ≡ cond b r true
by_test true block hash r long e = ap (λ c. cond c (may_contain block hash) true) (eq_true (length block) long) ∙ e
by_test false block hash r long e = refl

pub pieces_decide : PiecesDecide
pieces_decide before after filter blocks hash wanted long some fits small =
    let b = block_of blocks hash in
    let inside : b < blocks = block-within blocks hash some small in
    let many : length filter / 32 ≡ blocks = omega arith in
    let counted : b < length filter / 32 = omega arith in
    let whole = block-long filter b blocks long inside in
    let one : length (block_at filter b) / 32 ≡ 1 = ap (λ n. n / 32) whole in
    let there = behind before (blocks_in filter ++ after) b ∙ in_front (blocks_in filter) after b (block_at filter b) (chunk_at (length filter / 32) filter b counted) in
    ap (λ p. piece_may_contain p hash) (wanted_at wanted 0 (before ++ (blocks_in filter ++ after)) (length before + b) (block_at filter b) there)
    ∙ ap (λ n. block_may_contain (cond (is_wanted wanted n) (block_at filter b) []) hash) (let zero' : 0 + (length before + b) ≡ length before + b = omega arith in zero')
    ∙ by_test (is_wanted wanted (length before + b)) (block_at filter b) hash (may_contain filter hash) whole (by_block filter blocks hash small many one)
