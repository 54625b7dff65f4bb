-- The laws of blocks: what is read has pieces, and what was written is read.
use Rattle.std.proofs.Common.{◌≡◌, ℕ, zero, suc, ◌^◌, ◌<◌, drop, Bool, true, false, cond, eqb, List, [], ◌∷◌, ◌++◌, length, map, Result, Ok, Err, refl, sym, ap, ap₂, subst, ◌∙◌, append_assoc, arith}
use Rattle.std.specs.List.{flat_map, concat, AllByRecursion}
use Rattle.std.specs.Prelude.{IfOk, slice_index_or}
use Rattle.std.specs.Str.{bytes_eq}
use Rattle.std.proofs.lemmas.Bool.{eqb-true}
use Rattle.std.proofs.lemmas.List.{append-nil, nil_from_length, length-map}
use Rattle.std.proofs.lemmas.List.Concat.{flat_map-cons}
use Rattle.std.proofs.lemmas.Slice.Eq.{bytes_eq-Decides}
use Rattle.sha2.specs.Sha256.{sha256}
use Rattle.zone_index.specs.declared.encoding.EncodingError.{EncodingError}
use Rattle.zone_index.specs.declared.encoding.EncodingError.TheVariants.{Damaged, Trailing}
use Rattle.zone_index.specs.Encoding.{AddBlocks, AddsBlock, AreDealt, BlockValue, HavePieces, IndexValue, RootValue, ZoneValue, block_of, blocks_of, bytes_encoding, dealt, index_value, is_wanted, root_of, wanted_of, wanted_pieces, wanted_zones, with_statistics, with_unread, without_statistics, zone_values}
use Rattle.zone_index.specs.EncodingReading.{◌>>=◌, Gives, added_at, blocks_at, dealt_at, front_at, index_at, piece_at}
use Rattle.zone_index.specs.declared.encoding.Index.{Index}
use Rattle.zone_index.specs.declared.encoding.ReadError.{ReadError}
use Rattle.zone_index.proofs.FieldLaws.{IsBytes, bind_ok, guard_met, ok_is, piece_again, piece_takes, front_again, front_takes}

-- ---- pieces that are dealt

abbrev pub AllFit : List (List ℕ) → Type 0
AllFit ps = AllByRecursion (λ p. length p < 2 ^ 64) ps

pub dealt_again : {A : Type 0} (give : A → List ℕ → A) (xs : List A) (ps : List (List ℕ)) → length ps ≡ length xs → AllFit ps → dealt_at give xs (flat_map bytes_encoding ps) ≡ Ok (dealt give ps xs)
unfolding dealt_at
dealt_again give [] [] same fit = refl
dealt_again give [] (p ∷ ps) same fit = absurd (omega (arith, same))
dealt_again give (x ∷ xs) [] same fit = absurd (omega (arith, same))
dealt_again give (x ∷ xs) (p ∷ ps) same fit =
    let less : length ps ≡ length xs = omega (arith, same) in
    ap (dealt_at give (x ∷ xs)) (flat_map-cons bytes_encoding p ps) ∙ rw (piece_again p (flat_map bytes_encoding ps) fit.0, dealt_again give xs ps less fit.1) refl

pub dealt_takes : {A : Type 0} (give : A → List ℕ → A) (xs : List A) (bytes : List ℕ) (ys : List A) → IsBytes bytes → dealt_at give xs bytes ≡ Ok ys → AreDealt give xs bytes ys
unfolding dealt_at
dealt_takes {A} give [] bytes ys fits e =
    let none : List A = [] in
    let g = guard_met (eqb (length bytes) 0) Trailing none ys e in
    record { pieces = []; count = refl; is = nil_from_length bytes (eqb-true _ _ g.0); fit = tt; given = sym g.1 }
dealt_takes {A} give (x ∷ xs) bytes ys fits e =
    let a = bind_ok (piece_at bytes) (λ piece. dealt_at give xs piece.1 >>= λ others. Ok (give x piece.0 ∷ others)) ys e in
    let b = bind_ok (dealt_at give xs a.0.1) (λ others. Ok (give x a.0.0 ∷ others)) ys a.2 in
    let t = piece_takes bytes a.0.0 a.0.1 fits a.1 in
    let later = dealt_takes give xs a.0.1 b.0 t.0.rest_fits b.1 in
    let p = t.1.piece in
    record {
      pieces = p ∷ later.pieces;
      count = ap suc later.count;
      is = t.0.parts ∙ ap₂ (λ (m n : List ℕ). m ++ n) t.1.is later.is ∙ sym (flat_map-cons bytes_encoding p later.pieces);
      fit = (t.1.fits, later.fit);
      given = sym (ok_is (give x a.0.0 ∷ b.0) ys b.2) ∙ ap₂ (λ (f : List ℕ) (l : List A). give x f ∷ l) t.1.is later.given;
    }

-- ---- what is read has pieces

added_found : (wanted : Bool) (b : BlockValue) (zs ys : List ZoneValue) (block : List ℕ) → IsBytes block → added_at wanted b zs block ≡ Ok ys → AddsBlock wanted b block zs ys
unfolding added_at
added_found false b zs ys block fits e = sym (ok_is (with_unread zs) ys e)
added_found true b zs ys block fits e =
    let g = by_test (bytes_eq (sha256 block) b.digest) (dealt_at with_statistics zs block) e in
    let d = dealt_takes with_statistics zs block ys fits g.1 in
    let same : sha256 block ≡ b.digest = (bytes_eq-Decides (sha256 block) b.digest).0 g.0 in
    (d, sym same)
  where
    by_test : (t : Bool) (r : Result (List ZoneValue) EncodingError) → cond t r (Err Damaged) ≡ Ok ys → (t ≡ true) × (r ≡ Ok ys)
    by_test true r h = (refl, h)
    by_test false r h = absurd cc

pub blocks_found : (wanted : List Bool) (k : ℕ) (bs : List BlockValue) (zs ys : List ZoneValue) (bytes : List ℕ) → IsBytes bytes → blocks_at wanted k bs zs bytes ≡ Ok ys → AddBlocks wanted k bs bytes zs ys
unfolding blocks_at
blocks_found wanted k [] zs ys bytes fits e =
    let g = guard_met (eqb (length bytes) 0) Trailing zs ys e in
    (nil_from_length bytes (eqb-true _ _ g.0), sym g.1)
blocks_found wanted k (b ∷ bs) zs ys bytes fits e =
    let a = bind_ok (front_at b.length bytes) (λ block. added_at (is_wanted wanted k) b zs block.0 >>= λ more. blocks_at wanted (suc k) bs more block.1) ys e in
    let m = bind_ok (added_at (is_wanted wanted k) b zs a.0.0) (λ more. blocks_at wanted (suc k) bs more a.0.1) ys a.2 in
    let t = front_takes b.length bytes a.0.0 a.0.1 fits a.1 in
    (a.0.0, a.0.1, m.0, t.0.parts, t.1, added_found (is_wanted wanted k) b zs m.0 a.0.0 t.2 m.1, blocks_found wanted (suc k) bs m.0 ys a.0.1 t.0.rest_fits m.2)

-- ---- what was written is read

-- each zone has so many pieces, which fit
pub record Row (n : ℕ) (ps : List (List ℕ)) : Type 0 where
  pub count : length ps ≡ n
  pub fit : AllFit ps

abbrev firsts : List (List (List ℕ)) → List (List ℕ)
firsts pieces = map (λ ps. slice_index_or ps 0 []) pieces

abbrev others : List (List (List ℕ)) → List (List (List ℕ))
others pieces = map (λ ps. drop 1 ps) pieces

first_fit : (n : ℕ) (pieces : List (List (List ℕ))) → AllByRecursion (Row (suc n)) pieces → AllFit (firsts pieces)
first_fit n [] h = tt
first_fit n ([] ∷ pieces) h = absurd (omega (arith, h.0.count))
first_fit n ((p ∷ ps) ∷ pieces) h = (h.0.fit.0, first_fit n pieces h.1)

others_are : (n : ℕ) (pieces : List (List (List ℕ))) → AllByRecursion (Row (suc n)) pieces → AllByRecursion (Row n) (others pieces)
others_are n [] h = tt
others_are n ([] ∷ pieces) h = absurd (omega (arith, h.0.count))
others_are n ((p ∷ ps) ∷ pieces) h = (record { count = omega (arith, h.0.count); fit = h.0.fit.1 }, others_are n pieces h.1)

-- the zones with their wanted pieces, from this place on
abbrev more : List Bool → ℕ → List ZoneValue → List (List (List ℕ)) → List ZoneValue
more wanted k [] pieces = []
more wanted k (z ∷ zs) [] = []
more wanted k (z ∷ zs) (ps ∷ pieces) = with_statistics z (flat_map bytes_encoding (wanted_pieces wanted k ps)) ∷ more wanted k zs pieces

more_none : (wanted : List Bool) (k : ℕ) (zs : List ZoneValue) (pieces : List (List (List ℕ))) → length pieces ≡ length zs → AllByRecursion (Row 0) pieces → zs ≡ more wanted k zs pieces
more_none wanted k [] pieces same h = refl
more_none wanted k (z ∷ zs) [] same h = absurd (omega (arith, same))
more_none wanted k (z ∷ zs) ([] ∷ pieces) same h =
    ap₂ (λ (s : List ℕ) (l : List ZoneValue). record z { statistics = s } ∷ l) (sym (append-nil z.statistics)) (more_none wanted k zs pieces (omega (arith, same)) h.1)
more_none wanted k (z ∷ zs) ((p ∷ ps) ∷ pieces) same h = absurd (omega (arith, h.0.count))

-- a zone with one piece and then the others
one_more : (z : ZoneValue) (piece : List ℕ) (ps : List (List ℕ)) → with_statistics (with_statistics z (bytes_encoding piece)) (flat_map bytes_encoding ps) ≡ with_statistics z (flat_map bytes_encoding (piece ∷ ps))
one_more z piece ps = ap (λ (s : List ℕ). record z { statistics = s }) (append_assoc z.statistics (bytes_encoding piece) (flat_map bytes_encoding ps) ∙ ap (λ (l : List ℕ). z.statistics ++ l) (sym (flat_map-cons bytes_encoding piece ps)))

more_wanted : (wanted : List Bool) (k n : ℕ) (zs : List ZoneValue) (pieces : List (List (List ℕ))) → is_wanted wanted k ≡ true → length pieces ≡ length zs → AllByRecursion (Row (suc n)) pieces
    → more wanted (suc k) (dealt with_statistics (firsts pieces) zs) (others pieces) ≡ more wanted k zs pieces
more_wanted wanted k n [] [] is same h = refl
more_wanted wanted k n [] (ps ∷ pieces) is same h = absurd (omega (arith, same))
more_wanted wanted k n (z ∷ zs) [] is same h = absurd (omega (arith, same))
more_wanted wanted k n (z ∷ zs) ([] ∷ pieces) is same h = absurd (omega (arith, h.0.count))
more_wanted wanted k n (z ∷ zs) ((p ∷ ps) ∷ pieces) is same h =
    ap₂ (λ (y : ZoneValue) (l : List ZoneValue). y ∷ l) (one_more z p (wanted_pieces wanted (suc k) ps) ∙ ap (λ (b : Bool). with_statistics z (flat_map bytes_encoding (cond b p [] ∷ wanted_pieces wanted (suc k) ps))) (sym is))
    (more_wanted wanted k n zs pieces is (omega (arith, same)) h.1)

more_unread : (wanted : List Bool) (k n : ℕ) (zs : List ZoneValue) (pieces : List (List (List ℕ))) → is_wanted wanted k ≡ false → length pieces ≡ length zs → AllByRecursion (Row (suc n)) pieces
    → more wanted (suc k) (with_unread zs) (others pieces) ≡ more wanted k zs pieces
more_unread wanted k n [] [] is same h = refl
more_unread wanted k n [] (ps ∷ pieces) is same h = absurd (omega (arith, same))
more_unread wanted k n (z ∷ zs) [] is same h = absurd (omega (arith, same))
more_unread wanted k n (z ∷ zs) ([] ∷ pieces) is same h = absurd (omega (arith, h.0.count))
more_unread wanted k n (z ∷ zs) ((p ∷ ps) ∷ pieces) is same h =
    ap₂ (λ (y : ZoneValue) (l : List ZoneValue). y ∷ l)
    (one_more z [] (wanted_pieces wanted (suc k) ps) ∙ ap (λ (b : Bool). with_statistics z (flat_map bytes_encoding (cond b p [] ∷ wanted_pieces wanted (suc k) ps))) (sym is))
    (more_unread wanted k n zs pieces is (omega (arith, same)) h.1)

dealt_long : {A : Type 0} (give : A → List ℕ → A) (ps : List (List ℕ)) (xs : List A) → length ps ≡ length xs → length (dealt give ps xs) ≡ length xs
dealt_long give [] [] same = refl
dealt_long give [] (x ∷ xs) same = absurd (omega (arith, same))
dealt_long give (p ∷ ps) [] same = absurd (omega (arith, same))
dealt_long give (p ∷ ps) (x ∷ xs) same = ap suc (dealt_long give ps xs (omega (arith, same)))

-- the next block, if the others are read
block_again : (wanted : List Bool) (k n : ℕ) (zs : List ZoneValue) (pieces : List (List (List ℕ))) (b : Bool) → is_wanted wanted k ≡ b → length pieces ≡ length zs → AllByRecursion (Row (suc n)) pieces
    → ((ys : List ZoneValue) → length (others pieces) ≡ length ys → blocks_at wanted (suc k) (map block_of (blocks_of n (others pieces))) ys (concat (blocks_of n (others pieces))) ≡ Ok (more wanted (suc k) ys (others pieces)))
    → (added_at b (block_of (flat_map bytes_encoding (firsts pieces))) zs (flat_map bytes_encoding (firsts pieces)) >>= λ ys. blocks_at wanted (suc k) (map block_of (blocks_of n (others pieces))) ys (concat (blocks_of n (others pieces)))) ≡ Ok (more wanted k zs pieces)
unfolding added_at
block_again wanted k n zs pieces true is same h next =
    let column = firsts pieces in
    let digest = sha256 (flat_map bytes_encoding column) in
    let count : length column ≡ length zs = length-map pieces (λ ps. slice_index_or ps 0 []) ∙ same in
    let equal : bytes_eq digest digest ≡ true = (bytes_eq-Decides digest digest).1 refl in
    let rest : length (others pieces) ≡ length (dealt with_statistics column zs) = length-map pieces (λ ps. drop 1 ps) ∙ same ∙ sym (dealt_long with_statistics column zs count) in
    rw (equal, dealt_again with_statistics zs column count (first_fit n pieces h)) (next (dealt with_statistics column zs) rest) ∙ ap (λ (l : List ZoneValue). Ok l) (more_wanted wanted k n zs pieces is same h)
block_again wanted k n zs pieces false is same h next =
    let rest : length (others pieces) ≡ length (with_unread zs) = length-map pieces (λ ps. drop 1 ps) ∙ same ∙ sym (length-map zs (λ z. with_statistics z (bytes_encoding []))) in
    next (with_unread zs) rest ∙ ap (λ (l : List ZoneValue). Ok l) (more_unread wanted k n zs pieces is same h)

blocks_again : (wanted : List Bool) (k n : ℕ) (zs : List ZoneValue) (pieces : List (List (List ℕ))) → length pieces ≡ length zs → AllByRecursion (Row n) pieces
    → blocks_at wanted k (map block_of (blocks_of n pieces)) zs (concat (blocks_of n pieces)) ≡ Ok (more wanted k zs pieces)
unfolding blocks_at
blocks_again wanted k zero zs pieces same h = ap (λ (l : List ZoneValue). Ok l) (more_none wanted k zs pieces same h)
blocks_again wanted k (suc n) zs pieces same h =
    let block = flat_map bytes_encoding (firsts pieces) in
    let later = blocks_of n (others pieces) in
    rw (front_again (length block) block (concat later) refl) (block_again wanted k n zs pieces (is_wanted wanted k) refl same h (λ ys long. blocks_again wanted (suc k) n ys (others pieces) long (others_are n pieces h)))

-- ---- by the pieces of an index

rows_of : (n : ℕ) (zs : List ZoneValue) (pieces : List (List (List ℕ))) → HavePieces n zs pieces → (length pieces ≡ length (map without_statistics zs)) × AllByRecursion (Row n) pieces
rows_of n [] [] h = (refl, tt)
rows_of n [] (ps ∷ pieces) h = absurd h
rows_of n (z ∷ zs) [] h = absurd h
rows_of n (z ∷ zs) (ps ∷ pieces) h =
    let later = rows_of n zs pieces h.1 in
    (ap suc later.0, (record { count = h.0.count; fit = h.0.fit }, later.1))

more_bare : (wanted : List Bool) (zs : List ZoneValue) (pieces : List (List (List ℕ))) → more wanted 0 (map without_statistics zs) pieces ≡ wanted_zones wanted zs pieces
more_bare wanted [] pieces = refl
more_bare wanted (z ∷ zs) [] = refl
more_bare wanted (z ∷ zs) (ps ∷ pieces) = ap (λ (l : List ZoneValue). record z { statistics = flat_map bytes_encoding (wanted_pieces wanted 0 ps) } ∷ l) (more_bare wanted zs pieces)

pub wanted_again : (wanted : List Bool) (n : ℕ) (zs : List ZoneValue) (pieces : List (List (List ℕ))) → HavePieces n zs pieces
    → blocks_at wanted 0 (map block_of (blocks_of n pieces)) (map without_statistics zs) (concat (blocks_of n pieces)) ≡ Ok (wanted_zones wanted zs pieces)
wanted_again wanted n zs pieces have =
    let rows = rows_of n zs pieces have in
    blocks_again wanted 0 n (map without_statistics zs) pieces rows.0 rows.1 ∙ ap (λ (l : List ZoneValue). Ok l) (more_bare wanted zs pieces)

pub columns_long : (n : ℕ) (pieces : List (List (List ℕ))) → length (blocks_of n pieces) ≡ n
columns_long zero pieces = refl
columns_long (suc n) pieces = ap suc (columns_long n (map (λ ps. drop 1 ps) pieces))

-- ---- what a root and its blocks give

pub index_found : (wanted : List Bool) (root : RootValue) (bytes : List ℕ) (r : Result Index ReadError) → IsBytes bytes → Gives index_value r (index_at wanted root bytes) → IfOk r (λ index. AddBlocks wanted 0 root.blocks bytes root.index.zones (zone_values index.zones.items))
index_found wanted root bytes (Err e) fits given = tt
index_found wanted root bytes (Ok index) fits given =
    let made : List ZoneValue → IndexValue = λ (zones : List ZoneValue). record (root.index) { zones = zones } in
    let a = bind_ok (blocks_at wanted 0 root.blocks root.index.zones bytes) (λ zones. Ok (made zones)) (index_value index) given in
    let same : a.0 ≡ zone_values index.zones.items = ap (λ (x : IndexValue). x.zones) (ok_is (made a.0) (index_value index) a.2) in
    subst (λ (zs : List ZoneValue). AddBlocks wanted 0 root.blocks bytes root.index.zones zs) same (blocks_found wanted 0 root.blocks root.index.zones a.0 bytes fits a.1)

pub index_again : (wanted : List Bool) (n : ℕ) (x : IndexValue) (pieces : List (List (List ℕ))) (root : RootValue) (bytes : List ℕ) (r : Result Index ReadError) → HavePieces n x.zones pieces → root ≡ root_of x (blocks_of n pieces) → bytes ≡ concat (blocks_of n pieces)
    → Gives index_value r (index_at wanted root bytes) → Gives index_value r (Ok (wanted_of wanted x pieces))
index_again wanted n x pieces root bytes r have same all given =
    let blocks = blocks_of n pieces in
    let written : index_at wanted (root_of x blocks) (concat blocks) ≡ Ok (wanted_of wanted x pieces) = rw (wanted_again wanted n x.zones pieces have) refl in
    subst (λ (read : Result IndexValue EncodingError). Gives index_value r read) (ap₂ (λ (q : RootValue) (b : List ℕ). index_at wanted q b) same all ∙ written) given
