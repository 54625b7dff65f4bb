-- What is written part by part is written whole.
use Rattle.std.proofs.Common.{◌≡◌, ◌<◌, ◌+◌, ◌^◌, ℕ, zero, suc, List, [], ◌∷◌, ◌++◌, ap, ap₂, sym, refl, subst, ◌∙◌, length, map, take, drop, take_all, get_or, add-one, append_assoc, append-nil, ◌≤◌, arith, Ok, Err}
use Rattle.std.specs.Prelude.{slice_index_or}
use Rattle.std.proofs.lemmas.Grind.{flat_map-append, take_at_read}
use Rattle.std.proofs.lemmas.List.{length-map, map-append}
use Rattle.std.specs.List.{flat_map, concat, AllByRecursion}
use Rattle.std.specs.Int.{w32, w64, to_le_bytes}
use Rattle.sha2.specs.Sha256.{sha256}
use Rattle.zone_index.specs.declared.encoding.TheConstants.{MAGIC, VERSION}
use Rattle.zone_index.specs.Encoding.{AreDealt, ArePieces, FitsContent, FitsEncoding, HavePieces, IndexValue, ZoneValue, block_encoding, block_of, blocks_of, bytes_encoding, content_encoding, counted_encoding, dealt, file_encoding, index_encoding, root_encoding, root_of, without_statistics, zone_encoding}
use Rattle.zone_index.specs.EncodingReading.{dealt_at}
use Rattle.zone_index.specs.declared.encoding.EncodingError.{EncodingError}
use Rattle.zone_index.proofs.FieldLaws.{not_both}
use Rattle.zone_index.proofs.BlockLaws.{columns_long, dealt_again}

-- one item more of a list that is read from the left
pub taken_more : {A B : Type 0} (view : A → B) (xs : List A) (i : ℕ) (x : A) → i < length xs → x ≡ get_or xs i x → map view (take (i + 1) xs) ≡ map view (take i xs) ++ view x ∷ []
taken_more {A} view xs i x inside is = ap (map view) ((take_at_read xs i x inside).1 ∙ ap (λ (y : A). take i xs ++ y ∷ []) (sym is)) ∙ map-append view (take i xs) (x ∷ [])

pub all_taken : {A B : Type 0} (view : A → B) (xs : List A) (i : ℕ) → length xs ≤ i → map view (take i xs) ≡ map view xs
all_taken {A} view xs i ended = ap (map view) (take_all i xs ended)

-- an encoding more after those of some
pub encoding_more : {B : Type 0} (encoding : B → List ℕ) (old out new : List ℕ) (ys zs : List B) (y : B) → zs ≡ ys ++ y ∷ [] → out ≡ old ++ flat_map encoding ys → new ≡ out ++ encoding y → new ≡ old ++ flat_map encoding zs
encoding_more {B} encoding old out new ys zs y is before here =
    let f = flat_map encoding ys in
    let one = encoding y in
    let e : flat_map encoding zs ≡ f ++ one = ap (flat_map encoding) is ∙ flat_map-append encoding ys (y ∷ []) ∙ ap (λ (l : List ℕ). f ++ l) (append-nil one) in
    here ∙ ap (λ (x : List ℕ). x ++ one) before ∙ append_assoc old f one ∙ ap (λ (x : List ℕ). old ++ x) (sym e)

pub all_more : {B : Type 0} (P : B → Type 0) (ys zs : List B) (y : B) → zs ≡ ys ++ y ∷ [] → AllByRecursion P ys → P y → AllByRecursion P zs
all_more {B} P ys zs y is before here = subst (AllByRecursion P) (sym is) (joined ys before)
  where
    joined : (xs : List B) → AllByRecursion P xs → AllByRecursion P (xs ++ y ∷ [])
    joined [] h = (here, tt)
    joined (x ∷ xs) h = (h.0, joined xs h.1)

pub values_push : {A B : Type 0} (view : A → B) (xs new : List A) (x : A) → new ≡ xs ++ x ∷ [] → map view new ≡ map view xs ++ view x ∷ []
values_push view xs new x e = ap (map view) e ∙ map-append view xs (x ∷ [])

-- ---- blocks

-- the blocks of these zones, and their pieces
pub record AreBlocks (n : ℕ) (zones : List ZoneValue) (blocks : List (List ℕ)) : Type 0 where
  pub pieces : List (List (List ℕ))
  pub have : HavePieces n zones pieces
  pub are : blocks ≡ blocks_of n pieces

abbrev pub append : List ℕ → List ℕ → List ℕ
append b piece = b ++ piece

pub no_blocks : (n : ℕ) → [] ∷ blocks_of n [] ≡ blocks_of n [] ++ [] ∷ []
no_blocks zero = refl
no_blocks (suc n) = ap (λ (l : List (List ℕ)). [] ∷ l) (no_blocks n)

have_more : (n : ℕ) (zs : List ZoneValue) (pieces : List (List (List ℕ))) (z : ZoneValue) (ps : List (List ℕ)) → HavePieces n zs pieces → ArePieces n z.statistics ps → HavePieces n (zs ++ z ∷ []) (pieces ++ ps ∷ [])
have_more n [] [] z ps have one = (one, tt)
have_more n [] (qs ∷ pieces) z ps have one = absurd have
have_more n (y ∷ zs) [] z ps have one = absurd have
have_more n (y ∷ zs) (qs ∷ pieces) z ps have one = (have.0, have_more n zs pieces z ps have.1 one)

-- the blocks with the pieces of one zone more
blocks_more : (n : ℕ) (pieces : List (List (List ℕ))) (ps : List (List ℕ)) → length ps ≡ n → blocks_of n (pieces ++ ps ∷ []) ≡ dealt append ps (blocks_of n pieces)
blocks_more zero pieces [] same = refl
blocks_more zero pieces (p ∷ ps) same = absurd (omega (arith, same))
blocks_more (suc n) pieces [] same = absurd (omega (arith, same))
blocks_more (suc n) pieces (p ∷ ps) same =
    let first : List (List ℕ) → List ℕ = λ (qs : List (List ℕ)). slice_index_or qs 0 [] in
    let rest : List (List ℕ) → List (List ℕ) = λ (qs : List (List ℕ)). drop 1 qs in
    let here : flat_map bytes_encoding (map first (pieces ++ (p ∷ ps) ∷ [])) ≡ flat_map bytes_encoding (map first pieces) ++ bytes_encoding p =
    ap (flat_map bytes_encoding) (map-append first pieces ((p ∷ ps) ∷ [])) ∙ flat_map-append bytes_encoding (map first pieces) (p ∷ []) ∙ ap (λ (l : List ℕ). flat_map bytes_encoding (map first pieces) ++ l) (append-nil (bytes_encoding p)) in
    let later : blocks_of n (map rest (pieces ++ (p ∷ ps) ∷ [])) ≡ dealt append ps (blocks_of n (map rest pieces)) = ap (blocks_of n) (map-append rest pieces ((p ∷ ps) ∷ [])) ∙ blocks_more n (map rest pieces) ps (omega (arith, same)) in
    ap₂ (λ (b : List ℕ) (l : List (List ℕ)). b ∷ l) here later

pub none_yet : (n : ℕ) (blocks : List (List ℕ)) → blocks ≡ blocks_of n [] → AreBlocks n [] blocks
none_yet n blocks is = record { pieces = []; have = tt; are = is }

-- one zone more
pub blocks_with : (n : ℕ) (old new : List ZoneValue) (z : ZoneValue) (blocks dealt_to : List (List ℕ)) → new ≡ old ++ z ∷ [] → AreBlocks n old blocks → AreDealt append blocks z.statistics dealt_to → AreBlocks n new dealt_to
blocks_with n old new z blocks dealt_to more before one =
    let count : length one.pieces ≡ n = one.count ∙ ap length before.are ∙ columns_long n before.pieces in
    subst (λ (l : List ZoneValue). AreBlocks n l dealt_to) (sym more) (record {
      pieces = before.pieces ++ one.pieces ∷ [];
      have = have_more n old before.pieces z one.pieces before.have (record { is = one.is; count = count; fit = one.fit });
      are = one.given ∙ ap (dealt append one.pieces) before.are ∙ sym (blocks_more n before.pieces one.pieces count);
    })

have_at : (n : ℕ) (zs : List ZoneValue) (pieces : List (List (List ℕ))) (i : ℕ) (d : ZoneValue) → HavePieces n zs pieces → i < length zs → (ps : List (List ℕ)) × ArePieces n (get_or zs i d).statistics ps
have_at n [] [] i d have inside = absurd (omega (arith, inside))
have_at n [] (qs ∷ pieces) i d have inside = absurd have
have_at n (y ∷ zs) [] i d have inside = absurd have
have_at n (y ∷ zs) (qs ∷ pieces) zero d have inside = (qs, have.0)
have_at n (y ∷ zs) (qs ∷ pieces) (suc i) d have inside = have_at n zs pieces i d have.1 (omega (arith, inside))

get_map : {A B : Type 0} (view : A → B) (xs : List A) (i : ℕ) (d : A) → i < length xs → get_or (map view xs) i (view d) ≡ view (get_or xs i d)
get_map view [] i d inside = absurd (omega arith)
get_map view (x ∷ xs) zero d inside = refl
get_map view (x ∷ xs) (suc i) d inside = get_map view xs i d (omega arith)

-- where each zone has pieces, this one has
pub zone_pieces : {A : Type 0} (view : A → ZoneValue) (n : ℕ) (zones : List A) (i : ℕ) (z : A) → i < length zones → z ≡ get_or zones i z → (pieces : List (List (List ℕ))) → HavePieces n (map view zones) pieces → (ps : List (List ℕ)) × ArePieces n (view z).statistics ps
zone_pieces {A} view n zones i z inside is pieces have =
    let one = have_at n (map view zones) pieces i (view z) have (omega (arith, length-map zones view)) in
    let here : get_or (map view zones) i (view z) ≡ view z = get_map view zones i z inside ∙ ap view (sym is) in
    (one.0, subst (λ (y : ZoneValue). ArePieces n y.statistics one.0) here one.1)

-- the pieces of one zone more
pub pieces_with : (n : ℕ) (old new : List ZoneValue) (z : ZoneValue) → new ≡ old ++ z ∷ [] → (pieces : List (List (List ℕ))) × HavePieces n old pieces → (ps : List (List ℕ)) × ArePieces n z.statistics ps → (pieces : List (List (List ℕ))) × HavePieces n new pieces
pieces_with n old new z more before one =
    subst (λ (zs : List ZoneValue). (pieces : List (List (List ℕ))) × HavePieces n zs pieces) (sym more) (before.0 ++ one.0 ∷ [], have_more n old before.0 z one.0 before.1 one.1)

-- the statistics of a zone are no such pieces
pub no_pieces : {A : Type 0} (view : A → ZoneValue) (n : ℕ) (old : List ZoneValue) (zones : List A) (i : ℕ) (z : A) (blocks : List (List ℕ)) (f : EncodingError) → AreBlocks n old blocks → i < length zones → z ≡ get_or zones i z → dealt_at append blocks (view z).statistics ≡ Err f
    → (pieces : List (List (List ℕ))) → ¬ (HavePieces n (map view zones) pieces)
no_pieces {A} view n old zones i z blocks f before inside is fails pieces have =
    let one = zone_pieces view n zones i z inside is pieces have in
    let are : ArePieces n (view z).statistics one.0 = one.1 in
    let count : length one.0 ≡ length blocks = are.count ∙ sym (ap length before.are ∙ columns_long n before.pieces) in
    let read : dealt_at append blocks (view z).statistics ≡ Ok (dealt append one.0 blocks) = ap (dealt_at append blocks) are.is ∙ dealt_again append blocks one.0 count are.fit in
    absurd (not_both (dealt_at append blocks (view z).statistics) f (dealt append one.0 blocks) fails read)

pub told_more : (old new : List (List ℕ)) (b : List ℕ) → new ≡ old ++ b ∷ [] → map block_of new ≡ map block_of old ++ block_of b ∷ []
told_more old new b is = ap (map block_of) is ∙ map-append block_of old (b ∷ [])

pub joined_more : (old out new : List ℕ) (bs cs : List (List ℕ)) (b : List ℕ) → cs ≡ bs ++ b ∷ [] → out ≡ old ++ concat bs → new ≡ out ++ b → new ≡ old ++ concat cs
joined_more old out new bs cs b is before here =
    here ∙ ap (λ (x : List ℕ). x ++ b) before ∙ append_assoc old (concat bs) b ∙ ap (λ (x : List ℕ). old ++ x) (sym (ap concat is ∙ joined bs))
  where
    joined : (xs : List (List ℕ)) → concat (xs ++ b ∷ []) ≡ concat xs ++ b
    joined [] = append-nil b
    joined (x ∷ xs) = ap (λ (l : List ℕ). x ++ l) (joined xs) ∙ sym (append_assoc x (concat xs) b)

pub empties_more : (n : ℕ) (old new : List (List ℕ)) (b : List ℕ) → new ≡ old ++ b ∷ [] → b ≡ [] → old ≡ blocks_of n [] → new ≡ blocks_of (n + 1) []
empties_more n old new b more none before =
    let all : new ≡ blocks_of (suc n) [] = more ∙ ap₂ (λ (l : List (List ℕ)) (y : List ℕ). l ++ y ∷ []) before none ∙ sym (no_blocks n) in
    rw add-one all

-- ---- all

same_encodings : (zs : List ZoneValue) → flat_map zone_encoding (map without_statistics zs) ≡ flat_map zone_encoding zs
same_encodings [] = refl
same_encodings (z ∷ zs) = ap (λ (l : List ℕ). zone_encoding z ++ l) (same_encodings zs)

pub content_whole : (x : IndexValue) (blocks : List (List ℕ)) (n m : ℕ) (o o1 o2 o3 : List ℕ) → n ≡ length x.zones → m ≡ length blocks → o ≡ [] → o1 ≡ o ++ file_encoding x → o2 ≡ o1 ++ (to_le_bytes w64 n ++ flat_map zone_encoding x.zones) → o3 ≡ o2 ++ (to_le_bytes w64 m ++ flat_map block_encoding (map block_of blocks))
    → o3 ≡ content_encoding (root_of x blocks)
content_whole x blocks n m o o1 o2 o3 n-is m-is none p1 p2 p3 =
    let bare = map without_statistics x.zones in
    let zs : to_le_bytes w64 n ++ flat_map zone_encoding x.zones ≡ counted_encoding zone_encoding bare = ap₂ (λ (k : ℕ) (l : List ℕ). to_le_bytes w64 k ++ l) (n-is ∙ sym (length-map x.zones without_statistics)) (sym (same_encodings x.zones)) in
    let bs : to_le_bytes w64 m ++ flat_map block_encoding (map block_of blocks) ≡ counted_encoding block_encoding (map block_of blocks) = ap (λ (k : ℕ). to_le_bytes w64 k ++ flat_map block_encoding (map block_of blocks)) (m-is ∙ sym (length-map blocks block_of)) in
    joined (file_encoding x) (counted_encoding zone_encoding bare) (counted_encoding block_encoding (map block_of blocks)) (p1 ∙ ap (λ (l : List ℕ). l ++ file_encoding x) none) (p2 ∙ ap (λ (l : List ℕ). o1 ++ l) zs) (p3 ∙ ap (λ (l : List ℕ). o2 ++ l) bs)
  where
    joined : (f z b : List ℕ) → o1 ≡ f → o2 ≡ o1 ++ z → o3 ≡ o2 ++ b → o3 ≡ f ++ (z ++ b)
    joined f z b q1 q2 q3 = q3 ∙ ap (λ (l : List ℕ). l ++ b) (q2 ∙ ap (λ (l : List ℕ). l ++ z) q1) ∙ append_assoc f z b

pub written : (n : ℕ) (x : IndexValue) (bs : List (List ℕ)) (c : List ℕ) (o o1 o2 o3 o4 : List ℕ) → (pieces : List (List (List ℕ))) × HavePieces n x.zones pieces × (bs ≡ blocks_of n pieces) → FitsContent x bs → c ≡ content_encoding (root_of x bs) → length c < 2 ^ 64
    → o ≡ [] → o1 ≡ o ++ to_le_bytes w32 MAGIC → o2 ≡ o1 ++ to_le_bytes w32 VERSION → o3 ≡ o2 ++ (bytes_encoding c ++ sha256 c) → o4 ≡ o3 ++ concat bs → (pieces : List (List (List ℕ))) × FitsEncoding n x pieces × (o4 ≡ index_encoding n x pieces)
written n x bs c o o1 o2 o3 o4 made fits c-is long none p1 p2 p3 p4 =
    let body = bytes_encoding c ++ sha256 c in
    let m = to_le_bytes w32 MAGIC in
    let v = to_le_bytes w32 VERSION in
    let whole : o4 ≡ (m ++ (v ++ body)) ++ concat bs = p4 ∙ ap (λ (l : List ℕ). l ++ concat bs) (three_parts o m v body o1 o2 o3 none p1 p2 p3) in
    let formed : o4 ≡ root_encoding (root_of x bs) ++ concat bs = whole ∙ ap (λ (y : List ℕ). (m ++ (v ++ (bytes_encoding y ++ sha256 y))) ++ concat bs) c-is in (
      made.0,
      record {
        have = made.1;
        parts = subst (λ (l : List (List ℕ)). FitsContent x l) made.2 fits;
        content = subst (λ (l : List (List ℕ)). length (content_encoding (root_of x l)) < 2 ^ 64) made.2 (subst (λ (y : List ℕ). length y < 2 ^ 64) c-is long);
      },
      formed ∙ ap (λ (l : List (List ℕ)). root_encoding (root_of x l) ++ concat l) made.2,
    )
  where
    three_parts : (o a b c o1 o2 o3 : List ℕ) → o ≡ [] → o1 ≡ o ++ a → o2 ≡ o1 ++ b → o3 ≡ o2 ++ c → o3 ≡ a ++ (b ++ c)
    three_parts o a b c o1 o2 o3 none p1 p2 p3 = p3 ∙ ap (λ (x : List ℕ). x ++ c) (p2 ∙ ap (λ (x : List ℕ). x ++ b) (p1 ∙ ap (λ (x : List ℕ). x ++ a) none)) ∙ append_assoc a b c
