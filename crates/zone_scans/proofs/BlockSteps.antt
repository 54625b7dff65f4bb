-- The blocks that are wanted.
use Rattle.std.proofs.Common.{◌≡◌, ◌≢◌, ◌<◌, ◌≤◌, ◌+◌, ◌-◌, ℕ, zero, suc, List, [], ◌∷◌, ◌++◌, Bool, true, false, ltb, Result, Ok, Err, refl, sym, ap, ap₂, ◌∙◌, subst, length, take, drop, get_or, map, arith, append_assoc, append-nil, drop-cons, drop-drop, add-one}
use Rattle.std.proofs.lemmas.Bool.{le-ltb}
use Rattle.std.proofs.lemmas.List.{drop_all, drop_at, length-append, length-drop, length-take, map-append, take_at}
use Rattle.std.proofs.lemmas.List.Sums.{sum_by-cons}
use Rattle.std.specs.Prelude.{if◌then◌else◌}
use Rattle.zone_index.specs.Encoding.{BlockValue, RootValue, ZoneValue, block_value, is_wanted, with_unread}
use Rattle.zone_index.specs.EncodingReading.{◌>>=◌, added_at, blocks_at, front_at, index_at}
use Rattle.zone_index.specs.declared.encoding.Block.{Block}
use Rattle.zone_index.specs.declared.encoding.EncodingError.{EncodingError}
use Rattle.zone_scans.specs.Ranges.{bytes_of, range_bytes}
use Rattle.zone_scans.specs.Wanted.{length_of_blocks, wanted_blocks, wanted_bytes, wanted_root}
use Rattle.zone_scans.specs.declared.ranges.ByteRange.{ByteRange}

-- ---- where they stand

-- what is covered so far, and what follows
abbrev pub AreCoveredSoFar : List Bool → List Block → ℕ → ℕ → ℕ → List ByteRange → Type 0
AreCoveredSoFar wanted blocks start place k ranges = (bytes : List ℕ) → bytes_of bytes ranges ++ wanted_bytes wanted k (map block_value (drop k blocks)) (drop place bytes) ≡ wanted_bytes wanted 0 (map block_value blocks) (drop start bytes)

rest_is : (blocks : List Block) (k : ℕ) (b : Block) → k < length blocks → b ≡ get_or blocks k b → map block_value (drop k blocks) ≡ block_value b ∷ map block_value (drop (suc k) blocks)
rest_is blocks k b inside is = ap (map block_value) (drop-cons blocks k b inside ∙ ap (λ (y : Block). y ∷ drop (suc k) blocks) (sym is))

pub covered_more : (wanted : List Bool) (blocks : List Block) (start place end k : ℕ) (old new : List ByteRange) (b : Block) (t : Bool) → k < length blocks → b ≡ get_or blocks k b → t ≡ is_wanted wanted k → end ≡ place + b.length
    → ((bytes : List ℕ) → bytes_of bytes new ≡ bytes_of bytes old ++ (if t then take b.length (drop place bytes) else [])) → AreCoveredSoFar wanted blocks start place k old → AreCoveredSoFar wanted blocks start end (k + 1) new
covered_more wanted blocks start place end k old new b t inside is by end_is here before bytes =
    let others = map block_value (drop (suc k) blocks) in
    let own : List ℕ = if t then take b.length (drop place bytes) else [] in
    let one : (if is_wanted wanted k then take b.length (drop place bytes) else []) ≡ own = ap (λ (w : Bool). if w then take b.length (drop place bytes) else []) (sym by) in
    let behind : drop b.length (drop place bytes) ≡ drop end bytes = drop-drop b.length place bytes ∙ ap (λ (n : ℕ). drop n bytes) (sym end_is) in
    let all : wanted_bytes wanted k (map block_value (drop k blocks)) (drop place bytes) ≡ own ++ wanted_bytes wanted (suc k) others (drop end bytes) =
    ap (λ (l : List BlockValue). wanted_bytes wanted k l (drop place bytes)) (rest_is blocks k b inside is) ∙ ap₂ (λ (x : List ℕ) (y : List ℕ). x ++ wanted_bytes wanted (suc k) others y) one behind in
    rw add-one (ap (λ (l : List ℕ). l ++ wanted_bytes wanted (suc k) others (drop end bytes)) (here bytes) ∙ append_assoc (bytes_of bytes old) own (wanted_bytes wanted (suc k) others (drop end bytes)) ∙ ap (λ (l : List ℕ). bytes_of bytes old ++ l) (sym all) ∙ before bytes)

pub covered_all : (wanted : List Bool) (blocks : List Block) (start place k : ℕ) (ranges : List ByteRange) → length blocks ≤ k → AreCoveredSoFar wanted blocks start place k ranges → (bytes : List ℕ) → bytes_of bytes ranges ≡ wanted_bytes wanted 0 (map block_value blocks) (drop start bytes)
covered_all wanted blocks start place k ranges ended before bytes =
    sym (append-nil (bytes_of bytes ranges)) ∙ ap (λ (l : List Block). bytes_of bytes ranges ++ wanted_bytes wanted k (map block_value l) (drop place bytes)) (sym (drop_all k blocks ended)) ∙ before bytes

-- how far they go
abbrev pub IsPlacedAt : List Block → ℕ → ℕ → ℕ → Type 0
IsPlacedAt blocks start place k = place + length_of_blocks (map block_value (drop k blocks)) ≡ start + length_of_blocks (map block_value blocks)

lengths_more : (blocks : List Block) (k : ℕ) (b : Block) → k < length blocks → b ≡ get_or blocks k b → length_of_blocks (map block_value (drop k blocks)) ≡ b.length + length_of_blocks (map block_value (drop (suc k) blocks))
lengths_more blocks k b inside is = ap length_of_blocks (rest_is blocks k b inside is) ∙ sum_by-cons (λ (y : BlockValue). y.length) (block_value b) (map block_value (drop (suc k) blocks))

pub placed_more : (blocks : List Block) (start place end k : ℕ) (b : Block) → k < length blocks → b ≡ get_or blocks k b → end ≡ place + b.length → IsPlacedAt blocks start place k → IsPlacedAt blocks start end (k + 1)
placed_more blocks start place end k b inside is end_is before = rw add-one (omega (arith, end_is, before, lengths_more blocks k b inside is))

pub placed_far : (blocks : List Block) (start place k limit : ℕ) (b : Block) → k < length blocks → b ≡ get_or blocks k b → limit ≤ place + b.length → IsPlacedAt blocks start place k → limit ≤ start + length_of_blocks (map block_value blocks)
placed_far blocks start place k limit b inside is far before = omega (arith, far, before, lengths_more blocks k b inside is)

-- ---- those that are left out

-- the blocks so far, and those that follow
abbrev pub AreLeftOutSoFar : List Bool → List Block → List Block → ℕ → Type 0
AreLeftOutSoFar wanted initial blocks k = map block_value (take k blocks) ++ wanted_blocks wanted k (map block_value (drop k blocks)) ≡ wanted_blocks wanted 0 (map block_value initial)

-- ---- reading them

front_whole : (n : ℕ) (bytes : List ℕ) → n ≤ length bytes → front_at n bytes ≡ Ok (take n bytes, drop n bytes)
front_whole n bytes enough =
    let long : ltb (length bytes) n ≡ false = le-ltb (length bytes) n enough in
    rw long refl

front_of : (n : ℕ) (x rest : List ℕ) → length x ≡ n → front_at n (x ++ rest) ≡ Ok (x, rest)
front_of n x rest is =
    let long : ltb (length (x ++ rest)) n ≡ false = le-ltb _ _ (omega (arith, length-append x rest)) in
    rw (long, take_at x rest n is, drop_at x rest n is) refl

-- a block, and those that follow
abbrev after_block : List Bool → ℕ → List BlockValue → Result (List ZoneValue) EncodingError → List ℕ → Result (List ZoneValue) EncodingError
after_block wanted k blocks added rest = added >>= λ more. blocks_at wanted (suc k) blocks more rest

same_after : (wanted : List Bool) (k : ℕ) (xs ys : List BlockValue) (added : Result (List ZoneValue) EncodingError) (rest all : List ℕ) → ((zones : List ZoneValue) → blocks_at wanted (suc k) xs zones rest ≡ blocks_at wanted (suc k) ys zones all)
    → after_block wanted k xs added rest ≡ after_block wanted k ys added all
same_after wanted k xs ys (Ok more) rest all h = h more
same_after wanted k xs ys (Err f) rest all h = refl

-- one block, wanted or not
block_alone : (wanted : List Bool) (k : ℕ) (b : BlockValue) (blocks : List BlockValue) (zones : List ZoneValue) (all : List ℕ) (t : Bool) → is_wanted wanted k ≡ t → b.length ≤ length all
    → ((others : List ZoneValue) → blocks_at wanted (suc k) (wanted_blocks wanted (suc k) blocks) others (wanted_bytes wanted (suc k) blocks (drop b.length all)) ≡ blocks_at wanted (suc k) blocks others (drop b.length all))
    → blocks_at wanted k (wanted_blocks wanted k (b ∷ blocks)) zones (wanted_bytes wanted k (b ∷ blocks) all) ≡ blocks_at wanted k (b ∷ blocks) zones all
unfolding blocks_at added_at
block_alone wanted k b blocks zones all true is enough later =
    let own : front_at b.length (take b.length all ++ wanted_bytes wanted (suc k) blocks (drop b.length all)) ≡ Ok (take b.length all, wanted_bytes wanted (suc k) blocks (drop b.length all)) =
    front_of b.length (take b.length all) (wanted_bytes wanted (suc k) blocks (drop b.length all)) (omega (arith, length-take b.length all, enough)) in
    rw (is, own, front_whole b.length all enough)
    (same_after wanted k (wanted_blocks wanted (suc k) blocks) blocks (added_at true b zones (take b.length all)) (wanted_bytes wanted (suc k) blocks (drop b.length all)) (drop b.length all) later)
block_alone wanted k b blocks zones all false is enough later =
    let own : front_at 0 (wanted_bytes wanted (suc k) blocks (drop b.length all)) ≡ Ok ([], wanted_bytes wanted (suc k) blocks (drop b.length all)) =
    front_of 0 [] (wanted_bytes wanted (suc k) blocks (drop b.length all)) refl in
    rw (is, own, front_whole b.length all enough) (later (with_unread zones))

-- the blocks that are wanted, read alone, give what all give
blocks_alone : (wanted : List Bool) (k : ℕ) (blocks : List BlockValue) (zones : List ZoneValue) (all : List ℕ) → length all ≡ length_of_blocks blocks → blocks_at wanted k (wanted_blocks wanted k blocks) zones (wanted_bytes wanted k blocks all) ≡ blocks_at wanted k blocks zones all
unfolding blocks_at
blocks_alone wanted k [] zones all long = rw long refl
blocks_alone wanted k (b ∷ blocks) zones all long =
    let sum : length_of_blocks (b ∷ blocks) ≡ b.length + length_of_blocks blocks = sum_by-cons (λ (y : BlockValue). y.length) b blocks in
    let behind : length (drop b.length all) ≡ length_of_blocks blocks = omega (arith, long, sum, length-drop b.length all) in
    block_alone wanted k b blocks zones all (is_wanted wanted k) refl (omega (arith, long, sum)) (λ others. blocks_alone wanted (suc k) blocks others (drop b.length all) behind)

pub read_alone : (wanted : List Bool) (r : RootValue) (all : List ℕ) → length all ≡ length_of_blocks r.blocks → index_at wanted (wanted_root wanted r) (wanted_bytes wanted 0 r.blocks all) ≡ index_at wanted r all
read_alone wanted r all long = ap (λ (read : Result (List ZoneValue) EncodingError). read >>= λ zones. Ok (record (r.index) { zones = zones })) (blocks_alone wanted 0 r.blocks r.index.zones all long)
