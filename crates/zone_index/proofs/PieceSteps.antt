-- Bytes are read as so many pieces, one after another.
use Rattle.std.proofs.Common.{◌≡◌, ◌≢◌, ◌≤◌, ◌<◌, ◌+◌, ◌-◌, ◌==◌, ℕ, suc, Bool, true, false, List, [], ◌∷◌, ◌++◌, Result, Ok, Err, refl, sym, ap, ◌∙◌, arith, length}
use Rattle.zone_index.specs.declared.encoding.EncodingError.{EncodingError}
use Rattle.zone_index.specs.declared.encoding.ReadError.{ReadError}
use Rattle.zone_index.specs.declared.encoding.ReadError.TheVariants as errors
use Rattle.zone_index.specs.Encoding.{ArePieces, blocks_of, dealt}
use Rattle.zone_index.specs.EncodingReading.{◌>>=◌, Fails, dealt_at, piece_at}
use Rattle.zone_index.proofs.BlockLaws.{columns_long, dealt_again, dealt_takes}
use Rattle.zone_index.proofs.FieldLaws.{IsBytes}
use Rattle.zone_index.proofs.WriteSteps.{append}

-- what reading a piece tells, which asks for no memory
pub fault_of : (e : ReadError) (rest : List ℕ) → e ≢ errors.Memory → Fails e (piece_at rest) → (f : EncodingError) × (piece_at rest ≡ Err f)
fault_of errors.Memory rest other h = absurd (other refl)
fault_of (errors.Fault f) rest other h = (f, h)

abbrev is_read : Result (List (List ℕ)) EncodingError → Bool
is_read (Ok ys) = true
is_read (Err f) = false

-- whether the bytes are so many pieces
abbrev pub reads : ℕ → List ℕ → Bool
reads n bytes = is_read (dealt_at append (blocks_of n []) bytes)

same_after : (x : List ℕ) (r : Result (List (List ℕ)) EncodingError) → is_read (r >>= λ ys. Ok (x ∷ ys)) ≡ is_read r
same_after x (Ok ys) = refl
same_after x (Err f) = refl

reads_one : (n : ℕ) (rest piece after : List ℕ) → piece_at rest ≡ Ok (piece, after) → reads (suc n) rest ≡ reads n after
unfolding dealt_at
reads_one n rest piece after e = rw e (same_after piece (dealt_at append (blocks_of n []) after))

reads_none : (n : ℕ) (rest : List ℕ) (f : EncodingError) → piece_at rest ≡ Err f → reads (suc n) rest ≡ false
unfolding dealt_at
reads_none n rest f e = rw e refl

reads_end : (rest : List ℕ) (b : Bool) → b ≡ (length rest == 0) → reads 0 rest ≡ b
unfolding dealt_at
reads_end rest true e = rw (← e) refl
reads_end rest false e = rw (← e) refl

-- a piece more
pub reads_more : (count i : ℕ) (bytes rest piece after : List ℕ) → i < count → piece_at rest ≡ Ok (piece, after) → reads (count - i) rest ≡ reads count bytes → reads (count - (i + 1)) after ≡ reads count bytes
reads_more count i bytes rest piece after inside e so_far =
    let k : count - i ≡ suc (count - (i + 1)) = omega arith in
    sym (reads_one (count - (i + 1)) rest piece after e) ∙ ap (λ (n : ℕ). reads n rest) (sym k) ∙ so_far

-- a piece that cannot be read
pub reads_fails : (count i : ℕ) (bytes rest : List ℕ) (f : EncodingError) → i < count → piece_at rest ≡ Err f → reads (count - i) rest ≡ reads count bytes → reads count bytes ≡ false
reads_fails count i bytes rest f inside e so_far =
    let k : count - i ≡ suc (count - (i + 1)) = omega arith in
    sym so_far ∙ ap (λ (n : ℕ). reads n rest) k ∙ reads_none (count - (i + 1)) rest f e

-- nothing may be left behind the last one
pub reads_last : (count i : ℕ) (bytes rest : List ℕ) (b : Bool) → count ≤ i → b ≡ (length rest == 0) → reads (count - i) rest ≡ reads count bytes → reads count bytes ≡ b
reads_last count i bytes rest b past is so_far =
    let k : count - i ≡ 0 = omega arith in
    sym so_far ∙ ap (λ (n : ℕ). reads n rest) k ∙ reads_end rest b is

by_result : (n : ℕ) (bytes : List ℕ) (r : Result (List (List ℕ)) EncodingError) → IsBytes bytes → dealt_at append (blocks_of n []) bytes ≡ r → is_read r ≡ true → (pieces : List (List ℕ)) × ArePieces n bytes pieces
by_result n bytes (Err f) fits is read = absurd cc
by_result n bytes (Ok ys) fits is read =
    let d = dealt_takes append (blocks_of n []) bytes ys fits is in
    (d.pieces, record { is = d.is; count = d.count ∙ columns_long n []; fit = d.fit })

pub are_read : (n : ℕ) (bytes : List ℕ) → IsBytes bytes → reads n bytes ≡ true → (pieces : List (List ℕ)) × ArePieces n bytes pieces
are_read n bytes fits read = by_result n bytes (dealt_at append (blocks_of n []) bytes) fits refl read

pub none_read : (n : ℕ) (bytes : List ℕ) → reads n bytes ≡ false → (pieces : List (List ℕ)) → ¬ (ArePieces n bytes pieces)
none_read n bytes read pieces are =
    let count : length pieces ≡ length (blocks_of n []) = are.count ∙ sym (columns_long n []) in
    let all : dealt_at append (blocks_of n []) bytes ≡ Ok (dealt append pieces (blocks_of n [])) = ap (dealt_at append (blocks_of n [])) are.is ∙ dealt_again append (blocks_of n []) pieces count are.fit in
    let yes : reads n bytes ≡ true = ap is_read all in
    cc
