-- The first bytes of a root.
use Rattle.std.proofs.Common.{◌≡◌, ◌≢◌, ◌<◌, ◌≤◌, ◌+◌, ◌-◌, ◌^◌, min, ℕ, List, [], ◌∷◌, ◌++◌, Bool, true, false, eqb, ltb, Ok, Err, refl, sym, ap, ◌∙◌, subst, length, take, drop, arith}
use Rattle.std.specs.Int.{from_le_bytes, to_le_bytes, w32, w64}
use Rattle.std.proofs.lemmas.Bool.{eq-eqb, le-ltb, ne_eqb}
use Rattle.std.proofs.lemmas.List.{drop-append-le, length-append, length-drop, take-append-le}
use Rattle.std.proofs.lemmas.Nat.{from_le_bytes-to_le_bytes_8}
use Rattle.sha2.proofs.Facts256.{length-sha256}
use Rattle.sha2.specs.Sha256.{sha256}
use Rattle.zone_index.specs.Encoding.{RootValue, bytes_encoding, content_encoding, root_encoding}
use Rattle.zone_index.specs.EncodingReading.{known_at, root_at}
use Rattle.zone_index.specs.declared.encoding.EncodingError.{EncodingError}
use Rattle.zone_index.specs.declared.encoding.EncodingError.TheVariants.{Magic, Version}
use Rattle.zone_index.specs.declared.encoding.TheConstants.{MAGIC, VERSION}

-- what a root has, by its content and its digest
abbrev encoded : List ℕ → List ℕ → List ℕ
encoded content digest = to_le_bytes w32 MAGIC ++ (to_le_bytes w32 VERSION ++ (bytes_encoding content ++ digest))

encoded_says : (content digest rest : List ℕ) → length content < 2 ^ 64 → from_le_bytes w64 (take 8 (drop 8 (encoded content digest ++ rest))) ≡ length content
encoded_says content digest rest few = from_le_bytes-to_le_bytes_8 (length content) few

encoded_long : (content digest : List ℕ) → length digest ≡ 32 → length (encoded content digest) ≡ length content + 48
encoded_long content digest long = omega (arith, long, length-append content digest)

encoded_told : (head more rest content digest : List ℕ) (n : ℕ) → 16 ≤ length head → length content < 2 ^ 64 → length digest ≡ 32 → head ++ more ≡ encoded content digest ++ rest → n ≡ from_le_bytes w64 (take 8 (drop 8 head)) → min (n + 48) (2 ^ 64 - 1) ≡ min (length (encoded content digest)) (2 ^ 64 - 1)
encoded_told head more rest content digest n enough few long same is =
    let here : from_le_bytes w64 (take 8 (drop 8 head)) ≡ from_le_bytes w64 (take 8 (drop 8 (head ++ more))) =
    ap (from_le_bytes w64) (sym (ap (take 8) (drop-append-le 8 head more (omega arith)) ∙ take-append-le 8 (drop 8 head) more (omega (arith, length-drop 8 head)))) in
    let told : n ≡ length content = is ∙ here ∙ ap (λ (l : List ℕ). from_le_bytes w64 (take 8 (drop 8 l))) same ∙ encoded_says content digest rest few in
    ap (λ (m : ℕ). min (m + 48) (2 ^ 64 - 1)) told ∙ ap (λ (m : ℕ). min m (2 ^ 64 - 1)) (sym (encoded_long content digest long))

pub root_long : (head more rest : List ℕ) (r : RootValue) (n : ℕ) → 16 ≤ length head → length (content_encoding r) < 2 ^ 64 → head ++ more ≡ root_encoding r ++ rest → n ≡ from_le_bytes w64 (take 8 (drop 8 head)) → min (n + 48) (2 ^ 64 - 1) ≡ min (length (root_encoding r)) (2 ^ 64 - 1)
root_long head more rest r n enough few same is = encoded_told head more rest (content_encoding r) (sha256 (content_encoding r)) n enough few (length-sha256 (content_encoding r)) same is

known_other : (fault : EncodingError) (n : ℕ) (head more : List ℕ) → 4 ≤ length head → from_le_bytes w32 (take 4 head) ≢ n → known_at fault n (head ++ more) ≡ Err fault
known_other fault n head more enough other =
    let long : ltb (length (head ++ more)) 4 ≡ false = le-ltb _ _ (omega (arith, length-append head more)) in
    let differs : eqb (from_le_bytes w32 (take 4 head)) n ≡ false = ne_eqb _ _ other in
    rw (long, take-append-le 4 head more enough, differs) refl

known_same : (fault : EncodingError) (n : ℕ) (head more : List ℕ) → 4 ≤ length head → from_le_bytes w32 (take 4 head) ≡ n → known_at fault n (head ++ more) ≡ Ok (drop 4 head ++ more)
known_same fault n head more enough is =
    let long : ltb (length (head ++ more)) 4 ≡ false = le-ltb _ _ (omega (arith, length-append head more)) in
    let same : eqb (from_le_bytes w32 (take 4 head)) n ≡ true = eq-eqb _ _ is in
    rw (long, take-append-le 4 head more enough, same) (ap Ok (drop-append-le 4 head more enough))

pub other_magic : (head more : List ℕ) → 16 ≤ length head → from_le_bytes w32 (take 4 head) ≢ MAGIC → root_at (head ++ more) ≡ Err Magic
unfolding root_at
other_magic head more enough other = rw (known_other Magic MAGIC head more (omega arith) other) refl

pub other_version : (head more : List ℕ) → 16 ≤ length head → from_le_bytes w32 (take 4 head) ≡ MAGIC → from_le_bytes w32 (take 4 (drop 4 head)) ≢ VERSION → root_at (head ++ more) ≡ Err Version
unfolding root_at
other_version head more enough magic other =
    rw (known_same Magic MAGIC head more (omega arith) magic, known_other Version VERSION (drop 4 head) more (omega (arith, length-drop 4 head)) other) refl
