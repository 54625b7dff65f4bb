-- A field that is read is the field that was written, and what was written is read again.
use Rattle.std.proofs.Common.{◌≡◌, ℕ, suc, ◌+◌, ◌^◌, ◌<◌, ◌≤◌, Bool, true, false, cond, eqb, ltb, List, ◌∷◌, ◌++◌, length, get_or, take, drop, Result, Ok, Err, refl, sym, ap, subst, ◌∙◌, append_assoc, arith, inl, inr}
use Rattle.std.specs.Int.{Width, w32, w64, byte_len, from_le_bytes, to_le_bytes}
use Rattle.std.specs.Str.{bytes_eq}
use Rattle.std.proofs.lemmas.Slice.Eq.{bytes_eq-Decides}
use Rattle.std.proofs.lemmas.Bool.{eq-eqb, eqb-true, cases_lt, ltb-false, le-ltb}
use Rattle.std.proofs.lemmas.List.{take_at, drop_at, take-append-drop, length-append, length-take, length-take-le, get_or-drop, get_or-take, get_or_past}
use Rattle.std.proofs.lemmas.Nat.{le_bytes_4, le_bytes_8, from_le_bytes-to_le_bytes_4, from_le_bytes-to_le_bytes_8}
use Rattle.zone_index.specs.declared.encoding.EncodingError.{EncodingError}
use Rattle.zone_index.specs.declared.encoding.EncodingError.TheVariants.{Damaged, Short}
use Rattle.sha2.specs.Sha256.{sha256}
use Rattle.sha2.proofs.Facts256.{length-sha256}
use Rattle.zone_index.specs.Encoding.{bytes_encoding}
use Rattle.zone_index.specs.EncodingReading.{◌>>=◌, bytes_at, front_at, known_at, number_at, piece_at, signed_at}

abbrev pub IsBytes : List ℕ → Type 0
IsBytes bytes = (i : ℕ) → get_or bytes i 0 < 256

IsBytes-drop : (n : ℕ) (bytes : List ℕ) → IsBytes bytes → IsBytes (drop n bytes)
IsBytes-drop n bytes h i = rw get_or-drop (h (n + i))

IsBytes-take : (n : ℕ) (bytes : List ℕ) → IsBytes bytes → IsBytes (take n bytes)
IsBytes-take n bytes h i =
    elim (cases_lt i n) [
      | inl lt ↦ rw (get_or-take n bytes i 0 lt) (h i)
      | inr le ↦ rw (get_or_past (take n bytes) i 0 (omega (arith, length-take n bytes))) (omega arith)
    ]

-- the value of a step that did not fail
pub bind_ok : {A B : Type 0} (r : Result A EncodingError) (f : A → Result B EncodingError) (y : B) → (r >>= f) ≡ Ok y → (x : A) × (r ≡ Ok x) × (f x ≡ Ok y)
bind_ok (Ok x) f y e = (x, refl, e)
bind_ok (Err d) f y e = absurd cc

-- a test that did not fail
pub guard_ok : {A : Type 0} (b : Bool) (d : EncodingError) (x y : A) → cond b (Err d) (Ok x) ≡ Ok y → (b ≡ false) × (x ≡ y)
guard_ok true d x y e = absurd cc
guard_ok false d x y e = (refl, cc)

abbrev done : {A : Type 0} → A → Result A EncodingError
done x = Ok x

pub ok_is : {A : Type 0} (x y : A) → done x ≡ done y → x ≡ y
ok_is x y e = cc

pub not_both : {A : Type 0} (r : Result A EncodingError) (f : EncodingError) (x : A) → r ≡ Err f → r ≡ Ok x → ⊥
not_both (Ok y) f x e g = absurd cc
not_both (Err h) f x e g = absurd cc

-- what a reader took from the front
pub record Takes (bytes text rest : List ℕ) : Type 0 where
  pub parts : bytes ≡ text ++ rest
  pub rest_fits : IsBytes rest

pub Takes-then : (a x b y c : List ℕ) → Takes a x b → Takes b y c → Takes a (x ++ y) c
Takes-then a x b y c p q = record { parts = p.parts ∙ ap (λ (t : List ℕ). x ++ t) q.parts ∙ sym (append_assoc x y c); rest_fits = q.rest_fits }

-- ---- numbers

pub record IsWide (w : Width) (limit : ℕ) : Type 0 where
  pub len : (n : ℕ) → length (to_le_bytes w n) ≡ byte_len w
  pub back : (bytes : List ℕ) → length bytes ≡ byte_len w → IsBytes bytes → to_le_bytes w (from_le_bytes w bytes) ≡ bytes
  pub again : (n : ℕ) → n < limit → from_le_bytes w (to_le_bytes w n) ≡ n
  pub below : (bytes : List ℕ) → IsBytes bytes → from_le_bytes w bytes < limit

pub wide32 : IsWide w32 (2 ^ 32)
wide32 = record {
  len = λ n. refl;
  back = λ bytes len fits. le_bytes_4 bytes _ len fits refl;
  again = λ n lt. from_le_bytes-to_le_bytes_4 n lt;
  below = λ bytes fits. omega (arith, fits 0, fits 1, fits 2, fits 3);
}

pub wide64 : IsWide w64 (2 ^ 64)
wide64 = record {
  len = λ n. refl;
  back = λ bytes len fits. le_bytes_8 bytes _ len fits refl;
  again = λ n lt. from_le_bytes-to_le_bytes_8 n lt;
  below = λ bytes fits. omega (arith, fits 0, fits 1, fits 2, fits 3, fits 4, fits 5, fits 6, fits 7);
}

pub number_takes : (w : Width) (limit : ℕ) (wide : IsWide w limit) (bytes : List ℕ) (n : ℕ) (rest : List ℕ) → IsBytes bytes → number_at w bytes ≡ Ok (n, rest) → Takes bytes (to_le_bytes w n) rest × (n < limit)
number_takes w limit wide bytes n rest fits e =
    let g = guard_ok (ltb (length bytes) (byte_len w)) Short (from_le_bytes w (take (byte_len w) bytes), drop (byte_len w) bytes) (n, rest) e in
    let long : byte_len w ≤ length bytes = ltb-false _ _ g.0 in
    let n-is : from_le_bytes w (take (byte_len w) bytes) ≡ n = ap (λ (p : ℕ × List ℕ). p.0) g.1 in
    let rest-is : drop (byte_len w) bytes ≡ rest = ap (λ (p : ℕ × List ℕ). p.1) g.1 in
    let front : to_le_bytes w n ≡ take (byte_len w) bytes = rw (← n-is) (wide.back (take (byte_len w) bytes) (omega (arith, length-take (byte_len w) bytes)) (IsBytes-take (byte_len w) bytes fits)) in
    (record { parts = rw (front, ← rest-is) (sym (take-append-drop (byte_len w) bytes)); rest_fits = rw (← rest-is) (IsBytes-drop (byte_len w) bytes fits) }, rw (← n-is) (wide.below (take (byte_len w) bytes) (IsBytes-take (byte_len w) bytes fits)))

pub number_again : (w : Width) (limit : ℕ) (wide : IsWide w limit) (n : ℕ) (rest : List ℕ) → n < limit → number_at w (to_le_bytes w n ++ rest) ≡ Ok (n, rest)
number_again w limit wide n rest lt =
    let len = wide.len n in
    let long : ltb (length (to_le_bytes w n ++ rest)) (byte_len w) ≡ false = le-ltb _ _ (omega (arith, length-append (to_le_bytes w n) rest)) in
    rw (long, take_at (to_le_bytes w n) rest (byte_len w) len, drop_at (to_le_bytes w n) rest (byte_len w) len, wide.again n lt) refl

IsBytes-rest : (b : ℕ) (bytes : List ℕ) → IsBytes (b ∷ bytes) → IsBytes bytes
IsBytes-rest b bytes h i = h (suc i)

-- ---- known numbers

-- a test that was met
pub guard_met : {A : Type 0} (b : Bool) (d : EncodingError) (x y : A) → cond b (Ok x) (Err d) ≡ Ok y → (b ≡ true) × (x ≡ y)
guard_met true d x y e = (refl, cc)
guard_met false d x y e = absurd cc

pub known_takes : (fault : EncodingError) (n : ℕ) (bytes rest : List ℕ) → IsBytes bytes → known_at fault n bytes ≡ Ok rest → Takes bytes (to_le_bytes w32 n) rest
known_takes fault n bytes rest fits e =
    let a = bind_ok (number_at w32 bytes) (λ x. cond (eqb x.0 n) (Ok x.1) (Err fault)) rest e in
    let g = guard_met (eqb a.0.0 n) fault a.0.1 rest a.2 in
    let t = number_takes w32 (2 ^ 32) wide32 bytes a.0.0 a.0.1 fits a.1 in
    subst (λ (r : List ℕ). Takes bytes (to_le_bytes w32 n) r) g.1 (subst (λ (k : ℕ). Takes bytes (to_le_bytes w32 k) a.0.1) (eqb-true _ _ g.0) t.0)

pub known_again : (fault : EncodingError) (n : ℕ) (rest : List ℕ) → n < 2 ^ 32 → known_at fault n (to_le_bytes w32 n ++ rest) ≡ Ok rest
known_again fault n rest lt = rw (number_again w32 (2 ^ 32) wide32 n rest lt, eq-eqb n n refl) refl

-- ---- so many bytes

pub front_takes : (n : ℕ) (bytes x rest : List ℕ) → IsBytes bytes → front_at n bytes ≡ Ok (x, rest) → Takes bytes x rest × (length x ≡ n) × IsBytes x
front_takes n bytes x rest fits e =
    let g = guard_ok (ltb (length bytes) n) Short (take n bytes, drop n bytes) (x, rest) e in
    let long : n ≤ length bytes = ltb-false _ _ g.0 in
    let x-is : take n bytes ≡ x = ap (λ (p : List ℕ × List ℕ). p.0) g.1 in
    let rest-is : drop n bytes ≡ rest = ap (λ (p : List ℕ × List ℕ). p.1) g.1 in
    let parts : bytes ≡ x ++ rest = sym (take-append-drop n bytes) ∙ ap (λ (l : List ℕ). l ++ drop n bytes) x-is ∙ ap (λ (l : List ℕ). x ++ l) rest-is in
    (record { parts = parts; rest_fits = subst IsBytes rest-is (IsBytes-drop n bytes fits) }, ap length (sym x-is) ∙ length-take-le n bytes long, subst IsBytes x-is (IsBytes-take n bytes fits))

pub front_again : (n : ℕ) (x rest : List ℕ) → length x ≡ n → front_at n (x ++ rest) ≡ Ok (x, rest)
front_again n x rest is =
    let long : ltb (length (x ++ rest)) n ≡ false = le-ltb _ _ (omega (arith, length-append x rest)) in
    rw (long, take_at x rest n is, drop_at x rest n is) refl

-- ---- bytes

pub bytes_takes : (bytes x rest : List ℕ) → IsBytes bytes → bytes_at bytes ≡ Ok (x, rest) → Takes bytes (bytes_encoding x) rest × IsBytes x
unfolding bytes_at
bytes_takes bytes x rest fits e =
    let a = bind_ok (number_at w64 bytes) (λ n. front_at n.0 n.1) (x, rest) e in
    let n : ℕ = a.0.0 in
    let r : List ℕ = a.0.1 in
    let t = number_takes w64 (2 ^ 64) wide64 bytes n r fits a.1 in
    let second = front_takes n r x rest t.0.rest_fits a.2 in
    (subst (λ (m : ℕ). Takes bytes (to_le_bytes w64 m ++ x) rest) (sym second.1) (Takes-then bytes (to_le_bytes w64 n) r x rest t.0 second.0), second.2)

pub bytes_again : (x rest : List ℕ) → length x < 2 ^ 64 → bytes_at (bytes_encoding x ++ rest) ≡ Ok (x, rest)
unfolding bytes_at
bytes_again x rest lt =
    let n = length x in
    ap bytes_at (append_assoc (to_le_bytes w64 n) x rest) ∙ rw (number_again w64 (2 ^ 64) wide64 n (x ++ rest) lt) (front_again n x rest refl)

-- ---- pieces

-- a piece after its length
pub record IsPiece (encoding : List ℕ) : Type 0 where
  pub piece : List ℕ
  pub is : encoding ≡ bytes_encoding piece
  pub fits : length piece < 2 ^ 64

encoding_long : (p : List ℕ) → length (bytes_encoding p) ≡ 8 + length p
encoding_long p = length-append (to_le_bytes w64 (length p)) p

pub piece_again : (p rest : List ℕ) → length p < 2 ^ 64 → piece_at (bytes_encoding p ++ rest) ≡ Ok (bytes_encoding p, rest)
unfolding piece_at
piece_again p rest lt =
    let n = length p in
    let whole = bytes_encoding p ++ rest in
    let is : number_at w64 whole ≡ Ok (n, p ++ rest) = ap (number_at w64) (append_assoc (to_le_bytes w64 n) p rest) ∙ number_again w64 (2 ^ 64) wide64 n (p ++ rest) lt in
    let long : ltb (length (p ++ rest)) n ≡ false = le-ltb _ _ (omega (arith, length-append p rest)) in
    rw (is, long, take_at (bytes_encoding p) rest (8 + n) (encoding_long p), drop_at (bytes_encoding p) rest (8 + n) (encoding_long p)) refl

pub piece_takes : (bytes x rest : List ℕ) → IsBytes bytes → piece_at bytes ≡ Ok (x, rest) → Takes bytes x rest × IsPiece x
unfolding piece_at
piece_takes bytes x rest fits e =
    let a = bind_ok (number_at w64 bytes) (λ n. cond (ltb (length n.1) n.0) (Err Short) (Ok (take (8 + n.0) bytes, drop (8 + n.0) bytes))) (x, rest) e in
    let n : ℕ = a.0.0 in
    let r : List ℕ = a.0.1 in
    let g = guard_ok (ltb (length r) n) Short (take (8 + n) bytes, drop (8 + n) bytes) (x, rest) a.2 in
    let t = number_takes w64 (2 ^ 64) wide64 bytes n r fits a.1 in
    let long : n ≤ length r = ltb-false _ _ g.0 in
    let p : List ℕ = take n r in
    let n-is : length p ≡ n = length-take-le n r long in
    let encoding : to_le_bytes w64 n ++ p ≡ bytes_encoding p = ap (λ (m : ℕ). to_le_bytes w64 m ++ p) (sym n-is) in
    let parts : bytes ≡ bytes_encoding p ++ drop n r = t.0.parts ∙ ap (λ (l : List ℕ). to_le_bytes w64 n ++ l) (sym (take-append-drop n r)) ∙ sym (append_assoc (to_le_bytes w64 n) p (drop n r)) ∙ ap (λ (l : List ℕ). l ++ drop n r) encoding in
    let eight : length (bytes_encoding p) ≡ 8 + n = encoding_long p ∙ ap (λ (m : ℕ). 8 + m) n-is in
    let x-is : x ≡ bytes_encoding p = sym (ap (λ (q : List ℕ × List ℕ). q.0) g.1) ∙ ap (take (8 + n)) parts ∙ take_at (bytes_encoding p) (drop n r) (8 + n) eight in
    let rest-is : rest ≡ drop n r = sym (ap (λ (q : List ℕ × List ℕ). q.1) g.1) ∙ ap (drop (8 + n)) parts ∙ drop_at (bytes_encoding p) (drop n r) (8 + n) eight in (
      record {
        parts = parts ∙ ap (λ (l : List ℕ). l ++ drop n r) (sym x-is) ∙ ap (λ (l : List ℕ). x ++ l) (sym rest-is);
        rest_fits = subst IsBytes (sym rest-is) (IsBytes-drop n r t.0.rest_fits);
      },
      record { piece = p; is = x-is; fits = omega (arith, t.1) },
    )

-- ---- the digest

abbrev checked : List ℕ → List ℕ × List ℕ → Result (List ℕ × List ℕ) EncodingError
checked content d = cond (bytes_eq (sha256 content) d.0) (Ok (content, d.1)) (Err Damaged)

pub record Signed (bytes content rest : List ℕ) : Type 0 where
  pub takes : Takes bytes (bytes_encoding content ++ sha256 content) rest
  pub fits : IsBytes content

pub signed_takes : (bytes content rest : List ℕ) → IsBytes bytes → signed_at bytes ≡ Ok (content, rest) → Signed bytes content rest
unfolding signed_at
signed_takes bytes content rest fits e =
    let a = bind_ok (bytes_at bytes) (λ c. front_at 32 c.1 >>= λ d. checked c.0 d) (content, rest) e in
    let b = bind_ok (front_at 32 a.0.1) (λ d. checked a.0.0 d) (content, rest) a.2 in
    let g = guard_met (bytes_eq (sha256 a.0.0) b.0.0) Damaged (a.0.0, b.0.1) (content, rest) b.2 in
    let same : sha256 a.0.0 ≡ b.0.0 = (bytes_eq-Decides (sha256 a.0.0) b.0.0).0 g.0 in
    let t = bytes_takes bytes a.0.0 a.0.1 fits a.1 in
    let u = front_takes 32 a.0.1 b.0.0 b.0.1 t.0.rest_fits b.1 in
    let whole = Takes-then bytes (bytes_encoding a.0.0) a.0.1 b.0.0 b.0.1 t.0 u.0 in
    let content-is : a.0.0 ≡ content = ap (λ (p : List ℕ × List ℕ). p.0) g.1 in
    let rest-is : b.0.1 ≡ rest = ap (λ (p : List ℕ × List ℕ). p.1) g.1 in
    let here : Takes bytes (bytes_encoding a.0.0 ++ sha256 a.0.0) b.0.1 = subst (λ (l : List ℕ). Takes bytes (bytes_encoding a.0.0 ++ l) b.0.1) (sym same) whole in
    record {
      takes = subst (λ (r : List ℕ). Takes bytes (bytes_encoding content ++ sha256 content) r) rest-is (subst (λ (c : List ℕ). Takes bytes (bytes_encoding c ++ sha256 c) b.0.1) content-is here);
      fits = subst IsBytes content-is t.1;
    }

pub signed_again : (content rest : List ℕ) → length content < 2 ^ 64 → signed_at ((bytes_encoding content ++ sha256 content) ++ rest) ≡ Ok (content, rest)
unfolding signed_at
signed_again content rest lt =
    let digest = sha256 content in
    let same : bytes_eq digest digest ≡ true = (bytes_eq-Decides digest digest).1 refl in
    ap signed_at (append_assoc (bytes_encoding content) digest rest) ∙ rw (bytes_again content (digest ++ rest) lt, front_again 32 digest rest (length-sha256 content), same) refl
