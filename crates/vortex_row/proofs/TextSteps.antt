-- What may come next in the key of a text.
use Rattle.std.proofs.Common.{◌≡◌, ◌≢◌, ℕ, zero, suc, ◌+◌, ◌-◌, ◌<◌, ◌≤◌, ◌⊎◌, ◌↔◌, inl, inr, List, [], ◌∷◌, ◌++◌, IsUtf8, length, take, drop, get_or, refl, sym, subst, ap, ap₂, ◌∙◌, append_assoc, append-nil, arith}
use Rattle.std.proofs.lemmas.Bool.Decides.{nat_tests}
use Rattle.std.proofs.lemmas.Str.{IsUtf8-nil}
use Rattle.vortex_row.specs.Held.{AreBytes}
use Rattle.vortex_row.specs.Keys.{escape, escaped}
use Rattle.vortex_row.specs.Reading.{BeginsWithOne, ContinueWith, IsStuck, NoneBegins}
use Rattle.vortex_row.specs.Strings.{Completes, ComesNext, IsEscaped, IsHalfEscaped, IsProper, lowest_after, highest_after}
use Rattle.vortex_row.specs.declared.decode.texts.Next.{Next}
use Rattle.vortex_row.specs.declared.decode.texts.Next.TheVariants.{Character, Escaped, Within}
use Rattle.vortex_row.proofs.ByteLaws.{no_bytes, bytes_rest, bytes_after}
use Rattle.vortex_row.proofs.PlaceLaws.{first_of, rest_of}
use Rattle.vortex_row.proofs.ReaderSteps.{at-once, none-left, take-more, take-past, take-then}
use Rattle.vortex_row.proofs.StuckLaws.{Some, continue-then, none-byte, none-end, stuck-after}
use Rattle.vortex_row.proofs.TextLaws.{after-one, after-two, after-three, after-four, no-first}

apart : (x y : ℕ) (xs ys : List ℕ) → x ≢ y → x ∷ xs ≡ y ∷ ys → ⊥
apart x y xs ys h e = h (first_of x y xs ys e)

-- strings of one kind after a byte, and the kind that they then have
abbrev pub Follow : (List ℕ → Type 0) → ℕ → (List ℕ → Type 0) → Type 0
Follow Is b Rest = (s : List ℕ) → Is (b ∷ s) ↔ Rest s

pub plain-byte : (b : ℕ) → 2 ≤ b → escape b ≡ b ∷ []
plain-byte zero h = absurd (omega arith)
plain-byte (suc zero) h = absurd (omega arith)
plain-byte (suc (suc b)) h = refl

-- a byte that is written as it is

plain-join : (Is Rest : List ℕ → Type 0) (b : ℕ) → 2 ≤ b → b < 256 → Follow Is b Rest → (q : List ℕ) → IsEscaped Rest q → IsEscaped Is (b ∷ q)
plain-join Is Rest b h k follow q e = record {
  string = b ∷ e.string;
  kind = (follow e.string).1 e.kind;
  bytes = bytes_after b e.string k e.bytes;
  is = ap (λ xs. b ∷ xs) e.is ∙ sym (ap (λ xs. xs ++ escaped e.string) (plain-byte b h));
}

plain-split : (Is Rest : List ℕ → Type 0) (b : ℕ) → 2 ≤ b → Follow Is b Rest → (string zs rest : List ℕ) → Is string → AreBytes string → b ∷ zs ≡ escaped string ++ rest
    → (q : List ℕ) × IsEscaped Rest q × (zs ≡ q ++ rest)
plain-split Is Rest b h follow [] zs rest k bytes e = absurd (apart b 0 zs rest (λ same. omega arith) e)
plain-split Is Rest b h follow (zero ∷ s) zs rest k bytes e = absurd (apart b 1 zs (1 ∷ escaped s ++ rest) (λ same. omega arith) e)
plain-split Is Rest b h follow (suc zero ∷ s) zs rest k bytes e = absurd (apart b 1 zs (2 ∷ escaped s ++ rest) (λ same. omega arith) e)
plain-split Is Rest b h follow (suc (suc c) ∷ s) zs rest k bytes e =
    let same = first_of b (suc (suc c)) zs (escaped s ++ rest) e in
    let is_rest = (follow s).0 (subst (λ x. Is (x ∷ s)) (sym same) k) in
    (escaped s, record { string = s; kind = is_rest; bytes = bytes_rest (suc (suc c)) s bytes; is = refl }, rest_of b (suc (suc c)) zs (escaped s ++ rest) e)

pub continue-plain : (Is Rest : List ℕ → Type 0) (b : ℕ) → 2 ≤ b → b < 256 → Follow Is b Rest → ContinueWith (b ∷ []) (IsEscaped Is) (IsEscaped Rest)
continue-plain Is Rest b h k follow = record {
  join = plain-join Is Rest b h k follow;
  split = λ s zs rest e f. plain-split Is Rest b h follow e.string zs rest e.kind e.bytes (f ∙ ap (λ xs. xs ++ rest) e.is);
}

-- a byte that is written as two

half-join : (Is Rest : List ℕ → Type 0) (second b : ℕ) → (second ≡ 1) ⊎ (second ≡ 2) → Follow Is 0 Rest → Follow Is 1 Rest → (more q : List ℕ) → IsEscaped Rest more → q ≡ second ∷ more → IsEscaped Is (1 ∷ q)
half-join Is Rest second b (inl one) zero_first one_first more q e is = record {
  string = 0 ∷ e.string;
  kind = (zero_first e.string).1 e.kind;
  bytes = bytes_after 0 e.string (omega arith) e.bytes;
  is = ap (λ xs. 1 ∷ xs) (is ∙ ap (λ x. x ∷ more) one ∙ ap (λ xs. 1 ∷ xs) e.is);
}
half-join Is Rest second b (inr two) zero_first one_first more q e is = record {
  string = 1 ∷ e.string;
  kind = (one_first e.string).1 e.kind;
  bytes = bytes_after 1 e.string (omega arith) e.bytes;
  is = ap (λ xs. 1 ∷ xs) (is ∙ ap (λ x. x ∷ more) two ∙ ap (λ xs. 2 ∷ xs) e.is);
}

half-split : (Is Rest : List ℕ → Type 0) → Follow Is 0 Rest → Follow Is 1 Rest → (string zs rest : List ℕ) → Is string → AreBytes string → 1 ∷ zs ≡ escaped string ++ rest
    → (q : List ℕ) × IsHalfEscaped Rest q × (zs ≡ q ++ rest)
half-split Is Rest zero_first one_first [] zs rest k bytes e = absurd (apart 1 0 zs rest (λ same. omega arith) e)
half-split Is Rest zero_first one_first (zero ∷ s) zs rest k bytes e =
    let half : IsHalfEscaped Rest (1 ∷ escaped s) = record {
      second = 1;
      either = inl refl;
      more = escaped s;
      escaped = record { string = s; kind = (zero_first s).0 k; bytes = bytes_rest 0 s bytes; is = refl };
      is = refl;
    } in
    (1 ∷ escaped s, half, rest_of 1 1 zs (1 ∷ escaped s ++ rest) e)
half-split Is Rest zero_first one_first (suc zero ∷ s) zs rest k bytes e =
    let half : IsHalfEscaped Rest (2 ∷ escaped s) = record {
      second = 2;
      either = inr refl;
      more = escaped s;
      escaped = record { string = s; kind = (one_first s).0 k; bytes = bytes_rest 1 s bytes; is = refl };
      is = refl;
    } in
    (2 ∷ escaped s, half, rest_of 1 1 zs (2 ∷ escaped s ++ rest) e)
half-split Is Rest zero_first one_first (suc (suc c) ∷ s) zs rest k bytes e = absurd (apart 1 (suc (suc c)) zs (escaped s ++ rest) (λ same. omega arith) e)

-- the first of the two
pub continue-half : (Is Rest : List ℕ → Type 0) → Follow Is 0 Rest → Follow Is 1 Rest → ContinueWith (1 ∷ []) (IsEscaped Is) (IsHalfEscaped Rest)
continue-half Is Rest zero_first one_first = record {
  join = λ q h. half-join Is Rest h.second 0 h.either zero_first one_first h.more q h.escaped h.is;
  split = λ s zs rest e f. half-split Is Rest zero_first one_first e.string zs rest e.kind e.bytes (f ∙ ap (λ xs. xs ++ rest) e.is);
}

-- the second of the two
pub continue-second : (Is : List ℕ → Type 0) (b : ℕ) → (b ≡ 1) ⊎ (b ≡ 2) → ContinueWith (b ∷ []) (IsHalfEscaped Is) (IsEscaped Is)
continue-second Is b either = record {
  join = λ q h. record { second = b; either = either; more = q; escaped = h; is = refl };
  split = λ s zs rest h e.
      (h.more, h.escaped, rest_of b h.second zs (h.more ++ rest) (e ∙ ap (λ xs. xs ++ rest) h.is));
}

neither-second : (b c : ℕ) → b ≢ 1 → b ≢ 2 → (c ≡ 1) ⊎ (c ≡ 2) → b ≢ c
neither-second b c h k (inl one) e = h (e ∙ one)
neither-second b c h k (inr two) e = k (e ∙ two)

pub none-second : (Is : List ℕ → Type 0) (b : ℕ) → b ≢ 1 → b ≢ 2 → NoneBegins (IsHalfEscaped Is) b
none-second Is b h k s zs rest half e = apart b half.second zs (half.more ++ rest) (neither-second b half.second h k half.either) (e ∙ ap (λ xs. xs ++ rest) half.is)

-- a byte that no string of the kind begins with
none-string : (Is : List ℕ → Type 0) (b : ℕ) → 2 ≤ b → ((s : List ℕ) → ¬ (Is (b ∷ s))) → (string zs rest : List ℕ) → Is string → ¬ (b ∷ zs ≡ escaped string ++ rest)
none-string Is b h never [] zs rest k e = apart b 0 zs rest (λ same. omega arith) e
none-string Is b h never (zero ∷ s) zs rest k e = apart b 1 zs (1 ∷ escaped s ++ rest) (λ same. omega arith) e
none-string Is b h never (suc zero ∷ s) zs rest k e = apart b 1 zs (2 ∷ escaped s ++ rest) (λ same. omega arith) e
none-string Is b h never (suc (suc c) ∷ s) zs rest k e = never s (subst (λ x. Is (x ∷ s)) (sym (first_of b (suc (suc c)) zs (escaped s ++ rest) e)) k)

pub none-plain : (Is : List ℕ → Type 0) (b : ℕ) → 2 ≤ b → ((s : List ℕ) → ¬ (Is (b ∷ s))) → NoneBegins (IsEscaped Is) b
none-plain Is b h never s zs rest e f = none-string Is b h never e.string zs rest e.kind (f ∙ ap (λ xs. xs ++ rest) e.is)

-- the end, which ends an empty string
pub continue-end : (Is : List ℕ → Type 0) → Is [] → IsEscaped Is (0 ∷ [])
continue-end Is h = record { string = []; kind = h; bytes = no_bytes; is = refl }

-- texts

lead : (b more : ℕ) → 2 ≤ b → b < 245 → ((s : List ℕ) → IsUtf8 (b ∷ s) ↔ Completes (suc more) (lowest_after b) (highest_after b) s)
    → IsProper (Within (lowest_after b) (highest_after b) more) × ContinueWith (b ∷ []) (ComesNext Character) (ComesNext (Within (lowest_after b) (highest_after b) more))
lead b more h k follow = (lead_proper b, continue-plain IsUtf8 (Completes (suc more) (lowest_after b) (highest_after b)) b h (omega arith) follow)
  where
    lead_proper : (b : ℕ) → IsProper (Within (lowest_after b) (highest_after b) 0)
    lead_proper b = (grind (arith, nat_tests), grind (arith, nat_tests), grind (arith, nat_tests))

pub lead-one : (b : ℕ) → 2 ≤ b → b < 128 → ContinueWith (b ∷ []) (ComesNext Character) (ComesNext Character)
lead-one b h k = continue-plain IsUtf8 IsUtf8 b h (omega arith) (λ s. after-one b s k)

pub lead-two : (b : ℕ) → 194 ≤ b → b < 224
    → IsProper (Within (lowest_after b) (highest_after b) 0) × ContinueWith (b ∷ []) (ComesNext Character) (ComesNext (Within (lowest_after b) (highest_after b) 0))
lead-two b h k = lead b 0 (omega arith) (omega arith) (λ s. after-two b s h k)

pub lead-three : (b : ℕ) → 224 ≤ b → b < 240
    → IsProper (Within (lowest_after b) (highest_after b) 1) × ContinueWith (b ∷ []) (ComesNext Character) (ComesNext (Within (lowest_after b) (highest_after b) 1))
lead-three b h k = lead b 1 (omega arith) (omega arith) (λ s. after-three b s h k)

pub lead-four : (b : ℕ) → 240 ≤ b → b < 245
    → IsProper (Within (lowest_after b) (highest_after b) 2) × ContinueWith (b ∷ []) (ComesNext Character) (ComesNext (Within (lowest_after b) (highest_after b) 2))
lead-four b h k = lead b 2 (omega arith) (omega arith) (λ s. after-four b s h k)

pub no-lead : (b : ℕ) → 128 ≤ b → (b < 194) ⊎ (245 ≤ b) → NoneBegins (ComesNext Character) b
no-lead b h k = none-plain IsUtf8 b (omega arith) (λ s. no-first b s h k)

-- within a character

follow-within : (low high more b : ℕ) → low ≤ b → b ≤ high → Follow (Completes (suc more) low high) b (Completes more 128 191)
follow-within low high more b h k s = ((λ p. p.2), (λ p. (h, k, p)))

follow-last : (b low high : ℕ) → low ≤ b → b ≤ high → Follow (Completes 1 low high) b IsUtf8
follow-last b low high h k s = ((λ p. p.2), (λ p. (h, k, p)))

pub within-last : (low high b : ℕ) → 2 ≤ low → b < 256 → low ≤ b → b ≤ high → ContinueWith (b ∷ []) (ComesNext (Within low high 0)) (ComesNext Character)
within-last low high b h k l m = continue-plain (Completes 1 low high) IsUtf8 b (omega arith) k (follow-last b low high l m)

pub within-more : (low high more b : ℕ) → 2 ≤ low → b < 256 → low ≤ b → b ≤ high → 0 < more → ContinueWith (b ∷ []) (ComesNext (Within low high more)) (ComesNext (Within 128 191 (more - 1)))
within-more low high zero b h k l m some = absurd (omega arith)
within-more low high (suc more) b h k l m some =
    let same : suc more - 1 ≡ more = omega arith in
    rw same (continue-plain (Completes (suc (suc more)) low high) (Completes (suc more) 128 191) b (omega arith) k (follow-within low high (suc more) b l m))

-- outside the range, an end or an escape included
none-within-string : (low high more b : ℕ) → 2 ≤ low → (b < low) ⊎ (high < b) → (string zs rest : List ℕ) → Completes (suc more) low high string → ¬ (b ∷ zs ≡ escaped string ++ rest)
none-within-string low high more b h out [] zs rest k e = k
none-within-string low high more b h out (zero ∷ s) zs rest k e = let l = k.0 in omega arith
none-within-string low high more b h out (suc zero ∷ s) zs rest k e = let l = k.0 in omega arith
none-within-string low high more b h out (suc (suc c) ∷ s) zs rest k e =
    let same = first_of b (suc (suc c)) zs (escaped s ++ rest) e in
    let l = k.0 in
    let m = k.1 in
    elim out [ inl p ↦ omega arith | inr p ↦ omega arith ]

pub none-within : (low high more b : ℕ) → 2 ≤ low → (b < low) ⊎ (high < b) → NoneBegins (ComesNext (Within low high more)) b
none-within low high more b h out s zs rest e f = none-within-string low high more b h out e.string zs rest e.kind (f ∙ ap (λ xs. xs ++ rest) e.is)

pub within-escape : ContinueWith (1 ∷ []) (ComesNext Character) (ComesNext Escaped)
within-escape = continue-half IsUtf8 IsUtf8 (λ s. after-one 0 s (omega arith)) (λ s. after-one 1 s (omega arith))

-- there is always a way on

lacking : (more low high : ℕ) → low ≤ high → high < 256 → (s : List ℕ) × AreBytes s × Completes (suc more) low high s
lacking zero low high h k = (low ∷ [], bytes_after low [] (omega arith) no_bytes, (omega arith, h, IsUtf8-nil))
lacking (suc more) low high h k =
    let (s, bytes, rest) = lacking more 128 191 (omega arith) (omega arith) in
    (low ∷ s, bytes_after low s (omega arith) bytes, (omega arith, h, rest))

pub goes-on : (next : Next) → IsProper next → Some (ComesNext next)
goes-on Character h = (0 ∷ [], continue-end IsUtf8 IsUtf8-nil)
goes-on Escaped h = (1 ∷ 0 ∷ [], record { second = 1; either = inl refl; more = 0 ∷ []; escaped = continue-end IsUtf8 IsUtf8-nil; is = refl })
goes-on (Within low high more) h =
    let (s, bytes, complete) = lacking more low high h.1 h.2 in
    (escaped s, record { string = s; kind = complete; bytes = bytes; is = refl })

-- and never an end that nothing ends

pub escaped-some : (s : List ℕ) → ¬ ([] ≡ escaped s)
escaped-some [] e = cc
escaped-some (zero ∷ s) e = cc
escaped-some (suc zero ∷ s) e = cc
escaped-some (suc (suc b) ∷ s) e = cc

pub no-empty : (next : Next) → ¬ (ComesNext next [])
no-empty Character h = escaped-some h.string h.is
no-empty Escaped h = let e = h.is in absurd (cc)
no-empty (Within low high more) h = escaped-some h.string h.is

-- a step of the search for a bad byte: none comes next, or the end of a text

pub bad-byte : (xs : List ℕ) (i b : ℕ) (next : Next) → i < length xs → b ≡ get_or xs i 0 → IsProper next → ContinueWith (take i xs) (IsEscaped IsUtf8) (ComesNext next)
    → NoneBegins (ComesNext next) b ⊎ ((next ≡ Character) × (b ≡ 0)) → IsStuck (IsEscaped IsUtf8) xs (drop i xs) ⊎ BeginsWithOne (IsEscaped IsUtf8) xs
bad-byte xs i b next there is proper go (inl none) =
    let first : drop i xs ≡ b ∷ drop (suc i) xs = at-once i xs there ∙ ap (λ c. c ∷ drop (suc i) xs) (sym is) in
    inl (stuck-after (take i xs) (IsEscaped IsUtf8) (ComesNext next) xs (drop i xs) go (take-then i xs) (goes-on next proper) (none-byte (ComesNext next) b (drop i xs) (drop (suc i) xs) first none))
bad-byte xs i b next there is proper go (inr end) =
    let first : drop i xs ≡ 0 ∷ drop (suc i) xs = at-once i xs there ∙ ap (λ c. c ∷ drop (suc i) xs) (sym is ∙ end.1) in
    let last : ContinueWith (take i xs) (IsEscaped IsUtf8) (ComesNext Character) = subst (λ n. ContinueWith (take i xs) (IsEscaped IsUtf8) (ComesNext n)) end.0 go in
    inr (record {
      string = take i xs ++ 0 ∷ [];
      rest = drop (suc i) xs;
      is_one = last.join (0 ∷ []) (continue-end IsUtf8 IsUtf8-nil);
      is = take-then i xs ∙ ap (λ ys. take i xs ++ ys) first ∙ sym (append_assoc (take i xs) (0 ∷ []) (drop (suc i) xs));
    })

pub good-byte : (xs : List ℕ) (i b : ℕ) (next then : Next) → i < length xs → b ≡ get_or xs i 0 → ContinueWith (take i xs) (IsEscaped IsUtf8) (ComesNext next)
    → ContinueWith (b ∷ []) (ComesNext next) (ComesNext then) → ContinueWith (take (i + 1) xs) (IsEscaped IsUtf8) (ComesNext then)
good-byte xs i b next then there is go step =
    let one : i + 1 ≡ suc i = omega arith in
    let e : take i xs ++ b ∷ [] ≡ take (i + 1) xs = ap (λ c. take i xs ++ c ∷ []) is ∙ sym (take-more i xs there) ∙ ap (λ n. take n xs) (sym one) in
    subst (λ p. ContinueWith p (IsEscaped IsUtf8) (ComesNext then)) e (continue-then (take i xs) (b ∷ []) (IsEscaped IsUtf8) (ComesNext next) (ComesNext then) go step)

pub ends-early : (xs : List ℕ) (n i : ℕ) (next : Next) → n ≡ length xs → n ≤ i → IsProper next → ContinueWith (take i xs) (IsEscaped IsUtf8) (ComesNext next)
    → IsStuck (IsEscaped IsUtf8) xs (drop n xs)
ends-early xs n i next is past proper go =
    let all : take i xs ≡ xs = take-past i xs (omega arith) in
    let none : drop n xs ≡ [] = none-left n xs (omega arith) in
    stuck-after (take i xs) (IsEscaped IsUtf8) (ComesNext next) xs (drop n xs) go
    (sym (append-nil xs) ∙ ap₂ (λ ys zs. ys ++ zs) (sym all) (sym none)) (goes-on next proper) (none-end (ComesNext next) (drop n xs) none (no-empty next))

pub ruleset leads = (lead-one, lead-two, lead-three, lead-four, no-lead)

pub ruleset nexts = (within-last, within-more, none-within, within-escape, continue-second, none-second)
