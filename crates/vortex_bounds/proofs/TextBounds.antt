-- The bounds of a text: its longest beginning of whole characters, and the successor of that.
use Rattle.std.proofs.Common.{◌≡◌, ℕ, ◌<◌, ◌≤◌, ◌+◌, inl, inr, List, [], ◌∷◌, Result, Ok, Err, length, refl, sym, ap, subst, arith, ◌++◌, encode_utf8, encode_utf8_all, append_assoc, append-nil, length-append, take, drop, take-append-drop, length-take-le, slice_range, IsCharBoundary, ⊎_elim, IsUtf8, ◌∙◌, eq-or-lt_of_le, subst₂}
use Rattle.std.specs.Char.{IsScalar, len_utf8}
use Rattle.std.proofs.str.Laws.{order}
use Rattle.std.proofs.lemmas.Str.{encodes-append, length-encode, len_utf8_bounds, IsUtf8-append, IsUtf8-encode, IsUtf8-take, encodes_same, IsCharBoundary-at_seam}
use Rattle.std.proofs.lemmas.List.{same_from_push}
use Rattle.std.proofs.Math.Seq.{take-append_seam}
use Rattle.std.specs.String.Boundary.{IsSplitPoint}
use Rattle.vortex_dtype.specs.Memory.{GivesOrNoMemory}
use Rattle.vortex_dtype.specs.declared.error.VortexError.{VortexError}
use Rattle.vortex_bounds.specs.Texts.{IsTextPrefix, IsTextLower, IsTextUpper, IsSuccessor, IsSuccessorOfLength, EndsWith, IsStuck, IsLast, HasNoNext, HasNoNextOfWidth}
use Rattle.vortex_bounds.specs.Strings.{Below, NotAbove}
use Rattle.vortex_bounds.proofs.ByteOrder.{Lt, Le, Below-from, Below-to, NotAbove-from, NotAbove-to}
use Rattle.vortex_bounds.proofs.StringBounds.{take-Le, Le-take}
use Rattle.vortex_bounds.proofs.TextOrder.{Lt-nil, Lt-asym, Lt-Le, Le-grows, Le-after, Lt-after, Lt-cancel, encode_less}

-- ---- the lower bound
pub IsTextLower-prefix : (s : List ℕ) (n : ℕ) (p : List ℕ) → IsUtf8 s → IsTextPrefix s n p → IsTextLower s n p
IsTextLower-prefix s n p u h =
    let e = h.beginning in
    record {
      is_prefix = h;
      text = subst IsUtf8 (sym e) (IsUtf8-take s (length p) u h.boundary);
      not_above = NotAbove-from _ _ (subst (λ q. Le q s) (sym e) (take-Le (length p) s));
      greatest = λ t v l k.
          NotAbove-from _ _ (subst (λ q. Le t q) (sym e) (Le-take (length p) t s l (NotAbove-to _ _ k)));
    }

pub slice_from_start : (b : List ℕ) (n : ℕ) → slice_range b 0 n ≡ take n b
slice_from_start b n = ap (λ k. take k b) (omega arith)

pub length_from_start : (b : List ℕ) (n : ℕ) → n ≤ length b → length (slice_range b 0 n) ≡ n
length_from_start b n h = ap length (slice_from_start b n) ∙ length-take-le n b h

-- the beginning up to the nearest boundary
floor_lower : (s r q : List ℕ) (n i : ℕ) → q ≡ s → IsUtf8 q → i ≤ n → IsCharBoundary q i
    → ((k : ℕ) → i < k → k ≤ n → ¬ (IsCharBoundary q k)) → r ≡ slice_range s 0 i → IsTextLower s n r
floor_lower s r q n i same u l b near e =
    let t : r ≡ take i q = e ∙ slice_from_start s i ∙ ap (λ v. take i v) (sym same) in
    let w : length r ≡ i = ap length t ∙ length-take-le i q b.0 in
    subst (λ v. IsTextLower v n r) same (IsTextLower-prefix q n r u (record {
      fits = omega arith;
      beginning = t ∙ ap (λ k. take k q) (sym w);
      boundary = subst (λ k. IsCharBoundary q k) (sym w) b;
      longest = λ k m p. ⊎_elim (λ v. absurd (near k (omega arith) m p)) (λ v. v) (order (length r) k);
    }))

pub slice_lower : (s q : List ℕ) (n i : ℕ) (r : Result (List ℕ) VortexError) → q ≡ s → IsUtf8 q → i ≤ n → IsCharBoundary q i
    → ((k : ℕ) → i < k → k ≤ n → ¬ (IsCharBoundary q k)) → GivesOrNoMemory (λ t. t ≡ slice_range s 0 i) r
    → GivesOrNoMemory (λ t. IsTextLower s n t) r
slice_lower s q n i (Ok t) same u l b near h = floor_lower s t q n i same u l b near h
slice_lower s q n i (Err e) same u l b near h = h

-- ---- the upper bound
empty : (xs : List ℕ) → length xs ≡ 0 → xs ≡ []
empty [] h = refl
empty (x ∷ xs) h = absurd (omega arith)

-- two beginnings by characters c and d: what the order of the whole says
least : (cs ds : List ℕ) (c : ℕ) (rest : List ℕ) → length (encode_utf8 (c + 1)) ≡ length (encode_utf8 c) → length (encode_utf8_all ds) ≡ length (encode_utf8_all cs ++ encode_utf8 c) → Lt (encode_utf8_all cs ++ (encode_utf8 c ++ rest)) (encode_utf8_all ds) → Le (encode_utf8_all cs ++ encode_utf8 (c + 1)) (encode_utf8_all ds)
least cs [] c rest w l h = absurd (Lt-nil _ h)
least [] (d ∷ ds) c rest w l h =
    elim (order c d) [
      | inl p ↦ let le : c + 1 ≤ d = omega arith in elim (eq-or-lt_of_le le) [
        | inl q ↦ subst (λ x. Le (encode_utf8 (c + 1)) (encode_utf8 x ++ encode_utf8_all ds)) q (Le-grows _ _)
        | inr q ↦ subst (λ x. Le x (encode_utf8 d ++ encode_utf8_all ds)) (append-nil _) (Lt-Le _ _ (encode_less (c + 1) d q [] _))
      ]
      | inr p ↦ elim (eq-or-lt_of_le p) [
        | inl q ↦
            let g = Lt-cancel (encode_utf8 c) rest (encode_utf8_all ds) (subst (λ x. Lt (encode_utf8 c ++ rest) (encode_utf8 x ++ encode_utf8_all ds)) q h) in
            let z : encode_utf8_all ds ≡ [] = empty _ (omega (arith, l, length-append (encode_utf8 d) (encode_utf8_all ds), ap (λ x. length (encode_utf8 x)) q)) in
            absurd (Lt-nil rest (subst (λ x. Lt rest x) z g))
        | inr q ↦ absurd (Lt-asym _ _ h (encode_less d c q _ _))
      ]
    ]
least (x ∷ cs) (d ∷ ds) c rest w l h =
    let h' = subst (λ v. Lt v (encode_utf8 d ++ encode_utf8_all ds)) (append_assoc (encode_utf8 x) (encode_utf8_all cs) (encode_utf8 c ++ rest)) h in
    subst (λ v. Le v (encode_utf8 d ++ encode_utf8_all ds)) (sym (append_assoc (encode_utf8 x) (encode_utf8_all cs) (encode_utf8 (c + 1))))
    (elim (order x d) [
      | inl p ↦ Lt-Le _ _ (encode_less x d p _ _)
      | inr p ↦ elim (eq-or-lt_of_le p) [
        | inl q ↦
            let g = subst (λ v. Lt (encode_utf8 x ++ (encode_utf8_all cs ++ (encode_utf8 c ++ rest))) (encode_utf8 v ++ encode_utf8_all ds)) q h' in
            subst (λ v. Le (encode_utf8 x ++ (encode_utf8_all cs ++ encode_utf8 (c + 1))) (encode_utf8 v ++ encode_utf8_all ds)) (sym q)
            (Le-after (encode_utf8 x) _ _ (least cs ds c rest w
            (omega (arith, l, ap (λ v. length (encode_utf8 v)) q, length-append (encode_utf8 d) (encode_utf8_all ds), length-append (encode_utf8 x) (encode_utf8_all cs), length-append (encode_utf8 x ++ encode_utf8_all cs) (encode_utf8 c), length-append (encode_utf8_all cs) (encode_utf8 c)))
            (Lt-cancel (encode_utf8 x) _ _ g)))
        | inr q ↦ absurd (Lt-asym _ _ h' (encode_less d x q _ _))
      ]
    ])

-- what the successor in as many bytes is to a text that begins with p
record IsLeastAbove (s p r : List ℕ) : Type 0 where
  text : IsUtf8 r
  above : Below s r
  least : (t : List ℕ) → IsUtf8 t → length t ≡ length p → Below s t → NotAbove r t

successor_is_least : (s p rest r : List ℕ) → s ≡ p ++ rest → IsSuccessorOfLength p r → IsLeastAbove s p r
successor_is_least s p rest r e (h, exact) =
    let f = h.before.text in
    let c = h.last in
    let cs : List ℕ = f.0 in
    let ef : encode_utf8_all cs ≡ h.front = f.1.1 in
    let es : s ≡ encode_utf8_all cs ++ (encode_utf8 c ++ rest) =
    e ∙ ap (λ v. v ++ rest) (h.before.split ∙ ap (λ v. v ++ encode_utf8 c) (sym ef)) ∙ append_assoc (encode_utf8_all cs) (encode_utf8 c) rest in
    let er : r ≡ encode_utf8_all cs ++ encode_utf8 (c + 1) = h.after.split ∙ ap (λ v. v ++ encode_utf8 (c + 1)) (sym ef) in
    let ep : p ≡ encode_utf8_all cs ++ encode_utf8 c = h.before.split ∙ ap (λ v. v ++ encode_utf8 c) (sym ef) in
    let w : length (encode_utf8 (c + 1)) ≡ length (encode_utf8 c) =
    omega (arith, exact, ap length er, ap length ep, length-append (encode_utf8_all cs) (encode_utf8 c), length-append (encode_utf8_all cs) (encode_utf8 (c + 1))) in
    record {
      text = subst IsUtf8 (sym h.after.split) (IsUtf8-append _ _ f (IsUtf8-encode _ h.after.scalar));
      above = Below-from _ _ (subst₂ Lt (sym es) (sym er)
          (Lt-after (encode_utf8_all cs) _ _ (subst (λ v. Lt (encode_utf8 c ++ rest) v) (append-nil _) (encode_less c (c + 1) (omega arith) rest []))));
      least = λ t u l q.
          let et : encode_utf8_all u.0 ≡ t = u.1.1 in
          NotAbove-from _ _ (subst₂ Le (sym er) et
          (least cs u.0 c rest w (ap length et ∙ l ∙ ap length ep) (subst₂ Lt es (sym et) (Below-to _ _ q))));
    }

-- ---- what a text ends with
pub EndsWith-same : (p f g : List ℕ) (c d : ℕ) → EndsWith p f c → EndsWith p g d → c ≡ d
EndsWith-same p f g c d h k =
    let fs : List ℕ = h.text.0 in
    let gs : List ℕ = k.text.0 in
    let ef : encode_utf8_all fs ≡ f = h.text.1.1 in
    let eg : encode_utf8_all gs ≡ g = k.text.1.1 in
    let lf : encode_utf8_all (fs ++ c ∷ []) ≡ p = encodes-append fs (c ∷ []) ∙ ap (λ v. encode_utf8_all fs ++ v) (append-nil (encode_utf8 c)) ∙ ap (λ v. v ++ encode_utf8 c) ef ∙ sym h.split in
    let lg : encode_utf8_all (gs ++ d ∷ []) ≡ p = encodes-append gs (d ∷ []) ∙ ap (λ v. encode_utf8_all gs ++ v) (append-nil (encode_utf8 d)) ∙ ap (λ v. v ++ encode_utf8 d) eg ∙ sym k.split in
    (same_from_push fs gs c d (encodes_same _ _ (lf ∙ sym lg))).1

pub EndsWith-long : (p f : List ℕ) (c : ℕ) → EndsWith p f c → 0 < length p
EndsWith-long p f c h = omega (arith, ap length h.split, length-append f (encode_utf8 c), length-encode c, len_utf8_bounds c)

no_next_of_width : (c : ℕ) → HasNoNextOfWidth c → ¬ (IsScalar (c + 1) × (len_utf8 (c + 1) ≡ len_utf8 c))
no_next_of_width c (inl e) h =
    let q : len_utf8 128 ≡ len_utf8 127 = subst (λ v. len_utf8 (v + 1) ≡ len_utf8 v) e h.1 in cc
no_next_of_width c (inr (inl e)) h =
    let q : len_utf8 2048 ≡ len_utf8 2047 = subst (λ v. len_utf8 (v + 1) ≡ len_utf8 v) e h.1 in cc
no_next_of_width c (inr (inr (inl e))) h = let q : IsScalar 55296 = subst (λ v. IsScalar (v + 1)) e h.0 in cc
no_next_of_width c (inr (inr (inr (inl e)))) h =
    let q : len_utf8 65536 ≡ len_utf8 65535 = subst (λ v. len_utf8 (v + 1) ≡ len_utf8 v) e h.1 in cc
no_next_of_width c (inr (inr (inr (inr e)))) h = let q : IsScalar 1114112 = subst (λ v. IsScalar (v + 1)) e h.0 in cc

no_next : (c : ℕ) → HasNoNext c → ¬ (IsScalar (c + 1))
no_next c (inl e) h = let q : IsScalar 55296 = subst (λ v. IsScalar (v + 1)) e h in cc
no_next c (inr e) h = let q : IsScalar 1114112 = subst (λ v. IsScalar (v + 1)) e h in cc

-- a text whose last character has a next one does not stop
pub next_is_free : (p f : List ℕ) (c : ℕ) → EndsWith p f c → IsScalar (c + 1) → ¬ (IsLast p)
next_is_free p f c h n (inl e) = let l = EndsWith-long _ _ _ h in omega arith
next_is_free p f c h n (inr (g, d, k, stops)) =
    no_next c (subst HasNoNext (EndsWith-same _ _ _ _ _ k h) stops) n

pub next_of_width_is_free : (p f : List ℕ) (c : ℕ) → EndsWith p f c → IsScalar (c + 1)
    → len_utf8 (c + 1) ≡ len_utf8 c → ¬ (IsStuck p)
next_of_width_is_free p f c h n w (inl e) = let l = EndsWith-long _ _ _ h in omega arith
next_of_width_is_free p f c h n w (inr (g, d, k, stops)) =
    no_next_of_width c (subst HasNoNextOfWidth (EndsWith-same _ _ _ _ _ k h) stops) (n, w)

next_char_is_free : (p f : List ℕ) (c d : ℕ) → EndsWith p f c → d ≡ c + 1 → IsScalar d → len_utf8 d ≡ len_utf8 c → ¬ (IsStuck p)
next_char_is_free p f c d h e s w =
    next_of_width_is_free p f c h (subst IsScalar e s) (subst (λ v. len_utf8 v ≡ len_utf8 c) e w)

successor_is_not_stuck : (p r : List ℕ) → IsSuccessorOfLength p r → ¬ (IsStuck p)
successor_is_not_stuck p r (h, exact) =
    next_of_width_is_free p h.front h.last h.before h.after.scalar
    (omega (arith, exact, ap length h.before.split, ap length h.after.split, length-append h.front (encode_utf8 h.last), length-append h.front (encode_utf8 (h.last + 1)), length-encode h.last, length-encode (h.last + 1)))

-- ---- what the calls on texts need
pub ends_split : (p f : List ℕ) (c : ℕ) → EndsWith p f c → IsSplitPoint p (length f)
ends_split p f c h = let b = IsCharBoundary-at_seam p f (encode_utf8 c) h.split (IsUtf8-encode c h.scalar) in (b.0, λ _ l. b.1 l)

ends_front : (p f : List ℕ) (c : ℕ) → EndsWith p f c → take (length f) p ≡ f
ends_front p f c h = ap (λ v. take (length f) v) h.split ∙ take-append_seam f (encode_utf8 c)

pub successor_made : (p f r : List ℕ) (c d : ℕ) → EndsWith p f c → d ≡ c + 1 → IsScalar d → r ≡ f ++ encode_utf8 d → IsSuccessor p r
successor_made p f r c d h e s q = record {
  front = f;
  last = c;
  before = h;
  after = record { text = h.text; scalar = subst IsScalar e s; split = q ∙ ap (λ v. f ++ encode_utf8 v) e };
}

pub successor_after_cut : (p f r : List ℕ) (c d : ℕ) → EndsWith p f c → d ≡ c + 1 → IsScalar d → r ≡ take (length f) p ++ encode_utf8 d → IsSuccessor p r
successor_after_cut p f r c d h e s q =
    successor_made p f r c d h e s (q ∙ ap (λ v. v ++ encode_utf8 d) (ends_front p f c h))

pub successor_of_length : (p f : List ℕ) (c d : ℕ) → EndsWith p f c → d ≡ c + 1 → IsScalar d
    → len_utf8 d ≡ len_utf8 c → (¬ (IsStuck p)) × IsSuccessorOfLength p (f ++ encode_utf8 d)
successor_of_length p f c d h e s w = (
  next_char_is_free p f c d h e s w,
  (successor_made p f _ c d h e s refl, omega (arith, w, ap length h.split, length-append f (encode_utf8 c), length-append f (encode_utf8 d), length-encode c, length-encode d)),
)

pub successor_is_upper : (s p r : List ℕ) (n : ℕ) → IsTextLower s n p → IsSuccessorOfLength p r → IsTextUpper s n r
successor_is_upper s p r n h k =
    let e : s ≡ p ++ drop (length p) s =
    sym (ap (λ x. x ++ drop (length p) s) h.is_prefix.beginning ∙ take-append-drop (length p) s) in
    let l = successor_is_least s p (drop (length p) s) r e k in
    record {
      beginning = p;
      is_prefix = h.is_prefix;
      free = successor_is_not_stuck p r k;
      text = l.text;
      exact = k.1;
      above = l.above;
      least = l.least;
    }
