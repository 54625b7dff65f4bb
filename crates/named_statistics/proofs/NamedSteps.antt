-- What is read behind the name of a type, and where bytes are wrong.
use Rattle.std.proofs.Common.{◌≡◌, ◌⊎◌, ◌∙◌, inl, inr, ℕ, zero, suc, ◌+◌, ◌-◌, ◌^◌, ◌<◌, ◌≤◌, List, [], ◌∷◌, ◌++◌, length, length-append, take, drop, get_or, Err, Result, refl, sym, ap, subst, arith}
use Rattle.std.specs.Prelude.{◌↔◌}
use Rattle.std.proofs.Math.Seq.{take-append_seam}
use Rattle.std.proofs.lemmas.List.{append_assoc, append_cancel_left, get_or-take, get_or_append_left, length-drop, length-take-le, take-append-drop, take_all}
use Rattle.vortex_dtype.specs.TypeTree.{TypeTree, extension_type}
use Rattle.vortex_value.specs.TypesWithin.{HasNoVariant}
use Rattle.vortex_statistics.specs.Merging.{nothing}
use Rattle.vortex_statistics.specs.Statistics.{Known}
use Rattle.vortex_statistics.specs.declared.error.StatisticsError.{StatisticsError}
use Rattle.vortex_statistics.specs.declared.error.StatisticsError.TheVariants.{BadBytes, HasVariant, OutOfMemory, TooManyRows}
use Rattle.statistics_bytes.specs.Encoding.{AreOf, IsEncodingOf, encoding}
use Rattle.statistics_bytes.specs.EncodingAnswers.{HasValues, IsBadEncoding, IsFirstWrong, MayGoOn, ReadsRight, SayVariant, SaysBound}
use Rattle.statistics_bytes.proofs.FirstWrong.{Follow, after_front}
use Rattle.named_statistics.specs.Heads.{head_from, head_of, id_byte}
use Rattle.named_statistics.specs.Named.{IsBadNamedEncoding, IsNamedEncodingOf, IsOffsetWithin, IsWrongHead, ReadsNamed, SaysNamedBound, SaysNamedVariant, named_encoding, refusal_from}

-- ---- what is written

pub head_then : (t : TypeTree) (s : Known) (xs : List ℕ) → (xs ++ head_of t) ++ encoding s ≡ xs ++ named_encoding t s
head_then t s xs = append_assoc xs (head_of t) (encoding s)

pub named-length : (t : TypeTree) (s : Known) → length (named_encoding t s) ≡ length (head_of t) + length (encoding s)
named-length t s = length-append (head_of t) (encoding s)

pub ruleset written = (head_then, named-length)

-- ---- a name that the type does not have

no_rows : (t : TypeTree) → IsNamedEncodingOf t (named_encoding t nothing)
no_rows t = record { statistics = nothing; of_type = record { rows = omega arith; nulls = omega arith; lower = tt; upper = tt }; is = refl }

-- the byte at this place is that of the head
at_place : (t : TypeTree) (xs more : List ℕ) (place : ℕ) (s : Known) → place < length xs → place < length (head_of t) → xs ++ more ≡ named_encoding t s → get_or xs place 0 ≡ get_or (head_of t) place 0
at_place t xs more place s inside within e =
    sym (get_or_append_left xs more 0 place inside) ∙ ap (λ (bs : List ℕ). get_or bs place 0) e ∙ get_or_append_left (head_of t) (encoding s) 0 place within

pub wrong_head : (t : TypeTree) (has : Type 0) (bytes : List ℕ) (place : ℕ) → IsWrongHead (head_of t) bytes place → IsFirstWrong (IsNamedEncodingOf t) has bytes place
wrong_head t has bytes place h = record { within = h.ends; before = before; wrong = wrong; none = none }
  where
    before : has → MayGoOn (IsNamedEncodingOf t) (take place bytes)
    before v =
        let all : take place bytes ++ (drop place (head_of t) ++ encoding nothing) ≡ named_encoding t nothing =
        ap (λ (xs : List ℕ). xs ++ (drop place (head_of t) ++ encoding nothing)) h.same ∙ sym (append_assoc (take place (head_of t)) (drop place (head_of t)) (encoding nothing))
        ∙ ap (λ (xs : List ℕ). xs ++ encoding nothing) (take-append-drop place (head_of t)) in
        record { more = drop place (head_of t) ++ encoding nothing; is_one = subst (IsNamedEncodingOf t) (sym all) (no_rows t) }

    wrong : place < length bytes → ¬ (MayGoOn (IsNamedEncodingOf t) (take (suc place) bytes))
    wrong inside go =
        let long : length (take (suc place) bytes) ≡ suc place = length-take-le (suc place) bytes (omega arith) in
        let here : place < length (take (suc place) bytes) = omega arith in
        h.differs inside (sym (get_or-take (suc place) bytes place 0 (omega arith)) ∙ at_place t (take (suc place) bytes) go.more place go.is_one.statistics here h.within go.is_one.is)

    none : ¬ (IsNamedEncodingOf t bytes)
    none one =
        let all = ap length one.is in
        let inside : place < length bytes = omega (arith, all, length-append (head_of t) (encoding one.statistics), h.within) in
        h.differs inside (ap (λ (xs : List ℕ). get_or xs place 0) one.is ∙ get_or_append_left (head_of t) (encoding one.statistics) 0 place h.within)

-- the whole name was found
pub head_found : (head bytes : List ℕ) → length head ≤ length bytes → take (length head) bytes ≡ take (length head) head → bytes ≡ head ++ drop (length head) bytes
head_found head bytes long same =
    let all : take (length head) head ≡ head = ap (take (length head)) (sym (no_more head)) ∙ take-append_seam head [] in
    sym (take-append-drop (length head) bytes) ∙ ap (λ (xs : List ℕ). xs ++ drop (length head) bytes) (same ∙ all)
  where
    no_more : (xs : List ℕ) → xs ++ [] ≡ xs
    no_more [] = refl
    no_more (x ∷ xs) = ap (λ (ys : List ℕ). x ∷ ys) (no_more xs)

-- ---- behind the name

behind : (t : TypeTree) → Follow (head_of t) (IsNamedEncodingOf t) (IsEncodingOf t)
behind t = record {
  join = λ q h. record { statistics = h.statistics; of_type = h.of_type; is = ap (λ (xs : List ℕ). head_of t ++ xs) h.is };
  split = λ q h. record { statistics = h.statistics; of_type = h.of_type; is = append_cancel_left (head_of t) q (encoding h.statistics) h.is };
}

weaker : (Is : List ℕ → Type 0) (has less : Type 0) (bytes : List ℕ) (p : ℕ) → (less → has) → IsFirstWrong Is has bytes p → IsFirstWrong Is less bytes p
weaker Is has less bytes p f h = record { within = h.within; before = λ v. h.before (f v); wrong = h.wrong; none = h.none }

-- the type has this name, and the bytes go on behind it with rest
pub record IsBehind (t : TypeTree) (bytes rest : List ℕ) (start : ℕ) : Type 0 where
  pub is : bytes ≡ head_of t ++ rest
  pub count : start ≡ length (head_of t)

-- of bytes from start on, as a slice has them
pub behind_at : (t : TypeTree) (head bytes : List ℕ) (start : ℕ) → head ≡ head_of t → (start ≤ length bytes) × (start ≡ length head) × (bytes ≡ head ++ drop start bytes) → IsBehind t bytes (take (length bytes - start) (drop start bytes)) start
behind_at t head bytes start made h = record {
  is = h.2 ∙ ap (λ (xs : List ℕ). xs ++ drop start bytes) made ∙ ap (λ (xs : List ℕ). head_of t ++ xs) (sym (take_all (length bytes - start) (drop start bytes) (omega (arith, length-drop start bytes))));
  count = h.1 ∙ ap length made;
}

pub says_named : (t : TypeTree) (bytes rest : List ℕ) (start : ℕ) → IsBehind t bytes rest start → SaysBound rest → SaysNamedBound t bytes
says_named t bytes rest start at says = record { rest = rest; is = at.is; says = says }

pub named_says : (t : TypeTree) (bytes rest : List ℕ) (start : ℕ) → IsBehind t bytes rest start → SaysNamedBound t bytes → SaysBound rest
named_says t bytes rest start at says = subst SaysBound (append_cancel_left (head_of t) says.rest rest (sym says.is ∙ at.is)) says.says

pub encoded : (t : TypeTree) (bytes rest : List ℕ) (start : ℕ) (s : Known) → IsBehind t bytes rest start → bytes ≡ named_encoding t s → rest ≡ encoding s
encoded t bytes rest start s at e = append_cancel_left (head_of t) rest (encoding s) (sym at.is ∙ e)

pub wrong_behind : (t : TypeTree) (bytes rest : List ℕ) (start place : ℕ) → IsBehind t bytes rest start → IsFirstWrong (IsEncodingOf t) (SaysBound rest → HasValues t) rest place
    → IsFirstWrong (IsNamedEncodingOf t) (SaysNamedBound t bytes → HasValues t) bytes (start + place)
wrong_behind t bytes rest start place at h =
    let less = weaker (IsEncodingOf t) _ (SaysNamedBound t bytes → HasValues t) rest place (λ v says. v (says_named t bytes rest start at says)) h in
    let all = after_front (IsNamedEncodingOf t) (IsEncodingOf t) (SaysNamedBound t bytes → HasValues t) (head_of t) rest place (behind t) less in
    let moved = subst (λ (n : ℕ). IsFirstWrong (IsNamedEncodingOf t) (SaysNamedBound t bytes → HasValues t) (head_of t ++ rest) (n + place)) (sym at.count) all in
    subst (λ (bs : List ℕ). IsFirstWrong (IsNamedEncodingOf t) (SaysNamedBound t bytes → HasValues t) bs (start + place)) (sym at.is) moved

-- ---- names are apart

-- no name, or three bytes behind the version
abbrev IsHead : List ℕ → Type 0
IsHead head = (head ≡ []) ⊎ ((a : ℕ) × (b : ℕ) × (c : ℕ) × (head ≡ 2 ∷ a ∷ b ∷ c ∷ []))

from_byte : (n : ℕ) (metadata : List ℕ) → IsHead (head_from n metadata)
from_byte zero metadata = inl refl
from_byte (suc n) metadata = inr (_, _, _, refl)

pub is_head : (t : TypeTree) → IsHead (head_of t)
is_head (extension_type id metadata storage) = from_byte (id_byte id) metadata
is_head _ = inl refl

pub heads_apart : (g h xs ys : List ℕ) → IsHead g → IsHead h → g ++ 1 ∷ xs ≡ h ++ 1 ∷ ys → (g ≡ h) × (1 ∷ xs ≡ 1 ∷ ys)
heads_apart g h xs ys (inl p) (inl q) e = (p ∙ sym q, ap (λ (s : List ℕ). s ++ 1 ∷ xs) (sym p) ∙ e ∙ ap (λ (s : List ℕ). s ++ 1 ∷ ys) q)
heads_apart g h xs ys (inl p) (inr q) e = let both = ap (λ (s : List ℕ). s ++ 1 ∷ xs) (sym p) ∙ e ∙ ap (λ (s : List ℕ). s ++ 1 ∷ ys) q.3 in absurd cc
heads_apart g h xs ys (inr p) (inl q) e = let both = ap (λ (s : List ℕ). s ++ 1 ∷ xs) (sym p.3) ∙ e ∙ ap (λ (s : List ℕ). s ++ 1 ∷ ys) q in absurd cc
heads_apart g h xs ys (inr p) (inr q) e =
    let both : 2 ∷ p.0 ∷ p.1 ∷ p.2 ∷ 1 ∷ xs ≡ 2 ∷ q.0 ∷ q.1 ∷ q.2 ∷ 1 ∷ ys = ap (λ (s : List ℕ). s ++ 1 ∷ xs) (sym p.3) ∙ e ∙ ap (λ (s : List ℕ). s ++ 1 ∷ ys) q.3 in
    let first : p.0 ≡ q.0 = cc in
    let second : p.1 ≡ q.1 = cc in
    let third : p.2 ≡ q.2 = cc in
    let same : 2 ∷ p.0 ∷ p.1 ∷ p.2 ∷ [] ≡ 2 ∷ q.0 ∷ q.1 ∷ q.2 ∷ [] = cc in
    (p.3 ∙ same ∙ sym q.3, cc)

-- an encoding behind its version
abbrev behind_version : Known → List ℕ
behind_version s = drop 1 (encoding s)

pub names_apart : (t u : TypeTree) (s r : Known) → named_encoding t s ≡ named_encoding u r → (head_of t ≡ head_of u) × (encoding s ≡ encoding r)
names_apart t u s r e = heads_apart (head_of t) (head_of u) (behind_version s) (behind_version r) (is_head t) (is_head u) e

-- what was read of the rest is right for what was written as of any type
pub right_behind : (t : TypeTree) (bytes rest : List ℕ) (start : ℕ) (r : Known) → IsBehind t bytes rest start → rest ≡ encoding r → ReadsRight t rest r → ReadsNamed t bytes r
right_behind t bytes rest start r at is h = record {
  contents = λ u s cells held e right. h.contents s cells held (same u s e) right;
  cells = λ u s cells held e typed right. h.cells s cells held (same u s e) typed right;
  complete = λ u s cells held e typed right. h.complete s cells held (same u s e) typed right;
}
  where
    same : (u : TypeTree) (s : Known) → bytes ≡ named_encoding u s → rest ≡ encoding s
    same u s e = is ∙ (names_apart t u r s (ap (λ (xs : List ℕ). head_of t ++ xs) (sym is) ∙ sym at.is ∙ e)).1

-- ---- refusals

pub offset_fits : (start : ℕ) (bytes rest : List ℕ) (t : TypeTree) (e : StatisticsError) → IsBehind t bytes rest start → length bytes < 2 ^ 64
    → IsBadEncoding t rest e → IsOffsetWithin start e
offset_fits start bytes rest t (BadBytes place) at small bad =
    let inside = bad.1.within in
    let all = ap length at.is in
    omega (arith, inside, all, at.count, length-append (head_of t) rest)
offset_fits start bytes rest t OutOfMemory at small bad = tt
offset_fits start bytes rest t HasVariant at small bad = tt
offset_fits start bytes rest t TooManyRows at small bad = tt

abbrev pub not_read : StatisticsError → Result (Unit {0}) StatisticsError
not_read e = Err e

same_refusal : (e f : StatisticsError) → not_read e ≡ not_read f → e ≡ f
same_refusal e f h = cc

bytes_or_variant : (place : ℕ) → BadBytes place ≡ HasVariant → ⊥
bytes_or_variant place e = cc

memory_or_variant : OutOfMemory ≡ HasVariant → ⊥
memory_or_variant e = cc

rows_or_variant : TooManyRows ≡ HasVariant → ⊥
rows_or_variant e = cc

-- a refusal stays one for a variant, or none
variant_kept : (start : ℕ) (e : StatisticsError) → refusal_from start e ≡ HasVariant → e ≡ HasVariant
variant_kept start (BadBytes place) h = absurd (bytes_or_variant (start + place) h)
variant_kept start OutOfMemory h = absurd (memory_or_variant h)
variant_kept start HasVariant h = refl
variant_kept start TooManyRows h = absurd (rows_or_variant h)

pub variant_behind : (t : TypeTree) (bytes rest : List ℕ) (start : ℕ) (e : StatisticsError) → IsBehind t bytes rest start → (not_read e ≡ not_read HasVariant) ↔ ((¬ (HasNoVariant t)) × SaysBound rest)
    → (not_read (refusal_from start e) ≡ not_read HasVariant) ↔ SaysNamedVariant t bytes
variant_behind t bytes rest start e at h = (
  λ is. let w = h.0 (ap not_read (variant_kept start e (same_refusal (refusal_from start e) HasVariant is))) in (w.0, says_named t bytes rest start at w.1),
  λ says. ap not_read (ap (refusal_from start) (same_refusal e HasVariant (h.1 (says.0, named_says t bytes rest start at says.1)))),
)

pub bad_behind : (t : TypeTree) (bytes rest : List ℕ) (start : ℕ) (e : StatisticsError) → IsBehind t bytes rest start → IsBadEncoding t rest e → IsBadNamedEncoding t bytes (refusal_from start e)
bad_behind t bytes rest start e at h = by_cause e h
  where
    no_variant : ¬ (SayVariant t rest) → ¬ (SaysNamedVariant t bytes)
    no_variant other v = other (v.0, named_says t bytes rest start at v.1)

    by_cause : (e : StatisticsError) → IsBadEncoding t rest e → IsBadNamedEncoding t bytes (refusal_from start e)
    by_cause HasVariant v = (v.0, says_named t bytes rest start at v.1)
    by_cause OutOfMemory h = (no_variant h.0, says_named t bytes rest start at h.1)
    by_cause TooManyRows h = h
    by_cause (BadBytes place) h = (no_variant h.0, wrong_behind t bytes rest start place at h.1)

pub whole_behind : (t : TypeTree) (bytes rest : List ℕ) (start : ℕ) (e : StatisticsError) (now : Known) → IsBehind t bytes rest start
    → ((s : Known) → AreOf t s → rest ≡ encoding s → e ≡ OutOfMemory) → (s : Known) → AreOf t s → bytes ≡ named_encoding t s → refusal_from start e ≡ OutOfMemory
whole_behind t bytes rest start e now at h s of is = ap (refusal_from start) (h s of (encoded t bytes rest start s at is))

-- ---- a wrong name is no other refusal

no_bound : (t : TypeTree) (bytes : List ℕ) (place : ℕ) → IsWrongHead (head_of t) bytes place → ¬ (SaysNamedBound t bytes)
no_bound t bytes place h says =
    let all = ap length says.is in
    let inside : place < length bytes = omega (arith, all, length-append (head_of t) says.rest, h.within) in
    h.differs inside (ap (λ (xs : List ℕ). get_or xs place 0) says.is ∙ get_or_append_left (head_of t) says.rest 0 place h.within)

-- a head that was made of the type
pub wrong_at : (t : TypeTree) (head bytes : List ℕ) (e : StatisticsError) → head ≡ head_of t → (place : ℕ) × (e ≡ BadBytes place) × IsWrongHead head bytes place → (place : ℕ) × (e ≡ BadBytes place) × IsWrongHead (head_of t) bytes place
wrong_at t head bytes e made h = (h.0, h.1, subst (λ (xs : List ℕ). IsWrongHead xs bytes h.0) made h.2)

pub head_variant : (t : TypeTree) (bytes : List ℕ) (e : StatisticsError) → (place : ℕ) × (e ≡ BadBytes place) × IsWrongHead (head_of t) bytes place → (not_read e ≡ not_read HasVariant) ↔ SaysNamedVariant t bytes
head_variant t bytes e h = (
  λ is. absurd (bytes_or_variant h.0 (sym h.1 ∙ same_refusal e HasVariant is)),
  λ v. absurd (no_bound t bytes h.0 h.2 v.1),
)

pub head_bad : (t : TypeTree) (bytes : List ℕ) (e : StatisticsError) → (place : ℕ) × (e ≡ BadBytes place) × IsWrongHead (head_of t) bytes place → IsBadNamedEncoding t bytes e
head_bad t bytes e h = subst (IsBadNamedEncoding t bytes) (sym h.1) (λ v. no_bound t bytes h.0 h.2 v.1, wrong_head t _ bytes h.0 h.2)

pub head_whole : (t : TypeTree) (bytes : List ℕ) (e : StatisticsError) → (q : ℕ) × (e ≡ BadBytes q) × IsWrongHead (head_of t) bytes q → (s : Known) → AreOf t s → bytes ≡ named_encoding t s → e ≡ OutOfMemory
head_whole t bytes e h s of is = absurd ((wrong_head t (Unit {0}) bytes h.0 h.2).none (record { statistics = s; of_type = of; is = is }))
