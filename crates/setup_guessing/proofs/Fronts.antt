-- Records that were passed, one after another.
use Rattle.std.proofs.Common.{◌≡◌, ◌≢◌, inl, inr, ◌<◌, ◌≤◌, ◌+◌, ◌-◌, ◌==◌, ◌&&◌, min, ℕ, zero, suc, List, [], ◌∷◌, ◌++◌, Bool, true, false, refl, sym, ap, ap₂, ◌∙◌, subst, length, take, drop, drop-drop, arith, append_assoc, append-nil}
use Rattle.std.proofs.lemmas.List.{length-append, take-append-drop}
use Rattle.std.specs.List.{concat, onto_first}
use Rattle.std.specs.Prelude.{if◌then◌else◌}
use Rattle.csv.specs.Machine.{step}
use Rattle.csv.specs.declared.parser.State.{State}
use Rattle.csv.specs.declared.parser.State.TheVariants as st
use Rattle.csv_records.specs.Lemmas.RecordLaws.{concat-records_of}
use Rattle.csv_records.specs.Records.{is_start, records_from, records_of}
use Rattle.csv_records.specs.Rows.{config_of}
use Rattle.setup_guessing.specs.Records.{HasNoNext, IsFront, IsNext}
use lib.Seq.{take-add}

-- ---- a record behind which something stands ends for certain

heads : (x y : List ℕ) (xs ys : List (List ℕ)) → x ∷ xs ≡ y ∷ ys → (x ≡ y) × (xs ≡ ys)
heads x y xs ys e = (cc, cc)

tails : (c : ℕ) (xs ys : List ℕ) → c ∷ xs ≡ c ∷ ys → xs ≡ ys
tails c xs ys e = cc

onto_nil : (c : ℕ) (parts ys : List (List ℕ)) → onto_first c parts ≡ [] ∷ ys → ⊥
onto_nil c [] ys e = cc
onto_nil c (part ∷ parts) ys e = cc

never_nil : (d : ℕ) (s : State) (c : ℕ) (rest : List ℕ) (ys : List (List ℕ)) (t : Bool) → ((c == 10) && is_start (step (config_of d) s c).0) ≡ t → records_from d s (c ∷ rest) ≡ [] ∷ ys → ⊥
never_nil d s c rest ys true e h =
    let opened : (c ∷ []) ∷ records_from d st.StartRecord rest ≡ [] ∷ ys = rw e at h in
    cc
never_nil d s c rest ys false e h = onto_nil c (records_from d (step (config_of d) s c).0 rest) ys (rw e at h)

unput : (c : ℕ) (parts : List (List ℕ)) (line : List ℕ) (others : List (List ℕ)) → others ≢ [] → onto_first c parts ≡ (c ∷ line) ∷ others → parts ≡ line ∷ others
unput c [] line others some e = absurd (some (sym (heads (c ∷ []) (c ∷ line) [] others e).1))
unput c (part ∷ parts) line others some e =
    let h = heads (c ∷ part) (c ∷ line) parts others e in
    ap₂ (λ (x : List ℕ) (xs : List (List ℕ)). x ∷ xs) (tails c part line h.0) h.1

has_some : (d : ℕ) (after : List ℕ) → after ≢ [] → records_of d after ≢ []
has_some d after some none = some (sym (concat-records_of d after) ∙ ap concat none)

ends_step : (d : ℕ) (s : State) (c : ℕ) (line after more : List ℕ) (t : Bool) → ((c == 10) && is_start (step (config_of d) s c).0) ≡ t → after ≢ []
    → (records_from d (step (config_of d) s c).0 (line ++ after) ≡ line ∷ records_of d after → records_from d (step (config_of d) s c).0 (line ++ more) ≡ line ∷ records_of d more)
    → records_from d s (c ∷ line ++ after) ≡ (c ∷ line) ∷ records_of d after → records_from d s (c ∷ line ++ more) ≡ (c ∷ line) ∷ records_of d more
ends_step d s c line after more true e some later h =
    let opened : (c ∷ []) ∷ records_from d st.StartRecord (line ++ after) ≡ (c ∷ line) ∷ records_of d after = rw e at h in
    let none : [] ≡ line = tails c [] line (heads (c ∷ []) (c ∷ line) (records_from d st.StartRecord (line ++ after)) (records_of d after) opened).0 in
    rw e (ap₂ (λ (x y : List ℕ). (c ∷ x) ∷ records_of d (y ++ more)) none (sym none))
ends_step d s c line after more false e some later h =
    let opened : onto_first c (records_from d (step (config_of d) s c).0 (line ++ after)) ≡ (c ∷ line) ∷ records_of d after = rw e at h in
    rw e (ap (onto_first c) (later (unput c (records_from d (step (config_of d) s c).0 (line ++ after)) line (records_of d after) (has_some d after some) opened)))

ends_from : (d : ℕ) (s : State) (line after more : List ℕ) → after ≢ [] → records_from d s (line ++ after) ≡ line ∷ records_of d after → records_from d s (line ++ more) ≡ line ∷ records_of d more
ends_from d s [] [] more some h = absurd (some refl)
ends_from d s [] (c ∷ after) more some h = absurd (never_nil d s c after (records_of d (c ∷ after)) ((c == 10) && is_start (step (config_of d) s c).0) refl h)
ends_from d s (c ∷ line) after more some h =
    ends_step d s c line after more ((c == 10) && is_start (step (config_of d) s c).0) refl some (ends_from d (step (config_of d) s c).0 line after more some) h

-- ---- one record more

-- whatever follows the bytes, their records stay
abbrev pub AreClosed : ℕ → List ℕ → Type 0
AreClosed d front = (more : List ℕ) → records_of d (front ++ more) ≡ records_of d front ++ records_of d more

-- so many records stand in front
pub record IsFrontSoFar (d : ℕ) (is_all : Bool) (text front rest : List ℕ) (n : ℕ) : Type 0 where
  pub parts : text ≡ front ++ rest
  pub records : records_of d text ≡ records_of d front ++ records_of d rest
  pub many : length (records_of d front) ≡ n
  pub ongoing : rest ≢ [] → AreClosed d front
  pub certain : is_all ≡ false → AreClosed d front
  pub left : is_all ≡ false → 0 < n → rest ≢ []

pub front_none : (d : ℕ) (is_all : Bool) (text : List ℕ) → IsFrontSoFar d is_all text [] text 0
front_none d is_all text = record {
  parts = refl;
  records = refl;
  many = refl;
  ongoing = λ some more. refl;
  certain = λ unended more. refl;
  left = λ unended none. absurd (omega (arith, none));
}

-- the record behind a front, alone
alone : (d : ℕ) (line after : List ℕ) → records_of d (line ++ after) ≡ line ∷ records_of d after → records_of d line ≡ line ∷ []
alone d line [] own = ap (records_of d) (sym (append-nil line)) ∙ own
alone d line (c ∷ after) own = ap (records_of d) (sym (append-nil line)) ∙ ends_from d st.StartRecord line (c ∷ after) [] (λ e. cc) own

closed_more : (d : ℕ) (front line after : List ℕ) → AreClosed d front → records_of d (line ++ after) ≡ line ∷ records_of d after → after ≢ [] → AreClosed d (front ++ line)
closed_more d front line after closed own some more =
    let one : records_of d (line ++ more) ≡ line ∷ records_of d more = ends_from d st.StartRecord line after more some own in
    let front_is : records_of d (front ++ line) ≡ records_of d front ++ line ∷ [] = closed line ∙ ap (λ (l : List (List ℕ)). records_of d front ++ l) (alone d line after own) in
    ap (records_of d) (append_assoc front line more) ∙ closed (line ++ more)
    ∙ ap (λ (l : List (List ℕ)). records_of d front ++ l) one
    ∙ sym (append_assoc (records_of d front) (line ∷ []) (records_of d more))
    ∙ ap (λ (l : List (List ℕ)). l ++ records_of d more) (sym front_is)

pub front_more : (d : ℕ) (is_all : Bool) (text front line after : List ℕ) (n : ℕ) → IsFrontSoFar d is_all text front (line ++ after) n → records_of d (line ++ after) ≡ line ∷ records_of d after → line ++ after ≢ [] → (is_all ≡ false → after ≢ []) → IsFrontSoFar d is_all text (front ++ line) after (n + 1)
front_more d is_all text front line after n h own some whole =
    let closed = h.ongoing some in
    let front_is : records_of d (front ++ line) ≡ records_of d front ++ line ∷ [] = closed line ∙ ap (λ (l : List (List ℕ)). records_of d front ++ l) (alone d line after own) in
    record {
      parts = h.parts ∙ sym (append_assoc front line after);
      records = h.records ∙ ap (λ (l : List (List ℕ)). records_of d front ++ l) own ∙ sym (append_assoc (records_of d front) (line ∷ []) (records_of d after)) ∙ ap (λ (l : List (List ℕ)). l ++ records_of d after) (sym front_is);
      many = ap length front_is ∙ length-append (records_of d front) (line ∷ []) ∙ ap (λ (m : ℕ). m + 1) h.many;
      ongoing = λ more_left. closed_more d front line after closed own more_left;
      certain = λ unended. closed_more d front line after closed own (whole unended);
      left = λ unended many. whole unended;
    }

-- by places
pub placed_more : (d : ℕ) (is_all : Bool) (text : List ℕ) (end k n : ℕ) → end ≤ length text → IsFrontSoFar d is_all text (take end text) (drop end text) n → IsNext d is_all (drop end text) k → IsFrontSoFar d is_all text (take (end + k) text) (drop (end + k) text) (n + 1)
placed_more d is_all text end k n inside h next =
    let line = take k (drop end text) in
    let after = drop k (drop end text) in
    let parts : line ++ after ≡ drop end text = take-append-drop k (drop end text) in
    let before : IsFrontSoFar d is_all text (take end text) (line ++ after) n = subst (λ (l : List ℕ). IsFrontSoFar d is_all text (take end text) l n) (sym parts) h in
    let own : records_of d (line ++ after) ≡ line ∷ records_of d after = ap (records_of d) parts ∙ next.cut in
    let more = front_more d is_all text (take end text) line after n before own (λ none. next.some (sym parts ∙ none)) next.whole in
    let front_is : take end text ++ line ≡ take (end + k) text = sym (take-add end k text) in
    let rest_is : after ≡ drop (end + k) text = drop-drop k end text in
    subst (λ (l : List ℕ). IsFrontSoFar d is_all text (take (end + k) text) l (n + 1)) rest_is (subst (λ (l : List ℕ). IsFrontSoFar d is_all text l after (n + 1)) front_is more)

-- ---- enough, or no more

certain_of : (d : ℕ) (is_all : Bool) (text front rest : List ℕ) (n : ℕ) → IsFrontSoFar d is_all text front rest n → is_all ≡ false → (more : List ℕ) → records_of d (text ++ more) ≡ records_of d front ++ records_of d (rest ++ more)
certain_of d is_all text front rest n h unended more =
    ap (records_of d) (ap (λ (l : List ℕ). l ++ more) h.parts ∙ append_assoc front rest more) ∙ h.certain unended (rest ++ more)

long_some : (xs : List (List ℕ)) → xs ≢ [] → 1 ≤ length xs
long_some [] some = absurd (some refl)
long_some (x ∷ xs) some = omega arith

-- as many as were asked for
pub front_full : (d : ℕ) (is_all : Bool) (text front rest : List ℕ) (n count : ℕ) → IsFrontSoFar d is_all text front rest n → n ≡ count → IsFront d count is_all text front rest
front_full d true text front rest n count h full =
    let all : length (records_of d text) ≡ length (records_of d front) + length (records_of d rest) = ap length h.records ∙ length-append (records_of d front) (records_of d rest) in
    record { parts = h.parts; records = h.records; many = omega (arith, all, h.many, full); certain = certain_of d true text front rest n h }
front_full d false text front rest zero count h full =
    record { parts = h.parts; records = h.records; many = omega (arith, h.many, full); certain = certain_of d false text front rest zero h }
front_full d false text front rest (suc n) count h full =
    let all : length (records_of d text) ≡ length (records_of d front) + length (records_of d rest) = ap length h.records ∙ length-append (records_of d front) (records_of d rest) in
    let some : 1 ≤ length (records_of d rest) = long_some (records_of d rest) (has_some d rest (h.left refl (omega arith))) in
    record { parts = h.parts; records = h.records; many = omega (arith, all, h.many, full, some); certain = certain_of d false text front rest (suc n) h }

no_more : (d : ℕ) (is_all : Bool) (text front rest : List ℕ) (n count : ℕ) → IsFrontSoFar d is_all text front rest n → n ≤ count → HasNoNext d is_all rest → length (records_of d front) ≡ min count (length (records_of d text) - (if is_all then 0 else 1))
no_more d true text front rest n count h few (inl none) =
    let all : length (records_of d text) ≡ length (records_of d front) + length (records_of d rest) = ap length h.records ∙ length-append (records_of d front) (records_of d rest) in
    let ended : length (records_of d rest) ≡ 0 = ap (λ (l : List ℕ). length (records_of d l)) none in
    omega (arith, all, ended, h.many, few)
no_more d false text front rest zero count h few (inl none) =
    let all : length (records_of d text) ≡ length (records_of d front) + length (records_of d rest) = ap length h.records ∙ length-append (records_of d front) (records_of d rest) in
    let ended : length (records_of d rest) ≡ 0 = ap (λ (l : List ℕ). length (records_of d l)) none in
    omega (arith, all, ended, h.many, few)
no_more d false text front rest (suc n) count h few (inl none) = absurd (h.left refl (omega arith) none)
no_more d true text front rest n count h few (inr last) =
    let never : true ≡ false = last.0 in
    absurd cc
no_more d false text front rest n count h few (inr last) =
    let all : length (records_of d text) ≡ length (records_of d front) + length (records_of d rest) = ap length h.records ∙ length-append (records_of d front) (records_of d rest) in
    let one : length (records_of d rest) ≡ 1 = ap length last.1 in
    omega (arith, all, one, h.many, few)

pub front_ended : (d : ℕ) (is_all : Bool) (text front rest : List ℕ) (n count : ℕ) → IsFrontSoFar d is_all text front rest n → n ≤ count → HasNoNext d is_all rest → IsFront d count is_all text front rest
front_ended d is_all text front rest n count h few none =
    record { parts = h.parts; records = h.records; many = no_more d is_all text front rest n count h few none; certain = certain_of d is_all text front rest n h }
