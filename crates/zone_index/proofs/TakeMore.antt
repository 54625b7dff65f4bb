-- A line more is taken.
use Rattle.std.proofs.Common.{◌≡◌, ◌<◌, ◌≤◌, ◌+◌, ◌-◌, ◌⊎◌, inl, inr, ℕ, List, [], ◌∷◌, ◌++◌, ◌==◌, ◌&&◌, not, Bool, true, false, Option, None, Some, IfSome, refl, sym, ap, ◌∙◌, subst, cond, length, min, take, drop, arith, append_assoc, append-nil, drop_at}
use Rattle.std.proofs.lemmas.Bool.{eqb-true}
use Rattle.std.proofs.KnownBytes.{starts_with_rest}
use Rattle.std.specs.Io.{StartsWith, appended_bytes}
use Rattle.std.specs.Io.KnownBytes.{Consumes, IsAtEnd}
use Rattle.std.specs.Io.BufRead.{take_through, drop_through, DropsThrough}
use Rattle.std.specs.List.{onto_first}
use Rattle.std.proofs.lemmas.List.{length-append, take-append-drop}
use Rattle.csv.specs.Machine.{step}
use Rattle.csv.specs.declared.parser.State.{State}
use Rattle.csv.specs.declared.parser.State.TheVariants as st
use Rattle.csv_records.specs.Lemmas.RecordLaws.{EndsRecord, records_of-append, start_is, state_after-append}
use Rattle.csv_records.specs.Records.{is_start, records_from, records_of, state_at}
use Rattle.csv_records.specs.Rows.{config_of, state_after}
use Rattle.csv_records.specs.declared.states.RecordState.{RecordState}
use Rattle.csv_records.specs.declared.states.RecordState.TheVariants as own
use Rattle.zone_index.specs.Taking.{AreWhole, IsTaken}
use lib.Seq.{take-add}

through_step : (x : ℕ) (xs : List ℕ) (b : Bool) → (x == 10) ≡ b → take_through 10 xs ++ drop_through 10 xs ≡ xs → take_through 10 (x ∷ xs) ++ drop_through 10 (x ∷ xs) ≡ x ∷ xs
through_step x xs true e h = rw e refl
through_step x xs false e h = rw e (ap (λ (l : List ℕ). x ∷ l) h)

through_all : (xs : List ℕ) → take_through 10 xs ++ drop_through 10 xs ≡ xs
through_all [] = refl
through_all (x ∷ xs) = through_step x xs (x == 10) refl (through_all xs)

-- bytes that end with a line feed
abbrev EndsWithFeed : List ℕ → Type 0
EndsWithFeed xs = (front : List ℕ) × (xs ≡ front ++ 10 ∷ [])

feed_onto : (x : ℕ) (xs : List ℕ) → EndsWithFeed xs → EndsWithFeed (x ∷ xs)
feed_onto x xs h = (x ∷ h.0, ap (λ (l : List ℕ). x ∷ l) h.1)

feed_after : (xs ys : List ℕ) → EndsWithFeed ys → EndsWithFeed (xs ++ ys)
feed_after xs ys h = (xs ++ h.0, ap (λ (l : List ℕ). xs ++ l) h.1 ∙ sym (append_assoc xs h.0 (10 ∷ [])))

through_ends_step : (x : ℕ) (xs : List ℕ) (b : Bool) → (x == 10) ≡ b → EndsWithFeed (take_through 10 xs) ⊎ (drop_through 10 xs ≡ []) → EndsWithFeed (take_through 10 (x ∷ xs)) ⊎ (drop_through 10 (x ∷ xs) ≡ [])
through_ends_step x xs true e h = rw e (inl ([], ap (λ (y : ℕ). y ∷ []) (eqb-true x 10 e)))
through_ends_step x xs false e (inl h) = rw e (inl (feed_onto x (take_through 10 xs) h))
through_ends_step x xs false e (inr h) = rw e (inr h)

-- what was taken ends with a line feed, or nothing is left
through_ends : (xs : List ℕ) → EndsWithFeed (take_through 10 xs) ⊎ (drop_through 10 xs ≡ [])
through_ends [] = inr refl
through_ends (x ∷ xs) = through_ends_step x xs (x == 10) refl (through_ends xs)

-- ---- how many records

-- the state after a byte
abbrev after : ℕ → State → ℕ → State
after d s c = (step (config_of d) s c).0

-- whether a byte ends a record
abbrev closes : ℕ → State → ℕ → Bool
closes d s c = (c == 10) && is_start (after d s c)

-- how many records end in the bytes
abbrev ends_in : ℕ → State → List ℕ → ℕ
ends_in d s [] = 0
ends_in d s (c ∷ rest) = cond (closes d s c) 1 0 + ends_in d (after d s c) rest

-- whether bytes stand behind the last of these ends, if before the bytes some stand behind one
abbrev is_open : ℕ → State → Bool → List ℕ → Bool
is_open d s b [] = b
is_open d s b (c ∷ rest) = is_open d (after d s c) (not (closes d s c)) rest

ends_in-append : (d : ℕ) (s : State) (xs ys : List ℕ) → ends_in d s (xs ++ ys) ≡ ends_in d s xs + ends_in d (state_after d s xs) ys
ends_in-append d s [] ys = omega arith
ends_in-append d s (c ∷ xs) ys = omega (arith, ends_in-append d (after d s c) xs ys)

is_open-append : (d : ℕ) (s : State) (b : Bool) (xs ys : List ℕ) → is_open d s b (xs ++ ys) ≡ is_open d (state_after d s xs) (is_open d s b xs) ys
is_open-append d s b [] ys = refl
is_open-append d s b (c ∷ xs) ys = is_open-append d (after d s c) (not (closes d s c)) xs ys

second : (a b : Bool) → (a && b) ≡ true → b ≡ true
second true b h = h
second false b h = absurd cc

onto_some : (c : ℕ) (parts : List (List ℕ)) → 0 < length (onto_first c parts)
onto_some c [] = omega arith
onto_some c (part ∷ parts) = omega arith

onto_long : (c : ℕ) (parts : List (List ℕ)) → 0 < length parts → length (onto_first c parts) ≡ length parts
onto_long c [] some = absurd (omega arith)
onto_long c (part ∷ parts) some = refl

some_step : (d : ℕ) (s : State) (c : ℕ) (rest : List ℕ) (t : Bool) → closes d s c ≡ t → 0 < length (records_from d s (c ∷ rest))
some_step d s c rest true e = rw e (omega arith)
some_step d s c rest false e = rw e (onto_some c (records_from d (after d s c) rest))

some_record : (d : ℕ) (s : State) (c : ℕ) (rest : List ℕ) → 0 < length (records_from d s (c ∷ rest))
some_record d s c rest = some_step d s c rest (closes d s c) refl

-- bytes have a record
pub some_records : (d : ℕ) (xs : List ℕ) → 0 < length xs → 0 < length (records_of d xs)
some_records d [] some = absurd (omega arith)
some_records d (x ∷ xs) some = some_record d st.StartRecord x xs

-- as many records as end, and one more if bytes stand behind the last end
abbrev HasCount : ℕ → State → List ℕ → Type 0
HasCount d s xs = length (records_from d s xs) ≡ ends_in d s xs + cond (is_open d s false xs) 1 0

open_count : (d : ℕ) (s : State) (c : ℕ) (rest : List ℕ) → HasCount d s rest → length (onto_first c (records_from d s rest)) ≡ ends_in d s rest + cond (is_open d s true rest) 1 0
open_count d s c [] h = omega arith
open_count d s c (x ∷ rest) h = onto_long c (records_from d s (x ∷ rest)) (some_record d s x rest) ∙ h

count_step : (d : ℕ) (s : State) (c : ℕ) (rest : List ℕ) (t : Bool) → closes d s c ≡ t → HasCount d (after d s c) rest → HasCount d s (c ∷ rest)
count_step d s c rest true e h =
    let start : after d s c ≡ st.StartRecord = start_is (after d s c) (second (c == 10) (is_start (after d s c)) e) in
    let here : length (records_from d st.StartRecord rest) ≡ ends_in d (after d s c) rest + cond (is_open d (after d s c) false rest) 1 0 =
    subst (λ (r : State). length (records_from d r rest) ≡ ends_in d (after d s c) rest + cond (is_open d (after d s c) false rest) 1 0) start h in
    rw e (omega (arith, here))
count_step d s c rest false e h = let open_is = open_count d (after d s c) c rest h in rw e (omega (arith, open_is))

count_is : (d : ℕ) (s : State) (xs : List ℕ) → HasCount d s xs
count_is d s [] = omega arith
count_is d s (c ∷ rest) = count_step d s c rest (closes d s c) refl (count_is d (after d s c) rest)

-- a line that ends a record exactly if one may start behind it
abbrev HasFeed : ℕ → State → List ℕ → Type 0
HasFeed d s line = (ends_in d s line ≡ cond (is_start (state_after d s line)) 1 0) × (is_open d s true line ≡ not (is_start (state_after d s line)))

-- the last line, which ends no record, since it has no line feed
abbrev IsLast : ℕ → State → List ℕ → List ℕ → Type 0
IsLast d s line left = (left ≡ []) × (ends_in d s line ≡ 0) × (is_open d s true line ≡ true)

through_feed : (x : ℕ) (xs : List ℕ) → (x == 10) ≡ true → take_through 10 (x ∷ xs) ≡ x ∷ []
through_feed x xs e = rw e refl

feed_alone : (d : ℕ) (s : State) (x : ℕ) → (x == 10) ≡ true → HasFeed d s (x ∷ [])
feed_alone d s x e = rw e (omega arith, refl)

through_other : (x : ℕ) (xs : List ℕ) → (x == 10) ≡ false → (take_through 10 (x ∷ xs) ≡ x ∷ take_through 10 xs) × (drop_through 10 (x ∷ xs) ≡ drop_through 10 xs)
through_other x xs e = (rw e refl, rw e refl)

line_onto : (d : ℕ) (s : State) (x : ℕ) (line left : List ℕ) → (x == 10) ≡ false → HasFeed d (after d s x) line ⊎ IsLast d (after d s x) line left → HasFeed d s (x ∷ line) ⊎ IsLast d s (x ∷ line) left
line_onto d s x line left e (inl h) = rw e (inl (omega (arith, h.0), h.1))
line_onto d s x line left e (inr h) = rw e (inr (h.0, omega (arith, h.1), h.2))

line_step : (d : ℕ) (s : State) (x : ℕ) (xs : List ℕ) (t : Bool) → (x == 10) ≡ t → HasFeed d (after d s x) (take_through 10 xs) ⊎ IsLast d (after d s x) (take_through 10 xs) (drop_through 10 xs)
    → HasFeed d s (take_through 10 (x ∷ xs)) ⊎ IsLast d s (take_through 10 (x ∷ xs)) (drop_through 10 (x ∷ xs))
line_step d s x xs true e h = subst (λ (line : List ℕ). HasFeed d s line ⊎ IsLast d s line (drop_through 10 (x ∷ xs))) (sym (through_feed x xs e)) (inl (feed_alone d s x e))
line_step d s x xs false e h =
    let p = through_other x xs e in
    subst (λ (left : List ℕ). HasFeed d s (take_through 10 (x ∷ xs)) ⊎ IsLast d s (take_through 10 (x ∷ xs)) left) (sym p.1)
    (subst (λ (line : List ℕ). HasFeed d s line ⊎ IsLast d s line (drop_through 10 xs)) (sym p.0) (line_onto d s x (take_through 10 xs) (drop_through 10 xs) e h))

line_is : (d : ℕ) (s : State) (xs : List ℕ) → HasFeed d s (take_through 10 xs) ⊎ IsLast d s (take_through 10 xs) (drop_through 10 xs)
line_is d s [] = inr (refl, refl, refl)
line_is d s (x ∷ xs) = line_step d s x xs (x == 10) refl (line_is d (after d s x) xs)

some_open : (d : ℕ) (s : State) (b : Bool) (line : List ℕ) → 0 < length line → is_open d s b line ≡ is_open d s true line
some_open d s b [] some = absurd (omega arith)
some_open d s b (x ∷ line) some = refl

-- so many records end in the text that leads to this state, and another one has begun where none may start; or nothing is left,
-- and so many it has with that one
abbrev AreCounted : ℕ → List ℕ → List ℕ → State → ℕ → Type 0
AreCounted d text rest s n = ((rest ≡ []) × (length (records_of d text) ≡ n + cond (is_start s) 0 1))
    ⊎ ((ends_in d st.StartRecord text ≡ n) × (is_open d st.StartRecord false text ≡ not (is_start s)))

cond_not : (b : Bool) → cond {A = ℕ} (not b) 1 0 ≡ cond b 0 1
cond_not true = refl
cond_not false = refl

counted_long : (d : ℕ) (text rest : List ℕ) (s : State) (n : ℕ) → AreCounted d text rest s n → length (records_of d text) ≡ n + cond (is_start s) 0 1
counted_long d text rest s n (inl h) = h.1
counted_long d text rest s n (inr h) =
    let one : cond {A = ℕ} (is_open d st.StartRecord false text) 1 0 ≡ cond (is_start s) 0 1 = ap (λ (b : Bool). cond b 1 0) h.1 ∙ cond_not (is_start s) in
    omega (arith, count_is d st.StartRecord text, h.0, one)

both_conds : (b : Bool) → cond {A = ℕ} b 1 0 + cond {A = ℕ} b 0 1 ≡ 1
both_conds true = refl
both_conds false = refl

through_nil : (xs : List ℕ) → xs ≡ [] → 0 < length (take_through 10 xs) → ⊥
through_nil [] e some = omega arith
through_nil (x ∷ xs) e some = cc

line_counted : (d : ℕ) (text rest : List ℕ) (s next : State) (n m : ℕ) → state_after d st.StartRecord text ≡ s → next ≡ state_after d s (take_through 10 rest) → m ≡ n + cond (is_start next) 1 0 → 0 < length (take_through 10 rest)
    → AreCounted d text rest s n → AreCounted d (text ++ take_through 10 rest) (drop_through 10 rest) next m
line_counted d text rest s next n m leads next_is m_is some (inl h) = absurd (through_nil rest h.0 some)
line_counted d text rest s next n m leads next_is m_is some (inr h) = by_line (line_is d s rest)
  where
    line : List ℕ
    line = take_through 10 rest

    ends : ends_in d st.StartRecord (text ++ line) ≡ n + ends_in d s line
    ends = ends_in-append d st.StartRecord text line ∙ ap (λ (r : State). ends_in d st.StartRecord text + ends_in d r line) leads ∙ ap (λ (k : ℕ). k + ends_in d s line) h.0

    behind : is_open d st.StartRecord false (text ++ line) ≡ is_open d s true line
    behind = is_open-append d st.StartRecord false text line ∙ ap (λ (r : State). is_open d r (is_open d st.StartRecord false text) line) leads ∙ some_open d s (is_open d st.StartRecord false text) line some

    by_line : HasFeed d s line ⊎ IsLast d s line (drop_through 10 rest) → AreCounted d (text ++ line) (drop_through 10 rest) next m
    by_line (inl f) = inr (ends ∙ ap (λ (k : ℕ). n + k) (f.0 ∙ ap (λ (r : State). cond (is_start r) 1 0) (sym next_is)) ∙ sym m_is, behind ∙ f.1 ∙ ap (λ (r : State). not (is_start r)) (sym next_is))
    by_line (inr l) =
        let one : cond {A = ℕ} (is_open d st.StartRecord false (text ++ line)) 1 0 ≡ 1 = ap (λ (b : Bool). cond b 1 0) (behind ∙ l.2) in
        let long : length (records_of d (text ++ line)) ≡ m + cond (is_start next) 0 1 = omega (arith, count_is d st.StartRecord (text ++ line), ends, l.1, one, m_is, both_conds (is_start next)) in
        inl (l.0, long)

-- the text was taken from the front of the bytes, leads to this state, and so many records end in it
pub record Taking (d : ℕ) (bytes text : List ℕ) (left : Option (List ℕ)) (s : State) (n : ℕ) : Type 0 where
  pub rest : List ℕ
  pub is : left ≡ Some rest
  pub parts : bytes ≡ text ++ rest
  pub state : state_after d st.StartRecord text ≡ s
  pub ends : (text ≡ []) ⊎ EndsWithFeed text ⊎ (rest ≡ [])
  pub count : AreCounted d text rest s n

none_counted : (d : ℕ) (text rest : List ℕ) → text ≡ [] → AreCounted d text rest st.StartRecord 0
none_counted d text rest none = inr (ap (ends_in d st.StartRecord) none, ap (is_open d st.StartRecord false) none)

pub taking_none : (d : ℕ) (bytes text : List ℕ) (left : Option (List ℕ)) → text ≡ [] → left ≡ Some bytes → Taking d bytes text left st.StartRecord 0
taking_none d bytes text left none is = record {
  rest = bytes;
  is = is;
  parts = ap (λ (l : List ℕ). l ++ bytes) (sym none);
  state = ap (state_after d st.StartRecord) none;
  ends = inl none;
  count = none_counted d text bytes none;
}

pub taking_more : (d : ℕ) (bytes text more line : List ℕ) (old new : Option (List ℕ)) (s next : State) (n m : ℕ) → Taking d bytes text old s n → IfSome old (λ xs. more ≡ text ++ take_through 10 xs) → DropsThrough old new 10
    → line ≡ drop (length text) more → next ≡ state_after d s line → m ≡ n + cond (is_start next) 1 0 → length text < length more → Taking d bytes more new next m
taking_more d bytes text more line old new s next n m t given drops line_is leads m_is some =
    let front = take_through 10 t.rest in
    let back = drop_through 10 t.rest in
    let more_is : more ≡ text ++ front = subst (λ (o : Option (List ℕ)). IfSome o (λ xs. more ≡ text ++ take_through 10 xs)) t.is given in
    let left_is : new ≡ Some back = subst (λ (o : Option (List ℕ)). IfSome o (λ xs. new ≡ Some (drop_through 10 xs))) t.is drops in
    let line_front : line ≡ front = line_is ∙ ap (drop (length text)) more_is ∙ drop_at text front (length text) refl in
    record {
      rest = back;
      is = left_is;
      parts = t.parts ∙ ap (λ (l : List ℕ). text ++ l) (sym (through_all t.rest)) ∙ sym (append_assoc text front back) ∙ ap (λ (l : List ℕ). l ++ back) (sym more_is);
      state = ap (state_after d st.StartRecord) more_is ∙ state_after-append d st.StartRecord text front ∙ ap (λ (r : State). state_after d r front) t.state ∙ ap (state_after d s) (sym line_front) ∙ sym leads;
      ends = elim (through_ends t.rest) [
        | inl h ↦ inr (inl (subst EndsWithFeed (sym more_is) (feed_after text front h)))
        | inr h ↦ inr (inr h)
      ];
      count = subst (λ (l : List ℕ). AreCounted d l back next m) (sym more_is)
          (line_counted d text t.rest s next n m t.state (leads ∙ ap (state_after d s) line_front) m_is (omega (arith, some, ap length more_is, length-append text front)) t.count);
    }

abbrev Apart : ℕ → List ℕ → List ℕ → Type 0
Apart d text rest = (text ≡ []) ⊎ EndsRecord d text ⊎ (rest ≡ [])

ends_here : (d : ℕ) (text : List ℕ) (s : State) → state_after d st.StartRecord text ≡ s → is_start s ≡ true → EndsWithFeed text → EndsRecord d text
ends_here d text s state start h = record { front = h.0; is = h.1; start = state ∙ start_is s start }

split : (d : ℕ) (text rest : List ℕ) (s : State) → state_after d st.StartRecord text ≡ s → (text ≡ []) ⊎ EndsWithFeed text ⊎ (rest ≡ []) → (is_start s ≡ true) ⊎ (rest ≡ []) → Apart d text rest
split d text rest s state (inl none) whole = inl none
split d text rest s state (inr (inr done)) whole = inr (inr done)
split d text rest s state (inr (inl feed)) (inl start) = inr (inl (ends_here d text s state start feed))
split d text rest s state (inr (inl feed)) (inr done) = inr (inr done)

apart : (d : ℕ) (text rest : List ℕ) → Apart d text rest → records_of d (text ++ rest) ≡ records_of d text ++ records_of d rest
apart d text rest (inl none) = rw none refl
apart d text rest (inr (inl h)) = records_of-append d text rest h
apart d text rest (inr (inr done)) = rw done (ap (records_of d) (append-nil text) ∙ sym (append-nil (records_of d text)))

-- whole records, where one may start, or nothing is left
pub taken : (d : ℕ) (bytes text : List ℕ) (left : Option (List ℕ)) (s : State) (n : ℕ) (t : Taking d bytes text left s n) → (is_start s ≡ true) ⊎ (t.rest ≡ []) → IsTaken d bytes text left
taken d bytes text left s n t whole =
    record {
      rest = t.rest;
      is = t.is;
      parts = t.parts;
      records = ap (records_of d) t.parts ∙ apart d text t.rest (split d text t.rest s t.state t.ends whole);
    }

-- nothing came, since nothing was left
pub stays : (d : ℕ) (bytes text more : List ℕ) (old new : Option (List ℕ)) (s : State) (n : ℕ) → Taking d bytes text old s n → IfSome old (λ xs. more ≡ text ++ take_through 10 xs) → DropsThrough old new 10
    → IsAtEnd old → IsTaken d bytes more new × (more ≡ [] → bytes ≡ []) × (bytes ≡ more) × (length (records_of d more) ≡ n + cond (is_start s) 0 1)
stays d bytes text more old new s n t given drops at_end =
    let done : t.rest ≡ [] = subst IsAtEnd t.is at_end in
    let more_is : more ≡ text ++ take_through 10 t.rest = subst (λ (o : Option (List ℕ)). IfSome o (λ xs. more ≡ text ++ take_through 10 xs)) t.is given in
    let left_is : new ≡ Some (drop_through 10 t.rest) = subst (λ (o : Option (List ℕ)). IfSome o (λ xs. new ≡ Some (drop_through 10 xs))) t.is drops in
    let same : more ≡ text = more_is ∙ ap (λ (l : List ℕ). text ++ take_through 10 l) done ∙ append-nil text in
    let all : bytes ≡ more = t.parts ∙ ap (λ (l : List ℕ). text ++ l) done ∙ append-nil text ∙ sym same in (
      record {
        rest = [];
        is = left_is ∙ ap (λ (l : List ℕ). Some (drop_through 10 l)) done;
        parts = all ∙ sym (append-nil more);
        records = ap (records_of d) all ∙ sym (append-nil (records_of d more));
      },
      λ none. all ∙ none,
      all,
      ap (λ (l : List ℕ). length (records_of d l)) same ∙ counted_long d text t.rest s n t.count,
    )

pub stays_few : (taken size mid n : ℕ) (b : Bool) → taken < size → mid ≡ taken + (cond b 1 0) → n ≤ size - mid → mid + n ≤ size
stays_few taken size mid n true below e few = omega arith
stays_few taken size mid n false below e few = omega arith

-- ---- records without quotes

whole_both : (d : ℕ) (xs ys : List ℕ) → EndsRecord d xs → EndsRecord d ys → EndsRecord d (xs ++ ys)
whole_both d xs ys g h = record {
  front = xs ++ h.front;
  is = ap (λ (l : List ℕ). xs ++ l) h.is ∙ sym (append_assoc xs h.front (10 ∷ []));
  start = state_after-append d st.StartRecord xs ys ∙ ap (λ (r : State). state_after d r ys) g.start ∙ h.start;
}

-- the first record of a text is one
one_record : (d : ℕ) (text : List ℕ) (n : ℕ) → EndsRecord d (take n text) → records_of d text ≡ take n text ∷ records_of d (drop n text) → length (records_of d (take n text)) ≡ 1
one_record d text n h cut =
    let parts : records_of d text ≡ records_of d (take n text) ++ records_of d (drop n text) = ap (records_of d) (sym (take-append-drop n text)) ∙ records_of-append d (take n text) (drop n text) h in
    omega (arith, length-append (records_of d (take n text)) (records_of d (drop n text)), ap length (sym parts ∙ cut))

both_long : (d : ℕ) (xs ys : List ℕ) (k : ℕ) → EndsRecord d xs → length (records_of d xs) ≡ k → length (records_of d ys) ≡ 1 → length (records_of d (xs ++ ys)) ≡ k + 1
both_long d xs ys k h long one = omega (arith, ap length (records_of-append d xs ys h), length-append (records_of d xs) (records_of d ys), long, one)

-- a record more
pub whole_more : (d : ℕ) (bytes line : List ℕ) (end n k : ℕ) → line ≡ drop end bytes → AreWhole d st.StartRecord k (take end bytes) → EndsRecord d (take n line) → records_of d line ≡ take n line ∷ records_of d (drop n line) → AreWhole d st.StartRecord (k + 1) (take (end + n) bytes)
whole_more d bytes line end n k same before h cut =
    subst (AreWhole d st.StartRecord (k + 1)) (sym (take-add end n bytes)) (by_front before)
  where
    next : List ℕ
    next = take n (drop end bytes)

    here : EndsRecord d next
    here = subst (λ (l : List ℕ). EndsRecord d (take n l)) same h

    one : length (records_of d next) ≡ 1
    one = subst (λ (l : List ℕ). length (records_of d (take n l)) ≡ 1) same (one_record d line n h cut)

    by_front : AreWhole d st.StartRecord k (take end bytes) → AreWhole d st.StartRecord (k + 1) (take end bytes ++ next)
    by_front (inl none) =
        let same_next : next ≡ take end bytes ++ next = ap (λ (l : List ℕ). l ++ next) (sym none.0) in
        let long : length (records_of d next) ≡ k + 1 = omega (arith, one, none.1) in
        inr (refl, subst (EndsRecord d) same_next here, subst (λ (l : List ℕ). length (records_of d l) ≡ k + 1) same_next long)
    by_front (inr g) = inr (refl, whole_both d (take end bytes) next g.1 here, both_long d (take end bytes) next k g.1 g.2 one)

-- no bytes stand behind the last of whole records
closed_end : (d : ℕ) (s : State) (b : Bool) (front : List ℕ) → state_after d s (front ++ 10 ∷ []) ≡ st.StartRecord → is_open d s b (front ++ 10 ∷ []) ≡ false
closed_end d s b [] e = ap (λ (r : State). not (is_start r)) e
closed_end d s b (c ∷ front) e = closed_end d (after d s c) (not (closes d s c)) front e

ends_closed : (d : ℕ) (b : Bool) (xs : List ℕ) → EndsRecord d xs → is_open d st.StartRecord b xs ≡ false
ends_closed d b xs h = ap (is_open d st.StartRecord b) h.is ∙ closed_end d st.StartRecord b h.front (ap (state_after d st.StartRecord) (sym h.is) ∙ h.start)

ends_long : (d : ℕ) (xs : List ℕ) (k : ℕ) → EndsRecord d xs → length (records_of d xs) ≡ k → ends_in d st.StartRecord xs ≡ k
ends_long d xs k h long = let none : cond {A = ℕ} (is_open d st.StartRecord false xs) 1 0 ≡ 0 = ap (λ (b : Bool). cond b 1 0) (ends_closed d false xs h) in omega (arith, count_is d st.StartRecord xs, long, none)

feed_some : (d : ℕ) (xs rest : List ℕ) → EndsRecord d xs → [] ≡ xs ++ rest → ⊥
feed_some d xs rest h e = omega (arith, ap length e, length-append xs rest, ap length h.is, length-append h.front (10 ∷ []))

plain_counted : (d : ℕ) (text front rest left : List ℕ) (s : State) (n k : ℕ) → state_after d st.StartRecord text ≡ s → rest ≡ front ++ left → AreWhole d s k front → AreCounted d text rest s n → AreCounted d (text ++ front) left s (n + k)
plain_counted d text front rest left s n k leads is (inl none) count =
    let same : text ≡ text ++ front = sym (append-nil text) ∙ ap (λ (l : List ℕ). text ++ l) (sym none.0) in
    let left_is : rest ≡ left = is ∙ ap (λ (l : List ℕ). l ++ left) none.0 in
    let sum : n ≡ n + k = omega (arith, none.1) in
    subst (AreCounted d (text ++ front) left s) sum (subst (λ (l : List ℕ). AreCounted d l left s n) same (subst (λ (l : List ℕ). AreCounted d text l s n) left_is count))
plain_counted d text front rest left s n k leads is (inr w) (inl h) = absurd (feed_some d front left w.1 (sym h.0 ∙ is))
plain_counted d text front rest left s n k leads is (inr w) (inr h) =
    let start : state_after d st.StartRecord text ≡ st.StartRecord = leads ∙ w.0 in
    let ends : ends_in d (state_after d st.StartRecord text) front ≡ k = ap (λ (r : State). ends_in d r front) start ∙ ends_long d front k w.1 w.2 in
    let behind : is_open d (state_after d st.StartRecord text) (is_open d st.StartRecord false text) front ≡ false = ap (λ (r : State). is_open d r (is_open d st.StartRecord false text) front) start ∙ ends_closed d (is_open d st.StartRecord false text) front w.1 in
    inr (omega (arith, ends_in-append d st.StartRecord text front, h.0, ends), is_open-append d st.StartRecord false text front ∙ behind ∙ sym (ap (λ (r : State). not (is_start r)) w.0))

-- these records follow what was taken
pub taking_plain : (d : ℕ) (bytes text more : List ℕ) (old new : Option (List ℕ)) (s : State) (n k m : ℕ) → Taking d bytes text old s n → StartsWith more text → Consumes old new (appended_bytes text more) → AreWhole d s k (appended_bytes text more) → m ≡ n + k → Taking d bytes more new s m
taking_plain d bytes text more old new s n k m t appends consumes whole m_is =
    by_left new (subst (λ (o : Option (List ℕ)). Consumes o new front) t.is consumes)
  where
    front : List ℕ
    front = appended_bytes text more

    more_is : more ≡ text ++ front
    more_is = starts_with_rest more text appends

    leads : (s ≡ st.StartRecord) × EndsRecord d front × (length (records_of d front) ≡ k) → state_after d s front ≡ s
    leads h = ap (λ (r : State). state_after d r front) h.0 ∙ h.1.start ∙ sym h.0

    state : AreWhole d s k front → state_after d s front ≡ s
    state (inl none) = ap (state_after d s) none.0
    state (inr h) = leads h

    ends : (rest : List ℕ) → t.rest ≡ front ++ rest → AreWhole d s k front → (more ≡ []) ⊎ EndsWithFeed more ⊎ (rest ≡ [])
    ends rest is (inr h) = inr (inl (subst EndsWithFeed (sym more_is) (feed_after text front (h.1.front, h.1.is))))
    ends rest is (inl none) =
        let same : more ≡ text = more_is ∙ ap (λ (l : List ℕ). text ++ l) none.0 ∙ append-nil text in
        let left : t.rest ≡ rest = is ∙ ap (λ (l : List ℕ). l ++ rest) none.0 in
        elim t.ends [
          | inl nothing ↦ inl (same ∙ nothing)
          | inr others ↦ elim others [
            | inl feed ↦ inr (inl (subst EndsWithFeed (sym same) feed))
            | inr done ↦ inr (inr (sym left ∙ done))
          ]
        ]

    count : (rest : List ℕ) → t.rest ≡ front ++ rest → AreCounted d more rest s m
    count rest is = subst (AreCounted d more rest s) (sym m_is) (subst (λ (l : List ℕ). AreCounted d l rest s (n + k)) (sym more_is) (plain_counted d text front t.rest rest s n k t.state is whole t.count))

    by_left : (o : Option (List ℕ)) → Consumes (Some t.rest) o front → Taking d bytes more o s m
    by_left None h = absurd h
    by_left (Some rest) h = record {
      rest = rest;
      is = refl;
      parts = t.parts ∙ ap (λ (l : List ℕ). text ++ l) h ∙ sym (append_assoc text front rest) ∙ ap (λ (l : List ℕ). l ++ rest) (sym more_is);
      state = ap (state_after d st.StartRecord) more_is ∙ state_after-append d st.StartRecord text front ∙ ap (λ (r : State). state_after d r front) t.state ∙ state whole;
      ends = ends rest h whole;
      count = count rest h;
    }

-- as many records were taken as were asked for
pub taken_enough : (d : ℕ) (bytes text : List ℕ) (left : Option (List ℕ)) (s : State) (n size : ℕ) (t : Taking d bytes text left s n) → n ≡ size → is_start s ≡ true → length (records_of d text) ≡ min size (length (records_of d bytes))
taken_enough d bytes text left s n size t enough start =
    let all : IsTaken d bytes text left = taken d bytes text left s n t (inl start) in
    let none : cond {A = ℕ} (is_start s) 0 1 ≡ 0 = ap (λ (b : Bool). cond b 0 1) start in
    omega (arith, counted_long d text t.rest s n t.count, none, enough, ap length all.records, length-append (records_of d text) (records_of d all.rest))

at_most : (b : Bool) → cond {A = ℕ} b 0 1 ≤ 1
at_most true = omega arith
at_most false = omega arith

-- or all that were left
pub taken_all : (d : ℕ) (bytes more : List ℕ) (s : State) (n size : ℕ) → n < size → bytes ≡ more → length (records_of d more) ≡ n + cond (is_start s) 0 1 → length (records_of d more) ≡ min size (length (records_of d bytes))
taken_all d bytes more s n size few all long = omega (arith, few, ap (λ (l : List ℕ). length (records_of d l)) all, long, at_most (is_start s))

-- a record may start where as many were taken as were asked for
pub full_start : (taken size mid n : ℕ) (p : RecordState) → taken < size → mid ≡ taken + (cond (is_start (state_at p)) 1 0) → (0 < n → p ≡ own.StartRecord) → mid + n ≡ size → is_start (state_at p) ≡ true
full_start taken size mid n p below counted fresh e = by_start (is_start (state_at p)) refl
  where
    by_start : (b : Bool) → is_start (state_at p) ≡ b → is_start (state_at p) ≡ true
    by_start true is = is
    by_start false is =
        let same : mid ≡ taken = counted ∙ ap (λ (b : Bool). taken + (cond b 1 0)) is ∙ omega arith in
        ap (λ (q : RecordState). is_start (state_at q)) (fresh (omega (arith, same)))
