-- What a record is does not hang on what follows it.
use Rattle.std.proofs.Common.{◌≡◌, ℕ, List, [], ◌∷◌, ◌++◌, ◌==◌, ◌&&◌, Bool, true, false, refl, sym, ap, ◌∙◌, subst}
use Rattle.std.specs.List.{concat, onto_first}
use Rattle.csv.specs.Machine.{step}
use Rattle.csv.specs.declared.parser.State.{State}
use Rattle.csv.specs.declared.parser.State.TheVariants as st
use Rattle.csv_records.specs.Records.{is_start, records_from, records_of}
use Rattle.csv_records.specs.Rows.{config_of, state_after}

pub state_after-append : (d : ℕ) (s : State) (xs ys : List ℕ) → state_after d s (xs ++ ys) ≡ state_after d (state_after d s xs) ys
state_after-append d s [] ys = refl
state_after-append d s (x ∷ xs) ys = state_after-append d (step (config_of d) s x).0 xs ys

pub start_is : (s : State) → is_start s ≡ true → s ≡ st.StartRecord
start_is st.StartRecord h = refl
start_is st.AfterCr h = absurd cc
start_is st.InComment h = absurd cc
start_is st.StartField h = absurd cc
start_is st.InField h = absurd cc
start_is st.InQuoted h = absurd cc
start_is st.AfterQuote h = absurd cc
start_is st.InEscape h = absurd cc

second : (a b : Bool) → (a && b) ≡ true → b ≡ true
second true b h = h
second false b h = absurd cc

concat_onto : (b : ℕ) (parts : List (List ℕ)) → concat (onto_first b parts) ≡ b ∷ concat parts
concat_onto b [] = refl
concat_onto b (part ∷ parts) = refl

concat_step : (d : ℕ) (c : ℕ) (next : State) (rest : List ℕ) (t : Bool) → ((c == 10) && is_start next) ≡ t → concat (records_from d st.StartRecord rest) ≡ rest → concat (records_from d next rest) ≡ rest
    → (before : State) → (step (config_of d) before c).0 ≡ next → concat (records_from d before (c ∷ rest)) ≡ c ∷ rest
concat_step d c next rest true e start on before is = rw (is, e) (ap (λ (l : List ℕ). c ∷ l) start)
concat_step d c next rest false e start on before is = rw (is, e) (concat_onto c (records_from d next rest) ∙ ap (λ (l : List ℕ). c ∷ l) on)

concat-records_from : (d : ℕ) (s : State) (xs : List ℕ) → concat (records_from d s xs) ≡ xs
concat-records_from d s [] = refl
concat-records_from d s (c ∷ rest) =
    let next = (step (config_of d) s c).0 in
    concat_step d c next rest ((c == 10) && is_start next) refl (concat-records_from d st.StartRecord rest) (concat-records_from d next rest) s refl

-- a text is its records
pub concat-records_of : (d : ℕ) (xs : List ℕ) → concat (records_of d xs) ≡ xs
concat-records_of d xs = concat-records_from d st.StartRecord xs

-- ---- the end of a record

abbrev IsSome : List (List ℕ) → Type 0
IsSome parts = (first : List ℕ) × (others : List (List ℕ)) × (parts ≡ first ∷ others)

onto_some : (x : ℕ) (parts : List (List ℕ)) → IsSome (onto_first x parts)
onto_some x [] = (x ∷ [], [], refl)
onto_some x (part ∷ parts) = (x ∷ part, parts, refl)

some_step : (d : ℕ) (s : State) (c : ℕ) (rest : List ℕ) (t : Bool) → ((c == 10) && is_start (step (config_of d) s c).0) ≡ t → IsSome (records_from d s (c ∷ rest))
some_step d s c rest true e = rw e (c ∷ [], records_from d st.StartRecord rest, refl)
some_step d s c rest false e = rw e (onto_some c (records_from d (step (config_of d) s c).0 rest))

some_record : (d : ℕ) (s : State) (c : ℕ) (rest : List ℕ) → IsSome (records_from d s (c ∷ rest))
some_record d s c rest = some_step d s c rest ((c == 10) && is_start (step (config_of d) s c).0) refl

some_before : (d : ℕ) (s : State) (front : List ℕ) → IsSome (records_from d s (front ++ 10 ∷ []))
some_before d s [] = some_record d s 10 []
some_before d s (c ∷ front) = some_record d s c (front ++ 10 ∷ [])

onto-append : (x : ℕ) (xs ys : List (List ℕ)) → IsSome xs → onto_first x (xs ++ ys) ≡ onto_first x xs ++ ys
onto-append x xs ys some = rw some.2 refl

-- records up to a line feed after which a record may start
abbrev Closes : ℕ → State → List ℕ → List ℕ → Type 0
Closes d s xs ys = records_from d s (xs ++ ys) ≡ records_from d s xs ++ records_of d ys

closes_step : (d : ℕ) (s : State) (c : ℕ) (front ys : List ℕ) (t : Bool) → ((c == 10) && is_start (step (config_of d) s c).0) ≡ t
    → Closes d (step (config_of d) s c).0 (front ++ 10 ∷ []) ys → Closes d s (c ∷ front ++ 10 ∷ []) ys
closes_step d s c front ys true e h =
    let start : (step (config_of d) s c).0 ≡ st.StartRecord = start_is (step (config_of d) s c).0 (second (c == 10) (is_start (step (config_of d) s c).0) e) in
    let at : Closes d st.StartRecord (front ++ 10 ∷ []) ys = subst (λ (r : State). Closes d r (front ++ 10 ∷ []) ys) start h in
    rw e (ap (λ (parts : List (List ℕ)). (c ∷ []) ∷ parts) at)
closes_step d s c front ys false e h =
    rw e (ap (onto_first c) h ∙ onto-append c (records_from d (step (config_of d) s c).0 (front ++ 10 ∷ [])) (records_of d ys) (some_before d (step (config_of d) s c).0 front))

closes_from : (d : ℕ) (s : State) (front ys : List ℕ) → state_after d s (front ++ 10 ∷ []) ≡ st.StartRecord → Closes d s (front ++ 10 ∷ []) ys
closes_from d s [] ys e = rw e refl
closes_from d s (c ∷ front) ys e =
    closes_step d s c front ys ((c == 10) && is_start (step (config_of d) s c).0) refl (closes_from d (step (config_of d) s c).0 front ys e)

-- a text after which a record may start: nothing, or one that ends with a line feed there
pub record EndsRecord (d : ℕ) (xs : List ℕ) : Type 0 where
  pub front : List ℕ
  pub is : xs ≡ front ++ 10 ∷ []
  pub start : state_after d st.StartRecord xs ≡ st.StartRecord

pub records_of-append : (d : ℕ) (xs ys : List ℕ) → EndsRecord d xs → records_of d (xs ++ ys) ≡ records_of d xs ++ records_of d ys
records_of-append d xs ys h =
    let at : Closes d st.StartRecord (h.front ++ 10 ∷ []) ys = closes_from d st.StartRecord h.front ys (ap (state_after d st.StartRecord) (sym h.is) ∙ h.start) in
    subst (λ (l : List ℕ). Closes d st.StartRecord l ys) (sym h.is) at
