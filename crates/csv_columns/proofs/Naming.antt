-- Names among others.
use Rattle.std.proofs.Common.{Bool, true, false, ◌≡◌, ◌≢◌, ◌<◌, ◌≤◌, ◌+◌, ◌⊎◌, ℕ, List, [], ◌∷◌, ◌++◌, length, get_or, take, subst, arith, ◌∙◌, ap, sym, refl, replicate, below_more}
use Rattle.std.specs.Prelude.{All, AllPairs, Contains}
use Rattle.std.specs.List.{sum_by}
use Rattle.std.proofs.lemmas.List.{append_assoc, get_or-map, get_or-take, get_or_append_left, get_or_default, get_or_push, length-append, length-map, length-take-le, map-append, replicate_more, take-append-le}
use Rattle.std.proofs.lemmas.List.Elements.{All-append, All-cons, All-from_recursion, All-push, All-replicate}
use Rattle.std.proofs.lemmas.List.Quantifiers.{all_pairs_push}
use Rattle.std.proofs.lemmas.List.Sums.{get_or-le-sum_by}
use Rattle.std.proofs.Math.Seq.{take-append_seam}
use Rattle.std.specs.Prelude.{codes, min, string_bytes}
use Rattle.std.specs.declared.string.String.{String}
use Rattle.std.specs.Global.{Global}
use Rattle.csv_columns.specs.Names.{AreGivenOrMade, IsFirstFree, IsName, made_up, texts}
use Rattle.csv_columns.proofs.Clear.{decimal_lacks}

-- a name that is one of these is no longer than all of them
pub length-le_all : (xs : List (List ℕ)) (x : List ℕ) → Contains xs x → length x ≤ sum_by length xs
length-le_all xs x found =
    let is : length (get_or xs found.0 x) ≡ length x = ap length found.2 in
    let fits : length (get_or xs found.0 x) ≤ sum_by length xs = get_or-le-sum_by length xs found.0 x found.1 in
    omega arith

pub true_is_not : (b : Bool) → b ≡ true → b ≡ false → ⊥
true_is_not b is_true is_false = cc

-- the name is the first one with so many marks behind it; with fewer it is one of these
abbrev pub IsMarked : List (List ℕ) → List (List ℕ) → List ℕ → List ℕ → Type 0
IsMarked given names first name =
    (count : ℕ) × (name ≡ first ++ replicate count 95)
    × ((n : ℕ) → n < count → Contains given (first ++ replicate n 95) ⊎ Contains names (first ++ replicate n 95))

pub one_more_mark : (given names : List (List ℕ)) (first name more : List ℕ) → IsMarked given names first name → more ≡ name ++ 95 ∷ [] → Contains given name ⊎ Contains names name → IsMarked given names first more
one_more_mark given names first name more marked is found = (
  marked.0 + 1,
  is ∙ ap (λ (x : List ℕ). x ++ 95 ∷ []) marked.1 ∙ append_assoc first (replicate marked.0 95) (95 ∷ []) ∙ ap (λ (x : List ℕ). first ++ x) (replicate_more marked.0 95),
  below_more (λ n. Contains given (first ++ replicate n 95) ⊎ Contains names (first ++ replicate n 95)) marked.0 marked.2
      (subst (λ (x : List ℕ). Contains given x ⊎ Contains names x) marked.1 found),
)

-- the names so far: each is one, they are apart, and of those that are given each stands at its place
pub record IsNaming (given names : List (List ℕ)) : Type 0 where
  pub valid : All IsName names
  pub distinct : AllPairs (λ a b. a ≢ b) names
  pub own : (k : ℕ) → k < length names → Contains given (get_or names k []) → get_or names k [] ≡ get_or given k []
  pub kept : (k : ℕ) → k < length names → k < length given → IsName (get_or given k []) → ¬ (Contains (take k given) (get_or given k [])) → get_or names k [] ≡ get_or given k []

pub naming_begun : (given old : List (String Global)) → old ≡ [] → IsNaming (texts given) (texts old)
naming_begun given old none = subst (λ (l : List (String Global)). IsNaming (texts given) (texts l)) (sym none) (record {
  valid = λ k d h. absurd (omega (arith, h));
  distinct = λ i j d first h. absurd (omega (arith, h));
  own = λ k h. absurd (omega (arith, h));
  kept = λ k h. absurd (omega (arith, h));
})

-- a name that stands before this place, among those so far, is given before it
pub given_before : (given names : List (List ℕ)) (x : List ℕ) → IsNaming given names → length names < length given → x ≡ get_or given (length names) [] → Contains names x → Contains (take (length names) given) x
given_before given names x naming more is found =
    let k : ℕ = found.0 in
    let here : get_or names k [] ≡ x = get_or_default names k [] x found.1 ∙ found.2 in
    let among : Contains given (get_or names k []) =
    (length names, more, get_or_default given (length names) (get_or names k []) [] more ∙ sym is ∙ sym here) in
    let at_place : get_or names k [] ≡ get_or given k [] = naming.own k found.1 among in
    let long : length (take (length names) given) ≡ length names = length-take-le (length names) given (omega arith) in
    (k, omega arith, get_or-take (length names) given k x found.1 ∙ get_or_default given k x [] (omega arith) ∙ sym at_place ∙ here)

-- one name more
pub naming_push : (given names : List (List ℕ)) (name : List ℕ) → IsNaming given names → IsName name → ¬ (Contains names name)
    → (Contains given name → name ≡ get_or given (length names) [])
    → (length names < length given → IsName (get_or given (length names) []) → ¬ (Contains names (get_or given (length names) [])) → name ≡ get_or given (length names) [])
    → IsNaming given (names ++ name ∷ [])
naming_push given names name naming valid other own kept =
    let last : get_or (names ++ name ∷ []) (length names) [] ≡ name = get_or_push names name [] (length names) refl in
    let long : length (names ++ name ∷ []) ≡ length names + 1 = length-append names (name ∷ []) in
    record {
      valid = All-push IsName names name naming.valid valid;
      distinct = all_pairs_push (λ a b. a ≢ b) names name naming.distinct (λ k d h is. other (k, h, get_or_default names k name d h ∙ is));
      own = λ k h. below_more (λ k. Contains given (get_or (names ++ name ∷ []) k []) → get_or (names ++ name ∷ []) k [] ≡ get_or given k []) (length names)
          (λ k h. rw (get_or_append_left names (name ∷ []) [] k h) (naming.own k h))
          (rw last own) k (omega arith);
      kept = λ k h. below_more (λ k. k < length given → IsName (get_or given k []) → ¬ (Contains (take k given) (get_or given k [])) → get_or (names ++ name ∷ []) k [] ≡ get_or given k []) (length names)
          (λ k h. rw (get_or_append_left names (name ∷ []) [] k h) (naming.kept k h))
          (λ more is_name first. last ∙ kept more is_name (λ found. first (given_before given names _ naming more refl found))) k (omega arith);
    }

-- marks behind a name
pub marked_is_name : (first name : List ℕ) (n : ℕ) → IsName first → name ≡ first ++ replicate n 95 → IsName name
marked_is_name first name n named is =
    subst IsName (sym is) (record {
      some = simp length-append (omega (arith, named.some));
      one_line = All-append (λ b. b ≢ 10) first (replicate n 95) named.one_line (All-replicate (λ b. b ≢ 10) n 95 (λ e. absurd (omega arith)));
    })

pub made_up_is_name : (b : Bool) (place : ℕ) → IsName (made_up b place)
made_up_is_name true place = record {
  some = omega arith;
  one_line = All-cons (λ b. b ≢ 10) 36 _ (λ e. absurd (omega arith)) (decimal_lacks 10 (omega arith) (min (place + 1) 18446744073709551615) (omega arith));
}
made_up_is_name false place = record {
  some = omega arith;
  one_line = All-from_recursion (λ b. b ≢ 10) (codes "line") ((λ e. absurd (omega arith)), ((λ e. absurd (omega arith)), ((λ e. absurd (omega arith)), ((λ e. absurd (omega arith)), tt))));
}

-- the text of a name in a list
pub text_at : (given : List (String Global)) (k : ℕ) (x : String Global) (name : List ℕ) → k < length given → x ≡ get_or given k x → name ≡ string_bytes x → name ≡ get_or (texts given) k []
text_at given k x name h is same = same ∙ ap string_bytes is ∙ sym (get_or-map string_bytes given k x [] h)

-- the same of the strings at hand
pub naming_next : (given old : List (String Global)) (name : String Global) (new : List (String Global)) (place : ℕ) → IsNaming (texts given) (texts old) → length old ≡ place → new ≡ old ++ name ∷ []
    → IsName (string_bytes name) → ¬ (Contains (texts old) (string_bytes name))
    → (Contains (texts given) (string_bytes name) → string_bytes name ≡ get_or (texts given) place [])
    → (place < length given → IsName (get_or (texts given) place []) → ¬ (Contains (texts old) (get_or (texts given) place [])) → string_bytes name ≡ get_or (texts given) place [])
    → IsNaming (texts given) (texts new)
naming_next given old name new place naming long is valid other own kept =
    let here : length (texts old) ≡ place = length-map old string_bytes ∙ long in
    let wide : length (texts given) ≡ length given = length-map given string_bytes in
    subst (IsNaming (texts given)) (sym (ap texts is ∙ map-append string_bytes old (name ∷ [])))
    (naming_push (texts given) (texts old) (string_bytes name) naming valid other
    (λ found. own found ∙ ap (λ (k : ℕ). get_or (texts given) k []) (sym here))
    (λ more is_name first.
    kept (omega arith)
    (subst (λ (k : ℕ). IsName (get_or (texts given) k [])) here is_name)
    (subst (λ (k : ℕ). ¬ (Contains (texts old) (get_or (texts given) k []))) here first)
    ∙ ap (λ (k : ℕ). get_or (texts given) k []) (sym here)))

-- no name is there yet
pub made_begun : (b : Bool) (given old : List (String Global)) → old ≡ [] → AreGivenOrMade b (texts given) (texts old)
made_begun b given old none = subst (λ (l : List (String Global)). AreGivenOrMade b (texts given) (texts l)) (sym none) (λ k h. absurd (omega (arith, h)))

-- one name more is given or made up as well
made_push : (b : Bool) (given names : List (List ℕ)) (name : List ℕ) → AreGivenOrMade b given names
    → (name ≡ get_or given (length names) []) ⊎ IsFirstFree (made_up b (length names)) given names name
    → AreGivenOrMade b given (names ++ name ∷ [])
made_push b given names name so_far one = λ k h.
    let long : length (names ++ name ∷ []) ≡ length names + 1 = length-append names (name ∷ []) in
    below_more (λ k. (get_or (names ++ name ∷ []) k [] ≡ get_or given k []) ⊎ IsFirstFree (made_up b k) given (take k (names ++ name ∷ [])) (get_or (names ++ name ∷ []) k [])) (length names)
    (λ k h. rw (get_or_append_left names (name ∷ []) [] k h, take-append-le k names (name ∷ []) (omega (arith, h))) (so_far k h))
    (rw (get_or_push names name [] (length names) refl, take-append_seam names (name ∷ [])) one) k (omega arith)

-- the same of the strings at hand
pub made_next : (b : Bool) (given old : List (String Global)) (name : String Global) (new : List (String Global)) (place : ℕ) → AreGivenOrMade b (texts given) (texts old) → length old ≡ place → new ≡ old ++ name ∷ []
    → (string_bytes name ≡ get_or (texts given) place []) ⊎ IsFirstFree (made_up b place) (texts given) (texts old) (string_bytes name)
    → AreGivenOrMade b (texts given) (texts new)
made_next b given old name new place so_far long is one =
    let here : length (texts old) ≡ place = length-map old string_bytes ∙ long in
    subst (AreGivenOrMade b (texts given)) (sym (ap texts is ∙ map-append string_bytes old (name ∷ [])))
    (made_push b (texts given) (texts old) (string_bytes name) so_far
    (subst (λ (k : ℕ). (string_bytes name ≡ get_or (texts given) k []) ⊎ IsFirstFree (made_up b k) (texts given) (texts old) (string_bytes name)) (sym here) one))
