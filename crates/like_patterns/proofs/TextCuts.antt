-- A text that is cut where the wanted bytes would end, or begin.
use Rattle.std.proofs.Common.{◌≡◌, ℕ, ◌+◌, ◌-◌, ◌<◌, ◌≤◌, List, ◌++◌, length, take, drop, sym, ap, ◌∙◌, length-append, length-drop, take-append-drop, arith}
use Rattle.std.proofs.lemmas.List.{append_cancel_left}
use Rattle.like_patterns.specs.declared.case.Case.{Case}
use Rattle.like_patterns.specs.Characters.{Begins, BeginsOtherwise, Ends, EndsOtherwise, compared}
use Rattle.like_patterns.proofs.Letters.{compared-append, length-compared}
use Rattle.like_patterns.proofs.Splitting.{same_fronts}

cut_is : (case : Case) (text : List ℕ) (n : ℕ) → compared case text ≡ compared case (take n text) ++ compared case (drop n text)
cut_is case text n = ap (compared case) (sym (take-append-drop n text)) ∙ compared-append case (take n text) (drop n text)

-- ---- at the front

pub begins_too_short : (case : Case) (text wanted : List ℕ) → length text < length wanted → BeginsOtherwise case text wanted
begins_too_short case text wanted short = λ rest is.
    let long : length (compared case text) ≡ length (compared case wanted) + length rest = ap length is ∙ length-append (compared case wanted) rest in
    omega (arith, long, length-compared case text, length-compared case wanted)

pub begins_same : (case : Case) (text wanted front rest : List ℕ) → front ≡ take (length wanted) text → rest ≡ drop (length wanted) text → compared case front ≡ compared case wanted → Begins case text wanted rest
begins_same case text wanted front rest front_is rest_is same = record {
  first = front;
  is = sym (take-append-drop (length wanted) text) ∙ ap (λ (l : List ℕ). l ++ drop (length wanted) text) (sym front_is) ∙ ap (λ (l : List ℕ). front ++ l) (sym rest_is);
  same = same;
}

pub begins_differs : (case : Case) (text wanted front : List ℕ) → front ≡ take (length wanted) text → length wanted ≤ length text → (compared case front ≡ compared case wanted → ⊥) → BeginsOtherwise case text wanted
begins_differs case text wanted front front_is fits differs = λ rest is.
    let n = length wanted in
    let cut : compared case (take n text) ++ compared case (drop n text) ≡ compared case wanted ++ rest = sym (cut_is case text n) ∙ is in
    let all : length (compared case text) ≡ length (compared case wanted) + length rest = ap length is ∙ length-append (compared case wanted) rest in
    let rests : length (compared case (drop n text)) ≡ length rest =
    omega (arith, all, length-compared case text, length-compared case wanted, length-compared case (drop n text), length-drop n text) in
    differs (ap (compared case) front_is ∙ same_fronts (compared case (take n text)) (compared case (drop n text)) (compared case wanted) rest cut rests)

-- ---- at the end

pub ends_too_short : (case : Case) (text wanted : List ℕ) → length text < length wanted → EndsOtherwise case text wanted
ends_too_short case text wanted short = λ front is.
    let long : length (compared case text) ≡ length front + length (compared case wanted) = ap length is ∙ length-append front (compared case wanted) in
    omega (arith, long, length-compared case text, length-compared case wanted)

pub ends_same : (case : Case) (text wanted front last : List ℕ) → front ≡ take (length text - length wanted) text → last ≡ drop (length text - length wanted) text → compared case last ≡ compared case wanted → Ends case text wanted front
ends_same case text wanted front last front_is last_is same =
    let n = length text - length wanted in
    record {
      last = last;
      is = sym (take-append-drop n text) ∙ ap (λ (l : List ℕ). l ++ drop n text) (sym front_is) ∙ ap (λ (l : List ℕ). front ++ l) (sym last_is);
      same = same;
    }

pub ends_differs : (case : Case) (text wanted last : List ℕ) → last ≡ drop (length text - length wanted) text → length wanted ≤ length text → (compared case last ≡ compared case wanted → ⊥) → EndsOtherwise case text wanted
ends_differs case text wanted last last_is fits differs = λ front is.
    let n = length text - length wanted in
    let cut : compared case (take n text) ++ compared case (drop n text) ≡ front ++ compared case wanted = sym (cut_is case text n) ∙ is in
    let rests : length (compared case (drop n text)) ≡ length (compared case wanted) =
    omega (arith, length-compared case wanted, length-compared case (drop n text), length-drop n text) in
    let fronts : compared case (take n text) ≡ front = same_fronts (compared case (take n text)) (compared case (drop n text)) front (compared case wanted) cut rests in
    differs (ap (compared case) last_is ∙ append_cancel_left front (compared case (drop n text)) (compared case wanted) (ap (λ (l : List ℕ). l ++ compared case (drop n text)) (sym fronts) ∙ cut))
