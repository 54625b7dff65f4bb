-- The first byte of a filter says its kind.
use Rattle.std.proofs.Common.{◌≡◌, ◌==◌, ℕ, zero, suc, List, [], ◌∷◌, ◌++◌, drop, Option, Some, None, refl, sym, subst, ap, ◌∙◌, arith}
use Rattle.std.specs.Prelude.{if◌then◌else◌}
use Rattle.std.proofs.lemmas.Option.{same_Some}
use Rattle.like_patterns.specs.declared.case.Case.{Case}
use Rattle.like_patterns.specs.Patterns.{Part}
use Rattle.vortex_cells.specs.Cells.{Cell}
use Rattle.vortex_filter.specs.Formula.{Formula, constant, comparison, null_test, membership, range, prefix_test, pattern_test, both, either, negation}
use Rattle.vortex_filter.specs.declared.operator.CompareOperator.TheVariants.{Eq, NotEq, Gt, Gte, Lt, Lte}
use Rattle.vortex_filter.specs.declared.truth.Truth.TheVariants.{False, Unknown, True}
use Rattle.filter_encoding.specs.Encoding.{node_bytes}
use Rattle.filter_encoding.specs.Steps.{IsNode, IsNodeEncoding, MayBegin, head_byte}
use Rattle.filter_encoding.specs.Strings.{IsStuck}
use Rattle.filter_encoding.specs.declared.heads.Head.{Head}
use Rattle.filter_encoding.specs.declared.heads.Head.TheVariants.{Constant, Compare, IsNull, In, Between, StartsWith, Like, And, Or, Not}
use Rattle.filter_encoding.proofs.Stuck.{GoesOn, encoding_of, none_byte, none_end, stuck_here}
use Rattle.filter_encoding.proofs.TypeLaws.{first_same}

-- ---- kinds

-- what a filter of this kind has after its first byte
abbrev pub Body : Head → Type 0
Body (Constant t) = Unit {0}
Body (Compare op) = ℕ × Cell
Body IsNull = ℕ
Body In = ℕ × List Cell
Body Between = ℕ × (Cell × Cell)
Body StartsWith = ℕ × Cell
Body Like = ℕ × (Case × List Part)
Body And = Formula × Formula
Body Or = Formula × Formula
Body Not = Formula

abbrev pub made : (h : Head) → Body h → Formula
made (Constant t) b = constant t
made (Compare op) b = comparison b.0 op b.1
made IsNull b = null_test b
made In b = membership b.0 b.1
made Between b = range b.0 b.1.0 b.1.1
made StartsWith b = prefix_test b.0 b.1
made Like b = pattern_test b.0 b.1.0 b.1.1
made And b = both b.0 b.1
made Or b = either b.0 b.1
made Not b = negation b

abbrev pub head_of : Formula → Head
head_of (constant t) = Constant t
head_of (comparison k op x) = Compare op
head_of (null_test k) = IsNull
head_of (membership k xs) = In
head_of (range k x y) = Between
head_of (prefix_test k x) = StartsWith
head_of (pattern_test k case parts) = Like
head_of (both f g) = And
head_of (either f g) = Or
head_of (negation f) = Not

-- the formula is of this kind
pub record IsMade (h : Head) (f : Formula) : Type 0 where
  pub body : Body h
  pub is : f ≡ made h body

made_itself : (f : Formula) → IsMade (head_of f) f
made_itself (constant t) = record { body = tt; is = refl }
made_itself (comparison k op x) = record { body = (k, x); is = refl }
made_itself (null_test k) = record { body = k; is = refl }
made_itself (membership k xs) = record { body = (k, xs); is = refl }
made_itself (range k x y) = record { body = (k, (x, y)); is = refl }
made_itself (prefix_test k x) = record { body = (k, x); is = refl }
made_itself (pattern_test k case parts) = record { body = (k, (case, parts)); is = refl }
made_itself (both f g) = record { body = (f, g); is = refl }
made_itself (either f g) = record { body = (f, g); is = refl }
made_itself (negation f) = record { body = f; is = refl }

-- ---- first bytes

-- the kind with this byte
abbrev head_at : ℕ → Option Head
head_at byte =
    if byte == 0 then Some (Constant False) else
    if byte == 1 then Some (Constant Unknown) else
    if byte == 2 then Some (Constant True) else
    if byte == 3 then Some (Compare Eq) else
    if byte == 4 then Some (Compare NotEq) else
    if byte == 5 then Some (Compare Gt) else
    if byte == 6 then Some (Compare Gte) else
    if byte == 7 then Some (Compare Lt) else
    if byte == 8 then Some (Compare Lte) else
    if byte == 9 then Some IsNull else
    if byte == 10 then Some In else
    if byte == 11 then Some Between else
    if byte == 12 then Some StartsWith else
    if byte == 13 then Some And else
    if byte == 14 then Some Or else
    if byte == 15 then Some Not else
    if byte == 16 then Some Like else None

head_back : (h : Head) → head_at (head_byte h) ≡ Some h
head_back (Constant False) = refl
head_back (Constant Unknown) = refl
head_back (Constant True) = refl
head_back (Compare Eq) = refl
head_back (Compare NotEq) = refl
head_back (Compare Gt) = refl
head_back (Compare Gte) = refl
head_back (Compare Lt) = refl
head_back (Compare Lte) = refl
head_back IsNull = refl
head_back In = refl
head_back Between = refl
head_back StartsWith = refl
head_back Like = refl
head_back And = refl
head_back Or = refl
head_back Not = refl

one_head : (h k : Head) → head_byte h ≡ head_byte k → h ≡ k
one_head h k e = same_Some h k (sym (head_back h) ∙ ap head_at e ∙ head_back k)

pub record FirstByte (f : Formula) : Type 0 where
  pub tail : List ℕ
  pub is : node_bytes f ≡ head_byte (head_of f) ∷ tail

pub first_byte : (f : Formula) → FirstByte f
first_byte (constant t) = record { tail = []; is = refl }
first_byte (comparison k op x) = record { tail = _; is = refl }
first_byte (null_test k) = record { tail = _; is = refl }
first_byte (membership k xs) = record { tail = _; is = refl }
first_byte (range k x y) = record { tail = _; is = refl }
first_byte (prefix_test k x) = record { tail = _; is = refl }
first_byte (pattern_test k case parts) = record { tail = _; is = refl }
first_byte (both f g) = record { tail = _; is = refl }
first_byte (either f g) = record { tail = _; is = refl }
first_byte (negation f) = record { tail = _; is = refl }

-- what begins with this byte and is the bytes of a filter is one of this kind
pub same_head : (h : Head) (f : Formula) (zs rest : List ℕ) → head_byte h ∷ zs ≡ node_bytes f ++ rest → IsMade h f
same_head h f zs rest e =
    let first = first_byte f in
    let w = first_same (head_byte h) (head_byte (head_of f)) zs (first.tail ++ rest) (e ∙ ap (λ xs. xs ++ rest) first.is) in
    subst (λ k. IsMade k f) (sym (one_head h (head_of f) w.0)) (made_itself f)

-- after the first byte comes just this
pub head_goes_on : (h : Head) (n : ℕ) (Rest : List ℕ → Type 0) (tail : Body h → List ℕ) → ((b : Body h) → node_bytes (made h b) ≡ head_byte h ∷ tail b)
    → ((q : List ℕ) → Rest q → (b : Body h) × IsNode n (made h b) × (q ≡ tail b)) → ((b : Body h) → IsNode n (made h b) → Rest (tail b)) → GoesOn (head_byte h ∷ []) (IsNodeEncoding n) Rest
head_goes_on h n Rest tail bytes to from = record {
  join = λ q r.
      let w = to q r in
      record { value = made h w.0; is_one = w.1; is = ap (λ xs. head_byte h ∷ xs) w.2 ∙ sym (bytes w.0) };
  split = λ s zs rest f e.
      let m = same_head h f.value zs rest (e ∙ ap (λ xs. xs ++ rest) f.is) in
      let w = first_same (head_byte h) (head_byte h) zs (tail m.body ++ rest) (e ∙ ap (λ xs. xs ++ rest) (f.is ∙ ap node_bytes m.is ∙ bytes m.body)) in
      (tail m.body, from m.body (subst (IsNode n) m.is f.is_one), w.1);
}

-- ---- where none goes on

pub some_node : (n : ℕ) → (s : List ℕ) × IsNodeEncoding n s
some_node n = (node_bytes (constant True), encoding_of node_bytes (IsNode n) (constant True) tt)

not_empty : (n : ℕ) → IsNodeEncoding n [] → ⊥
not_empty n h = let first = first_byte h.value in let e : [] ≡ head_byte (head_of h.value) ∷ first.tail = h.is ∙ first.is in cc

pub head_missing : (n : ℕ) (old : List ℕ) → old ≡ [] → IsStuck (IsNodeEncoding n) old old
head_missing n old e = stuck_here (IsNodeEncoding n) old (some_node n) (none_end (IsNodeEncoding n) old e (not_empty n))

-- no kind has this byte
pub no_head : (n byte : ℕ) (old more : List ℕ) → old ≡ byte ∷ more → ((h : Head) → head_byte h ≡ byte → ⊥) → IsStuck (IsNodeEncoding n) old old
no_head n byte old more e none =
    stuck_here (IsNodeEncoding n) old (some_node n)
    (none_byte (IsNodeEncoding n) byte old more e
    (λ s zs rest f g.
    let first = first_byte f.value in
    let w = first_same byte (head_byte (head_of f.value)) zs (first.tail ++ rest) (g ∙ ap (λ xs. xs ++ rest) (f.is ∙ first.is)) in
    none (head_of f.value) (sym w.0)))

node_may_begin : (n : ℕ) (f : Formula) → IsNode n f → MayBegin n (head_of f)
node_may_begin n (constant t) h = tt
node_may_begin n (comparison k op x) h = tt
node_may_begin n (null_test k) h = tt
node_may_begin n (membership k xs) h = tt
node_may_begin n (range k x y) h = tt
node_may_begin n (prefix_test k x) h = tt
node_may_begin n (pattern_test k case parts) h = tt
node_may_begin zero (both f g) h = absurd h
node_may_begin (suc n) (both f g) h = omega arith
node_may_begin zero (either f g) h = absurd h
node_may_begin (suc n) (either f g) h = omega arith
node_may_begin zero (negation f) h = absurd h
node_may_begin (suc n) (negation f) h = omega arith

-- a filter of this kind may not stand so deep
pub head_too_deep : (n byte : ℕ) (head : Head) (old more : List ℕ) → old ≡ byte ∷ more → head_byte head ≡ byte → (MayBegin n head → ⊥) → IsStuck (IsNodeEncoding n) old old
head_too_deep n byte head old more e is deep =
    stuck_here (IsNodeEncoding n) old (some_node n)
    (none_byte (IsNodeEncoding n) byte old more e
    (λ s zs rest f g.
    let first = first_byte f.value in
    let w = first_same byte (head_byte (head_of f.value)) zs (first.tail ++ rest) (g ∙ ap (λ xs. xs ++ rest) (f.is ∙ first.is)) in
    let same : head_of f.value ≡ head = one_head (head_of f.value) head (sym w.0 ∙ sym is) in
    deep (subst (MayBegin n) same (node_may_begin n f.value f.is_one))))

pub head_read : (byte : ℕ) (head : Head) (old now : List ℕ) → (more : List ℕ) × (old ≡ byte ∷ more) → head_byte head ≡ byte → now ≡ drop 1 old → old ≡ head_byte head ∷ now
head_read byte head old now h is e = h.1 ∙ ap (λ b. b ∷ h.0) (sym is) ∙ ap (λ xs. head_byte head ∷ xs) (sym (e ∙ ap (drop 1) h.1))
