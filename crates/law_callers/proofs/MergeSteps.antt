-- Two lists are merged, step by step.
use Rattle.std.proofs.Common.{◌≡◌, ◌∙◌, ℕ, zero, suc, ◌+◌, List, [], ◌∷◌, ◌++◌, Bool, true, false, true≢false, not, ◌&&◌, Ordering, refl, sym, ap, subst, append_assoc, append-nil, arith, get_or}
use Rattle.std.specs.Cmp.{IsStrictWeakOrder}
use Rattle.std.specs.List.{filter}
use Rattle.std.specs.List.Sorted.{IsPermutation, IsSortedBy, IsStableBy, ties}
use Rattle.std.specs.Ordering.{is_lt}
use Rattle.std.specs.Prelude.{slice_get}
use Rattle.std.proofs.lemmas.List.Elements.{filter-append}
use Rattle.std.proofs.lemmas.List.Sorted.{IsPermutation-middle, IsPermutation-pop_more, IsPermutation-refl}
use Rattle.law_callers.specs.Merging.{IsTakenFrom, is_from_second}

module _ {X : Type 0} (lt : X → X → Bool) where
  -- no item is below the one before it
  abbrev pub Rises : List X → Type 0
  Rises [] = Unit {0}
  Rises (x ∷ []) = Unit {0}
  Rises (x ∷ y ∷ ys) = (lt y x ≡ false) × Rises (y ∷ ys)

  -- the first item is not below x
  abbrev StartsFrom : X → List X → Type 0
  StartsFrom x [] = Unit {0}
  StartsFrom x (y ∷ ys) = lt y x ≡ false

  -- x is below the first item
  abbrev StartsAbove : X → List X → Type 0
  StartsAbove x [] = Unit {0}
  StartsAbove x (y ∷ ys) = lt x y ≡ true

  next_at : (k : ℕ) → suc k + 1 ≡ suc (k + 1)
  next_at k = omega arith

  rises_from : (xs : List X) → IsSortedBy lt xs → Rises xs
  rises_from [] h = tt
  rises_from (x ∷ []) h = tt
  rises_from (x ∷ y ∷ ys) h = (
    h 0 x (omega arith) (omega arith),
    rises_from (y ∷ ys) (λ k d low less. subst (λ n. lt (get_or (x ∷ y ∷ ys) n d) (get_or (y ∷ ys) k d) ≡ false) (next_at k) (h (suc k) d (omega arith) (omega arith))),
  )

  sorted_from : (xs : List X) → Rises xs → IsSortedBy lt xs
  sorted_from [] h k d low less = absurd (omega arith)
  sorted_from (x ∷ []) h k d low less = absurd (omega arith)
  sorted_from (x ∷ y ∷ ys) h zero d low less = h.0
  sorted_from (x ∷ y ∷ ys) h (suc k) d low less =
      subst (λ n. lt (get_or (x ∷ y ∷ ys) n d) (get_or (y ∷ ys) k d) ≡ false) (sym (next_at k)) (sorted_from (y ∷ ys) h.1 k d (omega arith) (omega arith))

  rest_rises : (x : X) (xs : List X) → Rises (x ∷ xs) → Rises xs
  rest_rises x [] h = tt
  rest_rises x (y ∷ ys) h = h.1

  begun_rises : (x : X) (xs : List X) → StartsFrom x xs → Rises xs → Rises (x ∷ xs)
  begun_rises x [] s h = tt
  begun_rises x (y ∷ ys) s h = (s, h)

  -- what rises up to x, and from x on
  joined_rises : (done : List X) (x : X) (xs ys : List X) → Rises (done ++ x ∷ xs) → Rises (done ++ ys) → StartsFrom x ys → Rises (done ++ x ∷ ys)
  joined_rises [] x xs ys h g s = begun_rises x ys s g
  joined_rises (d ∷ []) x xs ys h g s = (h.0, begun_rises x ys s (rest_rises d ys g))
  joined_rises (d ∷ e ∷ done) x xs ys h g s = (h.0, joined_rises (e ∷ done) x xs ys h.1 g.1 s)

  -- the order of a merge so far
  pub record InOrder (xs ys done left right : List X) : Type 0 where
    pub first : Rises (done ++ left)
    pub second : Rises (done ++ right)
    pub stable : IsStableBy lt (xs ++ ys) (done ++ (left ++ right))

  -- a merge so far: what is done, and what is left of both lists
  pub record Merges (xs ys done left right : List X) : Type 0 where
    pub moved : IsPermutation (xs ++ ys) (done ++ (left ++ right))
    pub ordered : IsSortedBy lt xs → IsSortedBy lt ys → InOrder xs ys done left right

  pub merge_begins : (xs ys : List X) → Merges xs ys [] xs ys
  merge_begins xs ys = record {
    moved = IsPermutation-refl (xs ++ ys);
    ordered = λ h g. record { first = rises_from xs h; second = rises_from ys g; stable = λ z. refl };
  }

  -- all is merged
  pub record IsMerge (xs ys done : List X) : Type 0 where
    pub moved : IsPermutation (xs ++ ys) done
    pub sorted : IsSortedBy lt xs → IsSortedBy lt ys → IsSortedBy lt done
    pub stable : IsSortedBy lt xs → IsSortedBy lt ys → IsStableBy lt (xs ++ ys) done

  pub merge_ends : (xs ys done left right : List X) → Merges xs ys done left right → left ≡ [] → right ≡ [] → IsMerge xs ys done
  merge_ends xs ys done left right m e f =
      let none : done ++ (left ++ right) ≡ done = ap (λ l. done ++ (l ++ right)) e ∙ ap (λ l. done ++ l) f ∙ append-nil done in
      let first : done ++ left ≡ done = ap (λ l. done ++ l) e ∙ append-nil done in
      record {
        moved = subst (IsPermutation (xs ++ ys)) none m.moved;
        sorted = λ h g. sorted_from done (subst Rises first (m.ordered h g).first);
        stable = λ h g. subst (IsStableBy lt (xs ++ ys)) none (m.ordered h g).stable;
      }

  -- x goes from the first list to the end of what is done
  from_first : (xs ys done left right : List X) (x : X) → StartsFrom x right → Merges xs ys done (x ∷ left) right → Merges xs ys (done ++ x ∷ []) left right
  from_first xs ys done left right x s m = record {
    moved = IsPermutation-pop_more (xs ++ ys) done ((x ∷ left) ++ right) (left ++ right) x m.moved (IsPermutation-refl (x ∷ (left ++ right)));
    ordered = λ h g.
        let o = m.ordered h g in
        record {
          first = subst Rises (sym (append_assoc done (x ∷ []) left)) o.first;
          second = subst Rises (sym (append_assoc done (x ∷ []) right)) (joined_rises done x left right o.first o.second s);
          stable = subst (IsStableBy lt (xs ++ ys)) (sym (append_assoc done (x ∷ []) (left ++ right))) o.stable;
        };
  }

  module _ (w : IsStrictWeakOrder lt) where
    above_rest : (x a b : X) → lt x a ≡ true → lt b a ≡ false → (t : Bool) → lt x b ≡ t → lt x b ≡ true
    above_rest x a b h g true e = e
    above_rest x a b h g false e = absurd (true≢false (sym h ∙ w.chain x b a e g))

    no_tie : (z x a : X) → lt x z ≡ false → lt x a ≡ true → (t : Bool) → lt z a ≡ t → ties lt z a ≡ false
    no_tie z x a h g true e = rw e refl
    no_tie z x a h g false e = absurd (true≢false (sym g ∙ w.chain x z a h e))

    tied_not_above : (a b : Bool) → (not a && not b) ≡ true → b ≡ false
    tied_not_above true b h = absurd cc
    tied_not_above false true h = absurd cc
    tied_not_above false false h = refl

    -- what ties with x ties with none above it
    none_tie : (z x : X) (xs : List X) → lt x z ≡ false → StartsAbove x xs → Rises xs → filter (ties lt z) xs ≡ []
    none_tie z x [] h s r = refl
    none_tie z x (a ∷ []) h s r = rw (no_tie z x a h s (lt z a) refl) refl
    none_tie z x (a ∷ b ∷ bs) h s r =
        rw (no_tie z x a h s (lt z a) refl) (none_tie z x (b ∷ bs) h (above_rest x a b s r.0 (lt x b) refl) r.1)

    kept_alike : (z x : X) (left right : List X) → StartsAbove x left → Rises left → (t : Bool) → ties lt z x ≡ t
        → filter (ties lt z) (x ∷ (left ++ right)) ≡ filter (ties lt z) (left ++ x ∷ right)
    kept_alike z x left right s r true e =
        let none : filter (ties lt z) left ≡ [] = none_tie z x left (tied_not_above (lt z x) (lt x z) e) s r in
        let here : filter (ties lt z) (x ∷ (left ++ right)) ≡ x ∷ filter (ties lt z) (left ++ right) = rw e refl in
        let there : filter (ties lt z) (x ∷ right) ≡ x ∷ filter (ties lt z) right = rw e refl in
        here ∙ ap (λ l. x ∷ l) (filter-append (ties lt z) left right ∙ ap (λ l. l ++ filter (ties lt z) right) none)
        ∙ sym (filter-append (ties lt z) left (x ∷ right) ∙ ap (λ l. l ++ filter (ties lt z) (x ∷ right)) none ∙ there)
    kept_alike z x left right s r false e =
        let here : filter (ties lt z) (x ∷ (left ++ right)) ≡ filter (ties lt z) (left ++ right) = rw e refl in
        let there : filter (ties lt z) (x ∷ right) ≡ filter (ties lt z) right = rw e refl in
        here ∙ filter-append (ties lt z) left right
        ∙ sym (filter-append (ties lt z) left (x ∷ right) ∙ ap (λ l. filter (ties lt z) left ++ l) there)

    moved_alike : (z x : X) (done left right : List X) → StartsAbove x left → Rises left
        → filter (ties lt z) ((done ++ x ∷ []) ++ (left ++ right)) ≡ filter (ties lt z) (done ++ (left ++ x ∷ right))
    moved_alike z x done left right s r =
        ap (filter (ties lt z)) (append_assoc done (x ∷ []) (left ++ right))
        ∙ filter-append (ties lt z) done (x ∷ (left ++ right))
        ∙ ap (λ l. filter (ties lt z) done ++ l) (kept_alike z x left right s r (ties lt z x) refl)
        ∙ sym (filter-append (ties lt z) done (left ++ x ∷ right))

    not_below : (x : X) (xs : List X) → StartsAbove x xs → StartsFrom x xs
    not_below x [] s = tt
    not_below x (a ∷ rest) s = w.one_way x a s

    last_rises : (done left : List X) → Rises (done ++ left) → Rises left
    last_rises [] left h = h
    last_rises (d ∷ done) left h = last_rises done left (rest_rises d (done ++ left) h)

    -- x goes from the second list to the end of what is done
    from_second : (xs ys done left right : List X) (x : X) → StartsAbove x left → Merges xs ys done left (x ∷ right) → Merges xs ys (done ++ x ∷ []) left right
    from_second xs ys done left right x s m = record {
      moved = IsPermutation-pop_more (xs ++ ys) done (left ++ x ∷ right) (left ++ right) x m.moved (IsPermutation-middle left x right);
      ordered = λ h g.
          let o = m.ordered h g in
          record {
            first = subst Rises (sym (append_assoc done (x ∷ []) left)) (joined_rises done x right left o.second o.first (not_below x left s));
            second = subst Rises (sym (append_assoc done (x ∷ []) right)) o.second;
            stable = λ z. moved_alike z x done left right s (last_rises done left o.first) ∙ o.stable z;
          };
    }

    by_second : (xs ys done left right after_left after_right : List X) (x : X) → (after_left ≡ left) × (right ≡ x ∷ after_right)
        → StartsAbove x left → Merges xs ys done left right → Merges xs ys (done ++ x ∷ []) after_left after_right
    by_second xs ys done left right after_left after_right x t s m =
        subst (λ l. Merges xs ys (done ++ x ∷ []) l after_right) (sym t.0) (from_second xs ys done left after_right x s (subst (Merges xs ys done left) t.1 m))

    by_first : (xs ys done left right after_left after_right : List X) (x : X) → (left ≡ x ∷ after_left) × (after_right ≡ right)
        → StartsFrom x right → Merges xs ys done left right → Merges xs ys (done ++ x ∷ []) after_left after_right
    by_first xs ys done left right after_left after_right x t s m =
        subst (Merges xs ys (done ++ x ∷ []) after_left) (sym t.1) (from_first xs ys done after_left right x s (subst (λ l. Merges xs ys done l right) t.0 m))

    by_both : (xs ys done left right after_left after_right : List X) (a b x : X) (s : Bool) → lt b a ≡ s
        → IsTakenFrom s (a ∷ left) (b ∷ right) after_left after_right x → Merges xs ys done (a ∷ left) (b ∷ right) → Merges xs ys (done ++ x ∷ []) after_left after_right
    by_both xs ys done left right after_left after_right a b x true e t m =
        let same : b ≡ x = cc in
        by_second xs ys done (a ∷ left) (b ∷ right) after_left after_right x t (subst (λ y. lt y a ≡ true) same e) m
    by_both xs ys done left right after_left after_right a b x false e t m =
        let same : a ≡ x = cc in
        by_first xs ys done (a ∷ left) (b ∷ right) after_left after_right x t (subst (λ y. lt b y ≡ false) same e) m

-- a step more
pub merge_step : {X : Type 0} (cmp : X → X → Ordering) → IsStrictWeakOrder (λ x y. is_lt (cmp x y)) → (xs ys done left right after_left after_right : List X) (x : X)
    → IsTakenFrom (is_from_second cmp (slice_get left 0) (slice_get right 0)) left right after_left after_right x → Merges (λ a b. is_lt (cmp a b)) xs ys done left right
    → Merges (λ a b. is_lt (cmp a b)) xs ys (done ++ x ∷ []) after_left after_right
merge_step cmp w xs ys done [] right after_left after_right x t m = by_second (λ a b. is_lt (cmp a b)) w xs ys done [] right after_left after_right x t tt m
merge_step cmp w xs ys done (a ∷ left) [] after_left after_right x t m = by_first (λ a b. is_lt (cmp a b)) w xs ys done (a ∷ left) [] after_left after_right x t tt m
merge_step cmp w xs ys done (a ∷ left) (b ∷ right) after_left after_right x t m =
    by_both (λ a b. is_lt (cmp a b)) w xs ys done left right after_left after_right a b x (is_lt (cmp b a)) refl t m
