-- What is read of an encoding is what was written, and is right for what that was right for.
use Rattle.std.proofs.Common.{◌≡◌, inl, inr, ℕ, zero, suc, ◌+◌, ◌<◌, Bool, true, false, if◌then◌else◌, cond, List, [], ◌∷◌, ◌++◌, length, map, count_by, get_or, Option, Some, None, IfSome, is_some, Ordering, Less, Equal, refl, sym, ap, ap₂, subst, ◌∙◌, arith}
use Rattle.std.proofs.Math.ListN.{get_or-map}
use Rattle.std.proofs.lemmas.List.{append_assoc, length-map}
use Rattle.std.proofs.lemmas.List.Sums.{sum_by-cons}
use Rattle.vortex_dtype.specs.TypeEquality.{tree_eq}
use Rattle.vortex_dtype.specs.TypeTree.{Same, TypeTree, erase}
use Rattle.vortex_value.specs.Equality.{same_type}
use Rattle.vortex_value.specs.Lemmas.EqualityLaws.{same_type-Decides}
use Rattle.vortex_value.specs.Order.{order}
use Rattle.vortex_value.specs.Values.Content.{Content}
use Rattle.vortex_row.specs.Held.{IsHeld}
use Rattle.vortex_row.specs.Laws.{KeysAreApart, ValuesHaveNoTyped}
use Rattle.vortex_value.specs.Equality.{HasNoTyped}
use Rattle.vortex_cells.specs.Cells.{Cell, HasValue, IsUpTo, cell_order, is_null_cell, order_from_above}
use Rattle.statistics_bytes.specs.Encoding.{AreOf, EncodingsAreApart, IsBoundOf, IsCellOf, IsHeldBound, IsHeldKnown, IsSameBound, IsUntypedBound, SaySame, bound_bytes, encoding}
use Rattle.statistics_bytes.specs.EncodingAnswers.{AreTyped, ReadsRight, retyped}
use Rattle.statistics_bytes.specs.EncodingSteps.{flags_of, state_at, state_of}
use Rattle.vortex_statistics.specs.Statistics.{AreComplete, AreRight, IsBound, Known, KnownBound}
use Rattle.statistics_bytes.specs.declared.flags.BoundState.TheVariants.{Missing}
use Rattle.statistics_bytes.proofs.HeadLaws.{IsHead, encoding-head, head_bytes, heads-apart}

-- ---- what shares an encoding

missing_apart : (e : Bool) → Missing ≡ state_at e → ⊥
missing_apart true h = cc
missing_apart false h = cc

states-apart : (d e : Bool) → state_at d ≡ state_at e → d ≡ e
states-apart true true h = refl
states-apart true false h = absurd (cc)
states-apart false true h = absurd (cc)
states-apart false false h = refl

module _ (apart : KeysAreApart) where
  bounds-apart : (a b : Option KnownBound) (xs ys : List ℕ) → state_of a ≡ state_of b → IsUntypedBound a → IsHeldBound a → IsHeldBound b → bound_bytes a ++ xs ≡ bound_bytes b ++ ys → IsSameBound a b × (xs ≡ ys)
  bounds-apart None None xs ys s u g h e = (tt, e)
  bounds-apart None (Some b) xs ys s u g h e = absurd (missing_apart b.is_exact s)
  bounds-apart (Some a) None xs ys s u g h e = absurd (missing_apart a.is_exact (sym s))
  bounds-apart (Some a) (Some b) xs ys s u g h e =
      let w = apart.contents a.value.content b.value.content xs ys u g h e in
      ((states-apart a.is_exact b.is_exact s, w.0), w.1)

  pub encodings-apart : EncodingsAreApart
  encodings-apart s t xs ys g h lower upper e =
      let l = bound_bytes s.lower in
      let u = bound_bytes s.upper in
      let m = bound_bytes t.lower in
      let v = bound_bytes t.upper in
      let front = head_bytes (flags_of s) s.row_count s.null_count in
      let other = head_bytes (flags_of t) t.row_count t.null_count in
      let first : IsHead (flags_of s) s.row_count s.null_count = record { rows_fit = g.rows; nulls_fit = g.nulls; known = refl } in
      let second : IsHead (flags_of t) t.row_count t.null_count = record { rows_fit = h.rows; nulls_fit = h.nulls; known = refl } in
      let split : front ++ ((l ++ u) ++ xs) ≡ other ++ ((m ++ v) ++ ys) =
      sym (ap (λ zs. zs ++ xs) (encoding-head s) ∙ append_assoc front (l ++ u) xs) ∙ e ∙ ap (λ zs. zs ++ ys) (encoding-head t) ∙ append_assoc other (m ++ v) ys in
      let w = heads-apart (flags_of s) (flags_of t) s.row_count t.row_count s.null_count t.null_count ((l ++ u) ++ xs) ((m ++ v) ++ ys) first second split in
      let below = bounds-apart s.lower t.lower (u ++ xs) (v ++ ys) (ap (λ f. f.lower) w.0) lower g.lower h.lower (sym (append_assoc l u xs) ∙ w.3 ∙ append_assoc m v ys) in
      let above = bounds-apart s.upper t.upper xs ys (ap (λ f. f.upper) w.0) upper g.upper h.upper below.1 in
      (record { rows = w.1; nulls = w.2; lower = below.0; upper = above.0 }, above.1)

-- ---- bounds of a type

held_bound : (t : TypeTree) (b : Option KnownBound) → IsBoundOf t b → IsHeldBound b
held_bound t None h = tt
held_bound t (Some b) h = subst IsHeld (sym h.is) h.is_value.held

pub held_of : (t : TypeTree) (s : Known) → AreOf t s → IsHeldKnown s
held_of t s h = record { rows = h.rows; nulls = h.nulls; lower = held_bound t s.lower h.lower; upper = held_bound t s.upper h.upper }

untyped_bound : ValuesHaveNoTyped → (t : TypeTree) (b : Option KnownBound) → IsBoundOf t b → IsUntypedBound b
untyped_bound law t None h = tt
untyped_bound law t (Some b) h = subst HasNoTyped (sym h.is) (law t h.value h.ordered h.is_value.valid)

same_cell : (x y : Cell) → x.typed ≡ y.typed → x.content ≡ y.content → x ≡ y
same_cell x y e f =
    let made : TypeTree → Content → Cell = λ t c. record { typed = t; content = c } in
    ap (λ t. made t x.content) e ∙ ap (λ c. made y.typed c) f

same_bound : (t : TypeTree) (a b : Option KnownBound) → IsBoundOf t a → IsBoundOf t b → IsSameBound a b → a ≡ b
same_bound t None None g h e = refl
same_bound t None (Some b) g h e = absurd e
same_bound t (Some a) None g h e = absurd e
same_bound t (Some a) (Some b) g h e =
    let made : Cell → Bool → Option KnownBound = λ x exact. Some (record { value = x; is_exact = exact }) in
    ap (λ x. made x a.is_exact) (same_cell a.value b.value (g.typed ∙ sym h.typed) e.1) ∙ ap (λ exact. made b.value exact) e.0

same_known : (t : TypeTree) (r s : Known) → AreOf t r → AreOf t s → SaySame r s → r ≡ s
same_known t r s g h e =
    let made : ℕ → Option ℕ → Option KnownBound → Option KnownBound → Known = λ m n l u. record { row_count = m; null_count = n; lower = l; upper = u } in
    ap (λ m. made m r.null_count r.lower r.upper) e.rows ∙ ap (λ n. made s.row_count n r.lower r.upper) e.nulls
    ∙ ap (λ l. made s.row_count s.null_count l r.upper) (same_bound t r.lower s.lower g.lower h.lower e.lower)
    ∙ ap (λ u. made s.row_count s.null_count s.lower u) (same_bound t r.upper s.upper g.upper h.upper e.upper)

module _ (apart : KeysAreApart) (untyped : ValuesHaveNoTyped) (t : TypeTree) where
  said : (r s : Known) → AreOf t r → IsHeldKnown s → encoding r ≡ encoding s → SaySame r s
  said r s g h e = (encodings-apart apart r s [] [] (held_of t r g) h (untyped_bound untyped t r.lower g.lower) (untyped_bound untyped t r.upper g.upper) (ap (λ zs. zs ++ []) e)).0

  -- what is read is what was written
  pub read_back : (r s : Known) → AreOf t r → AreOf t s → encoding r ≡ encoding s → r ≡ s
  read_back r s g h e = same_known t r s g h (said r s g (held_of t s h) e)

-- ---- the same contents as cells of another type

count-retyped : (t : TypeTree) (cells : List Cell) → count_by is_null_cell (map (retyped t) cells) ≡ count_by is_null_cell cells
count-retyped t [] = refl
count-retyped t (x ∷ cells) =
    sum_by-cons (λ y. cond (is_null_cell y) 1 0) (retyped t x) (map (retyped t) cells) ∙ ap (λ n. cond (is_null_cell x) 1 0 + n) (count-retyped t cells)
    ∙ sym (sum_by-cons (λ y. cond (is_null_cell y) 1 0) x cells)

value_retyped : (t : TypeTree) (cells : List Cell) (x : Cell) → HasValue cells x → HasValue (map (retyped t) cells) (retyped t x)
value_retyped t cells x h = record {
  cell = (h.cell.0, omega (arith, h.cell.1, length-map cells (retyped t)), get_or-map (retyped t) cells h.cell.0 x ∙ ap (retyped t) h.cell.2);
  value = h.value;
}

-- the cell that became this one
record CameFrom (t : TypeTree) (cells : List Cell) (y : Cell) : Type 0 where
  cell : Cell
  value : HasValue cells cell
  is : y ≡ retyped t cell

came_from : (t : TypeTree) (cells : List Cell) (y : Cell) → HasValue (map (retyped t) cells) y → CameFrom t cells y
came_from t cells y h = at cells h.cell.0 (omega (arith, h.cell.1, length-map cells (retyped t))) h.cell.2
  where
    valued : (x : Cell) → retyped t x ≡ y → is_null_cell x ≡ false
    valued x e = ap is_null_cell e ∙ h.value

    at : (xs : List Cell) (k : ℕ) → k < length xs → get_or (map (retyped t) xs) k y ≡ y → CameFrom t xs y
    at [] k l e = absurd (omega arith)
    at (x ∷ xs) zero l e = record { cell = x; value = record { cell = (0, omega arith, refl); value = valued x e }; is = sym e }
    at (x ∷ xs) (suc k) l e = later x xs (at xs k (omega arith) e)
      where
        later : (x : Cell) (xs : List Cell) → CameFrom t xs y → CameFrom t (x ∷ xs) y
        later x xs w = record { cell = w.cell; value = record { cell = (suc w.value.cell.0, omega (arith, w.value.cell.1), w.value.cell.2); value = w.value.value }; is = w.is }

-- cells that compare do so as cells of another type
record Keeps (cmp : Cell → Cell → Option Ordering) : Type 0 where
  keep : (t : TypeTree) (x y : Cell) (o : Ordering) → cmp x y ≡ Some o → cmp (retyped t x) (retyped t y) ≡ Some o

kept_below : (t : TypeTree) (x y : Cell) (o : Ordering) → cell_order x y ≡ Some o → cell_order (retyped t x) (retyped t y) ≡ Some o
kept_below t x y o e = ap (λ b. if b then order x.content y.content else None) ((same_type-Decides t t).1 refl) ∙ by_test (same_type x.typed y.typed) e
  where
    by_test : (b : Bool) → (if b then order x.content y.content else None) ≡ Some o → order x.content y.content ≡ Some o
    by_test true h = h
    by_test false h = absurd (cc)

keeps_below : Keeps cell_order
keeps_below = record { keep = kept_below }

keeps_above : Keeps order_from_above
keeps_above = record { keep = λ t x y o e. kept_below t y x o e }

retyped_up : (cmp : Cell → Cell → Option Ordering) → Keeps cmp → (t : TypeTree) (x y : Cell) → IsUpTo cmp x y → IsUpTo cmp (retyped t x) (retyped t y)
retyped_up cmp law t x y (inl e) = inl (law.keep t x y Less e)
retyped_up cmp law t x y (inr e) = inr (law.keep t x y Equal e)

retyped_bound : (cmp : Cell → Cell → Option Ordering) → Keeps cmp → (t : TypeTree) (cells : List Cell) (a b : Option KnownBound) → IsBoundOf t a → IsSameBound a b → IfSome b (λ c. IsBound cmp c cells) → IfSome a (λ c. IsBound cmp c (map (retyped t) cells))
retyped_bound cmp law t cells None b g e h = tt
retyped_bound cmp law t cells (Some a) None g e h = absurd e
retyped_bound cmp law t cells (Some a) (Some b) g e h =
    let same : retyped t b.value ≡ a.value = same_cell (retyped t b.value) a.value (sym g.typed) (sym e.1) in
    record {
      bounds = λ y v. let w = came_from t cells y v in
          subst (λ z. IsUpTo cmp a.value z) (sym w.is) (subst (λ z. IsUpTo cmp z (retyped t w.cell)) same (retyped_up cmp law t b.value w.cell (h.bounds w.cell w.value)));
      exact = λ k. let w = h.exact (sym e.0 ∙ k) in
          (retyped t w.0, value_retyped t cells w.0 w.1, subst (λ z. cmp z (retyped t w.0) ≡ Some Equal) same (law.keep t b.value w.0 Equal w.2));
    }

nulls_retyped : (t : TypeTree) (cells : List Cell) (n : Option ℕ) → IfSome n (λ k. k ≡ count_by is_null_cell cells) → IfSome n (λ k. k ≡ count_by is_null_cell (map (retyped t) cells))
nulls_retyped t cells None h = tt
nulls_retyped t cells (Some n) h = h ∙ sym (count-retyped t cells)

retyped_right : (t : TypeTree) (r s : Known) (cells : List Cell) → AreOf t r → SaySame r s → AreRight s cells → AreRight r (map (retyped t) cells)
retyped_right t r s cells g e h = record {
  rows = e.rows ∙ h.rows ∙ sym (length-map cells (retyped t));
  nulls = subst (λ n. IfSome n (λ k. k ≡ count_by is_null_cell (map (retyped t) cells))) (sym e.nulls) (nulls_retyped t cells s.null_count h.nulls);
  lower = retyped_bound cell_order keeps_below t cells r.lower s.lower g.lower e.lower h.lower;
  upper = retyped_bound order_from_above keeps_above t cells r.upper s.upper g.upper e.upper h.upper;
}

-- ---- the same cells, if the types are the same up to nullability

-- two bounds stand alike to each cell
record StandAlike (cmp : Cell → Cell → Option Ordering) (a b : Cell) : Type 0 where
  alike : (x : Cell) → cmp a x ≡ cmp b x

alike_below : (t : TypeTree) (a b : KnownBound) → IsCellOf t a.value → Same b.value.typed t → a.value.content ≡ b.value.content → StandAlike cell_order a.value b.value
alike_below t a b g s e = record {
  alike = λ x. ap₂ (λ u c. if tree_eq u (erase x.typed) then order c x.content else None) (ap erase g.typed ∙ sym s) e;
}

alike_above : (t : TypeTree) (a b : KnownBound) → IsCellOf t a.value → Same b.value.typed t → a.value.content ≡ b.value.content → StandAlike order_from_above a.value b.value
alike_above t a b g s e = record {
  alike = λ x. ap₂ (λ u c. if tree_eq (erase x.typed) u then order x.content c else None) (ap erase g.typed ∙ sym s) e;
}

same_cells_bound : (cmp : Cell → Cell → Option Ordering) (cells : List Cell) (a b : KnownBound) → StandAlike cmp a.value b.value → a.is_exact ≡ b.is_exact → IsBound cmp b cells → IsBound cmp a cells
same_cells_bound cmp cells a b law e h = record {
  bounds = λ x v. up x (h.bounds x v);
  exact = λ k. let w = h.exact (sym e ∙ k) in (w.0, w.1, law.alike w.0 ∙ w.2);
}
  where
    up : (x : Cell) → IsUpTo cmp b.value x → IsUpTo cmp a.value x
    up x (inl o) = inl (law.alike x ∙ o)
    up x (inr o) = inr (law.alike x ∙ o)

lower_cells : (t : TypeTree) (cells : List Cell) (a b : Option KnownBound) → IsBoundOf t a → IfSome b (λ c. Same c.value.typed t) → IsSameBound a b → IfSome b (λ c. IsBound cell_order c cells) → IfSome a (λ c. IsBound cell_order c cells)
lower_cells t cells None b g s e h = tt
lower_cells t cells (Some a) None g s e h = absurd e
lower_cells t cells (Some a) (Some b) g s e h = same_cells_bound cell_order cells a b (alike_below t a b g s e.1) e.0 h

upper_cells : (t : TypeTree) (cells : List Cell) (a b : Option KnownBound) → IsBoundOf t a → IfSome b (λ c. Same c.value.typed t) → IsSameBound a b → IfSome b (λ c. IsBound order_from_above c cells) → IfSome a (λ c. IsBound order_from_above c cells)
upper_cells t cells None b g s e h = tt
upper_cells t cells (Some a) None g s e h = absurd e
upper_cells t cells (Some a) (Some b) g s e h = same_cells_bound order_from_above cells a b (alike_above t a b g s e.1) e.0 h

same_right : (t : TypeTree) (r s : Known) (cells : List Cell) → AreOf t r → SaySame r s → AreTyped t s → AreRight s cells → AreRight r cells
same_right t r s cells g e y h = record {
  rows = e.rows ∙ h.rows;
  nulls = subst (λ n. IfSome n (λ k. k ≡ count_by is_null_cell cells)) (sym e.nulls) h.nulls;
  lower = lower_cells t cells r.lower s.lower g.lower y.lower e.lower h.lower;
  upper = upper_cells t cells r.upper s.upper g.upper y.upper e.upper h.upper;
}

there_alike : (a b : Option KnownBound) → IsSameBound a b → is_some b ≡ true → is_some a ≡ true
there_alike None None e k = k
there_alike None (Some b) e k = absurd e
there_alike (Some a) b e k = refl

exact_alike : (a b : Option KnownBound) → IsSameBound a b → IfSome b (λ c. c.is_exact ≡ true) → IfSome a (λ c. c.is_exact ≡ true)
exact_alike None b e k = tt
exact_alike (Some a) None e k = absurd e
exact_alike (Some a) (Some b) e k = e.0 ∙ k

same_complete : (t : TypeTree) (r s : Known) (cells : List Cell) → AreOf t r → SaySame r s → AreTyped t s → AreComplete s cells → AreComplete r cells
same_complete t r s cells g e y h = record {
  right = same_right t r s cells g e y h.right;
  counted = ap is_some e.nulls ∙ h.counted;
  exact = record { lower = exact_alike r.lower s.lower e.lower h.exact.lower; upper = exact_alike r.upper s.upper e.upper h.exact.upper };
  bounded = λ compare x v. let w = h.bounded compare x v in (there_alike r.lower s.lower e.lower w.0, there_alike r.upper s.upper e.upper w.1);
}

pub reads_right : KeysAreApart → ValuesHaveNoTyped → (t : TypeTree) (bytes : List ℕ) (r : Known) → AreOf t r → bytes ≡ encoding r → ReadsRight t bytes r
reads_right apart untyped t bytes r g is = record {
  contents = λ s cells h e. retyped_right t r s cells g (said apart untyped t r s g h (sym is ∙ e));
  cells = λ s cells h e. same_right t r s cells g (said apart untyped t r s g h (sym is ∙ e));
  complete = λ s cells h e. same_complete t r s cells g (said apart untyped t r s g h (sym is ∙ e));
}
