-- Bounds of the cells of two pieces, one after the other.
use Rattle.std.proofs.Common.{◌≡◌, ◌⊎◌, inl, inr, ℕ, zero, suc, ◌<◌, Bool, true, false, ◌||◌, List, [], ◌∷◌, ◌++◌, get_or, Option, Some, None, IfSome, is_some, Ordering, Less, Equal, Greater, refl, arith}
use Rattle.std.proofs.lemmas.Bool.{false≢true}
use Rattle.std.proofs.lemmas.List.Elements.{Contains-append_cases, Contains-append_left, Contains-append_right}
use Rattle.std.specs.Option.{option_or}
use Rattle.vortex_cells.specs.Cells.{Cell, HasValue, IsUpTo, is_null_cell}
use Rattle.vortex_statistics.specs.Merging.{bound_of_both, bound_order, outer_by}
use Rattle.vortex_statistics.specs.Statistics.{IsBound, KnownBound}
use Rattle.vortex_cells.proofs.CellLaws.{IsOrder, compare_through, equal_equal, turned, up_up}

-- ---- values of both pieces

pub value_left : (cells others : List Cell) (x : Cell) → HasValue cells x → HasValue (cells ++ others) x
value_left cells others x h = record { cell = Contains-append_left cells others x h.cell; value = h.value }

pub value_right : (cells others : List Cell) (x : Cell) → HasValue others x → HasValue (cells ++ others) x
value_right cells others x h = record { cell = Contains-append_right cells others x h.cell; value = h.value }

pub value_cases : (cells others : List Cell) (x : Cell) → HasValue (cells ++ others) x → HasValue cells x ⊎ HasValue others x
value_cases cells others x h = elim (Contains-append_cases cells others x h.cell) [
  | inl c ↦ inl (record { cell = c; value = h.value })
  | inr c ↦ inr (record { cell = c; value = h.value })
]

-- the one value of a list of one
pub only_value : (x y : Cell) → HasValue (x ∷ []) y → x ≡ y
only_value x y h = at h.cell.0 h.cell.1 h.cell.2
  where
    at : (k : ℕ) → k < 1 → get_or (x ∷ []) k y ≡ y → x ≡ y
    at zero l e = e
    at (suc k) l e = absurd (omega arith)

pub holds_value : (x : Cell) → is_null_cell x ≡ false → HasValue (x ∷ []) x
holds_value x v = record { cell = (0, omega arith, refl); value = v }

-- there is no value
abbrev pub HasNone : List Cell → Type 0
HasNone cells = (x : Cell) → HasValue cells x → ⊥

-- ---- a bound of one piece that goes as far as the other one

module _ (cmp : Cell → Cell → Option Ordering) (law : IsOrder cmp) (cells others : List Cell) where
  pub bound_left : (a : KnownBound) → IsBound cmp a cells → ((x : Cell) → HasValue others x → IsUpTo cmp a.value x) → IsBound cmp a (cells ++ others)
  bound_left a h reach = record {
    bounds = λ x v. elim (value_cases cells others x v) [ inl p ↦ h.bounds x p | inr p ↦ reach x p ];
    exact = λ e. let w = h.exact e in (w.0, value_left cells others w.0 w.1, w.2);
  }

  pub bound_right : (b : KnownBound) → ((x : Cell) → HasValue cells x → IsUpTo cmp b.value x) → IsBound cmp b others → IsBound cmp b (cells ++ others)
  bound_right b reach k = record {
    bounds = λ x v. elim (value_cases cells others x v) [ inl p ↦ reach x p | inr p ↦ k.bounds x p ];
    exact = λ e. let w = k.exact e in (w.0, value_right cells others w.0 w.1, w.2);
  }

  or_exact : (p q : Bool) → (p || q) ≡ true → (p ≡ true) ⊎ (q ≡ true)
  or_exact true q e = inl refl
  or_exact false q e = inr e

  pub bound_joined : (a b : KnownBound) → cmp a.value b.value ≡ Some Equal → IsBound cmp a cells → IsBound cmp b others → IsBound cmp (record { value = a.value; is_exact = a.is_exact || b.is_exact }) (cells ++ others)
  bound_joined a b same h k = record {
    bounds = λ x v. elim (value_cases cells others x v) [ inl p ↦ h.bounds x p | inr p ↦ up_up cmp law a.value b.value x (inr same) (k.bounds x p) ];
    exact = λ e. elim (or_exact a.is_exact b.is_exact e) [
      | inl p ↦ let w = h.exact p in (w.0, value_left cells others w.0 w.1, w.2)
      | inr p ↦ let w = k.exact p in (w.0, value_right cells others w.0 w.1, equal_equal cmp law a.value b.value w.0 same w.2)
    ];
  }

  outer_by_order : (a b : KnownBound) (o : Option Ordering) → cmp a.value b.value ≡ o → IsBound cmp a cells → IsBound cmp b others → IfSome (outer_by o (Some a) (Some b)) (λ c. IsBound cmp c (cells ++ others))
  outer_by_order a b None e h k = tt
  outer_by_order a b (Some Less) e h k = bound_left a h (λ x v. up_up cmp law a.value b.value x (inl e) (k.bounds x v))
  outer_by_order a b (Some Equal) e h k = bound_joined a b e h k
  outer_by_order a b (Some Greater) e h k = bound_right b (λ x v. up_up cmp law b.value a.value x (inl (turned cmp law a.value b.value (Some Greater) e)) (h.bounds x v)) k

  outer_bound : (a b : Option KnownBound) → IfSome a (λ c. IsBound cmp c cells) → IfSome b (λ c. IsBound cmp c others) → IfSome (outer_by (bound_order cmp a b) a b) (λ c. IsBound cmp c (cells ++ others))
  outer_bound None b h k = tt
  outer_bound (Some a) None h k = tt
  outer_bound (Some a) (Some b) h k = outer_by_order a b (cmp a.value b.value) refl h k

  pub kept : (a : Option KnownBound) → HasNone others → IfSome a (λ c. IsBound cmp c cells) → IfSome a (λ c. IsBound cmp c (cells ++ others))
  kept None empty h = tt
  kept (Some a) empty h = bound_left a h (λ x v. absurd (empty x v))

  taken : (b : Option KnownBound) → HasNone cells → IfSome b (λ c. IsBound cmp c others) → IfSome b (λ c. IsBound cmp c (cells ++ others))
  taken None empty k = tt
  taken (Some b) empty k = bound_right b (λ x v. absurd (empty x v)) k

  first : (a b : Option KnownBound) → HasNone cells → HasNone others → IfSome a (λ c. IsBound cmp c cells) → IfSome b (λ c. IsBound cmp c others) → IfSome (option_or a b) (λ c. IsBound cmp c (cells ++ others))
  first None b f g h k = taken b f k
  first (Some a) b f g h k = kept (Some a) g h

  -- the bound of both pieces
  pub both_bound : (p q : Bool) (a b : Option KnownBound) → (p ≡ false → HasNone cells) → (q ≡ false → HasNone others)
      → IfSome a (λ c. IsBound cmp c cells) → IfSome b (λ c. IsBound cmp c others) → IfSome (bound_of_both (bound_order cmp a b) p q a b) (λ c. IsBound cmp c (cells ++ others))
  both_bound true true a b f g h k = outer_bound a b h k
  both_bound true false a b f g h k = kept a (g refl) h
  both_bound false true a b f g h k = taken b (f refl) k
  both_bound false false a b f g h k = first a b (f refl) (g refl) h k

  -- ---- that there is one

  outer_there : (a b : KnownBound) (o : Option Ordering) → is_some o ≡ true → is_some (outer_by o (Some a) (Some b)) ≡ true
  outer_there a b None k = absurd (false≢true k)
  outer_there a b (Some Less) k = refl
  outer_there a b (Some Equal) k = refl
  outer_there a b (Some Greater) k = refl

  -- exact bounds of values that compare compare
  pub both_there : (a b : Option KnownBound) → ((x y : Cell) → HasValue (cells ++ others) x → HasValue (cells ++ others) y → is_some (cmp x y) ≡ true)
      → IfSome a (λ c. IsBound cmp c cells) → IfSome b (λ c. IsBound cmp c others) → IfSome a (λ c. c.is_exact ≡ true) → IfSome b (λ c. c.is_exact ≡ true)
      → is_some a ≡ true → is_some b ≡ true → is_some (outer_by (bound_order cmp a b) a b) ≡ true
  both_there None b compare h k e f s t = absurd (false≢true s)
  both_there (Some a) None compare h k e f s t = absurd (false≢true t)
  both_there (Some a) (Some b) compare h k e f s t =
      let w = h.exact e in
      let z = k.exact f in
      outer_there a b (cmp a.value b.value)
      (compare_through cmp law a.value w.0 z.0 b.value w.2 z.2 (compare w.0 z.0 (value_left cells others w.0 w.1) (value_right cells others z.0 z.1)))

-- ---- exactness

or_first : (p q : Bool) → p ≡ true → (p || q) ≡ true
or_first true q e = refl
or_first false q e = absurd (false≢true e)

abbrev pub IsExactIfThere : Option KnownBound → Type 0
IsExactIfThere a = IfSome a (λ c. c.is_exact ≡ true)

outer_exact : (a b : Option KnownBound) (o : Option Ordering) → IsExactIfThere a → IsExactIfThere b → IsExactIfThere (outer_by o a b)
outer_exact a b None e f = tt
outer_exact a b (Some Less) e f = e
outer_exact None b (Some Equal) e f = tt
outer_exact (Some a) None (Some Equal) e f = tt
outer_exact (Some a) (Some b) (Some Equal) e f = or_first a.is_exact b.is_exact e
outer_exact a b (Some Greater) e f = f

first_exact : (a b : Option KnownBound) → IsExactIfThere a → IsExactIfThere b → IsExactIfThere (option_or a b)
first_exact None b e f = f
first_exact (Some a) b e f = e

pub both_exact : (o : Option Ordering) (p q : Bool) (a b : Option KnownBound) → IsExactIfThere a → IsExactIfThere b → IsExactIfThere (bound_of_both o p q a b)
both_exact o true true a b e f = outer_exact a b o e f
both_exact o true false a b e f = e
both_exact o false true a b e f = f
both_exact o false false a b e f = first_exact a b e f
