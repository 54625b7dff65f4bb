-- The members of more cells, of two pieces, and of casts.
use Rattle.std.proofs.Common.{◌≡◌, inl, inr, ℕ, zero, suc, ◌<◌, Bool, true, false, if◌then◌else◌, List, [], ◌∷◌, ◌++◌, length, get_or, map, Contains, refl, sym, ap, subst, ◌∙◌, arith}
use Rattle.std.proofs.lemmas.List.{get_or-map, get_or_default, length-map}
use Rattle.std.proofs.lemmas.List.Elements.{Contains-append_cases}
use Rattle.membership.specs.Words.{may_contain, union, with_hash, xxh64}
use Rattle.membership.proofs.Contained.{union-left, union-right}
use Rattle.vortex_value.specs.Values.Content.{Content}
use Rattle.vortex_row.specs.Keys.{key}
use Rattle.vortex_cells.specs.Cells.{Cell, HasValue, is_null_cell, is_null_content}
use Rattle.value_membership.specs.Laws.{CastsKeepMembers, MembersMerge}
use Rattle.value_membership.specs.Members.{HasMembers, hash_of}

-- ---- unions

in_either : (P : Cell → Type 0) (cells more : List Cell) → ((x : Cell) → HasValue cells x → P x) → ((x : Cell) → HasValue more x → P x)
    → (x : Cell) → HasValue (cells ++ more) x → P x
in_either P cells more p q x h =
    elim (Contains-append_cases cells more x h.cell) [ inl c ↦ p x (record { cell = c; value = h.value }) | inr c ↦ q x (record { cell = c; value = h.value }) ]

pub members_merge : MembersMerge
members_merge members others cells more e p q = record {
  values = in_either (λ x. may_contain (union members others) (hash_of x) ≡ true) cells more
      (λ x h. union-left members others (hash_of x) e (p.values x h)) (λ x h. union-right members others (hash_of x) e (q.values x h));
}

-- ---- one cell more

the_one : (x y : Cell) → Contains (y ∷ []) x → y ≡ x
the_one x y c = at c.0 c.1 c.2
  where
    at : (k : ℕ) → k < 1 → get_or (y ∷ []) k x ≡ x → y ≡ x
    at zero h e = e
    at (suc k) h e = absurd (omega arith)

-- a cell more: what was contained still is, and so is the cell if it is a value
pub more_members : (before now : List ℕ) (x : Cell) (cells : List Cell) → ((hash : ℕ) → may_contain before hash ≡ true → may_contain now hash ≡ true)
    → (is_null_cell x ≡ false → may_contain now (hash_of x) ≡ true) → HasMembers before cells → HasMembers now (cells ++ x ∷ [])
more_members before now x cells kept here has = record {
  values = in_either (λ y. may_contain now (hash_of y) ≡ true) cells (x ∷ []) (λ y h. kept (hash_of y) (has.values y h)) one;
}
  where
    one : (y : Cell) → HasValue (x ∷ []) y → may_contain now (hash_of y) ≡ true
    one y h =
        let P : Cell → Type 0 = λ z. is_null_cell z ≡ false → may_contain now (hash_of z) ≡ true in
        subst P (the_one y x h.cell) here h.value

-- the members with a cell more have it
pub kept_or_null : (before now : List ℕ) (hash : ℕ) (b : Bool) → now ≡ (if b then before else with_hash before hash)
    → (b ≡ false → (other : ℕ) → may_contain before other ≡ true → may_contain now other ≡ true) → (other : ℕ) → may_contain before other ≡ true → may_contain now other ≡ true
kept_or_null before now hash true e kept other h = ap (λ m. may_contain m other) e ∙ h
kept_or_null before now hash false e kept other h = kept refl other h

-- ---- casts

-- the cell at the same place has the same content
at_place : (members : List ℕ) (cells casts : List Cell) → map (λ x. x.content) cells ≡ map (λ x. x.content) casts → HasMembers members cells
    → (x : Cell) (k : ℕ) → k < length casts → get_or casts k x ≡ x → is_null_cell x ≡ false → may_contain members (hash_of x) ≡ true
at_place members cells casts same has x k h e value =
    let content_of : Cell → Content = λ c. c.content in
    let counts = ap length same in
    let within : k < length cells = omega (arith, length-map cells content_of, length-map casts content_of, counts) in
    let y = get_or cells k x in
    let one : y.content ≡ x.content =
    sym (get_or-map content_of cells k x x.content within) ∙ ap (λ l. get_or l k x.content) same ∙ get_or-map content_of casts k x x.content h ∙ ap content_of e in
    let found : HasValue cells y = record { cell = (k, within, get_or_default cells k y x within); value = ap is_null_content one ∙ value } in
    ap (λ c. may_contain members (xxh64 (key c))) (sym one) ∙ has.values y found

pub casts_keep_members : CastsKeepMembers
casts_keep_members members cells casts same has = record { values = λ x h. at_place members cells casts same has x h.cell.0 h.cell.1 h.cell.2 h.value }
