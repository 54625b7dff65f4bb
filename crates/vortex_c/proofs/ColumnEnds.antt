-- Any two least values of a column have the same bytes, and so have any two greatest: what is tested of one holds of all.
use Rattle.std.proofs.Common.{◌≡◌, ◌≢◌, ℕ, ◌<◌, inl, inr, List, [], ◌∷◌, refl, sym, subst, nat_cmp, Ordering, Less, Equal, Greater, IsUtf8}
use Rattle.std.specs.Cmp.Lexicographic.{slice_cmp}
use Rattle.std.specs.Ordering.{MatchOrdering, ordering_reverse, ordering_then}
use Rattle.std.proofs.lemmas.Cmp.{nat_list_cmp_total, ranked}
use Rattle.vortex_bounds.specs.Strings.{NotAbove}
use Rattle.vortex_c.specs.ColumnBounds.{AreEndsText, IsGreatestAt, IsLeastAt, value_at}

tied_first : (o p : Ordering) → ordering_then o p ≡ Equal → o ≡ Equal
tied_first Less p e = cc
tied_first Equal p e = refl
tied_first Greater p e = cc

tied_rest : (o p : Ordering) → ordering_then o p ≡ Equal → p ≡ Equal
tied_rest Less p e = cc
tied_rest Equal p e = e
tied_rest Greater p e = cc

same_number : (a b : ℕ) → nat_cmp a b ≡ Equal → a ≡ b
same_number a b e = subst (λ o. MatchOrdering o (a < b) (a ≡ b) (b < a)) e (ranked a b (nat_cmp a b) refl)

same_bytes : (x y : List ℕ) → slice_cmp nat_cmp x y ≡ Equal → x ≡ y
same_bytes [] [] e = refl
same_bytes [] (b ∷ y) e = cc
same_bytes (a ∷ x) [] e = cc
same_bytes (a ∷ x) (b ∷ y) e =
    let first : a ≡ b = same_number a b (tied_first (nat_cmp a b) (slice_cmp nat_cmp x y) e) in
    let rest : x ≡ y = same_bytes x y (tied_rest (nat_cmp a b) (slice_cmp nat_cmp x y) e) in
    cc

tied : (o : Ordering) → ordering_reverse o ≢ Greater → o ≢ Greater → o ≡ Equal
tied Less h k = absurd (h refl)
tied Equal h k = refl
tied Greater h k = absurd (k refl)

-- neither is above the other
neither_above : (x y : List ℕ) → NotAbove x y → NotAbove y x → x ≡ y
neither_above x y h k =
    sym (same_bytes y x (tied (slice_cmp nat_cmp y x) (subst (λ o. o ≢ Greater) (nat_list_cmp_total.antisymm x y) h) k))

pub ends_are_text : (bytes offsets : List ℕ) (least greatest : ℕ) → IsLeastAt bytes offsets least → IsGreatestAt bytes offsets greatest
    → IsUtf8 (value_at bytes offsets least) → IsUtf8 (value_at bytes offsets greatest) → AreEndsText bytes offsets
ends_are_text bytes offsets least greatest is_least is_greatest t u k (inl h) =
    subst IsUtf8 (neither_above (value_at bytes offsets least) (value_at bytes offsets k) (is_least.1 k h.0) (h.1 least is_least.0)) t
ends_are_text bytes offsets least greatest is_least is_greatest t u k (inr h) =
    subst IsUtf8 (neither_above (value_at bytes offsets greatest) (value_at bytes offsets k) (h.1 greatest is_greatest.0) (is_greatest.1 k h.0)) u
