-- The contents of cells: which there are, and how many are null.
use Rattle.std.proofs.Common.{◌≡◌, ◌∙◌, ℕ, zero, suc, ◌+◌, Bool, false, cond, List, [], ◌∷◌, map, slice_get, Option, Some, None, IfSome, arith, ap, refl, subst, sym}
use Rattle.std.proofs.lemmas.Bool.{false≢true}
use Rattle.std.proofs.lemmas.List.{get_or-map, length-map}
use Rattle.std.proofs.lemmas.List.Elements.{All-contains, All-map, All-weaker}
use Rattle.std.proofs.lemmas.List.Sums.{sum_by-cons}
use Rattle.std.proofs.lemmas.Option.{get_or_from_slice_get, slice_get_within}
use Rattle.std.specs.List.{All, Contains, count_by}
use Rattle.std.specs.Option.{IsNone, is_none}
use Rattle.column_cells.specs.Contents.{content_or_null}
use Rattle.vortex_cells.specs.Cells.{is_null_content}
use Rattle.vortex_value.specs.Values.Content.{Content, null}
use Rattle.column_statistics.specs.Extremes.{IsExtreme, SaysUpTo}
use Rattle.std.specs.declared.cmp.Ordering.{Ordering}
use Rattle.std.specs.declared.cmp.Ordering.TheVariants.{Equal}

-- ---- elements of a list that was mapped

pub contains_of : {X Y : Type 0} (f : X → Y) (xs : List X) (x : X) → Contains xs x → Contains (map f xs) (f x)
contains_of f xs x h = (
  h.0,
  omega (arith, h.1, length-map xs f),
  get_or-map f xs h.0 x (f x) h.1 ∙ ap f h.2,
)

pub contains_back : {X Y : Type 0} (f : X → Y) (xs : List X) (y : Y) → Contains (map f xs) y → (x : X) × Contains xs x × (f x ≡ y)
contains_back f [] y (k, l, e) = absurd (omega arith)
contains_back f (x ∷ xs) y (zero, l, e) = (x, (zero, omega arith, refl), e)
contains_back f (x ∷ xs) y (suc k, l, e) =
    let r = contains_back f xs y (k, omega arith, e) in
    (r.0, (suc r.1.0, omega (arith, r.1.1), r.1.2), r.2)

-- what stands in a row is an element
pub contains_got : {X : Type 0} (xs : List X) (row : ℕ) (x : X) → slice_get xs row ≡ Some x → Contains xs x
contains_got xs row x e = (row, slice_get_within xs row x e, get_or_from_slice_get xs row x x e)

-- ---- counts

-- one more of each, which pass their tests alike
pub counted_alike : {X Y : Type 0} (p : X → Bool) (q : Y → Bool) (x : X) (y : Y) (xs : List X) (ys : List Y) → p x ≡ q y → count_by p xs ≡ count_by q ys → count_by p (x ∷ xs) ≡ count_by q (y ∷ ys)
counted_alike p q x y xs ys e h =
    sum_by-cons (λ z. cond (p z) 1 0) x xs ∙ ap (λ b. cond b 1 0 + count_by p xs) e ∙ ap (λ n. cond (q y) 1 0 + n) h ∙ sym (sum_by-cons (λ z. cond (q z) 1 0) y ys)

-- ---- cells that may be null, as contents

module _ {X : Type 0} (content : X → Content) (value : (x : X) → is_null_content (content x) ≡ false) where
  pub nulls_of : (os : List (Option X)) → count_by is_none os ≡ count_by is_null_content (map (content_or_null content) os)
  nulls_of [] = refl
  nulls_of (None ∷ os) = counted_alike is_none is_null_content None null os (map (content_or_null content) os) refl (nulls_of os)
  nulls_of (Some x ∷ os) = counted_alike is_none is_null_content (Some x) (content x) os (map (content_or_null content) os) (sym (value x)) (nulls_of os)

  null_of : (o : Option X) → IsNone o → content_or_null content o ≡ null
  null_of None h = refl
  null_of (Some x) h = cc

  -- if all cells are null, so are all contents
  pub all_null : (os : List (Option X)) → All IsNone os → All (λ c. c ≡ null) (map (content_or_null content) os)
  all_null os h = All-map (λ c. c ≡ null) (content_or_null content) os (All-weaker IsNone (λ o. content_or_null content o ≡ null) null_of os h)

  -- a content that is no null is that of a value
  a_value : (os : List (Option X)) (y : Content) → Contains (map (content_or_null content) os) y → is_null_content y ≡ false → (x : X) × Contains os (Some x) × (content x ≡ y)
  a_value os y h v =
      let r = contains_back (content_or_null content) os y h in
      by_cell r.0 r.1 r.2
    where
      by_cell : (o : Option X) → Contains os o → content_or_null content o ≡ y → (x : X) × Contains os (Some x) × (content x ≡ y)
      by_cell (Some x) i e = (x, i, e)
      by_cell None i e = absurd (false≢true (sym v ∙ ap is_null_content (sym e)))

  -- the content of an extreme value is an extreme of the contents
  pub extreme_of : (cmp : Content → Content → Option Ordering) (os : List (Option X)) (x : X) → Contains os (Some x)
      → ((y : X) → Contains os (Some y) → SaysUpTo (cmp (content x) (content y))) → cmp (content x) (content x) ≡ Some Equal
      → IsExtreme cmp (map (content_or_null content) os) (content x)
  extreme_of cmp os x i h e = record {
    among = contains_of (content_or_null content) os (Some x) i;
    value = value x;
    first = λ y j v.
        let w = a_value os y j v in
        subst (λ c. SaysUpTo (cmp (content x) c)) w.2 (h w.0 w.1);
    itself = e;
  }

-- what holds of each value of the cells
pub value_says : {X : Type 0} (P : X → Type 0) (os : List (Option X)) (x : X) → All (λ o. IfSome o P) os → Contains os (Some x) → P x
value_says P os x h i = All-contains (λ o. IfSome o P) os (Some x) h i
