-- What compares with a cell that has no parts compares with all else that does.
use Rattle.std.proofs.Common.{◌≡◌, ℤ, Bool, true, false, cond, List, ℕ, Option, None, is_some, refl, sym, ap, ◌∙◌}
use Rattle.std.proofs.lemmas.Bool.{false≢true}
use Rattle.vortex_dtype.specs.TypeTree.{TypeTree, Same}
use Rattle.vortex_value.specs.Equality.{same_type}
use Rattle.vortex_value.specs.Lemmas.EqualityLaws.{same_type-Decides}
use Rattle.vortex_value.specs.Order.{order}
use Rattle.vortex_value.specs.Values.Content.{Content, null, truth, whole, text, string}
use Rattle.vortex_cells.specs.Cells.{Cell, cell_order, is_null_cell, is_null_content}
use Rattle.filter_pruning.specs.Orders.{is_plain, is_plain_content}

-- ---- only a content of its own kind compares with a plain one, and null

only_truths : (b : Bool) (d : Content) → is_null_content d ≡ false → is_some (order (truth b) d) ≡ true → (c : Bool) × (d ≡ truth c)
only_truths b null f g = absurd (false≢true (sym f))
only_truths b (truth c) f g = (c, refl)
only_truths b _ f g = absurd (false≢true g)

only_wholes : (z : ℤ) (d : Content) → is_null_content d ≡ false → is_some (order (whole z) d) ≡ true → (w : ℤ) × (d ≡ whole w)
only_wholes z null f g = absurd (false≢true (sym f))
only_wholes z (whole w) f g = (w, refl)
only_wholes z _ f g = absurd (false≢true g)

pub only_texts : (bs : List ℕ) (d : Content) → is_null_content d ≡ false → is_some (order (text bs) d) ≡ true → (cs : List ℕ) × (d ≡ text cs)
only_texts bs null f g = absurd (false≢true (sym f))
only_texts bs (text cs) f g = (cs, refl)
only_texts bs _ f g = absurd (false≢true g)

pub only_strings : (bs : List ℕ) (d : Content) → is_null_content d ≡ false → is_some (order (string bs) d) ≡ true → (cs : List ℕ) × (d ≡ string cs)
only_strings bs null f g = absurd (false≢true (sym f))
only_strings bs (string cs) f g = (cs, refl)
only_strings bs _ f g = absurd (false≢true g)

-- so two that do compare with each other
contents_compare : (c d e : Content) → is_plain_content c ≡ true → is_null_content d ≡ false → is_null_content e ≡ false
    → is_some (order c d) ≡ true → is_some (order c e) ≡ true → is_some (order d e) ≡ true
contents_compare (truth b) d e p f g h k =
    ap (λ x. is_some (order x e)) (only_truths b d f h).1 ∙ ap (λ x. is_some (order (truth (only_truths b d f h).0) x)) (only_truths b e g k).1
contents_compare (whole z) d e p f g h k =
    ap (λ x. is_some (order x e)) (only_wholes z d f h).1 ∙ ap (λ x. is_some (order (whole (only_wholes z d f h).0) x)) (only_wholes z e g k).1
contents_compare (text bs) d e p f g h k =
    ap (λ x. is_some (order x e)) (only_texts bs d f h).1 ∙ ap (λ x. is_some (order (text (only_texts bs d f h).0) x)) (only_texts bs e g k).1
contents_compare (string bs) d e p f g h k =
    ap (λ x. is_some (order x e)) (only_strings bs d f h).1 ∙ ap (λ x. is_some (order (string (only_strings bs d f h).0) x)) (only_strings bs e g k).1
contents_compare _ d e p f g h k = absurd (false≢true p)

-- and what one of them compares with compares with the plain one
contents_reach : (c d e : Content) → is_plain_content c ≡ true → is_null_content d ≡ false → is_null_content e ≡ false
    → is_some (order c d) ≡ true → is_some (order d e) ≡ true → is_some (order c e) ≡ true
contents_reach (truth b) d e p f g h k =
    let c = only_truths b d f h in
    ap (λ x. is_some (order (truth b) x)) (only_truths c.0 e g (sym (ap (λ x. is_some (order x e)) c.1) ∙ k)).1
contents_reach (whole z) d e p f g h k =
    let c = only_wholes z d f h in
    ap (λ x. is_some (order (whole z) x)) (only_wholes c.0 e g (sym (ap (λ x. is_some (order x e)) c.1) ∙ k)).1
contents_reach (text bs) d e p f g h k =
    let c = only_texts bs d f h in
    ap (λ x. is_some (order (text bs) x)) (only_texts c.0 e g (sym (ap (λ x. is_some (order x e)) c.1) ∙ k)).1
contents_reach (string bs) d e p f g h k =
    let c = only_strings bs d f h in
    ap (λ x. is_some (order (string bs) x)) (only_strings c.0 e g (sym (ap (λ x. is_some (order x e)) c.1) ∙ k)).1
contents_reach _ d e p f g h k = absurd (false≢true p)

-- ---- of cells

pub typed_parts : {A : Type 0} (b : Bool) (o : Option A) → is_some (cond b o None) ≡ true → (b ≡ true) × (is_some o ≡ true)
typed_parts true o h = (refl, h)
typed_parts false o h = absurd (false≢true h)

pub typed_whole : {A : Type 0} (b : Bool) (o : Option A) → b ≡ true → is_some o ≡ true → is_some (cond b o None) ≡ true
typed_whole true o e h = h
typed_whole false o e h = absurd (false≢true e)

pub types_meet : (s t u : TypeTree) → same_type s t ≡ true → same_type s u ≡ true → same_type t u ≡ true
types_meet s t u h k =
    let e : Same s t = (same_type-Decides s t).0 h in
    let f : Same s u = (same_type-Decides s u).0 k in
    (same_type-Decides t u).1 (sym e ∙ f)

pub types_reach : (s t u : TypeTree) → same_type s t ≡ true → same_type t u ≡ true → same_type s u ≡ true
types_reach s t u h k =
    let e : Same s t = (same_type-Decides s t).0 h in
    let f : Same t u = (same_type-Decides t u).0 k in
    (same_type-Decides s u).1 (e ∙ f)

-- what compares with a plain cell compares with each other
pub cells_compare : (b x y : Cell) → is_plain b ≡ true → is_null_cell x ≡ false → is_null_cell y ≡ false
    → is_some (cell_order b x) ≡ true → is_some (cell_order b y) ≡ true → is_some (cell_order x y) ≡ true
cells_compare b x y p f g h k =
    let hx = typed_parts (same_type b.typed x.typed) (order b.content x.content) h in
    let hy = typed_parts (same_type b.typed y.typed) (order b.content y.content) k in
    typed_whole (same_type x.typed y.typed) (order x.content y.content) (types_meet b.typed x.typed y.typed hx.0 hy.0)
    (contents_compare b.content x.content y.content p f g hx.1 hy.1)

-- what compares with what a plain cell compares with compares with it
pub cells_reach : (b x y : Cell) → is_plain b ≡ true → is_null_cell x ≡ false → is_null_cell y ≡ false
    → is_some (cell_order b x) ≡ true → is_some (cell_order x y) ≡ true → is_some (cell_order b y) ≡ true
cells_reach b x y p f g h k =
    let hx = typed_parts (same_type b.typed x.typed) (order b.content x.content) h in
    let hy = typed_parts (same_type x.typed y.typed) (order x.content y.content) k in
    typed_whole (same_type b.typed y.typed) (order b.content y.content) (types_reach b.typed x.typed y.typed hx.0 hy.0)
    (contents_reach b.content x.content y.content p f g hx.1 hy.1)

plain_not_null : (c : Content) → is_plain_content c ≡ true → is_null_content c ≡ false
plain_not_null null p = absurd (false≢true p)
plain_not_null _ p = refl

-- what is plain is not null
pub plain_value : (x : Cell) → is_plain x ≡ true → is_null_cell x ≡ false
plain_value x p = plain_not_null x.content p
