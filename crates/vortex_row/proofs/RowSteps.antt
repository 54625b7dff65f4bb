-- Steps of rows.
use Rattle.std.proofs.Common.{◌≡◌, ℕ, suc, ◌+◌, ◌<◌, ◌≤◌, List, [], ◌∷◌, ◌++◌, length, length-append, drop, take, get_or, map, refl, sym, subst, ap, ◌∙◌, arith}
use Rattle.std.specs.Global.{Vec}
use Rattle.std.specs.List.{All}
use Rattle.std.specs.Vec.{vec_len}
use Rattle.std.proofs.lemmas.List.{drop_more, drop_all, get_or_default}
use Rattle.std.proofs.lemmas.List.Elements.{All-nil, All-cons, All-same}
use Rattle.vortex_value.specs.Size.{capped}
use Rattle.vortex_value.specs.TypesWithin.{HasNoVariant}
use Rattle.vortex_value.specs.Values.Content.{Content, content}
use Rattle.vortex_value.specs.Values.RawTree.{RawTree}
use Rattle.vortex_value.specs.Values.Refs.{ref_content, ref_raw, ref_type}
use Rattle.vortex_value.specs.declared.refs.ScalarRef.{ScalarRef}
use Rattle.vortex_row.specs.Columns.{key_with, row_key}
use Rattle.vortex_row.specs.Held.{IsHeld}
use Rattle.vortex_row.specs.Keys.{key}
use Rattle.vortex_row.specs.Slots.{HasSlot, IsLeftAt, Writes}
use Rattle.vortex_row.specs.Steps.{keys_length}
use Rattle.vortex_row.specs.declared.options.SortOptions.{SortOptions}
use Rattle.vortex_row.proofs.EncodeSteps.{key_with-length}
use Rattle.vortex_row.proofs.KeySteps.{all-slot}
use Rattle.vortex_row.proofs.SlotSteps.{left_at-then}

-- the key of a row is as long as the keys of its values

pub row-length : (os : List SortOptions) (cs : List Content) → length cs ≡ length os → length (row_key os cs) ≡ keys_length cs
row-length [] [] e = refl
row-length [] (c ∷ cs) e = absurd (omega arith)
row-length (o ∷ os) [] e = absurd (omega arith)
row-length (o ∷ os) (c ∷ cs) e =
    let long = length-append (key_with o c) (row_key os cs) in
    let first = key_with-length o c in
    let rest = row-length os cs (omega arith) in
    omega arith

contents-length : (xs : List ScalarRef) → length (map ref_content xs) ≡ length xs
contents-length [] = refl
contents-length (x ∷ xs) = ap suc (contents-length xs)

pub row-slot : (os : List SortOptions) (xs : List ScalarRef) (start : ℕ) (before out : Vec ℕ) → length xs ≡ length os → start ≡ vec_len before → vec_len before + capped (keys_length (map ref_content xs)) ≤ vec_len out
    → HasSlot out.items start (row_key os (map ref_content xs))
row-slot os xs start before out e f h =
    all-slot (row_key os (map ref_content xs)) (keys_length (map ref_content xs)) start out (row-length os (map ref_content xs) (contents-length xs ∙ e)) (omega arith)

-- what was written is appended, and the rest cut off
pub row-appended : (bs : List ℕ) (start end : ℕ) (before mid now next : Vec ℕ) → start ≡ vec_len before → take (vec_len before) mid.items ≡ before.items → Writes bs start end mid.items now.items → next.items ≡ take end now.items
    → next.items ≡ before.items ++ bs
row-appended bs start end before mid now next e begins w cut = cut ∙ w.items ∙ ap (λ xs. xs ++ bs) (ap (λ n. take n mid.items) e ∙ begins)

-- the value at a place, and the rest

pub keys_length-at : (i : ℕ) (xs : List ScalarRef) (x : ScalarRef) → i < length xs → x ≡ get_or xs i x → keys_length (map ref_content (drop i xs)) ≡ length (key (ref_content x)) + keys_length (map ref_content (drop (i + 1) xs))
keys_length-at i xs x h is = rw (drop_more xs i x h, ← is) refl

pub row_key-at : (i : ℕ) (os : List SortOptions) (xs : List ScalarRef) (o : SortOptions) (x : ScalarRef) → i < length os → i < length xs → o ≡ get_or os i o → x ≡ get_or xs i x
    → row_key (drop i os) (map ref_content (drop i xs)) ≡ key_with o (ref_content x) ++ row_key (drop (i + 1) os) (map ref_content (drop (i + 1) xs))
row_key-at i os xs o x g h e f = rw (drop_more os i o g, drop_more xs i x h, ← e, ← f) refl

pub held-at : (i : ℕ) (xs : List ScalarRef) (x : ScalarRef) → i < length xs → x ≡ get_or xs i x → IsHeld (ref_content x) → All IsHeld (map ref_content (drop (i + 1) xs)) → All IsHeld (map ref_content (drop i xs))
held-at i xs x h is held rest = subst (λ ys. All IsHeld (map ref_content ys)) (sym (drop_more xs i x h ∙ ap (λ y. y ∷ drop (i + 1) xs) (sym is))) (All-cons IsHeld (ref_content x) (map ref_content (drop (i + 1) xs)) held rest)

-- one value more is appended

pub row-left : (i : ℕ) (os : List SortOptions) (xs : List ScalarRef) (d : SortOptions) (x : ScalarRef) (v : RawTree) (start p q : ℕ) (before now next : List ℕ) → length xs ≡ length os → i < length xs → x ≡ get_or xs i x → v ≡ ref_raw x
    → IsLeftAt (row_key (drop i os) (map ref_content (drop i xs))) (row_key os (map ref_content xs)) start p before now → Writes (key_with (get_or os i d) (content v)) p q now next
    → IsLeftAt (row_key (drop (i + 1) os) (map ref_content (drop (i + 1) xs))) (row_key os (map ref_content xs)) start q before next
row-left i os xs d x v start p q before now next e h is value l w =
    let inside : i < length os = omega arith in
    let o = get_or os i d in
    let same : o ≡ get_or os i o = get_or_default os i d o inside in
    let split = row_key-at i os xs o x inside h same is in
    let written : Writes (key_with o (ref_content x)) p q now next = subst (λ r. Writes (key_with o (content r)) p q now next) value w in
    left_at-then (key_with o (ref_content x)) _ _ start p q before now next (subst (λ bs. IsLeftAt bs (row_key os (map ref_content xs)) start p before now) split l) written

-- of all values, if of the rest

pub ordered-at : (i : ℕ) (xs : List ScalarRef) (x : ScalarRef) → i < length xs → x ≡ get_or xs i x → HasNoVariant (ref_type x) → All (λ y. HasNoVariant (ref_type y)) (drop (i + 1) xs)
    → All (λ y. HasNoVariant (ref_type y)) (drop i xs)
ordered-at i xs x h is here rest =
    All-same (λ y. HasNoVariant (ref_type y)) (drop i xs) (x ∷ drop (i + 1) xs) (drop_more xs i x h ∙ ap (λ y. y ∷ drop (i + 1) xs) (sym is))
    (All-cons (λ y. HasNoVariant (ref_type y)) x (drop (i + 1) xs) here rest)

pub ordered-end : (i : ℕ) (xs : List ScalarRef) → length xs ≤ i → (All (λ y. HasNoVariant (ref_type y)) (drop i xs) → All (λ y. HasNoVariant (ref_type y)) xs) → All (λ y. HasNoVariant (ref_type y)) xs
ordered-end i xs h go = go (All-same (λ y. HasNoVariant (ref_type y)) (drop i xs) [] (drop_all i xs h) (All-nil (λ y. HasNoVariant (ref_type y))))

pub ruleset shown = (row-slot, row-appended)
