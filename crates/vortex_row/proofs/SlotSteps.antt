-- Steps of what is written into a slice.
use Rattle.std.proofs.Common.{◌≡◌, ℕ, ◌+◌, ◌-◌, ◌*◌, ◌%◌, ◌^◌, ◌<◌, ◌≤◌, Bool, true, false, List, [], ◌∷◌, ◌++◌, take, drop, length, length-append, length-drop, Option, append_assoc, refl, sym, subst, ap, ap₂, ◌∙◌, arith}
use Rattle.std.specs.Global.{Vec}
use Rattle.std.specs.Int.{w64, to_be_bytes}
use Rattle.std.proofs.Math.Seq.{take-append-add}
use Rattle.std.proofs.lemmas.Grind.{take-set_at}
use Rattle.std.proofs.lemmas.List.{drop_at, length-take-le, take_at, take-take}
use Rattle.std.proofs.lemmas.Slice.{take-put_mid}
use borrow.Rule.Slice.PartMut.{put_mid}
use Rattle.vortex_value.specs.Values.Content.{content, contents}
use Rattle.vortex_value.specs.Values.RawOf.{value_tree, value_trees}
use Rattle.vortex_value.specs.declared.values.ScalarValue.{ScalarValue, Tuple}
use Rattle.vortex_value.proofs.ValueSteps.{value_tree-Tuple, value_tree-Union, value_tree-Variant, variant_tree-parts}
use Rattle.vortex_row.specs.Bytes.{inverted_again, inverted_byte}
use Rattle.vortex_row.specs.Columns.{key_with}
use Rattle.vortex_row.specs.Keys.{inverted, big_endian, number_bytes, escape, key, keys}
use Rattle.vortex_row.specs.Slots.{HasSlot, IsLeftAt, Writes}
use Rattle.vortex_row.specs.Steps.{inverted_word, side_byte, side_key}
use Rattle.vortex_row.specs.declared.options.SortOptions.{SortOptions}
use Rattle.vortex_row.proofs.ByteLaws.{inverted-length}
use Rattle.vortex_row.proofs.EncodeSteps.{bytes-64, escape-two, key_with-length, key_with-value, side-bytes, side-length, tuple-key}
use Rattle.vortex_row.proofs.LengthSteps.{union-content}
use Rattle.vortex_row.proofs.NumberLaws.{big_endian-length}
use Rattle.vortex_row.proofs.ReaderSteps.{take-then}
use Rattle.vortex_row.proofs.ShiftSteps.{shifted_bytes}

-- one byte, and several

pub one-written : (b p q : ℕ) (x y : List ℕ) → HasSlot x p (b ∷ []) → q ≡ p + 1 → take q y ≡ take p x ++ b ∷ [] → length y ≡ length x → Writes (b ∷ []) p q x y
one-written b p q x y h e items count = record { items = items; next' = e; count = count }

pub all-written : (bs : List ℕ) (p q : ℕ) (x y : List ℕ) → HasSlot x p bs → q ≡ p + length bs → y ≡ put_mid p (q - p) x bs → length y ≡ length x → Writes bs p q x y
all-written bs p q x y h e is count =
    record { items = ap (take q) is ∙ take-put_mid p (q - p) x bs q e (omega arith); next' = e; count = count }

pub writes-then : (bs cs : List ℕ) (p q r : ℕ) (x y z : List ℕ) → Writes bs p q x y → Writes cs q r y z → Writes (bs ++ cs) p r x z
writes-then bs cs p q r x y z a c =
    let long = length-append bs cs in
    let one = a.next' in
    let two = c.next' in
    let less = a.count in
    let least = c.count in
    record {
      items = c.items ∙ ap (λ xs. xs ++ cs) a.items ∙ append_assoc (take p x) bs cs;
      next' = omega arith;
      count = omega arith;
    }

pub writes-after_one : (b : ℕ) (bs : List ℕ) (p q r : ℕ) (x y z : List ℕ) → Writes (b ∷ []) p q x y → Writes bs q r y z → Writes (b ∷ bs) p r x z
writes-after_one b bs p q r x y z a c = writes-then (b ∷ []) bs p q r x y z a c

-- the bytes that are left

pub slot-after_one : (b : ℕ) (bs : List ℕ) (p q : ℕ) (x y : List ℕ) → HasSlot x p (b ∷ bs) → Writes (b ∷ []) p q x y → HasSlot y q bs
slot-after_one b bs p q x y h w =
    let one = w.next' in
    let same = w.count in
    omega arith

pub slot-first : (b : ℕ) (bs : List ℕ) (p : ℕ) (x : List ℕ) → HasSlot x p (b ∷ bs) → HasSlot x p (b ∷ [])
slot-first b bs p x h = omega arith

pub slot-front : (bs cs : List ℕ) (p : ℕ) (x : List ℕ) → HasSlot x p (bs ++ cs) → HasSlot x p bs
slot-front bs cs p x h = let long = length-append bs cs in omega arith

pub slot-back : (bs cs : List ℕ) (p q : ℕ) (x y : List ℕ) → HasSlot x p (bs ++ cs) → Writes bs p q x y → HasSlot y q cs
slot-back bs cs p q x y h w =
    let long = length-append bs cs in
    let one = w.next' in
    let same = w.count in
    omega arith

-- numbers

same-writes : (a b : ℕ) (bs cs : List ℕ) (p q : ℕ) (x y : List ℕ) → a ≡ b → bs ≡ cs → Writes (a ∷ bs) p q x y → Writes (b ∷ cs) p q x y
same-writes a b bs cs p q x y e f all = subst (λ xs. Writes xs p q x y) (ap₂ (λ c cs. c ∷ cs) e f) all

-- all eight bytes were written, and the last j of them are not counted
cut-writes : (b j : ℕ) (bs : List ℕ) (p q r : ℕ) (x y z : List ℕ) → length bs ≡ 8 → j ≤ 8 → HasSlot x p (b ∷ []) → Writes (b ∷ []) p q x y → Writes bs q r y z → Writes (b ∷ take (8 - j) bs) p (r - j) x z
cut-writes b j bs p q r x y z long h slot first all =
    let one = first.next' in
    let more = all.next' in
    let same = first.count in
    let less = all.count in
    let front : length (take q y) ≡ q = length-take-le q y (omega arith) in
    let place : r - j ≡ length (take q y) + (8 - j) = omega arith in
    let short = length-take-le (8 - j) bs (omega arith) in
    record {
      items =
          sym (take-take (r - j) r z (omega arith)) ∙ ap (take (r - j)) all.items ∙ ap (λ n. take n (take q y ++ bs)) place ∙ take-append-add (take q y) bs (8 - j) ∙ ap (λ xs. xs ++ take (8 - j) bs) first.items
          ∙ append_assoc (take p x) (b ∷ []) (take (8 - j) bs);
      next' = omega arith;
      count = omega arith;
    }

pub used-writes : (b n j s : ℕ) (bs : List ℕ) (p q r t : ℕ) (x y z : List ℕ) → j ≤ 8 → s ≡ n * 2 ^ (8 * j % 64) % 2 ^ 64 → bs ≡ to_be_bytes w64 s → HasSlot x p (b ∷ drop j (big_endian 8 n))
    → Writes (b ∷ []) p q x y → Writes bs q r y z → t ≡ r - j → Writes (b ∷ drop j (big_endian 8 n)) p t x z
used-writes b n j s bs p q r t x y z h shift is slot first all e =
    let same : bs ≡ big_endian 8 s = is ∙ bytes-64 s in
    let used : take (8 - j) bs ≡ drop j (big_endian 8 n) = ap (take (8 - j)) (same ∙ ap (big_endian 8) shift) ∙ shifted_bytes j n h in
    subst (λ m. Writes (b ∷ drop j (big_endian 8 n)) p m x z) (sym e)
    (same-writes b b (take (8 - j) bs) (drop j (big_endian 8 n)) p (r - j) x z refl used
    (cut-writes b j bs p q r x y z (ap length same ∙ big_endian-length 8 s) h (slot-first b (drop j (big_endian 8 n)) p x slot) first all))

-- the key of a number, inverted or not, whose first byte and whose bytes were chosen

pub side-slot : (s : Bool) (n j b m p : ℕ) (x : List ℕ) → length (number_bytes n) + j ≡ 8 → HasSlot x p (side_key s n) → HasSlot x p (b ∷ drop j (big_endian 8 m))
side-slot s n j b m p x e h =
    let long = side-length s n in
    let all = big_endian-length 8 m in
    let rest = length-drop j (big_endian 8 m) in
    omega arith

pub side-writes : (s d : Bool) (n j b m p q : ℕ) (x y : List ℕ) → n < 2 ^ 64 → length (number_bytes n) + j ≡ 8 → number_bytes n ≡ drop j (big_endian 8 n)
    → b ≡ inverted_byte d (side_byte s j) → m ≡ inverted_word (inverted_again s d) n → Writes (b ∷ drop j (big_endian 8 m)) p q x y → Writes (inverted d (side_key s n)) p q x y
side-writes s d n j b m p q x y h e f first word w =
    subst (λ bs. Writes bs p q x y) (ap₂ (λ c k. c ∷ drop j (big_endian 8 k)) first word ∙ side-bytes s d n j h e f) w

-- strings

pub two-slot : (b p : ℕ) (x : List ℕ) → b < 2 → HasSlot x p (escape b) → HasSlot x p (1 ∷ (b + 1) ∷ [])
two-slot b p x h slot = subst (HasSlot x p) (escape-two b h) slot

pub two-writes : (b p q : ℕ) (x y : List ℕ) → b < 2 → Writes (1 ∷ (b + 1) ∷ []) p q x y → Writes (escape b) p q x y
two-writes b p q x y h w = subst (λ bs. Writes bs p q x y) (sym (escape-two b h)) w

pub left_at-all : (all : List ℕ) (start : ℕ) (before : List ℕ) → IsLeftAt all all start start before before
left_at-all all start before = record { items = refl; next' = refl; count = refl }

pub left_at-slot : (bs rest all : List ℕ) (start p : ℕ) (before now : List ℕ) → IsLeftAt (bs ++ rest) all start p before now → HasSlot before start all → HasSlot now p bs
left_at-slot bs rest all start p before now l h =
    let long = length-append bs rest in
    let next = l.next' in
    let count = l.count in
    omega arith

pub left_at-then : (bs rest all : List ℕ) (start p q : ℕ) (before mid now : List ℕ) → IsLeftAt (bs ++ rest) all start p before mid → Writes bs p q mid now → IsLeftAt rest all start q before now
left_at-then bs rest all start p q before mid now l w =
    let long = length-append bs rest in
    let next = l.next' in
    let count = l.count in
    let more = w.next' in
    let same = w.count in
    record {
      items = ap (λ xs. xs ++ rest) w.items ∙ append_assoc (take p mid) bs rest ∙ l.items;
      next' = omega arith;
      count = omega arith;
    }

pub left_at-last_slot : (rest all : List ℕ) (start p : ℕ) (before now : List ℕ) → IsLeftAt rest all start p before now → HasSlot before start all → HasSlot now p rest
left_at-last_slot rest all start p before now l h =
    let next = l.next' in
    let count = l.count in
    omega arith

pub left_at-last : (rest all : List ℕ) (start p q : ℕ) (before mid now : List ℕ) → IsLeftAt rest all start p before mid → Writes rest p q mid now → Writes all start q before now
left_at-last rest all start p q before mid now l w =
    let next = l.next' in
    let count = l.count in
    let more = w.next' in
    let same = w.count in
    record { items = w.items ∙ l.items; next' = omega arith; count = omega arith }

-- what was written is inverted

inverted-mid : (m body t : List ℕ) (p k : ℕ) → length m ≡ p → length body ≡ k
    → take p (m ++ (body ++ t)) ++ inverted true (take k (drop p (m ++ (body ++ t)))) ++ drop k (drop p (m ++ (body ++ t))) ≡ m ++ inverted true body ++ t
inverted-mid m body t p k e f =
    let front : take p (m ++ (body ++ t)) ≡ m = take_at m (body ++ t) p e in
    let rest : drop p (m ++ (body ++ t)) ≡ body ++ t = drop_at m (body ++ t) p e in
    let part : take k (drop p (m ++ (body ++ t))) ≡ body = ap (take k) rest ∙ take_at body t k f in
    let tail : drop k (drop p (m ++ (body ++ t))) ≡ t = ap (drop k) rest ∙ drop_at body t k f in
    ap₂ (λ u v. u ++ v) (ap₂ (λ u v. u ++ v) front (ap (inverted true) part)) tail

abbrev turned : ℕ → ℕ → List ℕ → List ℕ
turned p k y = take p y ++ inverted true (take k (drop p y)) ++ drop k (drop p y)

pub inverted-writes : (body : List ℕ) (p q : ℕ) (x y z : List ℕ) → HasSlot x p body → Writes body p q x y → z ≡ take p y ++ inverted true (take (q - p) (drop p y)) ++ drop (q - p) (drop p y) → Writes (inverted true body) p q x z
inverted-writes body p q x y z slot w is =
    let next = w.next' in
    let count = w.count in
    let front : length (take p x) ≡ p = length-take-le p x (omega arith) in
    let same : y ≡ take p x ++ (body ++ drop q y) = take-then q y ∙ ap (λ xs. xs ++ drop q y) w.items ∙ append_assoc (take p x) body (drop q y) in
    let now : z ≡ take p x ++ inverted true body ++ drop q y = is ∙ ap (turned p (q - p)) same ∙ inverted-mid (take p x) body (drop q y) p (q - p) front (omega arith) in
    let long = inverted-length true body in
    let both = length-append (take p x) (inverted true body) in
    let old_long : length y ≡ length (take p x ++ (body ++ drop q y)) = ap length same in
    let one = length-append (take p x) (body ++ drop q y) in
    let two = length-append body (drop q y) in
    let three = length-append (take p x ++ inverted true body) (drop q y) in
    let now_long : length z ≡ length (take p x ++ inverted true body ++ drop q y) = ap length now in
    record {
      items = ap (take q) now ∙ take_at (take p x ++ inverted true body) (drop q y) q (omega arith);
      next' = omega arith;
      count = omega arith;
    }

pub turned-writes : (d : Bool) (bs : List ℕ) (p q : ℕ) (x y : List ℕ) → d ≡ true → Writes (inverted true bs) p q x y → Writes (inverted d bs) p q x y
turned-writes d bs p q x y e w = subst (λ b. Writes (inverted b bs) p q x y) (sym e) w

pub upright-writes : (d : Bool) (bs : List ℕ) (p q : ℕ) (x y : List ℕ) → d ≡ false → Writes bs p q x y → Writes (inverted d bs) p q x y
upright-writes d bs p q x y e w = subst (λ b. Writes (inverted b bs) p q x y) (sym e) w

-- one byte, inverted or not

pub turned-byte : (d : Bool) (b : ℕ) → inverted d (b ∷ []) ≡ inverted_byte d b ∷ []
turned-byte true b = refl
turned-byte false b = refl

pub byte-writes : (d : Bool) (b c p q : ℕ) (x y : List ℕ) → c ≡ inverted_byte d b → Writes (c ∷ []) p q x y → Writes (inverted d (b ∷ [])) p q x y
byte-writes d b c p q x y e w = subst (λ bs. Writes bs p q x y) (ap (λ a. a ∷ []) e ∙ sym (turned-byte d b)) w

-- parts

pub tuple-writes : (v : ScalarValue) (vs : Vec (Option ScalarValue)) (ps : List (Option ScalarValue)) (p q r : ℕ) (x y z : List ℕ) → v ≡ Tuple vs → ps ≡ vs.items
    → Writes (23 ∷ []) p q x y → Writes (keys (contents (value_trees ps))) q r y z → Writes (key (content (value_tree v))) p r x z
tuple-writes v vs ps p q r x y z e f one more =
    subst (λ bs. Writes bs p r x z) (sym (tuple-key v vs e))
    (same-writes 23 23 (keys (contents (value_trees ps))) (keys (contents (value_trees vs.items))) p r x z refl (ap (λ xs. keys (contents (value_trees xs))) f) (writes-after_one 23 (keys (contents (value_trees ps))) p q r x y z one more))

-- a value is no null

pub turned-slot : (d : Bool) (bs : List ℕ) (p : ℕ) (x : List ℕ) → HasSlot x p (inverted d bs) → HasSlot x p bs
turned-slot d bs p x slot =
    let long = inverted-length d bs in
    omega arith

pub column-slot : (o : SortOptions) (v : ScalarValue) (p : ℕ) (x : List ℕ) → HasSlot x p (key_with o (content (value_tree v))) → HasSlot x p (key (content (value_tree v)))
column-slot o v p x slot =
    let long = key_with-length o (content (value_tree v)) in
    omega arith

pub column-writes : (o : SortOptions) (v : ScalarValue) (d : Bool) (p q : ℕ) (x y : List ℕ) → o.descending ≡ d → Writes (inverted d (key (content (value_tree v)))) p q x y → Writes (key_with o (content (value_tree v))) p q x y
column-writes o v d p q x y e w = subst (λ bs. Writes bs p q x y) (sym (key_with-value o v d e)) w

pub ascending-writes : (o : SortOptions) (v : ScalarValue) (p q : ℕ) (x y : List ℕ) → o.descending ≡ false → Writes (key (content (value_tree v))) p q x y → Writes (key_with o (content (value_tree v))) p q x y
ascending-writes o v p q x y e w = column-writes o v false p q x y e w

pub ruleset bytes = (one-written, all-written, take-set_at)

pub ruleset numbers = (slot-after_one, slot-first, writes-after_one)

pub ruleset strings = (slot-after_one, slot-first, slot-back, slot-front, writes-after_one, writes-then, left_at-all, turned-writes, upright-writes)

pub ruleset doubled = (two-slot, two-writes)

pub ruleset inverting = (inverted-writes)

pub ruleset in_columns = (column-slot, column-writes, ascending-writes)

pub ruleset plain = (turned-slot, byte-writes)

pub ruleset shown = (slot-after_one, slot-first, writes-after_one, left_at-all, left_at-last_slot, left_at-last, value_tree-Tuple, value_tree-Union, value_tree-Variant, variant_tree-parts, union-content)
