-- What tests say, one or two together.
use Rattle.std.proofs.Common.{◌≡◌, ◌⊎◌, inl, inr, Bool, true, false, not, ◌&&◌, ◌||◌, Option, Some, None, is_some, is_none, Ordering, Less, Equal, Greater, refl, sym, ap, ◌∙◌}
use Rattle.std.proofs.lemmas.Bool.{false≢true}
use Rattle.std.specs.Ordering.{is_some_and, is_ge, is_gt}
use Rattle.vortex_value.specs.Order.{reversed}

-- ---- made of two

pub and_true : (a b : Bool) → a ≡ true → b ≡ true → (a && b) ≡ true
and_true true b e f = f
and_true false b e f = absurd (false≢true e)

pub or_left : (a b : Bool) → a ≡ true → (a || b) ≡ true
or_left true b e = refl
or_left false b e = absurd (false≢true e)

pub or_right : (a b : Bool) → b ≡ true → (a || b) ≡ true
or_right true b e = refl
or_right false b e = e

pub or_none : (a b : Bool) → a ≡ false → b ≡ false → (a || b) ≡ false
or_none a b e f = ap (λ y. y || b) e ∙ f

-- ---- taken apart

pub or_false : (a b : Bool) → (a || b) ≡ false → (a ≡ false) × (b ≡ false)
or_false true b h = absurd (false≢true (sym h))
or_false false b h = (refl, h)

pub not_or : (a b : Bool) → not (a || b) ≡ true → (a ≡ false) × (b ≡ false)
not_or true b h = absurd (false≢true h)
not_or false true h = absurd (false≢true h)
not_or false false h = (refl, refl)

pub and_parts : (a b : Bool) → (a && b) ≡ true → (a ≡ true) × (b ≡ true)
and_parts true b h = (refl, h)
and_parts false b h = absurd (false≢true h)

pub and_false : (a b : Bool) → b ≡ true → (a && b) ≡ false → a ≡ false
and_false true b e h = absurd (false≢true (sym h ∙ e))
and_false false b e h = refl

pub or_cases : (a b : Bool) → (a || b) ≡ true → (a ≡ true) ⊎ (b ≡ true)
or_cases true b h = inl refl
or_cases false b h = inr h

pub not_true : (a : Bool) → not a ≡ true → a ≡ false
not_true true h = absurd (false≢true h)
not_true false h = refl

pub unless : (b : Bool) → (b ≡ true → ⊥) → b ≡ false
unless true h = absurd (h refl)
unless false h = refl

pub not_both : (a b : Bool) → (a ≡ true → b ≡ true → ⊥) → (a && b) ≡ false
not_both false b h = refl
not_both true b h = unless b (h refl)

-- ---- orders

pub none_left : {A : Type 0} (o : Option A) → is_some o ≡ false → o ≡ None
none_left None h = refl
none_left (Some a) h = absurd (false≢true (sym h))

pub none_not_some : {A : Type 0} (o : Option A) → o ≡ None → is_some o ≡ true → ⊥
none_not_some o h k = false≢true (sym (ap is_some h) ∙ k)

pub none_or_some : {A : Type 0} (o : Option A) → is_none o ≡ true → is_some o ≡ true → ⊥
none_or_some None e f = false≢true f
none_or_some (Some a) e f = false≢true e

pub some_of_not_none : {A : Type 0} (o : Option A) → is_none o ≡ false → is_some o ≡ true
some_of_not_none None h = absurd (false≢true (sym h))
some_of_not_none (Some a) h = refl

pub is_some-reversed : (o : Option Ordering) → is_some (reversed o) ≡ is_some o
is_some-reversed None = refl
is_some-reversed (Some o) = refl

pub less_left : (o : Option Ordering) → is_none o ≡ false → is_some_and is_ge o ≡ false → o ≡ Some Less
less_left None n h = absurd (false≢true (sym n))
less_left (Some Less) n h = refl
less_left (Some Equal) n h = absurd (false≢true (sym h))
less_left (Some Greater) n h = absurd (false≢true (sym h))

pub up_left : (o : Option Ordering) → is_none o ≡ false → is_some_and is_gt o ≡ false → (o ≡ Some Less) ⊎ (o ≡ Some Equal)
up_left None n h = absurd (false≢true (sym n))
up_left (Some Less) n h = inl refl
up_left (Some Equal) n h = inr refl
up_left (Some Greater) n h = absurd (false≢true (sym h))

pub equal_left : (o : Option Ordering) → is_some_and is_ge o ≡ true → is_some_and is_gt o ≡ false → o ≡ Some Equal
equal_left None g h = absurd (false≢true g)
equal_left (Some Less) g h = absurd (false≢true g)
equal_left (Some Equal) g h = refl
equal_left (Some Greater) g h = absurd (false≢true (sym h))

pub not_ge : (o : Option Ordering) → ¬ (o ≡ Some Equal) → ¬ (o ≡ Some Greater) → is_some_and is_ge o ≡ false
not_ge None e g = refl
not_ge (Some Less) e g = refl
not_ge (Some Equal) e g = absurd (e refl)
not_ge (Some Greater) e g = absurd (g refl)
