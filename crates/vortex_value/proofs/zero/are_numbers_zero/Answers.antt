use Rattle.std.proofs.Common.{◌≡◌, ◌&&◌, ◌<◌, ℕ, suc, Bool, true, false, List, length, Option, unwrap_or, drop, get_or, sym, ◌∙◌, add-one, rules}
use Rattle.std.specs.Option.{option_copied}
use Rattle.vortex_dtype.specs.TypeTree.{integer_type}
use Rattle.vortex_dtype.specs.declared.nullability.Nullability.{Nullability}
use Rattle.vortex_dtype.specs.declared.ptype.PType.{PType}
use Rattle.vortex_value.specs.Values.Content.{content, contents}
use Rattle.vortex_value.specs.Values.RawOf.{raw_of, value_trees}
use Rattle.vortex_value.specs.Zero.{each_zero, is_zero_of}
use Rattle.vortex_value.specs.declared.values.ScalarValue.{ScalarValue}
use Rattle.vortex_value.proofs.ZeroSteps.{each_zero_at}
use Rattle.vortex_value.proofs.zero.are_numbers_zero.Goals as goal

-- the elements from place i on, by what is said of the one that stands there
number_at : (k : PType) (n : Nullability) (i : ℕ) (vs : List (Option ScalarValue)) (v : Option ScalarValue) (b : Bool) → i < length vs → v ≡ get_or vs i v
    → b ≡ unwrap_or (is_zero_of (integer_type k n) (content (raw_of v))) false
    → each_zero (integer_type k n) (contents (value_trees (drop i vs))) ≡ (b && each_zero (integer_type k n) (contents (value_trees (drop (suc i) vs))))
number_at k n i vs v b below is says = rw says (each_zero_at (integer_type k n) i vs v below is)

pub returns-then-not-is_zero_integer : goal.returns-then-not-is_zero_integer
returns-then-not-is_zero_integer c = λ k n.
    let lent : option_copied c.as_ref.result ≡ c.item-item.result = search rules in
    let says = rw lent at (c.is_zero_integer.ensures k n) in
    let here = number_at k n c.loop-item.item-index c.args.items.now c.item-item.result c.is_zero_integer.result c.loop-item-test.true c.item-item.is says in
    sym (rw c.if-not-is_zero_integer.true at here) ∙ c.loop-item.invariant k n

pub loop-item-preserved : goal.loop-item-preserved
loop-item-preserved c = λ k n.
    let lent : option_copied c.as_ref.result ≡ c.item-item.result = search rules in
    let says = rw lent at (c.is_zero_integer.ensures k n) in
    let here = number_at k n c.loop-item.item-index c.args.items.now c.item-item.result c.is_zero_integer.result c.loop-item-test.true c.item-item.is says in
    rw add-one (sym (rw c.if-not-is_zero_integer.false at here) ∙ c.loop-item.invariant k n)
