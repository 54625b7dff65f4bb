use Rattle.std.proofs.Common.{◌≡◌, refl, sym, ap, ◌∙◌, rules}
use Rattle.vortex_dtype.specs.TypeOf.{type_of}
use Rattle.vortex_dtype.specs.TypeTree.{TypeTree, integer_type, storage}
use Rattle.vortex_dtype.specs.declared.nullability.Nullability.{Nullability}
use Rattle.vortex_dtype.specs.declared.ptype.PType.{PType}
use Rattle.vortex_dtype.specs.declared.types.DType.{Primitive, the_lemmas}
use Rattle.vortex_value.specs.Values.Content.{Contents, no_contents, content_then, contents}
use Rattle.vortex_value.specs.Values.RawOf.{value_trees}
use Rattle.vortex_value.specs.Zero.{each_zero}
use Rattle.vortex_value.proofs.zero.+is_zero.Goals as goal

-- what the element type stores decides
each_zero-integers : (e : TypeTree) (k : PType) (n : Nullability) (cs : Contents) → storage e ≡ integer_type k n → each_zero (integer_type k n) cs ≡ each_zero e cs
each_zero-integers e k n no_contents h = refl
each_zero-integers e k n (content_then c cs) h = rw (h, each_zero-integers e k n cs h) refl

integer_of : (k : PType) (n : Nullability) → type_of (Primitive k n) ≡ integer_type k n
integer_of k n = search (rules, the_lemmas)

pub are_elements_zero-returns-in-Primitive : goal.are_elements_zero-returns-in-Primitive
are_elements_zero-returns-in-Primitive t c =
    let k = c.in-Primitive.field-0 in
    let n = c.in-Primitive.field-1 in
    let stored : storage (type_of c.args.element.now) ≡ integer_type k n = sym c.storage_of.ensures ∙ ap type_of c.in-Primitive.is ∙ integer_of k n in
    c.are_numbers_zero.ensures k n ∙ each_zero-integers (type_of c.args.element.now) k n (contents (value_trees c.args.items.now)) stored
