-- The value in a variant decides.
use Rattle.std.proofs.Common.{◌≡◌, ◌∙◌, ap, sym}
use Rattle.vortex_dtype.specs.Lemmas.TypeLevels.{type_of-Variant}
use Rattle.vortex_dtype.specs.TypeOf.{type_of}
use Rattle.vortex_dtype.specs.TypeTree.{storage, variant_type}
use Rattle.vortex_value.proofs.Inner.{inner_decides}
use Rattle.vortex_value.proofs.ValueSteps.{variant_tree-parts}
use Rattle.vortex_value.proofs.display.is_decided_inside.Goals as goal

pub returns-in-Variant-Some : goal.returns-in-Variant-Some
returns-in-Variant-Some c =
    let scalar = c.args.scalar.now in
    let t = type_of c.args.dtype.now in
    let n = c.in-Variant-Some.field-0-0 in
    let bare : storage t ≡ variant_type n = sym c.storage_of.ensures ∙ ap type_of c.in-Variant-Some.is-0 ∙ type_of-Variant n in
    λ _. rw (variant_tree-parts scalar, c.in-Variant-Some.is-1) (inner_decides t (type_of scalar.dtype) n c.in-Variant-Some.field-0-1 bare)
