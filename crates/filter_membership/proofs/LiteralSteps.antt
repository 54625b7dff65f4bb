-- Whether a literal has a key, and its hash.
use Rattle.std.proofs.Common.{◌≡◌, Bool, true, false, not, ◌||◌, cond, Some, None, refl, ap, ◌∙◌}
use Rattle.vortex_cells.specs.Cells.{Cell}
use Rattle.vortex_cells.specs.Variants.{has_variant}
use Rattle.vortex_cells.proofs.VariantSteps.{found_variant, tied}
use Rattle.vortex_row.specs.Typed.{HasKey, has_typed}
use Rattle.vortex_row.proofs.TypedSteps.{found-typed, untyped-from_test}
use Rattle.value_membership.specs.Members.{hash_of}
use Rattle.filter_membership.specs.Filters.{literal_hash}

-- a test that fails, since what it finds is not there
refuted : (b : Bool) → (b ≡ true → ⊥) → b ≡ false
refuted true n = absurd (n refl)
refuted false n = refl

by_tests : (b d : Bool) → (b ≡ false → d ≡ false → ⊥) → (b || d) ≡ true
by_tests true d n = refl
by_tests false true n = refl
by_tests false false n = absurd (n refl refl)

keyed : (x : Cell) → HasKey x.typed x.content → (has_variant x.typed || has_typed x.content) ≡ false
keyed x h =
    ap (λ b. b || has_typed x.content) (refuted (has_variant x.typed) (λ e. found_variant x.typed e h.ordered))
    ∙ refuted (has_typed x.content) (λ e. found-typed x.content e h.untyped)

unkeyed : (x : Cell) → (HasKey x.typed x.content → ⊥) → (has_variant x.typed || has_typed x.content) ≡ true
unkeyed x n =
    by_tests (has_variant x.typed) (has_typed x.content)
    (λ e f. n (record { ordered = (tied x.typed (has_variant x.typed) refl).0 e; untyped = untyped-from_test x.content f }))

pub has_hash : (x : Cell) → HasKey x.typed x.content → literal_hash x ≡ Some (hash_of x)
has_hash x h = ap (λ b. cond (not b) (Some (hash_of x)) None) (keyed x h)

pub no_hash : (x : Cell) → (HasKey x.typed x.content → ⊥) → literal_hash x ≡ None
no_hash x n = ap (λ b. cond (not b) (Some (hash_of x)) None) (unkeyed x n)
