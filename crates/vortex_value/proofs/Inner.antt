-- A variant is valid where the value in it is.
use Rattle.std.proofs.Common.{◌≡◌, false, List, [], ◌∷◌, refl, rules}
use Rattle.vortex_dtype.specs.TypeTree.{TypeTree, storage, variant_type}
use Rattle.vortex_dtype.specs.declared.error.Step.TheVariants.{Inner}
use Rattle.vortex_dtype.specs.declared.nullability.Nullability.{Nullability}
use Rattle.vortex_value.specs.Breaches.{Found, breaches, is_empty, is_valid, under}
use Rattle.vortex_value.specs.Values.RawOf.{value_tree}
use Rattle.vortex_value.specs.Values.RawTree.{raw_variant, is_absent}
use Rattle.vortex_value.specs.declared.values.ScalarValue.{ScalarValue, the_lemmas}

-- a variant of a value that is present is valid exactly where the value is
pub inner_decides : (t u : TypeTree) (n : Nullability) (v : ScalarValue) → storage t ≡ variant_type n → is_valid t (raw_variant u (value_tree v)) ≡ is_valid u (value_tree v)
inner_decides t u n v e = rw (e, not_absent v) (empty_under (breaches u (value_tree v)))
  where
    not_absent : (v : ScalarValue) → is_absent (value_tree v) ≡ false
    not_absent v = search (rules, the_lemmas)

    empty_under : (fs : List Found) → is_empty (under Inner fs) ≡ is_empty fs
    empty_under [] = refl
    empty_under (f ∷ fs) = refl
