-- Extensions that are the same up to nullability.
use Rattle.std.proofs.Common.{◌≡◌, ◌∙◌, ◌↔◌, Bool, IsTrue, List, [], ap, refl, subst, sym, ℕ}
use Rattle.logical_scalars.specs.Stored.{storage_tree}
use Rattle.logical_types.specs.declared.extensions.StorageType.{StorageType}
use Rattle.vortex_dtype.specs.TypeOf.{ExtensionParts, extension_type_of}
use Rattle.vortex_dtype.specs.TypeTree.{Same, TypeTree, binary_type, bool_type, erase, extension_type, fixed_size_list_type, integer_type, list_type, map_type, null_type, struct_type, union_type, utf8_type, variant_type}
use Rattle.vortex_dtype.specs.declared.nullability.Nullability.TheVariants.{Nullable}
use Rattle.column_cells.specs.Types.{HasParts, IsExtensionOver}

-- the parts of an extension; of another type anything
abbrev id_in : TypeTree → List ℕ
id_in (extension_type id metadata t) = id
id_in _ = []

abbrev metadata_in : TypeTree → List ℕ
metadata_in (extension_type id metadata t) = metadata
metadata_in _ = []

abbrev storage_in : TypeTree → TypeTree
storage_in (extension_type id metadata t) = t
storage_in _ = null_type

module _ (id metadata : List ℕ) (storage : StorageType) where
  same : (t : TypeTree) → IsExtensionOver id metadata storage t → Same (extension_type id metadata (storage_tree storage Nullable)) t
  same t h =
      ap (extension_type id metadata) h.has.stored
      ∙ ap (λ i. extension_type i metadata (erase h.parts.storage)) (sym h.has.named)
      ∙ ap (λ a. extension_type h.parts.id a (erase h.parts.storage)) (sym h.has.described)
      ∙ sym (ap erase h.typed)

  over : (t : TypeTree) → Same (extension_type id metadata (storage_tree storage Nullable)) t → IsExtensionOver id metadata storage t
  over (extension_type j b u) e = record {
    parts = record { id = j; metadata = b; storage = u };
    typed = refl;
    has = record { named = sym (ap id_in e); described = sym (ap metadata_in e); stored = ap storage_in e };
  }
  over null_type e = cc
  over (bool_type n) e = cc
  over (integer_type k n) e = cc
  over (utf8_type n) e = cc
  over (binary_type n) e = cc
  over (list_type s n) e = cc
  over (fixed_size_list_type s k n) e = cc
  over (map_type k v b n) e = cc
  over (struct_type xs ts n) e = cc
  over (union_type xs ts is n) e = cc
  over (variant_type n) e = cc

  -- of the extension that a type is
  pub over_parts : (t : TypeTree) (e : ExtensionParts) (test : Bool) → t ≡ extension_type_of e → IsTrue test ↔ HasParts id metadata storage e → IsTrue test ↔ IsExtensionOver id metadata storage t
  over_parts t e test is tests = (λ r. record { parts = e; typed = is; has = tests.0 r }, λ h. tests.1 (known h))
    where
      known : IsExtensionOver id metadata storage t → HasParts id metadata storage e
      known h =
          let one : extension_type_of e ≡ extension_type_of h.parts = sym is ∙ h.typed in
          record {
            named = ap id_in one ∙ h.has.named;
            described = ap metadata_in one ∙ h.has.described;
            stored = h.has.stored ∙ sym (ap (λ x. erase (storage_in x)) one);
          }

-- what tests an extension tests whether types are the same
pub tests_same : (id metadata i a : List ℕ) (storage s : StorageType) (t : TypeTree) (test : Bool) → i ≡ id → a ≡ metadata → s ≡ storage → IsTrue test ↔ IsExtensionOver i a s t
    → IsTrue test ↔ Same (extension_type id metadata (storage_tree storage Nullable)) t
tests_same id metadata i a storage s t test p q e h =
    let tested : IsTrue test ↔ IsExtensionOver id metadata storage t =
    subst (λ x. IsTrue test ↔ IsExtensionOver id metadata x t) e (subst (λ x. IsTrue test ↔ IsExtensionOver id x s t) q (subst (λ x. IsTrue test ↔ IsExtensionOver x a s t) p h)) in
    (λ r. same id metadata storage t (tested.0 r), λ r. tested.1 (over id metadata storage t r))
