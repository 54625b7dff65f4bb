-- What a type holds at every depth.
use Rattle.std.specs.Prelude.{◌∷◌}
use Rattle.vortex_dtype.specs.TypeTree.{TypeTree, list_type, fixed_size_list_type, map_type, struct_type, union_type, variant_type, extension_type, TypeTrees, no_types, type_then}

-- no variant stands in the type
abbrev mutual
  pub HasNoVariant : TypeTree → Type 0
  HasNoVariant (variant_type n) = ⊥
  HasNoVariant (list_type e n) = HasNoVariant e
  HasNoVariant (fixed_size_list_type e size n) = HasNoVariant e
  HasNoVariant (map_type k w sorted n) = HasNoVariant k × HasNoVariant w
  HasNoVariant (struct_type names ts n) = HaveNoVariant ts
  HasNoVariant (union_type names ts ids n) = HaveNoVariant ts
  HasNoVariant (extension_type id metadata t) = HasNoVariant t
  HasNoVariant _ = Unit {0}

  -- nor in any of the types
  pub HaveNoVariant : TypeTrees → Type 0
  HaveNoVariant no_types = Unit {0}
  HaveNoVariant (type_then t ts) = HasNoVariant t × HaveNoVariant ts

-- every union in the type has a variant
abbrev mutual
  pub UnionsHaveVariants : TypeTree → Type 0
  UnionsHaveVariants (union_type names (type_then t ts) (id ∷ ids) n) = UnionsHaveVariants t × AllHaveVariants ts
  UnionsHaveVariants (union_type names ts ids n) = ⊥
  UnionsHaveVariants (list_type e n) = UnionsHaveVariants e
  UnionsHaveVariants (fixed_size_list_type e size n) = UnionsHaveVariants e
  UnionsHaveVariants (map_type k w sorted n) = UnionsHaveVariants k × UnionsHaveVariants w
  UnionsHaveVariants (struct_type names ts n) = AllHaveVariants ts
  UnionsHaveVariants (extension_type id metadata t) = UnionsHaveVariants t
  UnionsHaveVariants _ = Unit {0}

  -- and in each of the types
  pub AllHaveVariants : TypeTrees → Type 0
  AllHaveVariants no_types = Unit {0}
  AllHaveVariants (type_then t ts) = UnionsHaveVariants t × AllHaveVariants ts

-- no extension stands in the type
abbrev mutual
  pub HasNoExtension : TypeTree → Type 0
  HasNoExtension (list_type e n) = HasNoExtension e
  HasNoExtension (fixed_size_list_type e size n) = HasNoExtension e
  HasNoExtension (map_type k w sorted n) = HasNoExtension k × HasNoExtension w
  HasNoExtension (struct_type names ts n) = HaveNoExtension ts
  HasNoExtension (union_type names ts ids n) = HaveNoExtension ts
  HasNoExtension (extension_type id metadata t) = ⊥
  HasNoExtension _ = Unit {0}

  -- nor in any of the types
  pub HaveNoExtension : TypeTrees → Type 0
  HaveNoExtension no_types = Unit {0}
  HaveNoExtension (type_then t ts) = HasNoExtension t × HaveNoExtension ts

-- no map stands in the type
abbrev mutual
  pub HasNoMap : TypeTree → Type 0
  HasNoMap (list_type e n) = HasNoMap e
  HasNoMap (fixed_size_list_type e size n) = HasNoMap e
  HasNoMap (map_type k w sorted n) = ⊥
  HasNoMap (struct_type names ts n) = HaveNoMap ts
  HasNoMap (union_type names ts ids n) = HaveNoMap ts
  HasNoMap (extension_type id metadata t) = HasNoMap t
  HasNoMap _ = Unit {0}

  -- nor in any of the types
  pub HaveNoMap : TypeTrees → Type 0
  HaveNoMap no_types = Unit {0}
  HaveNoMap (type_then t ts) = HasNoMap t × HaveNoMap ts
