-- How many types a tree has. It measures the recursions of the crates above that go down a type, so that getters need to say
-- nothing but trees.
use Rattle.std.proofs.Common.{ℕ, zero, suc, ◌+◌, ◌<◌, ◌≤◌, List, [], ◌∷◌, length, get_or, arith}
use Rattle.vortex_dtype.specs.declared.types.DType.{DType}
use Rattle.vortex_dtype.specs.TypeOf.{type_of, dtype_trees}
use Rattle.vortex_dtype.specs.TypeTree.{TypeTree, TypeTrees, list_type, fixed_size_list_type, map_type, struct_type, union_type, extension_type, no_types, type_then}

-- how many types the tree has, this one included
abbrev mutual
  pub type_size : TypeTree → ℕ
  type_size (list_type e n) = 1 + type_size e
  type_size (fixed_size_list_type e size n) = 1 + type_size e
  type_size (map_type k v sorted n) = 1 + type_size k + type_size v
  type_size (struct_type names ts n) = 1 + types_size ts
  type_size (union_type names ts ids n) = 1 + types_size ts
  type_size (extension_type id metadata t) = 1 + type_size t
  type_size _ = 1

  pub types_size : TypeTrees → ℕ
  types_size no_types = 0
  types_size (type_then t ts) = type_size t + types_size ts

-- the type at a place in a list is no larger than all of the list
pub type_size-at : (ts : List DType) (i : ℕ) (d : DType) → i < length ts → type_size (type_of (get_or ts i d)) ≤ types_size (dtype_trees ts)
type_size-at [] i d inside = absurd (omega arith)
type_size-at (t ∷ ts) zero d inside = omega arith
type_size-at (t ∷ ts) (suc i) d inside = let rest = type_size-at ts i d (omega arith) in omega arith
