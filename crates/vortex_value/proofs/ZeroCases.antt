-- The zero and the default of each kind of type.
use Rattle.std.proofs.Common.{◌≡◌, ℕ, zero, suc, List, [], ◌∷◌, map, Option, Some, None, refl, ap}
use Rattle.std.specs.Prelude.{replicate, Bool, true, false, option_map}
use Rattle.vortex_dtype.specs.TypeOf.{as_type_trees}
use Rattle.vortex_dtype.specs.TypeTree.{TypeTree, union_type, TypeTrees, no_types, type_then}
use Rattle.vortex_dtype.specs.declared.nullability.Nullability.{Nullability}
use Rattle.vortex_dtype.specs.declared.nullability.Nullability.TheVariants.{NonNullable}
use Rattle.vortex_value.specs.Laws.ZeroCases.{DefaultByCases, ZeroByCases, each_of}
use Rattle.vortex_value.specs.Values.Content.{Content, sequence}
use Rattle.vortex_value.specs.Zero.{and_rest, filling, fillings, null_or, places_of, repeated}
use Rattle.vortex_value.proofs.FillingLaws.{null_fills}

each_of-replicate : (size : ℕ) (c : Content) → each_of (replicate size (Some c)) ≡ Some (repeated size c)
each_of-replicate zero c = refl
each_of-replicate (suc n) c = ap (and_rest (Some c)) (each_of-replicate n c)

places_of-each : (size : ℕ) (c : Option Content) → places_of size c ≡ option_map sequence (each_of (replicate size c))
places_of-each size (Some c) = rw (each_of-replicate size c) refl
places_of-each zero None = refl
places_of-each (suc n) None = refl

fillings-each : (nulls : Bool) (ts : List TypeTree) → fillings nulls (as_type_trees ts) ≡ each_of (map (filling nulls) ts)
fillings-each nulls [] = refl
fillings-each nulls (t ∷ ts) = ap (and_rest (filling nulls t)) (fillings-each nulls ts)

no_ids : (nulls : Bool) (names : List (List ℕ)) (ts : TypeTrees) (n : Nullability) → filling nulls (union_type names ts [] n) ≡ null_or nulls n None
no_ids nulls names no_types n = refl
no_ids nulls names (type_then t ts) n = refl

pub zero_by_cases : ZeroByCases
zero_by_cases = record {
  nulls = refl;
  booleans = λ n. refl;
  integers = λ k n. refl;
  texts = λ n. refl;
  strings = λ n. refl;
  lists = λ e n. refl;
  maps = λ k w sorted n. refl;
  fixed_size_lists = λ e size n. places_of-each size (filling false e);
  structs = λ names ts n. ap (option_map sequence) (fillings-each false ts);
  unions = λ names t ts id ids n. refl;
  no_variants = λ names ids n. refl;
  no_ids = no_ids false;
  variants = λ n. refl;
  extensions = λ id metadata t. refl;
}

pub default_by_cases : DefaultByCases
default_by_cases = record {
  nullable = λ t h. (null_fills t h).same;
  booleans = refl;
  integers = λ k. refl;
  texts = refl;
  strings = refl;
  lists = λ e. refl;
  maps = λ k w sorted. refl;
  fixed_size_lists = λ e size. places_of-each size (filling true e);
  structs = λ names ts. ap (option_map sequence) (fillings-each true ts);
  unions = λ names t ts id ids. refl;
  no_variants = λ names ids. refl;
  no_ids = λ names ts. no_ids true names ts NonNullable;
  variants = refl;
  extensions = λ id metadata t. refl;
}
