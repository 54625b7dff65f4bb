-- The tests of equality decide equality of trees, and nothing is erased if nullability counts. Implementations of traits and the
-- crates above cite these lemmas.
use Rattle.std.proofs.Common.{◌≡◌, ℕ, List, [], ◌∷◌, Bool, true, true≢false, Option, Some, refl, sym, ap, ◌∙◌, subst}
use Rattle.std.specs.Bool.{Decides}
use Rattle.std.specs.Cmp.{IsEquivalence, first_so, second_so, booleans_Decides, unsigned_Decides}
use Rattle.std.specs.Str.{bytes_eq}
use Rattle.std.proofs.Math.Bool.{and-true}
use Rattle.std.proofs.lemmas.Bool.{and_from}
use Rattle.std.proofs.lemmas.Bool.Decides.{same_from_decides, Decides-like}
use Rattle.std.proofs.lemmas.Option.{same_Some}
use Rattle.std.proofs.lemmas.Slice.Eq.{bytes_eq-Decides, slice_eq-Decides}
use Rattle.vortex_dtype.specs.declared.nullability.Nullability.{Nullability}
use Rattle.vortex_dtype.specs.declared.nullability.Nullability.TheVariants.{NonNullable, Nullable}
use Rattle.vortex_dtype.specs.declared.ptype.PType.{PType}
use Rattle.vortex_dtype.specs.declared.ptype.PType.TheVariants.{U8, U16, U32, U64, I8, I16, I32, I64}
use Rattle.vortex_dtype.specs.TypeTree.{TypeTree, TypeTrees, null_type, bool_type, integer_type, utf8_type, binary_type, list_type, fixed_size_list_type, map_type, struct_type, union_type, variant_type, extension_type, no_types, type_then, trim, trim_all, storage, is_nullable}
use Rattle.vortex_dtype.specs.TypeEquality.{nullability_eq, names_eq, tree_eq, trees_eq, map_eq, fields_eq, variants_eq, ext_eq}
use Rattle.vortex_dtype.specs.PTypes.{ptype_index, same_ptype}
use Rattle.vortex_dtype.specs.TypeOf.{as_type_trees, MapParts, FieldParts, VariantParts, ExtensionParts, map_type_of, struct_type_of, union_type_of, extension_type_of}
use Rattle.vortex_dtype.specs.Parts.{listed_types, map_in, fields_in, variants_in, extension_in}

nullability_eq-same : (m n : Nullability) → nullability_eq m n ≡ true → m ≡ n
nullability_eq-same NonNullable NonNullable e = refl
nullability_eq-same NonNullable Nullable e = cc
nullability_eq-same Nullable NonNullable e = cc
nullability_eq-same Nullable Nullable e = refl

nullability_eq-refl : (m : Nullability) → nullability_eq m m ≡ true
nullability_eq-refl NonNullable = refl
nullability_eq-refl Nullable = refl

same_ptype-same : (j k : PType) → same_ptype j k ≡ true → j ≡ k
same_ptype-same U8 U8 e = refl
same_ptype-same U16 U16 e = refl
same_ptype-same U32 U32 e = refl
same_ptype-same U64 U64 e = refl
same_ptype-same I8 I8 e = refl
same_ptype-same I16 I16 e = refl
same_ptype-same I32 I32 e = refl
same_ptype-same I64 I64 e = refl
same_ptype-same _ _ e = absurd (true≢false (sym e))

same_ptype-refl : (k : PType) → same_ptype k k ≡ true
same_ptype-refl k = (unsigned_Decides (ptype_index k) (ptype_index k)).1 refl

pub same_ptype-Decides : (j k : PType) → Decides (same_ptype j k) (j ≡ k)
same_ptype-Decides j k = (same_ptype-same j k, λ e. subst (λ (l : PType). same_ptype j l ≡ true) e (same_ptype-refl j))

bytes_eq-refl : (xs : List ℕ) → bytes_eq xs xs ≡ true
bytes_eq-refl xs = (bytes_eq-Decides xs xs).1 refl

names_eq-Decides : (xs ys : List (List ℕ)) → Decides (names_eq xs ys) (xs ≡ ys)
names_eq-Decides xs ys = slice_eq-Decides bytes_eq-Decides xs ys (names_eq xs ys) refl

names_eq-refl : (xs : List (List ℕ)) → names_eq xs xs ≡ true
names_eq-refl xs = (names_eq-Decides xs xs).1 refl

-- trees that pass the test are equal
mutual
  pub tree_eq-same : (s t : TypeTree) → tree_eq s t ≡ true → s ≡ t
  tree_eq-same null_type null_type e = refl
  tree_eq-same (bool_type m) (bool_type n) e = ap bool_type (nullability_eq-same m n e)
  tree_eq-same (utf8_type m) (utf8_type n) e = ap utf8_type (nullability_eq-same m n e)
  tree_eq-same (binary_type m) (binary_type n) e = ap binary_type (nullability_eq-same m n e)
  tree_eq-same (variant_type m) (variant_type n) e = ap variant_type (nullability_eq-same m n e)
  tree_eq-same (integer_type p m) (integer_type q n) e =
      let a = same_ptype-same p q (first_so _ _ e) in
      let z = nullability_eq-same m n (second_so _ _ e) in cc
  tree_eq-same (list_type s m) (list_type t n) e =
      let a = tree_eq-same s t (first_so _ _ e) in
      let z = nullability_eq-same m n (second_so _ _ e) in cc
  tree_eq-same (fixed_size_list_type s j m) (fixed_size_list_type t k n) e =
      let f = first_so _ _ e in
      let a = tree_eq-same s t (first_so _ _ f) in
      let b = (unsigned_Decides j k).0 (second_so _ _ f) in
      let z = nullability_eq-same m n (second_so _ _ e) in cc
  tree_eq-same (map_type s u h m) (map_type t v k n) e =
      let f = first_so _ _ e in
      let g = first_so _ _ f in
      let a = tree_eq-same s t (first_so _ _ g) in
      let b = tree_eq-same u v (second_so _ _ g) in
      let d = (booleans_Decides h k).0 (second_so _ _ f) in
      let z = nullability_eq-same m n (second_so _ _ e) in cc
  tree_eq-same (struct_type xs ss m) (struct_type ys ts n) e =
      let f = first_so _ _ e in
      let a = (names_eq-Decides xs ys).0 (first_so _ _ f) in
      let b = trees_eq-same ss ts (second_so _ _ f) in
      let z = nullability_eq-same m n (second_so _ _ e) in cc
  tree_eq-same (union_type xs ss is m) (union_type ys ts js n) e =
      let f = first_so _ _ e in
      let g = first_so _ _ f in
      let a = (names_eq-Decides xs ys).0 (first_so _ _ g) in
      let b = trees_eq-same ss ts (second_so _ _ g) in
      let d = (bytes_eq-Decides is js).0 (second_so _ _ f) in
      let z = nullability_eq-same m n (second_so _ _ e) in cc
  tree_eq-same (extension_type i x s) (extension_type j y t) e =
      let f = first_so _ _ e in
      let a = (bytes_eq-Decides i j).0 (first_so _ _ f) in
      let b = (bytes_eq-Decides x y).0 (second_so _ _ f) in
      let z = tree_eq-same s t (second_so _ _ e) in cc
  tree_eq-same _ _ e = absurd (true≢false (sym e))

  pub trees_eq-same : (ss ts : TypeTrees) → trees_eq ss ts ≡ true → ss ≡ ts
  trees_eq-same no_types no_types e = refl
  trees_eq-same (type_then s ss) (type_then t ts) e =
      let a = tree_eq-same s t (first_so _ _ e) in
      let z = trees_eq-same ss ts (second_so _ _ e) in cc
  trees_eq-same _ _ e = absurd (true≢false (sym e))

-- a tree passes the test with itself
mutual
  pub tree_eq-refl : (t : TypeTree) → tree_eq t t ≡ true
  tree_eq-refl null_type = refl
  tree_eq-refl (bool_type n) = nullability_eq-refl n
  tree_eq-refl (utf8_type n) = nullability_eq-refl n
  tree_eq-refl (binary_type n) = nullability_eq-refl n
  tree_eq-refl (variant_type n) = nullability_eq-refl n
  tree_eq-refl (integer_type p n) = and_from _ _ (same_ptype-refl p) (nullability_eq-refl n)
  tree_eq-refl (list_type t n) = and_from _ _ (tree_eq-refl t) (nullability_eq-refl n)
  tree_eq-refl (fixed_size_list_type t k n) = and_from _ _ (and_from _ _ (tree_eq-refl t) ((unsigned_Decides k k).1 refl)) (nullability_eq-refl n)
  tree_eq-refl (map_type s t k n) = and_from _ _ (and_from _ _ (and_from _ _ (tree_eq-refl s) (tree_eq-refl t)) ((booleans_Decides k k).1 refl)) (nullability_eq-refl n)
  tree_eq-refl (struct_type xs ts n) = and_from _ _ (and_from _ _ (names_eq-refl xs) (trees_eq-refl ts)) (nullability_eq-refl n)
  tree_eq-refl (union_type xs ts is n) = and_from _ _ (and_from _ _ (and_from _ _ (names_eq-refl xs) (trees_eq-refl ts)) (bytes_eq-refl is)) (nullability_eq-refl n)
  tree_eq-refl (extension_type i x t) = and_from _ _ (and_from _ _ (bytes_eq-refl i) (bytes_eq-refl x)) (tree_eq-refl t)

  pub trees_eq-refl : (ts : TypeTrees) → trees_eq ts ts ≡ true
  trees_eq-refl no_types = refl
  trees_eq-refl (type_then t ts) = and_from _ _ (tree_eq-refl t) (trees_eq-refl ts)

pub tree_eq-Decides : (s t : TypeTree) → Decides (tree_eq s t) (s ≡ t)
tree_eq-Decides s t = (tree_eq-same s t, λ e. subst (λ u. tree_eq s u ≡ true) e (tree_eq-refl s))

-- if nullability counts, nothing is erased
mutual
  pub trim-exact : (t : TypeTree) → trim true t ≡ t
  trim-exact null_type = refl
  trim-exact (bool_type n) = refl
  trim-exact (utf8_type n) = refl
  trim-exact (binary_type n) = refl
  trim-exact (variant_type n) = refl
  trim-exact (integer_type p n) = refl
  trim-exact (list_type t n) = ap (λ u. list_type u n) (trim-exact t)
  trim-exact (fixed_size_list_type t k n) = ap (λ u. fixed_size_list_type u k n) (trim-exact t)
  trim-exact (map_type s t k n) = let a = trim-exact s in let b = trim-exact t in cc
  trim-exact (struct_type xs ts n) = ap (λ us. struct_type xs us n) (trim_all-exact ts)
  trim-exact (union_type xs ts is n) = ap (λ us. union_type xs us is n) (trim_all-exact ts)
  trim-exact (extension_type i x t) = ap (extension_type i x) (trim-exact t)

  pub trim_all-exact : (ts : TypeTrees) → trim_all true ts ≡ ts
  trim_all-exact no_types = refl
  trim_all-exact (type_then t ts) = let a = trim-exact t in let b = trim_all-exact ts in cc

-- a type takes a null exactly if it does so below its extensions
pub is_nullable-storage : (t : TypeTree) → is_nullable (storage t) ≡ is_nullable t
is_nullable-storage (extension_type id metadata t) = is_nullable-storage t
is_nullable-storage _ = refl

-- a test that decides equality is an equivalence
pub equiv-from_Decides : {K : Type 0} (E : K → K → Bool) → ((x y : K) → Decides (E x y) (x ≡ y)) → IsEquivalence E
equiv-from_Decides E d = record {
  refl = λ x. (d x x).1 refl;
  symm = λ x y. same_from_decides (E x y) (E y x) (d x y) (Decides-like (E y x) sym sym (d y x));
  congr = λ x y z e. ap (λ w. E w z) ((d x y).0 e);
}

pub tree_eq-equiv : IsEquivalence tree_eq
tree_eq-equiv = equiv-from_Decides tree_eq tree_eq-Decides

-- the list inside a tree is the list that it was made of
pub listed_types-as_type_trees : (ts : List TypeTree) → listed_types (as_type_trees ts) ≡ ts
listed_types-as_type_trees [] = refl
listed_types-as_type_trees (t ∷ ts) = ap (λ us. t ∷ us) (listed_types-as_type_trees ts)

-- a struct or a union type has the parts that it was made of
pub fields_in-struct_type_of : (f : FieldParts) (n : Nullability) → fields_in (struct_type_of f n) ≡ Some f
fields_in-struct_type_of f n = ap (λ ts. Some (record { names = f.names; types = ts })) (listed_types-as_type_trees f.types)

pub variants_in-union_type_of : (v : VariantParts) (n : Nullability) → variants_in (union_type_of v n) ≡ Some v
variants_in-union_type_of v n = ap (λ ts. Some (record { names = v.names; types = ts; type_ids = v.type_ids })) (listed_types-as_type_trees v.types)

-- parts pass a test exactly if they are equal, provided that it is the test of the types that they make
parts_Decides : {P : Type 0} (made : P → TypeTree) (held : TypeTree → Option P) (test : P → P → Bool)
    → ((p : P) → held (made p) ≡ Some p)
    → ((p q : P) → test p q ≡ tree_eq (trim true (made p)) (trim true (made q)))
    → (p q : P) → Decides (test p q) (p ≡ q)
parts_Decides made held test back same p q =
    let exact : test p q ≡ tree_eq (made p) (made q) = rw (← trim-exact (made p), ← trim-exact (made q)) (same p q) in (
      λ e. same_Some p q (sym (back p) ∙ ap held (tree_eq-same (made p) (made q) (sym exact ∙ e)) ∙ back q),
      λ e. exact ∙ (tree_eq-Decides (made p) (made q)).1 (ap made e),
    )

pub map_eq-Decides : (a b : MapParts) → Decides (map_eq true a b) (a ≡ b)
map_eq-Decides = parts_Decides (λ m. map_type_of m NonNullable) map_in (map_eq true) (λ m. refl) (λ a b. sym (and-true (map_eq true a b)))

pub fields_eq-Decides : (a b : FieldParts) → Decides (fields_eq true a b) (a ≡ b)
fields_eq-Decides = parts_Decides (λ f. struct_type_of f NonNullable) fields_in (fields_eq true) (λ f. fields_in-struct_type_of f NonNullable) (λ a b. sym (and-true (fields_eq true a b)))

pub variants_eq-Decides : (a b : VariantParts) → Decides (variants_eq true a b) (a ≡ b)
variants_eq-Decides = parts_Decides (λ v. union_type_of v NonNullable) variants_in (variants_eq true) (λ v. variants_in-union_type_of v NonNullable) (λ a b. sym (and-true (variants_eq true a b)))

pub ext_eq-Decides : (a b : ExtensionParts) → Decides (ext_eq true a b) (a ≡ b)
ext_eq-Decides = parts_Decides extension_type_of extension_in (ext_eq true) (λ e. refl) (λ a b. refl)
