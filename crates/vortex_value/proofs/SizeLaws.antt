-- The size of a whole is the sum of the sizes of its parts.
use Rattle.std.proofs.Common.{◌≡◌, ◌+◌, List, [], ◌∷◌, refl, sym, ap, ◌∙◌}
use Rattle.std.specs.Prelude.{sum_by}
use Rattle.std.specs.List.{zip}
use Rattle.std.proofs.lemmas.List.Sums.{sum_by-cons}
use Rattle.vortex_dtype.specs.TypeOf.{as_type_trees}
use Rattle.vortex_dtype.specs.TypeTree.{TypeTree}
use Rattle.vortex_value.specs.Values.RawTree.{RawTree}
use Rattle.vortex_value.specs.Size.{elements_size, entries_size, fields_size, entries_of, size_of, tuple_of, SizeIsSum}

elements_size-sum : (e : TypeTree) (vs : List RawTree) → elements_size e (tuple_of vs) ≡ sum_by (size_of e) vs
elements_size-sum e [] = refl
elements_size-sum e (v ∷ vs) = ap (λ n. size_of e v + n) (elements_size-sum e vs) ∙ sym (sum_by-cons (size_of e) v vs)

entries_size-sum : (k w : TypeTree) (ps : List (RawTree × RawTree)) → entries_size k w (entries_of ps) ≡ sum_by (λ p. size_of k p.0 + size_of w p.1) ps
entries_size-sum k w [] = refl
entries_size-sum k w (p ∷ ps) =
    ap (λ n. size_of k p.0 + size_of w p.1 + n) (entries_size-sum k w ps) ∙ sym (sum_by-cons (λ (q : RawTree × RawTree). size_of k q.0 + size_of w q.1) p ps)

fields_size-sum : (ts : List TypeTree) (vs : List RawTree) → fields_size (as_type_trees ts) (tuple_of vs) ≡ sum_by (λ p. size_of p.0 p.1) (zip ts vs)
fields_size-sum [] vs = refl
fields_size-sum (t ∷ ts) [] = refl
fields_size-sum (t ∷ ts) (v ∷ vs) =
    ap (λ n. size_of t v + n) (fields_size-sum ts vs) ∙ sym (sum_by-cons (λ (p : TypeTree × RawTree). size_of p.0 p.1) (t, v) (zip ts vs))

pub size_is_sum : SizeIsSum
size_is_sum = record {
  list = λ e n vs. elements_size-sum e vs;
  fixed_size_list = λ e size n vs. elements_size-sum e vs;
  map = λ k w sorted n ps. entries_size-sum k w ps;
  struct = λ names ts n vs. fields_size-sum ts vs;
  union = λ names ts ids n id t v h. rw h;
  variant = λ n t v. refl;
  extension = λ id metadata t v. refl;
}
