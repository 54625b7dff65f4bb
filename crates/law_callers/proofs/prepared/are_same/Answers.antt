use Rattle.std.proofs.Common.{[], ◌++◌, ap, sym, ◌∙◌}
use Rattle.std.proofs.lemmas.Bool.Decides.{Decides-eqb}
use Rattle.std.proofs.lemmas.Slice.Eq.{slice_eq-Decides}
use Rattle.filter_encoding.specs.Encoding.{encoding, version_of}
use Rattle.law_callers.proofs.prepared.are_same.Goals as goal

pub returns : goal.returns
returns c = λ m n p q has has' one other.
    let equal = slice_eq-Decides Decides-eqb c.args.one.now c.args.other.now c.eq.result c.eq.ensures in (
      (λ same. (c.encodings_are_apart.ensures m n (version_of p) (version_of q) p q [] [] has.formed has'.formed (ap (λ xs. xs ++ []) (sym one ∙ equal.0 same ∙ other))).1),
      (λ is. equal.1 (one ∙ ap encoding is ∙ sym other)),
    )
