-- Strings are the same by their bytes just if they are by their characters.
use Rattle.std.proofs.Common.{◌∙◌, ap, sym}
use Rattle.std.proofs.lemmas.Bool.Decides.{Decides-eqb}
use Rattle.std.proofs.lemmas.Slice.Eq.{slice_eq-Decides}
use Rattle.std.proofs.lemmas.Str.{encodes-chars}
use Rattle.std.specs.Str.{chars, encode_utf8_all}
use Rattle.law_callers.proofs.patterns.are_same.Goals as goal

pub returns : goal.returns
returns c =
    let equal = slice_eq-Decides Decides-eqb c.args.one.now c.args.other.now c.eq.result c.eq.ensures in (
      λ same. ap chars (equal.0 same),
      λ same. equal.1 (sym (encodes-chars c.args.one.now c.utf8.one) ∙ ap encode_utf8_all same ∙ encodes-chars c.args.other.now c.utf8.other),
    )
