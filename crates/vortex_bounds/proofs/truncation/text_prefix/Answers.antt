use Rattle.std.proofs.Common.{subst, arith, IsCharBoundary, IsUtf8}
use Rattle.std.proofs.lemmas.Str.{IsCharBoundary-start}
use Rattle.vortex_bounds.proofs.TextBounds.{length_from_start, slice_lower}
use Rattle.vortex_bounds.proofs.truncation.text_prefix.Goals as goal

pub slice-requires-clause-starts : goal.slice-requires-clause-starts
slice-requires-clause-starts c = IsCharBoundary-start _ (subst IsUtf8 c.as_str.ensures c.as_str.utf8)

pub returns : goal.returns
returns c =
    let f = c.floor_char_boundary-end.ensures in
    record {
      given = slice_lower _ _ _ _ _ c.as_str.ensures c.as_str.utf8 f.bound f.boundary f.nearest c.slice.ensures.given;
      inline = λ m.
          let b : IsCharBoundary c.args.text c.floor_char_boundary-end.result =
          subst (λ s. IsCharBoundary s c.floor_char_boundary-end.result) c.as_str.ensures f.boundary in
          let l = length_from_start c.args.text c.floor_char_boundary-end.result b.0 in
          c.slice.ensures.inline (omega (arith, l, f.bound, m));
    }
