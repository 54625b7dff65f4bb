use Rattle.std.proofs.Common.{◌∙◌, ap, arith, refl}
use Rattle.vortex_dtype.specs.TypeTree.{nullability_of}
use Rattle.vortex_bounds.proofs.ScalarBounds.{not_none, of_value, upper_cut, upper_whole}
use Rattle.vortex_bounds.proofs.truncation.upper_bound.Goals as goal

pub returns-then-len-max_length : goal.returns-then-len-max_length
returns-then-len-max_length g c = record {
  none = not_none _ _ _ c.in-Some.is;
  bound = of_value _ _ _ c.in-Some.is
      (upper_whole _ _ _ _ _ _ g.met.T.ScalarTruncation.order_law
      c.into_scalar.ensures.made c.into_scalar.ensures.valid (omega (arith, c.len.ensures)));
  refused = tt;
  nullability = ap nullability_of c.into_scalar.ensures.made.typed ∙ g.met.T.ScalarTruncation.type_law c.args.nullability;
  inline = λ _. refl;
}

pub returns : goal.returns
returns g c = record {
  none = not_none _ _ _ c.in-Some.is;
  bound = of_value _ _ _ c.in-Some.is
      (upper_cut _ _ _ _ _ _ _ g.met.T.ScalarTruncation.order_law g.met.T.ScalarTruncation.upper_law
      c.into_scalar-2.ensures.made c.into_scalar-2.ensures.valid (omega (arith, c.len.ensures)) (rw c.in-Some-2.is at c.in_ok-bound.ensures.given));
  refused = tt;
  nullability = ap nullability_of c.into_scalar-2.ensures.made.typed ∙ g.met.T.ScalarTruncation.type_law c.args.nullability;
  inline = λ _. refl;
}
