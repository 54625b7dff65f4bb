use Rattle.std.proofs.Common.{◌∙◌, ap, arith, refl}
use Rattle.vortex_dtype.specs.TypeTree.{nullability_of}
use Rattle.vortex_bounds.proofs.ScalarBounds.{lower_cut, lower_whole, not_none, of_value}
use Rattle.vortex_bounds.proofs.truncation.lower_bound.Goals as goal

pub returns-then-len-max_length : goal.returns-then-len-max_length
returns-then-len-max_length g c = record {
  none = not_none _ _ _ c.in-Some.is;
  bound = of_value _ _ _ c.in-Some.is
      (lower_whole _ _ _ _ _ _ g.met.T.ScalarTruncation.order_law
      c.into_scalar.ensures.made c.into_scalar.ensures.valid (omega (arith, c.len.ensures)));
  refused = tt;
  nullability = ap nullability_of c.into_scalar.ensures.made.typed ∙ g.met.T.ScalarTruncation.type_law c.args.nullability;
  inline = λ _. refl;
}

pub returns : goal.returns
returns g c = record {
  none = not_none _ _ _ c.in-Some.is;
  bound = of_value _ _ _ c.in-Some.is
      (lower_cut _ _ _ _ _ _ _ g.met.T.ScalarTruncation.order_law g.met.T.ScalarTruncation.lower_law
      c.into_scalar-2.ensures.made c.into_scalar-2.ensures.valid (omega (arith, c.len.ensures)) c.in_ok-bound.ensures.given);
  refused = tt;
  nullability = ap nullability_of c.into_scalar-2.ensures.made.typed ∙ g.met.T.ScalarTruncation.type_law c.args.nullability;
  inline = λ _. refl;
}
