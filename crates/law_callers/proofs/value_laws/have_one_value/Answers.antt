-- Equal scalars have equal contents, these are one where no variant is inside, and one content has one raw value.
use Rattle.std.proofs.Common.{subst}
use Rattle.std.specs.Prelude.{IsTrue}
use Rattle.law_callers.proofs.value_laws.have_one_value.Goals as goal

pub returns : goal.returns
returns c = λ is.
    let both = (c.equality.ensures.scalars c.args.first.now c.args.second.now).0 (subst IsTrue c.eq.ensures is) in
    c.one_value.ensures _ _ _ _ both.0 c.requires.valid.0 c.requires.valid.1
    ((c.equality_agrees_without_typed.ensures _ _ c.requires.untyped).0 both.1)
