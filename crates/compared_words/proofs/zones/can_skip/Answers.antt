-- By the law of words that are compared.
use Rattle.std.proofs.Common.{subst}
use Rattle.logical_types.specs.declared.logical.LogicalType.TheVariants.{Decimal, Float64}
use Rattle.compared_words.specs.Compared.{IsWordDecided}
use Rattle.compared_words.proofs.zones.can_skip.Goals as goal

pub returns-in-NoneMatch-clause-values : goal.returns-in-NoneMatch-clause-values
returns-in-NoneMatch-clause-values c = λ k logical op literal word y z h v w yes.
    c.words_are_compared.ensures.values k logical op literal word y z (subst (λ d. IsWordDecided d k logical op literal word) c.in-NoneMatch.is h) v w

pub returns-in-NoneMatch-clause-floats : goal.returns-in-NoneMatch-clause-floats
returns-in-NoneMatch-clause-floats c = λ k op literal word x number h v w yes.
    c.words_are_compared.ensures.doubles k op literal word x number (subst (λ d. IsWordDecided d k Float64 op literal word) c.in-NoneMatch.is h) v w

pub returns-in-NoneMatch-clause-decimals : goal.returns-in-NoneMatch-clause-decimals
returns-in-NoneMatch-clause-decimals c = λ k d op literal word y number h v e yes.
    c.words_are_compared.ensures.decimals k d op literal word y number (subst (λ x. IsWordDecided x k (Decimal d) op literal word) c.in-NoneMatch.is h) v e
