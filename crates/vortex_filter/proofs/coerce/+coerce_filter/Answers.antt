use Rattle.std.proofs.Common.{length, map, rules}
use Rattle.vortex_dtype.specs.TypeOf.{type_of}
use Rattle.vortex_filter.specs.Checking.{tests}
use Rattle.vortex_filter.specs.Formula.{formula}
use Rattle.vortex_value.specs.Size.{capped}
use Rattle.vortex_filter.proofs.CoerceMemorySteps.{both_asked, either_asked}
use Rattle.vortex_filter.proofs.CoerceSteps.{both_at, either_at}
use Rattle.vortex_filter.proofs.coerce.+coerce_filter.Goals as goal

pub returns-in-And-clause-made : goal.returns-in-And-clause-made
returns-in-And-clause-made t c =
    both_at (map type_of c.args.columns.now) c.args.filter.now c.in-And.left c.in-And.right c.deref-in-And.result.now c.deref-in-And-2.result.now c.deref-in-And-3.result.now
    c.coerce_filter-first.result c.coerce_filter.result c.behind-second.result c.conjoin.result c.in-And.is (search rules) (search rules) (search rules) c.coerce_filter-first.ensures.made c.coerce_filter.ensures.made c.behind-second.ensures c.conjoin.ensures.made c.conjoin.ensures.literals

pub returns-in-Or-clause-made : goal.returns-in-Or-clause-made
returns-in-Or-clause-made t c =
    either_at (map type_of c.args.columns.now) c.args.filter.now c.in-Or.left c.in-Or.right c.deref-in-Or.result.now c.deref-in-Or-2.result.now c.deref-in-Or-3.result.now
    c.coerce_filter-first-in-Or.result c.coerce_filter-in-Or.result c.behind-second-in-Or.result c.disjoin.result c.in-Or.is (search rules) (search rules) (search rules) c.coerce_filter-first-in-Or.ensures.made c.coerce_filter-in-Or.ensures.made c.behind-second-in-Or.ensures c.disjoin.ensures.made c.disjoin.ensures.literals

pub returns-in-And-clause-asked : goal.returns-in-And-clause-asked
returns-in-And-clause-asked t c =
    both_asked (map type_of c.args.columns.now) c.args.filter.now c.in-And.left c.in-And.right c.deref-in-And.result.now c.deref-in-And-3.result.now (capped (length (tests (formula c.deref-in-And-2.result.now))))
    c.coerce_filter-first.result c.coerce_filter.result c.behind-second.result c.conjoin.result c.in-And.is (search rules) (search rules) c.coerce_filter-first.ensures.asked c.coerce_filter.ensures.asked c.behind-second.ensures c.conjoin.ensures.made

pub returns-in-Or-clause-asked : goal.returns-in-Or-clause-asked
returns-in-Or-clause-asked t c =
    either_asked (map type_of c.args.columns.now) c.args.filter.now c.in-Or.left c.in-Or.right c.deref-in-Or.result.now c.deref-in-Or-3.result.now (capped (length (tests (formula c.deref-in-Or-2.result.now))))
    c.coerce_filter-first-in-Or.result c.coerce_filter-in-Or.result c.behind-second-in-Or.result c.disjoin.result c.in-Or.is (search rules) (search rules) c.coerce_filter-first-in-Or.ensures.asked c.coerce_filter-in-Or.ensures.asked c.behind-second-in-Or.ensures c.disjoin.ensures.made
