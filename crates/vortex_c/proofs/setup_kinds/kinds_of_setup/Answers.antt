-- The codes are those of the setup that was read.
use Rattle.std.proofs.Common.{◌∙◌, ap, map}
use Rattle.vortex_c.specs.SearchColumns.{kind_of_named}
use Rattle.vortex_c.proofs.setup_kinds.kinds_of_setup.Goals as goal

pub returns-clause-kinds : goal.returns-clause-kinds
returns-clause-kinds c = record {
  setup = c.in-Some.setup;
  is = record { valid = rw c.in-Some.is at c.in_ok-setup.ensures.valid; is = rw c.in-Some.is at c.in_ok-setup.ensures.text };
  kinds = c.in_ok-codes.ensures ∙ ap (map kind_of_named) c.deref.ensures.value;
}
