-- Whether the zones have pieces.
use Rattle.std.proofs.Common.{ℕ, List, rules, subst}
use Rattle.zone_index.specs.Encoding.{HavePieces, zone_values}
use Rattle.zone_index.specs.declared.zones.Zone.{Zone}
use Rattle.zone_index.proofs.writing.write_index.Goals as goal

pub returns-then-not-have_pieces-clause-refused : goal.returns-then-not-have_pieces-clause-refused
returns-then-not-have_pieces-clause-refused c = λ e.
    subst (λ (zs : List Zone). (pieces : List (List (List ℕ))) → ¬ (HavePieces c.args.columns (zone_values zs) pieces)) c.deref.ensures.value (c.have_pieces.ensures.none (search rules))

pub encoding_of-requires : goal.encoding_of-requires
encoding_of-requires c =
    subst (λ (zs : List Zone). (pieces : List (List (List ℕ))) × HavePieces c.args.columns (zone_values zs) pieces) c.deref.ensures.value (c.have_pieces.ensures.have (search rules))

pub returns-in_err-output-clause-memory : goal.returns-in_err-output-clause-memory
returns-in_err-output-clause-memory c = search rules
