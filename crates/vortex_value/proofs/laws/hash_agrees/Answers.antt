use Rattle.std.specs.Hash.{and-Alike, on_Alike}
use Rattle.vortex_value.specs.Values.Content.{content}
use Rattle.vortex_value.specs.Lemmas.HashLaws.{content_feed-Alike, type_feed-Alike}
use Rattle.vortex_value.specs.Values.RawOf.{union_tree, value_tree}
use Rattle.vortex_value.specs.Values.Refs.{ref_content, ref_type}
use Rattle.vortex_value.specs.Values.Scalars.{scalar_content, scalar_type}
use Rattle.vortex_value.proofs.laws.hash_agrees.Goals as goal

pub returns-clause-values : goal.returns-clause-values
returns-clause-values c = (on_Alike (λ v. content (value_tree v)) content_feed-Alike).fed

pub returns-clause-unions : goal.returns-clause-unions
returns-clause-unions c = (on_Alike (λ u. content (union_tree u)) content_feed-Alike).fed

pub returns-clause-scalars : goal.returns-clause-scalars
returns-clause-scalars c = (and-Alike (on_Alike scalar_type type_feed-Alike) (on_Alike scalar_content content_feed-Alike)).fed

pub returns-clause-borrowed : goal.returns-clause-borrowed
returns-clause-borrowed c = (and-Alike (on_Alike ref_type type_feed-Alike) (on_Alike ref_content content_feed-Alike)).fed
