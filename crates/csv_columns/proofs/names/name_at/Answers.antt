-- A name that was made is one, and is given nowhere.
use Rattle.std.proofs.Common.{List, ℕ, inr, sym, subst}
use Rattle.std.specs.Prelude.{string_bytes}
use Rattle.csv_columns.specs.Names.{IsFirstFree, IsName, texts}
use Rattle.csv_columns.proofs.Naming.{made_up_is_name, marked_is_name}
use Rattle.csv_columns.proofs.names.name_at.Goals as goal

pub returns-in_ok-name-in-None-clause-valid : goal.returns-in_ok-name-in-None-clause-valid
returns-in_ok-name-in-None-clause-valid c =
    marked_is_name (string_bytes c.in_ok-first-in-None.first) (string_bytes c.in_ok-name-in-None.name) c.in_ok-name-in-None.ensures.count
    (subst IsName (sym c.in_ok-first-in-None.ensures) (made_up_is_name c.args.are_divided c.args.place)) c.in_ok-name-in-None.ensures.is

pub returns-in_ok-name-in-None-clause-made : goal.returns-in_ok-name-in-None-clause-made
returns-in_ok-name-in-None-clause-made c =
    inr (subst (λ (x : List ℕ). IsFirstFree x (texts c.args.given.now) (texts c.args.names.now) (string_bytes c.in_ok-name-in-None.name)) c.in_ok-first-in-None.ensures c.in_ok-name-in-None.ensures)
