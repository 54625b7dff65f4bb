-- What was found is taken.
use Rattle.std.proofs.Common.{◌++◌, ◌∙◌, ap, subst, sym}
use Rattle.vortex_dtype.specs.TypeOf.{type_of}
use Rattle.vortex_row.specs.Keys.{key}
use Rattle.vortex_value.specs.Values.Scalars.{scalar_content}
use Rattle.filter_encoding.specs.Steps.{IsKeyOfType}
use Rattle.filter_encoding.specs.Strings.{IsStuck, left}
use Rattle.filter_encoding.proofs.literals.read_value.Goals as goal

pub returns-in-Value : goal.returns-in-Value
returns-in-Value c =
    let found = c.in-Value.ensures in
    (found.1, found.2, found.3 ∙ ap (λ xs. key (scalar_content c.in-Value.value) ++ xs) (sym c.advance.ensures))

pub returns-in-Wrong : goal.returns-in-Wrong
returns-in-Wrong c = λ bad. subst (λ xs. IsStuck (IsKeyOfType (type_of c.args.dtype.now)) (left c.args.reader.now) xs) (sym c.advance-in-Wrong.ensures) c.in-Wrong.ensures.1
