-- The guess is what its words say, and each word is a value of it.
use Rattle.std.proofs.Common.{◌∙◌, ap, refl, subst, sym}
use Rattle.std.proofs.lemmas.Bool.{not-false, not-true}
use Rattle.record_rows.specs.declared.schema.Kind.TheVariants as kinds
use Rattle.vortex_dtype.specs.declared.ptype.PType.TheVariants.{I64, U64}
use Rattle.csv_columns.specs.Kinds.{Guessed, IsGuessed, logical_or_texts}
use Rattle.csv_columns.proofs.GuessLaws.{guess_logical, guess_signed, guess_unseen, guess_unsigned, integers_fit, logical_fit}
use Rattle.csv_columns.proofs.kinds.Guess.kind.Goals as goal

pub returns-then-not-self-clause-guessed : goal.returns-then-not-self-clause-guessed
returns-then-not-self-clause-guessed c = λ words sees.
    subst (λ (g : Guessed). IsGuessed g kinds.Utf8) (sym (guess_unseen c.args.self words sees (not-true _ c.if-not-self.true))) refl

pub returns-then-self-clause-guessed : goal.returns-then-self-clause-guessed
returns-then-self-clause-guessed c = λ words sees.
    subst (λ (g : Guessed). IsGuessed g (kinds.Integer I64)) (sym (guess_signed c.args.self words sees (not-false _ c.if-not-self.false) c.if-self.true)) refl

pub returns-then-self-clause-fits : goal.returns-then-self-clause-fits
returns-then-self-clause-fits c = λ words sees other. integers_fit I64 words (sym sees.signed ∙ c.if-self.true)

pub returns-then-self-2-clause-guessed : goal.returns-then-self-2-clause-guessed
returns-then-self-2-clause-guessed c = λ words sees.
    subst (λ (g : Guessed). IsGuessed g (kinds.Integer U64)) (sym (guess_unsigned c.args.self words sees (not-false _ c.if-not-self.false) c.if-self.false c.if-self-2.true)) refl

pub returns-then-self-2-clause-fits : goal.returns-then-self-2-clause-fits
returns-then-self-2-clause-fits c = λ words sees other. integers_fit U64 words (sym sees.unsigned ∙ c.if-self-2.true)

pub returns-in-Some-clause-guessed : goal.returns-in-Some-clause-guessed
returns-in-Some-clause-guessed c = λ words sees.
    subst (λ (g : Guessed). IsGuessed g (kinds.Logical c.in-Some.logical))
    (sym (guess_logical c.args.self words sees (not-false _ c.if-not-self.false) c.if-self.false c.if-self-2.false ∙ ap logical_or_texts (sym (c.in-Some.ensures words sees))))
    (c.in-Some.logical, refl, refl)

pub returns-in-Some-clause-fits : goal.returns-in-Some-clause-fits
returns-in-Some-clause-fits c = λ words sees other. logical_fit c.shapes_say_words.ensures c.in-Some.logical words (c.in-Some.ensures words sees)

pub returns-in-None-clause-guessed : goal.returns-in-None-clause-guessed
returns-in-None-clause-guessed c = λ words sees.
    subst (λ (g : Guessed). IsGuessed g kinds.Utf8)
    (sym (guess_logical c.args.self words sees (not-false _ c.if-not-self.false) c.if-self.false c.if-self-2.false ∙ ap logical_or_texts (sym (c.in-None.ensures words sees))))
    refl
