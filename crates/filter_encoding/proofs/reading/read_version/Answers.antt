-- Either version, or neither.
use Rattle.std.proofs.Common.{◌≡◌, ◌≢◌, ◌∙◌, ℕ, List, ◌∷◌, inl, inr, refl, ap, sym}
use Rattle.filter_encoding.specs.Encoding.{IsVersion}
use Rattle.filter_encoding.proofs.reading.read_version.Goals as goal

pub returns-then-takes : goal.returns-then-takes
returns-then-takes c = (1, inl refl, c.takes.ensures.taken c.if-takes.true)

pub returns-then-takes-2 : goal.returns-then-takes-2
returns-then-takes-2 c = (2, inr refl, sym (c.takes.ensures.unchanged c.if-takes.false) ∙ c.takes-2.ensures.taken c.if-takes-2.true)

-- neither version comes first
neither : (old mid : List ℕ) → mid ≡ old → ((bs : List ℕ) → old ≢ 1 ∷ bs) → ((bs : List ℕ) → mid ≢ 2 ∷ bs) → (version : ℕ) (bs : List ℕ) → IsVersion version → old ≢ version ∷ bs
neither old mid same one two version bs (inl e) f = one bs (f ∙ ap (λ v. v ∷ bs) e)
neither old mid same one two version bs (inr e) f = two bs (same ∙ f ∙ ap (λ v. v ∷ bs) e)

pub returns : goal.returns
returns c = (
  refl,
  c.takes-2.ensures.unchanged c.if-takes-2.false ∙ c.takes.ensures.unchanged c.if-takes.false,
  neither _ _ (c.takes.ensures.unchanged c.if-takes.false) (c.takes.ensures.other c.if-takes.false) (c.takes-2.ensures.other c.if-takes-2.false),
)
