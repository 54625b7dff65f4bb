-- Loops that write the parts of a text one by one.
use Rattle.std.proofs.Common.{◌≡◌, ℕ, zero, suc, ◌+◌, ◌==◌, if◌then◌else◌, false, List, [], ◌∷◌, ◌++◌, append_assoc, append-nil, add-one, refl, sym, ap, ◌∙◌, arith}
use Rattle.std.proofs.Output.{has_written_append, has_written_of_eq, writes_in_calls_nil}
use Rattle.std.proofs.lemmas.Bool.Decides.{nat_tests}
use Rattle.std.specs.Fmt.{HasWritten, IsPlainFormatter}
use Rattle.std.specs.List.{flat_map}
use Rattle.std.specs.declared.fmt.Formatter.{Formatter}
use Rattle.vortex_value.specs.Texts.{joined}

-- what is left of joined texts, of which these are still to come, from this place on
abbrev pub rest_from : ℕ → List ℕ → List (List ℕ) → List ℕ
rest_from zero separator texts = joined separator texts
rest_from (suc i) separator texts = flat_map (λ text. separator ++ text) texts

-- g is f after the front of the whole was written, and the rest of it is left
pub record HasLeft {W : Type 0} (took : W → List ℕ → W → Type 0) (f : Formatter W) (rest whole : List ℕ) (g : Formatter W) : Type 0 where
  pub front : List ℕ
  pub wrote : HasWritten took f front g
  pub all : front ++ rest ≡ whole

-- a loop that joins texts has come to this place: of all of them these are still to come
abbrev pub Joins : {W : Type 0} → (W → List ℕ → W → Type 0) → List ℕ → Formatter W → ℕ → List (List ℕ) → List (List ℕ) → Formatter W → Type 0
Joins took separator f i texts all g = IsPlainFormatter f → HasLeft took f (rest_from i separator texts) (joined separator all) g

module _ {W : Type 0} (took : W → List ℕ → W → Type 0) where
  -- nothing is written of no text
  pub has_written_none : (f : Formatter W) (text : List ℕ) → IsPlainFormatter f → text ≡ [] → HasWritten took f text f
  has_written_none f text plain none = has_written_of_eq took _ _ _ _ (sym none) (record { wrote = writes_in_calls_nil took f.writer; plain = plain })

  -- all is left
  pub left_all : (f : Formatter W) (rest whole : List ℕ) → IsPlainFormatter f → rest ≡ whole → HasLeft took f rest whole f
  left_all f rest whole plain same = record { front = []; wrote = has_written_none f [] plain refl; all = same }

  -- the next of the rest is written
  pub left_more : (f g h : Formatter W) (text rest whole : List ℕ) → HasLeft took f (text ++ rest) whole g → HasWritten took g text h → HasLeft took f rest whole h
  left_more f g h text rest whole p q = record {
    front = p.front ++ text;
    wrote = has_written_append took _ _ _ _ _ p.wrote q;
    all = append_assoc p.front text rest ∙ p.all;
  }

  -- the next text is written, after what stands before it
  pub left_part : (i : ℕ) (f g h k : Formatter W) (separator before text : List ℕ) (texts : List (List ℕ)) (whole : List ℕ)
      → HasLeft took f (rest_from i separator (text ∷ texts)) whole g → HasWritten took g before h → before ≡ (if i == 0 then [] else separator) → HasWritten took h text k
      → HasLeft took f (rest_from (i + 1) separator texts) whole k
  left_part zero f g h k separator before text texts whole p q e r = left_more f h k text _ whole (left_more f g h before _ whole (rw e p) q) r
  left_part (suc i) f g h k separator before text texts whole p q e r =
      let later : (suc i == 0) ≡ false = grind (arith, nat_tests) in
      let same : before ≡ separator = rw later at e in
      let left : HasLeft took f (before ++ (text ++ flat_map (λ t. separator ++ t) texts)) whole g = rw (same, ← append_assoc) p in
      rw add-one (left_more f h k text _ whole (left_more f g h before _ whole left q) r)

  -- the next text is written together with what stands before it
  pub left_next : (i : ℕ) (f g h : Formatter W) (separator text : List ℕ) (texts : List (List ℕ)) (whole : List ℕ)
      → HasLeft took f (rest_from i separator (text ∷ texts)) whole g → HasWritten took g ((if i == 0 then [] else separator) ++ text) h
      → HasLeft took f (rest_from (i + 1) separator texts) whole h
  left_next zero f g h separator text texts whole p q = left_more f g h text _ whole p q
  left_next (suc i) f g h separator text texts whole p q =
      let later : (suc i == 0) ≡ false = grind (arith, nat_tests) in
      rw add-one (left_more f g h (separator ++ text) _ whole p (rw later at q))

  -- nothing is left, and nothing written
  pub left_empty : (i : ℕ) (f g h : Formatter W) (separator : List ℕ) (texts more : List (List ℕ)) (whole : List ℕ)
      → texts ≡ [] → more ≡ [] → HasLeft took f (rest_from i separator texts) whole g → HasWritten took g [] h
      → HasLeft took f (rest_from (i + 1) separator more) whole h
  left_empty zero f g h separator texts more whole none end p q = rw end (left_more f g h [] [] whole (rw none at p) q)
  left_empty (suc i) f g h separator texts more whole none end p q = rw (end, add-one) (left_more f g h [] [] whole (rw none at p) q)

  -- no text is left
  pub left_none : (i : ℕ) (f g : Formatter W) (separator : List ℕ) (texts : List (List ℕ)) (whole : List ℕ)
      → texts ≡ [] → HasLeft took f (rest_from i separator texts) whole g → HasWritten took f whole g
  left_none i f g separator texts whole none p = has_written_of_eq took _ _ _ _ (sym (append-nil p.front) ∙ ap (λ (l : List ℕ). p.front ++ l) (sym (end i none)) ∙ p.all) p.wrote
    where
      end : (i : ℕ) → texts ≡ [] → rest_from i separator texts ≡ []
      end zero none = rw none refl
      end (suc i) none = rw none refl
