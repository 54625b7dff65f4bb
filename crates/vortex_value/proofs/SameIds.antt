-- `eq` of two iterators, each of which shows what it has left.
use Rattle.std.proofs.Common.{◌≡◌, ◌==◌, ℕ, Bool, true, false, List, [], ◌∷◌, Option, Some, None, sym, subst}
use Rattle.std.specs.Iterator.{YieldsFirst, YieldsThen}
use Rattle.std.specs.List.{AllZip}
use Rattle.std.specs.Option.{IfSome, MatchOption}
use Rattle.std.specs.Str.{bytes_eq}

module _ {S : Type 0} (rest : S → List ℕ) (r : Bool) where
  -- the two last answers
  abbrev pub Ends : Option ℕ → Option ℕ → Type 0
  Ends o p = MatchOption o (MatchOption p (r ≡ true) (λ y. r ≡ false)) (λ x. (r ≡ false) × IfSome p (λ y. (x == y) ≡ false))

  at_end : (o p : Option ℕ) (s t u w : S) → YieldsFirst rest s o u → YieldsFirst rest t p w → Ends o p → r ≡ bytes_eq (rest s) (rest t)
  at_end None None s t u w a b h = rw (a.0, b.0) h
  at_end None (Some y) s t u w a b h = rw (a.0, b) h
  at_end (Some x) None s t u w a b h = rw (a, b.0) h.0
  at_end (Some x) (Some y) s t u w a b h = rw (a, b, h.1) h.0

  pub eq_compares : (xs ys : List ℕ) (o p : Option ℕ) (s t u w : S) → YieldsThen (YieldsFirst rest) s xs o u → YieldsThen (YieldsFirst rest) t ys p w → AllZip (λ x y. (x == y) ≡ true) xs ys → Ends o p
      → r ≡ bytes_eq (rest s) (rest t)
  eq_compares [] [] o p s t u w a b z h = at_end o p s t u w (subst (λ j. YieldsFirst rest j o u) (sym a.1) a.2) (subst (λ j. YieldsFirst rest j p w) (sym b.1) b.2) h
  eq_compares (x ∷ xs) (y ∷ ys) o p s t u w a b z h =
      rw (a.1.1, b.1.1, z.0) (eq_compares xs ys o p a.1.0 b.1.0 u w (a.0, a.1.2, a.2) (b.0, b.1.2, b.2) z.1 h)
  eq_compares [] (y ∷ ys) o p s t u w a b z h = absurd z
  eq_compares (x ∷ xs) [] o p s t u w a b z h = absurd z
