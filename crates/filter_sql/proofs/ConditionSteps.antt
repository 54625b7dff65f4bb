-- What is written of a column, and which filter it is.
use Rattle.std.proofs.Common.{◌≡◌, ℕ, Bool, true, false, cond, List, [], ◌∷◌, Option, Some, None, refl, ap, subst, ◌∙◌}
use Rattle.std.specs.Prelude.{option_and_then, option_map}
use Rattle.vortex_dtype.specs.TypeTree.{TypeTree}
use Rattle.vortex_filter.specs.CheckSteps.{holds_strings}
use Rattle.vortex_filter.specs.Formula.{Formula}
use Rattle.vortex_filter.specs.Literals.{LiteralTree, position_of}
use Rattle.vortex_filter.specs.Positions.{PositionTree, cells_of, member_among, member_of, prefix_of, range_of}
use Rattle.filter_sql.specs.Grammar.{AreLiterals, one_literal, more_literals}
use Rattle.filter_sql.specs.Literals.{between, begun, formula_in, literal_of, positions_of}
use Rattle.filter_sql.specs.Reading.{token_position}
use Rattle.filter_sql.specs.Tokens.{TokenTree}

-- ---- steps that did not fail

pub bind_some : {A B : Type 0} (o : Option A) (f : A → Option B) (y : B) → option_and_then f o ≡ Some y → (x : A) × (o ≡ Some x) × (f x ≡ Some y)
bind_some None f y e = absurd cc
bind_some (Some x) f y e = (x, refl, e)

pub map_some : {A B : Type 0} (o : Option A) (f : A → B) (y : B) → option_map f o ≡ Some y → (x : A) × (o ≡ Some x) × (f x ≡ y)
map_some None f y e = absurd cc
map_some (Some x) f y e = let same : f x ≡ y = cc in (x, refl, same)

pub guard_some : {A : Type 0} (b : Bool) (x : Option A) (y : A) → cond b x None ≡ Some y → (b ≡ true) × (x ≡ Some y)
guard_some true x y e = (refl, e)
guard_some false x y e = absurd cc

-- ---- literals

-- a token that stands somewhere is a literal that does
pub token_stands : (t : TypeTree) (x : TokenTree) (p : PositionTree) → token_position t x ≡ Some p → (l : LiteralTree) × (literal_of x ≡ Some l) × (position_of t l ≡ Some p)
unfolding token_position
token_stands t x p e = bind_some (literal_of x) (position_of t) p e

pub position_said : (t : TypeTree) (x : TokenTree) (l : LiteralTree) (p : PositionTree) → literal_of x ≡ Some l → position_of t l ≡ Some p → token_position t x ≡ Some p
unfolding token_position
position_said t x l p said stands = ap (option_and_then (position_of t)) said ∙ stands

-- where the first of several stands, and where the others do
pub record Parts (t : TypeTree) (l : LiteralTree) (ls : List LiteralTree) (ps : List PositionTree) : Type 0 where
  pub first : PositionTree
  pub others : List PositionTree
  pub stands : position_of t l ≡ Some first
  pub stand : positions_of t ls ≡ Some others
  pub whole : first ∷ others ≡ ps

pub stand_parts : (t : TypeTree) (l : LiteralTree) (ls : List LiteralTree) (ps : List PositionTree) → positions_of t (l ∷ ls) ≡ Some ps → Parts t l ls ps
stand_parts t l ls ps e =
    let a = bind_some (position_of t l) (λ p. option_map (λ qs. p ∷ qs) (positions_of t ls)) ps e in
    let b = map_some (positions_of t ls) (λ qs. a.0 ∷ qs) ps a.2 in
    record { first = a.0; others = b.0; stands = a.1; stand = b.1; whole = b.2 }

pub stand_more : (t : TypeTree) (l : LiteralTree) (p : PositionTree) (ls : List LiteralTree) (ps : List PositionTree) → position_of t l ≡ Some p → positions_of t ls ≡ Some ps → positions_of t (l ∷ ls) ≡ Some (p ∷ ps)
stand_more t l p ls ps a b = ap (option_and_then (λ q. option_map (λ qs. q ∷ qs) (positions_of t ls))) a ∙ ap (option_map (λ qs. p ∷ qs)) b

-- one of some literals is one of those that the type has
pub some_members : (k : ℕ) (t : TypeTree) {ts : List TokenTree} {ls : List LiteralTree} → AreLiterals ts ls → (ps : List PositionTree) → positions_of t ls ≡ Some ps → member_of k (cells_of ps) ≡ member_among k ps
some_members k t (one_literal {x} {l} said) ps e = let p = stand_parts t l [] ps e in subst (λ (qs : List PositionTree). member_of k (cells_of qs) ≡ member_among k qs) p.whole refl
some_members k t (more_literals {x} {l} {ts} {ls} said more) ps e = let p = stand_parts t l ls ps e in subst (λ (qs : List PositionTree). member_of k (cells_of qs) ≡ member_among k qs) p.whole refl

-- ---- conditions

pub between_says : (k : ℕ) (t : TypeTree) (lower upper : LiteralTree) (p q : PositionTree) → position_of t lower ≡ Some p → position_of t upper ≡ Some q → formula_in k t (between lower upper) ≡ Some (range_of k p q)
between_says k t lower upper p q a b = ap (option_and_then (λ r. option_map (range_of k r) (position_of t upper))) a ∙ ap (option_map (range_of k p)) b

pub begun_says : (k : ℕ) (t : TypeTree) (l : LiteralTree) (p : PositionTree) (f : Formula) → holds_strings t ≡ true → position_of t l ≡ Some p → prefix_of k p ≡ Some f → formula_in k t (begun l) ≡ Some f
begun_says k t l p f strings stands prefixed = ap (λ b. cond b (option_and_then (prefix_of k) (position_of t l)) None) strings ∙ ap (option_and_then (prefix_of k)) stands ∙ prefixed
