-- What a reader was asked for, step by step.
use Rattle.std.proofs.Common.{◌≡◌, ◌≤◌, ◌+◌, ◌-◌, inl, inr, ℕ, zero, suc, List, [], ◌∷◌, ◌++◌, Option, None, Some, IfSome, sym, ap, ◌∙◌, subst, arith, append_assoc, append-nil}
use Rattle.std.proofs.lemmas.List.Elements.{All-append}
use Rattle.std.specs.List.{All}
use Rattle.zone_index.specs.Asking.{Asks, AsksOnce, AsksWithin, IsWithin, asked_at}
use Rattle.zone_index.specs.declared.read_at.Asked.{Asked}

abbrev nothing : List Asked
nothing = []

all_none : (P : Asked → Type 0) → All P nothing
all_none P k d below = absurd (omega arith)

all_one : (P : Asked → Type 0) (a : Asked) → P a → All P (a ∷ [])
all_one P a h zero d below = h
all_one P a h (suc k) d below = absurd (omega arith)

pub asks_none : (P : Asked → Type 0) (o : Option (List Asked)) → Asks P o o
asks_none P None = tt
asks_none P (Some xs) = ([], ap (λ (l : List Asked). Some l) (sym (append-nil xs)), all_none P)

pub asks_same : (P : Asked → Type 0) (a b : Option (List Asked)) → b ≡ a → Asks P a b
asks_same P a b e = subst (Asks P a) (sym e) (asks_none P a)

pub asks_then : (P : Asked → Type 0) (a b c : Option (List Asked)) → Asks P a b → Asks P b c → Asks P a c
asks_then P None b c p q = tt
asks_then P (Some xs) b c p q =
    let r : Asks P (Some (xs ++ p.0)) c = subst (λ (o : Option (List Asked)). Asks P o c) p.1 q in
    (p.0 ++ r.0, r.1 ∙ ap (λ (l : List Asked). Some l) (append_assoc xs p.0 r.0), All-append P p.0 r.0 p.2 r.2)

pub asks_once : (P : Asked → Type 0) (a b : Option (List Asked)) (x : Asked) → P x → IfSome a (λ before. b ≡ Some (before ++ x ∷ [])) → Asks P a b
asks_once P None b x h e = tt
asks_once P (Some xs) b x h e = (x ∷ [], e, all_one P x h)

pub asks_failed : (P : Asked → Type 0) (a b : Option (List Asked)) (place count : ℕ) → P (asked_at place count) → AsksOnce a b place count → Asks P a b
asks_failed P None b place count h e = tt
asks_failed P (Some xs) b place count h (inl e) = asks_same P (Some xs) b e
asks_failed P (Some xs) b place count h (inr e) = (asked_at place count ∷ [], e, all_one P (asked_at place count) h)

all_more : (P Q : Asked → Type 0) (xs : List Asked) → ((a : Asked) → P a → Q a) → All P xs → All Q xs
all_more P Q xs f h k d below = f _ (h k d below)

pub asks_more : (P Q : Asked → Type 0) (a b : Option (List Asked)) → ((x : Asked) → P x → Q x) → Asks P a b → Asks Q a b
asks_more P Q None b f h = tt
asks_more P Q (Some xs) b f h = (h.0, h.1, all_more P Q h.0 f h.2)

-- a read of what is left to fill
pub asks_part : (at done long : ℕ) → done ≤ long → IsWithin at (at + long) (asked_at (at + done) (long - done))
asks_part at done long h = (omega arith, omega arith)

pub read_part : (at done long n : ℕ) (old mid new : Option (List Asked)) → done + n ≤ long → AsksWithin old mid at (at + long) → IfSome mid (λ before. new ≡ Some (before ++ asked_at (at + done) n ∷ [])) → AsksWithin old new at (at + long)
read_part at done long n old mid new fits before here =
    let P : Asked → Type 0 = IsWithin at (at + long) in
    asks_then P old mid new before (asks_once P mid new (asked_at (at + done) n) (omega arith, omega arith) here)

pub failed_part : (at done long n : ℕ) (old mid new : Option (List Asked)) → done + n ≤ long → AsksWithin old mid at (at + long) → AsksOnce mid new (at + done) n → AsksWithin old new at (at + long)
failed_part at done long n old mid new fits before here =
    let P : Asked → Type 0 = IsWithin at (at + long) in
    asks_then P old mid new before (asks_failed P mid new (at + done) n (omega arith, omega arith) here)
