-- The bounds of a value that has bytes, whether it is a string or not.
use Rattle.std.specs.Prelude.{◌≡◌, ℕ, ◌<◌, ◌≤◌, List, length}

-- r is b itself if it has at most n bytes, and else a best bound of b at n bytes
abbrev pub IsWholeOrBest : (List ℕ → ℕ → List ℕ → Type 0) → List ℕ → ℕ → List ℕ → Type 0
IsWholeOrBest Best b n r = (length b ≤ n → r ≡ b) × (n < length b → Best b n r)

-- b has more than n bytes, and no best bound at n bytes
abbrev pub HasNone : (List ℕ → ℕ → Type 0) → List ℕ → ℕ → Type 0
HasNone HasNoBest b n = (n < length b) × HasNoBest b n

-- some such bound has this length
abbrev pub SomeOfLength : (List ℕ → ℕ → List ℕ → Type 0) → List ℕ → ℕ → ℕ → Type 0
SomeOfLength Best b n count = (r : List ℕ) × IsWholeOrBest Best b n r × (length r ≡ count)
