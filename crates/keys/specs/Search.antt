-- Where a key stands, and how many are distinct. Assumes nothing.
use Rattle.std.specs.Prelude.{Bool, cond, Option, Some, None, List, [], ◌∷◌, ℕ, suc, ◌+◌, eqb}
use Rattle.terms.specs.Lists.{some}

-- the index of the first that passes, the length where none does
unfoldable pub index_of : {X : Type 0} → (X → Bool) → List X → ℕ
index_of f [] = 0
index_of f (x ∷ xs) = cond (f x) 0 (suc (index_of f xs))

-- the same where some passes, and none where none does
abbrev pub position_of : {X : Type 0} → (X → Bool) → List X → Option ℕ
position_of f xs = cond (some f xs) (Some (index_of f xs)) None

-- how many distinct numbers there are
unfoldable pub distinct : List ℕ → ℕ
distinct [] = 0
distinct (k ∷ ks) = cond (some (eqb k) ks) 0 1 + distinct ks
