-- The held lists, and the limits that they keep.
use Rattle.std.specs.Prelude.{Bool, true, false, not, cond, ◌&&◌, ◌||◌, List, [], ◌∷◌, ℕ, ◌+◌, leb, ℤ, length}
use Rattle.terms.specs.Limits.{RULES, MARKS, DEPTHS}
use Rattle.terms.specs.Holes.{lies_in}
use Rattle.terms.specs.Profiles.{admits}
use Rattle.terms.specs.Held.{Held, hole_in, profile_in, ends_of, is_rule, is_mark, is_settings}
use Rattle.terms.specs.Same.{same_rule, same_mark, same_depth}

-- some element passes
unfoldable pub some : {X : Type 0} → (X → Bool) → List X → Bool
some f [] = false
some f (x ∷ xs) = f x || some f xs

-- each element passes
unfoldable pub every : {X : Type 0} → (X → Bool) → List X → Bool
every f [] = true
every f (x ∷ xs) = f x && every f xs

-- the list without the first that passes: those behind it move up
unfoldable pub strike : {X : Type 0} → (X → Bool) → List X → List X
strike f [] = []
strike f (x ∷ xs) = cond (f x) xs (x ∷ strike f xs)

-- no two are alike
unfoldable pub once : {X : Type 0} → (X → X → Bool) → List X → Bool
once alike [] = true
once alike (x ∷ xs) = not (some (alike x) xs) && once alike xs

-- 01, Names and depths: how many distinct depths there are in a list
unfoldable pub depth_count : List ℤ → ℕ
depth_count [] = 0
depth_count (d ∷ ds) = cond (some (same_depth d) ds) 0 1 + depth_count ds

-- 01, Names and depths and Records: what the held lists and settings keep; 02, Slip 5: the marks lie in the hole; Slip 10: the
-- rules are in the profile where it is on
unfoldable pub limits : Held → Bool
limits h =
    leb (length h.rules) RULES && (leb (length h.marks) MARKS && (leb (depth_count (ends_of h.marks)) DEPTHS
    && (every is_rule h.rules && (every is_mark h.marks && (once same_rule h.rules && (once same_mark h.marks
    && (is_settings h.settings && (every (lies_in (hole_in h)) h.marks && every (admits (profile_in h)) h.rules))))))))
