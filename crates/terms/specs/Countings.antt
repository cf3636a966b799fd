-- 02's two ways of counting a distance.
use Rattle.std.specs.Prelude.{Bool, cond, ◌||◌, ℕ, ◌+◌, eqb}
use Rattle.terms.specs.declared.Counting.{Counting}
use Rattle.terms.specs.declared.Counting.TheVariants.{Old, New}

-- 02, Slip 4: what k - j must be less than for WITHIN n; n by the old counting, and one more by the new, where k - j may be n
abbrev pub bound : Counting → ℕ → ℕ
bound Old n = n
bound New n = n + 1

-- 02, Slip 4: the numbers of the countings in kind 17, 1 old and 2 new
abbrev pub is_counting : ℕ → Bool
is_counting x = eqb x 1 || eqb x 2

-- and the counting of a number; one that is refused plays no part
abbrev pub counting_of : ℕ → Counting
counting_of x = cond (eqb x 2) New Old
