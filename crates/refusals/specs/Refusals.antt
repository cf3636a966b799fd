-- The order of 01's refusals, rows of its table as tests, and what a list of tests comes to.
use Rattle.std.specs.Prelude.{Bool, cond, List, [], ◌∷◌, ℕ, suc, eqb, Result, Ok, Err}

-- 01, Where a record is turned away: the numbers in the order in which they are judged, with 02's where 02 puts them
abbrev pub order : List ℕ
order = 1 ∷ 2 ∷ 3 ∷ 4 ∷ 5 ∷ 6 ∷ 7 ∷ 15 ∷ 8 ∷ 14 ∷ 16 ∷ 17 ∷ 20 ∷ 9 ∷ 10 ∷ 11 ∷ 12 ∷ 13 ∷ []

abbrev pub rank_in : List ℕ → ℕ → ℕ
rank_in [] n = 1
rank_in (m ∷ ms) n = cond (eqb n m) 1 (suc (rank_in ms n))

-- a number's place in the order, counted from 1; a number that is not in it comes after all
unfoldable pub rank : ℕ → ℕ
rank n = rank_in order n

-- a row of the table: where it applies, and its number
pub record Test : Type 0 where
  pub applies : Bool
  pub number : ℕ

abbrev pub test : Bool → ℕ → Test
test b n = record { applies = b; number = n }

-- what tests come to: none applies, or the number of the first that does
abbrev pub Tested : Type 0
Tested = Result (Unit {0}) ℕ

-- 01, Where a record is turned away: the lowest number that applies, by rank, which is the first, since the rows ascend
abbrev pub tested : List Test → Tested
tested [] = Ok tt
tested (t ∷ ts) = cond t.applies (Err t.number) (tested ts)
