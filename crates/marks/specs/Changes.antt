-- 01's book on the marks: the tests of one to put and of one to take, with 02's 12 and 16, and what an accepted record changes.
use Rattle.std.specs.Prelude.{not, List, [], ◌∷◌, ◌++◌, leb, ltb, length}
use Rattle.terms.specs.declared.Mark.{Mark}
use Rattle.terms.specs.Limits.{MARKS, DEPTHS}
use Rattle.terms.specs.Holes.{lies_in}
use Rattle.terms.specs.Held.{Held, hole_in, ends_of, with_marks}
use Rattle.refusals.specs.Refusals.{Test, test}
use Rattle.terms.specs.Same.{same_mark}
use Rattle.terms.specs.Lists.{some, strike, depth_count}

-- 01, Where a record is turned away, lists: a mark to put, with 12 by 02, Slip 2: the ends of the held marks and the new one together are
-- more than 96
abbrev pub room_tests : Held → Mark → List Test
room_tests h m =
    test (some (same_mark m) h.marks) 9
    ∷ test (leb MARKS (length h.marks)) 11
    ∷ test (ltb DEPTHS (depth_count (ends_of (h.marks ++ (m ∷ []))))) 12
    ∷ []

-- 02, Slip 5: before these, 16 for one that reaches outside the hole
abbrev pub put_tests : Held → Mark → List Test
put_tests h m = test (not (lies_in (hole_in h) m)) 16 ∷ room_tests h m

-- a mark to take
abbrev pub take_tests : Held → Mark → List Test
take_tests h m = test (not (some (same_mark m) h.marks)) 10 ∷ []

-- 01, The book: kinds 6 and 7, and 02's 13 and 14, add their mark at the end of its list
abbrev pub put_mark : Held → Mark → Held
put_mark h m = with_marks h (h.marks ++ (m ∷ []))

-- 01, The book: kinds 8 and 9, and 02's 15 and 16, strike the mark with the same fields; those behind it move up
abbrev pub take_mark : Held → Mark → Held
take_mark h m = with_marks h (strike (same_mark m) h.marks)
