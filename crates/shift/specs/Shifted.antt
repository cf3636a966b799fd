-- 02's cable zero: what is held, with all depths moved by the same amount.
use Rattle.std.specs.Prelude.{Bool, true, ◌&&◌, map, ℤ, ◌+ℤ◌}
use Rattle.terms.specs.declared.Hole.{Hole}
use Rattle.terms.specs.declared.Hole.TheVariants.{Whole, Part}
use Rattle.terms.specs.declared.Mark.{Mark}
use Rattle.terms.specs.Limits.{is_depth}
use Rattle.terms.specs.Held.{Held, hole_in, with_marks, with_hole, is_placed}
use Rattle.terms.specs.Lists.{every}

-- 02, Slip 9: a depth moved by c; the sum is exact
abbrev pub by : ℤ → ℤ → ℤ
by c d = d +ℤ c

-- 02, Slip 9: both ends of a mark
abbrev pub shift_mark : ℤ → Mark → Mark
shift_mark c m = record { atom = m.atom; top = by c m.top; bottom = by c m.bottom }

-- and both ends of the hole, where there is one
abbrev pub shift_hole : ℤ → Hole → Hole
shift_hole c Whole = Whole
shift_hole c (Part t b) = Part (by c t) (by c b)

-- 02, Slip 9: all marks, in their order, and the hole; rules, counting and profile stay
abbrev pub shifted : ℤ → Held → Held
shifted c h = with_hole (with_marks h (map (shift_mark c) h.marks)) (shift_hole c (hole_in h))

-- 02, Slip 9: the depths of a mark, and of the hole, stay in their range
abbrev pub mark_stays : ℤ → Mark → Bool
mark_stays c m = is_placed (shift_mark c m)

abbrev pub hole_stays : ℤ → Hole → Bool
hole_stays c Whole = true
hole_stays c (Part t b) = is_depth (by c t) && is_depth (by c b)

-- 02, Slip 9: so do all; number 8 if any leaves it
abbrev pub stays : ℤ → Held → Bool
stays c h = every (mark_stays c) h.marks && hole_stays c (hole_in h)
