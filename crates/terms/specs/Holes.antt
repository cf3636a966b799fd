-- 02's hole: which depths exist.
use Rattle.std.specs.Prelude.{Bool, true, ◌&&◌, T, ℤ}
use Rattle.std.specs.Int.Signed.{le_z}
use Rattle.terms.specs.declared.Hole.{Hole}
use Rattle.terms.specs.declared.Hole.TheVariants.{Whole, Part}
use Rattle.terms.specs.declared.Mark.{Mark}
use Rattle.terms.specs.Limits.{is_depth}

-- 02, Slip 5: the depth exists; where there is no hole, `Whole`, each does, in one those from its top to its bottom
abbrev pub is_inside : Hole → ℤ → Bool
is_inside Whole i = true
is_inside (Part t b) i = le_z t i && le_z i b

abbrev pub InHole : Hole → ℤ → Type 0
InHole H i = T (is_inside H i)

-- 02, Slip 5: both ends lie where marks lie, and the top is not deeper than the bottom
abbrev pub is_hole : Hole → Bool
is_hole Whole = true
is_hole (Part t b) = (is_depth t && is_depth b) && le_z t b

-- 02, Slip 5: the mark does not reach outside
abbrev pub lies_in : Hole → Mark → Bool
lies_in H m = is_inside H m.top && is_inside H m.bottom
