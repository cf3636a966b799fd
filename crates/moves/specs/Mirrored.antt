-- 02's line reversed: what is held, with every depth d as -d, and ABOVE and BELOW exchanged.
use Rattle.std.specs.Prelude.{Bool, true, ◌&&◌, map, neg_ℤ}
use Rattle.terms.specs.declared.Hole.{Hole}
use Rattle.terms.specs.declared.Hole.TheVariants.{Whole, Part}
use Rattle.terms.specs.declared.Mark.{Mark}
use Rattle.terms.specs.declared.Operator.{Operator}
use Rattle.terms.specs.declared.Operator.TheVariants.{Within, Between, Above, Below, Anywhere}
use Rattle.terms.specs.Limits.{is_depth}
use Rattle.terms.specs.Held.{Held, hole_in, with_rules, with_marks, with_hole, turn, is_placed}
use Rattle.terms.specs.Lists.{every}

-- 02, Slip 9: ABOVE and BELOW exchanged
abbrev pub exchanged : Operator → Operator
exchanged (Within n) = Within n
exchanged Between = Between
exchanged Above = Below
exchanged Below = Above
exchanged Anywhere = Anywhere

-- 02, Slip 9: a mark reversed; its top comes from its bottom
abbrev pub mirror_mark : Mark → Mark
mirror_mark m = record { atom = m.atom; top = neg_ℤ m.bottom; bottom = neg_ℤ m.top }

-- and so the hole, where there is one
abbrev pub mirror_hole : Hole → Hole
mirror_hole Whole = Whole
mirror_hole (Part t b) = Part (neg_ℤ b) (neg_ℤ t)

-- 02, Slip 9: all rules with the operators exchanged, all marks and the hole; each in its place; counting and profile stay
abbrev pub mirrored : Held → Held
mirrored h = with_hole (with_rules (with_marks h (map mirror_mark h.marks)) (map (turn exchanged) h.rules)) (mirror_hole (hole_in h))

-- 02, Slip 9: all mirrored depths are in range
abbrev pub hole_mirrors : Hole → Bool
hole_mirrors Whole = true
hole_mirrors (Part t b) = is_depth (neg_ℤ b) && is_depth (neg_ℤ t)

abbrev pub mirrors : Held → Bool
mirrors h = every (λ m. is_placed (mirror_mark m)) h.marks && hole_mirrors (hole_in h)
