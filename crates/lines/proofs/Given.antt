-- 01's own lines, byte by byte. Assumes nothing.
use mathlib.Core.Path.{◌≡◌, refl}
use mathlib.Core.List.{[], ◌∷◌}
use lib.IntN.{pos, negsuc}
use Rattle.terms.specs.declared.Answer.TheVariants.{Yes, Contradiction, Spans, Refused}
use Rattle.terms.specs.Limits.{NO_TOP, NO_BOTTOM}
use Rattle.lines.specs.Lines.{codes, digits_up_to, decimal, signed, end_text, pair_text, pairs_text, words, line_text}

pub given :
    (line_text 8 Yes [] ≡ codes "8 yes\n")
    × (line_text 10 (Spans 1) (pos 104 ∷ pos 109 ∷ []) ≡ codes "10 spans 1 104:109\n")
    × (line_text 11 (Refused 9) [] ≡ codes "11 refused 9\n")
    × (line_text 3 (Contradiction 0) [] ≡ codes "3 contradiction 0\n")
    × (line_text 4 (Spans 2) (NO_TOP ∷ negsuc 4 ∷ pos 7 ∷ NO_BOTTOM ∷ []) ≡ codes "4 spans 2 *:-5 7:*\n")
    × (decimal 18_446_744_073_709_551_615 ≡ codes "18446744073709551615")
unfolding line_text words pairs_text pair_text end_text signed digits_up_to
given = (refl, refl, refl, refl, refl, refl)
