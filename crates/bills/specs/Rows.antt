-- 02, Slip 1, worked: rows of what is held, an item and price lines, with the charge.
use Rattle.std.specs.Prelude.{List, [], ◌∷◌, ◌++◌, ℕ, ℤ, pos, negsuc}
use Rattle.terms.specs.declared.Atom.TheVariants.{Has, Linked}
use Rattle.terms.specs.declared.Counting.TheVariants.{New}
use Rattle.terms.specs.declared.Hole.TheVariants.{Part}
use Rattle.terms.specs.declared.Mark.{Mark}
use Rattle.terms.specs.declared.Operator.{Operator}
use Rattle.terms.specs.declared.Operator.TheVariants.{Within, Above, Below}
use Rattle.terms.specs.declared.Rule.{Rule}
use Rattle.terms.specs.declared.Rule.TheVariants.{Label}
use Rattle.terms.specs.Limits.{EVERY, NEVER}
use Rattle.terms.specs.Held.{Held, empty_held, fresh_settings, with_counting, with_hole}
use Rattle.charges.specs.declared.PriceLine.{PriceLine}
use Rattle.charges.specs.declared.Charge.{Charge}
use Rattle.charges.specs.declared.Charge.TheVariants.{Total, Open, Contradiction}
use Rattle.charges.specs.Lines.{line_of}

-- a row: what is held, the item and the price lines, and the charge
pub record Row : Type 0 where
  pub held : Held
  pub item : ℕ
  pub lines : List PriceLine
  pub charge : Charge

abbrev row : Held → ℕ → List PriceLine → Charge → Row
row h a ls c = record { held = h; item = a; lines = ls; charge = c }

abbrev on : List Rule → List Mark → Held
on ρs ms = record { rules = ρs; marks = ms; settings = fresh_settings }

-- a label on an item from one depth to another, and a link at a depth
abbrev label : ℕ → ℕ → ℤ → ℤ → Mark
label a A t b = record { atom = Has a A; top = t; bottom = b }

abbrev link : ℕ → ℕ → Mark
link a b = record { atom = Linked a 0 b; top = pos 7; bottom = pos 7 }

-- label 1 on item 0 alone, from one depth to another
abbrev stretch : ℤ → ℤ → Held
stretch t b = on [] (label 0 1 t b ∷ [])

-- 101 centimetres of it: two started metres
abbrev two : Held
two = stretch (pos 0) (pos 100)

-- label 2 by an operator on them
abbrev under : Operator → Held
under o = on (Label o 1 2 ∷ []) (label 0 1 (pos 0) (pos 100) ∷ [])

-- label 2 by WITHIN n on label 1 at 0 and 50
abbrev gap : ℕ → Held
gap n = on (Label (Within n) 1 2 ∷ []) (label 0 1 (pos 0) (pos 0) ∷ label 0 1 (pos 50) (pos 50) ∷ [])

-- label 1 may hold nowhere, and these marks are held
abbrev bad : List Mark → Held
bad ms = on (Label (Within 1) 1 NEVER ∷ []) ms

-- 0 leads to 5, 5 to 4 and 2 to 4; items 4, 2 and 1, which is not joined, have label 1
abbrev chain : Held
chain =
    bad (link 0 5 ∷ link 5 4 ∷ link 2 4 ∷ label 4 1 (pos 7) (pos 7) ∷ label 2 1 (pos 9) (pos 9) ∷ label 1 1 (pos 7) (pos 7) ∷ [])

-- one line for a label, at 700 cents a started metre
abbrev priced : ℕ → List PriceLine
priced A = line_of A 700 0 ∷ []

-- one centimetre and 100 are one started metre, 101 and 200 are two, by the span's own length and not by the depths that it crosses
abbrev lengths : List Row
lengths =
    row (stretch (pos 5) (pos 5)) 0 (priced 1) (Total 700)
    ∷ row (stretch (pos 0) (pos 99)) 0 (priced 1) (Total 700)
    ∷ row two 0 (priced 1) (Total 1_400)
    ∷ row (stretch (negsuc 99) (pos 99)) 0 (priced 1) (Total 1_400)
    ∷ row (stretch (pos 50) (pos 149)) 0 (priced 1) (Total 700)
    ∷ []

-- the larger of both prices, for each span; the ends of the range of prices
abbrev prices : List Row
prices =
    row two 0 (line_of 1 700 1_399 ∷ []) (Total 1_400)
    ∷ row two 0 (line_of 1 700 1_400 ∷ []) (Total 1_400)
    ∷ row two 0 (line_of 1 700 1_401 ∷ []) (Total 1_401)
    ∷ row two 0 (line_of 1 1_000_000 0 ∷ []) (Total 2_000_000)
    ∷ row two 0 (line_of 1 0 1_000_000 ∷ []) (Total 1_000_000)
    ∷ row two 0 (line_of 1 0 0 ∷ []) (Total 0)
    ∷ []

-- two spans are charged apart, and marks that touch or a gap that is filled, by the counting in force, make one; a label listed twice counts twice; no lines, and no spans, cost nothing
abbrev sums : List Row
sums =
    row (on [] (label 0 1 (pos 0) (pos 100) ∷ label 0 1 (pos 300) (pos 300) ∷ [])) 0 (line_of 1 700 1_000 ∷ []) (Total 2_400)
    ∷ row (on [] (label 0 1 (pos 0) (pos 49) ∷ label 0 1 (pos 50) (pos 99) ∷ [])) 0 (priced 1) (Total 700)
    ∷ row (gap 51) 0 (priced 2) (Total 700)
    ∷ row (gap 50) 0 (priced 2) (Total 1_400)
    ∷ row (with_counting (gap 50) New) 0 (priced 2) (Total 700)
    ∷ row two 0 (line_of 1 700 0 ∷ line_of 1 100 0 ∷ []) (Total 1_600)
    ∷ row two 0 [] (Total 0)
    ∷ row two 0 (line_of 2 700 500 ∷ []) (Total 0)
    ∷ []

-- a span without an end is open, whatever it costs and whatever else is listed; in a hole it is as long as the hole
abbrev opens : List Row
opens =
    row (under Above) 0 (priced 2) Open
    ∷ row (under Below) 0 (priced 2) Open
    ∷ row (under Below) 0 (priced 1) (Total 1_400)
    ∷ row (under Below) 0 (line_of 1 700 0 ∷ line_of 2 0 0 ∷ []) Open
    ∷ row empty_held 0 (priced EVERY) Open
    ∷ row (with_hole empty_held (Part (negsuc 49) (pos 50))) 0 (priced EVERY) (Total 1_400)
    ∷ row (with_hole (under Above) (Part (negsuc 99) (pos 100))) 0 (priced 2) (Total 2_100)
    ∷ []

-- contradiction comes before open and names the lowest item with NEVER that is joined; one of items that are not joined alters nothing
abbrev clashes : List Row
clashes =
    row (bad (label 0 1 (pos 7) (pos 7) ∷ [])) 0 (priced EVERY) (Contradiction 0)
    ∷ row chain 5 [] (Contradiction 2)
    ∷ row (bad (label 0 2 (pos 0) (pos 99) ∷ label 1 1 (pos 7) (pos 7) ∷ [])) 0 (priced 2) (Total 700)
    ∷ []

abbrev pub rows : List Row
rows = lengths ++ (prices ++ (sums ++ (opens ++ clashes)))
