-- 02, Slip 9, worked: rows of what is held and asked, with the reply before, after a shift by 10 and on the reversed line.
use Rattle.std.specs.Prelude.{List, [], ◌∷◌, ℤ, pos, negsuc}
use Rattle.terms.specs.declared.Atom.TheVariants.{Has, Linked}
use Rattle.terms.specs.declared.Hole.TheVariants.{Part}
use Rattle.terms.specs.declared.Mark.{Mark}
use Rattle.terms.specs.declared.Operator.{Operator}
use Rattle.terms.specs.declared.Operator.TheVariants.{Within, Above}
use Rattle.terms.specs.declared.Question.{Question}
use Rattle.terms.specs.declared.Rule.{Rule}
use Rattle.terms.specs.declared.Rule.TheVariants.{Label, Link}
use Rattle.terms.specs.Limits.{NEVER, NO_TOP, NO_BOTTOM}
use Rattle.terms.specs.Held.{Held, fresh_settings, with_hole}
use Rattle.terms.specs.Spans.{run}
use Rattle.decide.specs.Decides.{Yes, No, Spans, Reply, Contradiction, Answered}

-- a row: what is held and asked, and the reply; after a shift by 10; and on the reversed line
pub record Row : Type 0 where
  pub held : Held
  pub question : Question
  pub before : Reply
  pub shift : Reply
  pub mirror : Reply

abbrev on : List Rule → List Mark → Held
on ρs ms = record { rules = ρs; marks = ms; settings = fresh_settings }

abbrev label : ℤ → Mark
label i = record { atom = Has 0 1; top = i; bottom = i }

-- 01's set -3, -2, 0 and 4 under an operator
abbrev four : Operator → Held
four o = on (Label o 1 2 ∷ []) (label (negsuc 2) ∷ label (negsuc 1) ∷ label (pos 0) ∷ label (pos 4) ∷ [])

-- ABOVE of a stretch from 2 to 5, in a hole from -6 to 9
abbrev bored : Held
bored = with_hole (on (Label Above 1 2 ∷ []) (record { atom = Has 0 1; top = pos 2; bottom = pos 5 } ∷ [])) (Part (negsuc 5) (pos 9))

-- link 1 ABOVE a link 0 from item 0 to 1 at 8
abbrev tied : Held
tied = on (Link Above 0 1 ∷ []) (record { atom = Linked 0 0 1; top = pos 8; bottom = pos 8 } ∷ [])

-- label 1 may hold nowhere, and holds on item 4 at 7
abbrev bad : Held
bad = on (Label (Within 1) 1 NEVER ∷ []) (record { atom = Has 4 1; top = pos 7; bottom = pos 7 } ∷ [])

-- yes, or no, on each of the three
abbrev asked : Held → Question → Reply → Row
asked h q r = record { held = h; question = q; before = r; shift = r; mirror = r }

abbrev pub rows : List Row
rows =
    record {
      held = four (Within 3);
      question = Question.Spans 0 2;
      before = Answered (Spans (run (negsuc 2) (pos 0) ∷ run (pos 4) (pos 4) ∷ []));
      shift = Answered (Spans (run (pos 7) (pos 10) ∷ run (pos 14) (pos 14) ∷ []));
      mirror = Answered (Spans (run (negsuc 3) (negsuc 3) ∷ run (pos 0) (pos 3) ∷ []));
    }
    ∷ record {
      held = four Above;
      question = Question.Spans 0 2;
      before = Answered (Spans (run NO_TOP (pos 4) ∷ []));
      shift = Answered (Spans (run NO_TOP (pos 14) ∷ []));
      mirror = Answered (Spans (run (negsuc 3) NO_BOTTOM ∷ []));
    }
    ∷ record {
      held = bored;
      question = Question.Spans 0 2;
      before = Answered (Spans (run (negsuc 5) (pos 5) ∷ []));
      shift = Answered (Spans (run (pos 4) (pos 15) ∷ []));
      mirror = Answered (Spans (run (negsuc 4) (pos 6) ∷ []));
    }
    ∷ asked bored (Question.Holds (Has 0 2) (negsuc 6)) (Answered No)
    ∷ asked bored (Question.Holds (Has 0 2) (negsuc 5)) (Answered Yes)
    ∷ asked tied (Question.Holds (Linked 0 1 1) (pos 8)) (Answered Yes)
    ∷ asked tied (Question.Holds (Linked 0 1 1) (pos 9)) (Answered No)
    ∷ asked bad (Question.Spans 4 1) (Contradiction 4)
    ∷ []
