-- The cases that 01 marks P, readings of its operators and rules, and 02's beside them: one table.
use Rattle.std.specs.Prelude.{List, [], ◌∷◌, ◌++◌, ℕ, zero, suc, ◌-◌, ◌^◌, ℤ, pos, negsuc}
use Rattle.terms.specs.declared.Operator.{Operator}
use Rattle.terms.specs.declared.Operator.TheVariants.{Within, Between, Above, Below, Anywhere}
use Rattle.terms.specs.declared.Rule.{Rule}
use Rattle.terms.specs.declared.Rule.TheVariants.{Label, Both, Link, Via}
use Rattle.terms.specs.declared.Atom.{Atom}
use Rattle.terms.specs.declared.Atom.TheVariants.{Has, Linked}
use Rattle.terms.specs.declared.Mark.{Mark}
use Rattle.terms.specs.Limits.{ITEMS, EVERY, NEVER, SHALLOWEST, DEEPEST, NO_TOP, NO_BOTTOM}
use Rattle.terms.specs.declared.Question.{Question}
use Rattle.terms.specs.declared.Counting.TheVariants.{New}
use Rattle.terms.specs.declared.Hole.TheVariants.{Part}
use Rattle.terms.specs.Held.{Held, fresh_settings, with_counting, with_hole}
use Rattle.terms.specs.Lists.{strike}
use Rattle.terms.specs.Same.{same_mark}
use Rattle.terms.specs.Spans.{Run, run}
use Rattle.decide.specs.Decides.{Yes, No, Spans, Reply, Contradiction, Answered}

-- a row: what is held, what is asked, and the reply that 01 or 02 gives
pub record Case : Type 0 where
  pub held : Held
  pub question : Question
  pub reply : Reply

abbrev pub on : List Rule → List Mark → Question → Reply → Case
on rs ms q r = record { held = record { rules = rs; marks = ms; settings = fresh_settings }; question = q; reply = r }

abbrev pub label : ℕ → ℕ → ℤ → Mark
label a A i = record { atom = Has a A; top = i; bottom = i }

abbrev pub link : ℕ → ℕ → ℕ → ℤ → Mark
link a r b i = record { atom = Linked a r b; top = i; bottom = i }

abbrev pub four : List Mark
four = label 0 1 (negsuc 2) ∷ label 0 1 (negsuc 1) ∷ label 0 1 (pos 0) ∷ label 0 1 (pos 4) ∷ []

abbrev pub two : List Mark
two = label 0 1 (pos 104) ∷ label 0 1 (pos 123) ∷ []

-- an operator on a set of depths, asked as spans, so that the row speaks of every integer
abbrev pub gives : Operator → List Mark → List Run → Case
gives o ms rs = on (Label o 1 2 ∷ []) ms (Question.Spans 0 2) (Answered (Spans rs))

abbrev pub contrary : List Rule
contrary = Label (Within 1) EVERY 1 ∷ Label (Within 1) 1 NEVER ∷ []

-- label 1 may hold nowhere
abbrev pub bad : List Rule
bad = Label (Within 1) 1 NEVER ∷ []

-- no marks, no rules: EVERY yes and label 1 no, of each item below n
abbrev pub nothing : ℕ → List Case
nothing zero = []
nothing (suc a) =
    on [] [] (Question.Holds (Has a EVERY) (pos 0)) (Answered Yes)
    ∷ on [] [] (Question.Spans a EVERY) (Answered (Spans (run NO_TOP NO_BOTTOM ∷ [])))
    ∷ on [] [] (Question.Holds (Has a 1) (pos 0)) (Answered No)
    ∷ on [] [] (Question.Spans a 1) (Answered (Spans []))
    ∷ nothing a

-- link 0 from 0 to 1 at 10 and VIA 0 2 to 3, with label 2 on item 1 at this depth
abbrev pub led : ℤ → Question → Reply → Case
led i = on (Via 0 2 3 ∷ []) (link 0 0 1 (pos 10) ∷ label 1 2 i ∷ [])

-- label A of item 0 from t to b
abbrev pub stretch : ℕ → ℕ → ℕ → Mark
stretch A t b = record { atom = Has 0 A; top = pos t; bottom = pos b }

-- a stretch and a point below it
abbrev pub caliper : List Mark
caliper = stretch 1 100 110 ∷ label 0 1 (pos 120) ∷ []

-- what item 0 has of label 1, and whether at this depth
abbrev pub has_runs : List Mark → List Run → Case
has_runs ms rs = on [] ms (Question.Spans 0 1) (Answered (Spans rs))

abbrev pub has_at : List Mark → ℕ → Reply → Case
has_at ms i = on [] ms (Question.Holds (Has 0 1) (pos i))

-- a stretch taken behind four from which each other differs in one field: top, bottom, label, item
abbrev pub untaken : List Mark
untaken =
    strike (same_mark (stretch 1 10 20))
    (stretch 1 15 20 ∷ stretch 1 10 12 ∷ stretch 2 10 20 ∷ record { atom = Has 1 1; top = pos 10; bottom = pos 20 } ∷ stretch 1 10 20 ∷ [])

-- whether there is this link at 5 where the last of four was taken, from which each other differs in one name
abbrev pub untied : Atom → Reply → Case
untied x =
    on [] (strike (same_mark (link 0 0 1 (pos 5))) (link 2 0 1 (pos 5) ∷ link 0 1 1 (pos 5) ∷ link 0 0 2 (pos 5) ∷ link 0 0 1 (pos 5) ∷ []))
    (Question.Holds x (pos 5))

-- 02, Slip 2: a stretch and a point under each operator; inside a stretch and at its ends; stretches that overlap, touch, lie a depth apart,
-- nest; a stretch across 0; a stretch of a link; one of two that share an end, taken; a mark taken behind others that differ in one field
abbrev pub stretches : List Case
stretches =
    gives (Within 1) caliper (run (pos 100) (pos 110) ∷ run (pos 120) (pos 120) ∷ [])
    ∷ gives (Within 10) caliper (run (pos 100) (pos 110) ∷ run (pos 120) (pos 120) ∷ [])
    ∷ gives (Within 11) caliper (run (pos 100) (pos 120) ∷ [])
    ∷ gives Between caliper (run (pos 100) (pos 120) ∷ [])
    ∷ gives Above caliper (run NO_TOP (pos 120) ∷ [])
    ∷ gives Below caliper (run (pos 100) NO_BOTTOM ∷ [])
    ∷ gives Anywhere caliper (run NO_TOP NO_BOTTOM ∷ [])
    ∷ has_runs caliper (run (pos 100) (pos 110) ∷ run (pos 120) (pos 120) ∷ [])
    ∷ has_at caliper 99 (Answered No)
    ∷ has_at caliper 100 (Answered Yes)
    ∷ has_at caliper 105 (Answered Yes)
    ∷ has_at caliper 110 (Answered Yes)
    ∷ has_at caliper 111 (Answered No)
    ∷ has_runs (stretch 1 10 20 ∷ stretch 1 15 30 ∷ []) (run (pos 10) (pos 30) ∷ [])
    ∷ on (Both 1 2 3 ∷ []) (stretch 1 10 20 ∷ stretch 2 15 30 ∷ []) (Question.Spans 0 3) (Answered (Spans (run (pos 15) (pos 20) ∷ [])))
    ∷ has_runs (stretch 1 10 20 ∷ stretch 1 21 30 ∷ []) (run (pos 10) (pos 30) ∷ [])
    ∷ has_runs (stretch 1 10 20 ∷ stretch 1 22 30 ∷ []) (run (pos 10) (pos 20) ∷ run (pos 22) (pos 30) ∷ [])
    ∷ on (Both 1 2 3 ∷ []) (stretch 1 10 30 ∷ stretch 2 15 20 ∷ []) (Question.Spans 0 3) (Answered (Spans (run (pos 15) (pos 20) ∷ [])))
    ∷ has_runs (record { atom = Has 0 1; top = negsuc 4; bottom = pos 5 } ∷ []) (run (negsuc 4) (pos 5) ∷ [])
    ∷ on (Via 0 2 3 ∷ []) (record { atom = Linked 0 0 1; top = pos 10; bottom = pos 20 } ∷ record { atom = Has 1 2; top = pos 15; bottom = pos 30 } ∷ [])
    (Question.Spans 0 3) (Answered (Spans (run (pos 15) (pos 20) ∷ [])))
    ∷ has_runs (strike (same_mark (stretch 1 10 20)) (stretch 1 10 20 ∷ stretch 1 20 30 ∷ [])) (run (pos 20) (pos 30) ∷ [])
    ∷ has_at (strike (same_mark (stretch 1 10 20)) (stretch 1 10 20 ∷ stretch 1 20 30 ∷ [])) 20 (Answered Yes)
    ∷ has_at (strike (same_mark (stretch 1 10 20)) (stretch 1 10 20 ∷ stretch 1 20 30 ∷ [])) 19 (Answered No)
    ∷ has_runs untaken (run (pos 10) (pos 12) ∷ run (pos 15) (pos 20) ∷ [])
    ∷ untied (Linked 2 0 1) (Answered Yes)
    ∷ untied (Linked 0 1 1) (Answered Yes)
    ∷ untied (Linked 0 0 2) (Answered Yes)
    ∷ untied (Linked 0 0 1) (Answered No)
    ∷ []

-- the same held and asked by the new counting
abbrev pub newly : Case → Case
newly c = record { held = with_counting c.held New; question = c.question; reply = c.reply }

-- link 0 from 0 to 1 at 10 and 13, and LINKRULE WITHIN 3 from link 0 to 1: whether link 1 holds at this depth
abbrev pub tied : ℕ → Reply → Case
tied i = on (Link (Within 3) 0 1 ∷ []) (link 0 0 1 (pos 10) ∷ link 0 0 1 (pos 13) ∷ []) (Question.Holds (Linked 0 1 1) (pos i))

-- label 3 from label 1 at 10 up and from label 2 at 20 down, and label 4 from WITHIN n of it: the set has no ends, and 10 is 10 from 20
abbrev pub gap : ℕ → List Run → Case
gap n rs =
    on (Label Above 1 3 ∷ Label Below 2 3 ∷ Label (Within n) 3 4 ∷ []) (label 0 1 (pos 10) ∷ label 0 2 (pos 20) ∷ []) (Question.Spans 0 4)
    (Answered (Spans rs))

-- 02, Slip 4: WITHIN n by the new counting, k - j ≤ n, at the distance itself and one below it; WITHIN 1 gives M by either counting; between a
-- stretch and a point; on a derived set without ends; of a link, by either counting; the other operators as by the old one
abbrev pub countings : List Case
countings =
    newly (gives (Within 19) two (run (pos 104) (pos 123) ∷ []))
    ∷ newly (gives (Within 18) two (run (pos 104) (pos 104) ∷ run (pos 123) (pos 123) ∷ []))
    ∷ newly (gives (Within 2) four (run (negsuc 2) (pos 0) ∷ run (pos 4) (pos 4) ∷ []))
    ∷ newly (gives (Within 1) four (run (negsuc 2) (negsuc 1) ∷ run (pos 0) (pos 0) ∷ run (pos 4) (pos 4) ∷ []))
    ∷ newly (gives (Within 10) caliper (run (pos 100) (pos 120) ∷ []))
    ∷ newly (gives (Within 9) caliper (run (pos 100) (pos 110) ∷ run (pos 120) (pos 120) ∷ []))
    ∷ newly (gap 10 (run NO_TOP NO_BOTTOM ∷ []))
    ∷ newly (gap 9 (run NO_TOP (pos 10) ∷ run (pos 20) NO_BOTTOM ∷ []))
    ∷ gap 10 (run NO_TOP (pos 10) ∷ run (pos 20) NO_BOTTOM ∷ [])
    ∷ newly (tied 11 (Answered Yes))
    ∷ newly (tied 14 (Answered No))
    ∷ tied 11 (Answered No)
    ∷ tied 10 (Answered Yes)
    ∷ newly (gives Between four (run (negsuc 2) (pos 4) ∷ []))
    ∷ newly (gives Above four (run NO_TOP (pos 4) ∷ []))
    ∷ newly (gives Below four (run (negsuc 2) NO_BOTTOM ∷ []))
    ∷ newly (gives Anywhere four (run NO_TOP NO_BOTTOM ∷ []))
    ∷ []

-- the same held and asked in a hole
abbrev pub bored : ℤ → ℤ → Case → Case
bored t b c = record { held = with_hole c.held (Part t b); question = c.question; reply = c.reply }

-- a hole from 95 to 130, around the stretch and the point below it; whether an operator gives this depth in it, and whether EVERY holds there
abbrev pub hole : Case → Case
hole c = bored (pos 95) (pos 130) c

abbrev pub bored_at : Operator → ℤ → Reply → Case
bored_at o i r = hole (on (Label o 1 2 ∷ []) caliper (Question.Holds (Has 0 2) i) r)

abbrev pub every_at : ℤ → Reply → Case
every_at i r = hole (on [] caliper (Question.Holds (Has 0 EVERY) i) r)

-- the spans of EVERY
abbrev pub every_in : List Mark → List Run → Case
every_in ms rs = on [] ms (Question.Spans 0 EVERY) (Answered (Spans rs))

-- link 1 from 0 to 1 ANYWHERE there is link 0, which is at 100, at this depth
abbrev pub roped : ℤ → Reply → Case
roped i r = hole (on (Link Anywhere 0 1 ∷ []) (link 0 0 1 (pos 100) ∷ []) (Question.Holds (Linked 0 1 1) i) r)

-- 02, Slip 5: each operator gives only depths inside, also from a mark at the hole's end, and EVERY holds at those alone; asked at an end and one
-- outside it, EVERY and links at either, EVERY also far outside; rules on EVERY; without marks; of one depth; above 0, across it; the whole range;
-- in the place of another; by the new counting; contradiction above, below and far outside
abbrev pub holes : List Case
holes =
    hole (gives Anywhere caliper (run (pos 95) (pos 130) ∷ []))
    ∷ hole (gives Above caliper (run (pos 95) (pos 120) ∷ []))
    ∷ hole (gives Below caliper (run (pos 100) (pos 130) ∷ []))
    ∷ hole (gives Between caliper (run (pos 100) (pos 120) ∷ []))
    ∷ hole (gives (Within 10) caliper (run (pos 100) (pos 110) ∷ run (pos 120) (pos 120) ∷ []))
    ∷ hole (newly (gives (Within 10) caliper (run (pos 100) (pos 120) ∷ [])))
    ∷ bored_at Anywhere (pos 94) (Answered No)
    ∷ bored_at Anywhere (pos 95) (Answered Yes)
    ∷ bored_at Above (pos 94) (Answered No)
    ∷ bored_at Above (pos 95) (Answered Yes)
    ∷ bored_at Below (pos 130) (Answered Yes)
    ∷ bored_at Below (pos 131) (Answered No)
    ∷ roped (pos 94) (Answered No)
    ∷ roped (pos 95) (Answered Yes)
    ∷ roped (pos 130) (Answered Yes)
    ∷ roped (pos 131) (Answered No)
    ∷ hole (every_in caliper (run (pos 95) (pos 130) ∷ []))
    ∷ every_at (pos 94) (Answered No)
    ∷ every_at (pos 95) (Answered Yes)
    ∷ every_at (pos 130) (Answered Yes)
    ∷ every_at (pos 131) (Answered No)
    ∷ every_at (negsuc (2 ^ 63 - 1)) (Answered No)
    ∷ every_at (pos (2 ^ 63 - 1)) (Answered No)
    ∷ hole (on (Both EVERY EVERY 1 ∷ []) [] (Question.Spans 0 1) (Answered (Spans (run (pos 95) (pos 130) ∷ []))))
    ∷ hole (on (Label Between EVERY 1 ∷ []) [] (Question.Spans 0 1) (Answered (Spans (run (pos 95) (pos 130) ∷ []))))
    ∷ hole (every_in [] (run (pos 95) (pos 130) ∷ []))
    ∷ hole (bored (pos 0) (pos 10) (every_in [] (run (pos 95) (pos 130) ∷ [])))
    ∷ hole (has_runs [] [])
    ∷ bored (pos 100) (pos 120) (gives Anywhere caliper (run (pos 100) (pos 120) ∷ []))
    ∷ bored (pos 100) (pos 120) (every_in caliper (run (pos 100) (pos 120) ∷ []))
    ∷ bored (pos 100) (pos 120) (gives Above (label 0 1 (pos 100) ∷ []) (run (pos 100) (pos 100) ∷ []))
    ∷ bored (pos 100) (pos 120) (gives Below (label 0 1 (pos 120) ∷ []) (run (pos 120) (pos 120) ∷ []))
    ∷ bored (pos 120) (pos 120) (gives Anywhere (label 0 1 (pos 120) ∷ []) (run (pos 120) (pos 120) ∷ []))
    ∷ bored (pos 120) (pos 120) (every_in [] (run (pos 120) (pos 120) ∷ []))
    ∷ bored (pos 120) (pos 120) (on [] [] (Question.Holds (Has 0 EVERY) (pos 119)) (Answered No))
    ∷ bored (pos 120) (pos 120) (on [] [] (Question.Holds (Has 0 EVERY) (pos 121)) (Answered No))
    ∷ bored (negsuc 199) (negsuc 99) (every_in [] (run (negsuc 199) (negsuc 99) ∷ []))
    ∷ bored (negsuc 4) (pos 5) (gives Anywhere (label 0 1 (pos 0) ∷ []) (run (negsuc 4) (pos 5) ∷ []))
    ∷ bored SHALLOWEST DEEPEST (every_in caliper (run SHALLOWEST DEEPEST ∷ []))
    ∷ hole (on contrary [] (Question.Holds (Has 0 1) (pos 94)) (Contradiction 0))
    ∷ hole (on contrary [] (Question.Holds (Linked 0 1 1) (pos (2 ^ 63 - 1))) (Contradiction 0))
    ∷ hole (on contrary [] (Question.Spans 0 1) (Contradiction 0))
    ∷ hole (on bad (label 2 1 (pos 100) ∷ []) (Question.Holds (Has 2 1) (pos 131)) (Contradiction 2))
    ∷ []

-- three wells of a pad. Item 2 has label 1 at 100; 3 leads to 2 at 50 and to 5 at 60, by links of two kinds. Item 7 has label 4 at 10. Item 8 leads to 9,
-- which has label 4 at 30
abbrev pub pad : List Mark
pad = label 2 1 (pos 100) ∷ link 3 0 2 (pos 50) ∷ link 3 1 5 (pos 60) ∷ label 7 4 (pos 10) ∷ link 8 0 9 (pos 20) ∷ label 9 4 (pos 30) ∷ []

-- without the link from 3 to 5
abbrev pub parted : List Mark
parted = strike (same_mark (link 3 1 5 (pos 60))) pad

-- items 0 to 3 in a chain that is followed along, against and along; item 3 has label 1
abbrev pub chain : List Mark
chain = link 0 0 1 (pos 5) ∷ link 2 1 1 (pos 6) ∷ link 2 0 3 (pos 7) ∷ label 3 1 (pos 8) ∷ []

-- a loop of 0, 1 and 2, of which 2 has label 1
abbrev pub loop : List Mark
loop = link 0 0 1 (pos 5) ∷ link 1 0 2 (pos 6) ∷ link 2 0 0 (pos 7) ∷ label 2 1 (pos 8) ∷ []

-- items 0 to 7 in a chain, each even item leads to the odd ones beside it, by links of seven kinds; item 7 has label 1
abbrev pub long : List Mark
long =
    link 0 0 1 (pos 0)
    ∷ link 2 1 1 (pos 1)
    ∷ link 2 2 3 (pos 2)
    ∷ link 4 3 3 (pos 3)
    ∷ link 4 4 5 (pos 4)
    ∷ link 6 5 5 (pos 5)
    ∷ link 6 6 7 (pos 6)
    ∷ label 7 1 (pos 20)
    ∷ []

-- the rule that gives NEVER to what leads anywhere by link 0
abbrev pub tied_up : List Rule
tied_up = Via 0 EVERY NEVER ∷ []

-- asked of the pad with label 1 bad
abbrev pub pad_at : Question → Reply → Case
pad_at = on bad pad

-- 02, Slip 7: each item for itself where all have NEVER; in the bad well each item, also 5, to which 3 leads as it does to 2, whatever is asked; the
-- other wells answered, EVERY, NEVER and derived labels too; a link question about both its ends, and about one item; the link taken; one step along
-- and against, several, seven, round a loop; by the last kind and item, by a stretch; the lowest item with NEVER, not the lowest joined, at either
-- end; two of them joined and a third not; NEVER of the item that the link leads from, and of one that leads to itself; links of a LINKRULE; in a
-- hole, inside and outside it
abbrev pub pads : List Case
pads =
    on contrary [] (Question.Holds (Has 5 1) (pos 0)) (Contradiction 5)
    ∷ on contrary [] (Question.Spans 5 1) (Contradiction 5)
    ∷ on contrary [] (Question.Holds (Linked 9 0 5) (pos 0)) (Contradiction 5)
    ∷ pad_at (Question.Holds (Has 2 4) (pos 0)) (Contradiction 2)
    ∷ pad_at (Question.Holds (Has 3 4) (pos 0)) (Contradiction 2)
    ∷ pad_at (Question.Holds (Has 5 4) (pos 0)) (Contradiction 2)
    ∷ pad_at (Question.Holds (Has 5 EVERY) (pos 0)) (Contradiction 2)
    ∷ pad_at (Question.Holds (Has 5 NEVER) (pos 0)) (Contradiction 2)
    ∷ pad_at (Question.Spans 5 4) (Contradiction 2)
    ∷ pad_at (Question.Holds (Linked 3 0 2) (pos 50)) (Contradiction 2)
    ∷ pad_at (Question.Holds (Linked 5 0 5) (pos 0)) (Contradiction 2)
    ∷ pad_at (Question.Holds (Has 7 4) (pos 10)) (Answered Yes)
    ∷ pad_at (Question.Holds (Has 7 4) (pos 11)) (Answered No)
    ∷ pad_at (Question.Holds (Has 7 EVERY) (pos 0)) (Answered Yes)
    ∷ pad_at (Question.Holds (Has 7 NEVER) (pos 100)) (Answered No)
    ∷ pad_at (Question.Spans 7 4) (Answered (Spans (run (pos 10) (pos 10) ∷ [])))
    ∷ pad_at (Question.Spans 7 NEVER) (Answered (Spans []))
    ∷ pad_at (Question.Holds (Has 0 4) (pos 10)) (Answered No)
    ∷ pad_at (Question.Spans 9 4) (Answered (Spans (run (pos 30) (pos 30) ∷ [])))
    ∷ pad_at (Question.Holds (Linked 8 0 9) (pos 20)) (Answered Yes)
    ∷ pad_at (Question.Holds (Linked 7 0 8) (pos 20)) (Answered No)
    ∷ pad_at (Question.Holds (Linked 7 0 5) (pos 50)) (Contradiction 2)
    ∷ pad_at (Question.Holds (Linked 5 0 7) (pos 50)) (Contradiction 2)
    ∷ on (Via 0 4 5 ∷ bad) (label 9 4 (pos 20) ∷ pad) (Question.Spans 8 5) (Answered (Spans (run (pos 20) (pos 20) ∷ [])))
    ∷ on (Link Anywhere 0 1 ∷ bad) pad (Question.Holds (Linked 8 1 9) (pos 0)) (Answered Yes)
    ∷ on (Link Anywhere 0 1 ∷ bad) pad (Question.Holds (Linked 3 1 2) (pos 0)) (Contradiction 2)
    ∷ on bad (link 7 0 7 (pos 10) ∷ pad) (Question.Holds (Linked 7 0 7) (pos 10)) (Answered Yes)
    ∷ on bad parted (Question.Holds (Has 5 4) (pos 0)) (Answered No)
    ∷ on bad parted (Question.Holds (Has 3 4) (pos 0)) (Contradiction 2)
    ∷ on bad (link 1 0 9 (pos 5) ∷ label 9 1 (pos 6) ∷ []) (Question.Holds (Has 1 4) (pos 0)) (Contradiction 9)
    ∷ on bad (link 9 0 1 (pos 5) ∷ label 9 1 (pos 6) ∷ []) (Question.Holds (Has 1 4) (pos 0)) (Contradiction 9)
    ∷ on bad (link 15 7 0 (pos 5) ∷ label 15 1 (pos 6) ∷ []) (Question.Holds (Has 0 4) (pos 0)) (Contradiction 15)
    ∷ on bad (record { atom = Linked 1 0 9; top = pos 10; bottom = pos 20 } ∷ label 9 1 (pos 200) ∷ []) (Question.Holds (Has 1 4) (pos 0)) (Contradiction 9)
    ∷ on bad chain (Question.Holds (Has 0 4) (pos 0)) (Contradiction 3)
    ∷ on bad chain (Question.Holds (Has 4 4) (pos 0)) (Answered No)
    ∷ on bad long (Question.Holds (Has 0 4) (pos 0)) (Contradiction 7)
    ∷ on bad loop (Question.Holds (Has 0 4) (pos 0)) (Contradiction 2)
    ∷ on bad (label 9 1 (pos 5) ∷ link 9 0 4 (pos 5) ∷ label 4 1 (pos 6) ∷ label 1 1 (pos 6) ∷ []) (Question.Holds (Has 9 4) (pos 0)) (Contradiction 4)
    ∷ on bad (label 4 1 (pos 5) ∷ link 4 0 9 (pos 5) ∷ label 6 1 (pos 6) ∷ []) (Question.Holds (Linked 6 0 9) (pos 0)) (Contradiction 4)
    ∷ on bad (label 4 1 (pos 5) ∷ link 4 0 9 (pos 5) ∷ label 6 1 (pos 6) ∷ []) (Question.Holds (Linked 9 0 6) (pos 0)) (Contradiction 4)
    ∷ on (Via 0 2 NEVER ∷ []) (link 0 0 1 (pos 10) ∷ label 1 2 (pos 10) ∷ []) (Question.Holds (Has 1 2) (pos 10)) (Contradiction 0)
    ∷ on (Via 0 2 NEVER ∷ []) (link 0 0 1 (pos 10) ∷ label 1 2 (pos 11) ∷ []) (Question.Holds (Has 1 2) (pos 11)) (Answered Yes)
    ∷ on tied_up (link 3 0 2 (pos 50) ∷ []) (Question.Holds (Has 2 4) (pos 0)) (Contradiction 3)
    ∷ on tied_up (link 3 0 2 (pos 50) ∷ []) (Question.Holds (Has 7 4) (pos 0)) (Answered No)
    ∷ on tied_up (link 7 0 7 (pos 50) ∷ []) (Question.Holds (Has 7 4) (pos 0)) (Contradiction 7)
    ∷ on tied_up (link 7 0 7 (pos 50) ∷ []) (Question.Holds (Has 6 4) (pos 0)) (Answered No)
    ∷ bored (pos 0) (pos 200) (pad_at (Question.Holds (Has 5 4) (pos 100)) (Contradiction 2))
    ∷ bored (pos 0) (pos 200) (pad_at (Question.Holds (Has 7 4) (pos 10)) (Answered Yes))
    ∷ bored (pos 0) (pos 200) (pad_at (Question.Spans 7 EVERY) (Answered (Spans (run (pos 0) (pos 200) ∷ []))))
    ∷ bored (pos 0) (pos 200) (pad_at (Question.Holds (Has 5 4) (pos 201)) (Contradiction 2))
    ∷ bored (pos 0) (pos 200) (pad_at (Question.Holds (Has 7 4) (pos 201)) (Answered No))
    ∷ []

-- 01, Cases at the edges: those marked P, in its order but for the rows of every item
abbrev pub edges : List Case
edges =
    gives (Within 3) four (run (negsuc 2) (pos 0) ∷ run (pos 4) (pos 4) ∷ [])
    ∷ gives (Within 1) four (run (negsuc 2) (negsuc 1) ∷ run (pos 0) (pos 0) ∷ run (pos 4) (pos 4) ∷ [])
    ∷ gives Between four (run (negsuc 2) (pos 4) ∷ [])
    ∷ gives Above four (run NO_TOP (pos 4) ∷ [])
    ∷ gives Below four (run (negsuc 2) NO_BOTTOM ∷ [])
    ∷ gives (Within 20) two (run (pos 104) (pos 123) ∷ [])
    ∷ gives (Within 19) two (run (pos 104) (pos 104) ∷ run (pos 123) (pos 123) ∷ [])
    ∷ on contrary [] (Question.Holds (Has 0 1) (pos 0)) (Contradiction 0)
    ∷ on contrary [] (Question.Spans 0 1) (Contradiction 0)
    ∷ led (pos 10) (Question.Holds (Has 0 3) (pos 10)) (Answered Yes)
    ∷ led (pos 10) (Question.Holds (Has 0 3) (pos 11)) (Answered No)
    ∷ led (pos 10) (Question.Spans 0 3) (Answered (Spans (run (pos 10) (pos 10) ∷ [])))
    ∷ led (pos 11) (Question.Holds (Has 0 3) (pos 11)) (Answered No)
    ∷ led (pos 11) (Question.Spans 0 3) (Answered (Spans []))
    ∷ []

-- what item 0 has of label 3 by two rules, the second from label 2, where label 1 is at 5
abbrev pub twice : Operator → Operator → List Run → Case
twice o p rs = on (Label o 1 2 ∷ Label p 2 3 ∷ []) (label 0 1 (pos 5) ∷ []) (Question.Spans 0 3) (Answered (Spans rs))

-- link 1 from item 0 to itself by LINKRULE from link 0, which is at 10 and 20, at this depth
abbrev pub ringed : Operator → ℕ → Reply → Case
ringed o i = on (Link o 0 1 ∷ []) (link 0 0 0 (pos 10) ∷ link 0 0 0 (pos 20) ∷ []) (Question.Holds (Linked 0 1 0) (pos i))

-- 01, Operators, Rules of derivation and Wrong readings: rules that stand against the order in which they are used; operators on sets without an end, also
-- with a gap in them; ABOVE, BELOW and BETWEEN on links of an item to itself; VIA along the second of two links; BOTH on two items
abbrev pub readings : List Case
readings =
    on (Label (Within 1) 3 4 ∷ Label (Within 1) 2 3 ∷ Label (Within 1) 1 2 ∷ []) (label 0 1 (pos 5) ∷ []) (Question.Holds (Has 0 4) (pos 5)) (Answered Yes)
    ∷ on (Label Between EVERY 1 ∷ []) [] (Question.Spans 0 1) (Answered (Spans (run NO_TOP NO_BOTTOM ∷ [])))
    ∷ twice Below Above (run NO_TOP NO_BOTTOM ∷ [])
    ∷ twice Above Below (run NO_TOP NO_BOTTOM ∷ [])
    ∷ twice Below Between (run (pos 5) NO_BOTTOM ∷ [])
    ∷ twice Above Between (run NO_TOP (pos 5) ∷ [])
    ∷ ringed Above 9 (Answered Yes)
    ∷ ringed Above 21 (Answered No)
    ∷ ringed Below 9 (Answered No)
    ∷ ringed Below 21 (Answered Yes)
    ∷ ringed Between 15 (Answered Yes)
    ∷ ringed Between 9 (Answered No)
    ∷ ringed Between 21 (Answered No)
    ∷ on (Via 0 2 3 ∷ []) (link 0 0 1 (pos 10) ∷ link 0 0 2 (pos 10) ∷ label 2 2 (pos 10) ∷ []) (Question.Holds (Has 0 3) (pos 10)) (Answered Yes)
    ∷ on (Label Above 1 3 ∷ Label Below 2 3 ∷ Label Between 3 4 ∷ []) (label 0 1 (pos 10) ∷ label 0 2 (pos 20) ∷ []) (Question.Spans 0 4)
    (Answered (Spans (run NO_TOP NO_BOTTOM ∷ [])))
    ∷ on (Both 1 2 3 ∷ []) (label 0 1 (pos 5) ∷ label 1 2 (pos 5) ∷ []) (Question.Holds (Has 0 3) (pos 5)) (Answered No)
    ∷ on (Both 1 2 3 ∷ []) (label 0 1 (pos 5) ∷ label 1 2 (pos 5) ∷ []) (Question.Holds (Has 1 3) (pos 5)) (Answered No)
    ∷ []

-- and these behind them; then 02's
abbrev pub cases : List Case
cases = edges ++ (nothing ITEMS ++ (readings ++ (stretches ++ (countings ++ (holes ++ pads)))))
