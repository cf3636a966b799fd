-- 01's book, here the reference machine: it is fed the bytes left and four lengths, and nothing else.
use Rattle.std.specs.Prelude.{◌≡◌, false, List, [], ◌∷◌, ◌++◌, ℕ, ◌+◌, ◌<◌, ℤ, length, Ok, Err}
use Rattle.terms.specs.declared.Answer.{Answer}
use Rattle.terms.specs.declared.Counting.{Counting}
use Rattle.terms.specs.declared.Hole.TheVariants.{Part}
use Rattle.terms.specs.declared.Mark.{Mark}
use Rattle.terms.specs.declared.Profile.TheVariants.{On}
use Rattle.terms.specs.declared.Question.{Question}
use Rattle.terms.specs.declared.Rule.{Rule}
use Rattle.terms.specs.Held.{Held, with_rules, with_marks, with_counting, with_hole, with_profile, empty_held}
use Rattle.terms.specs.Lists.{strike}
use Rattle.refusals.specs.Refusals.{Tested, tested}
use Rattle.shift.specs.Shifted.{shifted}
use Rattle.terms.specs.Same.{same_mark}
use Rattle.terms.specs.Spans.{flat}
use Rattle.frames.specs.Frames.{length_field, used_for}
use Rattle.decide.specs.Decides.{Yes, No, Spans, Reply, Contradiction, Answered, Decides}
use Rattle.commands.specs.Buffers.{is_short}
use Rattle.claims.specs.Table.{Counts, Confines, Restricts, Said, Empties, Adds, Puts, Takes, Sets, Shifts, Asks, said, table}

-- 01, The book: what it is fed from a record call
pub record Fed : Type 0 where
  pub bytes : List ℕ
  pub block : ℕ
  pub labels : ℕ
  pub links : ℕ
  pub spans : ℕ

-- what a call shows: the answer with its number, item or count, the bytes used, the pairs written
pub record Result : Type 0 where
  pub answer : Answer
  pub used : ℕ
  pub pairs : List ℤ

abbrev pub plain : Answer → ℕ → Result
plain a u = record { answer = a; used = u; pairs = [] }

abbrev pub shown : Reply → ℕ → Result
shown (Contradiction a) u = plain (Answer.Contradiction a) u
shown (Answered Yes) u = plain Answer.Yes u
shown (Answered No) u = plain Answer.No u
shown (Answered (Spans rs)) u = record { answer = Answer.Spans (length rs); used = u; pairs = flat rs }

-- 01, The book: what the table comes to, where held means in the book; 2 doesn't arise
abbrev pub judgement : Held → Fed → Tested
judgement h f = tested (table (is_short f.block f.labels f.links f.spans) false h f.bytes)

-- 01, The book: any other call is accepted; here one with a record
pub record Accepted (h : Held) (f : Fed) (x : Said) : Type 0 where
  pub passes : judgement h f ≡ Ok tt
  pub left : 0 < length f.bytes
  pub says : said f.bytes ≡ x

-- 01, Where a record is turned away: an accepted record uses length + 2 bytes
abbrev pub record_used : Fed → ℕ
record_used f = length_field f.bytes + 2

-- 01, The book: its result of a call, and what it holds then
pub data Book (h : Held) (f : Fed) : Result → Held → Type 0 where
  -- a call is refused with the lowest number that applies, by rank; refused calls change nothing
  refused : {n : ℕ} → judgement h f ≡ Err n → Book h f (plain (Answer.Refused n) (used_for n f.bytes)) h
  -- nor does end
  ended : judgement h f ≡ Ok tt → length f.bytes ≡ 0 → Book h f (plain Answer.End 0) h
  -- RESET empties both lists, goes back to the old counting, takes the hole away and switches the profile off
  emptied : Accepted h f Empties → Book h f (plain Answer.Done (record_used f)) empty_held
  -- kinds 2 to 5 add their rule at the end of its list, kinds 6, 7, 13 and 14 their mark
  added : {ρ : Rule} → Accepted h f (Adds ρ) → Book h f (plain Answer.Done (record_used f)) (with_rules h (h.rules ++ (ρ ∷ [])))
  put : {m : Mark} → Accepted h f (Puts m) → Book h f (plain Answer.Done (record_used f)) (with_marks h (h.marks ++ (m ∷ [])))
  -- kinds 8, 9, 15 and 16 strike the mark with the same fields; those behind it move up
  struck : {m : Mark} → Accepted h f (Takes m) → Book h f (plain Answer.Done (record_used f)) (with_marks h (strike (same_mark m) h.marks))
  -- 02, Slip 4: kind 17 sets the counting
  counted : {c : Counting} → Accepted h f (Sets (Counts c)) → Book h f (plain Answer.Done (record_used f)) (with_counting h c)
  -- 02, Slip 5: kind 18 sets the hole, in the place of another
  confined : {t b : ℤ} → Accepted h f (Sets (Confines t b)) → Book h f (plain Answer.Done (record_used f)) (with_hole h (Part t b))
  -- 02, Slip 9: kind 20 moves all marks, which stay in their order, and the hole
  moved : {c : ℤ} → Accepted h f (Shifts c) → Book h f (plain Answer.Done (record_used f)) (shifted c h)
  -- 02, Slip 10: kind 21 switches the profile on; where it is on already that changes nothing
  restricted : Accepted h f (Sets Restricts) → Book h f (plain Answer.Done (record_used f)) (with_profile h On)
  -- questions change nothing; what is held and the interpretations that satisfy it decide them
  answered : {q : Question} (r : Reply) → Accepted h f (Asks q) → Decides h q r → Book h f (shown r (record_used f)) h

-- 01, The book: what it can come to hold; both lists are empty at first
pub data Entered : Held → Type 0 where
  at_first : Entered empty_held
  after_call : {h k : Held} (f : Fed) (r : Result) → Entered h → Book h f r k → Entered k
