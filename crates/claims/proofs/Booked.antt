-- The book: what a call tells stands in it, it has one result for each feeding and at most one. Assumes nothing.
use Rattle.std.specs.Prelude.{◌≡◌, Bool, List, [], ◌∷◌, ◌++◌, ℕ, ◌<◌, eqb, ℤ, length, Ok, Err}
use Rattle.std.proofs.Math.Path.{refl}
use Rattle.std.proofs.Common.{sym, ap, subst, true≢false, arith, eqb-true, eq-eqb, ne_eqb}
use Rattle.std.proofs.Math.Bool.{true, false, cond}
use Rattle.std.proofs.lemmas.Bool.{eqb-false}
use Rattle.terms.specs.declared.Answer.TheVariants as Answer
use Rattle.terms.specs.declared.Counting.{Counting}
use Rattle.terms.specs.declared.Hole.TheVariants.{Part}
use Rattle.terms.specs.declared.Mark.{Mark}
use Rattle.terms.specs.declared.Question.{Question}
use Rattle.terms.specs.declared.Rule.{Rule}
use Rattle.terms.specs.declared.Profile.TheVariants.{On}
use Rattle.terms.specs.Held.{Held, with_rules, with_marks, with_counting, with_hole, with_profile, empty_held}
use Rattle.terms.proofs.Limited.{InRange}
use Rattle.terms.specs.Lists.{strike}
use Rattle.refusals.specs.Refusals.{rank, tested, Tested, test, Test}
use Rattle.refusals.proofs.Joining.{clash}
use Rattle.terms.specs.Same.{same_mark}
use Rattle.shift.specs.Shifted.{shifted}
use Rattle.records.specs.declared.Command.{Command}
use Rattle.frames.specs.Frames.{kind_field, body_of, used_for}
use Rattle.records.specs.Records.{parse}
use Rattle.decide.specs.Decides.{Reply, Decides}
use Rattle.decide.proofs.Unique.{at_most_one}
use Rattle.decide.proofs.Decide.{answer_decides}
use Rattle.decide.specs.Answer.{answer}
use Rattle.commands.specs.Buffers.{is_short}
use Rattle.commands.specs.Call.{Outcome, Refused, Ended, Changed, Asked, obey, judged}
use Rattle.claims.specs.Table.{
  Counts,
  Confines,
  Restricts,
  Said,
  Empties,
  Adds,
  Puts,
  Takes,
  Sets,
  Shifts,
  Asks,
  said,
  broken_frame,
  unknown_kind,
  wrong_length,
  record_rows,
  input_rows,
  table,
}
use Rattle.claims.specs.Reference.{
  Fed,
  Result,
  plain,
  shown,
  judgement,
  Accepted,
  record_used,
  Book,
  refused,
  ended,
  emptied,
  added,
  put,
  struck,
  counted,
  confined,
  moved,
  restricted,
  answered,
}
use Rattle.claims.proofs.KindRows.{said_of, said_command}
use Rattle.claims.proofs.Refused.{command_of, outcome_by, judged_by_rows}
use Rattle.claims.proofs.Told.{outcome, Told}

-- ---- a record that passes is of a known kind

passed_kind : (a b : Bool) (ts : List Test) → tested (test a 3 ∷ test b 4 ∷ ts) ≡ Ok tt → b ≡ false
passed_kind true b ts e = clash (sym e)
passed_kind false true ts e = clash (sym e)
passed_kind false false ts e = refl

passed_input : (a : Bool) (ts : List Test) → tested (test a 1 ∷ test false 2 ∷ ts) ≡ Ok tt → tested ts ≡ Ok tt
passed_input true ts e = clash (sym e)
passed_input false ts e = e

module _ (h : Held) (f : Fed) where
  abbrev s : List ℕ
  s = f.bytes

  abbrev short_fed : Bool
  short_fed = is_short f.block f.labels f.links f.spans

  -- what the call comes to, by the book's rows
  outcome_by_lem : outcome h f ≡ outcome_by h s (judgement h f)
  unfolding rank
  outcome_by_lem = go short_fed
    where
      go : (a : Bool) → cond a (Refused 1 0) (judged h (parse h.settings s)) ≡ outcome_by h s (tested (table a false h s))
      go true = refl
      go false = judged_by_rows h s

  -- where it passes and something is left, the record says what its command does
  pub known : judgement h f ≡ Ok tt → eqb (length s) 0 ≡ false → said_of (command_of s) ≡ said s
  known e d = said_command (kind_field s) (body_of s) (go (eqb (length s) 0) d (passed_input short_fed (input_rows h s) e))
    where
      go : (v : Bool) → v ≡ false →
          tested (cond v [] (test (broken_frame s) 3 ∷ test (unknown_kind s) 4 ∷ test (wrong_length s) 5 ∷ record_rows h (kind_field s) (body_of s)))
          ≡ Ok tt → unknown_kind s ≡ false
      go true d e = absurd (true≢false d)
      go false d e = passed_kind (broken_frame s) (unknown_kind s) (test (wrong_length s) 5 ∷ record_rows h (kind_field s) (body_of s)) e

  -- ---- what a call tells stands in the book

  by_command :
      (c : Command) {r : Result} {k : Held} → judgement h f ≡ Ok tt → 0 < length s → said s ≡ said_of c →
      Told h (obey h c (body_of s) (record_used f)) r k → Book h f r k
  by_command Command.Reset e l d Told.changed = emptied (record { passes = e; left = l; says = d })
  by_command (Command.Add ρ) e l d Told.changed = added (record { passes = e; left = l; says = d })
  by_command (Command.Put m) e l d Told.changed = put (record { passes = e; left = l; says = d })
  by_command (Command.Take m) e l d Told.changed = struck (record { passes = e; left = l; says = d })
  by_command (Command.Count c) e l d Told.changed = counted (record { passes = e; left = l; says = d })
  by_command (Command.Confine t b) e l d Told.changed = confined (record { passes = e; left = l; says = d })
  by_command (Command.Shift c) e l d Told.changed = moved (record { passes = e; left = l; says = d })
  by_command Command.Restrict e l d Told.changed = restricted (record { passes = e; left = l; says = d })
  by_command (Command.Ask q) e l d (Told.asked r w) = answered r (record { passes = e; left = l; says = d }) w

  by_left :
      {r : Result} {k : Held} (v : Bool) → eqb (length s) 0 ≡ v → judgement h f ≡ Ok tt →
      Told h (cond v Ended (obey h (command_of s) (body_of s) (record_used f))) r k → Book h f r k
  by_left true d e Told.ended = ended e (eqb-true (length s) 0 d)
  by_left false d e w = by_command (command_of s) e (omega (arith, eqb-false (length s) 0 d)) (sym (known e d)) w

  by_judgement : {r : Result} {k : Held} (t : Tested) → judgement h f ≡ t → Told h (outcome_by h s t) r k → Book h f r k
  by_judgement (Ok passed) e w = by_left (eqb (length s) 0) refl e w
  by_judgement (Err n) e Told.refused = refused e

  pub to_book : {r : Result} {k : Held} → Told h (outcome h f) r k → Book h f r k
  to_book {r} {k} w = by_judgement (judgement h f) refl (subst (λ o. Told h o r k) outcome_by_lem w)

  -- ---- at most one result

  -- the book's entries by what the table comes to, whether nothing is left, and what the record says
  data Entry : Tested → Bool → Said → Result → Held → Type 0 where
    refused-entry : {n : ℕ} {v : Bool} {x : Said} → Entry (Err n) v x (plain (Answer.Refused n) (used_for n s)) h
    end-entry : {x : Said} → Entry (Ok tt) true x (plain Answer.End 0) h
    empty-entry : Entry (Ok tt) false Empties (plain Answer.Done (record_used f)) empty_held
    add-entry : {ρ : Rule} → Entry (Ok tt) false (Adds ρ) (plain Answer.Done (record_used f)) (with_rules h (h.rules ++ (ρ ∷ [])))
    put-entry : {m : Mark} → Entry (Ok tt) false (Puts m) (plain Answer.Done (record_used f)) (with_marks h (h.marks ++ (m ∷ [])))
    take-entry : {m : Mark} → Entry (Ok tt) false (Takes m) (plain Answer.Done (record_used f)) (with_marks h (strike (same_mark m) h.marks))
    count-entry : {c : Counting} → Entry (Ok tt) false (Sets (Counts c)) (plain Answer.Done (record_used f)) (with_counting h c)
    confine-entry : {t b : ℤ} → Entry (Ok tt) false (Sets (Confines t b)) (plain Answer.Done (record_used f)) (with_hole h (Part t b))
    shift-entry : {c : ℤ} → Entry (Ok tt) false (Shifts c) (plain Answer.Done (record_used f)) (shifted c h)
    restrict-entry : Entry (Ok tt) false (Sets Restricts) (plain Answer.Done (record_used f)) (with_profile h On)
    ask-entry : {q : Question} (r : Reply) → Decides h q r → Entry (Ok tt) false (Asks q) (shown r (record_used f)) h

  entry_one : {t : Tested} {v : Bool} {x : Said} {r r' : Result} {k k' : Held} → Entry t v x r k → Entry t v x r' k' → (r ≡ r') × (k ≡ k')
  entry_one refused-entry refused-entry = (refl, refl)
  entry_one end-entry end-entry = (refl, refl)
  entry_one empty-entry empty-entry = (refl, refl)
  entry_one add-entry add-entry = (refl, refl)
  entry_one put-entry put-entry = (refl, refl)
  entry_one take-entry take-entry = (refl, refl)
  entry_one count-entry count-entry = (refl, refl)
  entry_one confine-entry confine-entry = (refl, refl)
  entry_one shift-entry shift-entry = (refl, refl)
  entry_one restrict-entry restrict-entry = (refl, refl)
  entry_one (ask-entry {q = q} r d) (ask-entry r' e) = (ap (λ w. shown w (record_used f)) (at_most_one h q r r' d e), refl)

  abbrev Here : Result → Held → Type 0
  Here r k = Entry (judgement h f) (eqb (length s) 0) (said s) r k

  accepted_here : {x : Said} {r : Result} {k : Held} → Accepted h f x → Entry (Ok tt) false x r k → Here r k
  accepted_here {x} {r} {k} a w =
      subst (λ t. Entry t (eqb (length s) 0) (said s) r k) (sym a.passes)
      (subst (λ v. Entry (Ok tt) v (said s) r k) (sym (ne_eqb (length s) 0 (λ e. omega (arith, a.left))))
      (subst (λ (y : Said). Entry (Ok tt) false y r k) (sym a.says) w))

  entry : {r : Result} {k : Held} → Book h f r k → Here r k
  entry {r} {k} (refused e) = subst (λ t. Entry t (eqb (length s) 0) (said s) r k) (sym e) refused-entry
  entry {r} {k} (ended e d) =
      subst (λ t. Entry t (eqb (length s) 0) (said s) r k) (sym e)
      (subst (λ v. Entry (Ok tt) v (said s) r k) (sym (eq-eqb (length s) 0 d)) end-entry)
  entry (emptied a) = accepted_here a empty-entry
  entry (added a) = accepted_here a add-entry
  entry (put a) = accepted_here a put-entry
  entry (struck a) = accepted_here a take-entry
  entry (counted a) = accepted_here a count-entry
  entry (confined a) = accepted_here a confine-entry
  entry (moved a) = accepted_here a shift-entry
  entry (restricted a) = accepted_here a restrict-entry
  entry (answered r a d) = accepted_here a (ask-entry r d)

  -- the book has at most one result for each feeding, and holds one thing then
  pub book_one : {r r' : Result} {k k' : Held} → Book h f r k → Book h f r' k' → (r ≡ r') × (k ≡ k')
  book_one a b = entry_one (entry a) (entry b)

  -- and a result, where what it holds is in range
  pub told_some : InRange h → (o : Outcome) → (r : Result) × (k : Held) × Told h o r k
  told_some R (Refused n u) = (plain (Answer.Refused n) u, h, Told.refused)
  told_some R Ended = (plain Answer.End 0, h, Told.ended)
  told_some R (Changed k u) = (plain Answer.Done u, k, Told.changed)
  told_some R (Asked q u) = (shown (answer h q) u, h, Told.asked (answer h q) (answer_decides h R q))

  pub some_result : InRange h → (r : Result) × (k : Held) × Book h f r k
  some_result R = let (r, k, w) = told_some R (outcome h f) in (r, k, to_book w)
