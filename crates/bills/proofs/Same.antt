-- The bill is the same where the replies are: with marks elsewhere altered (02, Slip 7), and with the profile on or off (02, Slip 10). Assumes nothing.
use Rattle.std.specs.Prelude.{◌≡◌, List, ℕ}
use Rattle.std.proofs.Common.{⊎_elim, inl, inr}
use Rattle.terms.specs.declared.Mark.{Mark}
use Rattle.terms.specs.declared.Profile.{Profile}
use Rattle.terms.specs.declared.Question.TheVariants as Question
use Rattle.terms.specs.Limits.{EVERY}
use Rattle.terms.specs.Held.{Held, with_marks, with_profile}
use Rattle.terms.proofs.Limited.{InRange}
use Rattle.logic.specs.Untouched.{Untouched}
use Rattle.decide.specs.Answer.{answer}
use Rattle.decide.proofs.Local.{locality}
use Rattle.decide.proofs.Switched.{profile_answers}
use Rattle.charges.specs.declared.PriceLine.{PriceLine}
use Rattle.charges.specs.Sums.{nothing, with_lines, charge_of}
use Rattle.bills.specs.Billed.{asked}
use Rattle.bills.specs.Bill.{spans_in, unless_clash, bill}
use Rattle.bills.proofs.Exact.{concerns_asked}

-- the bill goes by the replies for the item's spans alone
pub bill_same : (h k : Held) (a : ℕ) (ls : List PriceLine) → ((A : ℕ) → answer k (Question.Spans a A) ≡ answer h (Question.Spans a A)) →
    bill k a ls ≡ bill h a ls
unfolding bill
bill_same h k a ls e = λ i. unless_clash (e EVERY i) (charge_of (with_lines (λ l. spans_in (e l.label i)) nothing ls))

-- marks that leave alone what one label's question concerns do so for each label
untouched_asked : (h : Held) (ms : List Mark) (a A B : ℕ) → Untouched h ms (Question.Spans a A) → Untouched h ms (Question.Spans a B)
untouched_asked h ms a A B u = record {
  marks = λ m b o c. u.marks m b o (⊎_elim (λ w. inl (concerns_asked w)) (λ w. inr (concerns_asked w)) c);
}

-- 02, Slip 7: marks on items that are joined to the item neither before nor after alter no bill
pub bill_elsewhere : (h : Held) (ms : List Mark) → InRange h → InRange (with_marks h ms) → (a : ℕ) → Untouched h ms (asked a) → (ls : List PriceLine) →
    bill (with_marks h ms) a ls ≡ bill h a ls
bill_elsewhere h ms R S a u ls =
    bill_same h (with_marks h ms) a ls (λ A. locality h ms R S (Question.Spans a A) (untouched_asked h ms a EVERY A u))

-- 02, Slip 10: whether the profile is on or off alters no bill
pub bill_profile_same : (h : Held) (p : Profile) → InRange h → (a : ℕ) (ls : List PriceLine) → bill (with_profile h p) a ls ≡ bill h a ls
bill_profile_same h p R a ls = bill_same h (with_profile h p) a ls (λ A. profile_answers h p R (Question.Spans a A))
