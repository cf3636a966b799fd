-- 02, Slip 9: every answer goes along with a move of the line: the shift and the mirror of each reply. Assumes nothing.
use Rattle.std.specs.Prelude.{◌≡◌, refl, ◌↔◌, ℕ, ℤ, neg_ℤ}
use Rattle.std.proofs.Common.{sym, subst}
use Rattle.terms.specs.declared.Atom.TheVariants.{Has, Linked}
use Rattle.terms.specs.declared.Question.{Question}
use Rattle.terms.specs.Held.{◌∈◌, Held}
use Rattle.terms.proofs.Limited.{InRange}
use Rattle.logic.specs.Joined.{about, Concerns}
use Rattle.logic.proofs.Chains.{chain_map}
use Rattle.decide.specs.Decides.{Verdict, Yes, No, Spans, Reply, Contradiction, Answered}
use Rattle.decide.proofs.Derives.{Reads, Derives}
use Rattle.decide.proofs.Unique.{derives_one}
use Rattle.decide.specs.Answer.{answer}
use Rattle.decide.proofs.Decide.{answer_derives}
use Rattle.shift.specs.Shifted.{by, shifted}
use Rattle.moves.specs.Mirrored.{mirrored}
use Rattle.moves.specs.Answers.{shift_runs, mirror_runs, move_question, move_verdict, move_reply}
use Rattle.moves.proofs.Moves.{Sense, ahead, reversed, move_runs, Moves}
use Rattle.moves.proofs.Derived.{moves_back, derived_there, moved_derived, shift_moves, mirror_moves}
use Rattle.moves.proofs.Steady.{derived_steady}
use Rattle.moves.proofs.Runs.{longest_moved}

-- a moved question is about the same items
about_moved : (f : ℤ → ℤ) (q : Question) → about (move_question f q) ≡ about q
about_moved f (Question.Holds (Has a A) i) = refl
about_moved f (Question.Holds (Linked a r b) i) = refl
about_moved f (Question.Spans a A) = refl

-- and concerns the same items
concerns_there : (s : Sense) {f g : ℤ → ℤ} {h k : Held} → Moves s f g h k → (p q : Question) → about p ≡ about q → (b : ℕ) →
    Concerns h p b → Concerns k q b
concerns_there s {f} W p q e b c = record {
  item = c.item;
  asked = subst (λ xs. c.item ∈ xs) e c.asked;
  joined = chain_map (λ a b l. record { kind = l.kind; depth = f l.depth; link = derived_there s W l.link }) c.joined;
}

module _ (s : Sense) {f g : ℤ → ℤ} {h k : Held} (W : Moves s f g h k) where
  concerns_moved : (q : Question) (b : ℕ) → Concerns h q b ↔ Concerns k (move_question f q) b
  concerns_moved q b = (
    concerns_there s W q (move_question f q) (sym (about_moved f q)) b,
    concerns_there s (moves_back s W) (move_question f q) q (about_moved f q) b,
  )

  reads_moved : InRange k → (q : Question) (v : Verdict) → Reads h q v → Reads k (move_question f q) (move_verdict (move_runs s f) v)
  reads_moved R (Question.Holds x i) Yes d = (moved_derived s W x i).0 d
  reads_moved R (Question.Holds x i) No d = λ e. d ((moved_derived s W x i).1 e)
  reads_moved R (Question.Holds x i) (Spans rs) d = d
  reads_moved R (Question.Spans a A) Yes d = d
  reads_moved R (Question.Spans a A) No d = d
  reads_moved R (Question.Spans a A) (Spans rs) d = longest_moved s W.motion (moved_derived s W (Has a A)) (derived_steady k R (Has a A)) rs d

  derives_moved : InRange k → (q : Question) (r : Reply) → Derives h q r → Derives k (move_question f q) (move_reply (move_runs s f) r)
  derives_moved R q (Contradiction a) l = record {
    item = l.item;
    concerned = (concerns_moved q a).0 l.concerned;
    depth = f l.depth;
    never = derived_there s W l.never;
    lower = λ b i m c d. l.lower b (g i) m ((concerns_moved q b).1 c) (derived_there s (moves_back s W) d);
  }
  derives_moved R q (Answered v) d = (
    λ n.
        d.0 (record {
          item = n.item;
          depth = g n.depth;
          named = n.named;
          concerned = (concerns_moved q n.item).1 n.concerned;
          has = derived_there s (moves_back s W) n.has;
        }),
    reads_moved R q v d.1,
  )

  -- each reply is the reply moved, since a question has one
  pub moved_answers : InRange h → InRange k → (q : Question) → answer k (move_question f q) ≡ move_reply (move_runs s f) (answer h q)
  moved_answers R Q q =
      let p = move_question f q in
      derives_one k p (answer k p) (move_reply (move_runs s f) (answer h q)) (answer_derives k Q p) (derives_moved Q q (answer h q) (answer_derives h R q))

-- 02, Slip 9: after a shift by c the answer at depth d + c is the earlier answer at d, with spans moved by c and missing ends still missing
pub shift_answers : (c : ℤ) (h : Held) → InRange h → InRange (shifted c h) → (q : Question) →
    answer (shifted c h) (move_question (by c) q) ≡ move_reply (shift_runs c) (answer h q)
shift_answers c h = moved_answers ahead (shift_moves c h)

-- 02, Slip 9: reversing the line, with ABOVE and BELOW exchanged, mirrors every answer: each span's ends are exchanged and, unless missing, negated, and the
-- spans come in reverse order
pub mirror_answers : (h : Held) → InRange h → InRange (mirrored h) → (q : Question) →
    answer (mirrored h) (move_question neg_ℤ q) ≡ move_reply mirror_runs (answer h q)
mirror_answers h = moved_answers reversed (mirror_moves h)
