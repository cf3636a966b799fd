-- 02, Slip 10: whether the profile is on or off alters no answer to a question: the least model goes by the rules that are held. Assumes nothing.
use Rattle.std.specs.Prelude.{◌≡◌, ℕ}
use Rattle.terms.specs.declared.Profile.{Profile}
use Rattle.terms.specs.declared.Question.{Question}
use Rattle.terms.specs.Held.{Held, with_profile}
use Rattle.terms.proofs.Limited.{InRange}
use Rattle.logic.specs.Joined.{Concerns}
use Rattle.logic.proofs.Chains.{chain_map}
use Rattle.decide.specs.Decides.{Reply, Contradiction, Answered}
use Rattle.decide.proofs.Derives.{Derives}
use Rattle.decide.proofs.Unique.{derives_one}
use Rattle.decide.specs.Answer.{answer}
use Rattle.decide.proofs.Decide.{answer_derives}

-- what is derived is the same type for both, so that only the records around it change
concerns_switched : (h : Held) (o p : Profile) (q : Question) (b : ℕ) → Concerns (with_profile h o) q b → Concerns (with_profile h p) q b
concerns_switched h o p q b c = record {
  item = c.item;
  asked = c.asked;
  joined = chain_map (λ a b l. record { kind = l.kind; depth = l.depth; link = l.link }) c.joined;
}

derives_switched : (h : Held) (o p : Profile) (q : Question) (r : Reply) → Derives (with_profile h o) q r → Derives (with_profile h p) q r
derives_switched h o p q (Contradiction a) l = record {
  item = l.item;
  concerned = concerns_switched h o p q a l.concerned;
  depth = l.depth;
  never = l.never;
  lower = λ b i g c d. l.lower b i g (concerns_switched h p o q b c) d;
}
derives_switched h o p q (Answered v) d = (
  λ n.
      d.0 (record {
        item = n.item;
        depth = n.depth;
        named = n.named;
        concerned = concerns_switched h p o q n.item n.concerned;
        has = n.has;
      }),
  d.1,
)

pub profile_answers : (h : Held) (p : Profile) → InRange h → (q : Question) → answer (with_profile h p) q ≡ answer h q
profile_answers h p R q =
    let k = with_profile h p in
    derives_one k q (answer k q) (answer h q)
    (answer_derives k (record { rules = R.rules; marks = R.marks; hole = R.hole; inside = R.inside }) q)
    (derives_switched h h.settings.profile p q (answer h q) (answer_derives h R q))
