-- A question has at most one reply, by the interpretations and by the least model. Assumes nothing.
use Rattle.std.specs.Prelude.{◌≡◌, refl, Bool, true, false, ℕ, ◌<◌, ℤ}
use Rattle.std.proofs.Common.{sym, ap, ◌∙◌, true≢false, arith}
use Rattle.std.proofs.Math.Decide.{dec_lt}
use Rattle.terms.specs.declared.Atom.{Atom}
use Rattle.terms.specs.declared.Atom.TheVariants.{Has}
use Rattle.terms.specs.declared.Question.{Question}
use Rattle.terms.specs.Held.{Held}
use Rattle.logic.specs.Depths.{Derived}
use Rattle.spans.proofs.Longest.{longest_one}
use Rattle.decide.specs.Decides.{
  Verdict,
  Yes,
  No,
  Spans,
  Reply,
  Contradiction,
  Answered,
  Never,
  Lowest,
  InAll,
  InOneNot,
  SaysBy,
  Says,
  Decides,
}
use Rattle.decide.proofs.Derives.{Reads, Derives}

pub clash : {b : Bool} → b ≡ true → b ≡ false → ⊥
clash e f = true≢false (sym e ∙ f)

pub lowest_one : (h : Held) (q : Question) (a b : ℕ) → Lowest h q a → Lowest h q b → a ≡ b
lowest_one h q a b s t = go (dec_lt a b) (dec_lt b a)
  where
    go : Dec (a < b) → Dec (b < a) → a ≡ b
    go (yes l) d = absurd (t.lower a s.depth l s.concerned s.never)
    go (no k) (yes l) = absurd (s.lower b t.depth l t.concerned t.never)
    go (no k) (no l) = omega arith

-- a question has one verdict, where nothing is so and not so
verdict_one :
    (So Not : Atom → ℤ → Type 0) → ((x : Atom) (i : ℤ) → So x i → Not x i → ⊥) → (q : Question) (v w : Verdict) → SaysBy So Not q v →
    SaysBy So Not q w → v ≡ w
verdict_one So Not apart (Question.Holds x i) Yes Yes d e = refl
verdict_one So Not apart (Question.Holds x i) Yes No d e = absurd (apart x i d e)
verdict_one So Not apart (Question.Holds x i) No Yes d e = absurd (apart x i e d)
verdict_one So Not apart (Question.Holds x i) No No d e = refl
verdict_one So Not apart (Question.Holds x i) Yes (Spans rs) d e = absurd e
verdict_one So Not apart (Question.Holds x i) No (Spans rs) d e = absurd e
verdict_one So Not apart (Question.Holds x i) (Spans rs) w d e = absurd d
verdict_one So Not apart (Question.Spans a A) Yes w d e = absurd d
verdict_one So Not apart (Question.Spans a A) No w d e = absurd d
verdict_one So Not apart (Question.Spans a A) (Spans rs) Yes d e = absurd e
verdict_one So Not apart (Question.Spans a A) (Spans rs) No d e = absurd e
verdict_one So Not apart (Question.Spans a A) (Spans rs) (Spans ss) d e = ap Spans (longest_one (So (Has a A)) rs ss d e)

-- ---- by the interpretations

says_one : (h : Held) (q : Question) (v w : Verdict) → Says h q v → Says h q w → v ≡ w
says_one h q = verdict_one (InAll h q) (InOneNot h q) (λ x i all one. clash (all one.0 one.1) one.2) q

pub at_most_one : (h : Held) (q : Question) (r s : Reply) → Decides h q r → Decides h q s → r ≡ s
at_most_one h q (Contradiction a) (Contradiction b) d e = ap Contradiction (lowest_one h q a b d.1 e.1)
at_most_one h q (Contradiction a) (Answered w) d e = absurd (d.0 e.0)
at_most_one h q (Answered v) (Contradiction b) d e = absurd (e.0 d.0)
at_most_one h q (Answered v) (Answered w) d e = ap Answered (says_one h q v w d.1 e.1)

-- ---- by the least model

reads_one : (h : Held) (q : Question) (v w : Verdict) → Reads h q v → Reads h q w → v ≡ w
reads_one h q = verdict_one (Derived h) (λ x i. Derived h x i → ⊥) (λ x i d n. n d) q

pub lowest_never : (h : Held) (q : Question) (a : ℕ) → Lowest h q a → Never h q
lowest_never h q a l = record { item = a; depth = l.depth; named = l.item; concerned = l.concerned; has = l.never }

pub derives_one : (h : Held) (q : Question) (r s : Reply) → Derives h q r → Derives h q s → r ≡ s
derives_one h q (Contradiction a) (Contradiction b) d e = ap Contradiction (lowest_one h q a b d e)
derives_one h q (Contradiction a) (Answered w) d e = absurd (e.0 (lowest_never h q a d))
derives_one h q (Answered v) (Contradiction b) d e = absurd (d.0 (lowest_never h q b e))
derives_one h q (Answered v) (Answered w) d e = ap Answered (reads_one h q v w d.1 e.1)
