-- What a command leaves is what it comes to. Assumes nothing.
use Rattle.std.specs.Prelude.{Result, Ok, Err}
use mathlib.Core.Path.{◌≡◌, refl, sym, ap, subst, ◌∙◌}
use mathlib.Core.List.{List, ◌++◌}
use Prim.Native.Nat.{ℕ}
use lib.IntN.{ℤ}
use lib.ListN.{drop}
use Rattle.terms.specs.declared.Answer.{Answer}
use Rattle.terms.specs.declared.Question.{Question}
use Rattle.refusals.specs.Refusals.{Test, Tested, tested}
use Rattle.terms.specs.Otherwise.{on_tested}
use Rattle.terms.specs.Held.{Held}
use Rattle.terms.specs.declared.Refusal.{Refusal}
use Rattle.state.specs.declared.State.{State}
use Rattle.state.specs.State.{ChangeAs}
use Rattle.places.specs.Layout.{SIZE, encode}
use Rattle.records.specs.declared.Command.{Command}
use Rattle.records.specs.Parsed.{Parsed}
use Rattle.decide.specs.Answer.{answer}
use Rattle.commands.specs.declared.Reply as Code
use Rattle.commands.specs.Call.{Refused, Changed, Asked, held_tests, changed_by, judged, effect}
use Rattle.commands.specs.Buffers.{Buffers, lent, After, after, after_of}
use Rattle.questions.specs.Code.{Answered-as}
use Rattle.commands.specs.Code.{KeptAs, replied_is}

-- what is given back, part by part
pub parts :
    {a a' : Answer} {u u' : ℕ} {b b' t t' k k' : List ℕ} {s s' : List ℤ} → a' ≡ a → u' ≡ u → b' ≡ b → t' ≡ t → k' ≡ k → s' ≡ s →
    after a' u' (lent b' t' k' s') ≡ after a u (lent b t k s)
parts a u b t k s = λ i. after (a i) (u i) (lent (b i) (t i) (k i) (s i))

-- a change, by which command it is
pub as_changed :
    (h : Held) (b : List ℕ) {l : Result State Refusal} (c d : Command) → c ≡ d → ChangeAs (held_tests h d b) (changed_by h d b) l →
    ChangeAs (held_tests h c b) (changed_by h c b) l
as_changed h b {l} c d e f = subst (λ (y : Command). ChangeAs (held_tests h y b) (changed_by h y b) l) (sym e) f

module _ (b t k : List ℕ) (s : List ℤ) where
  abbrev m : Buffers
  m = lent b t k s

  -- a change, by what its tests came to
  pub changed :
      (h then : Held) (tests : List Test) (u : ℕ) (l : Result State Refusal) (b' : List ℕ) (r : Code.Reply) → ChangeAs tests then l → KeptAs l u b b' r →
      after_of r b' t k s ≡ effect h m (on_tested (Changed then u) (λ n. Refused n u) (tested tests))
  changed h then tests u (Ok x) b' r L K =
      parts K.said K.bytes (K.block ∙ ap (λ (x : Held). encode x ++ drop SIZE b) L.held) refl refl refl
      ∙ ap (λ (v : Tested). effect h m (on_tested (Changed then u) (λ n. Refused n u) v)) L.said
  changed h then tests u (Err e) b' r L K =
      parts K.said K.bytes K.block refl refl refl ∙ ap (λ (v : Tested). effect h m (on_tested (Changed then u) (λ n. Refused n u) v)) L.said

  -- a question
  pub questioned :
      (h : Held) (q : Question) (u : ℕ) (t' k' : List ℕ) (s' : List ℤ) (a : Answer) → Answered-as h q t k s t' k' s' a →
      after a u (lent b t' k' s') ≡ effect h m (Asked q u)
  questioned h q u t' k' s' a A =
      parts A.said refl refl A.tables.label_table_lem A.tables.link_table_lem A.buffer ∙ sym (replied_is h m u (answer h q))

  -- the work of a command, by which it is
  pub as_command :
      (h : Held) (body : List ℕ) (u : ℕ) {x : After} (c d : Command) → c ≡ d → x ≡ effect h m (judged h (Parsed.Record d body u)) →
      x ≡ effect h m (judged h (Parsed.Record c body u))
  as_command h body u c d e f = f ∙ ap (λ (y : Command). effect h m (judged h (Parsed.Record y body u))) (sym e)
