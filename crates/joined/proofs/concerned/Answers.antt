-- By the question: the class of its item, or of a link's two ends.
use mathlib.Core.Path.{◌≡◌, ap, subst, ◌∙◌}
use Prim.Native.Nat.{ℕ, ◌<◌}
use lib.Dec.{T}
use lib.IntN.{ℤ}
use Rattle.terms.specs.declared.Atom.{Atom}
use Rattle.terms.specs.declared.Question.{Question}
use Rattle.terms.specs.Limits.{ITEMS, LABELS}
use Rattle.terms.specs.Held.{is_statement, is_question}
use Rattle.terms.proofs.Names.{label_names, names_of_label, names_of_link}
use Rattle.logic.specs.Joined.{about}
use Rattle.joined.proofs.Joining.{concerned_one, concerned_two}
use Rattle.joined.proofs.concerned.Goals as goal

-- the item of a question for spans
spans-item : (q : Question) (a A : ℕ) → q ≡ Question.Spans a A → T (is_question q) → (a < ITEMS) × (A < LABELS)
spans-item q a A e t = label_names a A (subst (λ (p : Question). T (is_question p)) e t)

-- a statement that is asked for names what there is
asked-statement : (q : Question) (x : Atom) (i : ℤ) → q ≡ Question.Holds x i → T (is_question q) → T (is_statement x)
asked-statement q x i e t = subst (λ (p : Question). T (is_question p)) e t

-- the statement that is asked for, as it was matched
matched : (q : Question) (x y : Atom) (i : ℤ) → q ≡ Question.Holds x i → x ≡ y → q ≡ Question.Holds y i
matched q x y i e f = e ∙ ap (λ z. Question.Holds z i) f

pub returns-in-Spans : goal.returns-in-Spans
returns-in-Spans c =
    let e = c.in-Spans.is in
    concerned_one _ _ c.classes_of-classes.ensures c.args.question _ _ _ (ap about e) c.from-place.ensures (spans-item _ _ _ e c.requires.1).0
    c.either.ensures

pub returns-in-Has : goal.returns-in-Has
returns-in-Has c =
    let e = c.in-Holds.is in
    let f = c.in-Has.is in
    concerned_one _ _ c.classes_of-classes.ensures c.args.question _ _ _ (ap about (matched _ _ _ _ e f)) c.from-place-in-Has.ensures
    (names_of_label _ _ _ f (asked-statement _ _ _ e c.requires.1)).0 c.either-in-Has.ensures

pub returns-in-Linked : goal.returns-in-Linked
returns-in-Linked c =
    let e = c.in-Holds.is in
    let f = c.in-Linked.is in
    let names = names_of_link _ _ _ _ f (asked-statement _ _ _ e c.requires.1) in
    concerned_two _ _ c.classes_of-classes.ensures c.args.question _ _ _ _ _ (ap about (matched _ _ _ _ e f)) c.from.ensures
    c.from-in-Linked.ensures names.0 names.2 c.either-in-Linked.ensures
