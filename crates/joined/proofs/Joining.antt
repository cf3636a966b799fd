-- Laws of places that are filled one by one, of classes that become one, and of the classes of a question's items. Assumes nothing.
use mathlib.Core.Path.{◌≡◌, refl, sym, ap, ◌∙◌}
use mathlib.Core.Bool.{Bool, true, false, ◌||◌, true≢false}
use mathlib.Core.List.{List, [], ◌∷◌, ◌++◌}
use Prim.Native.Nat.{ℕ, zero, suc, ◌<◌, ◌+◌}
use native.Mathlib.Omega.{arith}
use lib.Dec.{T, eqb}
use lib.ListN.{length, get_or, take}
use lib.Seq.{take-suc}
use Rattle.terms.specs.declared.Atom.{Atom}
use Rattle.terms.specs.declared.Atom.TheVariants.{Has, Linked}
use Rattle.terms.specs.declared.Mark.{Mark}
use Rattle.terms.specs.declared.Question.{Question}
use Rattle.terms.specs.Limits.{ITEMS}
use Rattle.terms.specs.Held.{is_markable}
use Rattle.terms.proofs.Names.{link_names}
use Rattle.terms.specs.Places.{empty_mark}
use Rattle.terms.specs.Lists.{some}
use Rattle.logic.specs.Joined.{about}
use Rattle.logic.specs.Classes.{joined_by, joined_b}
use Rattle.logic.proofs.ClassLaws.{joined_next}
use Rattle.joined.specs.Joining.{class_of, same_class, WithStatement, Classes, Either, Concerned}

or_false : (b : Bool) → (b || false) ≡ b
or_false true = refl
or_false false = refl

-- ---- classes of marks

-- a, a + 1 .., n in all
abbrev up : ℕ → ℕ → List ℕ
up a zero = []
up a (suc n) = a ∷ up (suc a) n

up_at : (a n i : ℕ) → i < n → get_or (up a n) i 0 ≡ a + i
up_at a zero i h = let z : ⊥ = omega arith in absurd z
up_at a (suc n) zero h = let z : a ≡ a + 0 = omega arith in z
up_at a (suc n) (suc i) h = up_at (suc a) n i (omega arith) ∙ (let z : suc a + i ≡ a + suc i = omega arith in z)

-- at first each item is alone
pub classes_none : (cl : List ℕ) → cl ≡ up 0 ITEMS → Classes [] cl
unfolding joined_b
classes_none cl e = record { size = ap length e; exact = λ a b l k. λ i. eqb (alone a l i) (alone b k i) }
  where
    alone : (a : ℕ) → a < ITEMS → class_of cl a ≡ a
    alone a l = ap (λ c. class_of c a) e ∙ (up_at 0 ITEMS a l ∙ (let z : 0 + a ≡ a = omega arith in z))

-- the items of a statement that may be marked are items
same_by : (ms : List Mark) (cl : List ℕ) (x : Atom) → T (is_markable x) → Classes ms cl → (a b : ℕ) → a < ITEMS → b < ITEMS →
    joined_by x (same_class cl) a b ≡ joined_by x (joined_b ms) a b
same_by ms cl (Has c A) t C a b l k = C.exact a b l k
same_by ms cl (Linked c r d) t C a b l k =
    let (i, m, j) = link_names c r d t in
    rw (C.exact c a i l, C.exact d a j l, C.exact c b i k, C.exact d b j k, C.exact a b l k)

pub classes_more : (ms : List Mark) (i : ℕ) (cl r : List ℕ) → i < length ms → T (is_markable (get_or ms i empty_mark).atom) → Classes (take i ms) cl →
    WithStatement cl (get_or ms i empty_mark).atom r → Classes (take (i + 1) ms) r
classes_more ms i cl r h t C W =
    let m = get_or ms i empty_mark in
    let e : take (i + 1) ms ≡ take i ms ++ (m ∷ []) = ap (λ n. take n ms) (let z : i + 1 ≡ suc i = omega arith in z) ∙ take-suc ms i empty_mark h in
    record {
      size = W.size;
      exact = λ a b l k.
          W.exact a b l k
          ∙ (same_by (take i ms) cl m.atom t C a b l k ∙ (sym (joined_next (take i ms) m a b) ∙ ap (λ ns. joined_b ns a b) (sym e)));
    }

-- ---- of a question

module _ (ms : List Mark) (cl : List ℕ) (C : Classes ms cl) where
  one_item : (a : ℕ) → a < ITEMS → (b : ℕ) → b < ITEMS → (same_class cl a b || same_class cl a b) ≡ (joined_b ms a b || false)
  one_item a l b k = go (same_class cl a b) (joined_b ms a b) (C.exact a b l k)
    where
      go : (s t : Bool) → s ≡ t → (s || s) ≡ (t || false)
      go true true e = refl
      go true false e = absurd (true≢false e)
      go false true e = absurd (true≢false (sym e))
      go false false e = refl

  -- a and c are the items that the question is about, as the code has them
  pub concerned_one : (q : Question) (a i : ℕ) (r : List Bool) → about q ≡ (a ∷ []) → i ≡ a → a < ITEMS → Either cl i i r → Concerned ms q r
  unfolding some
  concerned_one q a i r e f l E = record {
    size = E.size;
    each = λ b k.
        E.each b k
        ∙ (ap (λ x. same_class cl x b || same_class cl x b) f ∙ (one_item a l b k ∙ sym (ap (some (λ x. joined_b ms x b)) e)));
  }

  pub concerned_two : (q : Question) (a c i j : ℕ) (r : List Bool) → about q ≡ (a ∷ c ∷ []) → i ≡ a → j ≡ c → a < ITEMS → c < ITEMS → Either cl i j r →
      Concerned ms q r
  unfolding some
  concerned_two q a c i j r e f g l m E = record {
    size = E.size;
    each = λ b n.
        E.each b n
        ∙ ((λ t. same_class cl (f t) b || same_class cl (g t) b)
        ∙ ((λ t. C.exact a b l n t || C.exact c b m n t)
        ∙ (ap (λ t. joined_b ms a b || t) (sym (or_false (joined_b ms c b))) ∙ sym (ap (some (λ x. joined_b ms x b)) e))));
  }
