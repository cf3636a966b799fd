-- 02, Slip 7: a PUT or a TAKE of a mark whose items a question concerns neither before nor after leaves those alone. Assumes nothing.
use Rattle.std.specs.Prelude.{◌≡◌, refl, ◌⊎◌, Bool, true, false, cond, List, [], ◌∷◌, ◌++◌, ℕ, T}
use Rattle.std.proofs.Common.{sym, subst, inl, inr, ⊎_elim}
use mathlib.Core.List.Memᴰ
use Rattle.terms.specs.declared.Mark.{Mark}
use Rattle.terms.specs.declared.Question.{Question}
use Rattle.terms.specs.Held.{◌∈◌, Held, with_marks}
use Rattle.terms.specs.Lists.{strike}
use Rattle.terms.specs.Same.{same_mark}
use Rattle.terms.proofs.SameLaws.{same_mark_lem}
use Rattle.terms.proofs.Limited.{strike_in}
use Rattle.logic.specs.Joined.{Concerns}
use Rattle.logic.specs.Untouched.{items_in, Untouched}

-- the mark is on no item concerned before the change to these marks, nor after it
abbrev pub Unconcerned : Held → List Mark → Question → Mark → Type 0
Unconcerned h ms q m = (b : ℕ) → items_in m.atom b → Concerns h q b ⊎ Concerns (with_marks h ms) q b → ⊥

-- one that is put at the end
pub put_untouched : (h : Held) (q : Question) (m : Mark) → Unconcerned h (h.marks ++ (m ∷ [])) q m → Untouched h (h.marks ++ (m ∷ [])) q
put_untouched h q m away = record {
  marks = λ k b i c. (
    λ n. Memᴰ.append_left (m ∷ []) n,
    λ n. ⊎_elim (λ o. o) (λ o. absurd (away b (subst (λ (x : Mark). items_in x.atom b) (Memᴰ.eq_of_singleton o) i) c))
        (Memᴰ.append_cases h.marks n),
  );
}

-- what is not struck stays
in_strike : {X : Type 0} (f : X → Bool) (xs : List X) (x : X) → x ∈ xs → (T (f x) → ⊥) → x ∈ strike f xs
unfolding strike
in_strike f [] x m n = absurd (Memᴰ.not-nil m)
in_strike {X} f (y ∷ ys) x m n = go (f y) refl (Memᴰ.cases_cons m) (λ o. in_strike f ys x o n)
  where
    go : (b : Bool) → f y ≡ b → (x ≡ y) ⊎ (x ∈ ys) → (x ∈ ys → x ∈ strike f ys) → x ∈ cond b ys (y ∷ strike f ys)
    go true e (inl d) k = absurd (n (subst (λ z. T (f z)) (sym d) (subst T (sym e) tt)))
    go true e (inr o) k = o
    go false e (inl d) k = Memᴰ.head d
    go false e (inr o) k = Memᴰ.tail (k o)

-- and one that is taken
pub take_untouched :
    (h : Held) (q : Question) (m : Mark) → Unconcerned h (strike (same_mark m) h.marks) q m → Untouched h (strike (same_mark m) h.marks) q
take_untouched h q m away = record {
  marks = λ k b i c. (
    λ n. in_strike (same_mark m) h.marks k n (λ t. away b (subst (λ (x : Mark). items_in x.atom b) (sym (same_mark_lem m k t)) i) c),
    λ n. strike_in (same_mark m) h.marks n,
  );
}
