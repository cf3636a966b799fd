-- What `map` of an array gives, where the closure computes h. Assumes nothing.
use Rattle.std.proofs.Common.{◌≡◌, ℕ, zero, suc, ◌+◌, ◌<◌, ◌≤◌, List, [], ◌∷◌, length, get_or, map, sym, ◌∙◌, subst, arith}
use Rattle.std.proofs.lemmas.List.{same_lists, nil_from_length, length-map, get_or-map}
use Rattle.std.specs.Array.{MapsFrom, IsMapOf}
use denote.Param.Members.{Mut, Called}
use native.Mathlib.Decide.{ℕ_discrete}

module _ {F A B : Type 0} (g : Mut F (A × Unit {0}) B) (h : A → B) (f : F) (step : (x : A) (y : B) (q : F) → Called g f (x, tt) y q → (q ≡ f) × (y ≡ h x)) where
  placed : (xs : List A) (ys : List B) (i n k : ℕ) (d : A) (e : B) → MapsFrom g f xs ys i n → i ≤ k → k < i + n → get_or ys k e ≡ h (get_or xs k d)
  placed xs ys i zero k d e w l m = let z : ⊥ = omega arith in absurd z
  placed xs ys i (suc n) k d e (q, x, y, u, v, r, w) l m =
      go (ℕ_discrete k i) (step x y q r).1
      (λ p. placed xs ys (i + 1) n k d e (subst (λ s. MapsFrom g s xs ys (i + 1) n) (step x y q r).0 w) (omega arith) (omega arith))
    where
      go : Dec (k ≡ i) → y ≡ h x → ((k ≡ i → ⊥) → get_or ys k e ≡ h (get_or xs k d)) → get_or ys k e ≡ h (get_or xs k d)
      go (yes p) o t = rw (p, v.1 e, u.1 d) o
      go (no p) o t = t p

  pub mapped_at : (xs : List A) (ys : List B) (n k : ℕ) (d : A) (e : B) → IsMapOf g f xs ys n → k < n → get_or ys k e ≡ h (get_or xs k d)
  mapped_at xs ys n k d e w l = placed xs ys 0 n k d e w.each (omega arith) (omega arith)

  pub mapped : (xs : List A) (ys : List B) (n : ℕ) → length xs ≡ n → IsMapOf g f xs ys n → ys ≡ map h xs
  mapped [] ys n s w = nil_from_length ys (w.long ∙ sym s)
  mapped (x ∷ xs) ys n s w =
      same_lists ys (map h (x ∷ xs)) (w.long ∙ sym (length-map (x ∷ xs) h ∙ s))
      (λ k e l. let m : k < n = omega (arith, w.long) in mapped_at (x ∷ xs) ys n k x e w m ∙ sym (get_or-map h (x ∷ xs) k x e (omega arith)))
