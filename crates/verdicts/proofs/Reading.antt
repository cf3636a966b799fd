-- What a search that stops at the first hit has found. Assumes nothing.
use mathlib.Core.Path.{◌≡◌, refl, sym, ap, subst, ◌∙◌}
use mathlib.Core.Bool.{Bool, true, false, cond}
use mathlib.Core.List.{List}
use Prim.Native.Nat.{ℕ, zero, suc, ◌+◌, ◌*◌, ◌<◌, ◌≤◌}
use native.Mathlib.Omega.{arith}
use lib.Dec.{eqb}
use lib.ListN.{length, get_or, take, drop, length-drop}
use lib.Seq.{length-take-le, get_or-take, get_or-drop}
use native.Mathlib.Numerals.{add-one}
use Rattle.terms.specs.Tests.{of_true, true_of}
use Rattle.terms.specs.Limits.{INTERVALS, NEVER}
use Rattle.words.specs.Bit.{bit_at}
use Rattle.spans.specs.Runs.{has_label}
use Rattle.std.specs.Prelude.{Option, Some}
use Rattle.std.specs.Bool.{MatchBool}
use Rattle.std.specs.List.{find, range_with_len, HoldsAt, AllWithin}
use Rattle.verdicts.specs.Reading.{any_below, lowest_of, never_in}
use Rattle.verdicts.specs.Below.{one_below}

-- ---- NEVER in the entries of an item

none_below : (n : ℕ) (f : ℕ → Bool) → ((q : ℕ) → q < n → f q ≡ false) → any_below n f ≡ false
none_below zero f h = refl
none_below (suc n) f h = rw (h n (omega arith)) (none_below n f (λ q l. h q (omega arith)))

-- whether an entry has NEVER
abbrev pub has : ℕ → Bool
has w = eqb (bit_at w NEVER) 1

-- one of the item's entries has it, or none has
module _ (labels : List ℕ) (item m : ℕ) (e : m ≡ INTERVALS) (long : item * INTERVALS + INTERVALS ≤ length labels) where
  abbrev entries : List ℕ
  entries = take m (drop (item * INTERVALS) labels)

  many : length entries ≡ INTERVALS
  many = length-take-le m (drop (item * INTERVALS) labels) (omega (arith, length-drop (item * INTERVALS) labels)) ∙ e

  entry : (p : ℕ) → p < INTERVALS → get_or entries p 0 ≡ get_or labels (item * INTERVALS + p) 0
  entry p l = get_or-take m (drop (item * INTERVALS) labels) p 0 (omega arith) ∙ get_or-drop (item * INTERVALS) labels p 0

  pub never_is : (r : Bool) → MatchBool r ((k : ℕ) × (k < length entries) × HoldsAt (λ w. has w ≡ true) entries k)
      (AllWithin (λ w. has w ≡ false) entries 0 (length entries)) → r ≡ never_in labels item
  never_is true w =
      let l : w.0 < INTERVALS = omega (arith, many, w.1) in
      let t : has_label labels item NEVER w.0 ≡ true = subst (λ x. has x ≡ true) (entry w.0 l) (w.2 0) in
      sym (true_of (never_in labels item) (one_below INTERVALS (has_label labels item NEVER) w.0 l (of_true t)))
  never_is false w =
      sym (none_below INTERVALS (has_label labels item NEVER)
      (λ q l. subst (λ x. has x ≡ false) (entry q l) (w q 0 (omega arith) (omega (arith, many, l)))))

-- ---- the lowest item

pub lowest_is : (f : ℕ → Bool) (n a : ℕ) → find f (range_with_len a n) ≡ lowest_of f n a
lowest_is f zero a = refl
lowest_is f (suc n) a = go (f a) (ap (λ k. find f (range_with_len k n)) (add-one a) ∙ lowest_is f n (suc a))
  where
    go : (t : Bool) → find f (range_with_len (a + 1) n) ≡ lowest_of f n (suc a) →
        ◌≡◌ {A = Option ℕ} (cond t (Some a) (find f (range_with_len (a + 1) n))) (elim t [ true ↦ Some a | false ↦ lowest_of f n (suc a) ])
    go true e = refl
    go false e = e
