-- What the slots say of the keys, and how one place more is put into them. Assumes nothing.
use mathlib.Core.Path.{◌≡◌, refl, ◌∙◌}
use mathlib.Core.Bool.{Bool, true, false}
use mathlib.Core.List.{List}
use Prim.Native.Nat.{ℕ, zero, suc, ◌+◌, ◌-◌, ◌≤◌, ◌<◌}
use native.Mathlib.Omega.{arith}
use borrow.Author.Tests.{eq-eqb, ne_eqb, eqb-true, eqb-false}
use lib.Dec.{eqb}
use lib.ListN.{length, get_or, drop, set, replicate, length-drop, length-set, length-replicate}
use lib.Seq.{get_or-drop, get_or-set_same, get_or-set_other}
use Rattle.terms.specs.Lists.{some}
use Rattle.keys.specs.Slots.{SLOTS, slot_of, FreeSlots, Said, Slots}
use Rattle.keys.proofs.Scan.{some_at, some_none}

pub slot_in : (k : ℕ) → slot_of k < SLOTS
unfolding slot_of
slot_in k = omega arith

zeros : (n i : ℕ) → get_or {A = ℕ} (replicate n 0) i 0 ≡ 0
zeros zero i = refl
zeros (suc n) zero = refl
zeros (suc n) (suc i) = zeros n i

pub all_free : (n : ℕ) → n ≡ SLOTS → FreeSlots (replicate n 0)
all_free n e = record { size = length-replicate n 0 ∙ e; free = zeros n }

-- one slot was set: what another key's slot holds
module _ (P : ℕ → Type 0) (slots : List ℕ) (i v s : ℕ) (inside : i < length slots) (new : s ≡ i → P v) (old : (s ≡ i → ⊥) → P (get_or slots s 0)) where
  pub slot_after : P (get_or (set slots i v) s 0)
  slot_after = go (eqb s i) refl
    where
      go : (t : Bool) → eqb s i ≡ t → P (get_or (set slots i v) s 0)
      go true e = let q = eqb-true s i e in rw (q, get_or-set_same slots i v 0 inside) (new q)
      go false e = rw (get_or-set_other slots i s v 0 (eqb-false s i e)) (old (eqb-false s i e))

module _ (keys : List ℕ) where
  pub slots_free : (slots : List ℕ) → FreeSlots slots → Slots keys (length keys) slots
  slots_free slots w =
      record {
        size = w.size;
        taken = λ _ j h k. let z : ⊥ = omega arith in absurd z;
        places = λ s h. let z : ⊥ = omega (arith, w.free s) in absurd z;
      }

  module _ (slots : List ℕ) where
    pub slot_small : (from s : ℕ) → Slots keys from slots → get_or slots s 0 ≤ length keys
    slot_small from s w = go (get_or slots s 0) (w.places s)
      where
        go : (v : ℕ) → (0 < v → (from ≤ v) × (v < length keys)) → v ≤ length keys
        go zero h = omega arith
        go (suc v) h = omega (arith, h (omega arith))

    pub slot_says : (from key : ℕ) → 0 < from → Slots keys from slots → Said keys from key (get_or slots (slot_of key) 0)
    slot_says from key b w =
        record {
          nowhere = λ z. some_none (eqb key) 0 (drop from keys) (λ j h. ne_eqb key (get_or (drop from keys) j 0) (other z j h));
          somewhere = w.places (slot_of key);
        }
      where
        other : get_or slots (slot_of key) 0 ≡ 0 → (j : ℕ) → j < length (drop from keys) → key ≡ get_or (drop from keys) j 0 → ⊥
        other z j h e =
            let n = length-drop from keys in
            let t = w.taken b (from + j) (omega arith) (omega arith) in
            let u : 0 < get_or slots (slot_of key) 0 = rw (e ∙ get_or-drop from keys j 0) t in
            omega arith

    -- the place in hand is put into its key's slot
    module _ (at : ℕ) (h : at < length keys) (w : Slots keys (at + 1) slots) where
      abbrev here : ℕ
      here = slot_of (get_or keys at 0)

      inside : here < length slots
      inside = omega (arith, slot_in (get_or keys at 0))

      taken_before : (j : ℕ) → at ≤ j → j < length keys → (slot_of (get_or keys j 0) ≡ here → ⊥) → 0 < get_or slots (slot_of (get_or keys j 0)) 0
      taken_before j p q n = go (eqb j at) refl
        where
          go : (t : Bool) → eqb j at ≡ t → 0 < get_or slots (slot_of (get_or keys j 0)) 0
          go true e = absurd (n (rw (eqb-true j at e)))
          go false e = w.taken (omega arith) j (omega (arith, eqb-false j at e)) q

      pub slots_more : Slots keys at (set slots here at)
      slots_more =
          record {
            size = simp length-set w.size;
            taken = λ b j p q. slot_after (λ v. 0 < v) slots here at (slot_of (get_or keys j 0)) inside (λ _. b) (taken_before j p q);
            places = λ s.
                slot_after (λ v. 0 < v → (at ≤ v) × (v < length keys)) slots here at s inside (λ _ _. (omega arith, omega arith))
                (λ _ p. let k = w.places s p in (omega arith, k.1));
          }

-- a key that stands where its slot says
pub said_found : (keys : List ℕ) (from key said : ℕ) → Said keys from key said → 0 < said → key ≡ get_or keys said 0 → some (eqb key) (drop from keys) ≡ true
said_found keys from key said w h e =
    let p = w.somewhere h in
    let n = length-drop from keys in
    let k : from + (said - from) ≡ said = omega arith in
    some_at (eqb key) 0 (drop from keys) (said - from) (omega arith)
    (eq-eqb key (get_or (drop from keys) (said - from) 0) (rw (get_or-drop from keys (said - from) 0, k) e))
