-- 02, Slip 9: the least model goes along with a move of the line. Assumes nothing.
use Rattle.std.specs.Prelude.{◌≡◌, refl, ◌⊎◌, ◌↔◌, List, ℤ, neg_ℤ}
use Rattle.std.proofs.Common.{sym, ap, ◌∙◌, subst, inl, inr}
use mathlib.Core.List.Memᴰ
use Rattle.terms.specs.declared.Atom.{Atom}
use Rattle.terms.specs.declared.Counting.{Counting}
use Rattle.terms.specs.declared.Hole.{Hole}
use Rattle.terms.specs.declared.Hole.TheVariants.{Whole, Part}
use Rattle.terms.specs.declared.Mark.{Mark}
use Rattle.terms.specs.declared.Operator.{Operator}
use Rattle.terms.specs.declared.Operator.TheVariants.{Within, Between, Above, Below, Anywhere}
use Rattle.terms.specs.declared.Rule.{Rule}
use Rattle.terms.specs.declared.Rule.TheVariants.{Label, Both, Link, Via}
use Rattle.terms.specs.Countings.{bound}
use Rattle.terms.specs.Holes.{InHole}
use Rattle.terms.specs.Held.{◌∈◌, Held, counting_in, hole_in, with_hole, turn}
use Rattle.terms.specs.HoleLaws.{part_ends, ends_part}
use Rattle.terms.specs.Counted.{turn_same}
use Rattle.logic.specs.Depths.{Gives, depths, Derived}
use Rattle.logic.proofs.Transfer.{Forward, there}
use Rattle.shift.specs.Shifted.{by, shift_hole, shifted}
use Rattle.moves.specs.Mirrored.{exchanged, mirror_hole, mirrored}
use Rattle.moves.proofs.Mapped.{map_back}
use Rattle.moves.proofs.Moves.{upper, lower, Sense, ahead, reversed, turned, Rigid, Motion, end_of, move_mark, move_hole, move_rules, moved, Moves}
use Rattle.moves.proofs.Motions.{order, between, near, inverse, shifting, mirroring}

-- ---- what holds before holds after

-- 02, Slip 5: what exists
pub exists_there : (s : Sense) {f : ℤ → ℤ} → Rigid s f → (H : Hole) (i : ℤ) → InHole H i → InHole (move_hole s f H) (f i)
exists_there s R Whole i e = tt
exists_there s {f} R (Part t b) i e =
    let u = part_ends t b i e in
    let v = between s R t b i u.0 u.1 in
    ends_part (end_of s f upper t b) (end_of s f lower t b) (f i) v.0 v.1

-- 01, Operators: what an operator gives; reversed, the two witnesses change places
gives_there : (s : Sense) {f : ℤ → ℤ} → Rigid s f → (c : Counting) (op : Operator) (j k i : ℤ) → Gives c op j k i →
    Gives c (turned s op) (end_of s f upper j k) (end_of s f lower j k) (f i)
gives_there ahead R c (Within n) j k i g = let w = between ahead R j k i g.0 g.1 in (w.0, w.1, near ahead R j k (bound c n) g.2)
gives_there ahead R c Between j k i g = between ahead R j k i g.0 g.1
gives_there ahead R c Above j k i g = (order ahead R lower k i).0 g
gives_there ahead R c Below j k i g = (order ahead R upper j i).0 g
gives_there ahead R c Anywhere j k i g = tt
gives_there reversed R c (Within n) j k i g = let w = between reversed R j k i g.0 g.1 in (w.0, w.1, near reversed R j k (bound c n) g.2)
gives_there reversed R c Between j k i g = between reversed R j k i g.0 g.1
gives_there reversed R c Above j k i g = (order reversed R upper k i).0 g
gives_there reversed R c Below j k i g = (order reversed R lower j i).0 g
gives_there reversed R c Anywhere j k i g = tt

-- the moved witnesses are the two, in either order
either_order : (s : Sense) (f : ℤ → ℤ) (P : ℤ → ℤ → Type 0) (j k : ℤ) → P (end_of s f upper j k) (end_of s f lower j k) → P (f j) (f k) ⊎ P (f k) (f j)
either_order ahead f P j k p = inl p
either_order reversed f P j k p = inr p

-- a rule goes along too
rules_there : (s : Sense) (ρs : List Rule) (ρ : Rule) → ρ ∈ ρs → turn (turned s) ρ ∈ move_rules s ρs
rules_there ahead ρs ρ m = Memᴰ.cast (turn_same ρ) m
rules_there reversed ρs ρ m = Memᴰ.map (turn exchanged) m

-- so the line goes along, and with it the least model
carried : (s : Sense) {f : ℤ → ℤ} → Rigid s f → (h : Held) {x : Atom} {i : ℤ} → Derived h x i → Derived (moved s f h) x (f i)
carried s {f} R h d = there h.rules (move_rules s h.rules) line (rules_there s h.rules) d
  where
    line : Forward (depths h) (depths (moved s f h)) f (turned s)
    line = record {
      exists = λ i e. exists_there s R (hole_in h) i e;
      gives = λ op j k i g.
          either_order s f (λ u w. Gives (counting_in h) (turned s op) u w (f i) × InHole (move_hole s f (hole_in h)) (f i)) j k
          (gives_there s R (counting_in h) op j k i g.0, exists_there s R (hole_in h) i g.1);
      marked = λ x i m.
          let k = m.0.mark in
          let w = between s R k.top k.bottom i m.0.at.0 m.0.at.1 in
          (record { mark = move_mark s f k; held = Memᴰ.map (move_mark s f) m.0.held; says = m.0.says; at = w }, exists_there s R (hole_in h) i m.1);
    }

-- ---- the move undone

exchanged_twice : (op : Operator) → exchanged (exchanged op) ≡ op
exchanged_twice (Within n) = refl
exchanged_twice Between = refl
exchanged_twice Above = refl
exchanged_twice Below = refl
exchanged_twice Anywhere = refl

-- ABOVE and BELOW exchanged twice are as they were
pub turn_twice : (ρ : Rule) → turn exchanged (turn exchanged ρ) ≡ ρ
turn_twice (Label op A B) = ap (λ o. Label o A B) (exchanged_twice op)
turn_twice (Both A B C) = refl
turn_twice (Link op r s) = ap (λ o. Link o r s) (exchanged_twice op)
turn_twice (Via r A B) = refl

rules_back : (s : Sense) (ρs : List Rule) → move_rules s (move_rules s ρs) ≡ ρs
rules_back ahead ρs = refl
rules_back reversed ρs = map_back (turn exchanged) (turn exchanged) turn_twice ρs

module _ {f g : ℤ → ℤ} where
  -- a mark moved and moved back
  pub mark_back : (s : Sense) → Motion s f g → (m : Mark) → move_mark s g (move_mark s f m) ≡ m
  mark_back ahead M m = λ i. record { atom = m.atom; top = M.undone m.top i; bottom = M.undone m.bottom i }
  mark_back reversed M m = λ i. record { atom = m.atom; top = M.undone m.top i; bottom = M.undone m.bottom i }

  hole_back : (s : Sense) → Motion s f g → (H : Hole) → move_hole s g (move_hole s f H) ≡ H
  hole_back s M Whole = refl
  hole_back ahead M (Part t b) = λ i. Part (M.undone t i) (M.undone b i)
  hole_back reversed M (Part t b) = λ i. Part (M.undone t i) (M.undone b i)

  held_back : (s : Sense) → Motion s f g → (h : Held) → moved s g (moved s f h) ≡ h
  held_back s M h =
      let a = rules_back s h.rules in
      let b = map_back (move_mark s f) (move_mark s g) (mark_back s M) h.marks in
      let c = hole_back s M (hole_in h) in
      λ i. record { rules = a i; marks = b i; settings = record { counting = h.settings.counting; hole = c i; profile = h.settings.profile } }

  -- what is moved is moved back by the inverse
  pub moves_back : (s : Sense) {h k : Held} → Moves s f g h k → Moves s g f k h
  moves_back s {h} W = record { motion = inverse W.motion; is = sym (ap (moved s g) W.is ∙ held_back s W.motion h) }

  -- what is derived is derived at the moved depth
  pub derived_there : (s : Sense) {h k : Held} → Moves s f g h k → {x : Atom} {i : ℤ} → Derived h x i → Derived k x (f i)
  derived_there s {h} W {x} {i} d = subst (λ k. Derived k x (f i)) (sym W.is) (carried s W.motion.there h d)

-- a statement is in the one least model exactly if it is in the other at the moved depth
pub moved_derived : (s : Sense) {f g : ℤ → ℤ} {h k : Held} → Moves s f g h k → (x : Atom) (i : ℤ) → Derived h x i ↔ Derived k x (f i)
moved_derived s {h = h} W x i = (λ d. derived_there s W d, λ d. subst (Derived h x) (W.motion.undone i) (derived_there s (moves_back s W) d))

-- ---- the two moves of what is held

-- the hole is there or not
hole_shifts : (c : ℤ) (H : Hole) → shift_hole c H ≡ move_hole ahead (by c) H
hole_shifts c Whole = refl
hole_shifts c (Part t b) = refl

hole_mirrors_lem : (H : Hole) → mirror_hole H ≡ move_hole reversed neg_ℤ H
hole_mirrors_lem Whole = refl
hole_mirrors_lem (Part t b) = refl

-- 02, Slip 9: a shift by c moves what is held ahead, by c
pub shift_moves : (c : ℤ) (h : Held) → Moves ahead (by c) (by (neg_ℤ c)) h (shifted c h)
shift_moves c h = record { motion = shifting c; is = ap (with_hole (moved ahead (by c) h)) (hole_shifts c (hole_in h)) }

-- 02, Slip 9: the reversed line has it reversed, with every depth d as -d
pub mirror_moves : (h : Held) → Moves reversed neg_ℤ neg_ℤ h (mirrored h)
mirror_moves h = record { motion = mirroring; is = ap (with_hole (moved reversed neg_ℤ h)) (hole_mirrors_lem (hole_in h)) }

-- 02, Slip 9: a statement is derived at d + c after a shift by c exactly if it was derived at d
pub shift_derived : (c : ℤ) (h : Held) (x : Atom) (i : ℤ) → Derived h x i ↔ Derived (shifted c h) x (by c i)
shift_derived c h = moved_derived ahead (shift_moves c h)

-- 02, Slip 9: and at -d on the reversed line exactly if it is derived at d
pub mirror_derived : (h : Held) (x : Atom) (i : ℤ) → Derived h x i ↔ Derived (mirrored h) x (neg_ℤ i)
mirror_derived h = moved_derived reversed (mirror_moves h)
