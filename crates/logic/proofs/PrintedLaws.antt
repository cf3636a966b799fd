-- 02, Slip 10: rules in the print profile derive nothing but EVERY above the shallowest and below the deepest marked depth. Assumes nothing.
use Rattle.std.specs.Prelude.{◌≡◌, ◌↔◌, Bool, true, false, not, ◌&&◌, List, [], T, ℤ, ◌≤ℤ◌}
use Rattle.std.proofs.Common.{subst}
use mathlib.Core.List.Memᴰ
use Rattle.terms.specs.declared.Operator.{Operator}
use Rattle.terms.specs.declared.Operator.TheVariants.{Within, Between, Above, Below, Anywhere}
use Rattle.terms.specs.declared.Counting.{Counting}
use Rattle.terms.specs.declared.Profile.{Profile}
use Rattle.terms.specs.declared.Profile.TheVariants.{On}
use Rattle.terms.specs.declared.Rule.{Rule}
use Rattle.terms.specs.declared.Atom.{Atom}
use Rattle.terms.specs.declared.Mark.{Mark}
use Rattle.terms.specs.Order.{ints}
use Rattle.terms.specs.Tests.{and_both}
use Rattle.terms.specs.Profiles.{is_printed, is_every, in_profile, admits}
use Rattle.terms.specs.Held.{◌∈◌, Held, profile_in, ends_of}
use Rattle.terms.proofs.Ends.{top_in, bottom_in}
use Rattle.terms.specs.Lists.{every}
use Rattle.terms.proofs.Limited.{Limited, every_in}
use Rattle.logic.specs.Model.{Infers, by_label, by_both, by_link, by_via, Places, by_mark, by_every, by_rule}
use Rattle.logic.specs.Depths.{Gives, Marked, depths, Derived}
use Rattle.logic.proofs.Sets.{IsLeast, IsGreatest}
use Rattle.logic.specs.Printed.{Profiled, says_every, WithinMarks}

module _ (ms : List Mark) where
  -- a depth between two that are within is within
  between_within : (j k i : ℤ) → WithinMarks ms j → WithinMarks ms k → j ≤ℤ i → i ≤ℤ k → WithinMarks ms i
  between_within j k i v w l g = record {
    top = v.top;
    bottom = w.bottom;
    top_marked = v.top_marked;
    bottom_marked = w.bottom_marked;
    above = omega (ints, v.above);
    below = omega (ints, w.below);
  }

  -- so an operator of the profile gives none beyond
  given_within : (c : Counting) (o : Operator) → T (is_printed o) → (j k i : ℤ) → Gives c o j k i → WithinMarks ms j → WithinMarks ms k → WithinMarks ms i
  given_within c (Within n) t j k i g v w = between_within j k i v w g.0 g.1
  given_within c Between t j k i g v w = between_within j k i v w g.0 g.1
  given_within c Above t j k i g v w = absurd t
  given_within c Below t j k i g v w = absurd t
  given_within c Anywhere t j k i g v w = absurd t

  -- where a mark is true
  marked_within : (x : Atom) (i : ℤ) → Marked ms x i → WithinMarks ms i
  marked_within x i w = record {
    top = w.mark.top;
    bottom = w.mark.bottom;
    top_marked = top_in ms w.mark w.held;
    bottom_marked = bottom_in ms w.mark w.held;
    above = w.at.0;
    below = w.at.1;
  }

-- the statement says EVERY, or the depth is within the marks
abbrev KeptWithin : Held → Atom → ℤ → Type 0
KeptWithin h x i = T (not (says_every x)) → WithinMarks h.marks i

-- of two labels that are not both EVERY one is another
one_of : (p q : Bool) {A : Type 0} → T (not (p && q)) → (T (not p) → A) → (T (not q) → A) → A
one_of false q t f g = f tt
one_of true false t f g = g tt
one_of true true t f g = absurd t

rule_within : (h : Held) {ρ : Rule} {x y z : Atom} → Infers ρ x y z → T (in_profile ρ) → (j k i : ℤ) → Places (depths h) ρ j k i → KeptWithin h x j →
    KeptWithin h y k → WithinMarks h.marks i
rule_within h (by_label {op = o} {A = A}) t j k i g v w =
    let p = and_both (is_printed o) (not (is_every A)) t in
    given_within h.marks h.settings.counting o p.0 j k i g.0 (v p.1) (w p.1)
rule_within h (by_both {A = A} {B = B}) t j k i g v w =
    one_of (is_every A) (is_every B) t (λ a. subst (WithinMarks h.marks) g.0 (v a)) (λ b. subst (WithinMarks h.marks) g.1 (w b))
rule_within h (by_link {op = o}) t j k i g v w = given_within h.marks h.settings.counting o t j k i g.0 (v tt) (w tt)
rule_within h by_via t j k i g v w = subst (WithinMarks h.marks) g.0 (v tt)

-- 02, Slip 10: where all held rules are in the profile, no label but EVERY and no link is derived above the shallowest or below the deepest marked depth
pub derived_within : (h : Held) → Profiled h → {x : Atom} {i : ℤ} → Derived h x i → T (not (says_every x)) → WithinMarks h.marks i
derived_within h p (by_mark {x = x} {i = i} m) t = marked_within h.marks x i m.0
derived_within h p (by_every l e) t = absurd t
derived_within h p (by_rule {ρ = ρ} {i = i} j k m n g d e) t =
    rule_within h n (every_in in_profile h.rules p ρ m) j k i g (λ u. derived_within h p d u) (λ u. derived_within h p e u)

-- 02, Slip 10: and none without marks
pub no_mark_within : (i : ℤ) → WithinMarks [] i → ⊥
no_mark_within i w = Memᴰ.not-nil w.top_marked

-- in 02's words: neither above the shallowest of the marked depths nor below the deepest
pub within_exactly :
    (ms : List Mark) (t b : ℤ) → IsLeast (λ d. d ∈ ends_of ms) t → IsGreatest (λ d. d ∈ ends_of ms) b → (i : ℤ) → WithinMarks ms i ↔ ((t ≤ℤ i) × (i ≤ℤ b))
within_exactly ms t b l g i = (
  λ w. (omega (ints, w.above, l.first w.top w.top_marked), omega (ints, w.below, g.last w.bottom w.bottom_marked)),
  λ w. record { top = t; bottom = b; top_marked = l.member; bottom_marked = g.member; above = w.0; below = w.1 },
)

-- 02, Slip 10: while the profile is on the held rules are in it, where what is held is within the limits
pub on_profiled : (h : Held) → Limited h → profile_in h ≡ On → Profiled h
on_profiled h w e = subst (λ (p : Profile). T (every (admits p) h.rules)) e w.admitted
