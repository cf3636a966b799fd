-- 02, Slip 9: what is held keeps the limits where all moved depths are in range. Assumes nothing.
use Rattle.std.specs.Prelude.{◌≡◌, refl, not, ◌&&◌, List, map, ◌≤◌, T, ℤ, neg_ℤ, ◌≤ℤ◌, length}
use Rattle.std.proofs.Common.{sym, ap, ◌∙◌, subst, ⊎_elim, arith}
use mathlib.Core.List.Memᴰ
use Rattle.std.specs.Int.Signed.{le_z}
use Rattle.std.proofs.lemmas.List.{length-map}
use Rattle.terms.specs.declared.Hole.{Hole}
use Rattle.terms.specs.declared.Hole.TheVariants.{Whole, Part}
use Rattle.terms.specs.declared.Mark.{Mark}
use Rattle.terms.specs.declared.Operator.{Operator}
use Rattle.terms.specs.declared.Operator.TheVariants.{Within, Between, Above, Below, Anywhere}
use Rattle.terms.specs.declared.Profile.{Profile}
use Rattle.terms.specs.declared.Profile.TheVariants.{Off, On}
use Rattle.terms.specs.declared.Rule.{Rule}
use Rattle.terms.specs.declared.Rule.TheVariants.{Label, Both, Link, Via}
use Rattle.terms.specs.Order.{ints, ≤-refl}
use Rattle.terms.specs.Tests.{and_both, both_and}
use Rattle.terms.specs.Limits.{RULES, is_depth, is_left, is_concluded, is_kind}
use Rattle.terms.specs.Operators.{is_operator}
use Rattle.terms.specs.Profiles.{is_printed, is_every, in_profile, admits}
use Rattle.terms.specs.Holes.{is_inside, InHole, is_hole, lies_in}
use Rattle.terms.specs.Held.{◌∈◌, Held, ends_of, hole_in, profile_in, turn, is_rule, is_markable, is_placed, is_ordered, is_mark}
use Rattle.terms.specs.HoleLaws.{good_part}
use Rattle.terms.proofs.Ends.{mark_markable, mark_placed, mark_ordered, top_in, bottom_in, ends_only}
use Rattle.terms.specs.Same.{same_mark, same_rule}
use Rattle.terms.proofs.SameLaws.{same_mark_lem, mark_same, same_rule_lem, rule_same}
use Rattle.terms.specs.Lists.{every, once}
use Rattle.terms.proofs.Limited.{every_in, in_every, Limited}
use Rattle.decide.proofs.Count.{fewer_depths}
use Rattle.shift.specs.Shifted.{by, shifted, mark_stays, hole_stays, stays}
use Rattle.moves.specs.Mirrored.{exchanged, mirror_mark, hole_mirrors, mirrored, mirrors}
use Rattle.moves.proofs.Moves.{
  Side,
  upper,
  lower,
  pick,
  Sense,
  ahead,
  reversed,
  origin,
  Rigid,
  end_of,
  move_mark,
  move_hole,
  move_rules,
  moved,
  Moves,
  hole_fits,
  fits,
}
use Rattle.moves.proofs.Motions.{between}
use Rattle.moves.proofs.Mapped.{every_mapped, once_mapped, mapped_few}
use Rattle.moves.proofs.Derived.{exists_there, turn_twice, mark_back, shift_moves, mirror_moves}

-- ---- the rules

-- what a rule list keeps
record RulesLimited (p : Profile) (ρs : List Rule) : Type 0 where
  few : length ρs ≤ RULES
  range : T (every is_rule ρs)
  once : T (once same_rule ρs)
  admitted : T (every (admits p) ρs)

-- ABOVE and BELOW are alike in range, and alike outside 02's profile
exchanged_alike : (op : Operator) → (is_operator (exchanged op) ≡ is_operator op) × (is_printed (exchanged op) ≡ is_printed op)
exchanged_alike (Within n) = (refl, refl)
exchanged_alike Between = (refl, refl)
exchanged_alike Above = (refl, refl)
exchanged_alike Below = (refl, refl)
exchanged_alike Anywhere = (refl, refl)

turned_alike : (ρ : Rule) → (is_rule (turn exchanged ρ) ≡ is_rule ρ) × (in_profile (turn exchanged ρ) ≡ in_profile ρ)
turned_alike (Label op A B) =
    let w = exchanged_alike op in (ap (λ b. b && (is_left A && is_concluded B)) w.0, ap (λ b. b && not (is_every A)) w.1)
turned_alike (Both A B C) = (refl, refl)
turned_alike (Link op r s) = let w = exchanged_alike op in (ap (λ b. b && (is_kind r && is_kind s)) w.0, w.1)
turned_alike (Via r A B) = (refl, refl)

turned_admitted : (p : Profile) (ρ : Rule) → T (admits p ρ) → T (admits p (turn exchanged ρ))
turned_admitted Off ρ t = t
turned_admitted On ρ t = subst T (sym (turned_alike ρ).1) t

rules_limited : (s : Sense) (p : Profile) (ρs : List Rule) → RulesLimited p ρs → RulesLimited p (move_rules s ρs)
rules_limited ahead p ρs w = w
rules_limited reversed p ρs w = record {
  few = omega (arith, w.few, length-map ρs (turn exchanged));
  range = every_mapped is_rule (turn exchanged) ρs (λ ρ m. subst T (sym (turned_alike ρ).0) (every_in is_rule ρs w.range ρ m));
  once = once_mapped same_rule same_rule_lem rule_same (turn exchanged) (turn exchanged) turn_twice ρs w.once;
  admitted = every_mapped (admits p) (turn exchanged) ρs (λ ρ m. turned_admitted p ρ (every_in (admits p) ρs w.admitted ρ m));
}

-- ---- the marks and the hole

-- an end of a mark is an end of the list
pick_in : (ms : List Mark) (m : Mark) → m ∈ ms → (κ : Side) → pick κ m.top m.bottom ∈ ends_of ms
pick_in ms m n upper = top_in ms m n
pick_in ms m n lower = bottom_in ms m n

-- and exists where the mark lies in the hole
pick_inside : (H : Hole) (m : Mark) → T (lies_in H m) → (κ : Side) → InHole H (pick κ m.top m.bottom)
pick_inside H m t upper = (and_both (is_inside H m.top) (is_inside H m.bottom) t).0
pick_inside H m t lower = (and_both (is_inside H m.top) (is_inside H m.bottom) t).1

-- the moved ends are ends, moved
ends_moved : (s : Sense) (f : ℤ → ℤ) (ms : List Mark) (d : ℤ) → d ∈ ends_of (map (move_mark s f) ms) → d ∈ map f (ends_of ms)
ends_moved s f ms d n =
    let w = ends_only (map (move_mark s f) ms) d n in
    let (m, o, e) = Memᴰ.of_map (move_mark s f) ms w.held in
    ⊎_elim (λ k. Memᴰ.cast (k ∙ ap (λ (x : Mark). x.top) (sym e)) (Memᴰ.map f (pick_in ms m o (origin s upper))))
    (λ k. Memᴰ.cast (k ∙ ap (λ (x : Mark). x.bottom) (sym e)) (Memᴰ.map f (pick_in ms m o (origin s lower)))) w.end

module _ (s : Sense) {f : ℤ → ℤ} (R : Rigid s f) where
  -- a top that is not deeper than its bottom
  ordered_there : (t b : ℤ) → t ≤ℤ b → end_of s f upper t b ≤ℤ end_of s f lower t b
  ordered_there t b l = let w = between s R t b t (≤-refl t) l in omega (ints, w.0, w.1)

  mark_there : (m : Mark) → T (is_mark m) → T (is_placed (move_mark s f m)) → T (is_mark (move_mark s f m))
  mark_there m t p =
      let k = move_mark s f m in
      both_and (is_markable m.atom) (is_placed k && is_ordered k) (mark_markable m t)
      (both_and (is_placed k) (is_ordered k) p (ordered_there m.top m.bottom (mark_ordered m t)).le)

  hole_there : (H : Hole) → T (is_hole H) → T (hole_fits s f H) → T (is_hole (move_hole s f H))
  hole_there Whole g p = tt
  hole_there (Part t b) g p =
      let u = end_of s f upper t b in
      let w = end_of s f lower t b in
      both_and (is_depth u && is_depth w) (le_z u w) p (ordered_there t b (good_part t b g).order).le

  lies_there : (H : Hole) (m : Mark) → T (lies_in H m) → T (lies_in (move_hole s f H) (move_mark s f m))
  lies_there H m t =
      both_and (is_inside (move_hole s f H) (move_mark s f m).top) (is_inside (move_hole s f H) (move_mark s f m).bottom)
      (exists_there s R H (pick (origin s upper) m.top m.bottom) (pick_inside H m t (origin s upper)))
      (exists_there s R H (pick (origin s lower) m.top m.bottom) (pick_inside H m t (origin s lower)))

-- ---- all together

-- what is moved keeps the limits where all moved depths are in range
pub moved_limited : (s : Sense) {f g : ℤ → ℤ} {h k : Held} → Moves s f g h k → T (fits s f h) → Limited h → Limited k
moved_limited s {f} {g} {h} W t w = subst Limited (sym W.is) (record {
  few_rules = ρ.few;
  few_marks = omega (arith, w.few_marks, length-map ms (move_mark s f));
  few_depths =
      omega (arith, w.few_depths, fewer_depths (ends_of (map (move_mark s f) ms)) (map f (ends_of ms)) (ends_moved s f ms), mapped_few f (ends_of ms));
  rules = ρ.range;
  marks = every_mapped is_mark (move_mark s f) ms
      (λ m n. mark_there s R m (every_in is_mark ms w.marks m n) (every_in (λ m. is_placed (move_mark s f m)) ms p.0 m n));
  once_rules = ρ.once;
  once_marks = once_mapped same_mark same_mark_lem mark_same (move_mark s f) (move_mark s g) (mark_back s W.motion) ms w.once_marks;
  settings = hole_there s R (hole_in h) w.settings p.1;
  inside = every_mapped (lies_in (move_hole s f (hole_in h))) (move_mark s f) ms
      (λ m n. lies_there s R (hole_in h) m (every_in (lies_in (hole_in h)) ms w.inside m n));
  admitted = ρ.admitted;
})
  where
    ms : List Mark
    ms = h.marks

    R : Rigid s f
    R = W.motion.there

    p : T (every (λ m. is_placed (move_mark s f m)) h.marks) × T (hole_fits s f (hole_in h))
    p = and_both (every (λ m. is_placed (move_mark s f m)) h.marks) (hole_fits s f (hole_in h)) t

    ρ : RulesLimited (profile_in h) (move_rules s h.rules)
    ρ = rules_limited s (profile_in h) h.rules (record { few = w.few_rules; range = w.rules; once = w.once_rules; admitted = w.admitted })

-- and where it keeps them all moved depths are in range
pub moved_fits : (s : Sense) {f g : ℤ → ℤ} {h k : Held} → Moves s f g h k → Limited k → T (fits s f h)
moved_fits s {f} {h = h} W v =
    both_and (every (λ m. is_placed (move_mark s f m)) h.marks) (hole_fits s f (hole_in h))
    (in_every (λ m. is_placed (move_mark s f m)) h.marks (λ m n.
    mark_placed (move_mark s f m) (every_in is_mark (map (move_mark s f) h.marks) w.marks (move_mark s f m) (Memᴰ.map (move_mark s f) n))))
    (hole (hole_in h) w.settings)
  where
    w : Limited (moved s f h)
    w = subst Limited W.is v

    hole : (H : Hole) → T (is_hole (move_hole s f H)) → T (hole_fits s f H)
    hole Whole g = tt
    hole (Part t b) g =
        let u = end_of s f upper t b in
        let w = end_of s f lower t b in
        (and_both (is_depth u && is_depth w) (le_z u w) g).0

-- the hole is there or not
hole_stays_lem : (c : ℤ) (H : Hole) → hole_stays c H ≡ hole_fits ahead (by c) H
hole_stays_lem c Whole = refl
hole_stays_lem c (Part t b) = refl

hole_fits_lem : (H : Hole) → hole_mirrors H ≡ hole_fits reversed neg_ℤ H
hole_fits_lem Whole = refl
hole_fits_lem (Part t b) = refl

-- 02, Slip 9: what is held after the shift keeps the limits where no depth leaves its range
pub shift_limited : (c : ℤ) (h : Held) → T (stays c h) → Limited h → Limited (shifted c h)
shift_limited c h t = moved_limited ahead (shift_moves c h) (subst (λ b. T (every (mark_stays c) h.marks && b)) (hole_stays_lem c (hole_in h)) t)

-- 02, Slip 9: and on the reversed line where all mirrored depths are in range
pub mirror_limited : (h : Held) → T (mirrors h) → Limited h → Limited (mirrored h)
mirror_limited h t = moved_limited reversed (mirror_moves h) (subst (λ b. T (every (λ m. is_placed (mirror_mark m)) h.marks && b)) (hole_fits_lem (hole_in h)) t)

-- 02, Slip 9: so no depth leaves its range exactly if what is held after the shift keeps the limits
pub shift_fits : (c : ℤ) (h : Held) → Limited (shifted c h) → T (stays c h)
shift_fits c h w =
    subst (λ b. T (every (mark_stays c) h.marks && b)) (sym (hole_stays_lem c (hole_in h))) (moved_fits ahead (shift_moves c h) w)

pub mirror_fits : (h : Held) → Limited (mirrored h) → T (mirrors h)
mirror_fits h w =
    subst (λ b. T (every (λ m. is_placed (mirror_mark m)) h.marks && b)) (sym (hole_fits_lem (hole_in h))) (moved_fits reversed (mirror_moves h) w)
