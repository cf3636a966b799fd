-- The places in use are moved, and those behind them stay: what a state holds then. Assumes nothing.
use Rattle.std.specs.Prelude.{◌≡◌, List, ◌++◌, length, take, drop, map, ℤ}
use Rattle.std.proofs.Common.{ap, ◌∙◌, arith, length-append}
use Rattle.std.proofs.lemmas.List.{length-map, length-take-le, length-drop}
use Rattle.std.proofs.Math.Seq.{take-append_seam}
use Rattle.terms.specs.declared.Mark.{Mark}
use Rattle.terms.specs.declared.Hole.{Hole}
use Rattle.terms.specs.Held.{with_marks, with_hole}
use Rattle.state.specs.declared.State.{State}
use Rattle.state.specs.State.{held_of, CountsIn}
use Rattle.state.specs.Holding.{Holds}
use Rattle.shift.specs.Shifted.{shift_mark, shift_hole, shifted}

abbrev pub with_places : State → List Mark → Hole → State
with_places s ms H = record {
  rules = s.rules;
  rule_count = s.rule_count;
  marks = ms;
  mark_count = s.mark_count;
  settings = record { counting = s.settings.counting; hole = H; profile = s.settings.profile };
}

pub holds_moved :
    (s : State) (d : ℤ) (part : List Mark) (H : Hole) → CountsIn s → part ≡ map (shift_mark d) (take s.mark_count s.marks) →
    H ≡ shift_hole d s.settings.hole → Holds (shifted d (held_of s)) (with_places s (part ++ drop s.mark_count s.marks) H)
holds_moved s d part H p f g =
    let m : length part ≡ s.mark_count =
    ap length f ∙ length-map (take s.mark_count s.marks) (shift_mark d) ∙ length-take-le s.mark_count s.marks (omega (arith, p.few_marks, p.mark_places)) in
    let e : take s.mark_count (part ++ drop s.mark_count s.marks) ≡ part = rw m at (take-append_seam part (drop s.mark_count s.marks)) in
    record {
      held =
          ap (λ (ks : List Mark). with_hole (with_marks (held_of s) ks) H) (e ∙ f)
          ∙ ap (λ (K : Hole). with_hole (with_marks (held_of s) (map (shift_mark d) (take s.mark_count s.marks))) K) g;
      counts = record {
        rule_places = p.rule_places;
        few_rules = p.few_rules;
        mark_places =
            omega (arith, length-append part (drop s.mark_count s.marks), m, length-drop s.mark_count s.marks, p.mark_places, p.few_marks);
        few_marks = p.few_marks;
      };
    }
