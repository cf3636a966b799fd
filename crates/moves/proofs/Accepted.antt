-- 02, Slip 9: the theorems of the shift and of the mirror in 02's words, and small laws of both. Assumes nothing.
use Rattle.std.specs.Prelude.{◌≡◌, refl, ◌↔◌, [], map, ℕ, T, ℤ, neg_ℤ, length, get_or}
use Rattle.std.proofs.Common.{sym, ap, ◌∙◌}
use Rattle.std.proofs.lemmas.List.{length-map}
use Rattle.std.proofs.Math.ListN.{get_or-map}
use Rattle.terms.specs.declared.Hole.TheVariants.{Whole}
use Rattle.terms.specs.declared.Mark.{Mark}
use Rattle.terms.specs.declared.Question.{Question}
use Rattle.terms.specs.declared.Rule.{Rule}
use Rattle.terms.specs.Held.{Held, counting_in, hole_in, profile_in, turn}
use Rattle.terms.specs.Lists.{limits}
use Rattle.terms.proofs.Limited.{limited, of_limited, in_range}
use Rattle.decide.specs.Answer.{answer}
use Rattle.shift.specs.Shifted.{by, shift_mark, shift_hole, shifted, stays}
use Rattle.moves.specs.Mirrored.{exchanged, mirror_mark, mirrored, mirrors}
use Rattle.moves.specs.Answers.{shift_runs, mirror_runs, move_question, move_reply}
use Rattle.moves.proofs.Moves.{ahead, reversed}
use Rattle.moves.proofs.Derived.{moves_back, shift_moves, mirror_moves}
use Rattle.moves.proofs.Moved.{shift_answers, mirror_answers}
use Rattle.moves.proofs.Limits.{shift_limited, mirror_limited, shift_fits, mirror_fits}

-- 02, Slip 9: where no depth leaves its range, what is held after a shift by c keeps the limits, and the answer at depth d + c is the earlier answer at d, for
-- every d, with spans moved by c and missing ends still missing
pub shift_accepted : (c : ℤ) (h : Held) → T (limits h) → T (stays c h) →
    T (limits (shifted c h)) × ((q : Question) → answer (shifted c h) (move_question (by c) q) ≡ move_reply (shift_runs c) (answer h q))
shift_accepted c h l t =
    let w = limited h l in
    let v = shift_limited c h t w in
    (of_limited (shifted c h) v, shift_answers c h (in_range h w) (in_range (shifted c h) v))

-- 02, Slip 9: where all mirrored depths are in range, the reversed line keeps the limits, and the answer at -d is the answer at d, for every d: each span's
-- ends are exchanged and, unless missing, negated, and the spans come in reverse order
pub mirror_accepted : (h : Held) → T (limits h) → T (mirrors h) →
    T (limits (mirrored h)) × ((q : Question) → answer (mirrored h) (move_question neg_ℤ q) ≡ move_reply mirror_runs (answer h q))
mirror_accepted h l t =
    let w = limited h l in
    let v = mirror_limited h t w in
    (of_limited (mirrored h) v, mirror_answers h (in_range h w) (in_range (mirrored h) v))

-- 02, Slip 9: of what keeps the limits, no depth leaves its range exactly if it keeps them after the shift
pub shift_exactly : (c : ℤ) (h : Held) → T (limits h) → T (stays c h) ↔ T (limits (shifted c h))
shift_exactly c h l = (λ t. (shift_accepted c h l t).0, λ k. shift_fits c h (limited (shifted c h) k))

-- and all mirrored depths are in range exactly if it keeps them on the reversed line
pub mirror_exactly : (h : Held) → T (limits h) → T (mirrors h) ↔ T (limits (mirrored h))
mirror_exactly h l = (λ t. (mirror_accepted h l t).0, λ k. mirror_fits h (limited (mirrored h) k))

-- a shift by -c undoes one by c
pub shift_back : (c : ℤ) (h : Held) → shifted (neg_ℤ c) (shifted c h) ≡ h
shift_back c h = (shift_moves (neg_ℤ c) (shifted c h)).is ∙ sym (moves_back ahead (shift_moves c h)).is

-- without marks and hole there is nothing to move
pub shift_none : (c : ℤ) (h : Held) → h.marks ≡ [] → hole_in h ≡ Whole → shifted c h ≡ h
shift_none c h e d =
    let a = ap (map (shift_mark c)) e ∙ sym e in
    let b = ap (shift_hole c) d ∙ sym d in
    λ i. record { rules = h.rules; marks = a i; settings = record { counting = h.settings.counting; hole = b i; profile = h.settings.profile } }

-- 02, Slip 9: all marks move, each in its place, and no more are there; rules, counting and profile stay
pub shift_places :
    (c : ℤ) (h : Held) →
    ((i : ℕ) (m : Mark) → get_or (shifted c h).marks i (shift_mark c m) ≡ shift_mark c (get_or h.marks i m))
    × (length (shifted c h).marks ≡ length h.marks)
    × ((shifted c h).rules ≡ h.rules)
    × (counting_in (shifted c h) ≡ counting_in h)
    × (profile_in (shifted c h) ≡ profile_in h)
shift_places c h = (λ i m. get_or-map (shift_mark c) h.marks i m, length-map h.marks (shift_mark c), refl, refl, refl)

-- and so on the reversed line, where each rule has its operator exchanged
pub mirror_places :
    (h : Held) →
    ((i : ℕ) (m : Mark) → get_or (mirrored h).marks i (mirror_mark m) ≡ mirror_mark (get_or h.marks i m))
    × (length (mirrored h).marks ≡ length h.marks)
    × ((i : ℕ) (ρ : Rule) → get_or (mirrored h).rules i (turn exchanged ρ) ≡ turn exchanged (get_or h.rules i ρ))
    × (length (mirrored h).rules ≡ length h.rules)
    × (counting_in (mirrored h) ≡ counting_in h)
    × (profile_in (mirrored h) ≡ profile_in h)
mirror_places h = (
  λ i m. get_or-map mirror_mark h.marks i m,
  length-map h.marks mirror_mark,
  λ i ρ. get_or-map (turn exchanged) h.rules i ρ,
  length-map h.rules (turn exchanged),
  refl,
  refl,
)

-- the line reversed twice is the line
pub mirror_twice : (h : Held) → mirrored (mirrored h) ≡ h
mirror_twice h = (mirror_moves (mirrored h)).is ∙ sym (moves_back reversed (mirror_moves h)).is
