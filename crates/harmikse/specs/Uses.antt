-- A record uses a byte at least, and no more than are left. Assumes nothing.
use Rattle.std.specs.Prelude.{◌≡◌, refl, Bool, true, false, not, cond, List, ℕ, ◌+◌, ◌-◌, ◌≤◌, ◌<◌, eqb, ltb, length, Result, Ok, Err}
use Rattle.std.proofs.Common.{arith, ltb-false}
use Rattle.std.proofs.lemmas.Bool.{eqb-false}
use Rattle.terms.specs.declared.Answer.TheVariants as Answer
use Rattle.terms.specs.declared.Settings.{Settings}
use Rattle.refusals.specs.Refusals.{rank, Tested, tested}
use Rattle.terms.specs.Otherwise.{on_tested}
use Rattle.terms.specs.Held.{Held}
use Rattle.records.specs.declared.Command.{Command}
use Rattle.frames.specs.declared.Lengths.{Lengths}
use Rattle.frames.specs.declared.Framed.{Framed}
use Rattle.records.specs.Parsed.{Parsed}
use Rattle.frames.specs.Framing.{framed}
use Rattle.records.specs.Records.{decode_body, parsed_body, parsed_frame, parse}
use Rattle.frames.specs.Frames.{length_field, kind_field, body_of, is_unknown, allows, lengths_of, used_for}
use Rattle.decide.specs.Answer.{answer}
use Rattle.decide.specs.Decides.{Yes, No, Spans, Reply, Contradiction, Answered}
use Rattle.commands.specs.Call.{Outcome, Refused, Ended, Changed, Asked, held_tests, obey, judged, replied, effect}
use Rattle.commands.specs.Buffers.{Buffers}

-- so many bytes of those left
pub record Within (s : List ℕ) (u : ℕ) : Type 0 where
  pub some : 0 < u
  pub room : u ≤ length s

abbrev FrameUses : List ℕ → Framed → Type 0
FrameUses s Framed.Nothing = Unit {0}
FrameUses s (Framed.Refused n u) = Within s u
FrameUses s (Framed.Record k u) = Within s u

-- of a choice, by what each arm has
choice : {X : Type 0} (P : X → Type 0) (b : Bool) {x y : X} → (b ≡ true → P x) → (b ≡ false → P y) → P (cond b x y)
choice P true p q = p refl
choice P false p q = q refl

frame_uses : (s : List ℕ) → FrameUses s (framed s)
unfolding framed rank
frame_uses s =
    choice (FrameUses s) (eqb (length s) 0) (λ z. tt)
    (λ z. let all : Within s (length s) = record { some = more (length s) (eqb-false (length s) 0 z); room = omega arith } in
    choice P (ltb (length s) 4) (λ a. all)
    (λ a. choice P (ltb (length_field s) 2) (λ b. all)
    (λ b. choice P (ltb (length s - 2) (length_field s)) (λ c. all)
    (λ c. let whole : Within s (length_field s + 2) =
    record { some = omega arith; room = omega (arith, ltb-false (length s) 4 a, ltb-false (length s - 2) (length_field s) c) } in
    choice P (is_unknown l) (λ d. whole)
    (λ d. choice P (not (allows l (length_field s))) (λ e. whole) (λ e. whole))))))
  where
    l : Lengths
    l = lengths_of (kind_field s)

    P : Tested → Type 0
    P t = FrameUses s (on_tested (Framed.Record (kind_field s) (length_field s + 2)) (λ n. Framed.Refused n (used_for n s)) t)

    more : (n : ℕ) → (n ≡ 0 → ⊥) → 0 < n
    more n f = omega arith

abbrev ParsedUses : List ℕ → Parsed → Type 0
ParsedUses s Parsed.Nothing = Unit {0}
ParsedUses s (Parsed.Refused n u) = Within s u
ParsedUses s (Parsed.Record c b u) = Within s u

body_uses : (s : List ℕ) (d : Result Command ℕ) (b : List ℕ) (u : ℕ) → Within s u → ParsedUses s (parsed_body d b u)
body_uses s (Ok c) b u w = w
body_uses s (Err n) b u w = w

parsed_uses : (σ : Settings) (s : List ℕ) (f : Framed) → FrameUses s f → ParsedUses s (parsed_frame σ s f)
parsed_uses σ s Framed.Nothing w = tt
parsed_uses σ s (Framed.Refused n u) w = w
parsed_uses σ s (Framed.Record k u) w = body_uses s (decode_body σ k (body_of s)) (body_of s) u w

abbrev OutcomeUses : List ℕ → Outcome → Type 0
OutcomeUses s (Refused n u) = Within s u
OutcomeUses s Ended = Unit {0}
OutcomeUses s (Changed g u) = Within s u
OutcomeUses s (Asked q u) = Within s u

obeyed_uses : (h : Held) (s b : List ℕ) (c : Command) (u : ℕ) → Within s u → OutcomeUses s (obey h c b u)
obeyed_uses h s b Command.Reset u w = w
obeyed_uses h s b (Command.Add ρ) u w = w
obeyed_uses h s b (Command.Put m) u w = w
obeyed_uses h s b (Command.Take m) u w = w
obeyed_uses h s b (Command.Count c) u w = w
obeyed_uses h s b (Command.Confine t d) u w = w
obeyed_uses h s b (Command.Shift c) u w = w
obeyed_uses h s b Command.Restrict u w = w
obeyed_uses h s b (Command.Ask q) u w = w

judged_uses : (h : Held) (s : List ℕ) (p : Parsed) → ParsedUses s p → OutcomeUses s (judged h p)
judged_uses h s Parsed.Nothing w = tt
judged_uses h s (Parsed.Refused n u) w = w
judged_uses h s (Parsed.Record c b u) w = go (tested (held_tests h c b))
  where
    go : (t : Tested) → OutcomeUses s (on_tested (obey h c b u) (λ n. Refused n u) t)
    go (Ok passed) = obeyed_uses h s b c u w
    go (Err n) = w

replied_uses : (h : Held) (m : Buffers) (s : List ℕ) (u : ℕ) (r : Reply) → Within s u → Within s (replied h m u r).used
replied_uses h m s u (Contradiction a) w = w
replied_uses h m s u (Answered Yes) w = w
replied_uses h m s u (Answered No) w = w
replied_uses h m s u (Answered (Spans rs)) w = w

effect_uses : (h : Held) (m : Buffers) (s : List ℕ) (o : Outcome) → OutcomeUses s o → ((effect h m o).answer ≡ Answer.End → ⊥) → Within s (effect h m o).used
effect_uses h m s (Refused n u) w f = w
effect_uses h m s Ended w f = absurd (f refl)
effect_uses h m s (Changed g u) w f = w
effect_uses h m s (Asked q u) w f = replied_uses h m s u (answer h q) w

-- what a record comes to under what is held
pub record_uses :
    (h : Held) (m : Buffers) (s : List ℕ) → let a = effect h m (judged h (parse h.settings s)) in (a.answer ≡ Answer.End → ⊥) → Within s a.used
unfolding parse
record_uses h m s f =
    let read = parsed_uses h.settings s (framed s) (frame_uses s) in
    effect_uses h m s (judged h (parse h.settings s)) (judged_uses h s (parse h.settings s) read) f
