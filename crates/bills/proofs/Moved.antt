-- 02, Slip 9: a shift of the line alters no bill, and neither does its mirror: spans keep their lengths, and those without an end have none. Assumes nothing.
use Rattle.std.specs.Prelude.{◌≡◌, ◌↔◌, Bool, true, false, cond, ◌||◌, ℕ, ◌+◌, T, ℤ, pos, nat_abs, ◌+ℤ◌, ◌-ℤ◌, ◌≤ℤ◌}
use Rattle.std.proofs.Math.Path.{refl}
use Rattle.std.proofs.Common.{sym, ap, ◌∙◌, subst}
use mathlib.Core.List.Memᴰ
use mathlib.Core.List.{List, [], ◌∷◌, map, reverse_aux}
use Rattle.std.specs.Int.Signed.{le_z, le_z_yes}
use Rattle.terms.specs.declared.Atom.TheVariants.{Has}
use Rattle.terms.specs.declared.Question.TheVariants as Question
use Rattle.terms.specs.Order.{ints, sub_is}
use Rattle.terms.specs.Tests.{of_true, true_of, false_of, neither, differ}
use Rattle.terms.specs.Limits.{EVERY, NO_TOP, NO_BOTTOM}
use Rattle.terms.specs.Held.{◌∈◌, Held}
use Rattle.terms.specs.Same.{same_depth}
use Rattle.terms.proofs.SameLaws.{same_depth_lem, depth_same}
use Rattle.terms.specs.Lists.{some}
use Rattle.terms.proofs.Limited.{InRange}
use Rattle.terms.specs.Spans.{Run, Ordered, Longest}
use Rattle.spans.proofs.Longest.{ordered_in}
use Rattle.decide.specs.Decides.{Yes, No, Spans, Reply, Contradiction, Answered}
use Rattle.decide.proofs.Unique.{clash}
use Rattle.decide.specs.Answer.{answer}
use Rattle.decide.proofs.Decide.{spans_exactly}
use Rattle.shift.specs.Shifted.{shifted}
use Rattle.moves.specs.Mirrored.{mirrored}
use Rattle.moves.specs.Answers.{move_reply}
use Rattle.moves.proofs.Moves.{Side, upper, lower, gone, Sense, ahead, reversed, origin, in_sense, Rigid, end_in, end_moved, move_run, move_runs, Moves}
use Rattle.moves.proofs.Motions.{beside}
use Rattle.moves.proofs.Derived.{moved_derived, shift_moves, mirror_moves}
use Rattle.moves.proofs.Steady.{Steady, Finite, change_finite, derived_steady}
use Rattle.moves.proofs.Ends.{beyond, beyond_beside, end_in_lem, beyond_out}
use Rattle.moves.proofs.Moved.{moved_answers}
use Rattle.charges.specs.declared.PriceLine.{PriceLine}
use Rattle.charges.specs.declared.Sum.{Sum}
use Rattle.charges.specs.declared.Charge.{Charge}
use Rattle.charges.specs.Costs.{centimetres, cost, costs}
use Rattle.charges.specs.Sums.{nothing, is_open, with_span, with_spans, with_lines, charge_of}
use Rattle.bills.specs.Bill.{spans_in, spans_of, summed, unless_clash, bill}
use Rattle.bills.proofs.Totals.{or_comm, plus_swap, spans_sum}

-- ---- spans that are charged alike

-- two runs have no end both, or are as long as each other
record Alike (r t : Run) : Type 0 where
  endless : is_open r ≡ is_open t
  long : is_open t ≡ false → centimetres r ≡ centimetres t

-- two sums that are charged alike are so with costs that are alike
more_alike : (u v o p : Bool) (m n c d : ℕ) → cond u Charge.Open (Charge.Total m) ≡ cond v Charge.Open (Charge.Total n) → o ≡ p → (p ≡ false → c ≡ d) →
    cond (u || o) Charge.Open (Charge.Total (m + c)) ≡ cond (v || p) Charge.Open (Charge.Total (n + d))
more_alike true true o p m n c d e f g = refl
more_alike true false o p m n c d e f g = differ (cc)
more_alike false true o p m n c d e f g = differ (cc)
more_alike false false o true m n c d e f g = ap (λ (b : Bool). cond b Charge.Open (Charge.Total (m + c))) f
more_alike false false o false m n c d e f g =
    let a : m ≡ n = cc in
    let b = g refl in
    λ i. cond (f i) Charge.Open (Charge.Total (a i + b i))

-- so with runs that are alike
spans_alike : (F : Run → Run) (l : PriceLine) (rs : List Run) → ((r : Run) → r ∈ rs → Alike (F r) r) → (s t : Sum) → charge_of s ≡ charge_of t →
    charge_of (with_spans l s (map F rs)) ≡ charge_of (with_spans l t rs)
spans_alike F l [] k s t e = e
spans_alike F l (r ∷ rs) k s t e =
    let w = k r (Memᴰ.head refl) in
    spans_alike F l rs (λ u m. k u (Memᴰ.tail m)) (with_span l s (F r)) (with_span l t r)
    (more_alike s.endless t.endless (is_open (F r)) (is_open r) s.total t.total (cost l (F r)) (cost l r) e w.endless
    (λ f. let g : centimetres (F r) ≡ centimetres r = w.long f in rw g))

-- and with lines whose spans are charged alike
lines_alike : (f g : PriceLine → List Run) →
    ((l : PriceLine) (s t : Sum) → charge_of s ≡ charge_of t → charge_of (with_spans l s (f l)) ≡ charge_of (with_spans l t (g l))) → (ls : List PriceLine)
    (s t : Sum) → charge_of s ≡ charge_of t → charge_of (with_lines f s ls) ≡ charge_of (with_lines g t ls)
unfolding with_lines
lines_alike f g k [] s t e = e
lines_alike f g k (l ∷ ls) s t e = lines_alike f g k ls (with_spans l s (f l)) (with_spans l t (g l)) (k l s t e)

-- ---- in reverse order

-- a span may be added last
span_last : (l : PriceLine) (s : Sum) (r : Run) (rs : List Run) → with_spans l (with_span l s r) rs ≡ with_span l (with_spans l s rs) r
span_last l s r rs =
    spans_sum l (with_span l s r) rs
    ∙ (plus_swap s (cost l r) (costs l rs) (is_open r) (some is_open rs) ∙ sym (ap (λ (t : Sum). with_span l t r) (spans_sum l s rs)))

-- and so one by one
reverse_sum : (l : PriceLine) (xs ys : List Run) (s : Sum) → with_spans l s (reverse_aux xs ys) ≡ with_spans l (with_spans l s ys) xs
reverse_sum l [] ys s = refl
reverse_sum l (x ∷ xs) ys s = reverse_sum l xs (x ∷ ys) s ∙ ap (λ (t : Sum). with_spans l t xs) (span_last l s x ys)

-- so spans come to the same sum in either order
sense_sum : (σ : Sense) (l : PriceLine) (rs : List Run) (s : Sum) → with_spans l s (in_sense σ rs) ≡ with_spans l s rs
sense_sum ahead l rs s = refl
sense_sum reversed l rs s = reverse_sum l rs [] s

-- ---- an end that is missing or not, moved

-- the test that an end on this side is missing
abbrev is_gone : Side → ℤ → Bool
is_gone upper e = le_z e NO_TOP
is_gone lower e = le_z NO_BOTTOM e

-- a missing end passes
gone_test : (κ : Side) (e : ℤ) → e ≡ gone κ → is_gone κ e ≡ true
gone_test upper e d = true_of (le_z e NO_TOP) (let l : e ≤ℤ NO_TOP = omega ints in l.le)
gone_test lower e d = true_of (le_z NO_BOTTOM e) (let l : NO_BOTTOM ≤ℤ e = omega ints in l.le)

-- a finite one does not
finite_test : (κ : Side) (e : ℤ) → Finite e → is_gone κ e ≡ false
finite_test upper e w = false_of (le_z e NO_TOP) (λ t. let l : e ≤ℤ NO_TOP = le_z_yes t in omega (ints, w.low))
finite_test lower e w = false_of (le_z NO_BOTTOM e) (λ t. let l : NO_BOTTOM ≤ℤ e = le_z_yes t in omega (ints, w.high))

-- and of an ordered run no other than a missing one does
test_gone : (κ : Side) (r : Run) → Ordered r → T (is_gone κ (end_in r κ)) → end_in r κ ≡ gone κ
test_gone upper r o t = let l : r.top ≤ℤ NO_TOP = le_z_yes t in omega (ints, o.low)
test_gone lower r o t = let l : NO_BOTTOM ≤ℤ r.bottom = le_z_yes t in omega (ints, o.high)

-- the moved end is missing exactly if the end is, and else it is the end, moved
record Along (f : ℤ → ℤ) (τ κ : Side) (e u : ℤ) : Type 0 where
  test : is_gone κ u ≡ is_gone τ e
  end : is_gone τ e ≡ false → u ≡ f e

module _ (σ : Sense) {f : ℤ → ℤ} (R : Rigid σ f) {S S' : ℤ → Type 0} (E : (i : ℤ) → S i ↔ S' (f i)) (W : Steady S') (rs : List Run) (L : Longest S rs)
    (r : Run) (m : r ∈ rs) where
  -- where it is not missing the set changes there, and so the moved set does at the moved end
  end_finite : (τ : Side) → (end_in r τ ≡ gone τ → ⊥) → Finite (f (end_in r τ))
  end_finite τ n =
      let e = end_in r τ in
      change_finite W (f e) (f (beyond τ e)) (beside σ R e (beyond τ e) (beyond_beside τ e)) ((E e).0 (end_in_lem rs L r m τ))
      (λ q. n (beyond_out rs L r m τ ((E (beyond τ e)).1 q)))

  -- so each end goes along
  end_along : (κ : Side) → Along f (origin σ κ) κ (end_in r (origin σ κ)) (end_moved σ f r κ)
  end_along κ = go (origin σ κ) κ (same_depth (end_in r (origin σ κ)) (gone (origin σ κ))) refl
    where
      go : (τ κ : Side) (b : Bool) → same_depth (end_in r τ) (gone τ) ≡ b → Along f τ κ (end_in r τ) (cond b (gone κ) (f (end_in r τ)))
      go τ κ true d =
          let g = gone_test τ (end_in r τ) (same_depth_lem (end_in r τ) (gone τ) (of_true d)) in
          record { test = gone_test κ (gone κ) refl ∙ sym g; end = λ n. absurd (clash g n) }
      go τ κ false d =
          let e = end_in r τ in
          let n : e ≡ gone τ → ⊥ = λ g. subst T d (subst (λ x. T (same_depth e x)) g (depth_same e)) in
          record {
            test =
                finite_test κ (f e) (end_finite τ n)
                ∙ sym (false_of (is_gone τ e) (λ t. n (test_gone τ r (ordered_in rs L.apart r m) t)));
            end = λ x. refl;
          }

-- a longest run and the moved run are charged alike
run_alike : (σ : Sense) {f : ℤ → ℤ} → Rigid σ f → {S S' : ℤ → Type 0} → ((i : ℤ) → S i ↔ S' (f i)) → Steady S' → (rs : List Run) → Longest S rs →
    (r : Run) → r ∈ rs → Alike (move_run σ f r) r
run_alike ahead {f} R E W rs L r m =
    let u = end_along ahead R E W rs L r m upper in
    let v = end_along ahead R E W rs L r m lower in
    record {
      endless = λ i. u.test i || v.test i;
      long = λ e.
          let (p, q) = neither (is_gone upper r.top) (is_gone lower r.bottom) e in
          let d : (f r.bottom -ℤ f r.top) ≡ (r.bottom -ℤ r.top) =
          omega (ints, sub_is (f r.bottom) (f r.top), sub_is r.bottom r.top, R.keeps r.top r.bottom) in
          ap (λ (z : ℤ). nat_abs (z +ℤ pos 1)) ((λ i. v.end q i -ℤ u.end p i) ∙ d);
    }
run_alike reversed {f} R E W rs L r m =
    let u = end_along reversed R E W rs L r m upper in
    let v = end_along reversed R E W rs L r m lower in
    record {
      endless = (λ i. u.test i || v.test i) ∙ or_comm (is_gone lower r.bottom) (is_gone upper r.top);
      long = λ e.
          let (p, q) = neither (is_gone upper r.top) (is_gone lower r.bottom) e in
          let d : (f r.top -ℤ f r.bottom) ≡ (r.bottom -ℤ r.top) =
          omega (ints, sub_is (f r.top) (f r.bottom), sub_is r.bottom r.top, R.keeps r.top r.bottom) in
          ap (λ (z : ℤ). nat_abs (z +ℤ pos 1)) ((λ i. v.end p i -ℤ u.end q i) ∙ d);
    }

-- ---- the bill

-- a moved reply is a contradiction exactly if the reply is
clash_moved : (g : List Run → List Run) (r : Reply) (c : Charge) → unless_clash (move_reply g r) c ≡ unless_clash r c
clash_moved g (Contradiction b) c = refl
clash_moved g (Answered v) c = refl

module _ (σ : Sense) {f g : ℤ → ℤ} {h k : Held} (W : Moves σ f g h k) (R : InRange h) (Q : InRange k) (a : ℕ) where
  -- the reply for each label is the reply, moved
  moved_reply : (A : ℕ) → answer k (Question.Spans a A) ≡ move_reply (move_runs σ f) (answer h (Question.Spans a A))
  moved_reply A = moved_answers σ W R Q (Question.Spans a A)

  -- the spans of a line are charged alike
  line_moved : (l : PriceLine) (s t : Sum) → charge_of s ≡ charge_of t → charge_of (with_spans l s (spans_of k a l)) ≡ charge_of (with_spans l t (spans_of h a l))
  line_moved l s t e =
      ap (λ (r : Reply). charge_of (with_spans l s (spans_in r))) (moved_reply l.label) ∙ go (answer h (Question.Spans a l.label)) refl
    where
      go : (r : Reply) → answer h (Question.Spans a l.label) ≡ r →
          charge_of (with_spans l s (spans_in (move_reply (move_runs σ f) r))) ≡ charge_of (with_spans l t (spans_in r))
      go (Contradiction b) d = e
      go (Answered Yes) d = e
      go (Answered No) d = e
      go (Answered (Spans rs)) d =
          ap charge_of (sense_sum σ l (map (move_run σ f) rs) s)
          ∙ spans_alike (move_run σ f) l rs
          (run_alike σ W.motion.there (moved_derived σ W (Has a l.label)) (derived_steady k Q (Has a l.label)) rs
          ((spans_exactly h R a l.label rs).0 d).1) s t e

  -- so what is held and what it is moved to make one bill
  pub bill_moved : (ls : List PriceLine) → bill k a ls ≡ bill h a ls
  unfolding bill
  bill_moved ls =
      (λ i. unless_clash (moved_reply EVERY i) (lines_alike (spans_of k a) (spans_of h a) line_moved ls nothing nothing refl i))
      ∙ clash_moved (move_runs σ f) (answer h (Question.Spans a EVERY)) (charge_of (summed h a ls))

-- 02, Slip 9: a shift alters no bill
pub bill_shifted : (c : ℤ) (h : Held) → InRange h → InRange (shifted c h) → (a : ℕ) (ls : List PriceLine) → bill (shifted c h) a ls ≡ bill h a ls
bill_shifted c h R Q a ls = bill_moved ahead (shift_moves c h) R Q a ls

-- 02, Slip 9: nor does reversing the line
pub bill_mirrored : (h : Held) → InRange h → InRange (mirrored h) → (a : ℕ) (ls : List PriceLine) → bill (mirrored h) a ls ≡ bill h a ls
bill_mirrored h R Q a ls = bill_moved reversed (mirror_moves h) R Q a ls
