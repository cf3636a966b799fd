-- 02, Slip 3: after each interval of the walk the buffer holds exactly the spans that ended before it, and is as lent behind them. Assumes nothing.
use Rattle.std.specs.Prelude.{Option, None, Some, ◌≡◌, refl, Bool, true, false, List, [], ◌∷◌, ◌++◌, ℕ, zero, suc, pred, ◌+◌, ◌-◌, ◌≤◌, ◌<◌, T, ℤ, ◌≤ℤ◌, ◌<ℤ◌, length, drop}
use Rattle.std.proofs.Common.{sym, ap, ◌∙◌, subst, ⊎_elim, append-nil, arith}
use mathlib.Core.List.Memᴰ
use Rattle.terms.specs.declared.Hole.{Hole}
use Rattle.terms.specs.Order.{ints, pred_is, ≤-refl}
use Rattle.terms.specs.Holes.{InHole}
use Rattle.terms.specs.Held.{Held, ◌∈◌, ends_of, hole_in}
use Rattle.terms.specs.HoleLaws.{line_of, line_ordered, line_covers}
use Rattle.terms.proofs.Ends.{ends_placed}
use Rattle.terms.proofs.Limited.{InRange}
use Rattle.terms.specs.Spans.{Run, Covers, Ordered, Longest, flat}
use Rattle.line.specs.Cuts.{Asc, upto, nth, top_from, bottom_to}
use Rattle.line.specs.CutLaws.{cuts_asc}
use Rattle.line.specs.Code.{cuts_inner}
use Rattle.line.specs.Pieces.{Pieces}
use Rattle.line.proofs.Numbered.{pieces_one}
use Rattle.line.specs.Intervals.{cuts_of, interval, count}
use Rattle.line.proofs.IntervalLaws.{pieces}
use Rattle.spans.specs.declared.Progress.{Progress}
use Rattle.spans.specs.Ended.{SpansWritten, EndedBefore, AfterInterval}
use Rattle.spans.specs.Runs.{stretch_of, runs_from, runs}
use Rattle.spans.specs.Code.{Earlier, ended_at, Walked, none, next}
use Rattle.spans.proofs.Walks.{WrittenSoFar, none_written, written_next}
use Rattle.spans.proofs.Longest.{longest_one, ordered_in, own, at_cut, of_above, block_covers, block_ordered, tops_rise, block_order, runs_longest}

-- ---- the statement leaves nothing open

-- a list parts in one way into those of a kind and then the others
parts_one : {A : Type 0} (P : A → Type 0) (xs xs' ys ys' : List A) → xs ++ ys ≡ xs' ++ ys' →
    ((x : A) → x ∈ xs → P x) → ((x : A) → x ∈ ys → P x → ⊥) → ((x : A) → x ∈ xs' → P x) → ((x : A) → x ∈ ys' → P x → ⊥) → xs ≡ xs'
parts_one P [] [] ys ys' e f g f' g' = refl
parts_one P [] (x ∷ xs') ys ys' e f g f' g' = absurd (g x (subst (λ l. x ∈ l) (sym e) (Memᴰ.head refl)) (f' x (Memᴰ.head refl)))
parts_one P (x ∷ xs) [] ys ys' e f g f' g' = absurd (g' x (subst (λ l. x ∈ l) e (Memᴰ.head refl)) (f x (Memᴰ.head refl)))
parts_one P (x ∷ xs) (x' ∷ xs') ys ys' e f g f' g' =
    let t : xs ++ ys ≡ xs' ++ ys' = cc in
    let d = parts_one P xs xs' ys ys' t (λ z m. f z (Memᴰ.tail m)) g (λ z m. f' z (Memᴰ.tail m)) g' in
    cc

-- so one buffer and one count meet the statement
pub after_one : (H : Hole) (number : ℤ → ℕ) (rs : List Run) (p : ℕ) (lent now now' : List ℤ) (k k' : ℕ) →
    AfterInterval H number rs p lent now k → AfterInterval H number rs p lent now' k' → (now ≡ now') × (k ≡ k')
after_one H number rs p lent now now' k k' w w' =
    let e : w.ended ≡ w'.ended =
    parts_one (EndedBefore H number p) w.ended w'.ended w.others w'.others (sym w.all ∙ w'.all) w.ended_before
    w.not_ended_before w'.ended_before w'.not_ended_before in (
      w.written.buffer ∙ ap (λ x. flat x ++ drop (length (flat x)) lent) e ∙ sym w'.written.buffer,
      w.written.count ∙ ap length e ∙ sym w'.written.count,
    )

-- ---- the spans part at an interval

-- a line with these two ends, and cuts strictly inside them
module _ (line : Run) (proper : Ordered line) (cs : List ℤ) (rising : Asc cs) (ranged : (x : ℤ) → x ∈ cs → (line.top <ℤ x) × (x ≤ℤ line.bottom)) where
  abbrev top : ℕ → ℤ
  top p = top_from line.top cs p

  -- ---- an interval's depths

  -- its top is one of them
  top_in : (p : ℕ) → p ≤ length cs → Covers line (top p) × (upto cs (top p) ≡ p)
  top_in p h =
      let o = block_ordered line proper cs rising ranged p p (omega arith) h in
      let w = (block_covers line proper cs rising ranged p p (top p) h).0 (own _ o) in
      (w.0, omega (arith, w.1, w.2))

  -- and what lies above it lies above them all
  above_all : (p : ℕ) (r : Run) (i : ℤ) → Ordered r → r.bottom <ℤ top p → Covers line i → upto cs i ≡ p → r.bottom <ℤ i
  above_all p r i o b c e =
      ⊎_elim (λ k. let z : ⊥ = omega (ints, b, k, o.low, o.order) in absurd z) (λ k. omega (ints, b, k))
      (of_above line proper cs rising ranged p i c.above (omega arith))

  -- no interval begins above the one before
  tops_up : (p : ℕ) → p ≤ length cs → top (pred p) ≤ℤ top p
  tops_up zero h = ≤-refl (top 0)
  tops_up (suc p) h = omega (ints, tops_rise line proper cs rising ranged p h)

  -- ---- the spans that a step writes, and those that are left

  -- the one before ends above it
  bottom_above : (p : ℕ) → 0 < p → p ≤ length cs → bottom_to line.bottom cs (pred p) <ℤ top p
  bottom_above zero h l = let z : ⊥ = omega arith in absurd z
  bottom_above (suc p) h l = omega (ints, at_cut line proper cs rising ranged p l, pred_is (nth cs p))

  ended_above : (p : ℕ) (h : Bool) (g : Option ℕ) → p ≤ length cs → Earlier g p → (r : Run) → r ∈ ended_at line cs p h g → r.bottom <ℤ top p
  ended_above p true g l s r m = absurd (Memᴰ.not-nil m)
  ended_above p false None l s r m = absurd (Memᴰ.not-nil m)
  ended_above p false (Some a) l s r m = subst (λ x. x.bottom <ℤ top p) (sym (Memᴰ.eq_of_singleton m)) (bottom_above p (omega arith) l)

  -- these spans have their bottoms in the interval that was passed last, or below
  abbrev Below : ℕ → List Run → Type 0
  Below p rs = (r : Run) → r ∈ rs → top (pred p) ≤ℤ r.bottom

  below_next : (p : ℕ) (rs : List Run) → p ≤ length cs → Below (suc p) rs → Below p rs
  below_next p rs l f r m = omega (ints, tops_up p l, f r m)

  either_below : (p : ℕ) (t : Bool) (xs ys : List Run) → Below p xs → Below p ys → Below p (elim t [ true ↦ xs | false ↦ ys ])
  either_below p true xs ys f g = f
  either_below p false xs ys f g = g

  open_below : (a p : ℕ) (rs : List Run) → p ≤ suc (length cs) → a < p → Below p rs → Below p (stretch_of line cs a (pred p) ∷ rs)
  open_below a p rs l s f r m =
      let o = block_order line proper cs rising ranged (pred p) (pred p) (omega arith) (omega arith) in
      ⊎_elim (λ e. subst (λ x. top (pred p) ≤ℤ x.bottom) (sym e) o) (λ n. f r n) (Memᴰ.cases_cons m)

  module _ (has : ℕ → Bool) where
    left_below : (n p : ℕ) (g : Option ℕ) → p + n ≡ suc (length cs) → Earlier g p → Below p (runs_from line cs has n p g)
    left_below zero p None h s = λ r m. absurd (Memᴰ.not-nil m)
    left_below zero p (Some a) h s = open_below a p [] (omega arith) s (λ r m. absurd (Memᴰ.not-nil m))
    left_below (suc n) p None h s =
        either_below p (has p) _ _
        (below_next p _ (omega arith) (left_below n (suc p) (Some p) (omega arith) (omega arith)))
        (below_next p _ (omega arith) (left_below n (suc p) None (omega arith) tt))
    left_below (suc n) p (Some a) h s =
        either_below p (has p) _ _
        (below_next p _ (omega arith) (left_below n (suc p) (Some a) (omega arith) (omega arith)))
        (open_below a p _ (omega arith) s (below_next p _ (omega arith) (left_below n (suc p) None (omega arith) tt)))

    -- what the walk has written lies above the interval that was passed last
    so_far : {lent now : List ℤ} {p : ℕ} {g : Progress} → Walked line cs has lent p g now → p ≤ suc (length cs) →
        (done : List Run) × WrittenSoFar line cs has done p g lent now × ((r : Run) → r ∈ done → r.bottom <ℤ top (pred p))
    so_far {lent = lent} none h = ([], none_written line cs has lent, λ r m. absurd (Memᴰ.not-nil m))
    so_far (next p g r now after w s) h =
        let (done, x, f) = so_far w (omega arith) in (
          _,
          written_next line cs has done p g _ now x after r (omega arith) s,
          λ r m.
              ⊎_elim (λ k. omega (ints, f r k, tops_up p (omega arith))) (λ k. ended_above p (has p) g.since (omega arith) x.begins r k)
              (Memᴰ.append_cases done m),
        )

    -- so the spans part there
    record Parted (p : ℕ) (lent now : List ℤ) (k : ℕ) : Type 0 where
      ended : List Run
      others : List Run
      all : runs line cs has ≡ ended ++ others
      above : (r : Run) → r ∈ ended → r.bottom <ℤ top p
      below : (r : Run) → r ∈ others → top p ≤ℤ r.bottom
      written : SpansWritten ended lent now k

    walk_parted : (lent now : List ℤ) (p : ℕ) (g : Progress) → p ≤ length cs → Walked line cs has lent (suc p) g now → Parted p lent now g.count
    walk_parted lent now p g h w =
        let (done, x, f) = so_far w (omega arith) in
        record {
          ended = done;
          others = _;
          all = x.all;
          above = f;
          below = left_below (suc (length cs) - suc p) (suc p) g.since (omega arith) x.begins;
          written = x.written;
        }

-- ---- the line of what is held, in a hole or without one; its intervals are 01's pieces, and the spans the longest runs of those that have the label

module _ (h : Held) (R : InRange h) (number : ℤ → ℕ) (size : ℕ) (P : Pieces (hole_in h) h.marks number size) (has : ℕ → Bool) (rs : List Run)
    (L : Longest (λ i. InHole (hole_in h) i × T (has (number i))) rs) where
  abbrev line : Run
  line = line_of (hole_in h)

  abbrev cs : List ℤ
  cs = cuts_of h

  proper : Ordered line
  proper = line_ordered (hole_in h) R.hole

  rising : Asc cs
  rising = cuts_asc (hole_in h) (ends_of h.marks)

  ranged : (x : ℤ) → x ∈ cs → (line.top <ℤ x) × (x ≤ℤ line.bottom)
  ranged = cuts_inner (hole_in h) (ends_of h.marks) R.hole (ends_placed h.marks R.marks)

  -- there is one numbering of the intervals
  pub same : ((i : ℤ) → InHole (hole_in h) i → number i ≡ interval h i) × (size ≡ count h)
  same = pieces_one (hole_in h) h.marks number (interval h) size (count h) P (pieces h R.hole)

  -- and one list of longest runs
  these : rs ≡ runs line cs has
  these =
      let C = line_covers (hole_in h) R.hole in
      let M = runs_longest line proper cs rising ranged has in
      longest_one (λ i. InHole (hole_in h) i × T (has (number i))) rs _ L (record {
        apart = M.apart;
        exact = λ i. (
          λ c. let w = (M.exact i).0 c in let o = (C i).0 w.0 in (o, subst (λ p. T (has p)) (sym (same.0 i o)) w.1),
          λ w. (M.exact i).1 ((C i).1 w.0, subst (λ p. T (has p)) (same.0 i w.0) w.1),
        );
      })

  -- 02, Slip 3: after each interval the buffer holds exactly the spans that ended before it, and is as lent behind them
  pub each_interval : (lent now : List ℤ) (p : ℕ) (g : Progress) → p < size → Walked line cs has lent (suc p) g now →
      AfterInterval (hole_in h) number rs p lent now g.count
  each_interval lent now p g l w =
      let b : p ≤ length cs = omega (arith, l, same.1) in
      let W = walk_parted line proper cs rising ranged has lent now p g b w in
      let C = line_covers (hole_in h) R.hole in
      let t = top_in line proper cs rising ranged p b in
      let a : rs ≡ W.ended ++ W.others = these ∙ W.all in
      record {
        ended = W.ended;
        others = W.others;
        all = a;
        ended_before = λ r m i o e.
            let k : r ∈ rs = subst (λ x. r ∈ x) (sym a) (Memᴰ.append_left W.others m) in
            above_all line proper cs rising ranged p r i (ordered_in rs L.apart r k) (W.above r m) ((C i).1 o) (sym (same.0 i o) ∙ e);
        not_ended_before = λ r m f.
            let o = (C (top_from line.top cs p)).0 t.0 in
            omega (ints, W.below r m, f (top_from line.top cs p) o (same.0 (top_from line.top cs p) o ∙ t.1));
        written = W.written;
      }

  -- behind the last interval all have ended: the sentence there is the contract of `write_spans`
  pub behind_the_last : (lent now : List ℤ) (k : ℕ) → SpansWritten (runs line cs has) lent now k → AfterInterval (hole_in h) number rs size lent now k
  behind_the_last lent now k w = record {
    ended = rs;
    others = [];
    all = sym (append-nil rs);
    ended_before = λ r m i o e. let z : ⊥ = omega (arith, e, P.below i o) in absurd z;
    not_ended_before = λ r m f. Memᴰ.not-nil m;
    written = subst (λ x. SpansWritten x lent now k) (sym these) w;
  }
