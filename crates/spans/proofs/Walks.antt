-- What a walk over the intervals has written, by the steps' contract alone: the spans that have ended, each once and in order, and nothing
-- behind them; what comes next fits; and behind the last interval it is all spans. Assumes nothing.
use Rattle.std.specs.Prelude.{Option, None, Some, ◌≡◌, Bool, true, false, List, [], ◌∷◌, ◌++◌, ℤ, length, drop}
use Rattle.std.proofs.Math.Path.{refl, ap}
use Rattle.std.proofs.Common.{sym, ◌∙◌, subst, append_assoc, append-nil, length-append, take_at, drop-drop}
use Prim.Native.Nat.{ℕ, zero, suc, ◌+◌, ◌-◌, ◌*◌, ◌≤◌}
use native.Mathlib.Omega.{arith}
use Rattle.std.proofs.Math.Seq.{drop-append-add}
use Rattle.terms.specs.Limits.{CUTS, SPAN_NUMBERS}
use Rattle.terms.specs.Spans.{Run, flat}
use Rattle.spans.specs.declared.Progress.{Progress}
use Rattle.spans.specs.Runs.{runs_from, runs}
use Rattle.spans.specs.Code.{SpansWritten, laid, Earlier, ended_at, begun_after, Stepped, fresh, Walked, none, next}
use Rattle.spans.proofs.Longest.{flat_length, runs_fit}

-- ---- values laid behind others

laid_behind : (xs vs lent : List ℤ) (k : ℕ) → length xs ≡ k → laid (xs ++ drop (length xs) lent) k vs ≡ (xs ++ vs) ++ drop (length (xs ++ vs)) lent
unfolding laid
laid_behind xs vs lent k e =
    ap (λ x. (x ++ vs) ++ drop (k + length vs) (xs ++ drop (length xs) lent)) (take_at xs (drop (length xs) lent) k e)
    ∙ ap (λ x. (xs ++ vs) ++ x) (
    ap (λ j. drop (j + length vs) (xs ++ drop (length xs) lent)) (sym e)
    ∙ drop-append-add xs (drop (length xs) lent) (length vs)
    ∙ drop-drop (length vs) (length xs) lent
    ∙ ap (λ j. drop j lent) (sym (length-append xs vs)))

flat_append : (xs ys : List Run) → flat (xs ++ ys) ≡ flat xs ++ flat ys
unfolding flat
flat_append [] ys = refl
flat_append (x ∷ xs) ys = ap (λ l. x.top ∷ x.bottom ∷ l) (flat_append xs ys)

module _ (line : Run) (cs : List ℤ) (has : ℕ → Bool) where
  -- ---- the spans, interval by interval

  -- the spans that end at or behind interval p, where the walk has come to it with this span begun
  abbrev pub left : ℕ → Option ℕ → List Run
  left p g = runs_from line cs has (suc (length cs) - p) p g

  -- an interval more: what ends before it comes first
  one_more : (n p : ℕ) (g : Option ℕ) → runs_from line cs has (suc n) p g ≡ ended_at line cs p (has p) g ++ runs_from line cs has n (suc p) (begun_after p (has p) g)
  one_more n p None = go (has p)
    where
      go : (t : Bool) →
          elim t [ true ↦ runs_from line cs has n (suc p) (Some p) | false ↦ runs_from line cs has n (suc p) None ]
          ≡ ended_at line cs p t None ++ runs_from line cs has n (suc p) (begun_after p t None)
      go true = refl
      go false = refl
  one_more n p (Some s) = go (has p)
    where
      go : (t : Bool) →
          elim t [ true ↦ runs_from line cs has n (suc p) (Some s) | false ↦ ended_at line cs p false (Some s) ++ runs_from line cs has n (suc p) None ]
          ≡ ended_at line cs p t (Some s) ++ runs_from line cs has n (suc p) (begun_after p t (Some s))
      go true = refl
      go false = refl

  pub parted : (p : ℕ) (g : Option ℕ) → p ≤ length cs → left p g ≡ ended_at line cs p (has p) g ++ left (suc p) (begun_after p (has p) g)
  parted p g l =
      let e : suc (length cs) - p ≡ suc (suc (length cs) - suc p) = omega arith in
      ap (λ m. runs_from line cs has m p g) e ∙ one_more (suc (length cs) - suc p) p g

  -- behind the last interval only the open one is left
  last_one : (p : ℕ) (g : Option ℕ) → runs_from line cs has zero p g ≡ ended_at line cs p false g ++ []
  last_one p None = refl
  last_one p (Some s) = refl

  pub last_parted : (p : ℕ) (g : Option ℕ) → p ≡ suc (length cs) → left p g ≡ ended_at line cs p false g ++ []
  last_parted p g d = let e : suc (length cs) - p ≡ 0 = omega arith in ap (λ m. runs_from line cs has m p g) e ∙ last_one p g

  pub begins_after : (p : ℕ) (h : Bool) (g : Option ℕ) → Earlier g p → Earlier (begun_after p h g) (suc p)
  begins_after p false g l = tt
  begins_after p true None l = omega arith
  begins_after p true (Some s) l = omega arith

  -- ---- what is written where the walk comes to interval p

  -- the buffer holds these spans and is as lent behind them, and the others are left
  pub record WrittenSoFar (done : List Run) (p : ℕ) (g : Progress) (lent now : List ℤ) : Type 0 where
    pub all : runs line cs has ≡ done ++ left p g.since
    pub begins : Earlier g.since p
    pub written : SpansWritten done lent now g.count

  -- nothing before the first interval
  pub none_written : (lent : List ℤ) → WrittenSoFar [] 0 fresh lent lent
  unfolding runs flat
  none_written lent =
      let e : suc (length cs) ≡ suc (length cs) - 0 = omega arith in
      record { all = ap (λ m. runs_from line cs has m 0 None) e; begins = tt; written = record { count = refl; buffer = refl } }

  module _ (done : List Run) (p : ℕ) (g : Progress) (lent now : List ℤ) (w : WrittenSoFar done p g lent now) where
    abbrev ended : Bool → List Run
    ended h = ended_at line cs p h g.since

    all_parted : (h : Bool) (rest : List Run) → left p g.since ≡ ended h ++ rest → runs line cs has ≡ (done ++ ended h) ++ rest
    all_parted h rest e = w.all ∙ ap (λ x. done ++ x) e ∙ sym (append_assoc done (ended h) rest)

    fits : length cs ≤ CUTS → SPAN_NUMBERS ≤ length now → (h : Bool) (rest : List Run) → left p g.since ≡ ended h ++ rest →
        2 * (g.count + length (ended h)) ≤ length now
    fits few room h rest e =
        omega (
          arith,
          (runs_fit line cs has few).0,
          ap length (all_parted h rest e),
          length-append (done ++ ended h) rest,
          length-append done (ended h),
          w.written.count,
        )

    more_written : (after : List ℤ) (r : Progress) (h : Bool) → Stepped line cs p h g now after r → SpansWritten (done ++ ended h) lent after r.count
    more_written after r h s =
        let e : length (flat done) ≡ 2 * g.count = omega (arith, flat_length done, w.written.count) in
        record {
          count = omega (arith, s.count, w.written.count, length-append done (ended h));
          buffer =
              s.buffer
              ∙ ap (λ l. laid l (2 * g.count) (flat (ended h))) w.written.buffer
              ∙ laid_behind (flat done) (flat (ended h)) lent (2 * g.count) e
              ∙ ap (λ x. x ++ drop (length x) lent) (sym (flat_append done (ended h)));
        }

    -- a step writes the span that ends before its interval, and no other
    pub written_next : (after : List ℤ) (r : Progress) → p ≤ length cs → Stepped line cs p (has p) g now after r →
        WrittenSoFar (done ++ ended (has p)) (suc p) r lent after
    written_next after r l s = record {
      all = all_parted (has p) _ (parted p g.since l) ∙ ap (λ b. (done ++ ended (has p)) ++ left (suc p) b) (sym s.begun);
      begins = subst (λ b. Earlier b (suc p)) (sym s.begun) (begins_after p (has p) g.since w.begins);
      written = more_written after r (has p) s;
    }

    written_last : (after : List ℤ) (r : Progress) → p ≡ suc (length cs) → Stepped line cs p false g now after r →
        SpansWritten (runs line cs has) lent after r.count
    written_last after r e s =
        subst (λ rs. SpansWritten rs lent after r.count) (sym (all_parted false [] (last_parted p g.since e) ∙ append-nil (done ++ ended false)))
        (more_written after r false s)

  -- ---- a walk

  so_far : {lent now : List ℤ} {p : ℕ} {g : Progress} → Walked line cs has lent p g now → p ≤ suc (length cs) →
      (done : List Run) × WrittenSoFar done p g lent now
  so_far {lent = lent} none h = ([], none_written lent)
  so_far (next p g r now after w s) h = let (done, x) = so_far w (omega arith) in (_, written_next done p g _ now x after r (omega arith) s)

  module _ (lent now : List ℤ) (p : ℕ) (g : Progress) (w : Walked line cs has lent p g now) where
    -- a span that has begun, began before
    pub walk_begins : p ≤ suc (length cs) → Earlier g.since p
    walk_begins h = (so_far w h).1.begins

    -- what the next step writes fits
    pub walk_fits : length cs ≤ CUTS → SPAN_NUMBERS ≤ length now → p ≤ length cs → 2 * (g.count + length (ended_at line cs p (has p) g.since)) ≤ length now
    walk_fits few room h = fits _ p g lent now (so_far w (omega arith)).1 few room (has p) _ (parted p g.since h)

    pub walk_fits_last : length cs ≤ CUTS → SPAN_NUMBERS ≤ length now → p ≡ suc (length cs) →
        2 * (g.count + length (ended_at line cs p false g.since)) ≤ length now
    walk_fits_last few room e = fits _ p g lent now (so_far w (omega arith)).1 few room false [] (last_parted p g.since e)

    -- the step behind the last interval writes the last of them
    pub walk_ends : (after : List ℤ) (r : Progress) → p ≡ suc (length cs) → Stepped line cs p false g now after r →
        SpansWritten (runs line cs has) lent after r.count
    walk_ends after r e s = written_last _ p g lent now (so_far w (omega arith)).1 after r e s
