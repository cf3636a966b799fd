-- 02, Slip 9, of the calls: what an accepted shift leaves, that every answer after it is the earlier one, moved, and that a block that holds the mirrored
-- lists answers as in a mirror. Assumes nothing.
use Rattle.std.specs.Prelude.{◌≡◌, ◌↔◌, Bool, true, not, List, [], ◌∷◌, map, ℕ, ◌+◌, ◌*◌, T, ℤ, pos, neg_ℤ, length, get_or, drop}
use Rattle.std.proofs.Math.Path.{refl, ap}
use Rattle.std.proofs.Common.{sym, ◌∙◌, subst, arith, take_at, take_all}
use Rattle.std.proofs.Math.Bool.{false}
use Rattle.std.proofs.lemmas.List.{length-map, length-reverse}
use mir.Syntax.{w32, w64}
use Rattle.codec.specs.Bytes.{little, bytes}
use Rattle.codec.proofs.Laws.{signed_read}
use Rattle.terms.specs.declared.Answer.TheVariants as Answer
use Rattle.terms.specs.declared.Atom.TheVariants.{Has, Linked}
use Rattle.terms.specs.declared.Hole.TheVariants.{Whole}
use Rattle.terms.specs.declared.Question.{Question}
use Rattle.terms.specs.Tests.{true_of, of_true, differ}
use Rattle.terms.specs.Held.{Held, hole_in, is_statement, is_question}
use Rattle.terms.specs.Lists.{every, limits}
use Rattle.terms.proofs.Limited.{InRange, limited, of_limited, in_range}
use Rattle.terms.specs.Spans.{Run, run, flat}
use Rattle.spans.proofs.Longest.{flat_length}
use Rattle.refusals.specs.Refusals.{test, tested}
use Rattle.frames.specs.Frames.{lengths_of, length_field}
use Rattle.decide.specs.Decides.{Yes, No, Spans, Reply, Contradiction, Answered, Decides}
use Rattle.decide.proofs.Decide.{decides_exactly}
use Rattle.decide.specs.Answer.{answer}
use Rattle.shift.specs.Shifted.{by, shifted, stays}
use Rattle.moves.specs.Mirrored.{mirrored, mirrors}
use Rattle.moves.proofs.Moved.{shift_answers, mirror_answers}
use Rattle.moves.proofs.Limits.{mirror_limited, shift_fits}
use Rattle.moves.proofs.Accepted.{shift_back, shift_none}
use Rattle.places.specs.Layout.{SIZE, encode}
use Rattle.block.specs.Block.{read_held, good}
use Rattle.moves.specs.Answers.{shift_run, shift_runs, mirror_run, mirror_runs, move_question, move_reply}
use Rattle.commands.specs.Buffers.{Buffers, After, short}
use Rattle.commands.specs.Call.{replied, call, span_call}
use Rattle.claims.specs.Table.{Shifts, Asks, said_by, table, rows}
use Rattle.claims.specs.Reference.{Result, shown, Accepted, moved}
use Rattle.claims.specs.Lives.{result_of}
use Rattle.claims.specs.Beside.{spans_record, unused}
use Rattle.claims.specs.Tells.{Tells_same, TellsMoved}
use Rattle.claims.specs.Asked.{question_record, Wide, shift_record, Narrow}
use Rattle.claims.specs.Exact.{feeding, Holding, Asking}
use Rattle.claims.proofs.Exactly.{held_in, asked_call}
use Rattle.claims.proofs.Refused.{refused_exactly}
use Rattle.claims.proofs.Booked.{book_one}
use Rattle.claims.proofs.Whole.{laws}
use Rattle.claims.proofs.OneCall.{call_steps}
use Rattle.claims.proofs.SpanRecord.{span_asks, span_as_record}

-- ---- a question as a record

-- it is asked, where enough is lent, the block holds h and the question names what there is
pub question_asks :
    (m : Buffers) (h : Held) (q : Question) → short m ≡ false → Holding m.block h → T (is_question q) → Wide q → Asking m (question_record q) h q
unfolding bytes little said_by lengths_of
question_asks m h (Question.Holds (Has a A) i) e H t f = record {
  block = H;
  accepted = record {
    passes = rw (e, true_of (is_statement (Has a A)) t);
    left = omega arith;
    says = ap (λ z. Asks (Question.Holds (Has a A) z)) (signed_read w64 8 refl i f);
  };
}
question_asks m h (Question.Holds (Linked a r b) i) e H t f = record {
  block = H;
  accepted = record {
    passes = rw (e, true_of (is_statement (Linked a r b)) t);
    left = omega arith;
    says = ap (λ z. Asks (Question.Holds (Linked a r b) z)) (signed_read w64 8 refl i f);
  };
}
question_asks m h (Question.Spans a A) e H t f = span_asks m a A h e H t

-- a moved question names the same
asked_moved : (f : ℤ → ℤ) (q : Question) → T (is_question q) → T (is_question (move_question f q))
asked_moved f (Question.Holds x i) t = t
asked_moved f (Question.Spans a A) t = t

-- ---- answers moved by any map

-- a reply and the moved one, whatever is held and lent
reply_moves :
    (g : List Run → List Run) → ((rs : List Run) → length (g rs) ≡ length rs) → (h k : Held) (m n : Buffers) (u v : ℕ) (r : Reply) →
    TellsMoved g (replied h m u r) (replied k n v (move_reply g r))
reply_moves g same h k m n u v (Contradiction a) = record { answer = refl; spans = λ l e. differ (cc) }
reply_moves g same h k m n u v (Answered Yes) = record { answer = refl; spans = λ l e. differ (cc) }
reply_moves g same h k m n u v (Answered No) = record { answer = refl; spans = λ l e. differ (cc) }
reply_moves g same h k m n u v (Answered (Spans rs)) = record {
  answer = ap Answer.Spans (sym (same rs));
  spans = λ l e.
      let f : length rs ≡ l = cc in
      record {
        runs = rs;
        number = f;
        written = take_at (flat rs) (drop (length (flat rs)) m.spans) (2 * l) (flat_length rs ∙ ap (λ x. 2 * x) f);
        moved = take_at (flat (g rs)) (drop (length (flat (g rs))) n.spans) (2 * l) (flat_length (g rs) ∙ ap (λ x. 2 * x) (same rs ∙ f));
      };
}

-- what a reply shows
reply_shown : (h : Held) (m : Buffers) (u : ℕ) (r : Reply) → result_of (replied h m u r) ≡ shown r u
reply_shown h m u (Contradiction a) = refl
reply_shown h m u (Answered Yes) = refl
reply_shown h m u (Answered No) = refl
reply_shown h m u (Answered (Spans rs)) =
    ap (λ s. record { answer = Answer.Spans (length rs); used = u; pairs = s })
    (take_at (flat rs) (drop (length (flat rs)) m.spans) (2 * length rs) (flat_length rs))

module _ (f : ℤ → ℤ) (g : List Run → List Run) (same : (rs : List Run) → length (g rs) ≡ length rs) (h k : Held) where
  -- where the answers of k are those of h, moved, so are the calls'
  call_moves :
      (m n : Buffers) (s t : List ℕ) (q : Question) → answer k (move_question f q) ≡ move_reply g (answer h q) → Asking m s h q →
      Asking n t k (move_question f q) → TellsMoved g (call m s) (call n t)
  call_moves m n s t q e a b =
      subst (λ (r : After). TellsMoved g r (call n t)) (sym (asked_call m s h q a))
      (subst (λ (r : After). TellsMoved g (replied h m (length_field s + 2) (answer h q)) r)
      (sym (asked_call n t k (move_question f q) b ∙ ap (replied k n (length_field t + 2)) e))
      (reply_moves g same h k m n (length_field s + 2) (length_field t + 2) (answer h q)))

  -- and such a call shows what h decides at the depth before the move, which may be any integer
  decided_moves :
      (n : Buffers) (t : List ℕ) (q : Question) (r : Reply) → answer k (move_question f q) ≡ move_reply g (answer h q) → InRange h → Decides h q r →
      Asking n t k (move_question f q) → result_of (call n t) ≡ shown (move_reply g r) (length_field t + 2)
  decided_moves n t q r e R d b =
      let u = length_field t + 2 in
      ap result_of (asked_call n t k (move_question f q) b ∙ ap (replied k n u) (e ∙ ap (move_reply g) ((decides_exactly h R q r).1 d)))
      ∙ reply_shown k n u (move_reply g r)

  span_moves :
      (m n : Buffers) (a A : ℕ) → let q = Question.Spans a A in answer k q ≡ move_reply g (answer h q) → short m ≡ false → Holding m.block h →
      short n ≡ false → Holding n.block k → T (is_question q) → TellsMoved g (span_call m a A) (span_call n a A)
  span_moves m n a A e l H p K t =
      let s = spans_record a A in
      let w = call_moves m n s s (Question.Spans a A) e (span_asks m a A h l H t) (span_asks n a A k p K t) in
      subst (λ (r : After). TellsMoved g r (span_call n a A)) (sym (span_as_record m a A))
      (subst (λ (r : After). TellsMoved g (unused (call m s)) r) (sym (span_as_record n a A)) (record { answer = w.answer; spans = w.spans }))

-- ---- what a moved answer leaves open: nothing

-- pairs are of one list of runs
flat_one : (rs ss : List Run) → flat rs ≡ flat ss → rs ≡ ss
unfolding flat
flat_one [] [] e = refl
flat_one [] (s ∷ ss) e = let z : ⊥ = omega (arith, ap length e) in absurd z
flat_one (r ∷ rs) [] e = let z : ⊥ = omega (arith, ap length e) in absurd z
flat_one (r ∷ rs) (s ∷ ss) e =
    let t : r.top ≡ s.top = ap (λ l. get_or l 0 (pos 0)) e in
    let b : r.bottom ≡ s.bottom = ap (λ l. get_or l 1 (pos 0)) e in
    let d = flat_one rs ss (ap (drop 2) e) in
    λ i. run (t i) (b i) ∷ d i

-- two calls that tell what a third does, moved, tell the same
pub moved_one : (g : List Run → List Run) (r k l : After) → TellsMoved g r k → TellsMoved g r l → Tells_same k l
moved_one g r k l x y = record {
  answer = sym x.answer ∙ y.answer;
  spans = λ n e.
      let v = x.spans n (x.answer ∙ e) in
      let w = y.spans n (x.answer ∙ e) in
      v.moved ∙ (ap (λ rs. flat (g rs)) (flat_one v.runs w.runs (sym v.written ∙ w.written)) ∙ sym w.moved);
}

-- ---- the shift

module _ (c : ℤ) (h : Held) where
  -- both limits hold, so every answer of what is then held is the earlier one, moved
  shift_moves : T (limits h) → T (limits (shifted c h)) → (q : Question) → answer (shifted c h) (move_question (by c) q) ≡ move_reply (shift_runs c) (answer h q)
  shift_moves l k = shift_answers c h (in_range h (limited h l)) (in_range (shifted c h) (limited (shifted c h) k))

  shift_same : (rs : List Run) → length (shift_runs c rs) ≡ length rs
  shift_same rs = length-map rs (shift_run c)

  -- 02, Slip 9: of any two calls that ask, one on h and one on h moved by c: the answer at d + c is the answer at d; whatever is lent, and follows in the input
  pub shift_tells :
      (m n : Buffers) (s t : List ℕ) (q : Question) → Asking m s h q → Asking n t (shifted c h) (move_question (by c) q) →
      TellsMoved (shift_runs c) (call m s) (call n t)
  shift_tells m n s t q a b = call_moves (by c) (shift_runs c) shift_same h (shifted c h) m n s t q (shift_moves a.block.within b.block.within q) a b

  -- and of the span call
  pub shift_spans :
      (m n : Buffers) (a A : ℕ) → short m ≡ false → Holding m.block h → short n ≡ false → Holding n.block (shifted c h) →
      T (is_question (Question.Spans a A)) → TellsMoved (shift_runs c) (span_call m a A) (span_call n a A)
  shift_spans m n a A l H p K t =
      span_moves (by c) (shift_runs c) shift_same h (shifted c h) m n a A (shift_moves H.within K.within (Question.Spans a A)) l H p K t

  module _ (m : Buffers) (H : Holding m.block h) where
    -- 02, Slip 9: an accepted shift is done, and the block then holds what was held, moved
    pub shift_holds : (s : List ℕ) → Accepted h (feeding m s) (Shifts c) → ((call m s).answer ≡ Answer.Done) × Holding (call m s).buffers.block (shifted c h)
    shift_holds s a =
        let (k, b, K) = call_steps h m H s in
        let (r, e) = book_one h (feeding m s) b (moved a) in
        (ap (λ (x : Result). x.answer) r, subst (Holding (call m s).buffers.block) e K)

    -- 02, Slip 9, whole: after an accepted kind 20 by c, for every question whose depth d and whose d + c are 64-bit numbers: asked of the block as the shift
    -- left it, at d + c, it is answered as before the shift at d
    pub after_shift :
        (s : List ℕ) → Accepted h (feeding m s) (Shifts c) → (q : Question) → T (is_question q) → Wide q → Wide (move_question (by c) q) →
        (a b : Buffers) → short a ≡ false → Holding a.block h → short b ≡ false → b.block ≡ (call m s).buffers.block →
        TellsMoved (shift_runs c) (call a (question_record q)) (call b (question_record (move_question (by c) q)))
    after_shift s x q t f g a b l A p e =
        let K = subst (λ v. Holding v (shifted c h)) (sym e) (shift_holds s x).1 in
        shift_tells a b (question_record q) (question_record (move_question (by c) q)) q (question_asks a h q l A t f)
        (question_asks b (shifted c h) (move_question (by c) q) p K (asked_moved (by c) q t) g)

    -- and for every integer d: what was decided at d before the shift is what is shown at d + c, where that is a 64-bit number
    pub after_shift_decided :
        (s : List ℕ) → Accepted h (feeding m s) (Shifts c) → (q : Question) (r : Reply) → Decides h q r → T (is_question q) →
        Wide (move_question (by c) q) → (b : Buffers) → short b ≡ false → b.block ≡ (call m s).buffers.block →
        let t = question_record (move_question (by c) q) in result_of (call b t) ≡ shown (move_reply (shift_runs c) r) (length_field t + 2)
    after_shift_decided s x q r d t g b p e =
        let K = subst (λ v. Holding v (shifted c h)) (sym e) (shift_holds s x).1 in
        decided_moves (by c) (shift_runs c) shift_same h (shifted c h) b (question_record (move_question (by c) q)) q r
        (shift_moves H.within K.within q) (in_range h (limited h H.within)) d
        (question_asks b (shifted c h) (move_question (by c) q) p K (asked_moved (by c) q t) g)

    -- the same of the span call
    pub after_shift_spans :
        (s : List ℕ) → Accepted h (feeding m s) (Shifts c) → (a A : ℕ) → T (is_question (Question.Spans a A)) → (x y : Buffers) → short x ≡ false →
        Holding x.block h → short y ≡ false → y.block ≡ (call m s).buffers.block → TellsMoved (shift_runs c) (span_call x a A) (span_call y a A)
    after_shift_spans s v a A t x y l X p e = shift_spans x y a A l X p (subst (λ b. Holding b (shifted c h)) (sym e) (shift_holds s v).1) t

-- ---- when a shift is done

-- what the rows of a shift come to
shift_rows : (c : ℤ) (h : Held) → Narrow c → tested (table false false h (shift_record c)) ≡ tested (test (not (stays c h)) 8 ∷ [])
unfolding bytes little said_by lengths_of
shift_rows c h f = ap (λ z. tested (test (not (stays z h)) 8 ∷ [])) (signed_read w32 4 refl c f)

module _ (m : Buffers) (h : Held) (c : ℤ) (l : short m ≡ false) (H : Holding m.block h) (f : Narrow c) where
  -- where no depth leaves its range it is accepted
  pub shift_accepts : T (stays c h) → Accepted h (feeding m (shift_record c)) (Shifts c)
  unfolding bytes little said_by lengths_of
  shift_accepts t = record {
    passes =
        ap (λ v. tested (table v false h (shift_record c))) l
        ∙ (shift_rows c h f ∙ ap (λ v. tested (test (not v) 8 ∷ [])) (true_of (stays c h) t));
    left = omega arith;
    says = ap Shifts (signed_read w32 4 refl c f);
  }

  -- what its refusals go by
  shift_tested : tested (rows m (shift_record c)) ≡ tested (test (not (stays c h)) 8 ∷ [])
  shift_tested =
      let (d, g) = held_in m.block h H in
      ap (λ v. tested (table v (not (good m.block)) (read_held m.block) (shift_record c))) l
      ∙ (ap (λ v. tested (table false (not v) (read_held m.block) (shift_record c))) g
      ∙ (ap (λ (k : Held). tested (table false false k (shift_record c))) d ∙ shift_rows c h f))

  -- 02, Slip 9: a shift is done exactly if no depth leaves its range, and else refused with 8; no refusal changes anything (`refused_keeps`)
  pub shift_exactly :
      (((call m (shift_record c)).answer ≡ Answer.Done) ↔ T (stays c h)) × (((call m (shift_record c)).answer ≡ Answer.Refused 8) ↔ (T (stays c h) → ⊥))
  shift_exactly = go (stays c h) refl
    where
      eight : stays c h ≡ false → (call m (shift_record c)).answer ≡ Answer.Refused 8
      eight e = (refused_exactly m (shift_record c) 8).1 (shift_tested ∙ ap (λ v. tested (test (not v) 8 ∷ [])) e)

      done : stays c h ≡ true → (call m (shift_record c)).answer ≡ Answer.Done
      done e = (shift_holds c h m H (shift_record c) (shift_accepts (of_true e))).0

      go : (v : Bool) → stays c h ≡ v →
          (((call m (shift_record c)).answer ≡ Answer.Done) ↔ T (stays c h)) × (((call m (shift_record c)).answer ≡ Answer.Refused 8) ↔ (T (stays c h) → ⊥))
      go true e = (
        (λ d. of_true e, λ t. done e),
        (λ d. let g = sym (done e) ∙ d in differ (cc), λ n. absurd (n (of_true e))),
      )
      go false e = (
        (λ d. let g = sym (eight e) ∙ d in differ (cc), λ t. absurd (subst T e t)),
        (λ d t. subst T e t, λ n. eight e),
      )

-- 02, Slip 9: with nothing to move it is done, and the block holds what it held
pub shift_nothing :
    (m : Buffers) (h : Held) (c : ℤ) → short m ≡ false → Holding m.block h → Narrow c → h.marks ≡ [] → hole_in h ≡ Whole →
    ((call m (shift_record c)).answer ≡ Answer.Done) × Holding (call m (shift_record c)).buffers.block h
unfolding every
shift_nothing m h c l H f e d =
    let t : T (stays c h) = rw (e, d) tt in
    let (r, K) = shift_holds c h m H (shift_record c) (shift_accepts m h c l H f t) in
    (r, subst (Holding (call m (shift_record c)).buffers.block) (shift_none c h e d) K)

-- an accepted shift is taken back by the opposite one: it is accepted, and the block then holds what it held at first
pub shift_undone :
    (m : Buffers) (s : List ℕ) (h : Held) (c : ℤ) → Holding m.block h → Accepted h (feeding m s) (Shifts c) → (n : Buffers) → short n ≡ false →
    n.block ≡ (call m s).buffers.block → Narrow (neg_ℤ c) →
    ((call n (shift_record (neg_ℤ c))).answer ≡ Answer.Done) × Holding (call n (shift_record (neg_ℤ c))).buffers.block h
shift_undone m s h c H a n l e f =
    let K = subst (λ v. Holding v (shifted c h)) (sym e) (shift_holds c h m H s a).1 in
    let back = shift_back c h in
    let t = shift_fits (neg_ℤ c) (shifted c h) (limited (shifted (neg_ℤ c) (shifted c h)) (subst (λ k. T (limits k)) (sym back) H.within)) in
    let (r, J) = shift_holds (neg_ℤ c) (shifted c h) n K (shift_record (neg_ℤ c)) (shift_accepts n (shifted c h) (neg_ℤ c) l K f t) in
    (r, subst (Holding (call n (shift_record (neg_ℤ c))).buffers.block) back J)

-- ---- the mirror

module _ (h : Held) where
  mirror_moves :
      T (limits h) → T (limits (mirrored h)) → (q : Question) → answer (mirrored h) (move_question neg_ℤ q) ≡ move_reply mirror_runs (answer h q)
  mirror_moves l k = mirror_answers h (in_range h (limited h l)) (in_range (mirrored h) (limited (mirrored h) k))

  mirror_same : (rs : List Run) → length (mirror_runs rs) ≡ length rs
  mirror_same rs = length-reverse (map mirror_run rs) ∙ length-map rs mirror_run

  -- 02, Slip 9: where all mirrored depths are in range, there is a block that holds the mirrored lists
  pub mirror_held : T (limits h) → T (mirrors h) → Holding (encode (mirrored h)) (mirrored h)
  mirror_held l t =
      let w = mirror_limited h t (limited h l) in
      record { within = of_limited (mirrored h) w; encoded = take_all SIZE (encode (mirrored h)) (omega (arith, laws.length_encode (mirrored h) w)) }

  -- 02, Slip 9: of any two calls that ask, one on h and one on the mirrored lists: the answer at -d is the answer at d
  pub mirror_tells :
      (m n : Buffers) (s t : List ℕ) (q : Question) → Asking m s h q → Asking n t (mirrored h) (move_question neg_ℤ q) →
      TellsMoved mirror_runs (call m s) (call n t)
  mirror_tells m n s t q a b = call_moves neg_ℤ mirror_runs mirror_same h (mirrored h) m n s t q (mirror_moves a.block.within b.block.within q) a b

  -- so for every question whose depth d and whose -d are 64-bit numbers, on blocks that hold h and the mirrored lists
  pub in_the_mirror :
      (q : Question) → T (is_question q) → Wide q → Wide (move_question neg_ℤ q) → (a b : Buffers) → short a ≡ false → Holding a.block h →
      short b ≡ false → Holding b.block (mirrored h) → TellsMoved mirror_runs (call a (question_record q)) (call b (question_record (move_question neg_ℤ q)))
  in_the_mirror q t f g a b l A p B =
      mirror_tells a b (question_record q) (question_record (move_question neg_ℤ q)) q (question_asks a h q l A t f)
      (question_asks b (mirrored h) (move_question neg_ℤ q) p B (asked_moved neg_ℤ q t) g)

  -- and for every integer d: what h decides at d is what is shown at -d, where that is a 64-bit number
  pub mirror_decided :
      T (limits h) → (q : Question) (r : Reply) → Decides h q r → T (is_question q) → Wide (move_question neg_ℤ q) → (b : Buffers) → short b ≡ false →
      Holding b.block (mirrored h) →
      let t = question_record (move_question neg_ℤ q) in result_of (call b t) ≡ shown (move_reply mirror_runs r) (length_field t + 2)
  mirror_decided l q r d t g b p B =
      decided_moves neg_ℤ mirror_runs mirror_same h (mirrored h) b (question_record (move_question neg_ℤ q)) q r (mirror_moves l B.within q)
      (in_range h (limited h l)) d (question_asks b (mirrored h) (move_question neg_ℤ q) p B (asked_moved neg_ℤ q t) g)

  -- and of the span call
  pub mirror_spans :
      (m n : Buffers) (a A : ℕ) → short m ≡ false → Holding m.block h → short n ≡ false → Holding n.block (mirrored h) →
      T (is_question (Question.Spans a A)) → TellsMoved mirror_runs (span_call m a A) (span_call n a A)
  mirror_spans m n a A l H p K t =
      span_moves neg_ℤ mirror_runs mirror_same h (mirrored h) m n a A (mirror_moves H.within K.within (Question.Spans a A)) l H p K t
