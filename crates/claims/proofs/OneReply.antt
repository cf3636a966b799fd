-- All that is claimed of a record call leaves nothing open: the call's reply meets it, and whatever reply does is the call's. Assumes nothing.
use Rattle.std.specs.Prelude.{◌≡◌, refl, ◌⊎◌, not, List, ◌∷◌, ◌++◌, ℕ, ◌<◌, ◌+◌, ◌*◌, ◌-◌, ◌/◌, ◌%◌, get_or, take, drop, Ok, Err}
use Rattle.std.proofs.Common.{sym, ap, ◌∙◌, subst, inl, inr, ⊎_elim, arith, take-append-drop, get_or-drop, ext_get_or}
use Rattle.std.proofs.Math.Decide.{dec_lt}
use Rattle.terms.specs.declared.Answer.{Answer}
use Rattle.terms.specs.declared.Question.{Question}
use Rattle.terms.specs.Limits.{ITEMS, INTERVALS, LABEL_ENTRIES, LINK_ENTRIES}
use Rattle.terms.specs.Pairs.{pair_count}
use Rattle.terms.specs.Held.{Held}
use Rattle.refusals.specs.Refusals.{Tested, test, tested}
use Rattle.places.specs.Layout.{SIZE, encode}
use Rattle.block.specs.Block.{read_held, good}
use Rattle.commands.specs.Buffers.{Buffers, lent, After, after, short}
use Rattle.commands.specs.Call.{call}
use Rattle.claims.specs.Table.{Asks, input_rows, rows}
use Rattle.claims.specs.Reference.{
  Fed,
  Result,
  Accepted,
  Book,
  refused,
  ended,
  emptied,
  added,
  put,
  struck,
  counted,
  confined,
  moved,
  restricted,
  answered,
}
use Rattle.claims.specs.Lives.{result_of}
use Rattle.claims.specs.Memory.{Keeps, WrittenIn}
use Rattle.claims.specs.Exact.{feeding, Holding, Asking}
use Rattle.claims.specs.Claimed.{Claimed}
use Rattle.claims.proofs.Kept.{passed, twice}
use Rattle.claims.proofs.Refused.{refused_exactly, call_used}
use Rattle.claims.proofs.Total.{call_keeps}
use Rattle.claims.proofs.Booked.{book_one}
use Rattle.claims.proofs.Whole.{good_holding}
use Rattle.claims.proofs.Lent.{call_lent}
use Rattle.claims.proofs.Exactly.{call_exact}
use Rattle.claims.proofs.OneCall.{call_steps}
use Rattle.claims.proofs.Determined.{exact_labels, exact_links}

-- the call's reply meets it
pub call_claimed : (m : Buffers) (s : List ℕ) → Claimed m s (call m s)
call_claimed m s = record {
  refuses = refused_exactly m s;
  uses = (call_used m s).0;
  keeps = call_keeps m s;
  lends = call_lent m s;
  steps = λ h H. call_steps h m H s;
  exact = λ h q a. call_exact m s h q a;
}

-- ---- no other does

-- a list is its first n and the rest
parts_one : {A : Type 0} (n : ℕ) (x y : List A) → take n x ≡ take n y → drop n x ≡ drop n y → x ≡ y
parts_one n x y e f = sym (take-append-drop n x) ∙ ((λ i. e i ++ f i) ∙ take-append-drop n y)

-- a table by its entries and what lies behind them
table_one :
    (n : ℕ) (m x y : List ℕ) → WrittenIn n m x → WrittenIn n m y → ((e : ℕ) → e < n → get_or x e 0 ≡ get_or y e 0) → x ≡ y
table_one n m x y X Y entries = ext_get_or 0 x y (X.same_length ∙ sym Y.same_length) (λ e l. at e (dec_lt e n))
  where
    at : (e : ℕ) → Dec (e < n) → get_or x e 0 ≡ get_or y e 0
    at e (yes l) = entries e l
    at e (no k) =
        let d : n + (e - n) ≡ e = omega arith in
        subst (λ p. get_or x p 0 ≡ get_or y p 0) d
        (sym (get_or-drop n x (e - n) 0) ∙ (ap (λ l. get_or l (e - n) 0) (X.same_tail ∙ sym Y.same_tail) ∙ get_or-drop n y (e - n) 0))

-- the answers after which the tables are as lent
abbrev pub Quiet : Answer → Type 0
Quiet a = (a ≡ Answer.Done) ⊎ ((a ≡ Answer.End) ⊎ ((n : ℕ) × (a ≡ Answer.Refused n)))

pub quiet_tables : (a : Answer) (m x : Buffers) → Keeps a m x → Quiet a → (x.labels ≡ m.labels) × (x.links ≡ m.links)
quiet_tables a m x K (inl e) = K.tables e
quiet_tables a m x K (inr (inl e)) = let f = K.ended e in (ap (λ (b : Buffers). b.labels) f, ap (λ (b : Buffers). b.links) f)
quiet_tables a m x K (inr (inr w)) = let f = K.refused w.0 w.1 in (ap (λ (b : Buffers). b.labels) f, ap (λ (b : Buffers). b.links) f)

-- a step of the book is one of those, or a question
pub by_step : {h k : Held} {f : Fed} {r : Result} → Book h f r k → Quiet r.answer ⊎ ((q : Question) × Accepted h f (Asks q))
by_step (refused {n = n} e) = inl (inr (inr (n, refl)))
by_step (ended e l) = inl (inr (inl refl))
by_step (emptied a) = inl (inl refl)
by_step (added a) = inl (inl refl)
by_step (put a) = inl (inl refl)
by_step (struck a) = inl (inl refl)
by_step (counted a) = inl (inl refl)
by_step (confined a) = inl (inl refl)
by_step (moved a) = inl (inl refl)
by_step (restricted a) = inl (inl refl)
by_step (answered {q = q} r a d) = inr (q, a)

-- where no row applies the block holds what is read off it
pub passed_holds : (m : Buffers) (s : List ℕ) → tested (rows m s) ≡ Ok tt → Holding m.block (read_held m.block)
passed_holds m s e =
    let b = not (good m.block) in
    let w = passed (short m) 1 (test b 2 ∷ input_rows (read_held m.block) s) e in
    let v = passed b 2 (input_rows (read_held m.block) s) w.1 in
    good_holding m.block (twice (good m.block) v.0)

module _ (m : Buffers) (s : List ℕ) (r k : After) (R : Claimed m s r) (K : Claimed m s k) where
  refused_one : (n : ℕ) → tested (rows m s) ≡ Err n → r ≡ k
  refused_one n e =
      let a = (R.refuses n).1 e in
      let b = (K.refuses n).1 e in
      let answers = a ∙ sym b in
      let used = R.uses n a ∙ sym (K.uses n b) in
      let memory = R.keeps.refused n a ∙ sym (K.keeps.refused n b) in
      λ i. after (answers i) (used i) (memory i)

  module _ (h : Held) (H : Holding m.block h) where
    results : result_of r ≡ result_of k
    results = (book_one h (feeding m s) (R.steps h H).1 (K.steps h H).1).0

    answers : r.answer ≡ k.answer
    answers = ap (λ (x : Result). x.answer) results

    blocks : r.buffers.block ≡ k.buffers.block
    blocks =
        let held = (book_one h (feeding m s) (R.steps h H).1 (K.steps h H).1).1 in
        parts_one SIZE r.buffers.block k.buffers.block ((R.steps h H).2.encoded ∙ (ap encode held ∙ sym (K.steps h H).2.encoded))
        (R.lends.block.same_tail ∙ sym K.lends.block.same_tail)

    spans : r.buffers.spans ≡ k.buffers.spans
    spans =
        let n = 2 * pair_count r.answer in
        parts_one n r.buffers.spans k.buffers.spans
        (ap (λ (x : Result). x.pairs) results ∙ ap (λ (a : Answer). take (2 * pair_count a) k.buffers.spans) (sym answers))
        (R.lends.spans.same_tail
        ∙ (ap (λ (a : Answer). drop (2 * pair_count a) m.spans) answers
        ∙ (sym K.lends.spans.same_tail ∙ ap (λ (a : Answer). drop (2 * pair_count a) k.buffers.spans) (sym answers))))

    asked_tables : (q : Question) → Accepted h (feeding m s) (Asks q) → (r.buffers.labels ≡ k.buffers.labels) × (r.buffers.links ≡ k.buffers.links)
    asked_tables q a =
        let asks : Asking m s h q = record { block = H; accepted = a } in
        let x = R.exact h q asks in
        let y = K.exact h q asks in (
          table_one LABEL_ENTRIES m.labels r.buffers.labels k.buffers.labels R.lends.labels K.lends.labels (λ e l.
              let at : (e / INTERVALS) * INTERVALS + e % INTERVALS ≡ e = omega arith in
              subst (λ p. get_or r.buffers.labels p 0 ≡ get_or k.buffers.labels p 0) at
              (exact_labels h q r k x y (e / INTERVALS) (e % INTERVALS) (omega arith) (omega arith))),
          table_one LINK_ENTRIES m.links r.buffers.links k.buffers.links R.lends.links K.lends.links (λ e l.
              let at : ((e / INTERVALS / ITEMS) * ITEMS + e / INTERVALS % ITEMS) * INTERVALS + e % INTERVALS ≡ e = omega arith in
              subst (λ p. get_or r.buffers.links p 0 ≡ get_or k.buffers.links p 0) at
              (exact_links h q r k x y (e / INTERVALS / ITEMS) (e / INTERVALS % ITEMS) (e % INTERVALS) (omega arith) (omega arith) (omega arith))),
        )

    tables : (r.buffers.labels ≡ k.buffers.labels) × (r.buffers.links ≡ k.buffers.links)
    tables = ⊎_elim
        (λ z.
        let x = quiet_tables r.answer m r.buffers R.keeps z in
        let y = quiet_tables k.answer m k.buffers K.keeps (subst Quiet answers z) in
        (x.0 ∙ sym y.0, x.1 ∙ sym y.1))
        (λ w. asked_tables w.0 w.1)
        (by_step (R.steps h H).1)

    accepted_one : r ≡ k
    accepted_one =
        let used = ap (λ (x : Result). x.used) results in
        let labels = tables.0 in
        let links = tables.1 in
        λ i. after (answers i) (used i) (lent (blocks i) (labels i) (links i) (spans i))

  claimed_one : r ≡ k
  claimed_one = go (tested (rows m s)) refl
    where
      go : (t : Tested) → tested (rows m s) ≡ t → r ≡ k
      go (Err n) e = refused_one n e
      go (Ok passed) e =
          accepted_one (read_held m.block) (passed_holds m s e)

-- whatever meets all that is claimed is what the call gives: answer, bytes used and every lent number
pub determined : (m : Buffers) (s : List ℕ) (r : After) → Claimed m s r → r ≡ call m s
determined m s r R = claimed_one m s r (call m s) R (call_claimed m s)
