-- An input has one line for each number, and one number of lines, which it has. Assumes nothing.
use Rattle.std.specs.Prelude.{◌≡◌, refl, ◌⊎◌, Bool, true, false, not, List, ℕ, zero, suc, ◌≤◌, ◌<◌, T, eqb, ltb, length, drop}
use Rattle.std.proofs.Common.{sym, ap, ◌∙◌, subst, inl, inr, ⊎_elim, arith, ltb-true, ltb-false, eqb→eq, length-drop}
use Rattle.terms.specs.Tests.{of_true, differ}
use Rattle.terms.specs.declared.Answer.{Answer}
use Rattle.commands.specs.Call.{call}
use Rattle.commands.specs.Buffers.{Buffers}
use Rattle.lines.specs.Lines.{line_text}
use Rattle.harmikse.specs.Program.{LIMIT, too_long_line, goes_on, Reaches, begun, handled, Prints, too_long, line_of, Whole, only_too_long, at_end, at_refusal_3}
use Rattle.harmikse.specs.Reached.{reached_uses}

-- which of two numbers is less
compared : (n k : ℕ) → (n < k) ⊎ ((n ≡ k) ⊎ (k < n))
compared n k = go (ltb n k) (ltb k n) refl refl
  where
    go : (a b : Bool) → ltb n k ≡ a → ltb k n ≡ b → (n < k) ⊎ ((n ≡ k) ⊎ (k < n))
    go true b e f = inl (ltb-true n k e)
    go false true e f = inr (inr (ltb-true k n f))
    go false false e f = inr (inl (omega (arith, ltb-false n k e, ltb-false k n f)))

-- after n records there is one memory and one rest
reaches_one : {input : List ℕ} {n : ℕ} {m k : Buffers} {s t : List ℕ} → Reaches input n m s → Reaches input n k t → (m ≡ k) × (s ≡ t)
reaches_one begun begun = (refl, refl)
reaches_one (handled r g) (handled q h) =
    let (e, f) = reaches_one r q in (λ i. (call (e i) (f i)).buffers, λ i. drop (call (e i) (f i)).used (f i))

-- and one answer
answer_one :
    {input : List ℕ} {n l : ℕ} {m k : Buffers} {s t : List ℕ} → Reaches input n m s → Reaches input l k t → n ≡ l → (call m s).answer ≡ (call k t).answer
answer_one {input} {m = m} {s = s} r q e =
    let (f, g) = reaches_one (subst (λ i. Reaches input i m s) e r) q in λ i. (call (f i) (g i)).answer

-- the run goes on from each record before the last
earlier :
    {input : List ℕ} {n l : ℕ} {m k : Buffers} {s t : List ℕ} → Reaches input n m s → Reaches input l k t → l < n → T (goes_on (call k t).answer)
earlier begun q l = let z : ⊥ = omega arith in absurd z
earlier {l = l} {k = k} {t = t} (handled {n = n} r g) q below = go (compared l n) (λ b. earlier r q b)
  where
    go : (l < n) ⊎ ((l ≡ n) ⊎ (n < l)) → (l < n → T (goes_on (call k t).answer)) → T (goes_on (call k t).answer)
    go (inl b) f = f b
    go (inr (inl e)) f = subst (λ a. T (goes_on a)) (sym (answer_one q r e)) g
    go (inr (inr b)) f = let z : ⊥ = omega arith in absurd z

-- it stops at one record
stop_one :
    {input : List ℕ} {n l : ℕ} {m k : Buffers} {s t : List ℕ} → Reaches input n m s → Reaches input l k t →
    (T (goes_on (call m s).answer) → ⊥) → (T (goes_on (call k t).answer) → ⊥) → n ≡ l
stop_one {n = n} {l = l} r q f g = go (compared n l)
  where
    go : (n < l) ⊎ ((n ≡ l) ⊎ (l < n)) → n ≡ l
    go (inl b) = absurd (f (earlier q r b))
    go (inr (inl e)) = e
    go (inr (inr b)) = absurd (g (earlier r q b))

ended : {a : Answer} → a ≡ Answer.End → T (goes_on a) → ⊥
ended e t = subst (λ a. T (goes_on a)) e t

cut : {a : Answer} → a ≡ Answer.Refused 3 → T (goes_on a) → ⊥
cut e t = subst (λ a. T (goes_on a)) e t

-- the answers that stop it differ
not_both : {A : Type 0} {a b : Answer} → a ≡ Answer.End → b ≡ Answer.Refused 3 → a ≡ b → A
not_both e f g = differ (cc)

-- a number has one line
pub line_one : {input : List ℕ} {n : ℕ} {a b : List ℕ} → Prints input n a → Prints input n b → a ≡ b
line_one (too_long l) (too_long k) = refl
line_one (too_long l) (line_of k q g) = let z : ⊥ = omega arith in absurd z
line_one (line_of l r f) (too_long k) = let z : ⊥ = omega arith in absurd z
line_one (line_of {n = n} l r f) (line_of k q g) =
    let (d, e) = reaches_one r q in λ i. line_text (suc n) (call (d i) (e i)).answer (call (d i) (e i)).buffers.spans

-- there is one number of lines
pub whole_one : {input : List ℕ} {n k : ℕ} → Whole input n → Whole input k → n ≡ k
whole_one (only_too_long l) (only_too_long k) = refl
whole_one (only_too_long l) (at_end k q g) = let z : ⊥ = omega arith in absurd z
whole_one (only_too_long l) (at_refusal_3 k q g) = let z : ⊥ = omega arith in absurd z
whole_one (at_end l r f) (only_too_long k) = let z : ⊥ = omega arith in absurd z
whole_one (at_end l r f) (at_end k q g) = stop_one r q (ended f) (ended g)
whole_one (at_end l r f) (at_refusal_3 k q g) = not_both f g (answer_one r q (stop_one r q (ended f) (cut g)))
whole_one (at_refusal_3 l r f) (only_too_long k) = let z : ⊥ = omega arith in absurd z
whole_one (at_refusal_3 l r f) (at_end k q g) = not_both g f (answer_one q r (stop_one q r (ended g) (cut f)))
whole_one (at_refusal_3 l r f) (at_refusal_3 k q g) = ap suc (stop_one r q (cut f) (cut g))

-- no line has a number above it
pub line_within : {input : List ℕ} {n k : ℕ} {a : List ℕ} → Prints input n a → Whole input k → n ≤ k
line_within (too_long l) (only_too_long k) = omega arith
line_within (too_long l) (at_end k q g) = let z : ⊥ = omega arith in absurd z
line_within (too_long l) (at_refusal_3 k q g) = let z : ⊥ = omega arith in absurd z
line_within (line_of l r f) (only_too_long k) = let z : ⊥ = omega arith in absurd z
line_within (line_of {n = n} l r f) (at_end {n = k} h q g) = go (compared n k)
  where
    go : (n < k) ⊎ ((n ≡ k) ⊎ (k < n)) → n < k
    go (inl b) = b
    go (inr (inl e)) = absurd (f (answer_one r q e ∙ g))
    go (inr (inr b)) = absurd (ended g (earlier r q b))
line_within (line_of {n = n} l r f) (at_refusal_3 {n = k} h q g) = go (compared n k)
  where
    go : (n < k) ⊎ ((n ≡ k) ⊎ (k < n)) → suc n ≤ suc k
    go (inl b) = omega arith
    go (inr (inl e)) = omega arith
    go (inr (inr b)) = absurd (cut g (earlier r q b))

-- the memory and the rest after n records
record Stood (input : List ℕ) (n : ℕ) : Type 0 where
  buffers : Buffers
  left : List ℕ
  reached : Reaches input n buffers left

-- the run stood at each record before
here : {input : List ℕ} {n k : ℕ} {m : Buffers} {s : List ℕ} → Reaches input k m s → k ≡ n → Stood input n
here {input} {m = m} {s = s} r e = record { buffers = m; left = s; reached = subst (λ i. Reaches input i m s) e r }

stood : {input : List ℕ} {n k : ℕ} {m : Buffers} {s : List ℕ} → Reaches input k m s → n ≤ k → Stood input n
stood {n = n} begun l = here begun (omega arith)
stood {input} {n = n} (handled {n = k} r g) l = go (compared n (suc k)) (λ b. stood r b)
  where
    go : (n < suc k) ⊎ ((n ≡ suc k) ⊎ (suc k < n)) → (n ≤ k → Stood input n) → Stood input n
    go (inl b) f = f (omega arith)
    go (inr (inl e)) f = here (handled r g) (sym e)
    go (inr (inr b)) f = let z : ⊥ = omega arith in absurd z

-- each number up to it has a line
pub line_some : {input : List ℕ} {n k : ℕ} → Whole input k → n < k → (a : List ℕ) × Prints input (suc n) a
line_some {input} (only_too_long l) b = (too_long_line, subst (λ i. Prints input i too_long_line) (omega arith) (too_long l))
line_some {n} (at_end l r e) b = let w = stood {n = n} r (omega arith) in (_, line_of l w.reached (λ f. ended f (earlier r w.reached b)))
line_some {input} {n} (at_refusal_3 {n = k} l r e) b = go (compared n k)
  where
    last : {a : Answer} → a ≡ Answer.Refused 3 → a ≡ Answer.End → ⊥
    last e f = not_both f e refl

    go : (n < k) ⊎ ((n ≡ k) ⊎ (k < n)) → (a : List ℕ) × Prints input (suc n) a
    go (inl c) = let w = stood {n = n} r (omega arith) in (_, line_of l w.reached (λ f. ended f (earlier r w.reached c)))
    go (inr (inl d)) = let w = here r (sym d) in (_, line_of l w.reached (last (answer_one w.reached r d ∙ e)))
    go (inr (inr c)) = let z : ⊥ = omega arith in absurd z

-- and there is one: each record uses bytes, so that the run ends
answers : (a : Answer) → (a ≡ Answer.End) ⊎ ((a ≡ Answer.Refused 3) ⊎ T (goes_on a))
answers Answer.Done = inr (inr tt)
answers Answer.Yes = inr (inr tt)
answers Answer.No = inr (inr tt)
answers (Answer.Contradiction a) = inr (inr tt)
answers (Answer.Spans n) = inr (inr tt)
answers Answer.End = inl refl
answers (Answer.Refused n) = go (eqb n 3) refl
  where
    go : (b : Bool) → eqb n 3 ≡ b → (Answer.Refused n ≡ Answer.End) ⊎ ((Answer.Refused n ≡ Answer.Refused 3) ⊎ T (not (eqb n 3)))
    go true e = inr (inl (ap Answer.Refused (eqb→eq n 3 (of_true e))))
    go false e = inr (inr (subst (λ b. T (not b)) (sym e) tt))

module _ (input : List ℕ) (few : length input ≤ LIMIT) where
  -- the run stops there, or goes on
  stops : {n : ℕ} {m : Buffers} {s : List ℕ} → Reaches input n m s → ((l : ℕ) × Whole input l) ⊎ T (goes_on (call m s).answer)
  stops {n} {m} {s} r =
      ⊎_elim (λ e. inl (n, at_end few r e)) (λ w. ⊎_elim (λ e. inl (suc n, at_refusal_3 few r e)) (λ g. inr g) w) (answers (call m s).answer)

  -- with at most k bytes left
  ends : (k : ℕ) {n : ℕ} {m : Buffers} {s : List ℕ} → Reaches input n m s → length s ≤ k → (l : ℕ) × Whole input l
  ends zero r b =
      ⊎_elim (λ w. w) (λ g. let u = reached_uses r (λ e. ended e g) in let z : ⊥ = omega (arith, u.some, u.room) in absurd z) (stops r)
  ends (suc k) {m = m} {s = s} r b =
      ⊎_elim (λ w. w)
      (λ g.
      let u = reached_uses r (λ e. ended e g) in ends k (handled r g) (omega (arith, u.some, u.room, length-drop (call m s).used s)))
      (stops r)

pub whole_some : (input : List ℕ) → (n : ℕ) × Whole input n
whole_some input = go (ltb LIMIT (length input)) refl
  where
    go : (b : Bool) → ltb LIMIT (length input) ≡ b → (n : ℕ) × Whole input n
    go true e = (1, only_too_long (ltb-true LIMIT (length input) e))
    go false e = ends input (ltb-false LIMIT (length input) e) (length input) begun (omega arith)
