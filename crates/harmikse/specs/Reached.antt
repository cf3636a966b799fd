-- What the program has lent after any number of records: a block of limited lists, tables and a span buffer of the least lengths. So the
-- numbers 1 and 2 never arise, and a record uses a byte at least. What is taken from the claims is taken here. Assumes nothing.
use Rattle.std.proofs.Math.Path.{◌≡◌, sym, ap}
use Rattle.std.proofs.Common.{◌∙◌, subst, inl, inr, true≢false, append-nil, le-ltb, take_all, take_at}
use Rattle.std.specs.Prelude.{◌⊎◌, true, false, not, List, [], ◌∷◌, ◌++◌, ℕ, ◌≤◌, T, pos, length, take, drop}
use mathlib.Core.List.Memᴰ
use native.Mathlib.Omega.{arith}
use Rattle.std.proofs.lemmas.List.{length-replicate}
use Rattle.terms.specs.declared.Answer.{Answer}
use Rattle.terms.specs.Tests.{true_of}
use Rattle.terms.specs.Pairs.{pair_count}
use Rattle.terms.specs.Limits.{LABEL_ENTRIES, LINK_ENTRIES, SPAN_NUMBERS}
use Rattle.refusals.specs.Refusals.{rank, Test, test}
use Rattle.terms.specs.Held.{◌∈◌, Held, empty_held}
use Rattle.terms.proofs.Limited.{Limited, of_limited}
use Rattle.places.specs.Layout.{SIZE, encode}
use Rattle.places.proofs.Sizes.{length_zeros}
use Rattle.block.specs.Block.{read_held, good}
use Rattle.records.specs.Records.{parse}
use Rattle.commands.specs.Call.{judged, effect, call}
use Rattle.commands.specs.Buffers.{Buffers, lent, short}
use Rattle.claims.proofs.Kept.{empty_limited}
use Rattle.claims.specs.Lives.{Lending, lent_to, fed}
use Rattle.claims.proofs.Told.{outcome}
use Rattle.claims.proofs.Life.{Then, call_then}
use Rattle.claims.proofs.Whole.{laws}
use Rattle.claims.proofs.Lent.{call_lent}
use Rattle.claims.proofs.Ascending.{in_range}
use Rattle.claims.proofs.Refused.{rows_ascend, refused_lowest, two_by_block}
use Rattle.claims.specs.Table.{input_rows}
use Rattle.harmikse.specs.Program.{fresh, Reaches, begun, handled}
use Rattle.harmikse.specs.Uses.{Within, record_uses}

-- what is lent
pub record Fit (m : Buffers) : Type 0 where
  pub held : Held
  pub limited : Limited held
  pub block : m.block ≡ encode held
  pub labels : length m.labels ≡ LABEL_ENTRIES
  pub links : length m.links ≡ LINK_ENTRIES
  pub spans : length m.spans ≡ SPAN_NUMBERS

fresh_fit : Fit fresh
unfolding fresh
fresh_fit = record {
  held = empty_held;
  limited = empty_limited;
  block = sym laws.encode_empty;
  labels = length_zeros LABEL_ENTRIES;
  links = length_zeros LINK_ENTRIES;
  spans = length-replicate SPAN_NUMBERS (pos 0);
}

module _ (m : Buffers) (w : Fit m) where
  size : length m.block ≡ SIZE
  size = ap length w.block ∙ laws.length_encode w.held w.limited

  -- the block as the claims lend it: nothing behind it
  abbrev lending : Lending
  lending = record { labels = m.labels; links = m.links; spans = m.spans; lend = SIZE; behind = [] }

  lent_same : lent_to m.block lending ≡ m
  lent_same =
      let e : m.block ++ [] ≡ m.block = append-nil m.block in
      let all : take SIZE (m.block ++ []) ≡ m.block = ap (take SIZE) e ∙ take_all SIZE m.block (omega (arith, size)) in
      ap (λ b. lent b m.labels m.links m.spans) all

  -- a call leaves such again
  call_fit : (s : List ℕ) → Fit (call m s).buffers
  call_fit s =
      let then =
      subst (λ x. Then laws w.held m.block lending (outcome w.held (fed lending s)) (call x s)) lent_same
      (call_then laws w.held w.limited m.block w.block lending s) in
      let same = call_lent m s in
      let b = (call m s).buffers.block in
      record {
        held = then.holds_then;
        limited = then.limits-then;
        block = sym (take_at b (drop SIZE (m.block ++ [])) SIZE (same.block.same_length ∙ size)) ∙ then.memory;
        labels = same.labels.same_length ∙ w.labels;
        links = same.links.same_length ∙ w.links;
        spans = same.spans.same_length ∙ w.spans;
      }

  -- enough is lent, and the block is good
  long : short m ≡ false
  long =
      simp (
        le-ltb (length m.block) SIZE (omega (arith, size)),
        le-ltb (length m.labels) LABEL_ENTRIES (omega (arith, w.labels)),
        le-ltb (length m.links) LINK_ENTRIES (omega (arith, w.links)),
        le-ltb (length m.spans) SPAN_NUMBERS (omega (arith, w.spans)),
      )

  block_good : good m.block ≡ true
  block_good =
      ap good (w.block ∙ sym (append-nil (encode w.held)))
      ∙ true_of (good (encode w.held ++ [])) (laws.good_encode w.held [] (of_limited w.held w.limited))

  -- so a call is judged by the bytes left
  call_is : (s : List ℕ) → call m s ≡ effect (read_held m.block) m (judged (read_held m.block) (parse (read_held m.block).settings s))
  unfolding call
  call_is s = rw (long, block_good)

  call_uses : (s : List ℕ) → ((call m s).answer ≡ Answer.End → ⊥) → Within s (call m s).used
  call_uses s = rw (call_is s) (record_uses (read_held m.block) m s)

  -- ---- the numbers of lent memory never arise

  never_1 : (s : List ℕ) → (call m s).answer ≡ Answer.Refused 1 → ⊥
  unfolding rank
  never_1 s e = let (t, i, a, n) = (refused_lowest m s 1 e).0 in go t a n (Memᴰ.cases_cons i)
    where
      rest : (t : Test) → t.number ≡ 1 → (t ≡ test (not (good m.block)) 2) ⊎ (t ∈ input_rows (read_held m.block) s) → ⊥
      rest t n (inl f) = let z : ◌≡◌ {A = ℕ} 2 1 = sym (ap (λ (v : Test). v.number) f) ∙ n in omega arith
      rest t n (inr i) =
          let w = (in_range (rank 2) (rank 12) (input_rows (read_held m.block) s) (rows_ascend m s).2.2 t i).0 in
          omega (arith, w, ap rank n)

      go :
          (t : Test) → T t.applies → t.number ≡ 1 →
          (t ≡ test (short m) 1) ⊎ (t ∈ (test (not (good m.block)) 2 ∷ input_rows (read_held m.block) s)) → ⊥
      go t a n (inl f) = subst T (ap (λ (v : Test). v.applies) f ∙ long) a
      go t a n (inr i) = rest t n (Memᴰ.cases_cons i)

  never_2 : (s : List ℕ) → (call m s).answer ≡ Answer.Refused 2 → ⊥
  never_2 s e = true≢false (sym block_good ∙ ((two_by_block m s).0 e).1)

reached_fit : {input : List ℕ} {n : ℕ} {m : Buffers} {s : List ℕ} → Reaches input n m s → Fit m
reached_fit begun = fresh_fit
reached_fit (handled {m = m} {s = s} r g) = call_fit m (reached_fit r) s

-- the numbers 1 and 2 never arise
pub never_lent :
    {input : List ℕ} {n : ℕ} {m : Buffers} {s : List ℕ} → Reaches input n m s →
    ((call m s).answer ≡ Answer.Refused 1 → ⊥) × ((call m s).answer ≡ Answer.Refused 2 → ⊥)
never_lent {m = m} {s = s} r = (never_1 m (reached_fit r) s, never_2 m (reached_fit r) s)

-- and each record uses a byte at least, of those left
pub reached_uses :
    {input : List ℕ} {n : ℕ} {m : Buffers} {s : List ℕ} → Reaches input n m s → ((call m s).answer ≡ Answer.End → ⊥) → Within s (call m s).used
reached_uses {m = m} {s = s} r = call_uses m (reached_fit r) s

-- the pairs of an answer fit the span buffer
pub pairs_fit : (m : Buffers) (s : List ℕ) → pair_count (call m s).answer ≤ 97
pairs_fit m s = (call_lent m s).pairs
