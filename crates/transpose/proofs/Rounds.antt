-- One stage: a pair is exchanged, and pairs one after the other make runs, runs the whole square.
use mathlib.Core.Path.{◌≡◌, refl, sym, ap, ◌∙◌, subst}
use mathlib.Core.Logic.{◌⊎◌, inl, inr, ⊎_elim}
use mathlib.Core.List.{List}
use Prim.Native.Nat.{ℕ, ◌+◌, ◌*◌, ◌-◌, ◌/◌, ◌%◌, ◌<◌, ◌≤◌}
use native.Mathlib.Nat.{mod-lt, zero-lt-suc, one-mul, zero-mul}
use native.Mathlib.Omega.{arith}
use lib.ListN.{length, get_or, set, length-set}
use lib.Seq.{get_or-set_same, get_or-set_other}
use Rattle.words.specs.Bit.{bit_at}
use Rattle.words.proofs.Bits.{le_or_lt, eq_or_ne}
use Rattle.transpose.specs.declared.Pair.{Pair}
use Rattle.transpose.specs.Transposed.{dot, side, low_of, Block, Stage, Exchanged, RowSwapped, Span, Swapped}

-- the two sides
pub side_cases : (j k : ℕ) → (side j k ≡ 0) ⊎ (side j k ≡ 1)
unfolding side
side_cases j k = let h = mod-lt (k / j) (zero-lt-suc 1) in ⊎_elim (λ (e : k / j % 2 ≡ 0). inl e) (λ ne. inr (omega arith)) (eq_or_ne (k / j % 2) 0)

low_of_low : (j k : ℕ) → side j k ≡ 0 → low_of j k ≡ k
low_of_low j k e = ap (λ (x : ℕ). k - x * j) e ∙ ap (λ (x : ℕ). k - x) (zero-mul j) ∙ (let q : k - 0 ≡ k = omega arith in q)

low_of_high : (j k : ℕ) → side j k ≡ 1 → low_of j k ≡ k - j
low_of_high j k e = ap (λ (x : ℕ). k - x * j) e ∙ ap (λ (x : ℕ). k - x) (one-mul j)

clash : {A : Type 0} (j k : ℕ) → side j k ≡ 0 → side j k ≡ 1 → A
clash j k p q = absurd (let z : ⊥ = omega arith in z)

-- nothing is exchanged yet
pub span_none : (j : ℕ) (a : List ℕ) (from to : ℕ) → to ≤ from → Span j a from to a
span_none j a from to e = record { size = refl; done = λ k l h i. absurd (let z : ⊥ = omega arith in z); rest = λ k l _. refl }

module _ (j m : ℕ) (S : Stage j m) where
  -- the other index of a pair has the same low one
  mate_low : (k : ℕ) → k < 64 → side j k ≡ 0 → low_of j (k + j) ≡ low_of j k
  mate_low k l e = low_of_high j (k + j) (S.low k l e).1 ∙ (let q : (k + j) - j ≡ k = omega arith in q) ∙ sym (low_of_low j k e)

  mate_high : (k : ℕ) → k < 64 → side j k ≡ 1 → low_of j (k - j) ≡ low_of j k
  mate_high k l e = low_of_low j (k - j) (S.high k l e).1 ∙ sym (low_of_high j k e)

  low_side : (k : ℕ) → k < 64 → side j (low_of j k) ≡ 0
  low_side k l = ⊎_elim
      (λ e. ap (λ (x : ℕ). side j x) (low_of_low j k e) ∙ e)
      (λ e. ap (λ (x : ℕ). side j x) (low_of_high j k e) ∙ (S.high k l e).1)
      (side_cases j k)

  -- ---- one pair
  module _ (a : List ℕ) (k : ℕ) (r : Pair) (h : k < 64) (z : side j k ≡ 0) (l : length a ≡ 64) (E : Exchanged j (get_or a k 0) (get_or a (k + j) 0) r) where
    abbrev b : List ℕ
    b = set (set a k r.u) (k + j) r.v

    apart : k ≡ k + j → ⊥
    apart e = clash j k z (ap (λ (x : ℕ). side j x) e ∙ (S.low k h z).1)

    at_low : get_or b k 0 ≡ r.u
    at_low = get_or-set_other (set a k r.u) (k + j) k r.v 0 apart ∙ get_or-set_same a k r.u 0 (omega arith)

    at_high : get_or b (k + j) 0 ≡ r.v
    at_high = get_or-set_same (set a k r.u) (k + j) r.v 0 (simp length-set (omega (arith, (S.low k h z).0)))

    new_low : RowSwapped j a b k
    new_low =
        record {
          ll = λ c i p q. ap (λ (x : ℕ). bit_at x c) at_low ∙ E.u_low c i q;
          lh = λ c i p q. ap (λ (x : ℕ). bit_at x c) at_low ∙ E.u_high c i q;
          hl = λ c i p q. clash j k z p;
          hh = λ c i p q. clash j k z p;
        }

    new_high : RowSwapped j a b (k + j)
    new_high =
        record {
          ll = λ c i p q. clash j (k + j) p (S.low k h z).1;
          lh = λ c i p q. clash j (k + j) p (S.low k h z).1;
          hl = λ c i p q. ap (λ (x : ℕ). bit_at x c) at_high ∙ E.v_low c i q ∙ ap (λ (x : ℕ). dot a x (c + j)) (let e : k ≡ (k + j) - j = omega arith in e);
          hh = λ c i p q. ap (λ (x : ℕ). bit_at x c) at_high ∙ E.v_high c i q;
        }

    pub pair_done : Span j a k (k + 1) b
    pair_done = record { size = simp length-set; done = both; rest = other }
      where
        both : (i : ℕ) → i < 64 → k ≤ low_of j i → low_of j i < k + 1 → RowSwapped j a b i
        both i g u v = ⊎_elim
            (λ e. subst (λ (x : ℕ). RowSwapped j a b x) (let q : k ≡ i = omega (arith, low_of_low j i e) in q) new_low)
            (λ e. subst (λ (x : ℕ). RowSwapped j a b x) (let q : k + j ≡ i = omega (arith, low_of_high j i e, (S.high i g e).0) in q) new_high)
            (side_cases j i)

        other : (i : ℕ) → i < 64 → (low_of j i < k) ⊎ (k + 1 ≤ low_of j i) → get_or b i 0 ≡ get_or a i 0
        other i g o =
            let n : low_of j i ≡ k → ⊥ = λ e. ⊎_elim (λ (x : low_of j i < k). omega arith) (λ (x : k + 1 ≤ low_of j i). omega arith) o in
            get_or-set_other (set a k r.u) (k + j) i r.v 0 (λ (e : i ≡ k + j). n (ap (λ (x : ℕ). low_of j x) e ∙ mate_low k h z ∙ low_of_low j k z))
            ∙ get_or-set_other a k i r.u 0 (λ (e : i ≡ k). n (ap (λ (x : ℕ). low_of j x) e ∙ low_of_low j k z))

  -- ---- pairs one after the other
  module _ (a b d : List ℕ) (x y z : ℕ) (g : x ≤ y) (h : y ≤ z) (P : Span j a x y b) (Q : Span j b y z d) where
    -- a word that is exchanged now was not touched before, and neither was its mate
    late : (k : ℕ) → k < 64 → y ≤ low_of j k → RowSwapped j b d k → RowSwapped j a d k
    late k l u R =
        record {
          ll = λ c i p q. R.ll c i p q ∙ ap (λ (w : ℕ). bit_at w c) (P.rest k l (inr u));
          lh = λ c i p q. R.lh c i p q ∙ ap (λ (w : ℕ). bit_at w (c - j)) (P.rest (k + j) (S.low k l p).0 (inr (omega (arith, mate_low k l p))));
          hl = λ c i p q. R.hl c i p q ∙ ap (λ (w : ℕ). bit_at w (c + j)) (P.rest (k - j) (omega arith) (inr (omega (arith, mate_high k l p))));
          hh = λ c i p q. R.hh c i p q ∙ ap (λ (w : ℕ). bit_at w c) (P.rest k l (inr u));
        }

    -- a word that was exchanged before is not touched now
    early : (k : ℕ) → k < 64 → low_of j k < y → RowSwapped j a b k → RowSwapped j a d k
    early k l u R =
        let e = Q.rest k l (inl u) in
        record {
          ll = λ c i p q. ap (λ (w : ℕ). bit_at w c) e ∙ R.ll c i p q;
          lh = λ c i p q. ap (λ (w : ℕ). bit_at w c) e ∙ R.lh c i p q;
          hl = λ c i p q. ap (λ (w : ℕ). bit_at w c) e ∙ R.hl c i p q;
          hh = λ c i p q. ap (λ (w : ℕ). bit_at w c) e ∙ R.hh c i p q;
        }

    pub span_then : Span j a x z d
    span_then =
        record {
          size = Q.size ∙ P.size;
          done = λ k l u v. ⊎_elim
              (λ (w : y ≤ low_of j k). late k l w (Q.done k l w v))
              (λ (w : low_of j k < y). early k l w (P.done k l u w))
              (le_or_lt y (low_of j k));
          rest = λ k l o.
              Q.rest k l (⊎_elim (λ (w : low_of j k < x). inl (omega arith)) (λ (w : z ≤ low_of j k). inr w) o)
              ∙ P.rest k l (⊎_elim (λ (w : low_of j k < x). inl w) (λ (w : z ≤ low_of j k). inr (omega arith)) o);
        }

  pub span_more : (a b d : List ℕ) (base n : ℕ) → Span j a base (base + n) b → Span j b (base + n) (base + n + 1) d → Span j a base (base + (n + 1)) d
  span_more a b d base n P Q =
      subst (λ (x : ℕ). Span j a base x d) (let e : base + n + 1 ≡ base + (n + 1) = omega arith in e)
      (span_then a b d base (base + n) (base + n + 1) (omega arith) (omega arith) P Q)

  -- the run on the high side has no low word
  pub span_block : (a b : List ℕ) (base n : ℕ) → Block j base → n ≤ j → j ≤ n → Span j a base (base + n) b → Span j a base (base + (j + j)) b
  span_block a b base n B g h P =
      record {
        size = P.size;
        done = λ k l u v. ⊎_elim
            (λ (w : base + j ≤ low_of j k). clash j (low_of j k) (low_side k l) (B.high (low_of j k) w v))
            (λ (w : low_of j k < base + j). P.done k l u (omega arith))
            (le_or_lt (base + j) (low_of j k));
        rest = λ k l o. P.rest k l (⊎_elim (λ (w : low_of j k < base). inl w) (λ (w : base + (j + j) ≤ low_of j k). inr (omega arith)) o);
      }

  pub span_all : (a b : List ℕ) (n : ℕ) → 64 ≤ n → Span j a 0 n b → Swapped j a b
  span_all a b n h P = record { size = P.size; row = λ k l. P.done k l (omega arith) (omega arith) }
