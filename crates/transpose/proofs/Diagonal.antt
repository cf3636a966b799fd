-- Six stages transpose the square: after the stage of step j the bits of the indexes from j on are exchanged.
use mathlib.Core.Path.{◌≡◌, refl, sym, ap₂, ◌∙◌, subst}
use mathlib.Core.Logic.{⊎_elim}
use mathlib.Core.List.{List}
use mathlib.Core.Bool.{Bool, true, ◌&&◌}
use Prim.Native.Nat.{ℕ, zero, suc, ◌+◌, ◌*◌, ◌-◌, ◌/◌, ◌%◌, ◌<◌}
use native.Mathlib.Omega.{arith}
use lib.Dec.{T, eqb, eqb→eq}
use lib.ListN.{length}
use mir.Facts.{and_yes}
use Rattle.words.specs.Bit.{bit_at}
use Rattle.words.proofs.Bits.{eq_or_ne}
use Rattle.transpose.proofs.Rounds.{side_cases}
use Rattle.transpose.specs.Transposed.{dot, side, Stage, Swapped, Transposed}

-- ---- a test of every number below n, computed
all_below : (ℕ → Bool) → ℕ → Bool
all_below f zero = true
all_below f (suc n) = f n && all_below f n

below_all : (f : ℕ → Bool) (n : ℕ) → T (all_below f n) → (c : ℕ) → c < n → T (f c)
unfolding all_below
below_all f zero t c h = absurd (let z : ⊥ = omega arith in z)
below_all f (suc n) t c h = go (and_yes (f n) (all_below f n) t) (below_all f n)
  where
    go : T (f n) × T (all_below f n) → (T (all_below f n) → (c : ℕ) → c < n → T (f c)) → T (f c)
    go w ih = ⊎_elim (λ (e : c ≡ n). subst (λ (x : ℕ). T (f x)) (sym e) w.0) (λ ne. ih w.1 c (omega arith)) (eq_or_ne c n)

mask_test : ℕ → ℕ → ℕ → Bool
mask_test j m c = eqb (bit_at m c + side j c) 1

masked : (j m : ℕ) → T (all_below (mask_test j m) 64) → (c : ℕ) → c < 64 → bit_at m c + side j c ≡ 1
unfolding mask_test
masked j m t c h = eqb→eq (bit_at m c + side j c) 1 (below_all (mask_test j m) 64 t c h)

pub stage32 : Stage 32 4294967295
unfolding bit_at side all_below mask_test
stage32 =
    record {
      some = omega arith;
      step = omega arith;
      low = λ c h z. (omega arith, omega arith);
      high = λ c h z. (omega arith, omega arith);
      back = λ c h z l. omega arith;
      mask = masked 32 4294967295 tt;
      block = λ base h z. record { room = omega arith; low = λ k u v. omega arith; high = λ k u v. omega arith; next = omega arith };
    }

pub stage16 : Stage 16 281470681808895
unfolding bit_at side all_below mask_test
stage16 =
    record {
      some = omega arith;
      step = omega arith;
      low = λ c h z. (omega arith, omega arith);
      high = λ c h z. (omega arith, omega arith);
      back = λ c h z l. omega arith;
      mask = masked 16 281470681808895 tt;
      block = λ base h z. record { room = omega arith; low = λ k u v. omega arith; high = λ k u v. omega arith; next = omega arith };
    }

pub stage8 : Stage 8 71777214294589695
unfolding bit_at side all_below mask_test
stage8 =
    record {
      some = omega arith;
      step = omega arith;
      low = λ c h z. (omega arith, omega arith);
      high = λ c h z. (omega arith, omega arith);
      back = λ c h z l. omega arith;
      mask = masked 8 71777214294589695 tt;
      block = λ base h z. record { room = omega arith; low = λ k u v. omega arith; high = λ k u v. omega arith; next = omega arith };
    }

pub stage4 : Stage 4 1085102592571150095
unfolding bit_at side all_below mask_test
stage4 =
    record {
      some = omega arith;
      step = omega arith;
      low = λ c h z. (omega arith, omega arith);
      high = λ c h z. (omega arith, omega arith);
      back = λ c h z l. omega arith;
      mask = masked 4 1085102592571150095 tt;
      block = λ base h z. record { room = omega arith; low = λ k u v. omega arith; high = λ k u v. omega arith; next = omega arith };
    }

pub stage2 : Stage 2 3689348814741910323
unfolding bit_at side all_below mask_test
stage2 =
    record {
      some = omega arith;
      step = omega arith;
      low = λ c h z. (omega arith, omega arith);
      high = λ c h z. (omega arith, omega arith);
      back = λ c h z l. omega arith;
      mask = masked 2 3689348814741910323 tt;
      block = λ base h z. record { room = omega arith; low = λ k u v. omega arith; high = λ k u v. omega arith; next = omega arith };
    }

pub stage1 : Stage 1 6148914691236517205
unfolding bit_at side all_below mask_test
stage1 =
    record {
      some = omega arith;
      step = omega arith;
      low = λ c h z. (omega arith, omega arith);
      high = λ c h z. (omega arith, omega arith);
      back = λ c h z l. omega arith;
      mask = masked 1 6148914691236517205 tt;
      block = λ base h z. record { room = omega arith; low = λ k u v. omega arith; high = λ k u v. omega arith; next = omega arith };
    }

-- ---- what is exchanged after the stages down to `j`: the bits of an index from `j` on are the other index's
abbrev mix : ℕ → ℕ → ℕ → ℕ
mix j x y = y / j * j + x % j

pub record Mixed (j : ℕ) (a b : List ℕ) : Type 0 where
  pub size : length b ≡ length a
  pub at : (k c : ℕ) → k < 64 → c < 64 → dot b k c ≡ dot a (mix j k c) (mix j c k)

record Mixes (j i : ℕ) : Type 0 where
  same : (k c : ℕ) → k < 64 → c < 64 → side j k ≡ side j c → mix i k c ≡ mix j k c
  cross : (k c : ℕ) → k < 64 → c < 64 → side j k ≡ 0 → side j c ≡ 1 → (mix i (k + j) (c - j) ≡ mix j k c) × (mix i (c - j) (k + j) ≡ mix j c k)

mixed_more : (j i m : ℕ) → Stage j m → Mixes j i → (a b b' : List ℕ) → Mixed i a b → Swapped j b b' → Mixed j a b'
mixed_more j i m S M a b b' U W = record { size = W.size ∙ U.size; at = λ k c h l. by k c h l }
  where
    by : (k c : ℕ) → k < 64 → c < 64 → dot b' k c ≡ dot a (mix j k c) (mix j c k)
    by k c h l = ⊎_elim
        (λ p. ⊎_elim
        (λ q. (W.row k h).ll c l p q ∙ U.at k c h l ∙ same p q)
        (λ q.
        let w = M.cross k c h l p q in
        (W.row k h).lh c l p q ∙ U.at (k + j) (c - j) (S.low k h p).0 (omega arith) ∙ ap₂ (λ (x y : ℕ). dot a x y) w.0 w.1)
        (side_cases j c))
        (λ p. ⊎_elim
        (λ q.
        let w = M.cross c k l h q p in
        (W.row k h).hl c l p q ∙ U.at (k - j) (c + j) (omega arith) (S.low c l q).0 ∙ ap₂ (λ (x y : ℕ). dot a x y) w.1 w.0)
        (λ q. (W.row k h).hh c l p q ∙ U.at k c h l ∙ same p q)
        (side_cases j c))
        (side_cases j k)
      where
        same : {d : ℕ} → side j k ≡ d → side j c ≡ d → dot a (mix i k c) (mix i c k) ≡ dot a (mix j k c) (mix j c k)
        same p q = ap₂ (λ (x y : ℕ). dot a x y) (M.same k c h l (p ∙ sym q)) (M.same c k l h (q ∙ sym p))

mixes32 : Mixes 32 64
unfolding side
mixes32 = record { same = λ k c h l e. omega arith; cross = λ k c h l p q. (omega arith, omega arith) }

mixes16 : Mixes 16 32
unfolding side
mixes16 = record { same = λ k c h l e. omega arith; cross = λ k c h l p q. (omega arith, omega arith) }

mixes8 : Mixes 8 16
unfolding side
mixes8 = record { same = λ k c h l e. omega arith; cross = λ k c h l p q. (omega arith, omega arith) }

mixes4 : Mixes 4 8
unfolding side
mixes4 = record { same = λ k c h l e. omega arith; cross = λ k c h l p q. (omega arith, omega arith) }

mixes2 : Mixes 2 4
unfolding side
mixes2 = record { same = λ k c h l e. omega arith; cross = λ k c h l p q. (omega arith, omega arith) }

mixes1 : Mixes 1 2
unfolding side
mixes1 = record { same = λ k c h l e. omega arith; cross = λ k c h l p q. (omega arith, omega arith) }

mixed_none : (a : List ℕ) → Mixed 64 a a
mixed_none a = record {
  size = refl;
  at = λ k c h l. ap₂ (λ (x y : ℕ). dot a x y) (let e : k ≡ mix 64 k c = omega arith in e) (let e : c ≡ mix 64 c k = omega arith in e);
}

pub transposed : (a b5 b4 b3 b2 b1 b0 : List ℕ) → Swapped 32 a b5 → Swapped 16 b5 b4 → Swapped 8 b4 b3 → Swapped 4 b3 b2 → Swapped 2 b2 b1 →
    Swapped 1 b1 b0 → Transposed a b0
transposed a b5 b4 b3 b2 b1 b0 s5 s4 s3 s2 s1 s0 =
    let t5 = mixed_more 32 64 4294967295 stage32 mixes32 a a b5 (mixed_none a) s5 in
    let t4 = mixed_more 16 32 281470681808895 stage16 mixes16 a b5 b4 t5 s4 in
    let t3 = mixed_more 8 16 71777214294589695 stage8 mixes8 a b4 b3 t4 s3 in
    let t2 = mixed_more 4 8 1085102592571150095 stage4 mixes4 a b3 b2 t3 s2 in
    let t1 = mixed_more 2 4 3689348814741910323 stage2 mixes2 a b2 b1 t2 s1 in
    let t0 = mixed_more 1 2 6148914691236517205 stage1 mixes1 a b1 b0 t1 s0 in
    record {
      size = t0.size;
      at = λ k c h l. t0.at k c h l ∙ ap₂ (λ (x y : ℕ). dot a x y) (let e : mix 1 k c ≡ c = omega arith in e) (let e : mix 1 c k ≡ k = omega arith in e);
    }
