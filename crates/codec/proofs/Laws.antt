-- The laws of `put`, `bytes` and `little`, each once for every width, by induction over the width. Assumes nothing.
use mathlib.Core.Path.{◌≡◌, refl, sym, ap, ◌∙◌, subst}
use mathlib.Core.List.{List, [], ◌∷◌, ◌++◌, append_assoc}
use Prim.Native.Nat.{ℕ, zero, suc, ◌+◌, ◌*◌, ◌/◌, ◌%◌, ◌^◌, ◌≤◌, ◌<◌}
use native.Mathlib.Nat.{pow-suc, pow-succ', mul_assoc, mul_comm, div-div-eq-div-mul}
use native.Mathlib.Omega.{arith}
use lib.ListN.{length, get_or, take, drop, length-append, length-drop, get_or-append, take-append-drop}
use lib.Seq.{length-take-le, get_or-append-add, take_at, drop-append-add, drop-drop, drop-cons}
use Rattle.std.proofs.lemmas.List.{get_or-take, get_or-drop}
use Rattle.std.specs.Int.{byte_at, byte_worth, bytes_low_first, sum_through}
use borrow.Rule.Slice.PartMut.{put_mid}
use lib.IntN.{ℤ}
use mir.Syntax.{Width, w32, w64}
use mir.Val.{SFits, bits, to_z, of_z}
use mir.ValLaws.{of_z_fits, to_z-of_z, of_z-to_z}
use Rattle.codec.specs.Bytes.{put, little, bytes, signed_at, bytes_of_signed, signed32_at, signed64_at, bytes_of_signed32, bytes_of_signed64}

-- what was laid reads back
pub get_d_put : (l : List ℕ) (at : ℕ) (vs : List ℕ) (i : ℕ) → at ≤ length l → i < length vs → get_or (put l at vs) (at + i) 0 ≡ get_or vs i 0
unfolding put
get_d_put l at vs i h k =
    subst (λ (n : ℕ). get_or (take at l ++ (vs ++ drop (at + length vs) l)) (n + i) 0 ≡ get_or vs i 0) (length-take-le at l h)
    (get_or-append-add (take at l) (vs ++ drop (at + length vs) l) i 0 ∙ get_or-append vs (drop (at + length vs) l) 0 i k)

-- nothing laid changes nothing
pub put_nil : (l : List ℕ) (at : ℕ) → put l at [] ≡ l
unfolding put
put_nil l at = let e : at + 0 ≡ at = omega arith in rw e (take-append-drop at l)

-- one part after the other is the two parts at once
pub put_put : (l : List ℕ) (at n : ℕ) (vs ws : List ℕ) → n ≡ at + length vs → n ≤ length l → put (put l at vs) n ws ≡ put l at (vs ++ ws)
unfolding put
put_put l at n vs ws e h =
    let p : List ℕ = take at l ++ vs in
    let d : List ℕ = drop (at + length vs) l in
    let a : take at l ++ (vs ++ d) ≡ p ++ d = sym (append_assoc (take at l) vs d) in
    let q : length p ≡ n = simp (length-append, length-take-le at l (omega arith)) (omega arith) in
    let t : take n (take at l ++ (vs ++ d)) ≡ p = ap (take n) a ∙ take_at p d n q in
    let f : at + length vs + length ws ≡ at + length (vs ++ ws) = simp length-append (omega arith) in
    let r : drop (n + length ws) (take at l ++ (vs ++ d)) ≡ drop (at + length (vs ++ ws)) l =
    ap (drop (n + length ws)) a
    ∙ subst (λ (k : ℕ). drop (k + length ws) (p ++ d) ≡ drop (length ws) d) q (drop-append-add p d (length ws))
    ∙ drop-drop (length ws) (at + length vs) l
    ∙ ap (λ (k : ℕ). drop k l) f in
    ap (λ (x : List ℕ). x ++ (ws ++ drop (n + length ws) (take at l ++ (vs ++ d)))) t
    ∙ ap (λ (x : List ℕ). p ++ (ws ++ x)) r
    ∙ append_assoc (take at l) vs (ws ++ drop (at + length (vs ++ ws)) l)
    ∙ ap (λ (x : List ℕ). take at l ++ x) (sym (append_assoc vs ws (drop (at + length (vs ++ ws)) l)))

-- what stands there already, laid again
pub put_same : (l : List ℕ) (at k : ℕ) → at + k ≤ length l → put l at (take k (drop at l)) ≡ l
unfolding put
put_same l at k h =
    let e : length (take k (drop at l)) ≡ k = length-take-le k (drop at l) (simp length-drop (omega arith)) in
    let r : take k (drop at l) ++ drop (at + k) l ≡ drop at l =
    ap (λ (s : List ℕ). take k (drop at l) ++ s) (sym (drop-drop k at l)) ∙ take-append-drop k (drop at l) in
    ap (λ (n : ℕ). take at l ++ (take k (drop at l) ++ drop (at + n) l)) e
    ∙ ap (λ (s : List ℕ). take at l ++ s) r
    ∙ take-append-drop at l

-- k bytes are k
pub length_bytes : (k x : ℕ) → length (bytes k x) ≡ k
unfolding bytes
length_bytes zero x = refl
length_bytes (suc k) x = ap suc (length_bytes k (x / 256))

-- each is a byte
pub bytes_small : (k x i : ℕ) → get_or (bytes k x) i 0 < 256
unfolding bytes
bytes_small zero x i = omega arith
bytes_small (suc k) x zero = omega arith
bytes_small (suc k) x (suc i) = bytes_small k (x / 256) i

-- the number depends only on its own bytes
pub little_same : (k : ℕ) (s t : List ℕ) (a b : ℕ) → ((i : ℕ) → i < k → get_or s (a + i) 0 ≡ get_or t (b + i) 0) → little k s a ≡ little k t b
unfolding little
little_same zero s t a b h = refl
little_same (suc k) s t a b h =
    let a0 : a + 0 ≡ a = omega arith in
    let b0 : b + 0 ≡ b = omega arith in
    let first : get_or s a 0 ≡ get_or t b 0 = rw (a0, b0) at (h 0 (omega arith)) in
    let rest : little k s (suc a) ≡ little k t (suc b) = little_same k s t (suc a) (suc b) (λ (i : ℕ) (l : i < k).
    let e : suc a + i ≡ a + suc i = omega arith in
    let f : suc b + i ≡ b + suc i = omega arith in
    rw (e, f) (h (suc i) (omega arith))) in
    rw (first, rest)

-- a number of j + k bytes is one of j bytes and one of k bytes above it
pub little_add : (j k : ℕ) (s : List ℕ) (at : ℕ) → little (j + k) s at ≡ little j s at + 256 ^ j * little k s (at + j)
unfolding little
little_add zero k s at =
    let e : 0 + k ≡ k = omega arith in
    let f : at + 0 ≡ at = omega arith in
    rw (e, f) (omega arith)
little_add (suc j) k s at =
    let e : suc j + k ≡ suc (j + k) = omega arith in
    let f : at + suc j ≡ suc at + j = omega arith in
    rw (e, f, pow-succ', mul_assoc) (omega (arith, little_add j k s (suc at)))

-- k bytes hold a number below 256 ^ k
pub little_below : (k : ℕ) (l : List ℕ) (at : ℕ) → ((i : ℕ) → get_or l i 0 < 256) → little k l at < 256 ^ k
unfolding little
little_below zero l at small = omega arith
little_below (suc k) l at small = omega (arith, small at, little_below k l (suc at) small, pow-suc 256 k)

-- the bytes of a number are that number
pub little_bytes : (k x : ℕ) → x < 256 ^ k → little k (bytes k x) 0 ≡ x
unfolding little bytes
little_bytes zero x h = omega arith
little_bytes (suc k) x h =
    let low : x / 256 < 256 ^ k = omega (arith, pow-suc 256 k) in
    let tail : little k (bytes (suc k) x) 1 ≡ little k (bytes k (x / 256)) 0 = little_same k _ _ 1 0 (λ (i : ℕ) (l : i < k).
    let e : 1 + i ≡ suc i = omega arith in
    let f : 0 + i ≡ i = omega arith in
    rw (e, f)) in
    omega (arith, tail, little_bytes k (x / 256) low)

-- a number that was laid reads back
pub little_put : (k : ℕ) (l : List ℕ) (at x : ℕ) → at + k ≤ length l → x < 256 ^ k → little k (put l at (bytes k x)) at ≡ x
little_put k l at x h b =
    little_same k _ (bytes k x) at 0 (λ (i : ℕ) (l' : i < k).
    let e : 0 + i ≡ i = omega arith in
    rw e (get_d_put l at (bytes k x) i (omega arith) (rw length_bytes l')))
    ∙ little_bytes k x b

-- the bytes of the number that stands there are the bytes that stand there
pub bytes_little : (k : ℕ) (l : List ℕ) (at : ℕ) → ((i : ℕ) → get_or l i 0 < 256) → at + k ≤ length l → bytes k (little k l at) ≡ take k (drop at l)
unfolding little bytes
bytes_little zero l at small h = refl
bytes_little (suc k) l at small h =
    let low : (get_or l at 0 + 256 * little k l (suc at)) % 256 ≡ get_or l at 0 = omega (arith, small at) in
    let high : (get_or l at 0 + 256 * little k l (suc at)) / 256 ≡ little k l (suc at) = omega (arith, small at) in
    let rest : bytes k (little k l (suc at)) ≡ take k (drop (suc at) l) = bytes_little k l (suc at) small (omega arith) in
    let part : drop at l ≡ get_or l at 0 ∷ drop (suc at) l = drop-cons l at 0 (omega arith) in
    rw (low, high, rest, part)

-- a number that was read and is laid again changes nothing
pub put_little : (k : ℕ) (l : List ℕ) (at : ℕ) → ((i : ℕ) → get_or l i 0 < 256) → at + k ≤ length l → put l at (bytes k (little k l at)) ≡ l
put_little k l at small h = rw (bytes_little k l at small h) (put_same l at k h)

-- signed numbers in k bytes, as many as hold the bits of w
module _ (w : Width) (k : ℕ) (size : 256 ^ k ≡ 2 ^ bits w) where
  -- the bytes of a signed number are that number
  pub signed_read : (z : ℤ) → SFits w z → signed_at w k (bytes_of_signed w k z) 0 ≡ z
  signed_read z f = ap (λ (n : ℕ). to_z w n) (little_bytes k (of_z w z) (rw size (of_z_fits w z f).fits)) ∙ to_z-of_z w z f

  -- a signed number that was laid reads back
  pub signed_put : (l : List ℕ) (at : ℕ) (z : ℤ) → at + k ≤ length l → SFits w z → signed_at w k (put l at (bytes_of_signed w k z)) at ≡ z
  signed_put l at z h f =
      ap (λ (n : ℕ). to_z w n) (little_put k l at (of_z w z) h (rw size (of_z_fits w z f).fits)) ∙ to_z-of_z w z f

  -- the bytes of the signed number that stands there are those of the number that stands there
  pub signed_bytes : (l : List ℕ) (at : ℕ) → ((i : ℕ) → get_or l i 0 < 256) → bytes_of_signed w k (signed_at w k l at) ≡ bytes k (little k l at)
  signed_bytes l at small =
      ap (bytes k) (of_z-to_z w (little k l at) (record { fits = rw size at (little_below k l at small) }))

pub signed32_put : (l : List ℕ) (at : ℕ) (z : ℤ) → at + 4 ≤ length l → SFits w32 z → signed32_at (put l at (bytes_of_signed32 z)) at ≡ z
signed32_put = signed_put w32 4 refl

pub signed32_bytes : (l : List ℕ) (at : ℕ) → ((i : ℕ) → get_or l i 0 < 256) → bytes_of_signed32 (signed32_at l at) ≡ bytes 4 (little 4 l at)
signed32_bytes = signed_bytes w32 4 refl

pub signed64_put : (l : List ℕ) (at : ℕ) (z : ℤ) → at + 8 ≤ length l → SFits w64 z → signed64_at (put l at (bytes_of_signed64 z)) at ≡ z
signed64_put = signed_put w64 8 refl

pub signed64_bytes : (l : List ℕ) (at : ℕ) → ((i : ℕ) → get_or l i 0 < 256) → bytes_of_signed64 (signed64_at l at) ≡ bytes 8 (little 8 l at)
signed64_bytes = signed_bytes w64 8 refl

-- ---- what the library reads and writes

byte_is : (i n : ℕ) → byte_at i n ≡ n / 256 ^ i % 256
byte_is zero n = let z : n / 1 ≡ n = omega arith in ap (λ (m : ℕ). m % 256) (sym z)
byte_is (suc i) n = refl

low_bytes : (k i n : ℕ) → bytes_low_first i k n ≡ bytes k (n / 256 ^ i)
unfolding bytes
low_bytes zero i n = refl
low_bytes (suc k) i n =
    let e : n / 256 ^ suc i ≡ n / 256 ^ i / 256 = ap (λ (m : ℕ). n / m) (pow-suc 256 i) ∙ sym (div-div-eq-div-mul n (256 ^ i) 256) in
    (λ j. byte_is i n j ∷ (low_bytes k (suc i) n ∙ ap (bytes k) e) j)

-- the bytes of a number
pub bytes_written : (k n : ℕ) → bytes_low_first 0 k n ≡ bytes k n
bytes_written k n = let z : n / 1 ≡ n = omega arith in low_bytes k 0 n ∙ ap (bytes k) z

-- the number in so many bytes
sum_little : (k : ℕ) (bs : List ℕ) → sum_through (λ i. byte_worth i (get_or bs i 0)) k ≡ little (suc k) bs 0
unfolding little
sum_little zero bs = omega arith
sum_little (suc k) bs =
    let e : suc k + 1 ≡ suc (suc k) = omega arith in
    let f : 0 + suc k ≡ suc k = omega arith in
    let g : little 1 bs (suc k) ≡ get_or bs (suc k) 0 = omega arith in
    let h = rw (e, f) at (little_add (suc k) 1 bs 0) in
    rw (sum_little k bs, mul_comm (get_or bs (suc k) 0) (256 ^ suc k), ← g) (sym h)

-- the number in the k + 1 bytes from `at` on
pub number_read : (k at : ℕ) (s : List ℕ) → sum_through (λ i. byte_worth i (get_or (take (suc k) (drop at s)) i 0)) k ≡ little (suc k) s at
number_read k at s =
    sum_little k (take (suc k) (drop at s))
    ∙ little_same (suc k) (take (suc k) (drop at s)) s 0 at (λ (i : ℕ) (l : i < suc k).
    let z : 0 + i ≡ i = omega arith in
    rw (z, get_or-take (suc k) (drop at s) i 0 l, get_or-drop at s i 0))

-- a part of a list that was written over
pub part_put : (l vs : List ℕ) (at k : ℕ) → k ≡ length vs → put_mid at k l vs ≡ put l at vs
unfolding put
part_put l vs at k e = ap (λ (r : List ℕ). take at l ++ (vs ++ r)) (drop-drop k at l ∙ ap (λ (n : ℕ). drop (at + n) l) e)
