-- Parts of a block joined, and blocks one after the other, until the table is whole.
use mathlib.Core.Path.{◌≡◌, refl, sym, ap, ◌∙◌, subst}
use mathlib.Core.Logic.{inl, inr, ⊎_elim}
use mathlib.Core.List.{List, [], ◌∷◌, ◌++◌}
use mathlib.Core.Bool.{Bool, true}
use Prim.Native.Nat.{ℕ, ◌+◌, ◌*◌, ◌-◌, ◌/◌, ◌%◌, ◌<◌, ◌≤◌}
use native.Mathlib.Omega.{arith}
use lib.Bits.{bit_or}
use lib.Dec.{eqb}
use borrow.Author.Tests.{eqb-true}
use lib.ListN.{length, get_or}
use lib.Seq.{get_or-append_seam}
use Rattle.std.specs.List.{between}
use Rattle.std.proofs.lemmas.List.{length_push, get_or_append_left}
use Rattle.std.proofs.lemmas.List.Edits.{get_or-between, length-between}
use Rattle.store.specs.Numbers.{LINK_ROWS, PAIRS}
use Rattle.terms.specs.Limits.{INTERVALS, KINDS, ITEMS, LABELS}
use Rattle.words.specs.Bit.{bit_at}
use Rattle.words.proofs.Bits.{le_or_lt, eq_or_ne, bit_zero, cut_bit}
use Rattle.rows.proofs.Laws.{or_zero}
use Rattle.store.specs.Cells.{cell}
use Rattle.store.proofs.Steps.{cell_is}
use Rattle.write.specs.Parts.{Columns, Laid, words_of, bytes_of, zero_at, Part, Unused}
use Rattle.write.specs.Written.{LabelsWritten, LinksWritten}

-- ---- a part of a block, from the entries laid
part_of : (value : ℕ → ℕ) (l : List ℕ) (start count base from to at n : ℕ) (m m' : List ℕ) → at ≡ base + from → to ≡ from + n
    → ((k c : ℕ) → k < n → c < count → bit_at (value k) c ≡ cell l (start + c) (from + k))
    → Laid value at n m m' → Part l start count base from to m m'
part_of value l start count base from to at n m m' a e has-cell L =
    record {
      size = L.size;
      at = by;
      others = λ x k. L.others x (⊎_elim (λ (h : x < base + from). inl (omega arith)) (λ (h : base + to ≤ x). inr (omega arith)) k);
    }
  where
    by : (p c : ℕ) → from ≤ p → p < to → c < count → bit_at (get_or m' (base + p) 0) c ≡ cell l (start + c) p
    by p c h i j =
        let q : base + p ≡ at + (p - from) = omega arith in
        let r : from + (p - from) ≡ p = omega arith in
        ap (λ (x : ℕ). bit_at (get_or m' x 0) c) q
        ∙ ap (λ (x : ℕ). bit_at x c) (L.at (p - from) (omega arith))
        ∙ has-cell (p - from) c (omega arith) j
        ∙ ap (λ (x : ℕ). cell l (start + c) x) r

pub words_part : (l : List ℕ) (start base w n : ℕ) (t m m' : List ℕ) → n ≤ 64 → Columns l start w 64 t → Laid (words_of t) (base + w * 64) n m m'
    → Part l start 64 base (w * 64) (w * 64 + n) m m'
words_part l start base w n t m m' h T L =
    part_of (words_of t) l start 64 base (w * 64) (w * 64 + n) (base + w * 64) n m m' refl refl (λ k c i j. T.at k c (omega arith) j) L

pub bytes_part : (l : List ℕ) (start base w n : ℕ) (t m m' : List ℕ) → n ≤ 64 → Columns l start w 8 t → Laid (bytes_of t) (base + w * 64) n m m'
    → Part l start 8 base (w * 64) (w * 64 + n) m m'
bytes_part l start base w n t m m' h T L =
    part_of (bytes_of t) l start 8 base (w * 64) (w * 64 + n) (base + w * 64) n m m' refl refl
    (λ k c i j. cut_bit (get_or t k 0) 8 c j ∙ T.at k c (omega arith) j) L

-- ---- a block of eight rows that are empty
-- where `x` is 0, all of `ys` are
pub record Zeros (ys : List ℕ) (x : ℕ) : Type 0 where
  pub none : x ≡ 0 → (k : ℕ) → k < length ys → get_or ys k 0 ≡ 0

pub zeros_none : (x : ℕ) → Zeros [] x
zeros_none x = record { none = λ _ k h. absurd (let z : ⊥ = omega arith in z) }

pub zeros_more : (ys : List ℕ) (x y : ℕ) → Zeros ys x → Zeros (ys ++ (y ∷ [])) (bit_or x y)
zeros_more ys x y Z = record { none = by }
  where
    by : bit_or x y ≡ 0 → (k : ℕ) → k < length (ys ++ (y ∷ [])) → get_or (ys ++ (y ∷ [])) k 0 ≡ 0
    by e k h =
        let z = or_zero x y e in
        ⊎_elim
        (λ (q : k ≡ length ys). rw q (get_or-append_seam ys y [] 0 ∙ z.1))
        (λ ne. let g : k < length ys = omega (arith, length_push ys y) in get_or_append_left ys (y ∷ []) 0 k g ∙ Z.none z.0 k g)
        (eq_or_ne k (length ys))

pub zeros_all : (l : List ℕ) (start x : ℕ) → start * 4 + KINDS * 4 ≤ length l → Zeros (between (start * 4) (start * 4 + KINDS * 4) l) x → Unused l start (eqb x 0)
zeros_all l start x h Z = record {
  none = λ e k i.
      sym (get_or-between l (start * 4) (start * 4 + KINDS * 4) k 0 (omega arith))
      ∙ Z.none (eqb-true _ _ e) k (omega (arith, length-between l (start * 4) (start * 4 + KINDS * 4) h));
}

pub unused_part : (l : List ℕ) (start base : ℕ) (r : Bool) (m m' : List ℕ) → Unused l start r → r ≡ true → Laid zero_at base INTERVALS m m' →
    Part l start 8 base 0 INTERVALS m m'
unused_part l start base r m m' U e L = part_of zero_at l start 8 base 0 INTERVALS base INTERVALS m m' (omega arith) refl by L
  where
    by : (k c : ℕ) → k < INTERVALS → c < 8 → bit_at 0 c ≡ cell l (start + c) (0 + k)
    by k c i j =
        let q : start * 4 + (c * 4 + k / 64) ≡ (start + c) * 4 + (0 + k) / 64 = omega arith in
        bit_zero c ∙ sym (bit_zero ((0 + k) % 64))
        ∙ ap (λ (x : ℕ). bit_at x ((0 + k) % 64)) (sym (U.none e (c * 4 + k / 64) (omega arith)))
        ∙ cell_is l (start + c) (0 + k) (start * 4 + (c * 4 + k / 64)) (omega arith) q

-- ---- a block, from its parts
part_then : (l : List ℕ) (start count base a b c : ℕ) (m m' m'' : List ℕ) → a ≤ b → b ≤ c → Part l start count base a b m m' → Part l start count base b c m' m''
    → Part l start count base a c m m''
part_then l start count base a b c m m' m'' h i P Q =
    record {
      size = Q.size ∙ P.size;
      at = λ p k u v j. ⊎_elim
          (λ (g : b ≤ p). Q.at p k g v j)
          (λ (g : p < b). ap (λ (x : ℕ). bit_at x k) (Q.others (base + p) (inl (omega arith))) ∙ P.at p k u g j)
          (le_or_lt b p);
      others = λ x k.
          Q.others x (⊎_elim (λ (g : x < base + a). inl (omega arith)) (λ (g : base + c ≤ x). inr g) k)
          ∙ P.others x (⊎_elim (λ (g : x < base + a). inl g) (λ (g : base + c ≤ x). inr (omega arith)) k);
    }

pub four_parts : (l : List ℕ) (start count base : ℕ) (m0 m1 m2 m3 m4 : List ℕ) → Part l start count base 0 64 m0 m1 → Part l start count base 64 128 m1 m2
    → Part l start count base 128 192 m2 m3 → Part l start count base 192 INTERVALS m3 m4 → Part l start count base 0 INTERVALS m0 m4
four_parts l start count base m0 m1 m2 m3 m4 A B C D =
    part_then l start count base 0 192 INTERVALS m0 m3 m4 (omega arith) (omega arith)
    (part_then l start count base 0 128 192 m0 m2 m3 (omega arith) (omega arith)
    (part_then l start count base 0 64 128 m0 m1 m2 (omega arith) (omega arith) A B) C) D

-- ---- the blocks below `n`; `start` is the first row of each
pub record Blocks (l : List ℕ) (start : ℕ → ℕ) (count n : ℕ) (before after : List ℕ) : Type 0 where
  pub size : length after ≡ length before
  pub at : (i p c : ℕ) → i < n → p < INTERVALS → c < count → bit_at (get_or after (i * INTERVALS + p) 0) c ≡ cell l (start i + c) p
  pub behind : (x : ℕ) → n * INTERVALS ≤ x → get_or after x 0 ≡ get_or before x 0

pub blocks_none : (l : List ℕ) (start : ℕ → ℕ) (count : ℕ) (m : List ℕ) → Blocks l start count 0 m m
blocks_none l start count m = record { size = refl; at = λ i p c h _ _. absurd (let z : ⊥ = omega arith in z); behind = λ x _. refl }

pub blocks_more : (l : List ℕ) (start : ℕ → ℕ) (count n : ℕ) (m m' m'' : List ℕ) → Part l (start n) count (n * INTERVALS) 0 INTERVALS m' m'' →
    Blocks l start count n m m' → Blocks l start count (n + 1) m m''
blocks_more l start count n m m' m'' P B =
    record {
      size = P.size ∙ B.size;
      at = λ i p c h k j. ⊎_elim
          (λ (q : i ≡ n). subst (λ (x : ℕ). bit_at (get_or m'' (x * INTERVALS + p) 0) c ≡ cell l (start x + c) p) (sym q) (P.at p c (omega arith) k j))
          (λ ne. ap (λ (x : ℕ). bit_at x c) (P.others (i * INTERVALS + p) (inl (omega arith))) ∙ B.at i p c (omega arith) k j)
          (eq_or_ne i n);
      behind = λ x h. P.others x (inr (omega arith)) ∙ B.behind x (omega arith);
    }

-- the first row of an item, and of a pair
abbrev pub item_start : ℕ → ℕ
item_start item = item * LABELS

abbrev pub pair_start : ℕ → ℕ
pair_start pair = LINK_ROWS + pair * KINDS

pub labels_written : (l : List ℕ) (n : ℕ) (m m' : List ℕ) → n ≤ ITEMS → ITEMS ≤ n → Blocks l item_start LABELS n m m' → LabelsWritten l m m'
labels_written l n m m' g h B = record { size = B.size; at = λ i p c k. B.at i p c (omega arith); behind = λ x k. B.behind x (omega arith) }

pub links_written : (l : List ℕ) (n : ℕ) (m m' : List ℕ) → n ≤ PAIRS → PAIRS ≤ n → Blocks l pair_start KINDS n m m' → LinksWritten l m m'
links_written l n m m' g h B = record { size = B.size; at = λ i p c k. B.at i p c (omega arith); behind = λ x k. B.behind x (omega arith) }
