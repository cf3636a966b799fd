-- Squares read, transposed and laid: each loop sets one place more, and a transposed square has the cells of its rows.
use mathlib.Core.Path.{◌≡◌, refl, sym, ap, ◌∙◌, subst}
use mathlib.Core.Logic.{inl, inr, ⊎_elim}
use mathlib.Core.List.{List}
use Prim.Native.Nat.{ℕ, ◌+◌, ◌*◌, ◌%◌, ◌<◌, ◌≤◌}
use native.Mathlib.Omega.{arith}
use lib.ListN.{length, get_or, set, length-set, replicate, length-replicate}
use lib.Seq.{get_or-set_same, get_or-set_other}
use Rattle.words.specs.Bit.{bit_at}
use Rattle.words.proofs.Bits.{eq_or_ne}
use Rattle.store.specs.Cells.{cell}
use Rattle.store.proofs.Steps.{cell_is}
use Rattle.transpose.specs.Transposed.{Transposed}
use Rattle.write.specs.Parts.{Square, Columns, Laid}

-- ---- a square read
pub square_none : (l : List ℕ) (start w : ℕ) → Square l start w 0 (replicate 64 0)
square_none l start w = record { size = length-replicate {A = ℕ} 64 0; at = λ k h. absurd (let z : ⊥ = omega arith in z) }

pub square_more : (l : List ℕ) (start w n : ℕ) (t : List ℕ) → n < 64 → Square l start w n t →
    Square l start w (n + 1) (set t n (get_or l (start * 4 + w + n * 4) 0))
square_more l start w n t h S =
    let s = S.size in
    record {
      size = length-set t n _ ∙ s;
      at = λ k i. ⊎_elim
          (λ (e : k ≡ n).
          subst (λ (x : ℕ). get_or (set t n (get_or l (start * 4 + w + n * 4) 0)) x 0 ≡ get_or l (start * 4 + w + x * 4) 0) (sym e)
          (get_or-set_same t n _ 0 (omega arith)))
          (λ ne. get_or-set_other t n k _ 0 ne ∙ S.at k (omega arith))
          (eq_or_ne k n);
    }

-- ---- a square transposed
pub columns_is : (l : List ℕ) (start w count : ℕ) (t u : List ℕ) → w < 4 → count ≤ 64 → Square l start w count t → Transposed t u → Columns l start w count u
columns_is l start w count t u h g S F = record { size = F.size ∙ S.size; at = by }
  where
    by : (k c : ℕ) → k < 64 → c < count → bit_at (get_or u k 0) c ≡ cell l (start + c) (w * 64 + k)
    by k c i j =
        let m : k ≡ (w * 64 + k) % 64 = omega arith in
        F.at k c i (omega arith)
        ∙ ap (λ (x : ℕ). bit_at x k) (S.at c j)
        ∙ ap (λ (x : ℕ). bit_at (get_or l (start * 4 + w + c * 4) 0) x) m
        ∙ cell_is l (start + c) (w * 64 + k) (start * 4 + w + c * 4) (omega arith) (omega arith)

-- ---- entries laid
pub laid_none : (value : ℕ → ℕ) (base : ℕ) (l : List ℕ) → Laid value base 0 l l
laid_none value base l = record { size = refl; at = λ k h. absurd (let z : ⊥ = omega arith in z); others = λ x _. refl }

pub laid_more : (value : ℕ → ℕ) (base n : ℕ) (l m : List ℕ) → base + n < length m → Laid value base n l m →
    Laid value base (n + 1) l (set m (base + n) (value n))
laid_more value base n l m h L =
    record {
      size = length-set m (base + n) _ ∙ L.size;
      at = λ k i. ⊎_elim
          (λ (e : k ≡ n). subst (λ (x : ℕ). get_or (set m (base + n) (value n)) (base + x) 0 ≡ value x) (sym e) (get_or-set_same m (base + n) _ 0 h))
          (λ ne. get_or-set_other m (base + n) (base + k) _ 0 (omega arith) ∙ L.at k (omega arith))
          (eq_or_ne k n);
      others = λ x k.
          get_or-set_other m (base + n) x _ 0 (λ e. ⊎_elim (λ (a : x < base). omega arith) (λ (a : base + (n + 1) ≤ x). omega arith) k)
          ∙ L.others x (⊎_elim (λ a. inl a) (λ (a : base + (n + 1) ≤ x). inr (omega arith)) k);
    }
