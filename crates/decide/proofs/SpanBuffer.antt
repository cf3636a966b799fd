-- 02, Slip 3, by the least model: after each interval of the walk over a label table that shows it, the buffer holds exactly the label's spans that ended
-- before the interval, and is as lent behind them. Assumes nothing.
use Rattle.std.proofs.Common.{sym, subst, eqb→eq}
use Rattle.std.specs.Prelude.{◌↔◌, List, ℕ, suc, ◌+◌, ◌*◌, ◌≤◌, ◌<◌, T, eqb, ℤ, length, get_or, drop}
use Rattle.std.proofs.Math.Dec.{eqb_refl}
use Rattle.terms.specs.declared.Atom.TheVariants.{Has}
use Rattle.terms.specs.Limits.{ITEMS, LABELS, INTERVALS, CUTS, LABEL_ENTRIES, LINK_ENTRIES}
use Rattle.terms.specs.Holes.{InHole}
use Rattle.terms.specs.Held.{Held, hole_in}
use Rattle.terms.specs.HoleLaws.{line_of}
use Rattle.terms.proofs.Limited.{InRange}
use Rattle.terms.specs.Spans.{Run, Longest}
use Rattle.words.specs.Bit.{bit_at}
use Rattle.logic.specs.Depths.{Derived}
use Rattle.logic.proofs.Inside.{derived_inside}
use Rattle.line.specs.declared.cut_list.Cuts.{Cuts}
use Rattle.line.specs.CutList.{cut_list}
use Rattle.line.specs.Pieces.{Pieces}
use Rattle.line.proofs.Numbered.{pieces_one}
use Rattle.line.specs.Intervals.{cuts_of, interval, count}
use Rattle.line.proofs.IntervalLaws.{pieces}
use Rattle.tables.specs.Shows.{Bit, Shows}
use Rattle.tables.proofs.TableLaws.{table_exact}
use Rattle.tables.specs.Seeded.{TablesDerived}
use Rattle.spans.specs.Ended.{AfterInterval}
use Rattle.spans.specs.Runs.{has_label}
use Rattle.spans.specs.Code.{Walked}
use Rattle.spans.proofs.EachInterval.{each_interval}

-- the bit that the code reads is the table's
bit_read : (labels : List ℕ) (a A p : ℕ) → T (has_label labels a A p) ↔ Bit (get_or labels (a * INTERVALS + p) 0) A
unfolding bit_at
bit_read labels a A p = (λ t. eqb→eq _ 1 t, λ e. subst (λ x. T (eqb x 1)) (sym e) (eqb_refl 1))

module _ (h : Held) (R : InRange h) (number : ℤ → ℕ) (size : ℕ) (P : Pieces (hole_in h) h.marks number size) (a A : ℕ) (item : a < ITEMS) (label : A < LABELS)
    (rs : List Run) (L : Longest (Derived h (Has a A)) rs) where
  -- the depths that exist and whose interval has the bit are those where the label is in the least model
  by_bits : (labels : List ℕ) → ((i : ℤ) → InHole (hole_in h) i → Bit (get_or labels (a * INTERVALS + number i) 0) A ↔ Derived h (Has a A) i) →
      Longest (λ i. InHole (hole_in h) i × T (has_label labels a A (number i))) rs
  by_bits labels S = record {
    apart = L.apart;
    exact = λ i. (
      λ c.
          let d = (L.exact i).0 c in
          let o = derived_inside h d in
          (o, (bit_read labels a A (number i)).1 ((S i o).1 d)),
      λ w. (L.exact i).1 ((S i w.0).0 ((bit_read labels a A (number i)).0 w.1)),
    );
  }

  -- a table that shows the least model
  pub shown_each_interval : (labels links : List ℕ) → Shows h number size labels links → (lent now : List ℤ) (p : ℕ) → p < size → {g : _} →
      Walked (line_of (hole_in h)) (cuts_of h) (has_label labels a A) lent (suc p) g now → AfterInterval (hole_in h) number rs p lent now g.count
  shown_each_interval labels links S lent now p l {g} w =
      each_interval h R number size P (has_label labels a A) rs (by_bits labels (λ i o. S.label_bits a A i o item label)) lent now p g l w

  -- the table and the cuts that `tables::derive` promises, with which a question has the spans written
  pub derived_each_interval : length (cuts_of h) ≤ CUTS → {was is links links' : List ℕ} {cuts : Cuts} →
      TablesDerived h was links is links' cuts → (lent now : List ℤ) (p : ℕ) → p < size → {g : _} →
      Walked (line_of (hole_in h)) (cut_list cuts) (has_label is a A) lent (suc p) g now → AfterInterval (hole_in h) number rs p lent now g.count
  derived_each_interval few {was} {is} {links} {cuts = cuts} D lent now p l {g} w =
      let same = (pieces_one (hole_in h) h.marks number (interval h) size (count h) P (pieces h R.hole)).0 in
      let S = table_exact h R few (drop LABEL_ENTRIES was) (drop LINK_ENTRIES links) in
      each_interval h R number size P (has_label is a A) rs
      (by_bits is (λ i o.
      subst (λ q. Bit (get_or is (a * INTERVALS + q) 0) A ↔ Derived h (Has a A) i) (sym (same i o))
      (subst (λ t. Bit (get_or t (a * INTERVALS + interval h i) 0) A ↔ Derived h (Has a A) i) (sym D.tables.label_table_lem) (S.label_bits a A i o item label))))
      lent now p g l
      (subst (λ cs. Walked (line_of (hole_in h)) cs (has_label is a A) lent (suc p) g now) D.cuts w)
