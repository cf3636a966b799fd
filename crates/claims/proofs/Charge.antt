-- 02, Slip 1, of the call: a charge that is not refused is exact, keeps what lies behind the tables, fits what C gets, and goes along with marks elsewhere,
-- the profile, a shift and the mirror. Assumes nothing.
use Rattle.std.specs.Prelude.{◌≡◌, refl, ◌↔◌, Bool, true, false, not, List, ◌∷◌, ◌++◌, ℕ, ◌+◌, ◌≤◌, ◌<◌, T, ℤ, length, take, drop, Ok, Err}
use Rattle.std.proofs.Common.{sym, ap, ◌∙◌, subst, arith, take-append-drop, take_at}
use Rattle.std.proofs.lemmas.List.{take-append-le}
use Rattle.terms.specs.declared.Answer.TheVariants as Answer
use Rattle.terms.specs.declared.Atom.TheVariants.{Has}
use Rattle.terms.specs.declared.Hole.TheVariants.{Part}
use Rattle.terms.specs.declared.Mark.{Mark}
use Rattle.terms.specs.declared.Profile.{Profile}
use Rattle.terms.specs.declared.Question.TheVariants as Question
use Rattle.terms.specs.Tests.{of_true, differ}
use Rattle.terms.specs.Limits.{ITEMS, EVERY, LABEL_ENTRIES, LINK_ENTRIES}
use Rattle.terms.specs.Lists.{limits}
use Rattle.places.specs.Layout.{SIZE, encode}
use Rattle.terms.specs.Profiles.{is_every}
use Rattle.terms.specs.Held.{◌∈◌, Held, hole_in, with_marks, with_profile, is_question}
use Rattle.terms.proofs.Limited.{InRange}
use Rattle.refusals.specs.Refusals.{Tested, test, tested}
use Rattle.refusals.proofs.Joining.{clash}
use Rattle.refusals.proofs.Ranks.{rank_number}
use Rattle.logic.specs.Depths.{Derived}
use Rattle.logic.specs.Printed.{Profiled}
use Rattle.logic.specs.Untouched.{Untouched}
use Rattle.line.specs.Intervals.{interval, count}
use Rattle.line.proofs.IntervalLaws.{pieces}
use Rattle.tables.specs.Tables.{label_table, link_table}
use Rattle.tables.proofs.TableLaws.{table_exact, length_labels, length_links}
use Rattle.block.specs.Block.{read_held, good}
use Rattle.decide.specs.Decides.{Never, Lowest}
use Rattle.decide.specs.Answer.{answer}
use Rattle.shift.specs.Shifted.{shifted}
use Rattle.moves.specs.Mirrored.{mirrored}
use Rattle.charges.specs.declared.PriceLine.{PriceLine}
use Rattle.charges.specs.declared.Charge.{Charge}
use Rattle.charges.specs.Lines.{lines_of, line_tests}
use Rattle.charges.specs.Charges.{value_of}
use Rattle.charging.proofs.Summing.{in_order}
use Rattle.bills.specs.Billed.{asked}
use Rattle.bills.specs.Bill.{bill}
use Rattle.bills.proofs.Exact.{bill_charged, bill_item, bill_unrefused, concerns_asked, charged_one}
use Rattle.bills.proofs.Low.{total_low}
use Rattle.bills.proofs.Same.{bill_elsewhere, bill_profile_same}
use Rattle.bills.proofs.Moved.{bill_shifted, bill_mirrored}
use Rattle.bills.proofs.Ended.{Endless, bill_open, bill_in_hole, bill_in_profile}
use Rattle.commands.specs.Buffers.{Buffers, After, short}
use Rattle.commands.specs.Code.{long, replied_is}
use Rattle.commands.specs.Call.{filled, call, span_call}
use Rattle.questions.specs.Code.{spans_after}
use Rattle.frames.specs.Frames.{length_field}
use Rattle.service.specs.Tables.{Tables, AfterCharge, after_charge, in_line, charge_short}
use Rattle.service.specs.Charging.{shown, charge_call}
use Rattle.claims.specs.Table.{Shifts}
use Rattle.claims.specs.Reference.{Accepted}
use Rattle.claims.specs.Beside.{spans_record, unused, tables_of, charge_rows}
use Rattle.claims.specs.Exact.{feeding, Holding}
use Rattle.claims.specs.Charging.{Charging, ExactCharge, TablesKept}
use Rattle.claims.proofs.ChargeKeeps.{by_rows, charge_by_rows, charge_ranked}
use Rattle.claims.proofs.Kept.{limited, in_range, few_cuts}
use Rattle.claims.proofs.Whole.{laws, good_holding}
use Rattle.claims.specs.Lives.{Lending, lent_to}
use Rattle.claims.proofs.Lent.{untouched, written}
use Rattle.claims.proofs.Exactly.{held_in, asked_call}
use Rattle.claims.proofs.SpanRecord.{span_asks, span_as_record, span_exact}
use Rattle.claims.proofs.Moved.{shift_holds}

-- ---- a charge that is not refused

module _ (m : Tables) (a : ℕ) (ns : List ℕ) where
  abbrev ls : List PriceLine
  ls = lines_of ns

  -- its rows pass, and it is the bill of what is held
  pub charging_passes : (h : Held) → Charging m a ns h → tested (charge_rows m a ns) ≡ Ok tt
  charging_passes h C =
      ap (λ v. tested (test v 1 ∷ test (not (good m.block)) 2 ∷ line_tests a ls)) C.lent
      ∙ (ap (λ v. tested (test false 1 ∷ test (not v) 2 ∷ line_tests a ls)) (held_in m.block h C.block).1 ∙ C.in_order)

  pub charged_as : (h : Held) → Charging m a ns h → charge_call m a ns ≡ after_charge (bill h a ls) (shown h m)
  charged_as h C =
      charge_by_rows m a ns
      ∙ (ap (by_rows m a ns) (charging_passes h C) ∙ ap (λ (k : Held). after_charge (bill k a ls) (shown k m)) (held_in m.block h C.block).0)

  charged_answer : (h : Held) → Charging m a ns h → (charge_call m a ns).answer ≡ bill h a ls
  charged_answer h C = ap (λ (r : AfterCharge). r.answer) (charged_as h C)

  -- what its rows pass is a charge on what the block holds
  pub passed_charging : tested (charge_rows m a ns) ≡ Ok tt → Charging m a ns (read_held m.block)
  passed_charging e = go (charge_short m ns) (good m.block) refl refl e
    where
      go : (s g : Bool) → charge_short m ns ≡ s → good m.block ≡ g → tested (test s 1 ∷ test (not g) 2 ∷ line_tests a ls) ≡ Ok tt →
          Charging m a ns (read_held m.block)
      go true g d f t = clash (sym t)
      go false false d f t = clash (sym t)
      go false true d f t = record { block = good_holding m.block (of_true f); lent = d; in_order = t }

  -- 02, Slip 1: demand 2 of the charge: total, open and contradiction by the least model at all integer depths and by interpretations, and both tables
  pub charge_exact : (h : Held) → Charging m a ns h → ExactCharge h a ls (charge_call m a ns)
  charge_exact h C =
      let w = limited h C.block.within in
      let R = in_range h w in
      subst (ExactCharge h a ls) (sym (charged_as h C)) (record {
        charge = bill_charged h R a ls;
        number = interval h;
        count = count h;
        few = omega (arith, few_cuts h w);
        pieces = pieces h R.hole;
        tables = table_exact h R (few_cuts h w) (drop LABEL_ENTRIES m.labels) (drop LINK_ENTRIES m.links);
      })

  -- the answer is the only one that is exact
  pub charge_one : (h : Held) → Charging m a ns h → (r : AfterCharge) → ExactCharge h a ls r → r.answer ≡ (charge_call m a ns).answer
  charge_one h C r x =
      charged_one h a ls r.answer (charge_call m a ns).answer (in_range h (limited h C.block.within)) x.charge (charge_exact h C).charge

  -- 02, Slip 1: the block and everything behind the tables is kept, whatever is lent
  pub charge_lent : TablesKept m (charge_call m a ns).lent
  charge_lent = subst (λ (r : AfterCharge). TablesKept m r.lent) (sym (charge_by_rows m a ns)) (go (tested (charge_rows m a ns)) refl)
    where
      go : (t : Tested) → tested (charge_rows m a ns) ≡ t → TablesKept m (by_rows m a ns t).lent
      go (Ok passed) e =
          let h = read_held m.block in
          let room = long (in_line ns) (length m.block) (length m.labels) (length m.links) (passed_charging e).lent in
          record {
            block = refl;
            labels = written LABEL_ENTRIES (label_table h) m.labels (length_labels h) room.labels;
            links = written LINK_ENTRIES (link_table h) m.links (length_links h) room.links;
          }
      go (Err n) e = record { block = refl; labels = untouched LABEL_ENTRIES m.labels; links = untouched LINK_ENTRIES m.links }

  -- ---- what C gets

  -- what a charge that is not refused says of its bill, whatever is lent
  of_bill : (P : Charge → Type 0) → ((n : ℕ) → (charge_call m a ns).answer ≡ Charge.Refused n → P (Charge.Refused n)) →
      ((h : Held) → Charging m a ns h → P (bill h a ls)) → P (charge_call m a ns).answer
  of_bill P refused billed = go (tested (charge_rows m a ns)) refl
    where
      go : (t : Tested) → tested (charge_rows m a ns) ≡ t → P (charge_call m a ns).answer
      go (Ok passed) e = let h = read_held m.block in let C = passed_charging e in subst P (sym (charged_answer h C)) (billed h C)
      go (Err n) e =
          let f : (charge_call m a ns).answer ≡ Charge.Refused n = ap (λ (r : AfterCharge). r.answer) (charge_by_rows m a ns ∙ ap (by_rows m a ns) e) in
          subst P (sym f) (refused n f)

  -- every value is below 65,536
  pub charge_value : value_of (charge_call m a ns).answer < 65536
  charge_value =
      of_bill (λ c. value_of c < 65536) (λ n e. omega (arith, (rank_number n (charge_ranked m a ns n e)).1)) (λ h C. low (bill h a ls) (bill_item h a ls) (bill_unrefused h a ls))
    where
      low : (c : Charge) → ((b : ℕ) → c ≡ Charge.Contradiction b → b < ITEMS) → ((n : ℕ) → c ≡ Charge.Refused n → ⊥) → value_of c < 65536
      low (Charge.Total t) f g = omega arith
      low Charge.Open f g = omega arith
      low (Charge.Contradiction b) f g = omega (arith, f b refl)
      low (Charge.Refused n) f g = absurd (g n refl)

  -- 02, Slip 1: no total is more than this, so 64 bits hold it
  pub charge_low : (t : ℕ) → (charge_call m a ns).answer ≡ Charge.Total t → t ≤ 66_657_892_496_000_000
  charge_low = of_bill (λ c. (t : ℕ) → c ≡ Charge.Total t → t ≤ 66_657_892_496_000_000) (λ n e t f. differ (cc)) (λ h C t e.
      let w = limited h C.block.within in
      let O = in_order a ls C.in_order in
      total_low h (in_range h w) (few_cuts h w) a ls O.few O.priced t e)

  -- ---- when it is open

  module _ (h : Held) (C : Charging m a ns h) where
    R : InRange h
    R = in_range h (limited h C.block.within)

    -- 02, Slip 1: exactly if no item that is joined has NEVER and a listed label holds at all depths above some depth, or at all below some
    pub charge_open : ((charge_call m a ns).answer ≡ Charge.Open) ↔ ((Never h (asked a) → ⊥) × ((l : PriceLine) × (l ∈ ls) × Endless (Derived h (Has a l.label))))
    charge_open =
        let w = bill_open h R a ls in
        let e = charged_answer h C in
        (λ d. w.0 (sym e ∙ d), λ v. e ∙ w.1 v)

    -- 02, Slip 5: not in a hole
    pub charge_in_hole : (t b : ℤ) → hole_in h ≡ Part t b → (charge_call m a ns).answer ≡ Charge.Open → ⊥
    charge_in_hole t b e d = bill_in_hole h R t b e a ls (sym (charged_answer h C) ∙ d)

    -- 02, Slip 10: nor by rules in the print profile, for labels other than EVERY
    pub charge_in_profile : Profiled h → ((l : PriceLine) → l ∈ ls → T (not (is_every l.label))) → (charge_call m a ns).answer ≡ Charge.Open → ⊥
    charge_in_profile p n d = bill_in_profile h R p a ls n (sym (charged_answer h C) ∙ d)

-- ---- as after SPANS

-- 02, Slip 1: both tables end as after the span call of that item, whichever its label and whatever its span buffer
pub charge_tables :
    (m : Buffers) (a A : ℕ) (ns : List ℕ) (h : Held) → Charging (tables_of m) a ns h → short m ≡ false → T (is_question (Question.Spans a A)) →
    let r = (charge_call (tables_of m) a ns).lent in
    let s = (span_call m a A).buffers in
    (r.labels ≡ s.labels) × (r.links ≡ s.links)
charge_tables m a A ns h C l t =
    let q = Question.Spans a A in
    let s = spans_record a A in
    let u = length_field s + 2 in
    let e : (span_call m a A).buffers ≡ filled h m (spans_after (answer h q) m.spans) =
    ap (λ (x : After). x.buffers)
    (span_as_record m a A ∙ ap unused (asked_call m s h q (span_asks m a A h l C.block t) ∙ replied_is h m u (answer h q))) in
    let d = ap (λ (x : AfterCharge). x.lent) (charged_as (tables_of m) a ns h C) in
    (ap (λ (x : Tables). x.labels) d ∙ sym (ap (λ (x : Buffers). x.labels) e), ap (λ (x : Tables). x.links) d ∙ sym (ap (λ (x : Buffers). x.links) e))

-- and it is a contradiction exactly if the span call is, with the same item
pub charge_contradicts :
    (m : Buffers) (a A b : ℕ) (ns : List ℕ) (h : Held) → Charging (tables_of m) a ns h → short m ≡ false → T (is_question (Question.Spans a A)) →
    ((charge_call (tables_of m) a ns).answer ≡ Charge.Contradiction b) ↔ ((span_call m a A).answer ≡ Answer.Contradiction b)
charge_contradicts m a A b ns h C l t =
    let c = (charge_exact (tables_of m) a ns h C).charge.lowest b in
    let d = (span_exact m a A h l C.block t).lowest b in
    (λ e. d.1 (other EVERY A (c.0 e)), λ e. c.1 (other A EVERY (d.0 e)))
  where
    other : (A B : ℕ) → Lowest h (Question.Spans a A) b → Lowest h (Question.Spans a B) b
    other A B w = record {
      item = w.item;
      concerned = concerns_asked w.concerned;
      depth = w.depth;
      never = w.never;
      lower = λ c i k n. w.lower c i k (concerns_asked n);
    }

-- ---- in a life

-- wherever it stands: on the memory of what the book holds there, it is a charge on that
pub charge_lives :
    (h : Held) → T (limits h) → (mem : List ℕ) → mem ≡ encode h → (c : Lending) (a : ℕ) (ns : List ℕ) → charge_short (tables_of (lent_to mem c)) ns ≡ false →
    tested (line_tests a (lines_of ns)) ≡ Ok tt → Charging (tables_of (lent_to mem c)) a ns h
charge_lives h w mem e c a ns l t =
    let x = mem ++ c.behind in
    let size : length mem ≡ SIZE = ap length e ∙ laws.length_encode h (limited h w) in
    let room = long (in_line ns) (length (take c.lend x)) (length c.labels) (length c.links) l in
    record {
      block = record {
        within = w;
        encoded =
            sym (take-append-le SIZE (take c.lend x) (drop c.lend x) room.block)
            ∙ (ap (take SIZE) (take-append-drop c.lend x) ∙ (take_at mem c.behind SIZE size ∙ e));
      };
      lent = l;
      in_order = t;
    }

-- ---- it goes along

module _ (m n : Tables) (a : ℕ) (ns : List ℕ) (h k : Held) (C : Charging m a ns h) (D : Charging n a ns k) where
  -- two charges are the same where the bills are
  alike : bill k a (lines_of ns) ≡ bill h a (lines_of ns) → (charge_call n a ns).answer ≡ (charge_call m a ns).answer
  alike e = charged_answer n a ns k D ∙ (e ∙ sym (charged_answer m a ns h C))

module _ (m n : Tables) (a : ℕ) (ns : List ℕ) (h : Held) (C : Charging m a ns h) where
  -- 02, Slip 7: marks on items that are joined to the item neither before nor after alter no charge
  pub charge_elsewhere : (ms : List Mark) → Charging n a ns (with_marks h ms) → Untouched h ms (asked a) →
      (charge_call n a ns).answer ≡ (charge_call m a ns).answer
  charge_elsewhere ms D u =
      alike m n a ns h (with_marks h ms) C D (bill_elsewhere h ms (R m a ns h C) (R n a ns (with_marks h ms) D) a u (lines_of ns))

  -- 02, Slip 10: nor does the profile, on or off
  pub charge_profile : (p : Profile) → Charging n a ns (with_profile h p) → (charge_call n a ns).answer ≡ (charge_call m a ns).answer
  charge_profile p D = alike m n a ns h (with_profile h p) C D (bill_profile_same h p (R m a ns h C) a (lines_of ns))

  -- 02, Slip 9: nor a shift
  pub charge_shifted : (c : ℤ) → Charging n a ns (shifted c h) → (charge_call n a ns).answer ≡ (charge_call m a ns).answer
  charge_shifted c D = alike m n a ns h (shifted c h) C D (bill_shifted c h (R m a ns h C) (R n a ns (shifted c h) D) a (lines_of ns))

  -- 02, Slip 9: nor the mirror
  pub charge_mirrored : Charging n a ns (mirrored h) → (charge_call n a ns).answer ≡ (charge_call m a ns).answer
  charge_mirrored D = alike m n a ns h (mirrored h) C D (bill_mirrored h (R m a ns h C) (R n a ns (mirrored h) D) a (lines_of ns))

-- so after an accepted kind 20, with the block as it left it, the charge is the earlier one
pub charge_after_shift :
    (c : ℤ) (h : Held) (m : Buffers) → Holding m.block h → (s : List ℕ) → Accepted h (feeding m s) (Shifts c) → (a : ℕ) (ns : List ℕ) (x y : Tables) →
    Charging x a ns h → charge_short y ns ≡ false → y.block ≡ (call m s).buffers.block → (charge_call y a ns).answer ≡ (charge_call x a ns).answer
charge_after_shift c h m H s v a ns x y C l e =
    let K = subst (λ b. Holding b (shifted c h)) (sym e) (shift_holds c h m H s v).1 in
    charge_shifted x y a ns h C c (record { block = K; lent = l; in_order = C.in_order })
