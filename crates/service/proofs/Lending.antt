-- What the parts of the call leave is what the record comes to. Assumes nothing.
use Rattle.std.specs.Prelude.{Result, Ok, Err, Option, Some, None}
use Rattle.std.specs.Option.{ok_or}
use Rattle.std.proofs.lemmas.Result.{IfOk-at_ok}
use mathlib.Core.Path.{◌≡◌, refl, sym, ap, ◌∙◌, subst}
use mathlib.Core.Bool.{Bool, true, false, not}
use mathlib.Core.List.{List, [], ◌∷◌, ◌++◌}
use Prim.Native.Nat.{ℕ, ◌<◌}
use lib.Dec.{T, ltb, ltb→lt}
use lib.IntN.{ℤ}
use lib.ListN.{length, take}
use Rattle.terms.specs.declared.Answer.{Answer}
use Rattle.terms.specs.declared.Question.{Question}
use Rattle.terms.specs.Tests.{and_both, of_true, differ}
use Rattle.refusals.specs.Refusals.{Test, Tested, test, tested}
use Rattle.refusals.proofs.Joining.{clash, tested_append}
use Rattle.terms.specs.declared.Refusal.{Refusal}
use Rattle.terms.specs.Refusals.{number_of_refusal}
use Rattle.terms.specs.Otherwise.{or_else, on_tested, by_number, tested_of}
use Rattle.terms.specs.Limits.{ITEMS, SPAN_NUMBERS}
use Rattle.terms.specs.Held.{Held, is_question}
use Rattle.terms.specs.Lists.{limits}
use Rattle.state.specs.declared.State.{State}
use Rattle.state.specs.State.{held_of}
use Rattle.block.specs.Block.{read_held, same_bytes, good, LoadedFrom, LoadedAs}
use Rattle.places.specs.Layout.{SIZE, encode}
use Rattle.records.specs.declared.Command.{Command}
use Rattle.records.specs.Parsed.{Parsed}
use Rattle.records.specs.Records.{as_question, parse}
use Rattle.frames.specs.Frames.{body_of}
use Rattle.reader.specs.declared.Input.{Input}
use Rattle.commands.specs.Call.{Outcome, judged, effect, on_lent, call}
use Rattle.commands.specs.Buffers.{Buffers, lent, After, after, is_short_or}
use Rattle.questions.specs.Code.{HeldState}
use Rattle.reader.specs.Code.{parsed_of, ParsedAs}
use Rattle.commands.specs.Code.{long}
use Rattle.charges.specs.declared.Charge.{Charge}
use Rattle.charges.specs.Lines.{lines_of, line_tests}
use Rattle.bills.specs.Bill.{bill}
use Rattle.charging.specs.Code.{BilledAs}
use Rattle.charging.proofs.Summing.{in_order}
use Rattle.service.specs.Tables.{Tables, tables, AfterCharge, after_charge, in_line}
use Rattle.service.specs.Charging.{lent_tests, shown, charge_call}
use Rattle.service.specs.Code.{LentAs, FoundIn, ToChargeAs}

module _ (b t k : List ℕ) (s : List ℤ) where
  abbrev m : Buffers
  m = lent b t k s

  -- what is asked of it, by what its tests came to
  module _ (r : Result State Refusal) (L : LentAs (ltb (length s) SPAN_NUMBERS) b (length t) (length k) r) (o : Outcome) where
    abbrev by : Result State Refusal → After
    by x = on_tested (effect (read_held b) m o) (λ n. after (Answer.Refused n) 0 m) (tested_of (by_number x))

    pub lent_passed : (x : State) → r ≡ Ok x → on_lent m o ≡ effect (read_held b) m o
    lent_passed x e = ap (on_tested (effect (read_held b) m o) (λ n. after (Answer.Refused n) 0 m)) (sym L.said) ∙ ap by e

    pub lent_refused : (n : Refusal) → r ≡ Err n → on_lent m o ≡ after (Answer.Refused (number_of_refusal n)) 0 m
    lent_refused n e = ap (on_tested (effect (read_held b) m o) (λ n. after (Answer.Refused n) 0 m)) (sym L.said) ∙ ap by e

-- ---- lent memory that is long enough, and a good block

-- what a good block holds is within the limits
held_state : (b : List ℕ) (s : State) → LoadedFrom b s → HeldState s
unfolding good
held_state b s L = record {
  counts = L.counts;
  limits = subst (λ (h : Held). T (limits h)) (sym L.held)
      (and_both (limits (read_held b)) (same_bytes (encode (read_held b)) (take SIZE b)) (of_true L.verdict)).0;
}

pub short_as : (other : Bool) (b : List ℕ) (t k : ℕ) → is_short_or other (length b) t k ≡ true → LentAs other b t k (Err Refusal.ShortMemory)
short_as other b t k e = record {
  said = sym (ap (λ (v : Bool). tested (test v 1 ∷ test (not (good b)) 2 ∷ [])) e);
  found = tt;
}

module _ (other : Bool) (b : List ℕ) (t k : ℕ) (e : is_short_or other (length b) t k ≡ false) where
  -- the tests, where the block is good or not
  by_good : (g : Bool) → good b ≡ g → tested (test (is_short_or other (length b) t k) 1 ∷ test (not (good b)) 2 ∷ []) ≡ tested (test false 1 ∷ test (not g) 2 ∷ [])
  by_good g f =
      ap (λ (x : Bool). tested (test x 1 ∷ test (not (good b)) 2 ∷ [])) e
      ∙ ap (λ (x : Bool). tested (test false 1 ∷ test (not x) 2 ∷ [])) f

  pub loaded_as : (r : Option State) → LoadedAs b r → LentAs other b t k (ok_or r Refusal.BadBlock)
  loaded_as (Some s) L = record {
    said = sym (by_good true L.verdict);
    found = record { room = long other (length b) t k e; state_held = held_state b s L; held = L.held };
  }
  loaded_as None L = record { said = sym (by_good false L); found = tt }

-- where lent memory refuses nothing it is long enough, and the state is what the block holds
pub found_of : {other : Bool} {b : List ℕ} {t k : ℕ} {r : Result State Refusal} {x : State} → LentAs other b t k r → r ≡ Ok x → FoundIn other b t k x
found_of {other = other} {b = b} {t = t} {k = k} L e = IfOk-at_ok (FoundIn other b t k) e L.found

-- the record call, by what was read
pub call_read :
    (b t k : List ℕ) (s : List ℤ) (r : Result State Refusal) → LentAs (ltb (length s) SPAN_NUMBERS) b (length t) (length k) r →
    (y : State) → r ≡ Ok y →
    (x : List ℕ) (i : Input) → ParsedAs y.settings x i →
    (j : Input) → i ≡ j → let h = held_of y in
    call (lent b t k s) x ≡ effect h (lent b t k s) (judged h (parsed_of j (body_of x)))
unfolding call
call_read b t k s r L y passed x i P j e =
    let m = lent b t k s in
    let H = read_held b in
    lent_passed b t k s r L (judged H (parse H.settings x)) y passed
    ∙ ap (λ (h : Held). effect h m (judged h (parse h.settings x))) (sym (found_of L passed).held)
    ∙ ap (λ (p : Parsed). effect (held_of y) m (judged (held_of y) p)) (sym P.parsed)
    ∙ ap (λ (z : Input). effect (held_of y) m (judged (held_of y) (parsed_of z (body_of x)))) e

-- ---- a question beside the records

-- a question that is decoded is in range, and it is the command
pub asked_for : (h : Held) (q : Question) (c : Command) → as_question h.settings q ≡ Ok c →
    (T (is_question q)) × (as_question h.settings q ≡ Ok (Command.Ask q))
asked_for h q c = go (is_question q)
  where
    given : Bool → Result Command ℕ
    given v = on_tested (Ok (Command.Ask q)) Err (tested (test (not v) 6 ∷ []))

    go : (v : Bool) → given v ≡ Ok c → T v × (given v ≡ Ok (Command.Ask q))
    go true e = (tt, refl)
    go false e = differ (cc)

-- ---- a charge beside the records

-- what passes one test and then another passes both
or_passed : (x y : Tested) → or_else x y ≡ Ok tt → (x ≡ Ok tt) × (y ≡ Ok tt)
or_passed (Ok passed) y e = (refl, e)
or_passed (Err n) y e = clash (sym e)

-- what comes to it before it is made: lent memory refuses, or the lines, or none does
module _ (b ns : List ℕ) (t k a : ℕ) where
  abbrev lent_rows : List Test
  lent_rows = test (is_short_or (in_line ns) (length b) t k) 1 ∷ test (not (good b)) 2 ∷ []

  abbrev lines_come : Tested
  lines_come = tested (line_tests a (lines_of ns))

  all_rows : (x : Tested) → x ≡ or_else (tested lent_rows) lines_come → x ≡ tested (lent_rows ++ line_tests a (lines_of ns))
  all_rows x e = e ∙ sym (tested_append lent_rows (line_tests a (lines_of ns)))

  module _ (r : Result State Refusal) (L : LentAs (in_line ns) b t k r) where
    pub memory_refuses : (n : Refusal) → r ≡ Err n → ToChargeAs b t k a ns (Err n)
    memory_refuses n e = record {
      said =
          all_rows (Err (number_of_refusal n))
          (ap (λ (x : Result State Refusal). or_else (tested_of (by_number x)) lines_come) (sym e) ∙ ap (λ (x : Tested). or_else x lines_come) L.said);
      found = tt;
    }

    module _ (y : State) (e : r ≡ Ok y) (v : Result (Unit {0}) Refusal) (judged : by_number v ≡ lines_come) where
      behind_lent : by_number v ≡ or_else (tested lent_rows) lines_come
      behind_lent =
          judged
          ∙ ap (λ (x : Result State Refusal). or_else (tested_of (by_number x)) lines_come) (sym e)
          ∙ ap (λ (x : Tested). or_else x lines_come) L.said

      pub lines_refuse : (n : Refusal) → v ≡ Err n → ToChargeAs b t k a ns (Err n)
      lines_refuse n f = record { said = all_rows (Err (number_of_refusal n)) (ap by_number (sym f) ∙ behind_lent); found = tt }

      pub none_refuses : (u : Unit {0}) → v ≡ Ok u → ToChargeAs b t k a ns (Ok y)
      none_refuses u f = record { said = all_rows (Ok tt) (ap by_number (sym f) ∙ behind_lent); found = found_of L e }

-- what was to be charged, and refused or billed
module _ (b t k ns : List ℕ) (a : ℕ) where
  abbrev lent_to_lem : Tables
  lent_to_lem = tables b t k

  module _ (r : Result State Refusal) (C : ToChargeAs b (length t) (length k) a ns r) where
    abbrev by_charge : Tested → AfterCharge
    by_charge x = on_tested (after_charge (bill (read_held b) a (lines_of ns)) (shown (read_held b) lent_to_lem)) (λ n. after_charge (Charge.Refused n) lent_to_lem) x

    pub charge_refused : (n : Refusal) → r ≡ Err n → after_charge (Charge.Refused (number_of_refusal n)) lent_to_lem ≡ charge_call lent_to_lem a ns
    unfolding charge_call
    charge_refused n e = ap by_charge (ap (λ (x : Result State Refusal). tested_of (by_number x)) (sym e) ∙ C.said)

    module _ (y : State) (e : r ≡ Ok y) where
      all_pass : Ok tt ≡ tested (lent_tests lent_to_lem ns ++ line_tests a (lines_of ns))
      all_pass = ap (λ (x : Result State Refusal). tested_of (by_number x)) (sym e) ∙ C.said

      pub found_in : FoundIn (in_line ns) b (length t) (length k) y
      found_in = IfOk-at_ok (FoundIn (in_line ns) b (length t) (length k)) e C.found

      pub lines_pass : tested (line_tests a (lines_of ns)) ≡ Ok tt
      lines_pass = (or_passed _ _ (sym (tested_append (lent_tests lent_to_lem ns) (line_tests a (lines_of ns))) ∙ sym all_pass)).1

      pub item_low : a < ITEMS
      item_low = ltb→lt a ITEMS (in_order a (lines_of ns) lines_pass).item

      pub charge_billed : (t' k' : List ℕ) (c : Charge) → BilledAs (held_of y) a (lines_of ns) t k t' k' c →
          after_charge c (tables b t' k') ≡ charge_call lent_to_lem a ns
      unfolding charge_call
      charge_billed t' k' c B =
          (λ i. after_charge (B.said i) (tables b (B.tables.label_table_lem i) (B.tables.link_table_lem i)))
          ∙ (ap (λ (h : Held). after_charge (bill h a (lines_of ns)) (shown h lent_to_lem)) found_in.held ∙ ap by_charge all_pass)
