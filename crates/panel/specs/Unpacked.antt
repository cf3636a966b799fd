-- C gets the answer back: the halves of the number that a call returns are the answer's number and its value. Assumes nothing.
use Rattle.std.specs.Prelude.{◌≡◌, refl, cond, List, ℕ, ◌+◌, ◌/◌, ◌%◌, ◌≤◌, ◌<◌, eqb}
use Rattle.std.proofs.Common.{sym, ap, ◌∙◌, add-zero, mod-eq_of_lt, arith}
use Rattle.std.proofs.Math.Nat.{mul-add-div_right, div-eq_of_lt, mul-add-mod_self_right}
use Rattle.terms.specs.declared.Answer.{Answer}
use Rattle.terms.specs.declared.Answer.TheVariants.{Done, Yes, No, Contradiction, Spans, End, Refused}
use Rattle.terms.specs.Answers.{number_of, value_of}
use Rattle.commands.specs.Buffers.{Buffers}
use Rattle.commands.specs.Call.{call, span_call}
use Rattle.claims.proofs.Values.{call_value, span_value}
use Rattle.charges.specs.declared.Charge.{Charge}
use Rattle.charges.specs.Charges as Charges
use Rattle.charges.specs.Charges.{total_or}
use Rattle.service.specs.Tables.{Tables}
use Rattle.service.specs.Charging.{charge_call}
use Rattle.claims.proofs.Charge.{charge_value, charge_low}
use Rattle.panel.specs.Exported.{halves, packed, Unpacked, packed_charge, UnpackedCharge}

-- 01, Records: six answers, and a refusal
few : (a : Answer) → number_of a < 7
few Done = omega arith
few Yes = omega arith
few No = omega arith
few (Contradiction item) = omega arith
few (Spans count) = omega arith
few End = omega arith
few (Refused number) = omega arith

-- both halves come back
upper_half : (n v : ℕ) → v < 65536 → halves n v / 65536 ≡ n
upper_half n v h = mul-add-div_right {m = 65536} (omega arith) n v ∙ ap (λ k. n + k) (div-eq_of_lt h) ∙ add-zero n

lower_half : (n v : ℕ) → v < 65536 → halves n v % 65536 ≡ v
lower_half n v h = mul-add-mod_self_right n 65536 v ∙ mod-eq_of_lt h

pub unpacked : (a : Answer) → value_of a < 65536 → Unpacked a
unpacked a h = record {
  number = upper_half (number_of a) (value_of a) h;
  value = lower_half (number_of a) (value_of a) h;
  fits = omega (arith, few a);
}

-- the answer of a number and a value, and each answer is the one of its own
abbrev made : ℕ → ℕ → Answer
made n v =
    cond (eqb n 0) Done (cond (eqb n 1) Yes (cond (eqb n 2) No (cond (eqb n 3) (Contradiction v) (cond (eqb n 4) (Spans v) (cond (eqb n 5) End (Refused v))))))

made_one : (a : Answer) → made (number_of a) (value_of a) ≡ a
made_one Done = refl
made_one Yes = refl
made_one No = refl
made_one (Contradiction item) = refl
made_one (Spans count) = refl
made_one End = refl
made_one (Refused number) = refl

-- so two answers that C gets as one number are one
pub packed_one : (a b : Answer) → Unpacked a → Unpacked b → packed a ≡ packed b → a ≡ b
packed_one a b u v e =
    let n : number_of a ≡ number_of b = sym u.number ∙ (ap (λ k. k / 65536) e ∙ v.number) in
    let w : value_of a ≡ value_of b = sym u.value ∙ (ap (λ k. k % 65536) e ∙ v.value) in
    sym (made_one a) ∙ ((λ i. made (n i) (w i)) ∙ made_one b)

-- whatever is lent and whatever the input, C gets the call's answer back
pub call_unpacked : (m : Buffers) (s : List ℕ) → Unpacked (call m s).answer
call_unpacked m s = unpacked (call m s).answer (call_value m s)

pub span_unpacked : (m : Buffers) (a A : ℕ) → Unpacked (span_call m a A).answer
span_unpacked m a A = unpacked (span_call m a A).answer (span_value m a A)

-- ---- a charge

few_charges : (c : Charge) → Charges.number_of c < 9
few_charges (Charge.Total t) = omega arith
few_charges Charge.Open = omega arith
few_charges (Charge.Contradiction item) = omega arith
few_charges (Charge.Refused number) = omega arith

-- whatever is lent and whatever the lines, C gets the charge back
pub charge_unpacked : (m : Tables) (a : ℕ) (ns : List ℕ) → UnpackedCharge (charge_call m a ns).answer
charge_unpacked m a ns =
    let c = (charge_call m a ns).answer in
    let h = charge_value m a ns in
    record {
      number = upper_half (Charges.number_of c) (Charges.value_of c) h;
      value = lower_half (Charges.number_of c) (Charges.value_of c) h;
      fits = omega (arith, few_charges c);
      total = go c (charge_low m a ns);
    }
  where
    go : (c : Charge) → ((t : ℕ) → c ≡ Charge.Total t → t ≤ 66_657_892_496_000_000) → total_or 0 c < 18_446_744_073_709_551_616
    go (Charge.Total t) f = omega (arith, f t refl)
    go Charge.Open f = omega arith
    go (Charge.Contradiction item) f = omega arith
    go (Charge.Refused number) f = omega arith

-- the charge of a number, a value and a total, and each charge is the one of its own
abbrev made_charge : ℕ → ℕ → ℕ → Charge
made_charge n v t = cond (eqb n 7) (Charge.Total t) (cond (eqb n 8) Charge.Open (cond (eqb n 3) (Charge.Contradiction v) (Charge.Refused v)))

made_charge_one : (c : Charge) → made_charge (Charges.number_of c) (Charges.value_of c) (total_or 0 c) ≡ c
made_charge_one (Charge.Total t) = refl
made_charge_one Charge.Open = refl
made_charge_one (Charge.Contradiction item) = refl
made_charge_one (Charge.Refused number) = refl

-- so two charges that C gets as one number, with one total, are one
pub charge_packed_one : (c d : Charge) → UnpackedCharge c → UnpackedCharge d → packed_charge c ≡ packed_charge d → total_or 0 c ≡ total_or 0 d → c ≡ d
charge_packed_one c d u v e f =
    let n : Charges.number_of c ≡ Charges.number_of d = sym u.number ∙ (ap (λ k. k / 65536) e ∙ v.number) in
    let w : Charges.value_of c ≡ Charges.value_of d = sym u.value ∙ (ap (λ k. k % 65536) e ∙ v.value) in
    sym (made_charge_one c) ∙ ((λ i. made_charge (n i) (w i) (f i)) ∙ made_charge_one d)
