-- What the parts of the record call say.
use Rattle.std.specs.Prelude.{◌≡◌, refl, Bool, false, ◌||◌, List, ◌++◌, ℕ, ◌≤◌, ltb, drop, Result, Ok, Err}
use Rattle.std.proofs.Common.{ltb-false}
use Rattle.terms.specs.declared.Answer.{Answer}
use Rattle.terms.specs.Tests.{neither}
use Rattle.terms.specs.Limits.{LABEL_ENTRIES, LINK_ENTRIES, SPAN_NUMBERS}
use Rattle.terms.specs.Held.{Held}
use Rattle.terms.specs.declared.Refusal.{Refusal}
use Rattle.terms.specs.Otherwise.{on_tested, by_number, tested_of}
use Rattle.state.specs.declared.State.{State}
use Rattle.state.specs.State.{held_of}
use Rattle.places.specs.Layout.{SIZE, encode}
use Rattle.decide.specs.Decides.{Yes, No, Spans, Reply, Contradiction, Answered}
use Rattle.decide.specs.Verdicts.{answer_of}
use Rattle.questions.specs.Code.{spans_after}
use Rattle.commands.specs.declared.Reply as Code
use Rattle.commands.specs.Call.{filled, replied}
use Rattle.commands.specs.Buffers.{Buffers, after, is_short_or, is_short}

-- block and tables are long enough, and so is what else is lent
pub record Long (other : Bool) (b t k : ℕ) : Type 0 where
  pub block : SIZE ≤ b
  pub labels : LABEL_ENTRIES ≤ t
  pub links : LINK_ENTRIES ≤ k
  pub rest : other ≡ false

pub long : (other : Bool) (b t k : ℕ) → is_short_or other b t k ≡ false → Long other b t k
long other b t k e =
    let (p, d) = neither (ltb b SIZE) (ltb t LABEL_ENTRIES || (ltb k LINK_ENTRIES || other)) e in
    let (q, f) = neither (ltb t LABEL_ENTRIES) (ltb k LINK_ENTRIES || other) d in
    let (r, g) = neither (ltb k LINK_ENTRIES) other f in
    record { block = ltb-false b SIZE p; labels = ltb-false t LABEL_ENTRIES q; links = ltb-false k LINK_ENTRIES r; rest = g }

-- enough is lent
pub record Enough (b t k s : ℕ) : Type 0 where
  pub block : SIZE ≤ b
  pub labels : LABEL_ENTRIES ≤ t
  pub links : LINK_ENTRIES ≤ k
  pub spans : SPAN_NUMBERS ≤ s

pub with_spans_lem : {b t k s : ℕ} → Long (ltb s SPAN_NUMBERS) b t k → Enough b t k s
with_spans_lem {s = s} l = record { block = l.block; labels = l.labels; links = l.links; spans = ltb-false s SPAN_NUMBERS l.rest }

pub enough : (b t k s : ℕ) → is_short b t k s ≡ false → Enough b t k s
enough b t k s e = with_spans_lem (long (ltb s SPAN_NUMBERS) b t k e)

-- the block after a change, which a refusal leaves
abbrev pub kept_block : List ℕ → Result State Refusal → List ℕ
kept_block old (Ok s) = encode (held_of s) ++ drop SIZE old
kept_block old (Err r) = old

-- a change's outcome, and the block then
pub record KeptAs (l : Result State Refusal) (used : ℕ) (old new : List ℕ) (r : Code.Reply) : Type 0 where
  pub said : r.answer ≡ on_tested Answer.Done Answer.Refused (tested_of (by_number l))
  pub block : new ≡ kept_block old l
  pub bytes : r.used ≡ used

-- a reply by its parts
pub replied_is : (h : Held) (m : Buffers) (u : ℕ) (r : Reply) → replied h m u r ≡ after (answer_of r) u (filled h m (spans_after r m.spans))
replied_is h m u (Contradiction a) = refl
replied_is h m u (Answered Yes) = refl
replied_is h m u (Answered No) = refl
replied_is h m u (Answered (Spans rs)) = refl
