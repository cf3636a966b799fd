-- Over every list of calls the record call and the reference machine agree, at every place, under `Laws` of the layout and of
-- records, which Whole proves.
use Rattle.std.specs.Prelude.{◌≡◌, refl, Bool, true, false, not, cond, List, [], ◌∷◌, ◌++◌, ℕ, ◌≤◌, ◌+◌, ◌*◌, min, T, length, take, drop, Ok, Err}
use Rattle.std.proofs.Common.{sym, ap, ◌∙◌, subst, true≢false, append_assoc, length-append, length-take, take-append-drop, take_at}
use Rattle.std.proofs.lemmas.List.{take-append-le}
use Rattle.terms.specs.declared.Answer.TheVariants as Answer
use Rattle.terms.specs.declared.Question.{Question}
use Rattle.terms.specs.Tests.{true_of}
use Rattle.refusals.specs.Refusals.{Tested, test, tested}
use Rattle.terms.specs.Otherwise.{on_tested}
use Rattle.terms.specs.Held.{Held, empty_held}
use Rattle.terms.specs.Lists.{limits}
use Rattle.places.specs.Layout.{zeros, SIZE, encode}
use Rattle.block.specs.Block.{read_held, good}
use Rattle.records.specs.declared.Command.{Command}
use Rattle.records.specs.Parsed.{Parsed}
use Rattle.records.specs.Records.{question_tests, decoded_as, parsed_body, parse}
use Rattle.terms.specs.Spans.{flat}
use Rattle.spans.proofs.Longest.{flat_length}
use Rattle.decide.proofs.Decide.{answer_decides}
use Rattle.decide.specs.Answer.{answer}
use Rattle.decide.specs.Decides.{Yes, No, Spans, Reply, Contradiction, Answered, Decides}
use Rattle.commands.specs.Call.{
  lent_tests,
  Outcome,
  Refused,
  Ended,
  Changed,
  Asked,
  held_tests,
  obey,
  judged,
  replied,
  effect,
  on_lent,
  call,
  span_call,
}
use Rattle.commands.specs.Buffers.{Buffers, After, after, is_short, short}
use Rattle.commands.specs.Code.{enough}
use Rattle.claims.specs.Beside.{BesideCall, spans_of_lem, charge_of_lem, tables_of, block_after}
use Rattle.claims.proofs.ChargeKeeps.{charge_block}
use Rattle.claims.specs.Lives.{
  Lending,
  lent_to,
  kept,
  fed,
  result_of,
  Event,
  Record,
  Beside,
  mem_after,
  Agrees,
  finished,
  recorded,
  beside,
}
use Rattle.claims.proofs.Kept.{Limited, of_limited, in_range, empty_limited}
use Rattle.claims.proofs.Told.{outcome, Told, refused, ended, changed, asked}
use Rattle.claims.proofs.Booked.{to_book}

-- what an outcome leaves is within the limits
abbrev pub StaysLimited : Outcome → Type 0
StaysLimited (Refused n u) = Unit {0}
StaysLimited Ended = Unit {0}
StaysLimited (Changed k u) = Limited k
StaysLimited (Asked q u) = Unit {0}

-- a question leaves the block
replied_block : (h : Held) (m : Buffers) (u : ℕ) (r : Reply) → (replied h m u r).buffers.block ≡ m.block
replied_block h m u (Contradiction a) = refl
replied_block h m u (Answered Yes) = refl
replied_block h m u (Answered No) = refl
replied_block h m u (Answered (Spans rs)) = refl

lent_block_kept :
    (h : Held) (m : Buffers) (o : Outcome) (t : Tested) → (effect h m o).buffers.block ≡ m.block →
    (on_tested (effect h m o) (λ n. after (Answer.Refused n) 0 m) t).buffers.block ≡ m.block
lent_block_kept h m o (Ok passed) e = e
lent_block_kept h m o (Err n) e = refl

-- a question beside the records, by what its tests came to
asked_block :
    (h : Held) (m : Buffers) (q : Question) (t : Tested) → (effect h m (judged h (parsed_body (decoded_as t (Command.Ask q)) [] 0))).buffers.block ≡ m.block
asked_block h m q (Ok passed) = replied_block h m 0 (answer h q)
asked_block h m q (Err n) = refl

-- 01, State and tables: every call beside the records leaves the block unchanged
pub beside_keeps : (q : BesideCall) (m : Buffers) → block_after q m ≡ m.block
unfolding span_call
beside_keeps (spans_of_lem a A) m =
    let h = read_held m.block in
    let question = Question.Spans a A in
    lent_block_kept h m (judged h (parsed_body (decoded_as (tested (question_tests h.settings question)) (Command.Ask question)) [] 0)) (tested (lent_tests m))
    (asked_block h m question (tested (question_tests h.settings question)))
beside_keeps (charge_of_lem a ns) m = charge_block (tables_of m) a ns

-- the laws of the layout and of records, proved where those are
pub record Laws : Type 0 where
  pub length_encode : (h : Held) → Limited h → length (encode h) ≡ SIZE
  pub encode_empty : encode empty_held ≡ zeros SIZE
  pub read_encode : (h : Held) (t : List ℕ) → T (limits h) → read_held (encode h ++ t) ≡ h
  pub good_encode : (h : Held) (t : List ℕ) → T (limits h) → T (good (encode h ++ t))
  pub accepted :
      (h : Held) (s : List ℕ) (c : Command) (b : List ℕ) (u : ℕ) → Limited h → parse h.settings s ≡ Parsed.Record c b u →
      tested (held_tests h c b) ≡ Ok tt → StaysLimited (obey h c b u)

module _ (𝓛 : Laws) where
  pub judged_limited : (h : Held) (s : List ℕ) → Limited h → StaysLimited (judged h (parse h.settings s))
  judged_limited h s w = go (parse h.settings s) refl
    where
      pick :
          (c : Command) (b : List ℕ) (u : ℕ) → parse h.settings s ≡ Parsed.Record c b u → (t : Tested) → tested (held_tests h c b) ≡ t →
          StaysLimited (on_tested (obey h c b u) (λ n. Refused n u) t)
      pick c b u e (Ok passed) f = 𝓛.accepted h s c b u w e f
      pick c b u e (Err n) f = tt

      go : (p : Parsed) → parse h.settings s ≡ p → StaysLimited (judged h p)
      go Parsed.Nothing e = tt
      go (Parsed.Refused n u) e = tt
      go (Parsed.Record c b u) e = pick c b u e (tested (held_tests h c b)) refl

  -- what a call leaves: the book's result, and the book's lists in the memory
  pub record Then (h : Held) (mem : List ℕ) (c : Lending) (o : Outcome) (a : After) : Type 0 where
    pub holds_then : Held
    pub limits-then : Limited holds_then
    pub told : Told h o (result_of a) holds_then
    pub memory : kept mem c a.buffers.block ≡ encode holds_then

  module _ (h : Held) (w : Limited h) (mem : List ℕ) (e : mem ≡ encode h) (c : Lending) where
    size_mem : length mem ≡ SIZE
    size_mem = ap length e ∙ 𝓛.length_encode h w

    -- nothing was written
    same_memory : kept mem c (take c.lend (mem ++ c.behind)) ≡ encode h
    same_memory = ap (take SIZE) (take-append-drop c.lend (mem ++ c.behind)) ∙ (take_at mem c.behind SIZE size_mem ∙ e)

    reply_then : (q : Question) (u : ℕ) (r : Reply) → Decides h q r → Then h mem c (Asked q u) (replied h (lent_to mem c) u r)
    reply_then q u (Contradiction a) d = record { holds_then = h; limits-then = w; told = asked (Contradiction a) d; memory = same_memory }
    reply_then q u (Answered Yes) d = record { holds_then = h; limits-then = w; told = asked (Answered Yes) d; memory = same_memory }
    reply_then q u (Answered No) d = record { holds_then = h; limits-then = w; told = asked (Answered No) d; memory = same_memory }
    reply_then q u (Answered (Spans rs)) d = record {
      holds_then = h;
      limits-then = w;
      told =
          subst (λ s. Told h (Asked q u) (record { answer = Answer.Spans (length rs); used = u; pairs = s }) h)
          (sym (take_at (flat rs) (drop (length (flat rs)) c.spans) (2 * length rs) (flat_length rs))) (asked (Answered (Spans rs)) d);
      memory = same_memory;
    }

    effect_then : (o : Outcome) → StaysLimited o → Then h mem c o (effect h (lent_to mem c) o)
    effect_then (Refused n u) k = record { holds_then = h; limits-then = w; told = refused; memory = same_memory }
    effect_then Ended k = record { holds_then = h; limits-then = w; told = ended; memory = same_memory }
    effect_then (Changed g u) k = record {
      holds_then = g;
      limits-then = k;
      told = changed;
      memory = simp append_assoc (take_at (encode g) _ SIZE (𝓛.length_encode g k));
    }
    effect_then (Asked q u) k = reply_then q u (answer h q) (answer_decides h (in_range h w) q)

    lent_length : length (take c.lend (mem ++ c.behind)) ≡ min c.lend (SIZE + length c.behind)
    lent_length = length-take c.lend (mem ++ c.behind) ∙ ap (min c.lend) (length-append mem c.behind ∙ ap (λ n. n + length c.behind) size_mem)

    -- a block that is long enough begins with the memory
    lent_block : SIZE ≤ length (take c.lend (mem ++ c.behind)) →
        take c.lend (mem ++ c.behind) ≡ encode h ++ drop SIZE (take c.lend (mem ++ c.behind))
    lent_block k =
        let x = mem ++ c.behind in
        let f : take SIZE (take c.lend x) ≡ encode h =
        sym (take-append-le SIZE (take c.lend x) (drop c.lend x) k)
        ∙ (ap (take SIZE) (take-append-drop c.lend x) ∙ (take_at mem c.behind SIZE size_mem ∙ e)) in
        sym (take-append-drop SIZE (take c.lend x)) ∙ ap (λ y. y ++ drop SIZE (take c.lend x)) f

    -- a call on lent memory that is long enough finds what is held
    found : short (lent_to mem c) ≡ false → (read_held (lent_to mem c).block ≡ h) × (good (lent_to mem c).block ≡ true)
    found d =
        let k = lent_block (enough (length (lent_to mem c).block) (length c.labels) (length c.links) (length c.spans) d).block in
        let t = drop SIZE (lent_to mem c).block in
        (ap read_held k ∙ 𝓛.read_encode h t (of_limited h w), ap good k ∙ true_of (good (encode h ++ t)) (𝓛.good_encode h t (of_limited h w)))

    abbrev lending : Buffers
    lending = lent_to mem c

    -- what is asked of lent memory, by its two tests
    abbrev by_lent : (Held → Outcome) → Held → Bool → Bool → After
    by_lent ask x short whole = on_tested (effect x lending (ask x)) (λ n. after (Answer.Refused n) 0 lending) (tested (test short 1 ∷ test (not whole) 2 ∷ []))

    abbrev short_fed : ℕ → Bool
    short_fed n = is_short n (length c.labels) (length c.links) (length c.spans)

    -- whatever is asked of what is held
    lent_then :
        (ask : Held → Outcome) → StaysLimited (ask h) →
        Then h mem c (cond (short_fed (min c.lend (SIZE + length c.behind))) (Refused 1 0) (ask h)) (on_lent lending (ask (read_held lending.block)))
    lent_then ask k =
        subst (λ n. Then h mem c (cond (short_fed n) (Refused 1 0) (ask h)) (on_lent lending (ask (read_held lending.block)))) lent_length
        (go (short lending) refl)
      where
        good-then : (g : Bool) → g ≡ true → (x : Held) → x ≡ h → Then h mem c (ask h) (by_lent ask x false g)
        good-then true f x q = subst (λ (v : Held). Then h mem c (ask h) (effect v lending (ask v))) (sym q) (effect_then (ask h) k)
        good-then false f x q = absurd (true≢false (sym f))

        go : (b : Bool) → short lending ≡ b → Then h mem c (cond b (Refused 1 0) (ask h)) (by_lent ask (read_held lending.block) b (good lending.block))
        go true d = effect_then (Refused 1 0) tt
        go false d = let f = found d in good-then (good lending.block) f.1 (read_held lending.block) f.0

    pub call_then : (s : List ℕ) → Then h mem c (outcome h (fed c s)) (call (lent_to mem c) s)
    unfolding call
    call_then s = lent_then (λ x. judged x (parse x.settings s)) (judged_limited h s w)

  -- ---- a whole life

  lives : (es : List Event) (h : Held) (mem : List ℕ) → Limited h → mem ≡ encode h → Agrees h mem es
  lives [] h mem w e = finished e
  lives (Record c s ∷ es) h mem w e =
      let t = call_then h w mem e c s in
      recorded e (to_book h (fed c s) t.told) (lives es t.holds_then (mem_after mem (Record c s)) t.limits-then t.memory)
  lives (Beside c q ∷ es) h mem w e =
      beside e (lives es h (mem_after mem (Beside c q)) w (ap (kept mem c) (beside_keeps q (lent_to mem c)) ∙ same_memory h w mem e c))

  pub lived : (es : List Event) → Agrees empty_held (zeros SIZE) es
  lived es = lives es empty_held (zeros SIZE) empty_limited (sym 𝓛.encode_empty)
