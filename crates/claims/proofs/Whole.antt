-- The claims, with nothing in front of them. Assumes nothing.
use Rattle.std.specs.Prelude.{◌≡◌, refl, ◌↔◌, Bool, true, false, cond, List, [], ◌++◌, ℕ, ◌≤◌, T, length, take, Ok}
use Rattle.std.proofs.Common.{sym, ap, ◌∙◌, subst, true≢false, arith, length-append, take_at}
use Rattle.terms.specs.declared.Answer.TheVariants as Answer
use Rattle.terms.specs.Tests.{true_of, of_true, differ}
use Rattle.refusals.specs.Refusals.{tested}
use Rattle.terms.specs.Held.{Held, empty_held}
use Rattle.places.specs.Layout.{zeros, SIZE, encode}
use Rattle.block.specs.Block.{read_held, good, unreadable, holds, decode}
use Rattle.block.proofs.Round.{length_encode, encode_empty, read_encode, decode_encode, decode_holds}
use Rattle.records.specs.declared.Command.{Command}
use Rattle.records.specs.Proper.{Proper, parse_proper}
use Rattle.records.specs.Records.{parse}
use Rattle.commands.specs.Call.{Outcome, Refused, held_tests, obey, judged, call}
use Rattle.commands.specs.Buffers.{Buffers, is_short, short}
use Rattle.claims.proofs.Refused.{two_by_block, end_by_block}
use Rattle.commands.specs.Code.{enough}
use Rattle.claims.proofs.Kept.{Limited, of_limited, in_range, empty_limited, added_limited, put_limited, counted_limited, confined_limited}
use Rattle.claims.proofs.Kept.{shifted_limited, restricted_limited, taken_limited}
use Rattle.claims.specs.Reference.{Fed, Result, Book, Entered, at_first, after_call}
use Rattle.claims.specs.Exact.{Holding}
use Rattle.claims.specs.Lives.{fed, Event, Agrees, finished, recorded, beside, RunTo, from_zeros, by_record}
use Rattle.claims.proofs.Told.{outcome, Told}
use Rattle.claims.proofs.Life.{StaysLimited, Laws, judged_limited, call_then, lived}
use Rattle.claims.proofs.Booked.{to_book, told_some, book_one, some_result}
use Rattle.claims.proofs.Reach.{good_exactly}
use Rattle.claims.proofs.Writing.{written}

-- an accepted command keeps the limits
accepted : (h : Held) (c : Command) (b : List ℕ) (u : ℕ) → Limited h → T (Proper c) → tested (held_tests h c b) ≡ Ok tt → StaysLimited (obey h c b u)
accepted h Command.Reset b u w p e = empty_limited
accepted h (Command.Add ρ) b u w p e = added_limited h ρ w p e
accepted h (Command.Put m) b u w p e = put_limited h m w p e
accepted h (Command.Take m) b u w p e = taken_limited h m w
accepted h (Command.Count c) b u w p e = counted_limited h c w
accepted h (Command.Confine t d) b u w p e = confined_limited h t d w p e
accepted h (Command.Shift c) b u w p e = shifted_limited h c w e
accepted h Command.Restrict b u w p e = restricted_limited h w e
accepted h (Command.Ask q) b u w p e = tt

-- a block that decodes is good
good_of : (b : List ℕ) (h : Held) → decode b ≡ holds h → T (good b)
unfolding decode
good_of b h e = go (good b) e
  where
    go : (t : Bool) → cond t (holds (read_held b)) unreadable ≡ holds h → T t
    go true e = tt
    go false e = differ (cc)

-- the layout's laws, and that accepted records keep the limits
pub laws : Laws
laws = record {
  length_encode = λ h w. length_encode h w.few_rules w.few_marks;
  encode_empty = encode_empty;
  read_encode = λ h t l. read_encode h l t;
  good_encode = λ h t l. good_of (encode h ++ t) h (decode_encode h l t);
  accepted = λ h s c b u w p e. accepted h c b u w (parse_proper h.settings s c b u p) e;
}

decoded : (b : List ℕ) → T (good b) → decode b ≡ holds (read_held b)
unfolding decode
decoded b t = ap (λ g. cond g (holds (read_held b)) unreadable) (true_of (good b) t)

-- a good block is the encoding of what it holds
pub good_holding : (b : List ℕ) → T (good b) → Holding b (read_held b)
good_holding b t = let w = decode_holds b (read_held b) (decoded b t) in record { within = w.0; encoded = w.1 }

-- demand 3: for every list of calls from the all-zero block on, at every place, the record call and the reference machine agree
pub whole_life : (es : List Event) → Agrees empty_held (zeros SIZE) es
whole_life es = lived laws es

-- at every place of it the memory is the encoding of what the book holds
pub memory_holds : {h : Held} {mem : List ℕ} {es : List Event} → Agrees h mem es → mem ≡ encode h
memory_holds (finished e) = e
memory_holds (recorded e b a) = e
memory_holds (beside e a) = e

-- a block that is long enough is good exactly if a run of records from all zeros leads to it
pub reached_exactly : (b : List ℕ) → SIZE ≤ length b → T (good b) ↔ RunTo (take SIZE b)
reached_exactly b l =
    good_exactly laws
    (λ σ ρ p. written σ (Command.Add ρ) p)
    (λ σ m p. written σ (Command.Put m) p)
    (λ σ c. written σ (Command.Count c) tt)
    (λ σ t d p. written σ (Command.Confine t d) p)
    (λ σ. written σ Command.Restrict tt)
    (λ b l t. let w = good_holding b t in (read_held b, w.within, w.encoded))
    b l

room : (m : Buffers) → short m ≡ false → SIZE ≤ length m.block
room m e = (enough (length m.block) (length m.labels) (length m.links) (length m.spans) e).block

-- and so the number is given exactly where enough is lent and no run of records leads to the block
pub two_exactly : (m : Buffers) (s : List ℕ) → ((call m s).answer ≡ Answer.Refused 2) ↔ ((short m ≡ false) × (RunTo (take SIZE m.block) → ⊥))
two_exactly m s = (there, back)
  where
    there : (call m s).answer ≡ Answer.Refused 2 → (short m ≡ false) × (RunTo (take SIZE m.block) → ⊥)
    there e = let (p, g) = (two_by_block m s).0 e in (p, λ r. true≢false (sym (true_of (good m.block) ((reached_exactly m.block (room m p)).1 r)) ∙ g))

    bad : (b : List ℕ) → SIZE ≤ length b → (RunTo (take SIZE b) → ⊥) → (g : Bool) → good b ≡ g → g ≡ false
    bad b l f true e = absurd (f ((reached_exactly b l).0 (of_true e)))
    bad b l f false e = refl

    back : (short m ≡ false) × (RunTo (take SIZE m.block) → ⊥) → (call m s).answer ≡ Answer.Refused 2
    back w = (two_by_block m s).1 (w.0, bad m.block (room m w.0) w.1 (good m.block) refl)

-- 01, Where a record is turned away: end is given exactly if nothing is left and neither 1 nor 2 applies
pub end_exactly :
    (m : Buffers) (s : List ℕ) → ((call m s).answer ≡ Answer.End) ↔ ((length s ≡ 0) × (short m ≡ false) × RunTo (take SIZE m.block))
end_exactly m s = (
  λ e. let (l, p, g) = (end_by_block m s).0 e in (l, p, (reached_exactly m.block (room m p)).0 (of_true g)),
  λ w. (end_by_block m s).1 (w.0, w.1, true_of (good m.block) ((reached_exactly m.block (room m w.1)).1 w.2)),
)

-- ---- the book for every feeding

told_limited : {h k : Held} {o : Outcome} {r : Result} → Limited h → StaysLimited o → Told h o r k → Limited k
told_limited w l Told.refused = w
told_limited w l Told.ended = w
told_limited w l Told.changed = l
told_limited w l (Told.asked r d) = w

-- what the book holds after a call is within the limits
book_limited : {h k : Held} {r : Result} (f : Fed) → Limited h → Book h f r k → Limited k
book_limited {h} {k} f w b =
    let (r', k', d) = told_some h f (in_range h w) (outcome h f) in
    subst Limited (sym (book_one h f b (to_book h f d)).1) (told_limited w (stays (is_short f.block f.labels f.links f.spans)) d)
  where
    stays : (a : Bool) → StaysLimited (cond a (Refused 1 0) (judged h (parse h.settings f.bytes)))
    stays true = tt
    stays false = judged_limited laws h f.bytes w

entered_limited : {h : Held} → Entered h → Limited h
entered_limited at_first = empty_limited
entered_limited (after_call f r e b) = book_limited f (entered_limited e) b

-- whatever the book holds, it has a result and a next state for every feeding; `book_one` says that it has no other
pub book_some : {h : Held} → Entered h → (f : Fed) → (r : Result) × (k : Held) × Book h f r k
book_some {h} e f = some_result h f (in_range h (entered_limited e))

-- ---- good blocks by the book

-- a run of records leads to what the book then holds
run_entered : {mem : List ℕ} → RunTo mem → (h : Held) × Entered h × (mem ≡ encode h)
run_entered from_zeros = (empty_held, at_first, sym encode_empty)
run_entered (by_record {mem = mem} c s b d r) =
    let w = run_entered r in
    let t = call_then laws w.0 (entered_limited w.1) mem w.2 c s in
    (t.holds_then, after_call (fed c s) _ w.1 (to_book w.0 (fed c s) t.told), t.memory)

-- a run of records leads to a memory exactly if it encodes what the book can come to hold
pub entered_exactly : (mem : List ℕ) → RunTo mem ↔ ((h : Held) × Entered h × (mem ≡ encode h))
entered_exactly mem = (run_entered, back)
  where
    back : (h : Held) × Entered h × (mem ≡ encode h) → RunTo mem
    back (h, e, f) =
        let w = entered_limited e in
        let size = length_encode h w.few_rules w.few_marks in
        let whole : take SIZE (encode h ++ []) ≡ mem = take_at (encode h) [] SIZE size ∙ sym f in
        subst RunTo whole ((reached_exactly (encode h ++ []) (simp length-append (omega (arith, size)))).0 (laws.good_encode h [] (of_limited h w)))
