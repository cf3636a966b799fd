-- One call on any good block is a step of the book, whatever else is lent. Assumes nothing.
use Rattle.std.specs.Prelude.{◌≡◌, List, [], ◌++◌, ℕ, ◌≤◌, length, take, drop}
use Rattle.std.proofs.Common.{sym, ap, ◌∙◌, subst, append-nil, arith, length-take, length-drop, take-append-drop, take_all}
use Rattle.std.proofs.Math.Seq.{drop-length}
use Rattle.terms.specs.Held.{Held}
use Rattle.places.specs.Layout.{SIZE}
use Rattle.commands.specs.Buffers.{Buffers, lent}
use Rattle.commands.specs.Call.{call}
use Rattle.claims.specs.Reference.{Fed, Book}
use Rattle.claims.specs.Lives.{Lending, lent_to, fed, result_of}
use Rattle.claims.specs.Exact.{feeding, Holding}
use Rattle.claims.proofs.Kept.{limited, of_limited}
use Rattle.claims.proofs.Told.{outcome}
use Rattle.claims.proofs.Booked.{to_book}
use Rattle.claims.proofs.Life.{Then, call_then}
use Rattle.claims.proofs.Whole.{laws}

module _ (h : Held) (m : Buffers) (H : Holding m.block h) where
  abbrev b : List ℕ
  b = m.block

  -- the block as a life lends it: its memory, and what lies behind that
  abbrev lending : Lending
  lending = record { labels = m.labels; links = m.links; spans = m.spans; lend = length b; behind = drop SIZE b }

  size : length (take SIZE b) ≡ SIZE
  size = ap length H.encoded ∙ laws.length_encode h (limited h H.within)

  long : SIZE ≤ length b
  long = omega (arith, size, length-take SIZE b)

  whole : take SIZE b ++ drop SIZE b ≡ b
  whole = take-append-drop SIZE b

  same : lent_to (take SIZE b) lending ≡ m
  same = ap (λ x. lent x m.labels m.links m.spans) (ap (take (length b)) whole ∙ take_all (length b) b (omega arith))

  fed_same : (s : List ℕ) → fed lending s ≡ feeding m s
  fed_same s =
      ap (λ n. record { bytes = s; block = n; labels = length m.labels; links = length m.links; spans = length m.spans })
      (omega (arith, long, length-drop SIZE b))

  rest : drop (length b) (take SIZE b ++ drop SIZE b) ≡ []
  rest = ap (drop (length b)) whole ∙ drop-length b

  -- 01, The book: the call's result is the book's, and the block then holds what the book holds
  pub call_steps : (s : List ℕ) → (k : Held) × Book h (feeding m s) (result_of (call m s)) k × Holding (call m s).buffers.block k
  call_steps s =
      let w = limited h H.within in
      let then =
      subst (λ x. Then laws h (take SIZE b) lending (outcome h (fed lending s)) (call x s)) same
      (call_then laws h w (take SIZE b) H.encoded lending s) in
      let k = then.holds_then in
      let left = (call m s).buffers.block in (
        k,
        subst (λ (f : Fed). Book h f (result_of (call m s)) k) (fed_same s) (to_book h (fed lending s) then.told),
        record {
          within = of_limited k then.limits-then;
          encoded = ap (take SIZE) (sym (ap (λ x. left ++ x) rest ∙ append-nil left)) ∙ then.memory;
        },
      )
