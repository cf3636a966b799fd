-- A life of calls: what each is lent, what the block's memory is after it, and that calls and book agree at every place.
use Rattle.std.specs.Prelude.{◌≡◌, List, [], ◌∷◌, ◌++◌, ℕ, ◌+◌, ◌<◌, min, ℤ, length, take, drop}
use Rattle.terms.specs.Pairs.{pairs_of}
use Rattle.terms.specs.Held.{Held}
use Rattle.places.specs.Layout.{zeros, SIZE, encode}
use Rattle.commands.specs.Buffers.{Buffers, lent, After}
use Rattle.commands.specs.Call.{call}
use Rattle.claims.specs.Beside.{BesideCall, block_after}
use Rattle.claims.specs.Reference.{Fed, Result, Book}

-- 01, The book: a call is lent tables and span buffer of any content and length; the block's memory from its start, at any length, with anything behind it
pub record Lending : Type 0 where
  pub labels : List ℕ
  pub links : List ℕ
  pub spans : List ℤ
  pub lend : ℕ
  pub behind : List ℕ

abbrev pub lent_to : List ℕ → Lending → Buffers
lent_to mem c = lent (take c.lend (mem ++ c.behind)) c.labels c.links c.spans

-- the memory after the lent part of it became b
abbrev pub kept : List ℕ → Lending → List ℕ → List ℕ
kept mem c b = take SIZE (b ++ drop c.lend (mem ++ c.behind))

-- what the book is fed of it
abbrev pub fed : Lending → List ℕ → Fed
fed c s = record {
  bytes = s;
  block = min c.lend (SIZE + length c.behind);
  labels = length c.labels;
  links = length c.links;
  spans = length c.spans;
}

-- what a call shows
abbrev pub result_of : After → Result
result_of a = record { answer = a.answer; used = a.used; pairs = pairs_of a.answer a.buffers.spans }

-- 01, The book: a member of the list is a record call; calls beside the records may stand before any
pub data Event : Type 0 where
  Record : Lending → List ℕ → Event
  Beside : Lending → BesideCall → Event

-- the memory after a call
abbrev pub mem_after : List ℕ → Event → List ℕ
mem_after mem (Record c s) = kept mem c (call (lent_to mem c) s).buffers.block
mem_after mem (Beside c q) = kept mem c (block_after q (lent_to mem c))

-- demand 3, place by place: the memory holds what the book holds, and the book's result of the call is the call's
pub data Agrees : Held → List ℕ → List Event → Type 0 where
  finished : {h : Held} {mem : List ℕ} → mem ≡ encode h → Agrees h mem []
  recorded :
      {h k : Held} {mem : List ℕ} {c : Lending} {s : List ℕ} {es : List Event} → mem ≡ encode h →
      Book h (fed c s) (result_of (call (lent_to mem c) s)) k → Agrees k (mem_after mem (Record c s)) es → Agrees h mem (Record c s ∷ es)
  beside :
      {h : Held} {mem : List ℕ} {c : Lending} {q : BesideCall} {es : List Event} → mem ≡ encode h →
      Agrees h (mem_after mem (Beside c q)) es → Agrees h mem (Beside c q ∷ es)

-- ---- runs of records

-- 01, Records: a record is bytes
abbrev pub Bytes : List ℕ → Type 0
Bytes [] = Unit {0}
Bytes (x ∷ xs) = (x < 256) × Bytes xs

-- 01, Where a record is turned away, 2: a run of records, of bytes, leads from all zeros to this memory
pub data RunTo : List ℕ → Type 0 where
  from_zeros : RunTo (zeros SIZE)
  by_record : {mem : List ℕ} (c : Lending) (s : List ℕ) → Bytes s → Bytes c.behind → RunTo mem → RunTo (mem_after mem (Record c s))
