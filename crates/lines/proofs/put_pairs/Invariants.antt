-- The text laid and that of the pairs that are left are the whole; each pair has at most 44 bytes.
use Rattle.std.proofs.Common.{◌≡◌, ℕ, List, ◌+◌, ◌*◌, ◌≤◌, ◌++◌, length}
use Rattle.std.specs.Slice.Iter.{chunks_exact_rest, chunks_exact_size}
use Rattle.lines.specs.Lines.{pairs_text, Laid}
use Rattle.lines.proofs.put_pairs.Given as goal

abbrev pub invariant-loop-pair : goal.invariant-loop-pair
invariant-loop-pair l =
    (chunks_exact_size l.pair-iterator ≡ 2)
    × (t : List ℕ) × Laid t l.initial.out l.at l.out l.next × (t ++ pairs_text (chunks_exact_rest l.pair-iterator) ≡ pairs_text l.fn.spans)
    × (length t + 22 * length (chunks_exact_rest l.pair-iterator) ≤ 22 * length l.fn.spans)
