-- Pair after pair, each of at most 44 bytes.
use mir.Syntax.{w32}
use mir.Val.{SFits}
use mir.ValLaws.{to_z-of_z}
use Rattle.std.proofs.Common.{rules, ◌≡◌, [], ◌++◌, ◌∙◌, length, get_or, pos, sym, ap, arith, append_assoc, append-nil, length-append, refl}
use Rattle.std.specs.Slice.Iter.{chunks_exact_rest, chunks_exact_size}
use Rattle.lines.specs.Lines.{pairs_text, pair_text}
use Rattle.lines.proofs.Laid.{laid_none, laid_then, laid_as}
use Rattle.lines.proofs.Spelled.{pair_short, pairs_first, pairs_few}
use Rattle.lines.proofs.put_pairs.Goals as goal

pub loop-pair-init : goal.loop-pair-init
loop-pair-init c =
    let e = c.into_iter-pair-iterator.ensures.into_iter_gives in
    let r : chunks_exact_rest c.into_iter-pair-iterator.result ≡ c.args.spans.now = ap chunks_exact_rest e ∙ c.chunks_exact-pair-items.ensures.rest in
    (ap chunks_exact_size e ∙ c.chunks_exact-pair-items.ensures.size, [], laid_none _ _ _ refl, ap pairs_text r, omega (arith, ap length r))

pub loop-pair-preserved : goal.loop-pair-preserved
loop-pair-preserved c =
    let I = c.loop-pair.invariant in
    let s = c.in-Some.ensures.steps in
    let p = c.in-Some.pair.now in
    let two : length p ≡ 2 = s.1.1 ∙ I.0 in
    let f : SFits w32 (get_or p 0 (pos 0)) = search rules in
    let g : SFits w32 (get_or p 1 (pos 0)) = search rules in
    let pair = rw (to_z-of_z w32 _ f, to_z-of_z w32 _ g) at c.put_pair-next.ensures in
    let text = pair_text (get_or p 0 (pos 0)) (get_or p 1 (pos 0)) in
    let short = pair_short (get_or p 0 (pos 0)) (get_or p 1 (pos 0)) in
    let next : pairs_text (chunks_exact_rest c.loop-pair.pair-iterator) ≡ text ++ pairs_text (chunks_exact_rest c.next.new.self) =
    ap pairs_text s.1.0 ∙ pairs_first p _ two in (
      s.0 ∙ I.0,
      I.1 ++ text,
      laid_then I.2 pair (omega arith),
      append_assoc I.1 text _ ∙ ap (λ r. I.1 ++ r) (sym next) ∙ I.3,
      omega (arith, length-append I.1 text, simp length-append at (ap length s.1.0)),
    )

pub returns : goal.returns
returns c =
    let I = c.loop-pair.invariant in
    let s = c.in-None.ensures.steps in
    laid_as (sym (append-nil I.1) ∙ ap (λ r. I.1 ++ r) (sym (pairs_few _ (omega (arith, s.1.0, I.0)))) ∙ I.3) I.2
