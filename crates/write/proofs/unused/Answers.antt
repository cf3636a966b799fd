-- Word by word: where the words so far come to 0, each of them is 0.
use Rattle.write.proofs.Tables.{Zeros, zeros_none, zeros_more, zeros_all}
use Rattle.std.proofs.Common.{rules}
use Rattle.std.proofs.lemmas.Fn.{fold_over, slice_gives, fronts}
use mathlib.Core.Path.{subst}
use Rattle.write.proofs.unused.Goals as goal

pub returns : goal.returns
returns c =
    zeros_all _ _ _ c.requires
    (subst (λ ys. Zeros ys c.fold-any.result) c.iter.ensures.rest
    (fold_over fronts (λ y. y.now) _ (λ ys n. Zeros ys n) _ (λ ys a x b f' j k. let more = zeros_more ys a x.now j in search rules)
    _ _ _ _ (slice_gives c.iter.result) (zeros_none 0) c.fold-any.ensures.ran))
