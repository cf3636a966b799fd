-- By the keys.
use Rattle.std.proofs.Common.{rules, ◌∙◌}
use Rattle.terms.specs.Same.{same_mark}
use Rattle.scans.specs.Keys.{mark_key, MarkFits}
use Rattle.scans.proofs.Exact.{mark_exact}
use Rattle.scans.proofs.Keyed.{keys_paired, once_keys, marks_fit}
use Rattle.scans.proofs.marks_once.Goals as goal

pub returns : goal.returns
returns c =
    let k = keys_paired mark_key (λ m. Unit {0}) _ (λ x k p. record { is = search rules; fits = tt }) _ _ c.keys_of.ensures in
    c.once_keys.ensures ∙ (rw k.are (once_keys mark_key MarkFits same_mark mark_exact _ (marks_fit _ c.requires.each)))
