-- By the keys.
use Rattle.std.proofs.Common.{rules, ◌∙◌}
use Rattle.terms.specs.Same.{same_rule}
use Rattle.scans.specs.Keys.{rule_key, ByteRule}
use Rattle.scans.proofs.Exact.{rule_exact}
use Rattle.scans.proofs.Keyed.{keys_paired, once_keys}
use Rattle.scans.proofs.rules_once.Goals as goal

pub returns : goal.returns
returns c =
    let k = keys_paired rule_key ByteRule _ (λ x k p. search rules) _ _ c.keys_of.ensures in
    c.once_keys.ensures ∙ (rw k.are (once_keys rule_key ByteRule same_rule rule_exact _ k.fit))
