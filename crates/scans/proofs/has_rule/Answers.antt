-- As the library says of `any`; a rule is told by its key.
use Rattle.std.proofs.Common.{◌≡◌, ℕ, Bool, eqb, rules, ◌∙◌}
use Rattle.std.proofs.lemmas.Iterator.{YieldsList-from_slice}
use Rattle.std.proofs.lemmas.Iterator.Search.{any_from_yields_List}
use Rattle.terms.specs.declared.Rule.{Rule}
use Rattle.terms.specs.Same.{same_rule}
use Rattle.keys.proofs.Scan.{some_list}
use Rattle.scans.specs.Keys.{rule_key, ByteRule, KeyOf}
use Rattle.scans.proofs.Exact.{rule_exact}
use Rattle.scans.proofs.has_rule.Goals as goal

told : (ρ σ : Rule) (j : ℕ) (b : Bool) → KeyOf rule_key ByteRule ρ j → ByteRule σ → b ≡ eqb j (rule_key σ) → b ≡ same_rule ρ σ
told ρ σ j b v w e = e ∙ (rw v.is (rule_exact ρ σ v.fits w))

pub returns : goal.returns
returns c =
    let p = same_rule c.args.rule in
    any_from_yields_List p _ _ _ c.any.ensures.ran (YieldsList-from_slice c.args.rules.now cc) (λ x b q k. (search rules, told c.args.rule x.now c.rule_key-key.result b c.rule_key-key.ensures (search rules) (search rules))) ∙ some_list p c.args.rules.now
