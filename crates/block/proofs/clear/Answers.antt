-- The library fills the part with zeros, and leaves what is behind it.
use Rattle.std.proofs.Common.{◌≡◌, ◌∙◌, ◌++◌, ℕ, List, drop, ap}
use Rattle.std.proofs.lemmas.List.{length-take-le}
use lib.ListN.{replicate}
use Rattle.places.specs.Layout.{SIZE, zeros}
use Rattle.block.proofs.clear.Goals as goal

pub returns : goal.returns
unfolding zeros
returns c =
    let old = c.args.b.now in
    let z : c.fill.new.self ≡ zeros SIZE = c.fill.ensures.after (λ y e. e) ∙ ap (λ (n : ℕ). replicate n 0) (length-take-le SIZE old c.requires) in
    ap (λ (s : List ℕ). s ++ drop SIZE old) z
