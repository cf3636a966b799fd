-- The rows are as the definition has them, by computing. Assumes nothing.
use Rattle.std.specs.Prelude.{◌≡◌, refl, true, not}
use Rattle.terms.specs.Profiles.{in_profile}
use Rattle.terms.specs.Lists.{every}
use Rattle.profile.specs.Rows.{printed, unprinted}

pub printed_in : every in_profile printed ≡ true
unfolding every
printed_in = refl

pub unprinted_out : every (λ ρ. not (in_profile ρ)) unprinted ≡ true
unfolding every
unprinted_out = refl
