-- How long the parts of the block are: the settings fit the header, each place has the bytes of its list, zeros are as many as they say. Assumes nothing.
use Rattle.std.specs.Prelude.{◌≡◌, refl, List, ℕ, ◌-◌, ◌≤◌, ℤ, length}
use Rattle.std.proofs.Common.{arith, length-append}
use Rattle.std.proofs.lemmas.List.{length-replicate}
use Rattle.codec.specs.Bytes.{bytes}
use Rattle.terms.specs.declared.Hole.{Hole}
use Rattle.terms.specs.declared.Hole.TheVariants.{Whole, Part}
use Rattle.terms.specs.declared.Rule.{Rule}
use Rattle.terms.specs.declared.Rule.TheVariants.{Label, Both, Link, Via}
use Rattle.terms.specs.declared.Atom.{Atom}
use Rattle.terms.specs.declared.Atom.TheVariants.{Has, Linked}
use Rattle.terms.specs.declared.Mark.{Mark}
use Rattle.terms.specs.declared.Settings.{Settings}
use Rattle.places.specs.Layout.{
  counting_byte,
  profile_byte,
  hole_bytes,
  settings_bytes,
  place_bytes,
  rule_bytes,
  ends_bytes,
  atom_bytes,
  mark_bytes,
  zeros,
  SETTINGS_AT,
  HEADER,
  RULE_BYTES,
  MARK_BYTES,
  padded,
}

ends_size : (k a b c : ℕ) (t d : ℤ) → length (ends_bytes k a b c t d) ≡ MARK_BYTES
unfolding ends_bytes bytes
ends_size k a b c t d = refl

hole_size : (c p : ℕ) (H : Hole) → length (hole_bytes c p H) ≡ MARK_BYTES
hole_size c p Whole = ends_size _ _ _ _ _ _
hole_size c p (Part t d) = ends_size _ _ _ _ _ _

pub settings_length : (σ : Settings) → length (settings_bytes σ) ≡ MARK_BYTES
unfolding settings_bytes
settings_length σ = hole_size (counting_byte σ.counting) (profile_byte σ.profile) σ.hole

pub settings_size : (σ : Settings) → length (settings_bytes σ) ≤ HEADER - SETTINGS_AT
settings_size σ = omega (arith, settings_length σ)

pub rule_size : (ρ : Rule) → length (rule_bytes ρ) ≡ RULE_BYTES
unfolding place_bytes bytes
rule_size (Label o A B) = refl
rule_size (Both A B C) = refl
rule_size (Link o r s) = refl
rule_size (Via r A B) = refl

atom_size : (x : Atom) (t d : ℤ) → length (atom_bytes x t d) ≡ MARK_BYTES
atom_size (Has a A) t d = ends_size _ _ _ _ _ _
atom_size (Linked a r b) t d = ends_size _ _ _ _ _ _

pub mark_size : (m : Mark) → length (mark_bytes m) ≡ MARK_BYTES
mark_size m = atom_size m.atom m.top m.bottom

pub length_zeros : (n : ℕ) → length (zeros n) ≡ n
unfolding zeros
length_zeros n = length-replicate n 0

pub length_padded : (k : ℕ) (xs : List ℕ) → length xs ≤ k → length (padded k xs) ≡ k
length_padded k xs h = simp (length-append, length_zeros) (omega arith)
