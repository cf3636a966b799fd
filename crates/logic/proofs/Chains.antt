-- Laws of chains: turned, put together, and with one step more. Assumes nothing.
use Rattle.std.specs.Prelude.{◌≡◌, refl, ℕ}
use Rattle.std.proofs.Common.{sym, subst}
use Rattle.logic.specs.Joined.{Chain, itself, along, against}

pub chain_map : {R S : ℕ → ℕ → Type 0} → ((b c : ℕ) → R b c → S b c) → {a b : ℕ} → Chain R a b → Chain S a b
chain_map f itself = itself
chain_map f (along {b = b} {c = c} p r) = along (chain_map f p) (f b c r)
chain_map f (against {b = b} {c = c} p r) = against (chain_map f p) (f c b r)

pub chain_then : {R : ℕ → ℕ → Type 0} {a b c : ℕ} → Chain R a b → Chain R b c → Chain R a c
chain_then p itself = p
chain_then p (along q r) = along (chain_then p q) r
chain_then p (against q r) = against (chain_then p q) r

pub chain_back : {R : ℕ → ℕ → Type 0} {a b : ℕ} → Chain R a b → Chain R b a
chain_back itself = itself
chain_back (along p r) = chain_then (against itself r) (chain_back p)
chain_back (against p r) = chain_then (along itself r) (chain_back p)

-- a step more, from c to d: a chain that takes it need not take it twice
pub data Plus (R : ℕ → ℕ → Type 0) (c d : ℕ) : ℕ → ℕ → Type 0 where
  old : {a b : ℕ} → R a b → Plus R c d a b
  new : {a b : ℕ} → a ≡ c → b ≡ d → Plus R c d a b

pub data Through (R : ℕ → ℕ → Type 0) (c d a b : ℕ) : Type 0 where
  without : Chain R a b → Through R c d a b
  there : Chain R a c → Chain R d b → Through R c d a b
  back : Chain R a d → Chain R c b → Through R c d a b

module _ {R : ℕ → ℕ → Type 0} {c d : ℕ} where
  more : {a b e : ℕ} → Through R c d a b → Chain R b e → Through R c d a e
  more (without p) q = without (chain_then p q)
  more (there p s) q = there p (chain_then s q)
  more (back p s) q = back p (chain_then s q)

  cross : {a : ℕ} → Through R c d a c → Through R c d a d
  cross (without p) = there p itself
  cross (there p s) = there p itself
  cross (back p s) = without p

  return : {a : ℕ} → Through R c d a d → Through R c d a c
  return (without p) = back p itself
  return (there p s) = without p
  return (back p s) = back p itself

  pub plus_through : {a b : ℕ} → Chain (Plus R c d) a b → Through R c d a b
  plus_through itself = without itself
  plus_through {a} (along {c = e} p (old r)) = more (plus_through p) (along itself r)
  plus_through {a} (along {c = e} p (new f g)) = subst (Through R c d a) (sym g) (cross (subst (Through R c d a) f (plus_through p)))
  plus_through {a} (against {c = e} p (old r)) = more (plus_through p) (against itself r)
  plus_through {a} (against {c = e} p (new f g)) = subst (Through R c d a) (sym f) (return (subst (Through R c d a) g (plus_through p)))

  kept : {a b : ℕ} → Chain R a b → Chain (Plus R c d) a b
  kept p = chain_map (λ b c r. old r) p

  pub through_plus : {a b : ℕ} → Through R c d a b → Chain (Plus R c d) a b
  through_plus (without p) = kept p
  through_plus (there p q) = chain_then (along (kept p) (new refl refl)) (kept q)
  through_plus (back p q) = chain_then (against (kept p) (new refl refl)) (kept q)
