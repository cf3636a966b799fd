-- The names in a statement, as numbers. Assumes nothing.
use Rattle.std.specs.Prelude.{◌≡◌, ◌&&◌, ℕ, ◌<◌, T, ltb}
use Rattle.std.proofs.Common.{subst, arith, ltb→lt, lt→ltb}
use Rattle.terms.specs.declared.Atom.{Atom}
use Rattle.terms.specs.declared.Atom.TheVariants.{Has, Linked}
use Rattle.terms.specs.Tests.{and_both, both_and}
use Rattle.terms.specs.Limits.{ITEMS, LABELS, KINDS, EVERY, NEVER, is_item, is_kind, is_marked, is_label}
use Rattle.terms.specs.Held.{is_statement, is_markable}

pub label_names : (a A : ℕ) → T (is_statement (Has a A)) → (a < ITEMS) × (A < LABELS)
label_names a A t = let w = and_both (is_item a) (is_label A) t in (ltb→lt a ITEMS w.0, ltb→lt A LABELS w.1)

pub link_names : (a r b : ℕ) → T (is_statement (Linked a r b)) → (a < ITEMS) × (r < KINDS) × (b < ITEMS)
link_names a r b t =
    let w = and_both (is_item a) (is_kind r && is_item b) t in
    let v = and_both (is_kind r) (is_item b) w.1 in
    (ltb→lt a ITEMS w.0, ltb→lt r KINDS v.0, ltb→lt b ITEMS v.1)

-- of a statement that was matched
pub names_of_label : (x : Atom) (a A : ℕ) → x ≡ Has a A → T (is_statement x) → (a < ITEMS) × (A < LABELS)
names_of_label x a A e t = label_names a A (subst (λ y. T (is_statement y)) e t)

pub names_of_link : (x : Atom) (a r b : ℕ) → x ≡ Linked a r b → T (is_statement x) → (a < ITEMS) × (r < KINDS) × (b < ITEMS)
names_of_link x a r b e t = link_names a r b (subst (λ y. T (is_statement y)) e t)

-- what may be marked may be asked
marked_label : (A : ℕ) → T (is_marked A) → T (is_label A)
marked_label A t = lt→ltb A LABELS (omega (arith, ltb→lt A NEVER (and_both (ltb EVERY A) (ltb A NEVER) t).1))

pub markable_statement : (x : Atom) → T (is_markable x) → T (is_statement x)
markable_statement (Has a A) t = let w = and_both (is_item a) (is_marked A) t in both_and (is_item a) (is_label A) w.0 (marked_label A w.1)
markable_statement (Linked a r b) t = t
