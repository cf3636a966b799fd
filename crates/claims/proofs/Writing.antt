-- A change in range is said by some record, of bytes. Assumes nothing.
use Rattle.std.specs.Prelude.{◌&&◌, List, [], ◌∷◌, ◌++◌, ℕ, zero, suc, ◌+◌, ◌/◌, ◌<◌, T, ltb, ℤ, length}
use Rattle.std.proofs.Common.{arith, ltb→lt, of_z}
use Rattle.std.specs.Int.{w32}
use Rattle.codec.specs.Bytes.{bytes, bytes_of_signed32}
use Rattle.terms.specs.declared.Settings.{Settings}
use Rattle.terms.specs.declared.Counting.{Counting}
use Rattle.terms.specs.declared.Counting.TheVariants.{Old, New}
use Rattle.terms.specs.declared.Operator.{Operator}
use Rattle.terms.specs.declared.Operator.TheVariants.{Within, Between, Above, Below, Anywhere}
use Rattle.terms.specs.declared.Rule.{Rule}
use Rattle.terms.specs.declared.Rule.TheVariants.{Label, Both, Link, Via}
use Rattle.terms.specs.declared.Atom.{Atom}
use Rattle.terms.specs.declared.Atom.TheVariants.{Has, Linked}
use Rattle.terms.specs.Limits.{ITEMS, KINDS, LABELS, EVERY, NEVER, is_item, is_kind, is_left, is_concluded, is_marked}
use Rattle.terms.specs.Counted.{counting_number}
use Rattle.terms.specs.Operators.{code_of, distance_of, is_operator}
use Rattle.terms.specs.Held.{operator_in, is_named, is_markable}
use Rattle.terms.proofs.Ends.{mark_markable}
use Rattle.terms.specs.Tests.{and_both}
use Rattle.records.specs.declared.Command.{Command}
use Rattle.records.specs.Proper.{is_change, operator_bytes, rule_body, mark_body, change_kind, change_body, write, parse_write}
use Rattle.claims.specs.Lives.{Bytes}
use Rattle.claims.proofs.Reach.{Written}

bytes_small : (k x : ℕ) → Bytes (bytes k x)
unfolding bytes
bytes_small zero x = tt
bytes_small (suc k) x = (omega arith, bytes_small k (x / 256))

append_small : (xs ys : List ℕ) → Bytes xs → Bytes ys → Bytes (xs ++ ys)
append_small [] ys p q = q
append_small (x ∷ xs) ys p q = (p.0, append_small xs ys p.1 q)

code_small : (o : Operator) → code_of o < 256
code_small (Within n) = omega arith
code_small Between = omega arith
code_small Above = omega arith
code_small Below = omega arith
code_small Anywhere = omega arith

-- names are in range, so they are bytes
left_small : (A : ℕ) → T (is_left A) → A < 256
left_small A t = omega (arith, ltb→lt A NEVER t)

concluded_small : (A : ℕ) → T (is_concluded A) → A < 256
concluded_small A t = omega (arith, ltb→lt A LABELS (and_both (ltb EVERY A) (ltb A LABELS) t).1)

kind_small : (r : ℕ) → T (is_kind r) → r < 256
kind_small r t = omega (arith, ltb→lt r KINDS t)

item_small : (a : ℕ) → T (is_item a) → a < 256
item_small a t = omega (arith, ltb→lt a ITEMS t)

operator_small : (o : Operator) → Bytes (operator_bytes o)
operator_small o = (code_small o, bytes_small 4 (distance_of o))

rule_small : (ρ : Rule) → T (is_named ρ) → Bytes (rule_body ρ)
rule_small (Label o A B) t =
    let w = and_both (is_left A) (is_concluded B) t in
    append_small (operator_bytes o) (A ∷ B ∷ []) (operator_small o) (left_small A w.0, (concluded_small B w.1, tt))
rule_small (Both A B C) t =
    let w = and_both (is_left A) (is_left B && is_concluded C) t in
    let v = and_both (is_left B) (is_concluded C) w.1 in
    (left_small A w.0, (left_small B v.0, (concluded_small C v.1, tt)))
rule_small (Link o r k) t =
    let w = and_both (is_kind r) (is_kind k) t in
    append_small (operator_bytes o) (r ∷ k ∷ []) (operator_small o) (kind_small r w.0, (kind_small k w.1, tt))
rule_small (Via r A B) t =
    let w = and_both (is_kind r) (is_left A && is_concluded B) t in
    let v = and_both (is_left A) (is_concluded B) w.1 in
    (kind_small r w.0, (left_small A v.0, (concluded_small B v.1, tt)))

ends_small : (t d : ℤ) → Bytes (bytes_of_signed32 t ++ bytes_of_signed32 d)
ends_small t d = append_small (bytes_of_signed32 t) (bytes_of_signed32 d) (bytes_small 4 (of_z w32 t)) (bytes_small 4 (of_z w32 d))

mark_small : (x : Atom) (t d : ℤ) → T (is_markable x) → Bytes (mark_body x t d)
mark_small (Has a A) t d p =
    let w = and_both (is_item a) (is_marked A) p in
    (item_small a w.0, (omega (arith, ltb→lt A NEVER (and_both (ltb EVERY A) (ltb A NEVER) w.1).1), ends_small t d))
mark_small (Linked a r b) t d p =
    let w = and_both (is_item a) (is_kind r && is_item b) p in
    let v = and_both (is_kind r) (is_item b) w.1 in
    (item_small a w.0, (kind_small r v.0, (item_small b v.1, ends_small t d)))

counting_small : (c : Counting) → counting_number c < 256
counting_small Old = omega arith
counting_small New = omega arith

body_small : (c : Command) → T (is_change c) → Bytes (change_body c)
body_small Command.Reset t = tt
body_small (Command.Add ρ) t = rule_small ρ (and_both (is_operator (operator_in ρ)) (is_named ρ) t).1
body_small (Command.Put m) t = mark_small m.atom m.top m.bottom (mark_markable m t)
body_small (Command.Take m) t = mark_small m.atom m.top m.bottom (mark_markable m t)
body_small (Command.Count c) t = (counting_small c, tt)
body_small (Command.Confine d e) t = ends_small d e
body_small (Command.Shift c) t = bytes_small 4 (of_z w32 c)
body_small Command.Restrict t = tt
body_small (Command.Ask q) t = absurd t

pub written : (σ : Settings) (c : Command) → T (is_change c) → Written σ c
written σ c p = record {
  bytes = write c;
  body = change_body c;
  used = length (write c);
  reads = parse_write σ c p;
  small =
      let b = change_body c in
      append_small (bytes 2 (length b + 2)) (bytes 2 (change_kind c) ++ b) (bytes_small 2 (length b + 2))
      (append_small (bytes 2 (change_kind c)) b (bytes_small 2 (change_kind c)) (body_small c p));
}
