-- A block is good exactly if a run of records from zeros leads to it, under `Laws` and with records for rules, marks,
-- countings, holes and the profile, which Whole gives.
use Rattle.std.specs.Prelude.{◌≡◌, ◌↔◌, Bool, true, false, not, ◌||◌, List, [], ◌∷◌, ◌++◌, ℕ, ◌≤◌, ◌<◌, ◌+◌, T, ltb, leb, ℤ, pos, length, take, drop, replicate, Ok}
use Rattle.std.proofs.Math.Path.{refl}
use Rattle.std.proofs.Common.{sym, ap, ◌∙◌, subst, ⊎_elim, append_assoc, append-nil, arith, ltb→lt, leb→le, length-append, take-append-drop}
use mathlib.Core.List.Memᴰ
use Rattle.std.proofs.lemmas.List.{length-replicate}
use Rattle.terms.specs.declared.Counting.{Counting}
use Rattle.terms.specs.declared.Hole.{Hole}
use Rattle.terms.specs.declared.Hole.TheVariants.{Whole, Part}
use Rattle.terms.specs.declared.Profile.{Profile}
use Rattle.terms.specs.declared.Profile.TheVariants.{Off, On}
use Rattle.terms.specs.declared.Rule.{Rule}
use Rattle.terms.specs.declared.Mark.{Mark}
use Rattle.terms.specs.Tests.{and_both, true_of, false_of}
use Rattle.terms.specs.Limits.{RULES, MARKS, DEPTHS, LABEL_ENTRIES, LINK_ENTRIES, SPAN_NUMBERS}
use Rattle.terms.specs.declared.Settings.{Settings}
use Rattle.refusals.specs.Refusals.{tested}
use Rattle.terms.specs.Holes.{is_hole, lies_in}
use Rattle.terms.specs.Profiles.{admits}
use Rattle.terms.specs.Held.{◌∈◌, Held, ends_of, with_counting, with_hole, with_profile, is_rule, is_mark, is_settings, empty_held}
use Rattle.terms.specs.Same.{same_rule, same_mark}
use Rattle.terms.proofs.SameLaws.{same_rule_lem, rule_same, same_mark_lem, mark_same}
use Rattle.terms.specs.Lists.{some, every, once, depth_count, limits}
use Rattle.places.specs.Layout.{SIZE, encode}
use Rattle.block.specs.Block.{good}
use Rattle.records.specs.declared.Command.{Command}
use Rattle.records.specs.Parsed as Parsed
use Rattle.records.specs.Records.{parse}
use Rattle.commands.specs.Call.{Outcome, Changed, held_tests, obey}
use Rattle.claims.proofs.Kept.{
  in_some,
  every_in,
  Limited,
  limited,
  of_limited,
  empty_limited,
  fewer_ends,
}
use Rattle.claims.specs.Reference.{Result}
use Rattle.claims.specs.Lives.{Lending, fed, Bytes, RunTo, from_zeros, by_record}
use Rattle.claims.proofs.Told.{outcome, Told, changed}
use Rattle.claims.proofs.Life.{Laws, call_then}

not_short : (a b : ℕ) → b ≤ a → ltb a b ≡ false
not_short a b h = false_of (ltb a b) (λ t. let z : ⊥ = omega (arith, ltb→lt a b t) in z)

below : (a b : ℕ) → b < a → leb a b ≡ false
below a b h = false_of (leb a b) (λ t. let z : ⊥ = omega (arith, leb→le a b t) in z)

then_is : {h k l : Held} {u : ℕ} {r : Result} → Told h (Changed k u) r l → l ≡ k
then_is changed = refl

told_at : {h l : Held} {o p : Outcome} {r : Result} → o ≡ p → Told h o r l → Told h p r l
told_at {h} {l} {r = r} e b = subst (λ v. Told h v r l) e b

-- buffers that are long enough, shut so that they are not written out
labels_lent : List ℕ
labels_lent = replicate LABEL_ENTRIES 0

links_lent : List ℕ
links_lent = replicate LINK_ENTRIES 0

spans_lent : List ℤ
spans_lent = replicate SPAN_NUMBERS (pos 0)

labels_long : length labels_lent ≡ LABEL_ENTRIES
unfolding labels_lent
labels_long = length-replicate {A = ℕ} LABEL_ENTRIES 0

links_long : length links_lent ≡ LINK_ENTRIES
unfolding links_lent
links_long = length-replicate {A = ℕ} LINK_ENTRIES 0

spans_long : length spans_lent ≡ SPAN_NUMBERS
unfolding spans_lent
spans_long = length-replicate SPAN_NUMBERS (pos 0)

-- a record that says a command under the settings
pub record Written (σ : Settings) (c : Command) : Type 0 where
  pub bytes : List ℕ
  pub body : List ℕ
  pub used : ℕ
  pub reads : parse σ bytes ≡ Parsed.Record c body used
  pub small : Bytes bytes

-- in a list without doubles nothing before an element is like it
not_before : {X : Type 0} (alike : X → X → Bool) → ((x y : X) → T (alike x y) → x ≡ y) → ((x : X) → T (alike x x)) →
    (done : List X) (x : X) (todo : List X) → T (once alike (done ++ (x ∷ todo))) → some (alike x) done ≡ false
unfolding some once
not_before alike eq self [] x todo t = refl
not_before alike eq self (d ∷ done) x todo t = go (alike x d) (λ u. eq x d u) (not_before alike eq self done x todo w.1)
  where
    w : T (not (some (alike d) (done ++ (x ∷ todo)))) × T (once alike (done ++ (x ∷ todo)))
    w = and_both (not (some (alike d) (done ++ (x ∷ todo)))) (once alike (done ++ (x ∷ todo))) t

    clash : (b : Bool) → T (not b) → T b → ⊥
    clash true s u = s
    clash false s u = u

    go : (b : Bool) → (T b → x ≡ d) → some (alike x) done ≡ false → (b || some (alike x) done) ≡ false
    go true f e =
        absurd (clash (some (alike d) (done ++ (x ∷ todo))) w.0
        (in_some (alike d) (done ++ (x ∷ todo)) x (Memᴰ.append_right done (Memᴰ.head refl))
        (subst (λ v. T (alike v x)) (f tt) (self x))))
    go false f e = e

-- room for a mark's ends: with those of all marks there are at most 96
room : (done todo : List Mark) (m : Mark) → depth_count (ends_of (done ++ (m ∷ todo))) ≤ DEPTHS → ltb DEPTHS (depth_count (ends_of (done ++ (m ∷ [])))) ≡ false
room done todo m h = not_short DEPTHS (depth_count (ends_of (done ++ (m ∷ [])))) (omega (arith, fewer_ends (done ++ (m ∷ [])) (done ++ (m ∷ todo)) more))
  where
    more : (k : Mark) → k ∈ (done ++ (m ∷ [])) → k ∈ (done ++ (m ∷ todo))
    more k n = ⊎_elim
        (λ o. Memᴰ.append_left (m ∷ todo) o)
        (λ o. Memᴰ.append_right done (Memᴰ.head (Memᴰ.eq_of_singleton o)))
        (Memᴰ.append_cases done n)

module _ (𝓛 : Laws) (rule-record : (σ : Settings) (ρ : Rule) → T (is_rule ρ) → Written σ (Command.Add ρ))
    (mark-record : (σ : Settings) (m : Mark) → T (is_mark m) → Written σ (Command.Put m))
    (counting-record : (σ : Settings) (c : Counting) → Written σ (Command.Count c))
    (hole-record : (σ : Settings) (t b : ℤ) → T (is_hole (Part t b)) → Written σ (Command.Confine t b))
    (profile-record : (σ : Settings) → Written σ Command.Restrict) where
  record Reached (h : Held) : Type 0 where
    held : Limited h
    run : RunTo (encode h)

  abbrev lending : Lending
  lending = record { labels = labels_lent; links = links_lent; spans = spans_lent; lend = SIZE; behind = [] }

  one_more_record :
      (h k : Held) (c : Command) (w : Written h.settings c) → tested (held_tests h c w.body) ≡ Ok tt →
      ((u : ℕ) → obey h c w.body u ≡ Changed k u) → Reached h → Reached k
  one_more_record h k c w e f R =
      let a = not_short (length labels_lent) LABEL_ENTRIES (omega (arith, labels_long)) in
      let b = not_short (length links_lent) LINK_ENTRIES (omega (arith, links_long)) in
      let d = not_short (length spans_lent) SPAN_NUMBERS (omega (arith, spans_long)) in
      let o : outcome h (fed lending w.bytes) ≡ Changed k w.used = rw (a, b, d, w.reads, e) (f w.used) in
      let A = call_then 𝓛 h R.held (encode h) refl lending w.bytes in
      let q : A.holds_then ≡ k = then_is (told_at o A.told) in
      record {
        held = subst Limited q A.limits-then;
        run = subst RunTo (A.memory ∙ ap encode q) (by_record lending w.bytes w.small tt R.run);
      }

  -- ---- the settings, then the rules, then the marks, one by one

  abbrev of_parts : Settings → List Rule → List Mark → Held
  of_parts σ rs ms = record { rules = rs; marks = ms; settings = σ }

  reach_empty : Reached empty_held
  reach_empty = record { held = empty_limited; run = subst RunTo (sym 𝓛.encode_empty) from_zeros }

  -- 02, Slip 4: kind 17 sets either counting while nothing is held
  reach_counting : (c : Counting) → Reached (with_counting empty_held c)
  reach_counting c =
      one_more_record empty_held (with_counting empty_held c) (Command.Count c) (counting-record empty_held.settings c) refl (λ u. refl) reach_empty

  -- 02, Slip 5: and kind 18 a hole, unless there is none
  reach_hole : (c : Counting) (H : Hole) → T (is_hole H) → Reached (with_hole (with_counting empty_held c) H)
  reach_hole c Whole p = reach_counting c
  reach_hole c (Part t b) p =
      let h = with_counting empty_held c in
      one_more_record h (with_hole h (Part t b)) (Command.Confine t b) (hole-record h.settings t b p) refl (λ u. refl) (reach_counting c)

  -- 02, Slip 10: and kind 21 the profile, unless it is off
  reach_profile : (c : Counting) (H : Hole) (p : Profile) → T (is_hole H) → Reached (with_profile (with_hole (with_counting empty_held c) H) p)
  unfolding every
  reach_profile c H Off t = reach_hole c H t
  reach_profile c H On t =
      let h = with_hole (with_counting empty_held c) H in
      one_more_record h (with_profile h On) Command.Restrict (profile-record h.settings) refl (λ u. refl) (reach_hole c H t)

  reach_settings : (σ : Settings) → T (is_settings σ) → Reached (of_parts σ [] [])
  reach_settings σ p = reach_profile σ.counting σ.hole σ.profile p

  module _ (σ : Settings) where
    reach_rules :
        (done todo : List Rule) → T (once same_rule (done ++ todo)) → ((ρ : Rule) → ρ ∈ todo → T (is_rule ρ)) →
        ((ρ : Rule) → ρ ∈ todo → T (admits σ.profile ρ)) → length done + length todo ≤ RULES → Reached (of_parts σ done []) →
        Reached (of_parts σ (done ++ todo) [])
    reach_rules done [] o p i n R = subst (λ v. Reached (of_parts σ v [])) (sym (append-nil done)) R
    reach_rules done (ρ ∷ todo) o p i n R =
        let a = not_before same_rule same_rule_lem rule_same done ρ todo o in
        let b = below RULES (length done) (omega arith) in
        let d : admits σ.profile ρ ≡ true = true_of (admits σ.profile ρ) (i ρ (Memᴰ.head refl)) in
        let w = rule-record σ ρ (p ρ (Memᴰ.head refl)) in
        let s = one_more_record (of_parts σ done []) (of_parts σ (done ++ (ρ ∷ [])) []) (Command.Add ρ) w (rw (d, a, b)) (λ u. refl) R in
        let e = append_assoc done (ρ ∷ []) todo in
        subst (λ v. Reached (of_parts σ v [])) e
        (reach_rules (done ++ (ρ ∷ [])) todo (subst (λ v. T (once same_rule v)) (sym e) o) (λ τ m. p τ (Memᴰ.tail m))
        (λ τ m. i τ (Memᴰ.tail m)) (simp length-append (omega arith)) s)

    module _ (rs : List Rule) where
      reach_marks :
          (done todo : List Mark) → T (once same_mark (done ++ todo)) → ((m : Mark) → m ∈ todo → T (is_mark m)) →
          ((m : Mark) → m ∈ todo → T (lies_in σ.hole m)) → length done + length todo ≤ MARKS →
          depth_count (ends_of (done ++ todo)) ≤ DEPTHS → Reached (of_parts σ rs done) → Reached (of_parts σ rs (done ++ todo))
      reach_marks done [] o p i n k R = subst (λ v. Reached (of_parts σ rs v)) (sym (append-nil done)) R
      reach_marks done (m ∷ todo) o p i n k R =
          let a = not_before same_mark same_mark_lem mark_same done m todo o in
          let b = below MARKS (length done) (omega arith) in
          let c = room done todo m k in
          let d : lies_in σ.hole m ≡ true = true_of (lies_in σ.hole m) (i m (Memᴰ.head refl)) in
          let w = mark-record σ m (p m (Memᴰ.head refl)) in
          let s = one_more_record (of_parts σ rs done) (of_parts σ rs (done ++ (m ∷ []))) (Command.Put m) w (rw (d, a, b, c)) (λ u. refl) R in
          let e = append_assoc done (m ∷ []) todo in
          subst (λ v. Reached (of_parts σ rs v)) e
          (reach_marks (done ++ (m ∷ [])) todo (subst (λ v. T (once same_mark v)) (sym e) o) (λ τ q. p τ (Memᴰ.tail q))
          (λ τ q. i τ (Memᴰ.tail q)) (simp length-append (omega arith)) (subst (λ v. depth_count (ends_of v) ≤ DEPTHS) (sym e) k) s)

  reachable : (h : Held) → Limited h → Reached h
  reachable h w =
      let σ = h.settings in
      reach_marks σ h.rules [] h.marks w.once_marks (λ m n. every_in is_mark h.marks w.marks m n)
      (λ m n. every_in (lies_in σ.hole) h.marks w.inside m n) (omega (arith, w.few_marks)) w.few_depths
      (reach_rules σ [] h.rules w.once_rules (λ ρ n. every_in is_rule h.rules w.rules ρ n)
      (λ ρ n. every_in (admits σ.profile) h.rules w.admitted ρ n) (omega (arith, w.few_rules))
      (reach_settings σ w.settings))

  -- and what a run of records leads to is such a block
  run_held : {mem : List ℕ} → RunTo mem → (h : Held) × Limited h × (mem ≡ encode h)
  run_held from_zeros = (empty_held, empty_limited, sym 𝓛.encode_empty)
  run_held (by_record {mem = mem} c s p q R) =
      let (h, w, e) = run_held R in
      let A = call_then 𝓛 h w mem e c s in
      (A.holds_then, A.limits-then, A.memory)

  -- 01, Where a record is turned away: number 2 is for a block that no run of records from all zeros leads to
  pub good_exactly :
      (read : (b : List ℕ) → SIZE ≤ length b → T (good b) → (h : Held) × T (limits h) × (take SIZE b ≡ encode h)) (b : List ℕ) →
      SIZE ≤ length b → T (good b) ↔ RunTo (take SIZE b)
  good_exactly read b l = (there, back)
    where
      there : T (good b) → RunTo (take SIZE b)
      there t = let (h, w, e) = read b l t in subst RunTo (sym e) (reachable h (limited h w)).run

      back : RunTo (take SIZE b) → T (good b)
      back R =
          let (k, w, e) = run_held R in
          let f : b ≡ encode k ++ drop SIZE b = sym (take-append-drop SIZE b) ∙ ap (λ x. x ++ drop SIZE b) e in
          subst (λ x. T (good x)) (sym f) (𝓛.good_encode k (drop SIZE b) (of_limited k w))
