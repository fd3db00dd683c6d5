-- There is one answer of the tool for the bytes of a problem and of an answer: one list of rules, and one round.
use Prim.Native.Nat.{ℕ, zero, suc, ◌+◌, ◌-◌, ◌≤◌, ◌<◌}
use mathlib.Core.Path.{◌≡◌, refl, sym, ap, subst, ◌∙◌}
use mathlib.Core.List.{List}
use mathlib.Core.Logic.{⊎_elim}
use native.Mathlib.Omega.{arith}
use Rattle.base.proofs.Numbers.{nat_le_or_lt}
use Rattle.definitions.specs.Problem.{Problem, Point}
use Rattle.definitions.specs.Certificate.{Strategy}
use Rattle.definitions.specs.ProblemRecord.{list_of}
use Rattle.definitions.specs.Reasons as Reasons
use Rattle.definitions.specs.Reasons.{Yields, Begins, at_anchor, at_second, Round, Reasoned}
use Rattle.binding.proofs.Listing.{listed_unique}
use Rattle.binding.proofs.Turns.{yields_one}
use Rattle.binding.proofs.Round.{listed_same}

-- The turns begin at one variable.
begins_one : {p : Problem} {x : Point} {start j k : ℕ} → Begins p x start j → Begins p x start k → j ≡ k
begins_one at_anchor at_anchor = refl
begins_one (at_second {j = j} s f n) (at_second {j = k} t g m) = ⊎_elim
    (λ (h : j ≤ k). ⊎_elim (λ (l : k ≤ j). omega arith) (λ (l : j < k). absurd (m j l s f)) (nat_le_or_lt k j))
    (λ (h : k < j). absurd (n k h t g))
    (nat_le_or_lt j k)

-- ---- two rounds of the same turns

module _ {p : Problem} {x : Point} {picks : Strategy} {start : ℕ} where
  -- The same variables come,
  turns_same :
      {one two : List ℕ} (r : Round p x picks start one) (s : Round p x picks start two) (i : ℕ) → i ≤ suc r.last → i ≤ suc s.last → r.turn i ≡ s.turn i
  turns_same r s zero h k = begins_one r.begins s.begins
  turns_same r s (suc i) h k =
      yields_one (subst (λ (j : ℕ). Yields p x picks j (r.turn (suc i))) (turns_same r s i (omega arith) (omega arith)) (r.yields i (omega arith))) (s.yields i (omega arith))

  -- so that neither comes back before the other,
  not_before : {one two : List ℕ} (r : Round p x picks start one) (s : Round p x picks start two) → r.last < s.last → ⊥
  not_before r s h =
      s.new r.back (suc r.last) (omega (arith, r.after)) (omega arith)
      (sym (turns_same r s r.back (omega (arith, r.after)) (omega (arith, r.after)))
      ∙ sym r.again
      ∙ turns_same r s (suc r.last) (omega arith) (omega arith))

  last_same : {one two : List ℕ} (r : Round p x picks start one) (s : Round p x picks start two) → r.last ≡ s.last
  last_same r s = ⊎_elim
      (λ (h : r.last ≤ s.last). ⊎_elim (λ (l : s.last ≤ r.last). omega arith) (λ (l : r.last < s.last). absurd (not_before r s l)) (nat_le_or_lt s.last r.last))
      (λ (h : s.last < r.last). absurd (not_before s r h))
      (nat_le_or_lt r.last s.last)

  -- and both come back to the same place.
  back_not_before : {one two : List ℕ} (r : Round p x picks start one) (s : Round p x picks start two) → r.back < s.back → ⊥
  back_not_before r s h =
      let e = last_same r s in
      s.new r.back s.back h s.after
      (sym (turns_same r s r.back (omega (arith, r.after)) (omega (arith, r.after)))
      ∙ sym r.again
      ∙ turns_same r s (suc r.last) (omega arith) (omega arith)
      ∙ ap (λ (k : ℕ). s.turn (suc k)) e
      ∙ s.again)

  back_same : {one two : List ℕ} (r : Round p x picks start one) (s : Round p x picks start two) → r.back ≡ s.back
  back_same r s = ⊎_elim
      (λ (h : r.back ≤ s.back). ⊎_elim (λ (l : s.back ≤ r.back). omega arith) (λ (l : r.back < s.back). absurd (back_not_before r s l)) (nat_le_or_lt s.back r.back))
      (λ (h : s.back < r.back). absurd (back_not_before s r h))
      (nat_le_or_lt r.back s.back)

  -- There is one round.
  pub round_unique : {one two : List ℕ} → Round p x picks start one → Round p x picks start two → one ≡ two
  round_unique r s =
      let e = last_same r s in
      let b = back_same r s in
      let same : (i : ℕ) → i < suc r.last - r.back → r.turn (r.back + i) ≡ s.turn (s.back + i) =
      λ i h. turns_same r s (r.back + i) (omega (arith, r.after)) (omega (arith, r.after)) ∙ ap (λ (k : ℕ). s.turn (k + i)) b in
      let many : suc r.last - r.back ≡ suc s.last - s.back = omega arith in
      r.round_is
      ∙ listed_same (λ i. r.turn (r.back + i)) (λ i. s.turn (s.back + i)) (suc r.last - r.back) same
      ∙ ap (list_of (λ i. s.turn (s.back + i))) many
      ∙ sym s.round_is

-- One answer of the tool.
pub reasoned_unique : {p a : List ℕ} {r s : Reasons.Reasons} → Reasoned p a r → Reasoned p a s → r ≡ s
reasoned_unique (Reasons.turned_away e) (Reasons.turned_away f) = ap Reasons.refused (sym e ∙ f)
reasoned_unique (Reasons.turned_away e) (Reasons.uncertified f _) = absurd (omega arith)
reasoned_unique (Reasons.turned_away e) (Reasons.bottomless f _ _) = absurd (omega arith)
reasoned_unique (Reasons.turned_away e) (Reasons.none f _ _ _) = absurd (omega arith)
reasoned_unique (Reasons.turned_away e) (Reasons.least f _ _ _ _) = absurd (omega arith)
reasoned_unique (Reasons.uncertified e d) (Reasons.turned_away f) = absurd (omega arith)
reasoned_unique (Reasons.uncertified e d) (Reasons.uncertified f _) = refl
reasoned_unique (Reasons.uncertified e d) (Reasons.bottomless f h _) = absurd (d h)
reasoned_unique (Reasons.uncertified e d) (Reasons.none f h _ _) = absurd (d h)
reasoned_unique (Reasons.uncertified e d) (Reasons.least f h _ _ _) = absurd (d h)
reasoned_unique (Reasons.bottomless e h c) (Reasons.turned_away f) = absurd (omega arith)
reasoned_unique (Reasons.bottomless e h c) (Reasons.uncertified f d) = absurd (d h)
reasoned_unique (Reasons.bottomless e h c) (Reasons.bottomless f _ _) = refl
reasoned_unique (Reasons.bottomless e h c) (Reasons.none f _ k _) = absurd (omega arith)
reasoned_unique (Reasons.bottomless e h c) (Reasons.least f _ k _ _) = absurd (omega arith)
reasoned_unique (Reasons.none e h c l) (Reasons.turned_away f) = absurd (omega arith)
reasoned_unique (Reasons.none e h c l) (Reasons.uncertified f d) = absurd (d h)
reasoned_unique (Reasons.none e h c l) (Reasons.bottomless f _ k) = absurd (omega arith)
reasoned_unique (Reasons.none e h c l) (Reasons.none f _ k q) = ap Reasons.of_none (listed_unique l q)
reasoned_unique (Reasons.none e h c l) (Reasons.least f _ k _ _) = absurd (omega arith)
reasoned_unique (Reasons.least e h c l r) (Reasons.turned_away f) = absurd (omega arith)
reasoned_unique (Reasons.least e h c l r) (Reasons.uncertified f d) = absurd (d h)
reasoned_unique (Reasons.least e h c l r) (Reasons.bottomless f _ k) = absurd (omega arith)
reasoned_unique (Reasons.least e h c l r) (Reasons.none f _ k _) = absurd (omega arith)
reasoned_unique (Reasons.least e h c l r) (Reasons.least f _ k q s) = let one = listed_unique l q in let two = round_unique r s in cc
