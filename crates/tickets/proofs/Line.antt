-- A line: numbers that stand in it once each, exactly those that wait. One joins its end, its head leaves, its head goes to the end.
use Prim.Native.Nat.{ℕ, zero, suc, ◌≤◌, ◌<◌}
use mathlib.Core.Path.{◌≡◌, refl, sym, subst, ◌∙◌}
use mathlib.Core.Logic.{◌⊎◌, inl, inr, ⊎_elim}
use mathlib.Core.List.{List, [], ◌∷◌, ◌++◌}
use native.Mathlib.Omega.{arith}
use lib.ListN.{length, get_or, length-append, get_or-append}
use lib.Seq.{get_or-append-add}
use Rattle.base.proofs.Numbers.{nat_le_or_lt}
use Rattle.duality.proofs.Pigeonhole.{pigeonhole}

-- Number i stands at place q of the line.
pub record At (line : List ℕ) (i q : ℕ) : Type 0 where
  pub inside : q < length line
  pub is : get_or line q 0 ≡ i

-- Somewhere.
pub record In (line : List ℕ) (i : ℕ) : Type 0 where
  pub place : ℕ
  pub there : At line i place

-- The line holds exactly those that wait, each once.
pub record Line (Waits : ℕ → Type 0) (line : List ℕ) : Type 0 where
  pub wait : {i q : ℕ} → At line i q → Waits i
  pub apart : {i q r : ℕ} → At line i q → At line i r → q ≡ r
  pub all : {i : ℕ} → Waits i → In line i

-- ---- places in a line that changes

pub at_kept : {line : List ℕ} {i q : ℕ} (k : ℕ) → At line i q → At (line ++ (k ∷ [])) i q
at_kept {line} {i} {q} k a = record {
  inside = omega (arith, a.inside, length-append line (k ∷ []));
  is = get_or-append line (k ∷ []) 0 q a.inside ∙ a.is;
}

pub at_end : (line : List ℕ) (k : ℕ) → At (line ++ (k ∷ [])) k (length line)
at_end line k = record {
  inside = omega (arith, length-append line (k ∷ []));
  is = subst (λ (z : ℕ). get_or (line ++ (k ∷ [])) z 0 ≡ k) (omega arith) (get_or-append-add line (k ∷ []) 0 0);
}

-- What stands in the longer line stood in the shorter one, or is the one that joined.
pub at_joined : (line : List ℕ) (k : ℕ) {i q : ℕ} → At (line ++ (k ∷ [])) i q → At line i q ⊎ ((i ≡ k) × (q ≡ length line))
at_joined line k {i} {q} a = ⊎_elim last before (nat_le_or_lt (length line) q)
  where
    before : q < length line → At line i q ⊎ ((i ≡ k) × (q ≡ length line))
    before h = inl (record { inside = h; is = sym (get_or-append line (k ∷ []) 0 q h) ∙ a.is })

    last : length line ≤ q → At line i q ⊎ ((i ≡ k) × (q ≡ length line))
    last h =
        let e : q ≡ length line = omega (arith, a.inside, length-append line (k ∷ [])) in
        inr (sym a.is ∙ rw e (at_end line k).is, e)

pub at_tail : {h i q : ℕ} {rest : List ℕ} → At (h ∷ rest) i (suc q) → At rest i q
at_tail a = record { inside = omega (arith, a.inside); is = a.is }

pub at_behind : {h i q : ℕ} {rest : List ℕ} → At rest i q → At (h ∷ rest) i (suc q)
at_behind a = record { inside = omega (arith, a.inside); is = a.is }

-- Behind the head, where it is another.
pub at_next : {h i q : ℕ} {rest : List ℕ} → (i ≡ h → ⊥) → At (h ∷ rest) i q → (r : ℕ) × (q ≡ suc r) × At rest i r
at_next {q = zero} d a = absurd (d (sym a.is))
at_next {q = suc q} d a = (q, refl, at_tail a)

-- ---- lines

-- One that did not wait joins the end.
pub joins : {W U : ℕ → Type 0} {line : List ℕ} (k : ℕ) → Line W line → (W k → ⊥) → ((i : ℕ) → W i → U i) → U k
    → ((i : ℕ) → U i → W i ⊎ (i ≡ k)) → Line U (line ++ (k ∷ []))
joins {W} {U} {line} k l new keeps now old = record { wait = λ {i} {q} a. waits (at_joined line k a); apart = λ {i} {q} {r} a b. once (at_joined line k a) (at_joined line k b); all = λ {i} v. placed (old i v) }
  where
    waits : {i q : ℕ} → At line i q ⊎ ((i ≡ k) × (q ≡ length line)) → U i
    waits {i} (inl a) = keeps i (l.wait a)
    waits (inr e) = subst U (sym e.0) now

    once : {i q r : ℕ} → At line i q ⊎ ((i ≡ k) × (q ≡ length line)) → At line i r ⊎ ((i ≡ k) × (r ≡ length line)) → q ≡ r
    once (inl a) (inl b) = l.apart a b
    once (inl a) (inr e) = absurd (new (subst W e.0 (l.wait a)))
    once (inr e) (inl b) = absurd (new (subst W e.0 (l.wait b)))
    once (inr e) (inr f) = e.1 ∙ sym f.1

    placed : {i : ℕ} → W i ⊎ (i ≡ k) → In (line ++ (k ∷ [])) i
    placed (inl w) = let p = l.all w in record { place = p.place; there = at_kept k p.there }
    placed (inr e) = record { place = length line; there = subst (λ (z : ℕ). At (line ++ (k ∷ [])) z (length line)) (sym e) (at_end line k) }

-- The same line, for those that wait by another word.
pub line_as : {W U : ℕ → Type 0} {line : List ℕ} → ((i : ℕ) → W i → U i) → ((i : ℕ) → U i → W i) → Line W line → Line U line
line_as to from l = record { wait = λ {i} {q} a. to i (l.wait a); apart = l.apart; all = λ {i} v. l.all (from i v) }

-- The head leaves.
pub leaves : {W U : ℕ → Type 0} {h : ℕ} {rest : List ℕ} → Line W (h ∷ rest) → ((i : ℕ) → (i ≡ h → ⊥) → W i → U i)
    → ((i : ℕ) → U i → W i × (i ≡ h → ⊥)) → Line U rest
leaves {W} {U} {h} {rest} l keeps old = record {
  wait = λ {i} {q} a. keeps i (λ e. other a e) (l.wait (at_behind a));
  apart = λ {i} {q} {r} a b. let e : suc q ≡ suc r = l.apart (at_behind a) (at_behind b) in omega arith;
  all = λ {i} v. let p = l.all (old i v).0 in let n = at_next (old i v).1 p.there in record { place = n.0; there = n.2 };
}
  where
    head : At (h ∷ rest) h 0
    head = record { inside = omega arith; is = refl }

    other : {i q : ℕ} → At rest i q → i ≡ h → ⊥
    other {i} {q} a e = let z : suc q ≡ 0 = l.apart (at_behind a) (subst (λ (k : ℕ). At (h ∷ rest) k 0) (sym e) head) in omega arith

-- A line of numbers below k has at most k of them.
pub line_most : {W : ℕ → Type 0} {line : List ℕ} (k : ℕ) → Line W line → ((i : ℕ) → W i → i < k) → length line ≤ k
line_most {W} {line} k l below = ⊎_elim (λ (h : suc k ≤ length line). absurd (twice h)) (λ (h : length line < suc k). omega arith) (nat_le_or_lt (suc k) (length line))
  where
    here : suc k ≤ length line → (q : ℕ) → q ≤ k → At line (get_or line q 0) q
    here h q b = record { inside = omega arith; is = refl }

    twice : suc k ≤ length line → ⊥
    twice h =
        let r = pigeonhole k (λ q. get_or line q 0) (λ q b. below (get_or line q 0) (l.wait (here h q b))) in
        let e : r.one ≡ r.two = l.apart (subst (λ (i : ℕ). At line i r.one) r.same (here h r.one (omega (arith, r.ordered, r.inside)))) (here h r.two r.inside) in
        omega (arith, r.ordered)
