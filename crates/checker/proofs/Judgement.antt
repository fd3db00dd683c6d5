-- For all bytes there is one verdict, and only one; a checker function that gives it.
use Prim.Native.Nat.{ℕ, zero, suc, ◌≤◌, ◌<◌}
use mathlib.Core.Path.{◌≡◌, refl, ap, sym, ◌∙◌}
use mathlib.Core.Bool.{Bool, true, false, false≢true}
use mathlib.Core.List.{List}
use mathlib.Core.Logic.{◌⊎◌, inl, inr, ⊎_elim, ◌↔◌}
use native.Mathlib.Omega.{arith}
use lib.Dec.{ltb}
use lib.ListN.{length, get_or, get_or-eq_default}
use borrow.Author.Tests.{ltb-true, lt-ltb}
use Rattle.base.proofs.Numbers.{nat_le_or_lt}
use Rattle.definitions.specs.Limits.{byte_values}
use Rattle.definitions.specs.Bytes.{Bytes, all}
use Rattle.definitions.specs.ProblemRecord.{n_field, m_field, problem_refusal, meant}
use Rattle.definitions.specs.AnswerRecord.{answer_refusal}
use Rattle.definitions.specs.Verdict.{Verdict, accepted, refused, check_refusal, answer_for, not_certified, Judged, turned_away, certified, uncertified}
use Rattle.definitions.specs.Demands.{Checker, CheckerJudges}
use Rattle.definitions.proofs.Bytes.{all_true}
use Rattle.definitions.proofs.IdleDay.{meant_bytes}
use Rattle.definitions.proofs.Refusals.{or_else_none}
use Rattle.checker.proofs.Decided.{known, bytes_decided}

-- ---- some verdict

pub record SomeVerdict (p a : List ℕ) : Type 0 where
  pub verdict : Verdict
  pub judged : Judged p a verdict

-- For all bytes there is a verdict.
pub judged_exists : (p a : List ℕ) → Bytes p → Bytes a → SomeVerdict p a
unfolding check_refusal
judged_exists p a b c = go (check_refusal p a) refl
  where
    go : (k : ℕ) → check_refusal p a ≡ k → SomeVerdict p a
    go (suc k) e = record { verdict = refused (suc k); judged = turned_away e }
    go zero e =
        let none = (or_else_none (problem_refusal p) (answer_refusal a (n_field p) (m_field p))).0 e in
        ⊎_elim
        (λ h. record { verdict = accepted (answer_for p a).class (answer_for p a).span; judged = certified e h })
        (λ d. record { verdict = refused not_certified; judged = uncertified e d })
        (known (bytes_decided p a b c none.0 none.1))

-- ---- only one

-- And only one.
pub judged_unique : {p a : List ℕ} {v u : Verdict} → Judged p a v → Judged p a u → v ≡ u
judged_unique (turned_away e) (turned_away f) = ap refused (sym e ∙ f)
judged_unique (turned_away e) (certified f h) = absurd (omega (arith, e, f))
judged_unique (turned_away e) (uncertified f h) = absurd (omega (arith, e, f))
judged_unique (certified e h) (turned_away f) = absurd (omega (arith, e, f))
judged_unique (certified e h) (certified f k) = refl
judged_unique (certified e h) (uncertified f k) = absurd (k h)
judged_unique (uncertified e h) (turned_away f) = absurd (omega (arith, e, f))
judged_unique (uncertified e h) (certified f k) = absurd (h k)
judged_unique (uncertified e h) (uncertified f k) = refl

-- ---- a checker

-- A list whose elements all pass the test is a string of bytes, and the other way round.
pub all_bytes : (s : List ℕ) → (all (λ b. ltb b byte_values) s ≡ true) ↔ Bytes s
all_bytes s = (
  λ e. record {
    byte = λ i. ⊎_elim (λ (l : length s ≤ i). rw (get_or-eq_default s 0 l) (omega arith))
        (λ (l : i < length s). ltb-true (get_or s i 0) byte_values ((all_true (λ b. ltb b byte_values) 0 s).0 e i l)) (nat_le_or_lt (length s) i);
  },
  λ b. (all_true (λ b. ltb b byte_values) 0 s).1 (λ i l. lt-ltb (get_or s i 0) byte_values (b.byte i)),
)

-- Whether a list is a string of bytes.
bytes_known : (s : List ℕ) → Bytes s ⊎ (Bytes s → ⊥)
bytes_known s = go (all (λ b. ltb b byte_values) s) refl
  where
    go : (t : Bool) → all (λ b. ltb b byte_values) s ≡ t → Bytes s ⊎ (Bytes s → ⊥)
    go true e = inl ((all_bytes s).0 e)
    go false e = inr (λ b. false≢true (sym e ∙ (all_bytes s).1 b))

-- The verdict on bytes; lists that are no strings of bytes are refused.
checked : (p a : List ℕ) → Bytes p ⊎ (Bytes p → ⊥) → Bytes a ⊎ (Bytes a → ⊥) → Verdict
checked p a (inl b) (inl c) = (judged_exists (meant p) a (meant_bytes p b) c).verdict
checked p a (inl b) (inr d) = refused 0
checked p a (inr d) c = refused 0

pub the_checker : Checker
the_checker p a = checked p a (bytes_known p) (bytes_known a)

pub the_checker_judges : CheckerJudges the_checker
unfolding the_checker checked
the_checker_judges p a b c = go (bytes_known p) (bytes_known a)
  where
    go : (x : Bytes p ⊎ (Bytes p → ⊥)) (y : Bytes a ⊎ (Bytes a → ⊥)) → Judged (meant p) a (checked p a x y)
    go (inl b') (inl c') = (judged_exists (meant p) a (meant_bytes p b') c').judged
    go (inl b') (inr d) = absurd (d c.bytes)
    go (inr d) y = absurd (d b.bytes)
