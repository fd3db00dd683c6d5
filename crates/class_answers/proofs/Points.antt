-- A point by policy iteration over all rows shows t possible, wherever it is: its values are finite where some solution's are, and
-- they are small.
use Prim.Native.Nat.{ℕ, suc, ◌+◌, ◌*◌, ◌≤◌, ◌<◌}
use mathlib.Core.Path.{◌≡◌, refl, sym, ap, ◌∙◌}
use mathlib.Core.Bool.{true}
use mathlib.Core.Logic.{⊎_elim}
use mathlib.Core.List.{List}
use native.Mathlib.Omega.{arith}
use lib.ListN.{get_or}
use lib.IntN.{ℤ, pos, nat_abs, ◌-ℤ◌}
use lib.Signed.{◌≤ℤ◌}
use borrow.Author.Tests.{le-leb}
use Rattle.base.proofs.Numbers.{nat_le_or_lt}
use Rattle.definitions.specs.Limits.{signed_half, lead_limit, span_limit, stamp_limit}
use Rattle.definitions.specs.Tropical.{Trop, bot, fin, Finite}
use Rattle.definitions.specs.Problem.{Problem, Attainable}
use Rattle.definitions.specs.Certificate.{Second}
use Rattle.definitions.specs.Bytes.{blank_or_within}
use Rattle.definitions.specs.Offset.{trop_of}
use Rattle.definitions.proofs.Whole.{up, down, whole, minus_read, abs_show, subℕ_read}
use Rattle.definitions.proofs.Tropical.{bot_not_fin}
use Rattle.definitions.proofs.Offset.{trop_zero, trop_fin, trop_order, trop_read}
use Rattle.duality.specs.System.{Solution, Meets, system_at}
use Rattle.duality.specs.Starts.{Only}
use Rattle.duality.specs.Values.{Policy, difference, values}
use Rattle.duality.proofs.Ends.{started_solution}
use Rattle.duality.proofs.Solutions.{solved_finite}
use Rattle.duality.proofs.Classes.{attainable_exactly}
use Rattle.duality.proofs.Stamps.{stamps_at_most_32}
use Rattle.policy_iteration.specs.Tables.{point_of, pick_of, raised_limit, Table, Ranged}
use Rattle.policy_iteration.proofs.Rounds.{zero_is}
use Rattle.policy_iteration.proofs.Steps.{values_ranged}
use Rattle.search.specs.Trials.{whole_of, zero_offset, Trialled}
use Rattle.look.specs.declared.frame.Frame.{Frame}
use Rattle.look.specs.Frames.{Raised, Ready, Held}
use Rattle.look.specs.Look.{level}
use Rattle.look.specs.Point.{rows_in, AllRows, PointFor}
use Rattle.duality.proofs.Agree.{Agree, agree_solves, agree_values, agree_policy}
use Rattle.look.proofs.Tables.{raised_tables, raised_ends, level_caps, problem_in_lem, agree_at, held_within}
use Rattle.class_answers.specs.Answered.{PointAt}

-- ---- the tables of all rows

pub all_rows : {f : Frame} {raised : List ℕ} {t : ℕ} → Ready f → Trialled t → Raised f.right.now f.m t 32 raised → AllRows f raised
all_rows y b r = record { tables = raised_tables y b r; left_ends = y.left_ends; right_ends = raised_ends y b r }

pub right_raised : {f : Frame} {raised : List ℕ} {t : ℕ} → Ready f → Trialled t → Raised f.right.now f.m t 32 raised → Table raised_limit raised
right_raised y b r = (raised_tables y b r).rights

-- The values are in range.
pub point_ranged : {f : Frame} {raised : List ℕ} {t : ℕ} {x : List ℕ} → Ready f → Trialled t → Raised f.right.now f.m t 32 raised
    → PointFor f.n f.m f.left.now raised x → Ranged x
point_ranged {f} {raised} {t} {x} y b r d =
    let w = raised_tables y b r in
    values_ranged f.left.now raised level d.picks x (f.n + 1) (f.m + 1) w (level_caps (f.n + 1) w.width_most) d.ended.values_are

module _ {p : Problem} {f : Frame} {raised : List ℕ} {t : ℕ} {x : List ℕ} (q : Held p f.n f.m f.left.now f.right.now) (y : Ready f)
    (b : Trialled t) (r : Raised f.right.now f.m t 32 raised) (d : PointFor f.n f.m f.left.now raised x) where
  agree : Agree (rows_in f.n f.m f.left.now raised) (system_at p (whole_of t))
  agree = agree_at q y.coefficients b r

  policy : Policy (system_at p (whole_of t)) (pick_of d.picks)
  policy = agree_policy (rows_in f.n f.m f.left.now raised) (system_at p (whole_of t)) (pick_of d.picks) (pick_of d.picks) agree (λ j h. refl) d.ended.policy

  value_is : (j : ℕ) → j ≤ p.n → point_of x j ≡ values (system_at p (whole_of t)) (pick_of d.picks) j
  value_is j h =
      d.ended.values_are.each j (omega (arith, q.n_is))
      ∙ agree_values (rows_in f.n f.m f.left.now raised) (system_at p (whole_of t)) (pick_of d.picks) (pick_of d.picks) agree (λ j h. refl) j (omega (arith, q.n_is))

  -- ---- it is finite where some solution is

  finite_at : (k : ℕ) → k ≤ p.n → Solution (system_at p (whole_of t)) (Only k) → Finite (point_of x k)
  finite_at k h s = rw (value_is k h) (solved_finite (system_at p (whole_of t)) (pick_of d.picks) policy k s)

  pub attained_anchor : Attainable p (whole_of t) → 0 < get_or x 0 0
  attained_anchor a = (trop_read (get_or x 0 0) (finite_at 0 (omega arith) ((attainable_exactly p (whole_of t)).0 a).0).is).0

  attained_second : Attainable p (whole_of t) → Meets (system_at p (whole_of t)) (Second p) (point_of x)
  attained_second a =
      let s = ((attainable_exactly p (whole_of t)).0 a).1 in
      record {
        at = s.at;
        inside = s.inside;
        started = s.started;
        finite = finite_at s.at s.started.inside (started_solution (system_at p (whole_of t)) (Only s.at) s.point s.solves s.at s.inside refl s.finite);
      }

  -- ---- it is small

  record Low (v : ℤ) : Type 0 where
    floor : down v ≤ 64 * lead_limit + nat_abs (whole_of t) + up v
    top : v ≤ℤ pos 0

  low : (k : ℕ) (v : ℤ) → point_of x k ≡ fin v → Low v
  low k v e = ⊎_elim
      (λ (h : suc p.n ≤ k). absurd (bot_not_fin (sym trop_zero ∙ ap trop_of (sym (d.ended.values_are.rest k (omega (arith, q.n_is)))) ∙ e)))
      (λ (h : k < suc p.n).
      let z = stamps_at_most_32 p (whole_of t) (pick_of d.picks) lead_limit (held_within q y.coefficients) policy (omega (arith, q.n_is, y.coefficients.n_most)) k (omega arith) v (sym (value_is k (omega arith)) ∙ e) in
      record { floor = z.0; top = z.1 })
      (nat_le_or_lt (suc p.n) k)

  size : nat_abs (whole_of t) ≤ span_limit + 1
  size = abs_show (whole_of t) (omega (whole, subℕ_read t signed_half, b.lowest, b.highest)) (omega (whole, subℕ_read t signed_half, b.lowest, b.highest))

  low_within : (v u : ℤ) → Low v → Low u → blank_or_within stamp_limit (fin (v -ℤ u)) ≡ true
  unfolding blank_or_within
  low_within v u g h = le-leb _ stamp_limit (abs_show (v -ℤ u)
      (omega (whole, g.floor, g.top, h.floor, h.top, size, minus_read v u))
      (omega (whole, g.floor, g.top, h.floor, h.top, size, minus_read v u)))

  stamp_within : (u : ℤ) → point_of x 0 ≡ fin u → (k : ℕ) → blank_or_within stamp_limit (difference (point_of x k) (point_of x 0)) ≡ true
  unfolding difference blank_or_within
  stamp_within u e k = rw e (go (point_of x k) refl)
    where
      go : (z : Trop) → point_of x k ≡ z → blank_or_within stamp_limit (difference z (fin u)) ≡ true
      go bot g = refl
      go (fin v) g = low_within v u (low k v g) (low 0 u e)

  -- Where t is possible the point shows it,
  pub point_shows : Attainable p (whole_of t) → PointAt p t x
  point_shows a = record {
    finite = attained_anchor a;
    second = attained_second a;
    solves = agree_solves (point_of x) agree (d.ended.solves (attained_anchor a));
    stamps = stamp_within _ (trop_fin (get_or x 0 0) (attained_anchor a));
    rest = λ k h. d.ended.values_are.rest k (omega (arith, q.n_is));
  }

  -- and the value of variable 0 is at most zero.
  anchored : get_or x 0 0 ≤ zero_offset
  unfolding system_at
  anchored = (trop_order (get_or x 0 0) zero_offset).0 (rw (value_is 0 (omega arith), zero_is) (policy.below 0 (omega arith)))

pub point_anchored : {f : Frame} {raised : List ℕ} {t : ℕ} {x : List ℕ} → Ready f → Trialled t → Raised f.right.now f.m t 32 raised → PointFor f.n f.m f.left.now raised x
    → get_or x 0 0 ≤ zero_offset
point_anchored {f} y b r d = anchored (problem_in_lem f.n f.m f.left.now f.right.now) y b r d
