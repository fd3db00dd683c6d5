-- Problems within the layout: their leads are small, as duality asks, and the trials of an answer are few.
use Prim.Native.Nat.{ℕ, suc, ◌*◌, ◌≤◌}
use mathlib.Core.Path.{◌≡◌}
use mathlib.Core.Bool.{true}
use mathlib.Core.List.{List}
use native.Mathlib.Omega.{arith}
use Rattle.definitions.specs.Limits.{lead_limit, span_limit, stride, most_trials, questions_kind}
use Rattle.definitions.specs.Tropical.{Trop}
use Rattle.definitions.specs.Bytes.{all, blank_or_within}
use Rattle.definitions.specs.ProblemRecord.{WithinLayout, WithinLayouts, leads_of, problem_of, kind_field, n_field, count_field}
use Rattle.definitions.specs.Questions.{alone}
use Rattle.definitions.specs.Solved.{Found, optimal, unbounded, infeasible, AnswersInTurn, no_question, one_more}
use Rattle.definitions.proofs.Bisection.{few_trials}
use Rattle.definitions.proofs.Offset.{within_size}
use Rattle.definitions.proofs.Layouts.{problem_fits, within_asks, left_limited, right_limited}
use Rattle.definitions.proofs.Solved.{one_asked}
use Rattle.duality.specs.Within.{Within, Enough}
use Rattle.duality.proofs.Classes.{optimal_range}
use Rattle.duality.proofs.Numbers.{top_enough}

-- Leads that are blank or within a limit,
pub leads_within : (limit : ℕ) (p : List ℕ) → WithinLayout p → all (blank_or_within limit) (leads_of p) ≡ true → Within (problem_of p) limit
unfolding problem_of
leads_within limit p w f =
    let k = within_asks p w in
    record {
      left = λ i j a h g e. within_size limit (left_limited limit p k f i j h g) e;
      right = λ i j a h g e. within_size limit (right_limited limit p k f i j h g) e;
    }

-- and 64 times it, which is enough for them.
pub leads_enough : (limit : ℕ) (p : List ℕ) → WithinLayout p → Enough (problem_of p).n limit (2 * stride * limit)
unfolding problem_of
leads_enough limit p w = top_enough (n_field p) limit (omega (arith, (problem_fits p w).n_most))

-- The leads are within their limit.
pub layout_within : (p : List ℕ) → WithinLayout p → Within (problem_of p) lead_limit
layout_within p w = leads_within lead_limit p w (problem_fits p w).leads_fit

-- The limit of spans is enough for them.
pub layout_enough : (p : List ℕ) → WithinLayout p → 2 * (suc (problem_of p).n * lead_limit) ≤ span_limit
layout_enough p w = leads_enough lead_limit p w

-- A class is found in few trials.
pub trials_few : (p : List ℕ) → WithinLayout p → {class : ℕ} {span : Trop} {trials : ℕ} → Found (problem_of p) class span trials → trials ≤ most_trials
unfolding problem_of
trials_few p w (optimal {s = s} o) =
    few_trials s (optimal_range (problem_of p) lead_limit span_limit (layout_within p w) (layout_enough p w) s o)
trials_few p w (unbounded u) = omega arith
trials_few p w (infeasible n) = omega arith

-- So are those of several questions together.
pub turn_few : {p : List ℕ} → kind_field p ≡ questions_kind → WithinLayouts p → {q trials : ℕ} {bytes : List ℕ} → AnswersInTurn p q bytes trials → q ≤ count_field p → trials ≤ q * most_trials
turn_few k w no_question h = omega arith
turn_few {p} k w (one_more {q = q} a turn ans) h =
    omega (arith, turn_few k w turn (omega arith), trials_few (alone p q) (one_asked p k w q (omega arith)).within ans.found)
