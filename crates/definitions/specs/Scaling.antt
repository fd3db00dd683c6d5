-- Parts of a minute gain nothing. Document 02, 2.12: for every whole d of 1 or more, multiplying every lead of a problem by d
-- leaves its class and multiplies its least span by exactly d. With d = 2 the scaled problem is the same one told in half
-- minutes: read its leads, plans and spans as numbers of half minutes.
use Rattle.std.specs.Prelude.{ℕ, ◌≤◌, ◌≡◌, ◌↔◌, List, map, ℤ, pos, ◌*ℤ◌}
use Rattle.definitions.specs.Tropical.{Trop, bot, fin}
use Rattle.definitions.specs.Problem.{Problem, Optimal, Unbounded, Infeasible}
use Rattle.definitions.specs.ProblemRecord.{kind_field, n_field, m_field, leads_of, problem_of}
use Rattle.definitions.specs.Limits.{problem_kind}

-- d times a lead; blank stays blank.
unfoldable pub times : ℕ → Trop → Trop
times d bot = bot
times d (fin a) = fin (pos d *ℤ a)

-- The problem with every lead multiplied by d.
abbrev pub scaled : ℕ → Problem → Problem
scaled d p =
    record {
      n = p.n;
      m = p.m;
      left = λ i j. times d (p.left i j);
      right = λ i j. times d (p.right i j);
    }

-- u is d times a least span of the problem.
pub record TimesLeast (d : ℕ) (p : Problem) (u : ℤ) : Type 0 where
  pub span : ℤ
  pub is : u ≡ pos d *ℤ span
  pub least : Optimal p span

-- q has the class of p, each of the three both ways, and exactly d times its least span.
pub record GainsNothing (d : ℕ) (p q : Problem) : Type 0 where
  pub least_exactly : (s : ℤ) → Optimal p s ↔ Optimal q (pos d *ℤ s)
  pub no_other_least : (u : ℤ) → Optimal q u → TimesLeast d p u
  pub bottomless_exactly : Unbounded p ↔ Unbounded q
  pub none_exactly : Infeasible p ↔ Infeasible q

-- Strings of bytes s and t, read as problem records of kind 1 of the same n and m (whatever refusals apply to them): each lead of t
-- is d times the lead there in s. (Problems of the other kinds are covered by `every_problem`.)
pub record ScaledRecord (d : ℕ) (s t : List ℕ) : Type 0 where
  pub of_kind : kind_field s ≡ problem_kind
  pub kind : kind_field t ≡ problem_kind
  pub same_n : n_field t ≡ n_field s
  pub same_m : m_field t ≡ m_field s
  pub leads : leads_of t ≡ map (times d) (leads_of s)

-- Request 2.12: it holds of the definitions, with leads unlimited, so for every problem that the records can carry (it is
-- `every_problem` of that problem); where bytes can carry the scaled problem too, it holds of the two (`every_record`).
pub record PartsGainNothing : Type 0 where
  pub every_problem : (d : ℕ) (p : Problem) → 1 ≤ d → GainsNothing d p (scaled d p)
  pub every_record : (d : ℕ) (s t : List ℕ) → 1 ≤ d → ScaledRecord d s t → GainsNothing d (problem_of s) (problem_of t)
