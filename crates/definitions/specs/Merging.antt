-- Two plans into one. Document 02, 2.13.
use Rattle.std.specs.Prelude.{ℕ, suc, ◌*◌, ◌<◌, ◌≡◌, Bool, true, false, not, cond, ◌&&◌, List, [], ◌∷◌, map, ◌⊎◌, eqb, ltb, length, take, drop, ℤ, pos, neg_ℤ, ◌≤ℤ◌}
use Rattle.std.proofs.Math.IntN.{sub_ℕ}
use Rattle.std.specs.Int.Signed.{le_z}
use Rattle.definitions.specs.Limits.{stamp_limit, signed_bytes, word_half, word_values, merged_most, refused_room, refused_form, refused_shift, refused_rule, refused_early}
use Rattle.definitions.specs.Tropical.{Trop, bot, fin, plus, larger}
use Rattle.definitions.specs.Problem.{Problem, Point, Keeps, Feasible, value, ◌≼◌, Counts}
use Rattle.definitions.specs.Bytes.{nums_at, fields, trop_field, field_of, some_below, first, or_else, Outcome, refusal, gives}
use Rattle.definitions.specs.ProblemRecord.{n_field, problem_refusal, problem_of, list_of}
use Rattle.definitions.specs.AnswerRecord.{stamps_fit, written}
use Rattle.definitions.specs.Verdict.{point_of}

-- ---- what is handed over

-- A plan as bytes: the n + 1 stamps in them, 4 bytes each as in an answer record, and the point that they give.
abbrev pub plan_stamps : ℕ → List ℕ → List Trop
plan_stamps n s = map trop_field (nums_at signed_bytes (suc n) s 0)

abbrev pub plan_of : ℕ → List ℕ → Point
plan_of n s = point_of (plan_stamps n s)

-- The bytes are "n+1 stamps of the form of class 1": stamp 0 is 0, the others are blank or within their limit.
unfoldable pub plan_fits : ℕ → List ℕ → Bool
plan_fits n s = eqb (length s) (signed_bytes * suc n) && stamps_fit (plan_stamps n s)

-- The shift t, a signed number of 64 bits, of the unsigned number with the same bits.
unfoldable pub shift_of : ℕ → ℤ
shift_of w = cond (ltb w word_half) (pos w) (sub_ℕ w word_values)

-- ---- the merged plan

-- "Each moment is the later of the first plan's and the second plan's plus t."
abbrev pub merged : ℤ → Point → Point → Point
merged t x y j = larger (x j) (plus (y j) (fin t))

-- The merged plan of two plans in bytes, and its n + 1 stamps as bytes.
abbrev pub merged_plan : ℕ → List ℕ → List ℕ → ℤ → Point
merged_plan n a b t = merged t (plan_of n a) (plan_of n b)

unfoldable pub merged_bytes : ℕ → List ℕ → List ℕ → ℤ → List ℕ
merged_bytes n a b t = fields signed_bytes (map field_of (list_of (merged_plan n a b t) (suc n)))

-- ---- refusals

-- The shift is above 0.
unfoldable pub above_zero : ℤ → Bool
above_zero t = not (le_z t (pos 0))

-- The first of the problem's refusals, "as in the checker, then 7, 12, 24" that applies, 0 where none does; the first plan is looked at
-- before the second.
unfoldable pub merge_refusal : List ℕ → List ℕ → List ℕ → ℤ → ℕ → ℕ
merge_refusal p a b t room =
    or_else (problem_refusal p)
    (first
    (record { applies = ltb room merged_most; number = refused_room }
    ∷ record { applies = not (plan_fits (n_field p) a); number = refused_form }
    ∷ record { applies = not (plan_fits (n_field p) b); number = refused_form }
    ∷ record { applies = above_zero t; number = refused_shift }
    ∷ []))

-- The point keeps every rule; the question plays no part. Refusal 25: one of the two plans does not.
abbrev pub KeepsRules : Problem → Point → Type 0
KeepsRules p x = (i : ℕ) → i < p.m → Keeps p x i

abbrev pub BothKeep : List ℕ → List ℕ → List ℕ → Type 0
BothKeep p a b = KeepsRules (problem_of p) (plan_of (n_field p) a) × KeepsRules (problem_of p) (plan_of (n_field p) b)

-- A stamp is below −6,000,000. Refusal 26: a merged one is.
unfoldable pub early : Trop → Bool
early bot = false
early (fin z) = not (le_z (neg_ℤ (pos stamp_limit)) z)

abbrev pub some_early : ℕ → List ℕ → List ℕ → ℤ → Bool
some_early n a b t = some_below (λ j. early (merged_plan n a b t j)) (suc n)

-- ---- the entry

-- What merging answers for a problem (the record p that the bytes mean, `meant`), two plans, a shift and a lent buffer, the refusal or how many bytes are written, and the buffer
-- afterwards: as it was where something is refused; else the merged stamps stand at its start, and every byte after them is as it was.
pub data Merges (p a b : List ℕ) (t : ℤ) (before : List ℕ) : Outcome ℕ → List ℕ → Type 0 where
  turned_away : {k : ℕ} → merge_refusal p a b t (length before) ≡ suc k → Merges p a b t before (refusal (suc k)) before
  rule_broken : merge_refusal p a b t (length before) ≡ 0 → (BothKeep p a b → ⊥) → Merges p a b t before (refusal refused_rule) before
  too_early :
      merge_refusal p a b t (length before) ≡ 0 → BothKeep p a b → some_early (n_field p) a b t ≡ true
      → Merges p a b t before (refusal refused_early) before
  stamps :
      merge_refusal p a b t (length before) ≡ 0 → BothKeep p a b → some_early (n_field p) a b t ≡ false
      → Merges p a b t before (gives (signed_bytes * suc (n_field p))) (written before (merged_bytes (n_field p) a b t))

-- ---- what is proved

-- Of a plan merged from two: it keeps the rules and its anchor is 0; "where both count, it counts and its span is at most the greater of
-- the two", that is, at most the one or at most the other.
pub record MergedWell (p : Problem) (x y both : Point) : Type 0 where
  pub keeps : Feasible p both
  pub counts : Counts p x → Counts p y → Counts p both
  pub span : Counts p x → Counts p y → (value p both ≼ value p x) ⊎ (value p both ≼ value p y)

-- The plan that stands in the buffer: it is the merged one, its stamps have the form of class 1, and it is merged well; bytes after it
-- stay.
pub record InBuffer (p a b : List ℕ) (t : ℤ) (before : List ℕ) (size : ℕ) (after : List ℕ) : Type 0 where
  pub size_is : size ≡ signed_bytes * suc (n_field p)
  pub plan_is : (j : ℕ) → plan_of (n_field p) (take size after) j ≡ merged_plan (n_field p) a b t j
  pub form : plan_fits (n_field p) (take size after) ≡ true
  pub well : MergedWell (problem_of p) (plan_of (n_field p) a) (plan_of (n_field p) b) (plan_of (n_field p) (take size after))
  pub stay : drop size after ≡ drop size before

-- It holds of all plans that keep the rules, in blanks or whole minutes without limit, and of what every entry leaves that merges so;
-- and there is one result alone.
pub record MergingKeeps : Type 0 where
  pub every_plan : (p : Problem) (t : ℤ) (x y : Point) → t ≤ℤ pos 0 → Feasible p x → Feasible p y → MergedWell p x y (merged t x y)
  pub every_buffer :
      (p a b : List ℕ) (t : ℤ) (before : List ℕ) (size : ℕ) (after : List ℕ) → Merges p a b t before (gives size) after
      → InBuffer p a b t before size after
  pub one_result :
      (p a b : List ℕ) (t : ℤ) (before : List ℕ) (r s : Outcome ℕ) (after then : List ℕ) → Merges p a b t before r after
      → Merges p a b t before s then → (r ≡ s) × (after ≡ then)
