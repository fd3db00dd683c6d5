-- Whether an answer is accepted is decided: reach and closed walks by finitely many rounds, the rest by finitely many
-- tests. The tests of the code are put to use here without the code, on tables written down as lists.
use Prim.Native.Nat.{ℕ, zero, suc, ◌+◌, ◌*◌, ◌-◌, ◌/◌, ◌%◌, ◌≤◌, ◌<◌}
use mathlib.Core.Path.{◌≡◌, refl, ap, sym, subst, ◌∙◌}
use mathlib.Core.Bool.{Bool, true, false, false≢true}
use mathlib.Core.List.{List, []}
use mathlib.Core.Logic.{◌⊎◌, inl, inr, ⊎_elim}
use native.Mathlib.Omega.{arith}
use native.Mathlib.Nat.{eq-zero-or-pos}
use lib.Dec.{eqb}
use lib.ListN.{length, get_or, get_or-eq_default}
use lib.IntN.{ℤ, pos, sub_ℕ, ◌-ℤ◌}
use borrow.Author.Tests.{eqb-true, eqb-false}
use Rattle.base.specs.Decides.{Decides}
use Rattle.base.proofs.Numbers.{nat_le_or_lt}
use Rattle.base.proofs.Decides.{said_yes, said_no}
use Rattle.definitions.specs.Limits.{signed_half, span_limit, highest_n}
use Rattle.definitions.specs.Tropical.{fin}
use Rattle.definitions.specs.Bytes.{Bytes}
use Rattle.definitions.specs.Offset.{trop_of}
use Rattle.definitions.specs.Problem as Problems
use Rattle.definitions.specs.Problem.{Problem, Point, Value, minus_infinity, plus_infinity, Keeps, value}
use Rattle.definitions.specs.Certificate.{Second, start_of, AnchorAnd, PicksCount, BelowZero, RowPicksCount, AtLeastZero, AcceptedOptimal, AcceptedUnbounded}
use Rattle.definitions.specs.ProblemRecord.{list_of, WithinLayout, problem_of, n_field, m_field}
use Rattle.definitions.specs.AnswerRecord.{Answer, class_field, span_field, start_field, answer_of, answer_refusal, answer_outcome}
use Rattle.definitions.specs.Verdict.{Accepted, strategy_of}
use Rattle.definitions.proofs.Whole as Whole
use Rattle.definitions.proofs.Whole.{le_or_lt}
use Rattle.definitions.proofs.Tropical.{fin_injective, ⊑_or_above, finite_above}
use Rattle.definitions.proofs.Offset.{trop_fin}
use Rattle.definitions.proofs.AnswerFits.{answer_fits}
use Rattle.definitions.proofs.Counts.{second_decided}
use Rattle.duality.specs.Values.{value_at}
use Rattle.duality.specs.Starts.{StartBelow}
use Rattle.duality.proofs.Starts.{start_below, anchor_and_below}
use Rattle.duality.proofs.Longest.{exit_value, stable_potential, still_stable, potential_closed}
use Rattle.problem_records.specs.Tables.{left_table, right_table}
use Rattle.answer_reader.specs.Fields.{Padded, stamps_of, picks_of}
use Rattle.answer_reader.specs.declared.answer.Head.{Head}
use Rattle.std.specs.Prelude.{Ok}
use Rattle.answer_reader.specs.AnswerReading.{head_in, HeadAt, AnswerRead}
use Rattle.records.proofs.Refusing.{outcome_ok}
use Rattle.answer_reader.specs.AnswerReading.{told_by}
use Rattle.answer_reader.proofs.Heads.{head_told}
use Rattle.answer_reader.proofs.Judging.{span_meant}
use Rattle.problem_records.proofs.Tables.{length_list_of, get_d_list_of}
use Rattle.answer_reader.proofs.Passing.{stamps_at_length, picks_at_length}
use Rattle.answer_reader.proofs.ByClass.{stamps_most, picks_most}
use Rattle.reach.specs.Marks.{Begins, StartMarked}
use Rattle.reach.proofs.Existence.{MarksOf, reach_exists}
use Rattle.closed_walks.specs.Gains.{matrix, anywhere, Table, NoneGains, Tested}
use Rattle.records.specs.Stamps.{stamps_point}
use Rattle.records.specs.Decoded.{InTables}
use Rattle.closed_walks.specs.Tables.{Sized, Picked, Trial}
use Rattle.closed_walks.specs.Arcs.{variable_arc, VariableArcs, heaviest, RowArcs}
use Rattle.strategy_tests.specs.Counts.{PickCounts, RowPickCounts, VariablesCount, RowsCount}
use Rattle.checker.specs.Outcome.{Meant, Formed}
use Rattle.closed_walks.proofs.ClosedWalks.{all_or_gain}
use Rattle.strategy_tests.proofs.Variables.{variables_table, variables_not, variables_both}
use Rattle.strategy_tests.proofs.RowStrategy.{rows_table, rows_not, rows_both}
use Rattle.checker.proofs.Acceptance.{trial_below, optimal_broken, optimal_other, optimal_picks, trial_below_is, top_trial, top_trial_is, lowest_trial, lowest_trial_is, infeasible_at, unbounded_at, start_inside, by_optimal, by_unbounded, by_infeasible, named_so, start_names, highest_optimal, highest_unbounded, highest_infeasible, class_other}
use Rattle.checker.proofs.Answers.{HeadRead, read_means, read_formed}
use Rattle.closed_walks.proofs.Holding.{holds_sized}
use Rattle.problem_records.proofs.LeadTables.{problem_decoded}

-- P holds or not, with the answer as a Boolean.
pub record Decided (P : Type 0) : Type 0 where
  pub answer : Bool
  pub decides : Decides P answer

yes : {P : Type 0} → P → Decided P
yes h = record { answer = true; decides = said_yes h }

no : {P : Type 0} → (P → ⊥) → Decided P
no h = record { answer = false; decides = said_no h }

-- What is decided holds or does not.
pub known : {P : Type 0} → Decided P → P ⊎ (P → ⊥)
known {P} d = go d.answer refl
  where
    go : (b : Bool) → d.answer ≡ b → P ⊎ (P → ⊥)
    go true e = inl (d.decides.yes e)
    go false e = inr (d.decides.no e)

-- All of finitely many are decided.
all_decided : {P : ℕ → Type 0} → ((i : ℕ) → Decided (P i)) → (k : ℕ) → Decided ((i : ℕ) → i < k → P i)
all_decided f zero = yes (λ i h. absurd (omega arith))
all_decided {P} f (suc k) = ⊎_elim
    (λ h. ⊎_elim (λ e. yes (λ i b. last i b h e)) (λ d. no (λ g. d (g k (omega arith)))) (known (f k)))
    (λ d. no (λ g. d (λ i b. g i (omega arith))))
    (known (all_decided f k))
  where
    last : (i : ℕ) → i < suc k → ((i : ℕ) → i < k → P i) → P k → P i
    last i b h e = ⊎_elim (λ (l : k ≤ i). let q : k ≡ i = omega arith in subst P q e) (λ (l : i < k). h i l) (nat_le_or_lt k i)

-- A premise that is decided, and what it is asked for.
under : {P Q : Type 0} → Decided P → Decided Q → Decided (P → Q)
under p q = ⊎_elim (λ h. ⊎_elim (λ g. yes (λ _. g)) (λ d. no (λ f. d (f h))) (known q)) (λ d. yes (λ h. absurd (d h))) (known p)

nonzero : (k : ℕ) → Decided (0 < k)
nonzero k = ⊎_elim (λ (e : k ≡ 0). no (λ h. omega arith)) (λ h. yes h) (eq-zero-or-pos k)

-- ---- closed walks

pub record TestOf (arcs marks : List ℕ) (width : ℕ) : Type 0 where
  pub answer : Bool
  pub tested : Tested arcs marks width answer

pub test_exists : (arcs marks : List ℕ) (width : ℕ) → Table arcs width → 0 < width → TestOf arcs marks width
unfolding anywhere
test_exists arcs marks width table h = ⊎_elim
    (λ still. record { answer = true; tested = record { yes = λ _. none still; no = λ e. absurd (false≢true (sym e)) } })
    (λ some. record { answer = false; tested = record { yes = λ e. absurd (false≢true e); no = λ _. some } })
    (all_or_gain arcs marks width table (width - 1) width (omega arith) (omega arith))
  where
    none : ((j : ℕ) → j < width → value_at (matrix arcs marks) anywhere width (suc (width - 1)) j ≡ value_at (matrix arcs marks) anywhere width (width - 1) j)
        → NoneGains arcs marks width
    none still j n w b p =
        potential_closed (stable_potential (matrix arcs marks) anywhere width (still_stable (matrix arcs marks) anywhere width (width - 1) still)) b
        (finite_above (exit_value (matrix arcs marks) anywhere width (width - 1) j)) p

-- ---- picks that count

pick_decided : (left : List ℕ) (pick j : ℕ) → Decided (PickCounts left pick j)
pick_decided left zero j = no (λ c. omega (arith, c.picked))
pick_decided left (suc i) j = ⊎_elim
    (λ (h : 0 < get_or left (i * 32 + j) 0). yes (record { row = i; picked = refl; some = h }))
    (λ d. no (λ c. d (let e : c.row ≡ i = omega (arith, c.picked) in rw (← e) c.some)))
    (known (nonzero (get_or left (i * 32 + j) 0)))

row_pick_decided : (right : List ℕ) (pick base : ℕ) → Decided (RowPickCounts right pick base)
row_pick_decided right zero base = no (λ c. omega (arith, c.picked))
row_pick_decided right (suc l) base = ⊎_elim
    (λ (h : 0 < get_or right (base + l) 0). yes (record { variable = l; picked = refl; some = h }))
    (λ d. no (λ c. d (let e : c.variable ≡ l = omega (arith, c.picked) in rw (← e) c.some)))
    (known (nonzero (get_or right (base + l) 0)))

variables_decided : (left picks marks : List ℕ) (k : ℕ) → Decided (VariablesCount left picks marks k)
variables_decided left picks marks k = all_decided (λ j. under (nonzero (get_or marks j 0)) (pick_decided left (get_or picks j 0) j)) k

rows_decided : (left right picks marks : List ℕ) (width k : ℕ) → Decided (RowsCount left right picks marks width k)
rows_decided left right picks marks width k =
    all_decided (λ i. all_decided (λ j. under (nonzero (get_or marks j 0)) (under (nonzero (get_or left (i * 32 + j) 0)) (row_pick_decided right (get_or picks i 0) (i * 32)))) width) k

-- ---- strategies

-- The table of a strategy of variables, and that of a strategy of rows.
variable_table : List ℕ → List ℕ → ℕ → ℕ → List ℕ → List ℕ
variable_table left right m t picks = list_of (λ k. variable_arc left right m t (get_or picks (k / 32) 0) (k / 32) (k % 32)) 1024

row_table : List ℕ → List ℕ → ℕ → ℕ → List ℕ → List ℕ
row_table left right m t picks = list_of (λ k. heaviest left right m t picks (m + 1) (k / 32) (k % 32)) 1024

-- An entry of a table that is written down so.
cell_at : (f : ℕ → ℕ → ℕ) (n j l : ℕ) → n ≤ highest_n → j < n + 1 → l < n + 1 → get_or (list_of (λ k. f (k / 32) (k % 32)) 1024) (j * 32 + l) 0 ≡ f j l
cell_at f n j l w h k =
    let a : (j * 32 + l) / 32 ≡ j = omega arith in
    let b : (j * 32 + l) % 32 ≡ l = omega arith in
    get_d_list_of (λ k. f (k / 32) (k % 32)) 1024 (j * 32 + l) (omega arith) ∙ rw (a, b)

variable_cells : (left right : List ℕ) (n m t : ℕ) (picks : List ℕ) → n ≤ highest_n
    → VariableArcs left right m t picks (n + 1) (n + 1) (variable_table left right m t picks)
unfolding variable_table
variable_cells left right n m t picks w = record {
  length_is = length_list_of _ 1024;
  cells = λ j l h k. cell_at (λ j l. variable_arc left right m t (get_or picks j 0) j l) n j l w h k;
}

row_cells : (left right : List ℕ) (n m t : ℕ) (picks : List ℕ) → n ≤ highest_n
    → RowArcs left right m t picks (n + 1) (m + 1) (row_table left right m t picks)
unfolding row_table
row_cells left right n m t picks w = record {
  length_is = length_list_of _ 1024;
  cells = λ j l h k. cell_at (heaviest left right m t picks (m + 1)) n j l w h k;
}

-- ---- starts

-- A start as marks.
pub record Begun (Start : ℕ → Type 0) (width : ℕ) : Type 0 where
  pub begin : List ℕ
  pub starts : StartMarked Start width begin

-- A mark for what is so.
flag : {P : Type 0} → P ⊎ (P → ⊥) → ℕ
flag (inl h) = 1
flag (inr d) = 0

flag_most : {P : Type 0} (x : P ⊎ (P → ⊥)) → flag x ≤ 1
unfolding flag
flag_most (inl h) = omega arith
flag_most (inr d) = omega arith

flag_yes : {P : Type 0} (x : P ⊎ (P → ⊥)) → P → 0 < flag x
unfolding flag
flag_yes (inl h) p = omega arith
flag_yes (inr d) p = absurd (d p)

flag_only : {P : Type 0} (x : P ⊎ (P → ⊥)) → 0 < flag x → P
unfolding flag
flag_only (inl h) l = h
flag_only (inr d) l = absurd (omega arith)

-- Whoever knows which variables a start has can mark them.
pub start_begun : {Start : ℕ → Type 0} {width : ℕ} → width ≤ 32 → StartBelow width Start → Begun Start width
start_begun {Start} {width} w s = record { begin = marks; starts = record { flags = record { length_is = length_list_of mark 32; flag = most }; marked = marked; only = only } }
  where
    mark : ℕ → ℕ
    mark j = flag (s.decided j)

    marks : List ℕ
    marks = list_of mark 32

    at : (j : ℕ) → j < 32 → get_or marks j 0 ≡ flag (s.decided j)
    at j h = get_d_list_of mark 32 j h

    most : (j : ℕ) → get_or marks j 0 ≤ 1
    most j = ⊎_elim
        (λ (h : 32 ≤ j). let long : length (list_of mark 32) ≤ j = rw length_list_of h in omega (arith, get_or-eq_default (list_of mark 32) 0 long))
        (λ (h : j < 32). rw (at j h) (flag_most (s.decided j)))
        (nat_le_or_lt 32 j)

    marked : (j : ℕ) → Start j → Begins marks width j
    marked j h = record { inside = s.inside j h; marked = rw (at j (omega (arith, s.inside j h))) (flag_yes (s.decided j) h) }

    only : (j : ℕ) → Begins marks width j → Start j
    only j b = flag_only (s.decided j) (rw (at j (omega (arith, b.inside))) at b.marked)

-- From any start, as marks.
module _ {Start : ℕ → Type 0} {p : Problem} {left right begin : List ℕ} {n m : ℕ} (t : ℕ) {picks : List ℕ} {z : ℤ} (holds : InTables p n m left right) (trial : Trial t)
    (trial-is : trop_of t ≡ fin z) (starts : StartMarked Start (n + 1) begin) where
  pub strategy_decided : Picked picks (m + 1) → Decided (PicksCount Start p (strategy_of picks) × BelowZero Start p (strategy_of picks) z)
  strategy_decided picked = go counts.answer refl
    where
      sized : Sized left right n m
      sized = holds_sized holds

      arcs : List ℕ
      arcs = variable_table left right m t picks

      shown : VariableArcs left right m t picks (n + 1) (n + 1) arcs
      shown = variable_cells left right n m t picks sized.n_most

      marked : MarksOf arcs (n + 1) begin
      marked = reach_exists arcs (n + 1) begin (omega (arith, sized.n_most)) starts.flags

      counts : Decided (VariablesCount left picks marked.marks (n + 1))
      counts = variables_decided left picks marked.marks (n + 1)

      test : TestOf arcs marked.marks (n + 1)
      test = test_exists arcs marked.marks (n + 1) (variables_table sized trial picked shown) (omega arith)

      go : (b : Bool) → counts.answer ≡ b → Decided (PicksCount Start p (strategy_of picks) × BelowZero Start p (strategy_of picks) z)
      go false e = record { answer = false; decides = variables_not sized trial picked shown holds trial-is starts marked.reached counts.decides e }
      go true e = record { answer = test.answer; decides = variables_both sized trial picked shown holds trial-is starts marked.reached counts.decides e test.tested }

  pub row_strategy_decided : Picked picks (n + 1) → Decided (RowPicksCount Start p (strategy_of picks) × AtLeastZero Start p (strategy_of picks) z)
  row_strategy_decided picked = go counts.answer refl
    where
      sized : Sized left right n m
      sized = holds_sized holds

      arcs : List ℕ
      arcs = row_table left right m t picks

      shown : RowArcs left right m t picks (n + 1) (m + 1) arcs
      shown = row_cells left right n m t picks sized.n_most

      marked : MarksOf arcs (n + 1) begin
      marked = reach_exists arcs (n + 1) begin (omega (arith, sized.n_most)) starts.flags

      counts : Decided (RowsCount left right picks marked.marks (n + 1) (m + 1))
      counts = rows_decided left right picks marked.marks (n + 1) (m + 1)

      test : TestOf arcs marked.marks (n + 1)
      test = test_exists arcs marked.marks (n + 1) (rows_table sized trial picked shown) (omega arith)

      go : (b : Bool) → counts.answer ≡ b → Decided (RowPicksCount Start p (strategy_of picks) × AtLeastZero Start p (strategy_of picks) z)
      go false e = record { answer = false; decides = rows_not sized trial picked shown holds trial-is starts marked.reached counts.decides e }
      go true e = record { answer = test.answer; decides = rows_both sized trial picked shown holds trial-is starts marked.reached counts.decides e test.tested }

-- ---- points

keeps_decided : (p : Problem) (x : Point) (m : ℕ) → Decided ((i : ℕ) → i < m → Keeps p x i)
keeps_decided p x m = all_decided (λ i. ⊎_elim (λ h. yes h) (λ h. no h.1) (⊑_or_above _ _)) m

value_decided : (v : Value) (z : ℤ) → Decided (v ≡ Problems.whole z)
value_decided minus_infinity z = no (λ e. let q : ◌≡◌ {A = ℕ} 0 1 = cc in omega arith)
value_decided plus_infinity z = no (λ e. let q : ◌≡◌ {A = ℕ} 0 1 = cc in omega arith)
value_decided (Problems.whole y) z = ⊎_elim
    (λ h. ⊎_elim (λ k. let e : y ≡ z = omega Whole.whole in yes (ap Problems.whole e)) (λ k. no (λ e. let q : y ≡ z = cc in omega (Whole.whole, q))) (le_or_lt z y))
    (λ h. no (λ e. let q : y ≡ z = cc in omega (Whole.whole, q)))
    (le_or_lt y z)

-- ---- answers

module _ {p : Problem} {left right : List ℕ} {n m : ℕ} (head : Head) {stamps picks : List ℕ} (holds : InTables p n m left right)
    (formed : Formed n m head stamps picks) where
  -- Any start below n + 1 as marks.
  begun : {Start : ℕ → Type 0} → StartBelow (suc p.n) Start → Begun Start (n + 1)
  begun {Start} s =
      let e : suc p.n ≡ n + 1 = omega (arith, holds.n_is) in
      start_begun (omega (arith, holds.n_is, holds.decoded.n_most)) (subst (λ (k : ℕ). StartBelow k Start) e s)

  -- What the answer's start means in classes 1 and 3.
  starts : Begun (start_of p head.start) (n + 1)
  starts = begun (start_below p head.start)

  pub optimal_decided : head.class ≡ 1 → {z : ℤ} → trop_of head.span ≡ fin z → Decided (AcceptedOptimal (start_of p head.start) p z (stamps_point stamps) (strategy_of picks))
  optimal_decided e {z} f = go rules.answer refl is.answer refl
    where
      rules : Decided ((i : ℕ) → i < m → Keeps p (stamps_point stamps) i)
      rules = keeps_decided p (stamps_point stamps) m

      is : Decided (value p (stamps_point stamps) ≡ Problems.whole z)
      is = value_decided (value p (stamps_point stamps)) z

      walks : Decided (PicksCount (start_of p head.start) p (strategy_of picks) × BelowZero (start_of p head.start) p (strategy_of picks) (z -ℤ pos 1))
      walks = strategy_decided (head.span - 1) holds (trial_below (formed.whole_span e)) (trial_below_is head.span (formed.whole_span e) f) starts.starts
          (rw (highest_optimal n m head.class e) at formed.picked)

      go : (a : Bool) → rules.answer ≡ a → (b : Bool) → is.answer ≡ b → Decided (AcceptedOptimal (start_of p head.start) p z (stamps_point stamps) (strategy_of picks))
      go false a b c = record { answer = false; decides = optimal_broken holds stamps rules.decides a }
      go true a false c = record { answer = false; decides = optimal_other holds stamps is.decides c }
      go true a true c = record { answer = walks.answer; decides = optimal_picks holds stamps (formed.anchored e) rules.decides a is.decides c walks.decides }

  -- Class 2 with the variable that its start names.
  named_decided : head.class ≡ 2 → (k : ℕ) → Decided (Second p k × AcceptedUnbounded (AnchorAnd k) p (strategy_of picks))
  named_decided e k = ⊎_elim
      (λ h.
      let picked = rw (highest_unbounded n m head.class e) at formed.picked in
      let s = anchor_and_below p k h in
      let d = row_strategy_decided (signed_half - span_limit - 1) holds lowest_trial lowest_trial_is (begun s).starts picked in
      record { answer = d.answer; decides = named_so (said_yes h) refl (unbounded_at holds (start_inside s) picked d.decides) })
      (λ d. no (λ h. d h.0))
      (second_decided p k)

  -- Whether the answer that these mean is accepted.
  pub accepted_decided : {a : Answer} → Meant a head stamps picks → Decided (Accepted p a)
  accepted_decided {a} meant = by_class (eqb head.class 1) refl (eqb head.class 2) refl (eqb head.class 3) refl
    where
      by_class : (b : Bool) → eqb head.class 1 ≡ b → (c : Bool) → eqb head.class 2 ≡ c → (d : Bool) → eqb head.class 3 ≡ d → Decided (Accepted p a)
      by_class true e c f d g =
          let one : head.class ≡ 1 = eqb-true head.class 1 e in
          let whole_span = formed.whole_span one in
          let is : trop_of head.span ≡ fin (sub_ℕ head.span signed_half) = trop_fin head.span whole_span.some in
          let d = optimal_decided one is in
          record {
            answer = d.answer;
            decides = by_optimal head meant one whole_span
                (λ z h. subst (λ (y : ℤ). Decides (AcceptedOptimal (start_of p head.start) p y (stamps_point stamps) (strategy_of picks)) d.answer) (fin_injective (sym is ∙ h)) d.decides);
          }
      by_class false e true f d g =
          let two : head.class ≡ 2 = eqb-true head.class 2 f in
          let d = named_decided two (head.start - 1) in
          record { answer = d.answer; decides = by_unbounded head meant (head.start - 1) two (omega (arith, (start_names formed two).0)) d.decides }
      by_class false e false f true g =
          let three : head.class ≡ 3 = eqb-true head.class 3 g in
          let picked = rw (highest_infeasible n m head.class three) at formed.picked in
          let d = strategy_decided (signed_half + span_limit) holds top_trial top_trial_is starts.starts picked in
          record { answer = d.answer; decides = by_infeasible head meant three (infeasible_at holds (start_inside (start_below p head.start)) picked d.decides) }
      by_class false e false f false g = absurd (class_other formed.class_known (eqb-false head.class 1 e) (eqb-false head.class 2 f) (eqb-false head.class 3 g))

-- ---- bytes

-- A list as an array, with 0 behind it.
pub pad : ℕ → List ℕ → List ℕ
pad width xs = list_of (λ k. get_or xs k 0) width

pub padded : (width : ℕ) (xs : List ℕ) → length xs ≤ width → Padded width xs (pad width xs)
unfolding pad
padded width xs h = record {
  width_is = length_list_of _ width;
  element = λ k. ⊎_elim
      (λ (l : width ≤ k).
      let long : length (list_of (λ k. get_or xs k 0) width) ≤ k = rw length_list_of l in
      let none : length xs ≤ k = omega arith in
      get_or-eq_default (list_of (λ k. get_or xs k 0) width) 0 long ∙ sym (get_or-eq_default xs 0 none))
      (λ (l : k < width). get_d_list_of (λ k. get_or xs k 0) width k l)
      (nat_le_or_lt width k);
}

held_by : (p : List ℕ) → Bytes p → WithinLayout p → InTables (problem_of p) (n_field p) (m_field p) (left_table p) (right_table p)
unfolding problem_of
held_by p b w = record { n_is = refl; m_is = refl; decoded = problem_decoded p b w }

head_at : (a : List ℕ) (n m : ℕ) → Bytes a → HeadAt a (head_in a)
unfolding answer_of
head_at a n m b = record { class_is = refl; span_is = span_meant b n m; start_is = refl }

read_by : (a : List ℕ) (n m : ℕ) → Bytes a → answer_refusal a n m ≡ 0
    → AnswerRead a n m (Ok (head_in a)) [] (pad 32 (stamps_of a n)) [] (pad 64 (picks_of a n m))
unfolding stamps_of picks_of answer_outcome
read_by a n m b none =
    let f = (answer_fits a n m).0 none in
    record {
      answered = outcome_ok told_by (head_in a) (class_field a, span_field a, start_field a) none (head_told (head_at a n m b));
      kept = λ d. absurd (d none);
      stamps_read = λ _. padded 32 _ (rw stamps_at_length (stamps_most (class_field a) n f.n_most));
      picks_read = λ _. padded 64 _ (rw picks_at_length (picks_most (class_field a) n m f.n_most f.m_most));
    }

-- Whether bytes of the right form are accepted.
pub bytes_decided : (p a : List ℕ) → Bytes p → Bytes a → WithinLayout p → answer_refusal a (n_field p) (m_field p) ≡ 0
    → Decided (Accepted (problem_of p) (answer_of a (n_field p) (m_field p)))
bytes_decided p a b c w none = accepted_decided (head_in a) held (read_formed c read right) (read_means c read right)
  where
    held : InTables (problem_of p) (n_field p) (m_field p) (left_table p) (right_table p)
    held = held_by p b w

    right : HeadRead a (n_field p) (m_field p) (head_in a)
    right = record { none = none; is = head_at a (n_field p) (m_field p) c }

    read : AnswerRead a (n_field p) (m_field p) (Ok (head_in a)) [] (pad 32 (stamps_of a (n_field p))) [] (pad 64 (picks_of a (n_field p) (m_field p)))
    read = read_by a (n_field p) (m_field p) c none
