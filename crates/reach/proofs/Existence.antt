-- Marks of what a start reaches exist, whoever would look for them: one variable after another spreads its marks.
use Prim.Native.Nat.{ℕ, zero, suc, ◌+◌, ◌*◌, ◌≤◌, ◌<◌}
use mathlib.Core.Path.{◌≡◌, refl}
use mathlib.Core.List.{List}
use mathlib.Core.Logic.{◌⊎◌, inl, inr, ⊎_elim}
use native.Mathlib.Omega.{arith}
use native.Mathlib.Numerals.{add-one}
use lib.ListN.{length, get_or, set, replicate}
use Rattle.base.proofs.Numbers.{nat_le_or_lt}
use Rattle.reach.specs.Marks.{Marked, Flags, Reached}
use Rattle.reach.specs.Spreading.{mark_of, RowMarked, Reaching, unmarked}
use Rattle.reach.proofs.Marks.{zero_flags, row_none, row_more, row_flags, done_flags, done_fewer, reaching_start, reaching_row, reaching_done}

record RowOf (arcs : List ℕ) (base k : ℕ) (old : List ℕ) : Type 0 where
  marks : List ℕ
  row : RowMarked arcs base k old marks

row_exists : (arcs : List ℕ) (base : ℕ) (old : List ℕ) → length old ≡ 32 → (k : ℕ) → k ≤ 32 → RowOf arcs base k old
row_exists arcs base old e zero h = record { marks = old; row = row_none arcs base old }
row_exists arcs base old e (suc k) h =
    let r = row_exists arcs base old e k (omega arith) in
    record { marks = set r.marks k (mark_of (get_or r.marks k 0) (get_or arcs (base + k) 0)); row = rw (← add-one k) (row_more r.row (omega (arith, r.row.same)) refl) }

-- A variable below k that is marked and not done.
record Due (marks done : List ℕ) (k : ℕ) : Type 0 where
  at : ℕ
  inside : at < k
  due : get_or done at 0 < get_or marks at 0

none_or_due : (marks done : List ℕ) (k : ℕ) → ((j : ℕ) → j < k → Marked marks j → Marked done j) ⊎ Due marks done k
none_or_due marks done zero = inl (λ j h. absurd (omega arith))
none_or_due marks done (suc k) = ⊎_elim
    (λ none. ⊎_elim (λ (h : get_or marks k 0 ≤ get_or done k 0). inl (λ j b m. last none h j b m)) (λ h. inr (record { at = k; inside = omega arith; due = h }))
    (nat_le_or_lt (get_or marks k 0) (get_or done k 0)))
    (λ d. inr (record { at = d.at; inside = omega (arith, d.inside); due = d.due }))
    (none_or_due marks done k)
  where
    last : ((j : ℕ) → j < k → Marked marks j → Marked done j) → get_or marks k 0 ≤ get_or done k 0 → (j : ℕ) → j < suc k → Marked marks j → Marked done j
    last none h j b m = ⊎_elim
        (λ (q : k ≤ j). let e : j ≡ k = omega arith in rw e (let n : Marked marks k = rw e at m in omega arith))
        (λ (q : j < k). none j q m)
        (nat_le_or_lt k j)

-- Marks of the variables that are reachable from the start.
pub record MarksOf (arcs : List ℕ) (width : ℕ) (begin : List ℕ) : Type 0 where
  pub marks : List ℕ
  pub reached : Reached arcs width begin marks

module _ (arcs : List ℕ) (width : ℕ) (begin : List ℕ) (w : width ≤ 32) where
  -- One variable more, unless all are done.
  reach_step : (marks done : List ℕ) → Flags marks → Flags done → Reaching arcs width begin marks done
      → ((new spread : List ℕ) → unmarked width spread < unmarked width done → Flags new → Flags spread → Reaching arcs width begin new spread → MarksOf arcs width begin)
      → MarksOf arcs width begin
  reach_step marks done f g h further = ⊎_elim
      (λ all. record { marks = marks; reached = reaching_done f h all })
      (λ d.
      let k : d.at < 32 = omega (arith, d.inside) in
      let r = row_exists arcs (d.at * 32) marks f.length_is 32 (omega arith) in
      further r.marks (set done d.at 1) (done_fewer g d.at k width d.inside (omega (arith, d.due, f.flag d.at))) (row_flags r.row f) (done_flags g d.at k)
      (reaching_row w d.inside g (omega (arith, d.due)) r.row h))
      (none_or_due marks done width)

  reach_on : (fuel : ℕ) (marks done : List ℕ) → unmarked width done ≤ fuel → Flags marks → Flags done → Reaching arcs width begin marks done → MarksOf arcs width begin
  reach_on zero marks done b f g h = reach_step marks done f g h (λ new spread l p q r. absurd (omega arith))
  reach_on (suc fuel) marks done b f g h = reach_step marks done f g h (λ new spread l p q r. reach_on fuel new spread (omega arith) p q r)

  pub reach_exists : Flags begin → MarksOf arcs width begin
  reach_exists f = reach_on (unmarked width (replicate 32 0)) begin (replicate 32 0) (omega arith) f zero_flags (reaching_start arcs width begin)
