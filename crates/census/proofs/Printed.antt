-- The lines of a census.
use Prim.Native.Nat.{ℕ, suc, ◌+◌, ◌*◌, ◌≤◌, ◌<◌}
use mathlib.Core.Path.{◌≡◌, refl, ap, sym, ◌∙◌}
use mathlib.Core.List.{List, [], ◌∷◌, ◌++◌, append_assoc}
use native.Mathlib.Omega.{arith}
use native.Mathlib.Numerals.{add-one}
use lib.ListN.{length, get_or, take}
use lib.Seq.{take-suc, take_all}
use Rattle.definitions.specs.Programs.{decimal, newline, refused_line}
use Rattle.definitions.specs.Census.{numbers_line, census_line, table_line, Censuses, CensusOutput, TableOutput}
use Rattle.definitions.proofs.Put.{take_put}
use Rattle.printing.specs.Text.{Putting}
use Rattle.printing.proofs.Copy.{put_nothing, put_then}
use Rattle.counting.specs.Steps.{census_of}
use Rattle.std.specs.Prelude.{Result, Ok, Err}
use Rattle.records.specs.Refusals.{number_of}
use Rattle.records.specs.declared.refusal.Refusal.{Refusal}
use Rattle.counting.specs.declared.tally.Tally.{Tally}

-- Each number with a space behind it.
unfoldable pub each : List ℕ → List ℕ
each [] = []
each (x ∷ xs) = decimal x ++ (32 ∷ each xs)

each_join : (xs ys : List ℕ) → each (xs ++ ys) ≡ each xs ++ each ys
unfolding each
each_join [] ys = refl
each_join (x ∷ xs) ys =
    ap (λ (l : List ℕ). decimal x ++ (32 ∷ l)) (each_join xs ys) ∙ sym (append_assoc (decimal x) (32 ∷ each xs) (each ys))

-- The last number has the newline behind it.
line_ends : (xs : List ℕ) (y : ℕ) → each xs ++ (decimal y ++ newline) ≡ numbers_line (xs ++ (y ∷ []))
unfolding numbers_line each
line_ends [] y = refl
line_ends (x ∷ []) y = append_assoc (decimal x) (32 ∷ []) (decimal y ++ newline)
line_ends (x ∷ z ∷ zs) y =
    append_assoc (decimal x) (32 ∷ each (z ∷ zs)) (decimal y ++ newline) ∙ ap (λ (l : List ℕ). decimal x ++ (32 ∷ l)) (line_ends (z ∷ zs) y)

-- So many of the numbers are put.
pub record PutSo (l numbers : List ℕ) (i : ℕ) (now : List ℕ) (at : ℕ) : Type 0 where
  pub puts : Putting l 0 (each (take i numbers)) now at
  pub short : at ≤ 21 * i

pub put_none : (l numbers : List ℕ) → PutSo l numbers 0 l 0
unfolding each
put_none l numbers = record { puts = put_nothing l 0; short = omega arith }

pub put_more :
    {l numbers : List ℕ} {i : ℕ} {mid : List ℕ} {at : ℕ} {after : List ℕ} {next : ℕ} → PutSo l numbers i mid at → i < length numbers
    → Putting mid at (decimal (get_or numbers i 0) ++ (32 ∷ [])) after next → next ≤ at + 21 → PutSo l numbers (i + 1) after next
unfolding each
put_more {l} {numbers} {i} p h q room = record {
  puts =
      let more : each (take (i + 1) numbers) ≡ each (take i numbers) ++ (decimal (get_or numbers i 0) ++ (32 ∷ [])) =
      rw (add-one i, take-suc numbers i 0 h, each_join) refl in
      rw more (put_then p.puts q (omega arith));
  short = omega (arith, p.short);
}

-- The last one, and the newline.
pub put_all :
    {l numbers : List ℕ} {i : ℕ} {mid : List ℕ} {at : ℕ} {one : List ℕ} {next : ℕ} {after : List ℕ} {end : ℕ} → PutSo l numbers i mid at → i + 1 ≡ length numbers → at ≤ length mid
    → Putting mid at (decimal (get_or numbers i 0)) one next → Putting one next newline after end → Putting l 0 (numbers_line numbers) after end
put_all {l} {numbers} {i} p e inside q r =
    let whole : take i numbers ++ (get_or numbers i 0 ∷ []) ≡ numbers = sym (take-suc numbers i 0 (omega arith)) ∙ take_all (suc i) numbers (omega arith) in
    rw (← whole, ← line_ends) (put_then p.puts (put_then q r inside) (omega arith))

-- What was put at the front is what is shown.
put_shown : {l values after : List ℕ} {size : ℕ} → Putting l 0 values after size → take size after ≡ values
put_shown {l} {values} p = rw (p.after_is, p.next_is) (take_put l 0 values (omega arith))

pub shows_refused : {n m w : ℕ} {r : Result Tally Refusal} {k : Refusal} {l after : List ℕ} {size : ℕ} → Censuses n m w (census_of r) → r ≡ Err k → Putting l 0 (refused_line (number_of k)) after size
    → CensusOutput n m w (take size after)
unfolding census_line
shows_refused {r = r} c e p = record { census = census_of r; is = c; line = put_shown p ∙ rw e refl }

pub shows_counts : {n m w : ℕ} {r : Result Tally Refusal} {t : Tally} {l after : List ℕ} {size : ℕ} → Censuses n m w (census_of r) → r ≡ Ok t
    → Putting l 0 (numbers_line (t.least ∷ t.bottomless ∷ t.none ∷ t.silent ∷ [])) after size → CensusOutput n m w (take size after)
unfolding census_line
shows_counts {r = r} x e p = record { census = census_of r; is = x; line = put_shown p ∙ rw e refl }

pub shows_nothing : {n m w : ℕ} {r : Result Tally Refusal} {k : Refusal} → Censuses n m w (census_of r) → r ≡ Err k → TableOutput n m w []
unfolding table_line
shows_nothing {r = r} c e = record { census = census_of r; is = c; line = rw e refl }

pub shows_row : {n m w : ℕ} {r : Result Tally Refusal} {t : Tally} {l after : List ℕ} {size : ℕ} → Censuses n m w (census_of r) → r ≡ Ok t
    → Putting l 0 (numbers_line (n ∷ m ∷ w ∷ t.least ∷ t.bottomless ∷ t.none ∷ t.silent ∷ [])) after size → TableOutput n m w (take size after)
unfolding table_line
shows_row {r = r} x e p = record { census = census_of r; is = x; line = put_shown p ∙ rw e refl }
