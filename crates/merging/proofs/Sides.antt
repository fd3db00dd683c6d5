-- Each side of a row at the merged plan is the later of the first plan's side and the second's plus t. So the merged plan keeps what both keep,
-- counts where one counts, and its span is at most that of one of them.
use Prim.Native.Nat.{ℕ, suc}
use mathlib.Core.Path.{◌≡◌, refl, ap, sym, ◌∙◌}
use mathlib.Core.Logic.{◌⊎◌, inl, inr, ⊎_elim}
use lib.IntN.{ℤ, pos, ◌+ℤ◌, ◌-ℤ◌}
use lib.Signed.{◌≤ℤ◌}
use Rattle.definitions.specs.Tropical.{Trop, bot, fin, plus, larger, ◌⊑◌, blank_least, whole_least}
use Rattle.definitions.specs.Problem as Problems
use Rattle.definitions.specs.Problem.{Problem, Point, Value, side, Keeps, Feasible, value, ◌≼◌, lowest, between, highest, minus, Counts}
use Rattle.definitions.specs.Merging.{merged, MergedWell}
use Rattle.definitions.proofs.Whole.{whole, plus_read, minus_read}
use Rattle.definitions.proofs.Values.{≼_refl, ≼_trans}
use Rattle.definitions.proofs.Tropical.{⊑_refl, ⊑_trans, ⊑_antisym, ⊑_of_eq, finite_above, plus_fin, plus_assoc, plus_mono, larger_left, larger_right, larger_one, larger_least, larger_mono, largest_above, largest_least, largest_mono, largest_plus}

-- ---- sides

module _ (n : ℕ) (c : ℕ → Trop) (t : ℤ) (x y : Point) where
  -- What the later of two stamps gives is given by one of them.
  side_under : side n c (merged t x y) ⊑ larger (side n c x) (plus (side n c y) (fin t))
  unfolding side
  side_under = largest_least _ (suc n) (λ j h. ⊎_elim
      (λ e. rw e (⊑_trans (largest_above (λ j. plus (c j) (x j)) (suc n) j h) (larger_left _ _)))
      (λ e. ⊑_trans (⊑_of_eq (ap (plus (c j)) e ∙ sym (plus_assoc (c j) (y j) (fin t))))
      (⊑_trans (plus_mono (largest_above (λ j. plus (c j) (y j)) (suc n) j h) (⊑_refl (fin t))) (larger_right _ _)))
      (larger_one (x j) (plus (y j) (fin t))))

  side_over : larger (side n c x) (plus (side n c y) (fin t)) ⊑ side n c (merged t x y)
  unfolding side
  side_over = larger_least
      (largest_mono _ _ (suc n) (λ j _. plus_mono (⊑_refl (c j)) (larger_left (x j) (plus (y j) (fin t)))))
      (⊑_trans (⊑_of_eq (sym (largest_plus (λ j. plus (c j) (y j)) (fin t) (suc n))))
      (largest_mono _ _ (suc n) (λ j _. rw (plus_assoc (c j) (y j) (fin t)) (plus_mono (⊑_refl (c j)) (larger_right (x j) (plus (y j) (fin t)))))))

  pub side_merged : side n c (merged t x y) ≡ larger (side n c x) (plus (side n c y) (fin t))
  side_merged = ⊑_antisym side_under side_over

-- ---- spans

-- A difference grows with the first and falls with the second.
minus_order : {a b c d : Trop} → a ⊑ b → d ⊑ c → minus a c ≼ minus b d
unfolding minus
minus_order blank_least k = lowest
minus_order (whole_least h) blank_least = highest
minus_order (whole_least {a = a} {b = b} h) (whole_least {a = d} {b = c} k) =
    let r : (a -ℤ c) ≤ℤ (b -ℤ d) = omega (whole, minus_read a c, minus_read b d) in between r

-- It does not move where both move.
minus_moved : (a c : Trop) (t : ℤ) → minus (plus a (fin t)) (plus c (fin t)) ≡ minus a c
unfolding minus plus
minus_moved bot c t = refl
minus_moved (fin a) bot t = refl
minus_moved (fin a) (fin c) t =
    let e : (a +ℤ t) -ℤ (c +ℤ t) ≡ a -ℤ c = omega (whole, plus_read a t, plus_read c t, minus_read a c, minus_read (a +ℤ t) (c +ℤ t)) in
    ap Problems.whole e

≼_of_eq : {u v : Value} → u ≡ v → u ≼ v
≼_of_eq {u} e = rw (← e) (≼_refl u)

-- The later of two firsts less the later of two seconds is at most one of the two differences.
minus_merged : (a b c d : Trop) (t : ℤ)
    → (minus (larger a (plus b (fin t))) (larger c (plus d (fin t))) ≼ minus a c) ⊎ (minus (larger a (plus b (fin t))) (larger c (plus d (fin t))) ≼ minus b d)
minus_merged a b c d t = ⊎_elim
    (λ e. inl (rw e (minus_order (⊑_refl a) (larger_left c (plus d (fin t))))))
    (λ e. inr (≼_trans (minus_order (⊑_of_eq e) (larger_right c (plus d (fin t)))) (≼_of_eq (minus_moved b d t))))
    (larger_one a (plus b (fin t)))

-- ---- plans

module _ (p : Problem) (t : ℤ) (x y : Point) where
  -- A row that both keep is kept.
  pub keeps_merged : (i : ℕ) → Keeps p x i → Keeps p y i → Keeps p (merged t x y) i
  keeps_merged i h k = rw (side_merged p.n (p.left i) t x y, side_merged p.n (p.right i) t x y) (larger_mono h (plus_mono k (⊑_refl (fin t))))

  counts_merged : Counts p x → Counts p (merged t x y)
  counts_merged f =
      record {
        second =
            finite_above (⊑_trans (⊑_of_eq (sym f.second.is)) (rw (side_merged p.n (p.right p.m) t x y) (larger_left (side p.n (p.right p.m) x) (plus (side p.n (p.right p.m) y) (fin t)))));
      }

  span_merged : (value p (merged t x y) ≼ value p x) ⊎ (value p (merged t x y) ≼ value p y)
  unfolding value
  span_merged = rw (side_merged p.n (p.left p.m) t x y, side_merged p.n (p.right p.m) t x y)
      (minus_merged (side p.n (p.left p.m) x) (side p.n (p.left p.m) y) (side p.n (p.right p.m) x) (side p.n (p.right p.m) y) t)

-- The later of 0 and a shift of 0 or less is 0.
anchor_merged : (t : ℤ) (x y : Point) → t ≤ℤ pos 0 → x 0 ≡ fin (pos 0) → y 0 ≡ fin (pos 0) → merged t x y 0 ≡ fin (pos 0)
anchor_merged t x y h e f =
    let r : (pos 0 +ℤ t) ≤ℤ pos 0 = omega (whole, plus_read (pos 0) t) in
    rw (e, f, plus_fin (pos 0) t) (⊑_antisym (larger_least (⊑_refl (fin (pos 0))) (whole_least r)) (larger_left (fin (pos 0)) (fin (pos 0 +ℤ t))))

-- The theorem, of all plans that keep the rules.
pub every_plan : (p : Problem) (t : ℤ) (x y : Point) → t ≤ℤ pos 0 → Feasible p x → Feasible p y → MergedWell p x y (merged t x y)
every_plan p t x y h f g = record {
  keeps = record { anchored = anchor_merged t x y h f.anchored g.anchored; keeps = λ i b. keeps_merged p t x y i (f.keeps i b) (g.keeps i b) };
  counts = λ c d. counts_merged p t x y c;
  span = λ c d. span_merged p t x y;
}
