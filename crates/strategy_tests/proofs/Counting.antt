-- Laws of the picks that count, on the tables.
use Prim.Native.Nat.{ℕ, ◌<◌}
use mathlib.Core.Path.{◌≡◌, subst}
use mathlib.Core.Bool.{Bool, not}
use mathlib.Core.List.{List}
use native.Mathlib.Omega.{arith}
use lib.Dec.{eqb}
use lib.ListN.{get_or}
use borrow.Author.Tests.{eqb-false, eqb-true, not-true, not-false}
use Rattle.base.specs.Decides.{Decides}
use Rattle.base.proofs.Numbers.{positive}
use Rattle.base.proofs.Decides.{decides_as}
use Rattle.strategy_tests.specs.Counts.{PickCounts, VariablesCount, PlacesCount}
use Rattle.closed_walks.specs.Order.{Ordered}
use Rattle.closed_walks.proofs.Order.{found}

-- The test `x != 0`.
pub nonzero_decides : (x : ℕ) → Decides (0 < x) (not (eqb x 0))
nonzero_decides x = record {
  yes = λ e. positive _ (eqb-false x 0 (not-true (eqb x 0) e));
  no = λ e h. let z : x ≡ 0 = eqb-true x 0 (not-false (eqb x 0) e) in omega arith;
}

-- The picks of all marked variables count exactly when those of an order of them do.
pub order_counts : {left : List ℕ} (picks : List ℕ) {marks : List ℕ} {width : ℕ} {places : List ℕ} {count : ℕ} {r : Bool} → Ordered marks width places count
    → Decides (PlacesCount left picks places count) r → Decides (VariablesCount left picks marks width) r
order_counts {left} picks o d = decides_as
    (λ h j b m. let f = found o j m b in subst (λ k. PickCounts left (get_or picks k 0) k) f.is (h f.at f.inside))
    (λ h i b. h _ (o.inside i b) (o.marked i b))
    d
