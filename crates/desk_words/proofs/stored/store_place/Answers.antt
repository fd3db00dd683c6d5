use Prim.Native.Nat.{ℕ}
use mathlib.Core.Path.{◌≡◌}
use mathlib.Core.List.{List, [], ◌∷◌, ◌++◌}
use native.Mathlib.Omega.{arith}
use lib.ListN.{length}
use borrow.Author.Rules.{rules}
use Rattle.desk_words.specs.Words.{PutAt}
use Rattle.desk_words.proofs.stored.store_place.Goals as goal

-- The sixth number put is another of the same value.
sixth_is :
    {before after picks : List ℕ} {at a b c d e f g h i k l : ℕ} → f ≡ g → PutAt before at ((a ∷ b ∷ c ∷ d ∷ e ∷ f ∷ h ∷ i ∷ k ∷ l ∷ []) ++ picks) after
    → PutAt before at ((a ∷ b ∷ c ∷ d ∷ e ∷ g ∷ h ∷ i ∷ k ∷ l ∷ []) ++ picks) after
sixth_is q p = rw q at p

pub returns : goal.returns
returns c = let s : length c.args.place.pending.kept.picks ≡ 32 = (let g = c.well_formed in search rules) in (sixth_is (omega arith) c.put_run.ensures, s)
