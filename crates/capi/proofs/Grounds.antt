-- What the tool tells, in the lent places.
use Prim.Native.Nat.{ℕ}
use mathlib.Core.Path.{◌≡◌, sym, subst}
use mathlib.Core.List.{List, []}
use native.Mathlib.Omega.{arith}
use lib.ListN.{length}
use Rattle.std.specs.Prelude.{Option, Some, None}
use Rattle.definitions.specs.Bytes.{put}
use Rattle.definitions.specs.Reasons as Definitions
use Rattle.definitions.specs.Reasons.{Reasoned, of_none, of_least}
use Rattle.definitions.proofs.Put.{put_nil}
use Rattle.grounds.specs.Outcome.{told_by}
use Rattle.capi.specs.Numbers.{PlacesAs}
use Rattle.capi.specs.Behind as Behind
use Rattle.capi.specs.Behind.{ReasonsAs, counts_number}

pub as_refused : {p a rules-before round-before : List ℕ} {k number : ℕ} → Reasoned p a (Definitions.refused k) → number ≡ k → ReasonsAs p a rules-before round-before number rules-before round-before
as_refused reasoned e = rw e (Behind.turned_away reasoned)

none : {p a rules rules-before round-before rules-after round-after : List ℕ} {number : ℕ} → Reasoned p a (of_none rules)
    → PlacesAs (counts_number (length rules) 0) [] rules round-before rules-before number round-after rules-after
    → ReasonsAs p a rules-before round-before number rules-after round-after
none reasoned (PlacesAs.too_few h) = Behind.too_few reasoned (λ k d. let z : ◌≡◌ {A = ℕ} 0 1 = cc in omega arith) h
none {p} {a} {rules} {rules-before} {round-before} reasoned (PlacesAs.lent f g) =
    subst (λ (l : List ℕ). ReasonsAs p a rules-before round-before (counts_number (length rules) 0) (put rules-before 0 rules) l) (sym (put_nil round-before 0))
    (Behind.none reasoned f g)

least : {p a rules round rules-before round-before rules-after round-after : List ℕ} {number : ℕ} → Reasoned p a (of_least rules round)
    → PlacesAs (counts_number (length rules) (length round)) round rules round-before rules-before number round-after rules-after
    → ReasonsAs p a rules-before round-before number rules-after round-after
least reasoned (PlacesAs.too_few h) = Behind.too_few reasoned (λ k d. let z : ◌≡◌ {A = ℕ} 0 1 = cc in omega arith) h
least reasoned (PlacesAs.lent f g) = Behind.least reasoned f g

-- What is told has a round or none.
module _ {p a own rules rules-before round-before rules-after round-after : List ℕ} {told : Option (List ℕ)} {number : ℕ} (reasoned : Reasoned p a (told_by own told)) (same : rules ≡ own) where
  pub as_none : told ≡ None → PlacesAs (counts_number (length rules) 0) [] rules round-before rules-before number round-after rules-after
      → ReasonsAs p a rules-before round-before number rules-after round-after
  as_none e l = none (rw (e, ← same) at reasoned) l

  pub as_least : {turns round : List ℕ} → told ≡ Some turns → round ≡ turns
      → PlacesAs (counts_number (length rules) (length round)) round rules round-before rules-before number round-after rules-after
      → ReasonsAs p a rules-before round-before number rules-after round-after
  as_least e f l = least (rw (e, ← f, ← same) at reasoned) l
