-- Tables of which only the objective's row was rewritten.
use Rattle.std.proofs.Common.{◌≡◌, ℕ, List, length, refl, ◌∙◌}
use Rattle.definitions.specs.Limits.{table_size}
use Rattle.records.specs.Decoded.{Steady, Rewritten}

pub steady_refl : {m : ℕ} {table : List ℕ} → Steady m table table
steady_refl = record { above = λ k h. refl; below = λ k h. refl }

pub steady_trans : {m : ℕ} {a b c : List ℕ} → Steady m a b → Steady m b c → Steady m a c
steady_trans s t = record { above = λ k h. t.above k h ∙ s.above k h; below = λ k h. t.below k h ∙ s.below k h }

pub rewritten_refl : {m : ℕ} {table : List ℕ} → length table ≡ table_size → Rewritten m table table
rewritten_refl e = record { size = e; steady = steady_refl }

pub rewritten_trans : {m : ℕ} {a b c : List ℕ} → Steady m a b → Rewritten m b c → Rewritten m a c
rewritten_trans s r = record { size = r.size; steady = steady_trans s r.steady }
