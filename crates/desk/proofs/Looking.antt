-- Looking for a ticket.
use Prim.Native.Nat.{ℕ}
use mathlib.Core.Path.{◌≡◌}
use native.Mathlib.Omega.{arith}
use Rattle.std.specs.Prelude.{Option, None}
use Rattle.desk.specs.State.{Desk, Finds, HoldsTicket}

-- A ticket that was given.
pub ticket_some : {d : Desk} {ticket : ℕ} {r : Option ℕ} → (ticket ≡ 0 → ⊥) → Finds d ticket r → HoldsTicket d ticket r
ticket_some n f = record { held = λ i e. (omega arith, f.found i e); nowhere = λ e some. f.nowhere e }

pub ticket_zero : {d : Desk} {ticket : ℕ} → ticket ≡ 0 → HoldsTicket d ticket None
ticket_zero e = record { held = λ i f. absurd cc; nowhere = λ f some. absurd (omega arith) }
