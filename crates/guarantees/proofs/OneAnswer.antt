-- An engine whose result and buffer are those of the contract of `engine::solve::solve` writes what depends on the record alone.
use Prim.Native.Nat.{ℕ, suc, ◌≤◌, ◌<◌}
use mathlib.Core.Path.{◌≡◌, refl, sym, ap, ap₂, ◌∙◌}
use mathlib.Core.List.{List, ◌++◌}
use native.Mathlib.Omega.{arith}
use native.Mathlib.Nat.{zero-add}
use lib.ListN.{length, take}
use Rattle.definitions.specs.Limits.{questions_kind, answer_most}
use Rattle.definitions.specs.ProblemRecord.{engine_kinds, meant, AsksOne, WithinLayouts, kind_field, count_field, n_field}
use Rattle.definitions.specs.Questions.{alone}
use Rattle.definitions.specs.AnswerRecord.{Answer, answer_bytes, written}
use Rattle.definitions.specs.Solved as Results
use Rattle.definitions.specs.Solved.{Solved, Solves, engine_refusal}
use Rattle.definitions.specs.Demands.{Slice, Engine}
use Rattle.definitions.specs.OneAnswer.{size_of, written_for, written_alone, OneAnswer}
use Rattle.definitions.proofs.Put.{take_put}
use Rattle.definitions.proofs.IdleDay.{several_meant}
use Rattle.definitions.proofs.Layouts.{within_asks, within_one}
use Rattle.definitions.proofs.Solved.{record_stands, none_refused, one_refused, one_asked}
use Rattle.duality.proofs.Classes.{found_one}
use Rattle.engine.specs.Outcome.{solved_of, Gives, GivesInTurn, Writes}
use Rattle.engine.proofs.One.{gives_one, gives_in_turn_one}
use Rattle.guarantees.specs.Entries.{SolveGiving}
use Rattle.guarantees.proofs.Engine.{one_not_several, within_itself, alone_slice}

-- What an engine does with a record: document 01's result and buffer, and the answers that are given.
pub record SolvesGiving (engine : Engine) : Type 0 where
  pub solves : (p buffer : List ℕ) → Slice p → Slice buffer → Solves (meant p) buffer (engine.result p buffer) (engine.buffer p buffer)
  pub writes : (p buffer : List ℕ) → Slice p → Slice buffer → Writes (meant p) buffer (engine.result p buffer) (engine.buffer p buffer)

-- The bytes of several records at the start of a buffer.
records_stand : (before bytes : List ℕ) → take (length bytes) (written before bytes) ≡ bytes
unfolding written
records_stand before bytes = rw (← zero-add (length bytes)) (take_put before 0 bytes (omega arith))

not_refused : {p before after : List ℕ} {r : Solved} {k : ℕ} → Solves p before r after → engine_refusal p (length before) ≡ 0 → r ≡ Results.refused k → ⊥
not_refused (Results.turned_away e) h f = let z : suc _ ≡ 0 = sym e ∙ h in omega arith
not_refused (Results.solved a k e ans) h f = let z : ◌≡◌ {A = ℕ} 0 1 = cc in omega arith
not_refused (Results.all_solved k e t) h f = let z : ◌≡◌ {A = ℕ} 0 1 = cc in omega arith

-- Two calls with a record.
written_one : {p x y a b : List ℕ} {r s : Solved} → Writes p x r a → Writes p y s b → ((k : ℕ) → r ≡ Results.refused k → ⊥) → ((k : ℕ) → s ≡ Results.refused k → ⊥)
    → WithinLayouts p → (r ≡ s) × (take (size_of r) a ≡ take (size_of s) b)
unfolding size_of
written_one (Writes.refused {k = k}) w d f h = absurd (d k refl)
written_one (Writes.one k ans g) (Writes.refused {k = j}) d f h = absurd (f j refl)
written_one (Writes.several k t) (Writes.refused {k = j}) d f h = absurd (f j refl)
written_one {p} (Writes.one k ans g) (Writes.several l t) d f h = absurd (one_not_several p k l)
written_one {p} (Writes.several l t) (Writes.one k ans g) d f h = absurd (one_not_several p k l)
written_one {p} {x} {y} (Writes.one {a = a} k ans g) (Writes.one {a = b} l other q) d f h =
    let same = found_one ans.found other.found in
    let w = within_one engine_kinds p k h in (
      rw (same.0, same.1, same.2) refl,
      record_stands p x w a ans ∙ ap (λ (z : Answer). answer_bytes (n_field p) z) (gives_one p a b g q) ∙ sym (record_stands p y w b other),
    )
written_one {p} {x} {y} (Writes.several {bytes = bytes} k g) (Writes.several {bytes = other} l q) d f h =
    let same = gives_in_turn_one g q refl in (
      rw (same.0, same.1) refl,
      records_stand x bytes ∙ same.0 ∙ sym (records_stand y other),
    )

module _ (engine : Engine) (does : SolvesGiving engine) where
  one : (p before other : List ℕ) → Slice p → Slice before → Slice other → engine_refusal (meant p) (length before) ≡ 0 → engine_refusal (meant p) (length other) ≡ 0
      → (engine.result p before ≡ engine.result p other) × (written_for engine p before ≡ written_for engine p other)
  one p before other a b c h k = written_one (does.writes p before a b) (does.writes p other a c)
      (λ _ e. not_refused (does.solves p before a b) h e) (λ _ e. not_refused (does.solves p other a c) k e) ((none_refused (meant p) (length before)).0 h).0

  -- A call with one question alone writes the answer that is given for it.
  alone_written : {p other after : List ℕ} {r : Solved} (a : Answer) → Writes p other r after → ((k : ℕ) → r ≡ Results.refused k → ⊥) → AsksOne p → WithinLayouts p → Gives p a
      → take (size_of r) after ≡ answer_bytes (n_field p) a
  unfolding size_of
  alone_written a (Writes.refused {k = k}) d o w g = absurd (d k refl)
  alone_written {p} a (Writes.several k t) d o w g = absurd (one_not_several p o k)
  alone_written {p} {other} a (Writes.one {a = b} k ans q) d o w g =
      record_stands p other (within_one engine_kinds p o w) b ans ∙ ap (λ (z : Answer). answer_bytes (n_field p) z) (gives_one p b a q g)

  module _ (p other : List ℕ) (a : Slice p) (c : Slice other) (kind : kind_field p ≡ questions_kind) (within : WithinLayouts p) (room : answer_most ≤ length other) where
    alone_one : {q : ℕ} (b : Answer) → q < count_field p → Gives (alone p q) b → written_for engine (alone p q) other ≡ answer_bytes (n_field p) b
    alone_one {q} b h g =
        let o = one_asked p kind within q h in
        let s = alone_slice p a o in
        let itself = within_itself (alone p q) o.within in
        let asks = within_asks (alone p q) o.within in
        let none = (one_refused (alone p q) (length other) asks).1 (o.within, room) in
        alone_written b (rw itself at (does.writes (alone p q) other s c)) (λ _ e. not_refused (rw itself at (does.solves (alone p q) other s c)) none e)
        asks ((none_refused (alone p q) (length other)).0 none).0 g
        ∙ ap (λ (n : ℕ). answer_bytes n b) o.n_is

    turns : {q t : ℕ} {bytes : List ℕ} → GivesInTurn p q bytes t → q ≤ count_field p → bytes ≡ written_alone engine p other q
    unfolding written_alone
    turns GivesInTurn.none h = refl
    turns (GivesInTurn.more {a = b} t ans g) h = ap₂ ◌++◌ (turns t (omega arith)) (sym (alone_one b (omega arith) g))

    several : {before after : List ℕ} {r : Solved} → Writes p before r after → ((k : ℕ) → r ≡ Results.refused k → ⊥) → take (size_of r) after ≡ written_alone engine p other (count_field p)
    unfolding size_of
    several (Writes.refused {k = k}) d = absurd (d k refl)
    several (Writes.one k ans g) d = absurd (one_not_several p k kind)
    several {before} (Writes.several {bytes = bytes} k t) d = records_stand before bytes ∙ turns t (omega arith)

  pub one_answer : OneAnswer engine
  one_answer = record {
    one = one;
    each = λ p before other a b c k h room.
        let itself = several_meant p k in
        several p other a c k ((none_refused p (length before)).0 h).0 room (rw itself at (does.writes p before a b)) (λ _ e. not_refused (rw itself at (does.solves p before a b)) h e);
  }

-- So does every function with the contract of `engine::solve::solve`.
pub solve_one_answer : (solve : SolveGiving) → OneAnswer (record { result = λ p buffer. solved_of (solve.result p buffer); buffer = solve.buffer })
solve_one_answer solve = one_answer _ (record { solves = λ p buffer a b. (solve.contract p buffer a b).solves; writes = λ p buffer a b. (solve.contract p buffer a b).writes })
