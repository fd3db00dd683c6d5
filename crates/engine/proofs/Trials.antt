-- One trial on the bytes of a problem: what is read, begun, looked at, tried and answered.
use Prim.Native.Nat.{ℕ, ◌+◌, ◌≤◌, ◌<◌}
use mathlib.Core.Path.{◌≡◌, refl, sym, ap, ◌∙◌}
use mathlib.Core.Logic.{⊎_elim, ◌↔◌}
use mathlib.Core.List.{List}
use native.Mathlib.Omega.{arith}
use native.Mathlib.Nat.{eq-zero-or-pos}
use lib.ListN.{length, get_or, length-replicate}
use Rattle.std.specs.Prelude.{Option, Some, None, Result, Ok, Err, IsSome}
use Rattle.base.specs.Filled.{Filled}
use Rattle.definitions.specs.Limits.{answer_most}
use Rattle.definitions.specs.Tropical.{Trop}
use Rattle.definitions.specs.Problem.{Attainable}
use Rattle.definitions.specs.Bytes.{Bytes}
use Rattle.definitions.specs.ProblemRecord.{desk_kinds, WithinLayout, problem_of, meant, n_field, m_field}
use Rattle.definitions.specs.AnswerRecord.{answer_size, answer_bytes, written}
use Rattle.definitions.specs.Solved as Definitions
use Rattle.definitions.proofs.IdleDay.{meant_bytes}
use Rattle.definitions.proofs.Layouts.{desk_within}
use Rattle.definitions.proofs.Questions.{asking_itself}
use Rattle.duality.proofs.Classes as Classes
use Rattle.records.specs.declared.class.Class.{Class}
use Rattle.records.specs.declared.problem.Layout.{Layout}
use Rattle.records.specs.declared.refusal.Refusal.{Refusal}
use Rattle.records.specs.Classes.{class_number}
use Rattle.records.specs.Decoded.{InTables}
use Rattle.problem_records.specs.Tables.{left_table, right_table}
use Rattle.search.specs.declared.search.Found.{Found}
use Rattle.search.specs.declared.steps.Search.{Search}
use Rattle.search.specs.Trials.{FoundBy, whole_of, Trialled, PossibleBy}
use Rattle.search.specs.Underway.{class_word, span_of, found_of, closed_of, Underway, Tried}
use Rattle.search.proofs.Trials.{finds}
use Rattle.search.proofs.Underway.{start_underway, underway_more}
use Rattle.look.specs.declared.frame.Frame.{Frame}
use Rattle.look.specs.declared.greatest.Look.{Look}
use Rattle.look.specs.Frames.{FrameOf, Held}
use Rattle.look.specs.Look.{Looked}
use Rattle.look.proofs.Tables.{decoded_held}
use Rattle.class_answers.specs.declared.answer.Answer.{Answer}
use Rattle.class_answers.specs.Answered.{answer_in, AnswerOf}
use Rattle.class_answers.proofs.Found.{looked_found, looked_possible}
use Rattle.engine.specs.declared.solve.Answered as Own
use Rattle.engine.specs.declared.one_trial.Pending.{Pending}
use Rattle.engine.specs.Outcome.{FoundFor, Read, LayoutRead}
use Rattle.engine.specs.Packing.{stamp_in, pick_at, Packable, PackedCells}
use Rattle.engine.specs.OneTrial.{fresh, class_in, TablesOf, LookedAt, AnswerKept, Of, PendingFor, BegunFor, LookFor, TrialFor, IsAnswered, HandedOver}
use Rattle.engine.proofs.Packing.{stamps_back, picks_back}
use Rattle.engine.proofs.Outcomes.{found_for, stands_tables, within_stands, read_stands}

-- ---- what is read

module _ {s left right : List ℕ} {r : Result Layout Refusal} {l : Layout} (layout : LayoutRead desk_kinds s r left right) (told : r ≡ Ok l) where
  read : Read desk_kinds s l left right
  read = layout.told l told

  within : WithinLayout s
  within = desk_within s read.within

  -- The tables that a frame is made of.
  pub read_tables : TablesOf s l.n l.m left right
  read_tables = record {
    bytes = read.bytes;
    n_is = read.n_is;
    m_is = read.m_is;
    left_is = rw (← asking_itself s 0 within) read.left_is;
    right_is = rw (← asking_itself s 0 within) read.right_is;
    coefficients = stands_tables (read_stands read within);
  }

  -- A problem begun.
  pub begun_fresh : {p : Pending} → p ≡ fresh l.n l.m → BegunFor s (Ok p)
  begun_fresh {p} e = record {
    refused_is = sym read.within;
    begun = λ q f. let same : q ≡ fresh l.n l.m = cc in rw same new;
    fresh_is = λ q f. let same : q ≡ fresh l.n l.m = cc in same ∙ rw (read.n_is, read.m_is) refl;
  }
    where
      new : PendingFor s (fresh l.n l.m)
      new = record {
        of = record { within = read.within; n_is = read.n_is; m_is = read.m_is; size = length-replicate {A = ℕ} 32 0 };
        underway = start_underway 0;
        looked = λ h. absurd (omega arith);
      }

pub begun_refused : {s left right : List ℕ} {r : Result Layout Refusal} {k : Refusal} → LayoutRead desk_kinds s r left right → r ≡ Err k → BegunFor s (Err k)
begun_refused read e = record { refused_is = sym (read.refused _ e).0; begun = λ p f. absurd cc; fresh_is = λ p f. absurd cc }

-- ---- the look

module _ {s : List ℕ} {n m : ℕ} {left right : List ℕ} {f : Frame} (tables : TablesOf s n m left right) (framed : FrameOf n m left right f) where
  n_same : f.n ≡ n_field s
  n_same = framed.n_is ∙ tables.n_is

  m_same : f.m ≡ m_field s
  m_same = framed.m_is ∙ tables.m_is

  left_same : f.left.now ≡ left_table s
  left_same = framed.left_is ∙ tables.left_is

  right_same : f.right.now ≡ right_table s
  right_same = framed.right_is ∙ tables.right_is

  -- A look by the frame, or an answer, is one of the problem.
  framed_looked : {k : Look} → Looked f.n f.m f.left.now f.right.now k → LookedAt s k
  framed_looked look = rw (← n_same, ← m_same, ← left_same, ← right_same) look

  pub looked_framed : {k : Look} → LookedAt s k → Looked f.n f.m f.left.now f.right.now k
  looked_framed look = rw (n_same, m_same, left_same, right_same) look

  pub answer_kept : {found : Found} {a : Answer} {second : ℕ} {cells : List ℕ} → AnswerOf f.n f.m f.left.now f.right.now found a → PackedCells a.stamps a.picks 32 cells
      → AnswerKept s second found (record { start = a.start; second = second; picks = cells })
  answer_kept {a = a} o c = record { answer = a; shows = rw (← n_same, ← m_same, ← left_same, ← right_same) o; start_is = refl; second_is = refl; packed = c }

  pub looked_new : {p : Pending} {k : Look} → Looked f.n f.m f.left.now f.right.now k → p.search.made ≡ 0 → LookFor s p k
  looked_new look e = record { bytes = tables.bytes; looked = framed_looked look; stays = λ h. absurd (omega arith) }

-- A look that was made stays.
pub looked_kept : (s : List ℕ) {p : Pending} → Bytes s → PendingFor (meant s) p → (p.search.made ≡ 0 → ⊥) → LookFor (meant s) p p.kept
looked_kept s {p} b g d = record {
  bytes = meant_bytes s b;
  looked = g.looked (⊎_elim (λ (e : p.search.made ≡ 0). absurd (d e)) (λ h. h) (eq-zero-or-pos p.search.made));
  stays = λ _. refl;
}

-- With it the search is under way as it was.
pub looked_underway : {s : List ℕ} {p : Pending} {k : Look} → PendingFor s p → LookFor s p k → Underway k.second p.search
looked_underway {p = p} g l = ⊎_elim
    (λ (e : p.search.made ≡ 0).
    let u = g.underway in
    record { class_is = u.class_is; outer = u.outer; top_possible = λ h. absurd (omega arith); halving = λ h. absurd (omega arith); wide = u.wide })
    (λ (h : 0 < p.search.made). rw (l.stays h) g.underway)
    (eq-zero-or-pos p.search.made)

-- Its class is open.
pub pending_open : {s : List ℕ} {p : Pending} → PendingFor s p → p.search.class ≡ None
pending_open g = g.underway.class_is

-- ---- one trial

-- Stamps and picks of an answer fit into cells.
pub answer_packable : {n m : ℕ} {left right : List ℕ} {f : Found} {a : Answer} → AnswerOf n m left right f a → Packable a.stamps a.picks
answer_packable o = record { stamps_size = o.stamps_size; picks_size = o.picks_size; stamps_most = o.stamps_most; picks_most = λ j. omega (arith, o.picks_most j) }

-- What a search found: nothing while it is open; else its class, its span and its trials.
pub record FoundIn (s : Search) (f : Found) : Type 0 where
  pub class_is : s.class ≡ Some f.class
  pub span_is : f.span ≡ span_of s
  pub trials_is : f.trials ≡ s.made

pub open_search : (s : Search) → closed_of (found_of s) ≡ None → s.class ≡ None
open_search s e = go s.class refl
  where
    go : (c : Option Class) → s.class ≡ c → s.class ≡ None
    go None f = f
    go (Some c) f = absurd (let z = rw f at e in cc)

pub found_in : (s : Search) {f : Found} → closed_of (found_of s) ≡ Some f → FoundIn s f
found_in s {f} e = go s.class refl
  where
    go : (c : Option Class) → s.class ≡ c → FoundIn s f
    go None g = absurd (let z = rw g at e in cc)
    go (Some c) g =
        let z : Some (record { class = c; span = span_of s; trials = s.made }) ≡ Some f = cc in
        let same : record { class = c; span = span_of s; trials = s.made } ≡ f = cc in
        rw (← same) (record { class_is = g; span_is = refl; trials_is = refl })

module _ {s : List ℕ} {p : Pending} {k : Look} {r : Search} (g : PendingFor s p) (l : LookFor s p k) (t : Tried k.second p.search r) where
  abbrev moved : Look → Pending
  moved z = record { n = p.n; m = p.m; search = r; kept = z }

  stands : InTables (problem_of s) (n_field s) (m_field s) (left_table s) (right_table s)
  stands = within_stands l.bytes (desk_within s g.of.within)

  held : Held (problem_of s) (n_field s) (m_field s) (left_table s) (right_table s)
  held = decoded_held stands.n_is stands.m_is stands.decoded

  of : (z : Look) → length z.picks ≡ 32 → Of s (moved z)
  of z e = record { within = g.of.within; n_is = g.of.n_is; m_is = g.of.m_is; size = e }

  second_stays : 0 < p.search.made → k.second ≡ p.kept.second
  second_stays h = ap (λ (z : Look). z.second) (l.stays h)

  possible : (t : ℕ) → Trialled t → PossibleBy k.second t ↔ Attainable (problem_of s) (whole_of t)
  possible = looked_possible (stands_tables stands) l.looked (problem_of s) held

  -- A problem that goes on asks for more trials.
  more : r.class ≡ None → (class trials : ℕ) (span : Trop) → Definitions.Found (problem_of s) class span trials → p.search.made + 1 < trials
  more e class trials span found =
      let f = finds k.second in
      omega (arith, t.trial.counted, (Classes.found_one (looked_found (stands_tables stands) l.looked (problem_of s) held f.found) found).2, underway_more (t.goes_on e) f.found)

  -- It goes on,
  pub trial_open : closed_of (found_of r) ≡ None → TrialFor s p (moved k)
  trial_open none =
      let e = open_search r none in
      record {
        n_same = refl;
        m_same = refl;
        stays = second_stays;
        trial = t;
        possible = possible;
        goes_on = λ _. record { pending = record { of = of k l.looked.picks_size; underway = t.goes_on e; looked = λ _. l.looked }; made_is = t.trial.counted; more = more e };
        ends = λ d. absurd (d e);
      }

  module _ {f : Found} (some : closed_of (found_of r) ≡ Some f) where
    in_search : FoundIn r f
    in_search = found_in r some

    class_same : class_number f.class ≡ class_word r.class
    class_same = sym (ap class_word in_search.class_is)

    closed : r.class ≡ None → ⊥
    closed e = let z : Some f.class ≡ None = sym in_search.class_is ∙ e in cc

    -- or its class and span are found,
    pub trial_found : FoundBy k.second (class_number f.class) f.span f.trials
    trial_found = rw (in_search.span_is, in_search.trials_is) (t.ends f.class in_search.class_is)

    -- and it is answered.
    pub trial_answered : {a : Look} → AnswerKept s k.second f a → TrialFor s p (moved a)
    trial_answered {a} o = record {
      n_same = refl;
      m_same = refl;
      stays = λ h. o.second_is ∙ second_stays h;
      trial = rw o.second_is t;
      possible = rw o.second_is possible;
      goes_on = λ e. absurd (closed e);
      ends = λ _. (
        record {
          of = of a o.packed.size_is;
          closed = closed;
          stamps = o.answer.stamps;
          picks = o.answer.picks;
          packable = answer_packable o.shows;
          packed = o.packed;
          answers = rw o.start_is (rw (o.shows.class_is, o.shows.span_is, o.shows.trials_is, in_search.span_is, in_search.trials_is, class_same) at (o.shows.answers (problem_of s) held));
          gives = record {
            found = o.answer;
            n_most = (stands_tables stands).n_most;
            given = o.shows.given;
            is = rw (o.start_is, o.shows.class_is, o.shows.span_is, in_search.span_is, class_same) refl;
          };
        },
        t.trial.counted,
      );
    }

-- ---- writing

-- What was found of an answered problem is told by its search,
pub answered_found : {p : Pending} → IsAnswered p → IsSome (closed_of (found_of p.search))
answered_found {p} g = go p.search.class refl
  where
    go : (c : Option Class) → p.search.class ≡ c → IsSome (closed_of (found_of p.search))
    go None e = absurd (g.answered.closed e)
    go (Some c) e = rw e refl

-- its stamps and picks can be written,
module _ {p : Pending} {f : Found} {stamps picks : List ℕ} (g : IsAnswered p) (some : closed_of (found_of p.search) ≡ Some f) (x : Filled (λ j v. v ≡ stamp_in (get_or p.kept.picks j 0)) 32 32 stamps)
    (y : Filled (λ k v. v ≡ pick_at p.kept.picks k) 64 64 picks) where
  in_pending : FoundIn p.search f
  in_pending = found_in p.search some

  class_told : class_in p ≡ class_number f.class
  class_told = ap class_word in_pending.class_is

  pub cells_found : {room : ℕ} → answer_most ≤ room → FoundFor p.n p.m room (record { class = f.class; span = f.span; start = p.kept.start; trials = f.trials; stamps = stamps; picks = picks })
  cells_found h =
      let a = g.answered in
      let s = within_stands g.bytes (desk_within g.problem a.of.within) in
      rw (a.of.n_is, a.of.m_is, in_pending.span_is, stamps_back a.packable a.packed x, picks_back a.packable a.packed y) (found_for s.n_is s.m_is (stands_tables s) h (rw class_told at a.answers))

  -- and are handed over.
  pub handed_over : {before after : List ℕ} {size : ℕ} → size ≡ answer_size (class_number f.class) p.n p.m
      → after ≡ written before (answer_bytes p.n (answer_in p.n p.m (class_number f.class) f.span p.kept.start stamps picks))
      → HandedOver p before (record { class = f.class; span = f.span; trials = f.trials; size = size }) after
  handed_over e w = record {
    class_is = in_pending.class_is;
    span_is = in_pending.span_is;
    trials_is = in_pending.trials_is;
    size_is = e;
    record_stands = λ s a. rw (← stamps_back a.packable a.packed x, ← picks_back a.packable a.packed y, ← in_pending.span_is, class_told, ← a.of.n_is, ← a.of.m_is) w;
  }

-- The class of what was handed over.
pub handed_class : {p : Pending} {before after : List ℕ} {r : Own.Answered} → HandedOver p before r after → class_number r.class ≡ class_in p
handed_class h = sym (ap class_word h.class_is)
