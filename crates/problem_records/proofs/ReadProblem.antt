-- What judging and reading a problem answer: refused by its header, refused by a lead, within the layout.
use Prim.Native.Nat.{ℕ, zero, suc, ◌+◌, ◌*◌, ◌-◌, ◌≤◌, ◌<◌}
use mathlib.Core.Path.{◌≡◌, refl, ap, sym, ◌∙◌}
use mathlib.Core.Bool.{Bool, true, false, cond, ◌&&◌}
use mathlib.Core.Logic.{⊎_elim}
use mathlib.Core.List.{List}
use native.Mathlib.Omega.{arith}
use native.Mathlib.Nat.{mul-le-mul_left, mul-le-mul_right}
use lib.Dec.{eqb}
use lib.ListN.{length, get_or, drop, length-drop, get_or-eq_default}
use Rattle.base.proofs.Numbers.{nat_le_or_lt}
use Rattle.definitions.specs.Limits.{highest_n, short_bytes, problem_kind, questions_kind, states_kind, states_place, problem_header, questions_header, leads_latest, questions_leads}
use Rattle.definitions.specs.Bytes.{Bytes, some_below, or_else, outcome}
use Rattle.definitions.specs.ProblemRecord as Problems
use Rattle.definitions.specs.ProblemRecord.{Kinds, checker_kinds, kind_field, n_field, m_field, count_field, leads_place, questions_asked, layout_of, row_place, left_place, right_place, leads_of, header_refusal, header_outcome, wrong_state, state_refused, lead_refused, blank_left, silent_refused, refusal_for, problem_refusal, problem_outcome}
use Rattle.definitions.specs.Questions.{alone, asking}
use Rattle.definitions.proofs.Inputs.{header_none}
use Rattle.definitions.proofs.Refusals.{or_else_suc, or_else_none, header_passes}
use Rattle.definitions.proofs.KnownKinds.{kind_known, KnownKind, OneKind, size_one}
use Rattle.definitions.proofs.Layouts.{problem_fits, within_one, left_within, right_within}
use Rattle.definitions.proofs.Suspended.{plain_left, plain_right}
use Rattle.definitions.proofs.Silent.{some_same}
use Rattle.definitions.proofs.Questions.{several_passes}
use Rattle.records.specs.declared.refusal.Refusal.{Refusal}
use Rattle.records.specs.declared.refusal.Refusal.TheVariants.{State, Lead, Silent}
use Rattle.std.specs.Prelude.{Result, Ok, Err}
use Rattle.records.specs.declared.problem.Layout.{Layout}
use Rattle.records.specs.ProblemHeader.{kind_number, layout_in, header_of}
use Rattle.records.proofs.Refusing.{outcome_ok, was_ok, was_err}
use Rattle.records.proofs.ProblemHeader.{HeaderFits, fits_of}
use Rattle.problem_records.specs.Tables.{run_fits, row_blank, states_refusal, states_outcome, leads_refusal, leads_outcome, cell, left_table, right_table, Laid, ProblemRead}
use Rattle.problem_records.specs.Filling.{Framed, Tabled}
use Rattle.problem_records.specs.InForce.{StatesHeld}
use Rattle.problem_records.proofs.Tables.{is_list_of, cell_row, cell_past, plain_left_table, plain_right_table}
use Rattle.problem_records.proofs.QuestionTables.{AskedTable, asked_left, asked_right}

-- ---- judging

-- A refusal is the first one wherever it applies, and the others are looked at afterwards.
first_counts : (h next : ℕ) (a : Problems.Layout) {r : Result Layout Refusal} {k : Refusal} → header_of r ≡ outcome h a → r ≡ Err k → header_of r ≡ outcome (or_else h next) a
first_counts h next a e f =
    let g = was_err layout_in h a e f in
    let same : or_else h next ≡ h = or_else_suc h next (omega arith) in
    rw same e

-- The header is refused.
pub refused_header : (kinds : Kinds) (s : List ℕ) {r : Result Layout Refusal} {k : Refusal} → header_of r ≡ header_outcome kinds s (length s) → r ≡ Err k → header_of r ≡ states_outcome kinds s
unfolding states_refusal header_outcome states_outcome
refused_header kinds s e f = first_counts (header_refusal kinds s (length s)) _ (layout_of s) e f

-- A state is wrong: 20; or none is.
module _ {kinds : Kinds} {s : List ℕ} {l : Layout} (h : HeaderFits kinds s (length s) l) where
  states_is : (eqb (kind_number l.kind) states_kind && some_below (wrong_state s) l.m) ≡ state_refused s
  states_is = rw (h.kind_is, h.m_is) refl

  pub refused_state : true ≡ (eqb (kind_number l.kind) states_kind && some_below (wrong_state s) l.m) → header_of (Err State) ≡ states_outcome kinds s
  unfolding states_outcome states_refusal outcome
  refused_state e = rw (h.none, ← states_is, ← e)

  pub states_told : false ≡ (eqb (kind_number l.kind) states_kind && some_below (wrong_state s) l.m) → header_of (Ok l) ≡ states_outcome kinds s
  unfolding states_outcome states_refusal
  states_told e =
      let none : states_refusal kinds s ≡ 0 = rw (h.none, ← states_is, ← e) in
      rw (← h.layout_is) (outcome_ok layout_in l _ none refl)

-- What a record tells whose states fit.
pub record States-told (kinds : Kinds) (s : List ℕ) (l : Layout) : Type 0 where
  pub none : states_refusal kinds s ≡ 0
  pub fits : HeaderFits kinds s (length s) l

states_header : (kinds : Kinds) (s : List ℕ) → states_refusal kinds s ≡ 0 → header_refusal kinds s (length s) ≡ 0
unfolding states_refusal
states_header kinds s e = ((or_else_none (header_refusal kinds s (length s)) _).0 e).0

pub told_states : (kinds : Kinds) {s : List ℕ} {r : Result Layout Refusal} {l : Layout} → header_of r ≡ states_outcome kinds s → r ≡ Ok l → States-told kinds s l
unfolding states_outcome
told_states kinds {s} e f =
    let g = was_ok layout_in (states_refusal kinds s) (layout_of s) e f in
    record { none = g.0; fits = fits_of kinds s (length s) (states_header kinds s g.0) g.1 }

-- Another refusal than 6.
pub refused_states : (kinds : Kinds) (s : List ℕ) {r : Result Layout Refusal} {k : Refusal} → header_of r ≡ states_outcome kinds s → r ≡ Err k → header_of r ≡ leads_outcome kinds s
unfolding leads_refusal states_outcome leads_outcome
refused_states kinds s e f = first_counts (states_refusal kinds s) _ (layout_of s) e f

module _ (kinds : Kinds) (s : List ℕ) {l : Layout} {count : ℕ} (t : States-told kinds s l) (c : count ≡ 2 * ((l.n + 1) * (l.m + l.questions))) where
  -- The run that is judged is all leads.
  run_leads : run_fits s count l.leads ≡ run_fits s (2 * (suc (n_field s) * (m_field s + questions_asked (kind_field s) (count_field s)))) (leads_place (kind_field s) (m_field s))
  run_leads =
      let all_leads : count ≡ 2 * (suc l.n * (l.m + l.questions)) = omega arith in
      rw (all_leads, t.fits.n_is, t.fits.m_is, t.fits.leads_is, t.fits.questions_is)

  -- A lead does not fit: refusal 6.
  pub refused_lead : false ≡ run_fits s count l.leads → header_of (Err Lead) ≡ leads_outcome kinds s
  unfolding leads_outcome leads_refusal leads_of outcome
  refused_lead e = rw (t.none, ← run_leads, ← e)

  -- Every lead fits: no refusal.
  pub judged_told : true ≡ run_fits s count l.leads → header_of (Ok l) ≡ leads_outcome kinds s
  unfolding leads_outcome leads_refusal leads_of
  judged_told e =
      let none : leads_refusal kinds s ≡ 0 = rw (t.none, ← run_leads, ← e) in
      rw (← t.fits.layout_is) (outcome_ok layout_in l _ none refl)

  -- They are few, and lie inside.
  pub leads_inside : (l.leads ≤ leads_latest) × (count ≤ questions_leads) × (l.leads + 4 * count ≤ length s)
  leads_inside =
      let h = t.fits in
      let most = mul-le-mul_right {m = l.n + 1} {n = 32} (l.m + l.questions) (omega (arith, h.n_most)) in
      (h.leads_most, omega (arith, h.m_most, h.questions_most), omega (arith, h.size_is))

-- ---- rules that say nothing

-- 6 and 17 are looked at after the others.
silent_last : (h : ℕ) (state lead silent : Bool)
    → or_else h (cond state 20 (cond lead 6 (cond silent 17 0))) ≡ or_else (or_else (or_else h (cond state 20 0)) (cond lead 6 0)) (cond silent 17 0)
silent_last zero true lead silent = refl
silent_last zero false true silent = refl
silent_last zero false false silent = refl
silent_last (suc h) state lead silent = refl

refusal_is : (kinds : Kinds) (s : List ℕ) → refusal_for kinds s ≡ or_else (leads_refusal kinds s) (cond (silent_refused s) 17 0)
unfolding refusal_for leads_refusal states_refusal
refusal_is kinds s = silent_last (header_refusal kinds s (length s)) (state_refused s) (lead_refused s) (silent_refused s)

-- A record is refused by another refusal.
pub refused_leads : (kinds : Kinds) (s : List ℕ) {r : Result Layout Refusal} {k : Refusal} → header_of r ≡ leads_outcome kinds s → r ≡ Err k → header_of r ≡ problem_outcome kinds s
unfolding leads_outcome problem_outcome
refused_leads kinds s e f = rw (refusal_is kinds s) (first_counts (leads_refusal kinds s) _ (layout_of s) e f)

-- What a record tells whose leads fit.
pub record Leads-told (kinds : Kinds) (s : List ℕ) (l : Layout) : Type 0 where
  pub none : leads_refusal kinds s ≡ 0
  pub fits : HeaderFits kinds s (length s) l

leads_header : (kinds : Kinds) (s : List ℕ) → leads_refusal kinds s ≡ 0 → header_refusal kinds s (length s) ≡ 0
unfolding leads_refusal
leads_header kinds s e = states_header kinds s ((or_else_none (states_refusal kinds s) _).0 e).0

pub leads_told : (kinds : Kinds) {s : List ℕ} {r : Result Layout Refusal} {l : Layout} → header_of r ≡ leads_outcome kinds s → r ≡ Ok l → Leads-told kinds s l
unfolding leads_outcome
leads_told kinds {s} e f =
    let g = was_ok layout_in (leads_refusal kinds s) (layout_of s) e f in
    record { none = g.0; fits = fits_of kinds s (length s) (leads_header kinds s g.0) g.1 }

module _ {kinds : Kinds} {s : List ℕ} {l : Layout} (t : Leads-told kinds s l) where
  -- The rules are looked at where they stand.
  silent_is : some_below (row_blank s l.leads l.n) l.m ≡ silent_refused s
  silent_is =
      let wide : l.n + 1 ≡ suc l.n = omega arith in
      rw t.fits.m_is (some_same (row_blank s l.leads l.n) (blank_left s) (m_field s) (λ i h. rw (wide, t.fits.n_is, t.fits.leads_is)))

  -- A rule says nothing: 17.
  pub refused_silent : true ≡ some_below (row_blank s l.leads l.n) l.m → header_of (Err Silent) ≡ problem_outcome kinds s
  unfolding problem_outcome outcome
  refused_silent e = let seventeen : refusal_for kinds s ≡ 17 = refusal_is kinds s ∙ rw (t.none, ← silent_is, ← e) in rw seventeen refl

  -- None does: no refusal.
  pub speaking_told : false ≡ some_below (row_blank s l.leads l.n) l.m → header_of (Ok l) ≡ problem_outcome kinds s
  unfolding problem_outcome
  speaking_told e =
      let none : refusal_for kinds s ≡ 0 = refusal_is kinds s ∙ rw (t.none, ← silent_is, ← e) in
      rw (← t.fits.layout_is) (outcome_ok layout_in l _ none refl)

  -- Their rows lie inside.
  pub rules_inside : (l.n ≤ highest_n) × (row_place l.leads l.n l.m ≤ length s)
  rules_inside = (t.fits.n_most, omega (arith, t.fits.size_is, mul-le-mul_right {m = l.m} {n = l.m + l.questions} (suc l.n) (omega arith)))

-- What a record that nothing refuses tells.
pub record Told-of (kinds : Kinds) (s : List ℕ) (l : Layout) : Type 0 where
  pub within : refusal_for kinds s ≡ 0
  pub fits : HeaderFits kinds s (length s) l

pub told_of : (kinds : Kinds) {s : List ℕ} {r : Result Layout Refusal} {l : Layout} → header_of r ≡ problem_outcome kinds s → r ≡ Ok l → Told-of kinds s l
unfolding problem_outcome
told_of kinds {s} e f =
    let g = was_ok layout_in (refusal_for kinds s) (layout_of s) e f in
    record { within = g.0; fits = fits_of kinds s (length s) (header_none kinds s g.0) g.1 }

-- A layout is the answer for a problem within the layout; one of kind 1 is laid out so,
pub laid : {s : List ℕ} {r : Result Layout Refusal} {l : Layout} → Bytes s → header_of r ≡ problem_outcome checker_kinds s → r ≡ Ok l → (kind_number l.kind ≡ states_kind → ⊥) → Laid s l.n l.m
unfolding problem_outcome
laid {s} {l = l} b e f other =
    let g = was_ok layout_in (problem_refusal s) (layout_of s) e f in
    let n_is : n_field s ≡ l.n = ap (λ (x : Problems.Layout). x.n) (sym g.1) in
    let m_is : m_field s ≡ l.m = ap (λ (x : Problems.Layout). x.m) (sym g.1) in
    let k-is : kind_number l.kind ≡ kind_field s = ap (λ (x : Problems.Layout). x.kind) g.1 in
    let p = problem_fits s g.0 in
    let kind = plain_kind p.one_kind (λ k. other (k-is ∙ k)) in
    record {
      bytes = b;
      kind_is = kind;
      n_is = n_is;
      m_is = m_is;
      n_most = omega (arith, n_is, p.n_most);
      m_most = omega (arith, m_is, p.m_most);
      holds = let size = p.size_is ∙ size_one (kind_field s) (n_field s) (m_field s) (count_field s) kind in rw (← n_is, ← m_is) (omega (arith, size));
      lefts_fit = λ i j h c. rw (plain_left s kind i j, n_is) at (left_within s g.0 i j (rw m_is h) (rw n_is c));
      rights_fit = λ i j h c. rw (plain_right s kind i j, n_is) at (right_within s g.0 i j (rw m_is h) (rw n_is c));
    }
  where
    plain_kind : {k : ℕ} → OneKind k → (k ≡ states_kind → ⊥) → k ≡ problem_kind
    plain_kind (OneKind.plain e) d = e
    plain_kind (OneKind.stated e) d = absurd (d e)

-- and one of kind 5 has its states.
pub states_held : {kinds : Kinds} {s : List ℕ} {l : Layout} → Told-of kinds s l → kind_number l.kind ≡ states_kind → StatesHeld s l.n l.m
states_held {kinds} {s} {l} t k =
    let kind : kind_field s ≡ states_kind = sym t.fits.kind_is ∙ k in
    let place : l.leads ≡ states_place + short_bytes * l.m = rw (t.fits.leads_is, kind, t.fits.m_is) refl in
    let one : l.questions ≡ 1 = rw (t.fits.questions_is, kind) refl in
    record {
      kind_is = kind;
      within = within_one kinds s (rw kind refl) t.within;
      n_is = t.fits.n_is;
      m_is = t.fits.m_is;
      n_most = t.fits.n_most;
      m_most = t.fits.m_most;
      holds = let rows : l.m + l.questions ≡ l.m + 1 = omega arith in let size = rw rows at t.fits.size_is in omega (arith, size, place);
    }

-- ---- a problem within the layout, in tables

-- What reading the tables asks, and what they then hold.
pub laid_framed : {s : List ℕ} {n m : ℕ} {left right : List ℕ} → Laid s n m → length left ≡ 2048 → length right ≡ 2048 → Framed s n m left right
laid_framed l e f = record { n_most = l.n_most; m_most = l.m_most; holds = l.holds; left_room = e; right_room = f }

pub left_tabled : {s : List ℕ} {n m : ℕ} {left right : List ℕ} → Laid s n m → Tabled s n m 2048 left right → left ≡ left_table s
left_tabled {s} {n} {m} {left} l t = rw (plain_left_table s l.kind_is, l.n_is, l.m_is) (is_list_of (cell (left_place n) s n m) 2048 left t.left_size t.lefts)

pub right_tabled : {s : List ℕ} {n m : ℕ} {left right : List ℕ} → Laid s n m → Tabled s n m 2048 left right → right ≡ right_table s
right_tabled {s} {n} {m} {right = right} l t = rw (plain_right_table s l.kind_is, l.n_is, l.m_is) (is_list_of (cell (right_place n) s n m) 2048 right t.right_size t.rights)

-- ---- reading

-- The problem is refused.
pub refused_read : (kinds : Kinds) (s : List ℕ) {r : Result Layout Refusal} {k : Refusal} {left right : List ℕ} → header_of r ≡ problem_outcome kinds s → r ≡ Err k → ProblemRead kinds s left right r left right
unfolding problem_outcome
refused_read kinds s e f =
    let g = was_err layout_in (refusal_for kinds s) (layout_of s) e f in
    record { result = e; left_kept = λ h. refl; right_kept = λ h. refl; left_read = λ w. absurd (omega arith); right_read = λ w. absurd (omega arith) }

-- What reading the tables asks, of the bytes from where ten bytes stand before the leads.
pub told_framed : {kinds : Kinds} {s : List ℕ} {l : Layout} {left right : List ℕ} → Told-of kinds s l → length left ≡ 2048 → length right ≡ 2048
    → Framed (drop (l.leads - problem_header) s) l.n l.m left right
told_framed {s = s} {l} t e f = record {
  n_most = t.fits.n_most;
  m_most = t.fits.m_most;
  holds =
      let more = mul-le-mul_left {m = suc l.m} {n = l.m + l.questions} (suc l.n) (omega (arith, t.fits.questions_least)) in
      rw (length-drop (l.leads - problem_header) s) (omega (arith, t.fits.size_is, t.fits.leads_least));
  left_room = e;
  right_room = f;
}

-- Tables of the rules and the first question, as they were read behind d bytes.
module _ {kinds : Kinds} {s : List ℕ} {l : Layout} {left right : List ℕ} (t : Told-of kinds s l) (b : Tabled (drop (l.leads - problem_header) s) l.n l.m 2048 left right) where
  -- One question.
  one_drop : kind_field s ≡ problem_kind → l.leads - problem_header ≡ 0
  one_drop k = let e : l.leads ≡ problem_header = rw (t.fits.leads_is, k) refl in omega arith

  one_left : kind_field s ≡ problem_kind → left ≡ left_table (asking s 0)
  one_left k =
      let d = one_drop k in
      let own : asking s 0 ≡ s = rw k refl in
      let c = rw d at b.lefts in
      rw (own, plain_left_table s k, ← t.fits.n_is, ← t.fits.m_is) (is_list_of (cell (left_place l.n) s l.n l.m) 2048 left b.left_size c)

  one_right : kind_field s ≡ problem_kind → right ≡ right_table (asking s 0)
  one_right k =
      let d = one_drop k in
      let own : asking s 0 ≡ s = rw k refl in
      let c = rw d at b.rights in
      rw (own, plain_right_table s k, ← t.fits.n_is, ← t.fits.m_is) (is_list_of (cell (right_place l.n) s l.n l.m) 2048 right b.right_size c)

  -- Several.
  several_drop : kind_field s ≡ questions_kind → l.leads - problem_header ≡ 2
  several_drop k = let e : l.leads ≡ questions_header = rw (t.fits.leads_is, k) refl in omega arith

  first_row : (side : ℕ) (place : ℕ → ℕ → ℕ) → ((i j : ℕ) → place i j ≡ row_place problem_header l.n i + side + 4 * j) → (xs : List ℕ) → length xs ≡ 2048
      → ((k : ℕ) → k < 2048 → get_or xs k 0 ≡ cell place (drop 2 s) l.n l.m k) → AskedTable (drop 2 s) l.n l.m 0 side place xs
  first_row side place is xs size cells = record {
    size = size;
    rules = λ k h. cells k (omega (arith, t.fits.m_most));
    row = λ j h.
        let first : l.m + 0 ≡ l.m = omega arith in
        rw first (cells (32 * l.m + j) (omega (arith, t.fits.m_most)) ∙ cell_row place (drop 2 s) l.n l.m l.m j (row_place problem_header l.n l.m + side) (omega arith) h (is l.m j));
    past = λ k h. ⊎_elim
        (λ (q : 2048 ≤ k). get_or-eq_default xs 0 (omega arith))
        (λ (q : k < 2048). cells k q ∙ cell_past place (drop 2 s) l.n l.m k (omega arith))
        (nat_le_or_lt 2048 k);
  }

  several_left : kind_field s ≡ questions_kind → left ≡ left_table (asking s 0)
  several_left k =
      let d = several_drop k in
      let own : asking s 0 ≡ alone s 0 = rw k refl in
      let v = several_passes kinds k t.fits.none in
      let c = rw d at b.lefts in
      rw own (asked_left s v.asks 0 v.some (rw (← t.fits.n_is, ← t.fits.m_is) (first_row 0 (left_place l.n) (λ i j. omega arith) left b.left_size c)))

  several_right : kind_field s ≡ questions_kind → right ≡ right_table (asking s 0)
  several_right k =
      let d = several_drop k in
      let own : asking s 0 ≡ alone s 0 = rw k refl in
      let v = several_passes kinds k t.fits.none in
      let c = rw d at b.rights in
      rw own (asked_right s v.asks 0 v.some (rw (← t.fits.n_is, ← t.fits.m_is) (first_row (4 * (l.n + 1)) (right_place l.n) (λ i j. omega arith) right b.right_size c)))

  -- The problem is read.
  pub problem_read : {r : Result Layout Refusal} {left₀ right₀ : List ℕ} → (kind_number l.kind ≡ states_kind → ⊥) → header_of r ≡ problem_outcome kinds s → ProblemRead kinds s left₀ right₀ r left right
  problem_read other e = record {
    result = e;
    left_kept = λ q. absurd (omega (arith, t.within));
    right_kept = λ q. absurd (omega (arith, t.within));
    left_read = λ w. lefts (kind_known kinds (kind_field s) ((header_passes kinds s (length s)).0 t.fits.none).kind_known);
    right_read = λ w. rights (kind_known kinds (kind_field s) ((header_passes kinds s (length s)).0 t.fits.none).kind_known);
  }
    where
      lefts : KnownKind (kind_field s) → left ≡ left_table (asking s 0)
      lefts (KnownKind.plain k) = one_left k
      lefts (KnownKind.several k) = several_left k
      lefts (KnownKind.stated k) = absurd (other (t.fits.kind_is ∙ k))

      rights : KnownKind (kind_field s) → right ≡ right_table (asking s 0)
      rights (KnownKind.plain k) = one_right k
      rights (KnownKind.several k) = several_right k
      rights (KnownKind.stated k) = absurd (other (t.fits.kind_is ∙ k))

-- A record of kind 5 is read by its rules in force.
pub states_read : {kinds : Kinds} {s : List ℕ} {l : Layout} {r : Result Layout Refusal} {left₀ right₀ left right : List ℕ} → Told-of kinds s l → kind_number l.kind ≡ states_kind
    → (left ≡ left_table s) × (right ≡ right_table s) → header_of r ≡ problem_outcome kinds s → ProblemRead kinds s left₀ right₀ r left right
states_read {s = s} t k b e =
    let kind : kind_field s ≡ states_kind = sym t.fits.kind_is ∙ k in
    let own : asking s 0 ≡ s = rw kind refl in
    record {
      result = e;
      left_kept = λ q. absurd (omega (arith, t.within));
      right_kept = λ q. absurd (omega (arith, t.within));
      left_read = λ w. rw own b.0;
      right_read = λ w. rw own b.1;
    }
