-- Laws of a problem's header: its answer by the refusal's number, its refusals on plain numbers, its size.
use Rattle.std.proofs.Common.{Result, Ok, Err, ◌≡◌, ℕ, suc, ◌+◌, ◌*◌, ◌<◌, ◌≤◌, ◌⊎◌, List, length, sym, refl, ap, ◌∙◌, inl, inr, ⊎_elim, mul-le-mul_right, mul-le-mul_left, arith}
use Rattle.definitions.specs.Limits.{highest_n, highest_m, kept_bytes, stride, table_rows, table_size, signed_bytes, problem_kind, questions_kind, states_kind, most_questions, problem_header, leads_latest}
use Rattle.definitions.specs.ProblemRecord.{Kinds, checker_kinds, AsksOne, kind_field, n_field, m_field, count_field, leads_place, questions_asked, layout_of, header_refusal, header_outcome}
use Rattle.definitions.specs.ProblemRecord as Problems
use Rattle.definitions.specs.Programs.{KeptOf}
use Rattle.definitions.proofs.Inputs.{kept_at, header_agrees, header_most}
use Rattle.definitions.proofs.Refusals.{header_passes}
use Rattle.definitions.proofs.KnownKinds.{kind_known, few_questions, kind_one, one_asks, one_or_several, leads_place_least, leads_place_most}
use Rattle.records.specs.declared.problem.Layout.{Layout}
use Rattle.records.specs.declared.problem.Kind.{Kind}
use Rattle.records.specs.declared.problem.Kind.TheVariants.{Problem, Questions}
use Rattle.records.specs.declared.refusal.Refusal.{Refusal}
use Rattle.records.specs.Refusals.{number_of, refused_by}
use Rattle.records.specs.ProblemHeader.{kind_number, layout_in, header_of}
use Rattle.records.proofs.Refusing.{number_range, was_ok, was_err}

-- The elements of a table within the limits are at most 2,048.
pub product_most : (n m : ℕ) → n ≤ highest_n → m ≤ highest_m → (n + 1) * (m + 1) ≤ table_size
product_most n m h k = omega (arith, mul-le-mul_right {m = n + 1} {n = stride} (m + 1) (omega arith), mul-le-mul_left {m = m + 1} {n = table_rows} stride (omega arith))

-- The facts of a header that nothing refuses, with its layout.
pub record HeaderFits (kinds : Kinds) (s : List ℕ) (size : ℕ) (l : Layout) : Type 0 where
  pub none : header_refusal kinds s size ≡ 0
  pub layout_is : layout_in l ≡ layout_of s
  pub n_is : l.n ≡ n_field s
  pub m_is : l.m ≡ m_field s
  pub kind_is : kind_number l.kind ≡ kind_field s
  pub leads_is : l.leads ≡ leads_place (kind_field s) (m_field s)
  pub questions_is : l.questions ≡ questions_asked (kind_field s) (count_field s)
  pub n_most : l.n ≤ highest_n
  pub m_most : l.m ≤ highest_m
  pub questions_least : 0 < l.questions
  pub questions_most : l.questions ≤ most_questions
  pub leads_least : problem_header ≤ l.leads
  pub leads_most : l.leads ≤ leads_latest
  pub size_is : size ≡ l.leads + 2 * signed_bytes * (suc l.n * (l.m + l.questions))

-- A header that nothing refuses, with its layout, fits.
pub fits_of : (kinds : Kinds) (s : List ℕ) (size : ℕ) {l : Layout} → header_refusal kinds s size ≡ 0 → layout_in l ≡ layout_of s → HeaderFits kinds s size l
fits_of kinds s size {l = l} none layout_is =
    let h = (header_passes kinds s size).0 none in
    let n_is : l.n ≡ n_field s = ap (λ (x : Problems.Layout). x.n) layout_is in
    let m_is : l.m ≡ m_field s = ap (λ (x : Problems.Layout). x.m) layout_is in
    let leads_is : l.leads ≡ leads_place (kind_field s) (m_field s) = ap (λ (x : Problems.Layout). x.leads) layout_is in
    let questions_is : l.questions ≡ questions_asked (kind_field s) (count_field s) = ap (λ (x : Problems.Layout). x.questions) layout_is in
    record {
      none = none;
      layout_is = layout_is;
      n_is = n_is;
      m_is = m_is;
      kind_is = ap (λ (x : Problems.Layout). x.kind) layout_is;
      leads_is = leads_is;
      questions_is = questions_is;
      n_most = rw n_is h.n_most;
      m_most = rw m_is h.m_most;
      questions_least = ⊎_elim
          (λ (k : AsksOne s). rw (questions_is, k) (omega arith))
          (λ (k : kind_field s ≡ questions_kind). let c = few_questions s size k h in rw (questions_is, k) c.some)
          (one_or_several (kind_field s));
      questions_most = ⊎_elim
          (λ (k : AsksOne s). rw (questions_is, k) (omega arith))
          (λ (k : kind_field s ≡ questions_kind). let c = few_questions s size k h in rw (questions_is, k) c.few)
          (one_or_several (kind_field s));
      leads_least = rw leads_is (leads_place_least (kind_field s) (m_field s) (kind_known kinds (kind_field s) h.kind_known));
      leads_most = rw leads_is (leads_place_most (kind_field s) (m_field s) h.m_most (kind_known kinds (kind_field s) h.kind_known));
      size_is = rw (n_is, m_is, leads_is, questions_is) h.size_is;
    }

-- The size where one question is asked for.
pub fits_one : {s : List ℕ} {size : ℕ} {l : Layout} → HeaderFits checker_kinds s size l → size ≡ l.leads + 2 * signed_bytes * (suc l.n * suc l.m)
fits_one {s} {size} {l} h =
    let p = (header_passes checker_kinds s size).0 h.none in
    let one : questions_asked (kind_field s) (count_field s) ≡ 1 = rw (one_asks (kind_field s) (kind_one (kind_field s) p.kind_known)) refl in
    let rows : l.m + l.questions ≡ suc l.m = omega (arith, h.questions_is) in
    rw rows at h.size_is

-- A header that gives a layout fits.
pub header_fits : (kinds : Kinds) (s : List ℕ) (size : ℕ) {r : Result Layout Refusal} {l : Layout} → header_of r ≡ header_outcome kinds s size → r ≡ Ok l → HeaderFits kinds s size l
unfolding header_outcome
header_fits kinds s size e f = let g = was_ok layout_in (header_refusal kinds s size) (layout_of s) e f in fits_of kinds s size g.0 g.1

-- A header that is refused is refused by its number.
pub header_refuses : (kinds : Kinds) (s : List ℕ) (size : ℕ) {r : Result Layout Refusal} {k : Refusal} → header_of r ≡ header_outcome kinds s size → r ≡ Err k → (header_refusal kinds s size ≡ number_of k) × (0 < number_of k)
unfolding header_outcome
header_refuses kinds s size {k = k} e f = let g = was_err layout_in (header_refusal kinds s size) (layout_of s) e f in (g.0, (number_range k).0)

-- ---- an input of which the first bytes were kept

-- One that is longer is refused by its header: no record is that long.
pub long_header : (kinds : Kinds) {kept input : List ℕ} {size : ℕ} (header : Result Layout Refusal) {r : ℕ} → KeptOf kept size input → kept_bytes < size
    → header_of header ≡ header_outcome kinds kept size → r ≡ refused_by header → (header_refusal kinds input (length input) ≡ r) × (0 < r)
long_header kinds {kept} {input} {size} (Ok l) k h e g = absurd (omega (arith, header_most kinds kept size (header_fits kinds kept size e refl).none))
long_header kinds {kept} {input} {size} (Err j) k h e g =
    let q = header_refuses kinds kept size e refl in
    (ap (header_refusal kinds input) k.size_is ∙ header_agrees kinds input kept (λ i b. kept_at k h i (omega arith)) size ∙ q.0 ∙ sym g, omega (arith, q.1))

-- A record of kind 1 or 3 is not of kind 5.
pub not_states : {k : Kind} → (k ≡ Problem) ⊎ (k ≡ Questions) → kind_number k ≡ states_kind → ⊥
not_states (inl e) f = let z : problem_kind ≡ states_kind = rw e at f in omega arith
not_states (inr e) f = let z : questions_kind ≡ states_kind = rw e at f in omega arith
