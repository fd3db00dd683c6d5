-- What it means that nothing is refused of an answer, by its form, by its record and by the writer.
use Prim.Native.Nat.{ℕ, ◌+◌, ◌≤◌}
use mathlib.Core.Path.{◌≡◌, refl}
use mathlib.Core.Bool.{true, ◌&&◌, and-eq-true_iff}
use mathlib.Core.List.{List}
use mathlib.Core.Logic.{◌↔◌}
use lib.Dec.{eqb}
use lib.ListN.{length}
use borrow.Author.Tests.{eqb-true, eq-eqb}
use Rattle.definitions.specs.Limits.{highest_n, highest_m, length_bytes, answer_kind, answer_header, answer_most}
use Rattle.definitions.specs.ProblemRecord.{length_field, kind_field, n_field}
use Rattle.definitions.specs.AnswerRecord.{Answer, known_class, start_fits, stamp_count, pick_count, highest_pick, answer_size, span_fits, stamps_fit, picks_fit, form_refusal, right_counts, class_field, start_field, answer_of, answer_header_refusal, answer_header_judged, answer_refusal, writer_refusal, writer_judged}
use Rattle.definitions.proofs.Refusals.{both_clause, enough_clause, equal_clause, limits_clause, or_else_none, passes_clause}

-- The form of an answer's span, stamps and picks.
pub record FormFits (a : Answer) (n m : ℕ) : Type 0 where
  pub span_fits_is : span_fits a.class a.span ≡ true
  pub stamps_fit_lem : stamps_fit a.stamps ≡ true
  pub picks_fit_lem : picks_fit (highest_pick a.class n m) a.picks ≡ true

-- Nothing is refused in the form exactly when these hold.
pub form_fits : (a : Answer) (n m : ℕ) → (form_refusal a n m ≡ 0) ↔ FormFits a n m
unfolding form_refusal
form_fits a n m = (
  λ e.
      let b = (both_clause (span_fits a.class a.span) (stamps_fit a.stamps) _ _).0 e in
      let c = (passes_clause (picks_fit (highest_pick a.class n m) a.picks) _ _).0 b.1 in
      record { span_fits_is = b.0.0; stamps_fit_lem = b.0.1; picks_fit_lem = c.0 },
  λ f. (both_clause _ _ _ _).1 ((f.span_fits_is, f.stamps_fit_lem), (passes_clause _ _ _).1 (f.picks_fit_lem, refl)),
)

-- The facts of an answer record that nothing refuses, read with the problem's n and m.
pub record AnswerFits (s : List ℕ) (n m : ℕ) : Type 0 where
  pub n_most : n ≤ highest_n
  pub m_most : m ≤ highest_m
  pub size_enough : answer_header ≤ length s
  pub length_is : length_field s + length_bytes ≡ length s
  pub kind_is : kind_field s ≡ answer_kind
  pub class_known : known_class (class_field s) ≡ true
  pub start_fits_is : start_fits (class_field s) (start_field s) n ≡ true
  pub n_is : n_field s ≡ n
  pub size_is : length s ≡ answer_size (class_field s) n m
  pub form : FormFits (answer_of s n m) n m

-- Nothing refuses an answer exactly when these hold.
pub answer_fits : (s : List ℕ) (n m : ℕ) → (answer_refusal s n m ≡ 0) ↔ AnswerFits s n m
unfolding answer_refusal answer_header_refusal answer_header_judged
answer_fits s n m = (fits, within)
  where
    fits : answer_refusal s n m ≡ 0 → AnswerFits s n m
    fits e =
        let h = (or_else_none (answer_header_refusal s (length s) n m) (form_refusal (answer_of s n m) n m)).0 e in
        let a = (limits_clause n m _ _).0 h.0 in
        let b = (enough_clause (length s) answer_header _ _).0 a.1 in
        let c = (equal_clause (length_field s + length_bytes) (length s) _ _).0 b.1 in
        let d = (both_clause (eqb (kind_field s) answer_kind) (known_class (class_field s) && start_fits (class_field s) (start_field s) n) _ _).0 c.1 in
        let class = (and-eq-true_iff (known_class (class_field s)) (start_fits (class_field s) (start_field s) n)).0 d.0.1 in
        let g = (both_clause (eqb (n_field s) n) (eqb (length s) (answer_size (class_field s) n m)) _ _).0 d.1 in
        record {
          n_most = a.0.0;
          m_most = a.0.1;
          size_enough = b.0;
          length_is = c.0;
          kind_is = eqb-true (kind_field s) answer_kind d.0.0;
          class_known = class.0;
          start_fits_is = class.1;
          n_is = eqb-true (n_field s) n g.0.0;
          size_is = eqb-true (length s) (answer_size (class_field s) n m) g.0.1;
          form = (form_fits (answer_of s n m) n m).0 h.1;
        }

    within : AnswerFits s n m → answer_refusal s n m ≡ 0
    within f =
        (or_else_none (answer_header_refusal s (length s) n m) (form_refusal (answer_of s n m) n m)).1 (
          (limits_clause n m _ _).1 (
            (f.n_most, f.m_most),
            (enough_clause _ _ _ _).1 (
              f.size_enough,
              (equal_clause _ _ _ _).1 (
                f.length_is,
                (both_clause _ _ _ _).1 (
                  (eq-eqb _ _ f.kind_is, (and-eq-true_iff _ _).1 (f.class_known, f.start_fits_is)),
                  (both_clause _ _ _ _).1 ((eq-eqb _ _ f.n_is, eq-eqb _ _ f.size_is), refl),
                ),
              ),
            ),
          ),
          (form_fits (answer_of s n m) n m).1 f.form,
        )

-- The facts of fields that the writer takes, with n, m and the size of the buffer.
pub record WriterFits (a : Answer) (n m room : ℕ) : Type 0 where
  pub n_most : n ≤ highest_n
  pub m_most : m ≤ highest_m
  pub room_enough : answer_most ≤ room
  pub class_known : known_class a.class ≡ true
  pub start_fits_is : start_fits a.class a.start n ≡ true
  pub stamps_count : length a.stamps ≡ stamp_count a.class n
  pub picks_count : length a.picks ≡ pick_count a.class n m
  pub form : FormFits a n m

-- The writer refuses nothing exactly when these hold.
pub writer_fits : (a : Answer) (n m room : ℕ) → (writer_refusal a n m room ≡ 0) ↔ WriterFits a n m room
unfolding writer_refusal writer_judged right_counts
writer_fits a n m room = (fits, within)
  where
    fits : writer_refusal a n m room ≡ 0 → WriterFits a n m room
    fits e =
        let h = (or_else_none _ (form_refusal a n m)).0 e in
        let b = (limits_clause n m _ _).0 h.0 in
        let c = (enough_clause room answer_most _ _).0 b.1 in
        let d = (passes_clause (known_class a.class && start_fits a.class a.start n) _ _).0 c.1 in
        let class = (and-eq-true_iff (known_class a.class) (start_fits a.class a.start n)).0 d.0 in
        let g = (both_clause (eqb (length a.stamps) (stamp_count a.class n)) (eqb (length a.picks) (pick_count a.class n m)) _ _).0 d.1 in
        record {
          n_most = b.0.0;
          m_most = b.0.1;
          room_enough = c.0;
          class_known = class.0;
          start_fits_is = class.1;
          stamps_count = eqb-true (length a.stamps) (stamp_count a.class n) g.0.0;
          picks_count = eqb-true (length a.picks) (pick_count a.class n m) g.0.1;
          form = (form_fits a n m).0 h.1;
        }

    within : WriterFits a n m room → writer_refusal a n m room ≡ 0
    within f =
        (or_else_none _ (form_refusal a n m)).1 (
          (limits_clause n m _ _).1 (
            (f.n_most, f.m_most),
            (enough_clause _ _ _ _).1 (
              f.room_enough,
              (passes_clause _ _ _).1 (
                (and-eq-true_iff _ _).1 (f.class_known, f.start_fits_is),
                (both_clause _ _ _ _).1 ((eq-eqb _ _ f.stamps_count, eq-eqb _ _ f.picks_count), refl),
              ),
            ),
          ),
          (form_fits a n m).1 f.form,
        )
