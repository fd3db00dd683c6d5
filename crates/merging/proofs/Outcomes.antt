-- From what the steps leave to what merging answers on bytes.
use Prim.Native.Nat.{ℕ, zero, suc, ◌+◌, ◌*◌, ◌≤◌, ◌<◌}
use mathlib.Core.Path.{◌≡◌, refl, ap, sym, ◌∙◌}
use mathlib.Core.Bool.{Bool, true, false, not, cond}
use mathlib.Core.Logic.{◌⊎◌, inl, inr, ⊎_elim}
use mathlib.Core.List.{List, [], ◌∷◌, map}
use native.Mathlib.Omega.{arith}
use lib.ListN.{length, get_or, take, length-map}
use lib.Dec.{ltb}
use mir.Syntax.{w8}
use mir.Val.{Fits}
use lib.IntN.{ℤ}
use lib.Seq.{get_or-take, length-take-le, ext_get_or}
use borrow.Author.Tests.{lt-ltb, le-ltb}
use Rattle.base.specs.Decides.{Decides}
use Rattle.base.specs.Filled.{Filled}
use Rattle.definitions.specs.Limits.{highest_n, signed_bytes, signed_full, stride, merged_most}
use Rattle.definitions.specs.Tropical.{Trop, bot}
use Rattle.definitions.specs.Problem.{Problem, Point, side}
use Rattle.definitions.specs.Bytes.{Bytes, fields, trop_field, field_of, put, or_else, Outcome, refusal}
use Rattle.definitions.specs.Offset.{trop_of, off}
use Rattle.definitions.specs.ProblemRecord.{checker_kinds, n_field, layout_of, problem_refusal, problem_outcome, WithinLayout, problem_of, list_of}
use Rattle.definitions.specs.AnswerRecord.{written}
use Rattle.definitions.specs.Merging as Merging
use Rattle.definitions.specs.Merging.{plan_of, plan_fits, shift_of, above_zero, merged_plan, merged_bytes, merge_refusal, KeepsRules, BothKeep, early, some_early, Merges}
use Rattle.definitions.proofs.Tropical.{largest_ext}
use Rattle.definitions.proofs.Offset.{trop_off, off_off, off_bound, field_of_trop_field}
use Rattle.definitions.proofs.ProblemBack.{listed-length, listed_at}
use Rattle.definitions.proofs.Questions.{asking_itself}
use Rattle.definitions.proofs.Refusals.{or_else_suc, enough_clause, passes_clause}
use Rattle.definitions.proofs.Silent.{some_same}
use Rattle.std.specs.Prelude.{Result, Ok, Err}
use Rattle.records.specs.declared.problem.Layout.{Layout}
use Rattle.records.specs.declared.refusal.Refusal.{Refusal}
use Rattle.records.specs.declared.refusal.Refusal.TheVariants.{Early}
use Rattle.records.specs.Refusals.{number_of, refused_by}
use Rattle.records.specs.ProblemHeader.{layout_in, header_of}
use Rattle.records.specs.Stamps.{Stamped, stamps_point}
use Rattle.records.proofs.Refusing.{number_range, was_err}
use Rattle.problem_records.specs.Tables.{ProblemRead}
use Rattle.problem_records.proofs.LeadTables.{problem_decoded}
use Rattle.problem_records.proofs.ReadProblem.{told_of}
use Rattle.answer_reader.specs.Fields.{Padded}
use Rattle.answer_reader.proofs.Passing.{map_at}
use Rattle.policy_iteration.specs.Tables.{Tables}
use Rattle.merging.specs.Plans.{numbers_in, plans_judged, pair_judged, back_by}
use Rattle.merging.specs.Outcome.{merged_of, Read, Wrote, below, above, joined, joined_early}
use Rattle.merging.proofs.Plans.{plan_point, plan_stamped}

-- ---- refusals 7 and 12

module _ (n : ℕ) (a b : List ℕ) (room : ℕ) where
  pub judged_room : room < merged_most → 7 ≡ plans_judged n a b room
  unfolding plans_judged
  judged_room h = rw (lt-ltb room merged_most h)

  module _ (h : merged_most ≤ room) where
    pub judged_first : {r : Bool} → r ≡ plan_fits n a → r ≡ false → 12 ≡ plans_judged n a b room
    unfolding plans_judged
    judged_first e f = rw (le-ltb room merged_most h, ← e, f)

    pub judged_second : {r s : Bool} → r ≡ plan_fits n a → r ≡ true → s ≡ plan_fits n b → s ≡ false → 12 ≡ plans_judged n a b room
    unfolding plans_judged
    judged_second e f g k = rw (le-ltb room merged_most h, ← e, f, ← g, k)

    pub judged_none : {r s : Bool} → r ≡ plan_fits n a → r ≡ true → s ≡ plan_fits n b → s ≡ true → 0 ≡ plans_judged n a b room
    unfolding plans_judged
    judged_none e f g k = rw (le-ltb room merged_most h, ← e, f, ← g, k)

  -- What no refusal says.
  pub record Judged-none : Type 0 where
    pub room_enough : merged_most ≤ room
    pub first_fits : plan_fits n a ≡ true
    pub second_fits : plan_fits n b ≡ true

  pub none_judged : plans_judged n a b room ≡ 0 → Judged-none
  unfolding plans_judged
  none_judged e =
      let r = (enough_clause room merged_most 6 _).0 e in
      let f = (passes_clause (plan_fits n a) 11 _).0 r.1 in
      let g = (passes_clause (plan_fits n b) 11 _).0 f.1 in
      record { room_enough = r.0; first_fits = f.0; second_fits = g.0 }

-- ---- refusals 24 and 25

-- What no refusal says.
pub none_pair : (f k : Bool) → pair_judged f k ≡ 0 → (f ≡ false) × (k ≡ true)
none_pair true k e = absurd (omega arith)
none_pair false true e = (refl, refl)
none_pair false false e = absurd (omega arith)

-- Which one there is.
pub some_pair : (f k : Bool) (r : Refusal) → number_of r ≡ pair_judged f k → ((f ≡ true) × (number_of r ≡ 24)) ⊎ ((f ≡ false) × ((k ≡ false) × (number_of r ≡ 25)))
some_pair true k r e = inl (refl, e)
some_pair false false r e = inr (refl, (refl, e))
some_pair false true r e = absurd (let p = number_range r in omega arith)

-- ---- all of them

-- The shift is looked at last.
shift_last : (r a b : Bool) (x : ℕ) → cond r 7 (cond (not a) 12 (cond (not b) 12 x)) ≡ or_else (cond r 7 (cond (not a) 12 (cond (not b) 12 0))) x
shift_last true a b x = refl
shift_last false true true x = refl
shift_last false true false x = refl
shift_last false false b x = refl

pub merge_refusal_lem : (p a b : List ℕ) (t : ℤ) (room : ℕ)
    → merge_refusal p a b t room ≡ or_else (problem_refusal p) (or_else (plans_judged (n_field p) a b room) (cond (above_zero t) 24 0))
unfolding merge_refusal plans_judged
merge_refusal_lem p a b t room = ap (or_else (problem_refusal p)) (shift_last (ltb room merged_most) (plan_fits (n_field p) a) (plan_fits (n_field p) b) (cond (above_zero t) 24 0))

-- Refused by the problem, and by 7 or 12.
turned : {p a b before : List ℕ} {t : ℤ} (r : Refusal) → merge_refusal p a b t (length before) ≡ number_of r → Merges p a b t before (merged_of (Err r)) before
turned {p} {a} {b} {before} {t} r e = go (number_of r) e (number_range r).0
  where
    go : (k : ℕ) → merge_refusal p a b t (length before) ≡ k → 0 < k → Merges p a b t before (refusal k) before
    go zero e h = absurd (omega arith)
    go (suc k) e h = Merging.turned_away e

pub refused_problem : {p : List ℕ} (a b : List ℕ) (t : ℤ) (before : List ℕ) {r : Result Layout Refusal} {k : Refusal} → header_of r ≡ problem_outcome checker_kinds p → r ≡ Err k
    → Merges p a b t before (merged_of (Err k)) before
unfolding problem_outcome
refused_problem {p} a b t before {k = k} e f =
    let h = was_err layout_in (problem_refusal p) (layout_of p) e f in
    turned k (merge_refusal_lem p a b t (length before) ∙ or_else_suc (problem_refusal p) _ (omega (arith, h.0, h.1)) ∙ h.0)

pub refused_plans : {p : List ℕ} {n : ℕ} (a b : List ℕ) (t : ℤ) (before : List ℕ) {A : Type 0} {r : Result A Refusal} {k : Refusal} → WithinLayout p → n_field p ≡ n → refused_by r ≡ plans_judged n a b (length before) → r ≡ Err k
    → Merges p a b t before (merged_of (Err k)) before
refused_plans {p} {n} a b t before {k = k} w e f g =
    let same : plans_judged (n_field p) a b (length before) ≡ number_of k = ap (λ (i : ℕ). plans_judged i a b (length before)) e ∙ sym f ∙ ap refused_by g in
    turned k (merge_refusal_lem p a b t (length before) ∙ rw (w, same) (or_else_suc (number_of k) _ (number_range k).0))

-- ---- a problem in tables

-- A list whose elements fit in 8 bits is one of bytes.
pub bytes_of : {s : List ℕ} → ((i : ℕ) → Fits w8 (get_or s i 0)) → Bytes s
bytes_of f = record { byte = λ i. (f i).fits }

-- A problem of one question that was read.
pub read_told : {p left₀ right₀ left right : List ℕ} {header : Result Layout Refusal} {l : Layout} → Bytes p → ProblemRead checker_kinds p left₀ right₀ header left right → header ≡ Ok l
    → Read p l.n l.m left right
unfolding problem_of
read_told {p} b r f =
    let t = told_of checker_kinds r.result f in
    record {
      within = t.within;
      n_is = sym t.fits.n_is;
      stands = record {
        n_is = sym t.fits.n_is;
        m_is = sym t.fits.m_is;
        decoded = rw (r.left_read t.within, r.right_read t.within, asking_itself p 0 t.within) (problem_decoded p b t.within);
      };
    }

module _ {p : List ℕ} {n m : ℕ} {left right : List ℕ} (read : Read p n m left right) where
  pub read_n_most : n ≤ highest_n
  read_n_most = rw (← read.stands.n_is) read.stands.decoded.n_most

  -- Its tables are such as a pass over the rows takes.
  pub read_tables : Tables left right (n + 1) m
  read_tables =
      let d = read.stands.decoded in
      record {
        width_most = omega (arith, read_n_most);
        rows_most = omega (arith, read.stands.m_is, d.m_most);
        lefts = record { size = d.left_length; near = d.left_near };
        rights = record { size = d.right_length; near = λ k. record { hi = omega (arith, (d.right_near k).hi); lo = λ h. omega (arith, (d.right_near k).lo h) } };
      }

-- ---- the merged stamps in the buffer

-- The field of an offset number is that of what it stands for.
off_field : (v : ℕ) {x : Trop} → v < signed_full → trop_of v ≡ x → off v ≡ field_of x
off_field v h e =
    let t : trop_of v ≡ trop_field (off v) = ap trop_of (sym (off_off v h)) ∙ trop_off (off v) (off_bound v) in
    sym (field_of_trop_field (off v) (off_bound v)) ∙ ap field_of (sym t ∙ e)

-- An element of a list made by a function, where there is one.
mapped_at : (f : Trop → ℕ) (xs : List Trop) (k : ℕ) → k < length xs → get_or (map f xs) k 0 ≡ f (get_or xs k bot)
mapped_at f [] k h = absurd (omega arith)
mapped_at f (x ∷ xs) zero h = refl
mapped_at f (x ∷ xs) (suc k) h = mapped_at f xs k (omega arith)

module _ (n back : ℕ) (x y : List ℕ) {stamps : List ℕ} (filled : Filled (λ j v. (trop_of v ≡ joined back x y j) × (v < signed_full)) stride (n + 1) stamps) (h : n + 1 ≤ stride) where
  cut_length : length (take (n + 1) stamps) ≡ n + 1
  cut_length = length-take-le (n + 1) stamps (rw filled.size_is h)

  fields_are : map off (take (n + 1) stamps) ≡ map field_of (list_of (joined back x y) (suc n))
  fields_are =
      let long : length (map off (take (n + 1) stamps)) ≡ n + 1 = rw (length-map, cut_length) refl in
      let as_long : length (map field_of (list_of (joined back x y) (suc n))) ≡ suc n = rw (length-map, listed-length (joined back x y) (suc n)) refl in
      ext_get_or 0 _ _ (omega (arith, long, as_long)) (λ k l.
      let b : k < n + 1 = omega (arith, long, l) in
      map_at off (take (n + 1) stamps) k (rw cut_length b)
      ∙ ap off (get_or-take (n + 1) stamps k 0 b)
      ∙ off_field _ (filled.each k b).1 (filled.each k b).0
      ∙ sym (mapped_at field_of (list_of (joined back x y) (suc n)) k (rw (listed-length (joined back x y) (suc n)) (omega arith)) ∙ ap field_of (listed_at (joined back x y) bot (suc n) k (omega arith))))

pub wrote_below : (n back : ℕ) (x y before : List ℕ) {r : Bool} → r ≡ joined_early back x y (n + 1) → r ≡ true → Wrote n back x y before (merged_of (Err Early)) before
wrote_below n back x y before e f = let q : n + 1 ≡ suc n = omega arith in below (rw q at (sym e ∙ f))

pub wrote_above : (n back : ℕ) (x y before : List ℕ) {stamps after : List ℕ} {r : Bool} → r ≡ joined_early back x y (n + 1) → r ≡ false
    → Filled (λ j v. (trop_of v ≡ joined back x y j) × (v < signed_full)) stride (n + 1) stamps → n + 1 ≤ stride
    → after ≡ put before 0 (fields signed_bytes (map off (take (n + 1) stamps)))
    → Wrote n back x y before (merged_of (Ok (signed_bytes * (n + 1)))) after
unfolding written
wrote_above n back x y before e f filled h g =
    let q : n + 1 ≡ suc n = omega arith in
    rw (q, g, fields_are n back x y filled h) (above (rw q at (sym e ∙ f)))

-- ---- two plans in arrays

-- A point that agrees keeps the same rules.
side_as : (n : ℕ) (c : ℕ → Trop) (x y : Point) → ((j : ℕ) → x j ≡ y j) → side n c x ≡ side n c y
unfolding side
side_as n c x y h = largest_ext _ _ (suc n) (λ j _. rw (h j) refl)

keeps_as : (p : Problem) (x y : Point) → ((j : ℕ) → x j ≡ y j) → KeepsRules p x → KeepsRules p y
keeps_as p x y h k i l = rw (← side_as p.n (p.left i) x y h, ← side_as p.n (p.right i) x y h) (k i l)

listed_same : (f g : Point) (k : ℕ) → ((j : ℕ) → f j ≡ g j) → list_of f k ≡ list_of g k
unfolding list_of
listed_same f g zero h = refl
listed_same f g (suc k) h = rw (listed_same f g k h, h k) refl

-- The bytes of two plans of the right form, and their stamps.
pub record Held (n : ℕ) (a b x y : List ℕ) : Type 0 where
  pub a_bytes : Bytes a
  pub b_bytes : Bytes b
  pub x_is : Padded stride (numbers_in a (n + 1)) x
  pub y_is : Padded stride (numbers_in b (n + 1)) y
  pub a_fits : plan_fits n a ≡ true
  pub b_fits : plan_fits n b ≡ true

pub held_of : {n : ℕ} {a b x y : List ℕ} → ((i : ℕ) → Fits w8 (get_or a i 0)) → ((i : ℕ) → Fits w8 (get_or b i 0))
    → Padded stride (numbers_in a (n + 1)) x → Padded stride (numbers_in b (n + 1)) y → plan_fits n a ≡ true → plan_fits n b ≡ true → Held n a b x y
held_of f g p q h k = record { a_bytes = bytes_of f; b_bytes = bytes_of g; x_is = p; y_is = q; a_fits = h; b_fits = k }

module _ {n : ℕ} {a b x y : List ℕ} (held : Held n a b x y) where
  pub held_first : Stamped x
  held_first = plan_stamped n held.a_bytes held.x_is held.a_fits

  pub held_second : Stamped y
  held_second = plan_stamped n held.b_bytes held.y_is held.b_fits

  first_point : (j : ℕ) → stamps_point x j ≡ plan_of n a j
  first_point = plan_point n held.a_bytes held.x_is

  second_point : (j : ℕ) → stamps_point y j ≡ plan_of n b j
  second_point = plan_point n held.b_bytes held.y_is

  module _ {p : List ℕ} {m : ℕ} {left right : List ℕ} (read : Read p n m left right) (before : List ℕ) (room : merged_most ≤ length before) (w : ℕ) where
    -- Of the refusals by numbers 24 alone is left.
    only_shift : merge_refusal p a b (shift_of w) (length before) ≡ cond (above_zero (shift_of w)) 24 0
    unfolding plans_judged
    only_shift = merge_refusal_lem p a b (shift_of w) (length before) ∙ rw (read.within, read.n_is, le-ltb (length before) merged_most room, held.a_fits, held.b_fits) refl

    refused_forward : {f : Bool} (r : Refusal) → f ≡ above_zero (shift_of w) → f ≡ true → number_of r ≡ 24 → Merges p a b (shift_of w) before (merged_of (Err r)) before
    refused_forward r e f g = turned r (only_shift ∙ rw (← e, f) (sym g))

    module _ {r : Bool} (e : r ≡ above_zero (shift_of w)) (f : r ≡ false) where
      none : merge_refusal p a b (shift_of w) (length before) ≡ 0
      none = only_shift ∙ rw (← e, f) refl

      to_plans : KeepsRules (problem_of p) (stamps_point x) × KeepsRules (problem_of p) (stamps_point y) → BothKeep p a b
      to_plans k = rw read.n_is (keeps_as (problem_of p) (stamps_point x) (plan_of n a) first_point k.0, keeps_as (problem_of p) (stamps_point y) (plan_of n b) second_point k.1)

      to_stamps : BothKeep p a b → KeepsRules (problem_of p) (stamps_point x) × KeepsRules (problem_of p) (stamps_point y)
      to_stamps k =
          let q : KeepsRules (problem_of p) (plan_of n a) × KeepsRules (problem_of p) (plan_of n b) = rw read.n_is at k in
          (keeps_as (problem_of p) (plan_of n a) (stamps_point x) (λ j. sym (first_point j)) q.0, keeps_as (problem_of p) (plan_of n b) (stamps_point y) (λ j. sym (second_point j)) q.1)

      module _ {d : Bool} (decides : Decides (KeepsRules (problem_of p) (stamps_point x) × KeepsRules (problem_of p) (stamps_point y)) d) where
        refused_broken : (r : Refusal) → d ≡ false → number_of r ≡ 25 → Merges p a b (shift_of w) before (merged_of (Err r)) before
        refused_broken r g h = rw h (Merging.rule_broken none (λ k. decides.no g (to_stamps k)))

        module _ (back : ℕ) (back_is : back_by back ≡ shift_of w) where
          -- The merged plan is the same from arrays and from bytes.
          joined_same : (j : ℕ) → joined back x y j ≡ merged_plan n a b (shift_of w) j
          joined_same j = rw (back_is, first_point j, second_point j) refl

          early_same : joined_early back x y (suc n) ≡ some_early (n_field p) a b (shift_of w)
          early_same = rw read.n_is (some_same _ _ (suc n) (λ j _. ap early (joined_same j)))

          bytes_same : fields signed_bytes (map field_of (list_of (joined back x y) (suc n))) ≡ merged_bytes (n_field p) a b (shift_of w)
          unfolding merged_bytes
          bytes_same = rw read.n_is (ap (λ (l : List Trop). fields signed_bytes (map field_of l)) (listed_same _ _ (suc n) joined_same))

          size_same : signed_bytes * suc n ≡ signed_bytes * suc (n_field p)
          size_same = rw read.n_is refl

          pub wrote_merges : {r : Outcome ℕ} {after : List ℕ} → d ≡ true → Wrote n back x y before r after → Merges p a b (shift_of w) before r after
          wrote_merges g (below k) = Merging.too_early none (to_plans (decides.yes g)) (sym early_same ∙ k)
          wrote_merges g (above k) = rw (bytes_same, size_same) (Merging.stamps none (to_plans (decides.yes g)) (sym early_same ∙ k))

    -- 24 or 25 applies.
    pub refused_pair : {A : Type 0} {f d : Bool} {r : Result A Refusal} {k : Refusal} → f ≡ above_zero (shift_of w) → Decides (KeepsRules (problem_of p) (stamps_point x) × KeepsRules (problem_of p) (stamps_point y)) d
        → refused_by r ≡ pair_judged f d → r ≡ Err k → Merges p a b (shift_of w) before (merged_of (Err k)) before
    refused_pair {f} {d} {k = k} e decides q g = ⊎_elim
        (λ (h : (f ≡ true) × (number_of k ≡ 24)). refused_forward k e h.0 h.1)
        (λ (h : (f ≡ false) × ((d ≡ false) × (number_of k ≡ 25))). refused_broken e h.0 decides k h.1.0 h.1.1)
        (some_pair f d k (sym (ap refused_by g) ∙ q))
