-- What the converter answers: refused, too little room, converted; and on inputs of which the first bytes were kept.
use Prim.Native.Nat.{ℕ, zero, suc, ◌≤◌, ◌<◌}
use mathlib.Core.Path.{◌≡◌, refl, ap, sym, subst, ◌∙◌}
use mathlib.Core.Bool.{false}
use mathlib.Core.Logic.{⊎_elim}
use mathlib.Core.List.{List}
use native.Mathlib.Omega.{arith}
use lib.ListN.{length, take}
use borrow.Author.Tests.{lt-ltb, le-ltb}
use Rattle.definitions.specs.Limits.{problem_kind, questions_kind, kept_bytes}
use Rattle.definitions.specs.Bytes.{Outcome, put}
use Rattle.definitions.specs.ProblemRecord.{converter_kinds, kind_field, state_refused, header_refusal, header_outcome, layout_of}
use Rattle.definitions.specs.AnswerRecord.{written}
use Rattle.definitions.specs.Programs.{KeptOf}
use Rattle.definitions.specs.Conversion.{stored_refusal, converted_size, converted, convert_refusal, Converts}
use Rattle.definitions.proofs.Refusals.{or_else_suc, header_passes}
use Rattle.definitions.proofs.KnownKinds.{kind_stored}
use Rattle.definitions.proofs.Inputs.{kept_whole, header_most}
use Rattle.std.specs.Prelude.{Result, Ok, Err}
use Rattle.std.specs.Result.{IsErr}
use Rattle.records.specs.declared.problem.Layout.{Layout}
use Rattle.records.specs.declared.refusal.Refusal.{Refusal}
use Rattle.records.specs.declared.refusal.Refusal.TheVariants.{Room}
use Rattle.records.specs.Refusals.{number_of, refused_by}
use Rattle.records.specs.ProblemHeader.{layout_in, header_of}
use Rattle.records.proofs.Refusing.{number_range, outcome_ok, outcome_err, was_err}
use Rattle.records.proofs.ProblemHeader.{header_fits, long_header}
use Rattle.problem_records.specs.Tables.{states_refusal, leads_refusal, leads_outcome}
use Rattle.problem_records.proofs.ReadProblem.{Leads-told}
use Rattle.converter.specs.Steps.{conversion_of}

-- A refusal, and the buffer as it was.
pub refuses_by : (s before : List ℕ) (r : Refusal) → convert_refusal s (length before) ≡ number_of r → Converts s before (conversion_of (Err r)) before
refuses_by s before r e =
    let some = (number_range r).0 in
    record {
      result = outcome_err (λ size. size) r (converted_size s) (sym e);
      untouched = λ z. refl;
      record_is = λ z. absurd (omega (arith, e, some));
    }

stored_first : (s : List ℕ) (room r : ℕ) → stored_refusal s ≡ r → 0 < r → convert_refusal s room ≡ r
unfolding convert_refusal
stored_first s room r e h = or_else_suc (stored_refusal s) _ (omega (arith, e)) ∙ e

-- Its kinds have no states, so that 20 never applies.
stored_is : (s : List ℕ) → leads_refusal converter_kinds s ≡ stored_refusal s
unfolding leads_refusal states_refusal stored_refusal
stored_is s = go (header_refusal converter_kinds s (length s)) refl
  where
    go : (k : ℕ) → header_refusal converter_kinds s (length s) ≡ k → leads_refusal converter_kinds s ≡ stored_refusal s
    go zero e =
        let kind = kind_stored (kind_field s) ((header_passes converter_kinds s (length s)).0 e).kind_known in
        let none : state_refused s ≡ false = ⊎_elim (λ (k : kind_field s ≡ problem_kind). rw k refl) (λ (k : kind_field s ≡ questions_kind). rw k refl) kind in
        rw (e, none) refl
    go (suc k) e = rw e refl

-- By 1 to 6 and 15,
pub refuses_stored : (s before : List ℕ) {r : Result Layout Refusal} {k : Refusal} → header_of r ≡ leads_outcome converter_kinds s → r ≡ Err k → Converts s before (conversion_of (Err k)) before
unfolding leads_outcome
refuses_stored s before {k = k} e f =
    let q = was_err layout_in (leads_refusal converter_kinds s) (layout_of s) e f in
    refuses_by s before k (stored_first s (length before) (number_of k) (sym (stored_is s) ∙ q.0) (omega (arith, q.0, q.1)))

none_stored : {s : List ℕ} {l : Layout} → Leads-told converter_kinds s l → stored_refusal s ≡ 0
none_stored {s} t = sym (stored_is s) ∙ t.none

-- by 7,
pub refuses_room : (s before : List ℕ) {l : Layout} {size : ℕ} → Leads-told converter_kinds s l → size ≡ converted_size s → length before < size → Converts s before (conversion_of (Err Room)) before
unfolding convert_refusal
refuses_room s before t e h = refuses_by s before Room (rw (none_stored t, lt-ltb (length before) (converted_size s) (omega (arith, e))))

-- or none.
pub converts : (s before : List ℕ) {l : Layout} {size : ℕ} {after : List ℕ} → Leads-told converter_kinds s l → size ≡ converted_size s → size ≤ length before → after ≡ put before 0 (converted s)
    → Converts s before (conversion_of (Ok size)) after
unfolding convert_refusal written
converts s before {size = size} t e h f =
    let none : convert_refusal s (length before) ≡ 0 = rw (none_stored t, le-ltb (length before) (converted_size s) (omega (arith, e))) in
    record {
      result = outcome_ok (λ x. x) size (converted_size s) none e;
      untouched = λ z. absurd (omega arith);
      record_is = λ z. f;
    }

-- ---- kept inputs

pub kept_converts : (kept : List ℕ) {size : ℕ} {before : List ℕ} {r : Outcome ℕ} {after : List ℕ} → Converts (take size kept) before r after
    → (input : List ℕ) → KeptOf kept size input → size ≤ kept_bytes → Converts input before r after
kept_converts kept {before = before} {r} {after} s input k h = subst (λ (x : List ℕ). Converts x before r after) (sym (kept_whole k h)) s

-- A longer one is refused by its header: no record is that long.
pub long_refused : {kept input : List ℕ} {size : ℕ} {before : List ℕ} {r : Result Layout Refusal} {k : Refusal} → KeptOf kept size input → kept_bytes < size
    → header_of r ≡ header_outcome converter_kinds kept size → r ≡ Err k → Converts input before (conversion_of (Err k)) before
unfolding stored_refusal
long_refused {input = input} {before = before} {k = k} t h e f =
    let q = long_header converter_kinds _ t h e (sym (ap refused_by f)) in
    refuses_by input before k (stored_first input (length before) (number_of k) (or_else_suc (header_refusal converter_kinds input (length input)) _ (omega (arith, q.0, q.1)) ∙ q.0) q.1)

pub long_err : (kept : List ℕ) {size : ℕ} (r : Result Layout Refusal) → kept_bytes < size → header_of r ≡ header_outcome converter_kinds kept size → IsErr r
long_err kept {size} (Ok l) h e = absurd (omega (arith, header_most converter_kinds kept size (header_fits converter_kinds kept size e refl).none))
long_err kept (Err k) h e = refl
