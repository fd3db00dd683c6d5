-- The kinds of problems: which of them an entry knows, where their leads stand, and how many questions they ask.
use Prim.Native.Nat.{ℕ, suc, ◌+◌, ◌*◌, ◌≤◌, ◌<◌}
use mathlib.Core.Path.{◌≡◌, refl, sym, ◌∙◌}
use mathlib.Core.Bool.{Bool, true, false, ◌&&◌, ◌||◌, false≢true}
use mathlib.Core.List.{List}
use mathlib.Core.Logic.{◌⊎◌, inl, inr, ⊎_elim}
use native.Mathlib.Omega.{arith}
use native.Mathlib.Nat.{eq-zero-or-pos}
use lib.Dec.{eqb, ltb, leb}
use borrow.Author.Tests.{ltb-false, eqb-true, le-leb, eq-eqb}
use Rattle.definitions.specs.Limits.{highest_m, signed_bytes, problem_kind, questions_kind, states_kind, leads_latest, most_questions, problem_header, questions_header}
use Rattle.definitions.specs.ProblemRecord.{Kinds, checker_kinds, converter_kinds, desk_kinds, problem_size, record_size, kind_field, n_field, m_field, count_field, leads_place, known_kind}
use Rattle.definitions.proofs.Refusals.{HeaderPasses, or_false}

-- A record asks several questions, or one.
pub one_or_several : (kind : ℕ) → (eqb kind questions_kind ≡ false) ⊎ (kind ≡ questions_kind)
one_or_several kind = go (eqb kind questions_kind) refl
  where
    go : (t : Bool) → eqb kind questions_kind ≡ t → (t ≡ false) ⊎ (kind ≡ questions_kind)
    go true e = inr (eqb-true kind questions_kind e)
    go false e = inl refl

-- Whatever an entry knows is one of three kinds.
pub data KnownKind (kind : ℕ) : Type 0 where
  plain : kind ≡ problem_kind → KnownKind kind
  several : kind ≡ questions_kind → KnownKind kind
  stated : kind ≡ states_kind → KnownKind kind

pub kind_known : (kinds : Kinds) (kind : ℕ) → known_kind kinds kind ≡ true → KnownKind kind
kind_known kinds kind e = go kinds.several kinds.states (eqb kind problem_kind) (eqb kind questions_kind) (eqb kind states_kind) refl refl refl e
  where
    go : (a b t u v : Bool) → eqb kind problem_kind ≡ t → eqb kind questions_kind ≡ u → eqb kind states_kind ≡ v → (t || ((a && u) || (b && v))) ≡ true → KnownKind kind
    go a b true u v f g h e = plain (eqb-true kind problem_kind f)
    go true b false true v f g h e = several (eqb-true kind questions_kind g)
    go true true false false true f g h e = stated (eqb-true kind states_kind h)
    go true true false false false f g h e = absurd (false≢true e)
    go true false false false v f g h e = absurd (false≢true e)
    go false true false u true f g h e = stated (eqb-true kind states_kind h)
    go false true false u false f g h e = absurd (false≢true e)
    go false false false u v f g h e = absurd (false≢true e)

-- One of one question knows kinds 1 and 5.
pub data OneKind (kind : ℕ) : Type 0 where
  plain : kind ≡ problem_kind → OneKind kind
  stated : kind ≡ states_kind → OneKind kind

pub kind_one : (kind : ℕ) → known_kind checker_kinds kind ≡ true → OneKind kind
kind_one kind e = go (eqb kind problem_kind) (eqb kind states_kind) refl refl e
  where
    go : (t v : Bool) → eqb kind problem_kind ≡ t → eqb kind states_kind ≡ v → (t || v) ≡ true → OneKind kind
    go true v f h e = OneKind.plain (eqb-true kind problem_kind f)
    go false true f h e = OneKind.stated (eqb-true kind states_kind h)
    go false false f h e = absurd (false≢true e)

pub one_asks : (kind : ℕ) → OneKind kind → eqb kind questions_kind ≡ false
one_asks kind (OneKind.plain k) = rw k refl
one_asks kind (OneKind.stated k) = rw k refl

-- The kinds that the converter knows.
pub kind_stored : (kind : ℕ) → known_kind converter_kinds kind ≡ true → (kind ≡ problem_kind) ⊎ (kind ≡ questions_kind)
kind_stored kind e = go (eqb kind problem_kind) (eqb kind questions_kind) refl refl e
  where
    go : (t u : Bool) → eqb kind problem_kind ≡ t → eqb kind questions_kind ≡ u → (t || (u || false)) ≡ true → (kind ≡ problem_kind) ⊎ (kind ≡ questions_kind)
    go true u f g e = inl (eqb-true kind problem_kind f)
    go false true f g e = inr (eqb-true kind questions_kind g)
    go false false f g e = absurd (false≢true e)

-- The one kind that the desk knows.
pub kind_plain : (kind : ℕ) → known_kind desk_kinds kind ≡ true → kind ≡ problem_kind
kind_plain kind e = go (eqb kind problem_kind) refl e
  where
    go : (t : Bool) → eqb kind problem_kind ≡ t → (t || false) ≡ true → kind ≡ problem_kind
    go true f e = eqb-true kind problem_kind f
    go false f e = absurd (false≢true e)

-- Where the leads start: behind ten bytes at least, and 136 at most.
pub leads_place_least : (kind m : ℕ) → KnownKind kind → problem_header ≤ leads_place kind m
leads_place_least kind m (plain k) = rw k (omega arith)
leads_place_least kind m (several k) = rw k (omega arith)
leads_place_least kind m (stated k) = rw k (omega arith)

pub leads_place_most : (kind m : ℕ) → m ≤ highest_m → KnownKind kind → leads_place kind m ≤ leads_latest
leads_place_most kind m h (plain k) = rw k (omega arith)
leads_place_most kind m h (several k) = rw k (omega arith)
leads_place_most kind m h (stated k) = rw k (omega arith)

-- A record of kind 3 that passes asks at most 8 questions, and one at least.
pub record Questions (s : List ℕ) (size : ℕ) : Type 0 where
  pub some : 0 < count_field s
  pub few : count_field s ≤ most_questions
  pub size_is : size ≡ questions_header + 2 * signed_bytes * (suc (n_field s) * (m_field s + count_field s))

pub few_questions : {kinds : Kinds} (s : List ℕ) (size : ℕ) → kind_field s ≡ questions_kind → HeaderPasses kinds s size → Questions s size
few_questions s size k h =
    let size_is : size ≡ questions_header + 2 * signed_bytes * (suc (n_field s) * (m_field s + count_field s)) = rw k at h.size_is in
    let long : leb questions_header size ≡ true = le-leb questions_header size (omega arith) in
    let right : (eqb (count_field s) 0 || ltb most_questions (count_field s)) ≡ false = rw (k, long) at h.count_right in
    let both = (or_false (eqb (count_field s) 0) (ltb most_questions (count_field s))).0 right in
    record {
      some = ⊎_elim (λ (z : count_field s ≡ 0). absurd (false≢true (sym both.0 ∙ eq-eqb (count_field s) 0 z))) (λ z. z) (eq-zero-or-pos (count_field s));
      few = ltb-false most_questions (count_field s) both.1;
      size_is = size_is;
    }

-- The size of a record of kind 1.
pub size_one : (kind n m count : ℕ) → kind ≡ problem_kind → record_size kind n m count ≡ problem_size n m
size_one kind n m count e = rw e (omega arith)
