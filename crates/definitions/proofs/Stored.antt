-- The converter's refusals are the engine's for the kinds that it takes. Document 02, 2.6.
use Prim.Native.Nat.{ℕ, zero, suc, ◌+◌, ◌≤◌, ◌<◌}
use mathlib.Core.Path.{◌≡◌, refl, sym, ◌∙◌}
use mathlib.Core.Bool.{Bool, true, false, not, cond}
use mathlib.Core.List.{List}
use mathlib.Core.Logic.{◌⊎◌, inl, inr, ⊎_elim}
use native.Mathlib.Omega.{arith}
use lib.Dec.{eqb, ltb}
use lib.ListN.{length}
use borrow.Author.Tests.{ne_eqb}
use Rattle.definitions.specs.Limits.{length_bytes, states_kind, problem_header, refused_length, refused_kind, refused_lead, refused_silent}
use Rattle.definitions.specs.Bytes.{num_at, some_below, or_else}
use Rattle.definitions.specs.ProblemRecord.{engine_kinds, converter_kinds, record_size, length_field, kind_field, n_field, m_field, count_field, known_kind, above_limits, wrong_count, wrong_state, header_refusal, header_judged, lead_refused, silent_refused, refusal_for, record_refusal}
use Rattle.definitions.specs.Conversion.{stored_refusal, RefusesAlike}

-- A header of another kind than 5 is refused alike.
header_alike : (s : List ℕ) (size : ℕ) → (kind_field s ≡ states_kind → ⊥) → header_refusal engine_kinds s size ≡ header_refusal converter_kinds s size
unfolding header_refusal header_judged
header_alike s size d = rw (ne_eqb (kind_field s) states_kind d) refl

-- A header's refusal behind 3, and a record's behind its header.
abbrev rest : Bool → Bool → Bool → ℕ
rest d e f = cond d 4 (cond e 15 (cond f 5 0))

abbrev last : Bool → Bool → Bool → ℕ
last g h i = cond g 20 (cond h 6 (cond i 17 0))

header_never_17 : (a b c d e f : Bool) → cond a 1 (cond b 2 (cond c 3 (rest d e f))) ≡ 17 → ⊥
header_never_17 true b c d e f z = omega arith
header_never_17 false true c d e f z = omega arith
header_never_17 false false true d e f z = omega arith
header_never_17 false false false true e f z = omega arith
header_never_17 false false false false true f z = omega arith
header_never_17 false false false false false true z = omega arith
header_never_17 false false false false false false z = omega arith

-- Behind 1 and 2 the engine gives none, or a number above 2.
behind : (d e f g h i : Bool) → (or_else (rest d e f) (last g h i) ≡ 0) ⊎ (2 < or_else (rest d e f) (last g h i))
behind true e f g h i = inr (omega arith)
behind false true f g h i = inr (omega arith)
behind false false true g h i = inr (omega arith)
behind false false false true h i = inr (omega arith)
behind false false false false true i = inr (omega arith)
behind false false false false false true = inr (omega arith)
behind false false false false false false = inl refl

both :
    (a b d e f g h i : Bool) →
    let stored : ℕ = cond a 1 (cond b 2 3) in let given : ℕ = or_else (cond a 1 (cond b 2 (rest d e f))) (last g h i) in
    (given ≤ 2 → 0 < given → stored ≡ given) × ((given ≡ 0) ⊎ (2 < given) → stored ≡ 3)
both true b d e f g h i = (λ x y. refl, λ z. absurd (⊎_elim (λ (y : 1 ≡ 0). omega arith) (λ (y : 2 < 1). omega arith) z))
both false true d e f g h i = (λ x y. refl, λ z. absurd (⊎_elim (λ (y : 2 ≡ 0). omega arith) (λ (y : 2 < 2). omega arith) z))
both false false d e f g h i = (λ x y. absurd (⊎_elim (λ (z : or_else (rest d e f) (last g h i) ≡ 0). omega arith) (λ (z : 2 < or_else (rest d e f) (last g h i)). omega arith) (behind d e f g h i)), λ z. refl)

-- By what the header, the leads and the left lists say.
module _ (s : List ℕ) (d : kind_field s ≡ states_kind → ⊥) where
  abbrev header : ℕ
  header = header_refusal converter_kinds s (length s)

  same : (record_refusal s ≡ refused_silent → ⊥) → stored_refusal s ≡ record_refusal s
  unfolding refusal_for stored_refusal
  same n = go header (lead_refused s) (silent_refused s) refl refl refl
    where
      go : (k : ℕ) (t u : Bool) → header ≡ k → lead_refused s ≡ t → silent_refused s ≡ u → stored_refusal s ≡ record_refusal s
      go (suc k) t u e f g = rw (header_alike s (length s) d, e) refl
      go zero true u e f g = rw (header_alike s (length s) d, e, ne_eqb (kind_field s) states_kind d, f) refl
      go zero false false e f g = rw (header_alike s (length s) d, e, ne_eqb (kind_field s) states_kind d, f, g) refl
      go zero false true e f g = absurd (n (rw (header_alike s (length s) d, e, ne_eqb (kind_field s) states_kind d, f, g) refl))

  -- Where the engine gives 17, header and leads are right.
  taken : record_refusal s ≡ refused_silent → stored_refusal s ≡ 0
  unfolding refusal_for stored_refusal header_refusal header_judged
  taken n = go header (lead_refused s) refl refl
    where
      go : (k : ℕ) (t : Bool) → header ≡ k → lead_refused s ≡ t → stored_refusal s ≡ 0
      go zero false e f = rw (e, f) refl
      go zero true e f = let six : record_refusal s ≡ refused_lead = rw (header_alike s (length s) d, e, ne_eqb (kind_field s) states_kind d, f) refl in absurd (omega arith)
      go (suc k) t e f =
          let first_is : record_refusal s ≡ suc k = rw (header_alike s (length s) d, e) refl in
          absurd (header_never_17 (ltb (length s) problem_header) (not (eqb (length_field s + length_bytes) (length s))) (not (known_kind converter_kinds (kind_field s)))
          (above_limits (n_field s) (m_field s)) (wrong_count (length s) (kind_field s) (count_field s)) (not (eqb (length s) (record_size (kind_field s) (n_field s) (m_field s) (count_field s))))
          (e ∙ sym first_is ∙ n))

-- Kind 5.
module _ (s : List ℕ) (k : kind_field s ≡ states_kind) where
  abbrev short : Bool
  short = ltb (length s) problem_header

  abbrev unlike : Bool
  unlike = not (eqb (length_field s + length_bytes) (length s))

  -- The converter's refusal, and the engine's.
  stored_is : stored_refusal s ≡ cond short 1 (cond unlike 2 3)
  unfolding stored_refusal header_refusal header_judged
  stored_is = go short unlike refl refl
    where
      go : (t u : Bool) → short ≡ t → unlike ≡ u → stored_refusal s ≡ cond short 1 (cond unlike 2 3)
      go true u e f = rw e refl
      go false true e f = rw (e, f) refl
      go false false e f = rw (e, f, k) refl

  abbrev outside : Bool
  outside = above_limits (n_field s) (m_field s)

  abbrev miscounted : Bool
  miscounted = wrong_count (length s) states_kind (count_field s)

  abbrev unfit : Bool
  unfit = not (eqb (length s) (record_size states_kind (n_field s) (m_field s) (count_field s)))

  abbrev stated : Bool
  stated = some_below (wrong_state s) (m_field s)

  engine_is : record_refusal s ≡ or_else (cond short 1 (cond unlike 2 (rest outside miscounted unfit))) (last stated (lead_refused s) (silent_refused s))
  unfolding refusal_for header_refusal header_judged
  engine_is = rw k refl

  not_taken : ((record_refusal s ≤ refused_length → 0 < record_refusal s → stored_refusal s ≡ record_refusal s)
      × ((record_refusal s ≡ 0) ⊎ (refused_length < record_refusal s) → stored_refusal s ≡ refused_kind))
  not_taken = rw (stored_is, engine_is) (both short unlike outside miscounted unfit stated (lead_refused s) (silent_refused s))

pub refuses_alike : RefusesAlike
unfolding stored_refusal header_refusal header_judged num_at
refuses_alike = record { as_the_engine = same; silent_taken = taken; states_not_taken = not_taken; no_bytes = refl }
