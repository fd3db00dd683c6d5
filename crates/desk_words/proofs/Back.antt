-- A front and a place that were stored as words read back, and the other places stay.
use Prim.Native.Nat.{ℕ, zero, suc, ◌+◌, ◌*◌, ◌≤◌, ◌<◌}
use mathlib.Core.Path.{◌≡◌, refl, sym, ap, subst, ◌∙◌}
use mathlib.Core.Bool.{true}
use mathlib.Core.Logic.{⊎_elim}
use mathlib.Core.List.{List, ◌++◌}
use native.Mathlib.Omega.{arith}
use native.Mathlib.Decide.{ℕ_discrete}
use borrow.Rule.Slice.PartMut.{put_mid}
use lib.ListN.{length, get_or, set, take, drop, replicate, length-set, length-drop, length-replicate, get_or-replicate}
use lib.Seq.{take-length, ext_get_or, get_or-drop, get_or-set_same, get_or-set_other}
use lib.Dec.{ltb}
use borrow.Author.Tests.{ltb-true}
use Rattle.base.proofs.Numbers.{nat_le_or_lt}
use Rattle.std.specs.Prelude.{Option, Some, None}
use Rattle.std.specs.Array.{IsFromFnResult, IsFromFnResultFrom}
use Rattle.std.specs.Fn.{Called}
use denote.Param.Members.{Mut}
use Rattle.definitions.specs.Limits.{desk_places, stride}
use Rattle.definitions.specs.Bytes.{put}
use Rattle.definitions.specs.Questions.{part}
use Rattle.definitions.proofs.Put.{length_put, put_nil, put_put, put_more, get_d_put_after}
use Rattle.definitions.proofs.Questions.{part_length, part_at}
use Rattle.records.specs.declared.class.Class.{Class}
use Rattle.search.proofs.Underway.{class_back}
use Rattle.engine.specs.OneTrial.{class_in}
use Rattle.desk.specs.declared.state.Place.{Place}
use Rattle.desk.specs.declared.state.Front.{Front}
use Rattle.desk.specs.State.{Desk, desk_of, no_place, place_in, Finds}
use Rattle.desk.proofs.Kept.{copied_put, part_put, part_before, part_after}
use Rattle.desk_words.specs.Words.{place_words_is, front_words_is, desk_words, place_words, place_of, place_from, front_words, PutAt, places_from, places_in, front_from, desk_from, told_in, seated_in, DeskPut, class_place, ClassTold, ClassPut}

-- ---- runs

-- An array made element by element, by a closure that keeps what it captured, holds what the closure gives.
made_from : {F : Type 0} (g : Mut F (ℕ × Unit {0}) ℕ) (h : ℕ → ℕ) (f : F) (ys : List ℕ) (a n : ℕ) → ((i y : ℕ) (q : F) → Called g f (i, tt) y q → (q ≡ f) × (y ≡ h i))
    → IsFromFnResultFrom g f ys a n → (k : ℕ) → a ≤ k → k < a + n → get_or ys k 0 ≡ h k
made_from g h f ys a zero keeps each k low high = absurd (omega arith)
made_from {F} g h f ys a (suc n) keeps (q, y, is, called, rest) k low high =
    let kept = keeps a y q called in
    ⊎_elim
    (λ (l : a + 1 ≤ k). made_from g h f ys (a + 1) n keeps (subst (λ (x : F). IsFromFnResultFrom g x ys (a + 1) n) kept.0 rest) k l (omega arith))
    (λ (l : k < a + 1). let s : a ≡ k = omega arith in subst (λ (j : ℕ). get_or ys j 0 ≡ h j) s (is.1 0 ∙ kept.1))
    (nat_le_or_lt (a + 1) k)

-- Made of a run it is the run.
pub is_part : {F : Type 0} (g : Mut F (ℕ × Unit {0}) ℕ) (f : F) (out words : List ℕ) (at n : ℕ) → ((i y : ℕ) (q : F) → Called g f (i, tt) y q → (q ≡ f) × (y ≡ get_or words (at + i) 0))
    → at + n ≤ length words → IsFromFnResult g f out n → out ≡ part words at n
is_part g f out words at n keeps h made =
    let long = made.long in
    ext_get_or 0 out (part words at n) (long ∙ sym (part_length words at n h))
    (λ k l. made_from g (λ i. get_or words (at + i) 0) f out 0 n keeps made.each k (omega arith) (omega arith) ∙ sym (part_at words at n k (omega arith)))

-- What a run holds at a numeral, and from there on.
pub number_at : (words : List ℕ) (at n k : ℕ) → ltb k n ≡ true → get_or (part words at n) k 0 ≡ get_or words (at + k) 0
number_at words at n k h = part_at words at n k (omega (arith, ltb-true))

pub part_rest : (words : List ℕ) (at n m : ℕ) → at + (n + m) ≤ length words → part words (at + n) m ≡ drop n (part words at (n + m))
part_rest words at n m h =
    let whole = part_length words at (n + m) h in
    let rest = part_length words (at + n) m (omega arith) in
    ext_get_or 0 (part words (at + n) m) (drop n (part words at (n + m))) (rest ∙ sym (length-drop n (part words at (n + m)) ∙ omega arith))
    (λ k l.
    let e : at + n + k ≡ at + (n + k) = omega arith in
    part_at words (at + n) m k (omega arith) ∙ rw (e, get_or-drop, part_at words at (n + m) (n + k) (omega arith)) refl)

-- Numbers that are copied are put.
pub copied : {l part : List ℕ} {at n : ℕ} (vs : List ℕ) → at + length vs ≤ length l → n ≡ length vs → part ≡ vs → PutAt l at vs (put_mid at n l part)
copied {l} {at = at} {n} vs h e is = let same = copied_put l at n vs e in rw is (record { same = ap length same ∙ length_put l at vs (omega arith) h; is = same })

-- The first j of a run are put.
pub record Putting (before : List ℕ) (at : ℕ) (run : List ℕ) (j : ℕ) (after : List ℕ) : Type 0 where
  pub is : after ≡ put before at (take j run)
  pub same : length after ≡ length before

pub putting_none : (before : List ℕ) (at : ℕ) (run : List ℕ) → Putting before at run 0 before
putting_none before at run = record { is = sym (put_nil before at); same = refl }

pub putting_more : {words before after a run : List ℕ} {first at j v : ℕ} → PutAt words first a before → at + length run ≤ length words → j < length run → v ≡ get_or run j 0 → Putting before at run j after
    → Putting before at run (j + 1) (set after (at + j) v)
putting_more {before = before} {after} {run = run} {at = at} {j} {v} p h l e c = record {
  is = rw (e, c.is) (put_more before at run j l (omega (arith, p.same)));
  same = length-set after (at + j) v ∙ c.same;
}

pub putting_all : {before after run : List ℕ} {at j : ℕ} → j ≡ length run → Putting before at run j after → PutAt before at run after
putting_all {before} {after} {run} {at} e c = record { same = c.same; is = c.is ∙ ap (λ (z : List ℕ). put before at z) (rw e (take-length run)) }

-- Runs put one after another.
pub put_two : {l x y : List ℕ} {at n : ℕ} (a b : List ℕ) → at + length a ≤ length l → n ≡ at + length a → PutAt l at a x → PutAt x n b y → PutAt l at (a ++ b) y
put_two {l} {x} {y} {at} {n} a b h e p q = record {
  same = q.same ∙ p.same;
  is = q.is ∙ ap (λ (z : List ℕ). put z n b) p.is ∙ put_put l at a n b (omega arith) e;
}

-- ---- the places

from_length : (words : List ℕ) (at n : ℕ) → length (places_from words at n) ≡ n
unfolding places_from
from_length words at zero = refl
from_length words at (suc n) = ap suc (from_length words (at + place_words_is) n)

from_at : (words : List ℕ) (at n k : ℕ) → k < n → get_or (places_from words at n) k no_place ≡ place_from words (at + k * place_words_is)
unfolding places_from
from_at words at zero k h = absurd (omega arith)
from_at words at (suc n) zero h = let e : at ≡ at + 0 * place_words_is = omega arith in ap (place_from words) e
from_at words at (suc n) (suc k) h =
    let e : at + place_words_is + k * place_words_is ≡ at + suc k * place_words_is = omega arith in
    from_at words (at + place_words_is) n k (omega arith) ∙ ap (place_from words) e

-- What stands at a place, and its ticket.
pub place_in_lem : (words : List ℕ) (k : ℕ) → k < desk_places → place_in (desk_from words) k ≡ place_from words (front_words_is + k * place_words_is)
place_in_lem words k h = from_at words front_words_is desk_places k h

pub ticket_in : (words : List ℕ) (k : ℕ) → k < desk_places → (place_in (desk_from words) k).ticket ≡ get_or words (front_words_is + k * place_words_is) 0
ticket_in words k h =
    let e : front_words_is + k * place_words_is + 0 ≡ front_words_is + k * place_words_is = omega arith in
    ap (λ (z : Place). z.ticket) (place_in_lem words k h) ∙ part_at words (front_words_is + k * place_words_is) place_words_is 0 (omega arith) ∙ rw e refl

-- None of the first i places has the ticket.
pub record Passed (words : List ℕ) (ticket i : ℕ) : Type 0 where
  pub before : (k : ℕ) → k < i → (place_in (desk_from words) k).ticket ≡ ticket → ⊥

pub passed_none : (words : List ℕ) (ticket : ℕ) → Passed words ticket 0
passed_none words ticket = record { before = λ k h. absurd (omega arith) }

pub passed_more : {words : List ℕ} {ticket i : ℕ} → Passed words ticket i → i < desk_places → (get_or words (front_words_is + i * place_words_is) 0 ≡ ticket → ⊥) → Passed words ticket (i + 1)
passed_more {words} {ticket} {i} p h n = record {
  before = λ k b e. ⊎_elim
      (λ (g : i ≤ k). let same : k ≡ i = omega arith in n (sym (ticket_in words i h) ∙ subst (λ (z : ℕ). (place_in (desk_from words) z).ticket ≡ ticket) same e))
      (λ (g : k < i). p.before k g e)
      (nat_le_or_lt i k);
}

-- The first that has it, or none.
pub passed_found : {words : List ℕ} {ticket i : ℕ} → Passed words ticket i → i < desk_places → get_or words (front_words_is + i * place_words_is) 0 ≡ ticket → Finds (desk_from words) ticket (Some i)
passed_found {words} {ticket} {i} p h e = record {
  found = λ k f. let same : i ≡ k = cc in rw (← same) (record { inside = h; here = ticket_in words i h ∙ e; before = p.before });
  nowhere = λ f. absurd cc;
}

pub passed_all : {words : List ℕ} {ticket i : ℕ} → Passed words ticket i → desk_places ≤ i → Finds (desk_from words) ticket None
passed_all p h = record { found = λ k f. absurd cc; nowhere = λ f k b. p.before k (omega arith) }

-- Places are those of a list where each of them is.
places_are : (words : List ℕ) (places : List Place) → length places ≡ desk_places → ((k : ℕ) → k < desk_places → place_in (desk_from words) k ≡ get_or places k no_place) → places_in words ≡ places
places_are words places size each = let long = from_length words front_words_is desk_places in ext_get_or no_place (places_in words) places (long ∙ sym size) (λ k h. each k (omega arith))

-- The place that the words of one are.
place_back : (p : Place) → place_of (place_words p) ≡ p
place_back p = ap (λ (c : Option Class). record {
  ticket = p.ticket;
  size = p.size;
  pending = record { n = p.pending.n; m = p.pending.m; search = record { made = p.pending.search.made; bracket = p.pending.search.bracket; class = c }; kept = p.pending.kept };
}) (class_back p.pending.search.class)

-- ---- front and one place stored

module _ (f : Front) (told at : ℕ) (p : Place) (before between after : List ℕ) (long : desk_words ≤ length before) (inside : at < desk_places) (line_size : length f.line ≡ desk_places)
    (cells_size : length p.pending.kept.picks ≡ stride) (a : PutAt before 0 (front_words f told) between) (c : PutAt between (front_words_is + at * place_words_is) (place_words p) after) where
  room : front_words_is + at * place_words_is + length (place_words p) ≤ length between
  room = omega (arith, a.same)

  old : (k : ℕ) → part between (front_words_is + k * place_words_is) place_words_is ≡ part before (front_words_is + k * place_words_is) place_words_is
  old k = rw a.is (part_after before 0 (front_words f told) (omega arith) (front_words_is + k * place_words_is) place_words_is (omega arith))

  front : part after 0 front_words_is ≡ front_words f told
  front = rw c.is (part_before between (front_words_is + at * place_words_is) (place_words p) room 0 front_words_is (omega arith)
      ∙ rw a.is (part_put before 0 (front_words f told) (omega arith) front_words_is (omega arith)))

  here : part after (front_words_is + at * place_words_is) place_words_is ≡ place_words p
  here = rw c.is (part_put between (front_words_is + at * place_words_is) (place_words p) room place_words_is (omega arith))

  there : (k : ℕ) → (k ≡ at → ⊥) → part after (front_words_is + k * place_words_is) place_words_is ≡ part before (front_words_is + k * place_words_is) place_words_is
  there k n = rw c.is (⊎_elim
      (λ (g : suc at ≤ k). part_after between (front_words_is + at * place_words_is) (place_words p) room (front_words_is + k * place_words_is) place_words_is (omega arith))
      (λ (g : k < suc at). part_before between (front_words_is + at * place_words_is) (place_words p) room (front_words_is + k * place_words_is) place_words_is (omega arith))
      (nat_le_or_lt (suc at) k) ∙ old k)

  each : (k : ℕ) → k < desk_places → Dec (k ≡ at) → place_in (desk_from after) k ≡ get_or (set (places_in before) at p) k no_place
  each k h (yes e) = let size = from_length before front_words_is desk_places in rw e (place_in_lem after at inside ∙ rw (here, get_or-set_same (places_in before) at p no_place (omega arith)) (place_back p))
  each k h (no n) = place_in_lem after k h ∙ rw (there k n, get_or-set_other (places_in before) at k p no_place n) (sym (place_in_lem before k h))

  pub front_put : DeskPut (seated_in before f at p) told before after
  front_put = record {
    same = c.same ∙ a.same;
    back = rw (front, places_are after (set (places_in before) at p) (length-set (places_in before) at p ∙ from_length before front_words_is desk_places) (λ k h. each k h (ℕ_discrete k at))) refl;
    told_is = sym (part_at after 0 front_words_is 3 (omega arith)) ∙ rw front refl;
    behind = λ k h.
        rw (c.is, get_d_put_after between (front_words_is + at * place_words_is) (place_words p) (omega (arith, room)) k (omega arith), a.is)
        (get_d_put_after before 0 (front_words f told) (omega arith) k (omega arith));
  }

  pub class_put : ClassPut at before after
  class_put = record {
    here =
        let seated : place_in (desk_from after) at ≡ p = place_in_lem after at inside ∙ rw here (place_back p) in
        let word : get_or after (class_place at) 0 ≡ class_in p.pending =
        sym (part_at after (front_words_is + at * place_words_is) place_words_is 5 (omega arith)) ∙ rw here refl in
        word ∙ ap (λ (c : Place). class_in c.pending) (sym seated);
    there = λ k h n.
        sym (part_at after (front_words_is + k * place_words_is) place_words_is 5 (omega arith)) ∙ ap (λ (l : List ℕ). get_or l 5 0) (there k n)
        ∙ part_at before (front_words_is + k * place_words_is) place_words_is 5 (omega arith);
  }

-- ---- every place the same

-- The first i places are stored.
pub record AllPut (f : Front) (p : Place) (before : List ℕ) (i : ℕ) (after : List ℕ) : Type 0 where
  pub inside : i ≤ desk_places
  pub same : length after ≡ length before
  pub front_is : 0 < i → front_from after ≡ f
  pub told_is : 0 < i → told_in after ≡ 0
  pub each : (k : ℕ) → k < i → place_in (desk_from after) k ≡ p
  pub classes : (k : ℕ) → k < i → ClassTold after k
  pub behind : (k : ℕ) → desk_words ≤ k → get_or after k 0 ≡ get_or before k 0

pub all_none : (f : Front) (p : Place) (before : List ℕ) → AllPut f p before 0 before
all_none f p before = record { inside = omega arith; same = refl; front_is = λ h. absurd (omega arith); told_is = λ h. absurd (omega arith); each = λ k h. absurd (omega arith); classes = λ k h. absurd (omega arith); behind = λ k h. refl }

module _ {f : Front} {p : Place} {before after : List ℕ} {i : ℕ} (g : AllPut f p before i after) where
  pub all_more : {after' : List ℕ} → i < desk_places → DeskPut (seated_in after f i p) 0 after after' → ClassPut i after after' → AllPut f p before (i + 1) after'
  all_more {after'} h d c = record {
    inside = omega arith;
    same = d.same ∙ g.same;
    front_is = λ _. ap (λ (z : Desk). z.front) d.back;
    told_is = λ _. d.told_is;
    each = each;
    classes = λ k l. told k l (ℕ_discrete k i);
    behind = λ k l. d.behind k l ∙ g.behind k l;
  }
    where
      at : (k : ℕ) → k < i + 1 → Dec (k ≡ i) → get_or (set (places_in after) i p) k no_place ≡ p
      at k l (yes e) = rw e (get_or-set_same (places_in after) i p no_place (omega (arith, from_length after front_words_is desk_places)))
      at k l (no n) = get_or-set_other (places_in after) i k p no_place n ∙ g.each k (omega arith)

      each : (k : ℕ) → k < i + 1 → place_in (desk_from after') k ≡ p
      each k l = ap (λ (z : Desk). place_in z k) d.back ∙ at k l (ℕ_discrete k i)

      told : (k : ℕ) → k < i + 1 → Dec (k ≡ i) → ClassTold after' k
      told k l (yes e) = rw e c.here
      told k l (no n) =
          c.there k (omega arith) n ∙ g.classes k (omega arith) ∙ ap (λ (z : Place). class_in z.pending) (g.each k (omega arith) ∙ sym (each k l))

  pub all_end : desk_places ≤ i → DeskPut (desk_of f (replicate desk_places p)) 0 before after
  all_end h = record {
    same = g.same;
    back = rw (g.front_is (omega arith), places_are after (replicate desk_places p) (length-replicate {A = Place} desk_places p) (λ k l. g.each k (omega arith) ∙ sym (get_or-replicate {A = Place} desk_places k p no_place l))) refl;
    told_is = g.told_is (omega arith);
    behind = g.behind;
  }

  pub all_told : desk_places ≤ i → (k : ℕ) → k < desk_places → ClassTold after k
  all_told h k l = g.classes k (omega arith)
