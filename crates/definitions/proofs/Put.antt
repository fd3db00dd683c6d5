-- Laws of `put`, the list with values put from a place on. Everything that is said of a written buffer goes through these.
use Prim.Native.Nat.{ℕ, suc, ◌+◌, ◌-◌, ◌≤◌, ◌<◌}
use mathlib.Core.Path.{◌≡◌, refl, sym, subst, ◌∙◌}
use mathlib.Core.List.{List, [], ◌∷◌, ◌++◌, append_assoc, append-nil}
use native.Mathlib.Omega.{arith}
use native.Mathlib.Nat.{add-zero, zero-add}
use native.Mathlib.Numerals.{add-one}
use lib.ListN.{length, get_or, set, take, drop, length-append, length-drop, take-append-drop}
use lib.Seq.{length-take-le, take-suc, take_at, drop-append-add, drop-drop, set_split, get_or-drop, take-length, drop-length}
use Rattle.definitions.specs.Bytes.{put}

-- Nothing put changes nothing.
pub put_nil : (l : List ℕ) (at : ℕ) → put l at [] ≡ l
unfolding put
put_nil l at = rw (add-zero, take-append-drop)

-- A store puts one value.
pub put_one : (l : List ℕ) (at x : ℕ) → at < length l → set l at x ≡ put l at (x ∷ [])
unfolding put
put_one l at x h = rw (set_split l at x h, add-one)

-- The list is: what stood before, then the values, then the rest.
pub put_split : (l : List ℕ) (at : ℕ) (vs : List ℕ) → put l at vs ≡ (take at l ++ vs) ++ drop (at + length vs) l
unfolding put
put_split l at vs = rw append_assoc

-- What comes after n elements of two lists, where the first has m and ends before them.
drop_past : (p q : List ℕ) (m n : ℕ) → length p ≡ m → m ≤ n → drop n (p ++ q) ≡ drop (n - m) q
drop_past p q m n e h =
    let f : length p + (n - m) ≡ n = omega arith in
    subst (λ (k : ℕ). drop k (p ++ q) ≡ drop (n - m) q) f (drop-append-add p q (n - m))

module _ (l : List ℕ) (at : ℕ) (vs : List ℕ) (inside : at ≤ length l) where
  -- The length up to the end of the values.
  front_length : length (take at l ++ vs) ≡ at + length vs
  front_length = rw (length-append, length-take-le at l inside)

  -- What stands up to the end of the values.
  pub take_put : take (at + length vs) (put l at vs) ≡ take at l ++ vs
  take_put = rw put_split (take_at (take at l ++ vs) (drop (at + length vs) l) (at + length vs) front_length)

  -- What stands from the end of the values on is as it was.
  pub drop_put : (n : ℕ) → at + length vs ≤ n → drop n (put l at vs) ≡ drop n l
  drop_put n h =
      let e : (at + length vs) + (n - (at + length vs)) ≡ n = omega arith in
      rw put_split (drop_past (take at l ++ vs) (drop (at + length vs) l) (at + length vs) n front_length h ∙ rw (drop-drop, e))

  -- The length stays where the values fit.
  pub length_put : at + length vs ≤ length l → length (put l at vs) ≡ length l
  length_put h = rw (put_split, length-append, front_length, length-drop) (omega arith)

  -- An element after the values is as it was.
  pub get_d_put_after : (i : ℕ) → at + length vs ≤ i → get_or (put l at vs) i 0 ≡ get_or l i 0
  get_d_put_after i h =
      let same : get_or (drop i (put l at vs)) 0 0 ≡ get_or (drop i l) 0 0 = rw (drop_put i h) in
      simp (get_or-drop, add-zero) at same

-- Values put right after others are put with them.
pub put_put : (l : List ℕ) (at : ℕ) (a : List ℕ) (n : ℕ) (b : List ℕ) → at ≤ length l → n ≡ at + length a → put (put l at a) n b ≡ put l at (a ++ b)
unfolding put
put_put l at a n b h e =
    let f : at + length (a ++ b) ≡ n + length b = rw length-append (omega arith) in
    let front : take n (put l at a) ≡ take at l ++ a = rw e (take_put l at a h) in
    let rest : drop (n + length b) (put l at a) ≡ drop (n + length b) l = drop_put l at a h (n + length b) (omega arith) in
    rw (f, front, rest) (simp append_assoc)

-- One more of some values, stored right after those that were put.
pub put_more : (l : List ℕ) (at : ℕ) (vs : List ℕ) (i : ℕ) → i < length vs → at + i < length l → set (put l at (take i vs)) (at + i) (get_or vs i 0) ≡ put l at (take (i + 1) vs)
put_more l at vs i h g =
    let long = length-take-le i vs (omega arith) in
    let room = length_put l at (take i vs) (omega arith) (omega arith) in
    let next : i + 1 ≡ suc i = omega arith in
    put_one (put l at (take i vs)) (at + i) (get_or vs i 0) (omega arith) ∙ put_put l at (take i vs) (at + i) (get_or vs i 0 ∷ []) (omega arith) (omega arith)
    ∙ rw (next, take-suc vs i 0 h)

-- Values put at the start of the part from a place on, and the part put back there: the values are put at that place.
pub put_part : (l : List ℕ) (at : ℕ) (vs : List ℕ) → at ≤ length l
    → take at l ++ (put (take (length l - at) (drop at l)) 0 vs ++ drop (length l - at) (drop at l)) ≡ put l at vs
unfolding put
put_part l at vs h =
    let size : length l - at ≡ length (drop at l) = sym (length-drop at l) in
    let whole : take (length l - at) (drop at l) ≡ drop at l = rw size (take-length (drop at l)) in
    let none : drop (length l - at) (drop at l) ≡ [] = rw size (drop-length (drop at l)) in
    rw (whole, none, append-nil, zero-add, drop-drop) refl

-- Values put at the start stand in front.
pub put_front : (l vs : List ℕ) → put l 0 vs ≡ vs ++ drop (length vs) l
unfolding put
put_front l vs = rw zero-add refl
