-- Parts of a list that were written whole: what `list[base..base + count]` holds after a copy or a fill.
use Rattle.std.proofs.Common.{◌≡◌, ℕ, ◌+◌, ◌≤◌, ◌<◌, ◌-◌, List, ◌++◌, length, get_or, take, drop, replicate, refl, ◌∙◌, arith, length-append, length-take-le, length-drop}
use Rattle.std.proofs.lemmas.List.{get_or-append_right, get_or_append_left, get_or-take, get_or-drop, get_or-replicate, length-replicate}
use borrow.Rule.Slice.PartMut.{put_mid}
use Rattle.base.specs.Filled.{FilledFrom}

-- `count` elements from `base` on are the new part's, where it has so many.
pub run_copied : {f : ℕ → ℕ} {base count k : ℕ} (old part : List ℕ) → k ≡ count → length part ≡ count → base + count ≤ length old → ((l : ℕ) → l < count → get_or part l 0 ≡ f l)
    → FilledFrom f base count old (put_mid base k old part)
run_copied {f} {base} {count} {k} old part d e h g =
    let front : length (take base old) ≡ base = length-take-le base old (omega arith) in
    record {
      same = rw (length-append (take base old) (part ++ drop k (drop base old)), length-append part (drop k (drop base old)), front, length-drop k (drop base old), length-drop base old, e) (omega arith);
      before = λ i l. get_or_append_left (take base old) (part ++ drop k (drop base old)) 0 i (rw front l) ∙ get_or-take base old i 0 l;
      cells = λ i l. get_or-append_right (take base old) (part ++ drop k (drop base old)) base (base + i) 0 front (omega arith) ∙ (let same : base + i - base ≡ i = omega arith in rw same refl) ∙ get_or_append_left part (drop k (drop base old)) 0 i (rw e l) ∙ g i l;
      after = λ i l.
          get_or-append_right (take base old) (part ++ drop k (drop base old)) base i 0 front (omega arith)
          ∙ get_or-append_right part (drop k (drop base old)) count (i - base) 0 e (omega arith)
          ∙ get_or-drop k (drop base old) (i - base - count) 0
          ∙ get_or-drop base old (k + (i - base - count)) 0
          ∙ (let same : base + (k + (i - base - count)) ≡ i = omega arith in rw same refl);
    }

-- `count` elements from `base` on are one value.
pub run_filled : {base count k n v : ℕ} (old : List ℕ) {part : List ℕ} → part ≡ replicate n v → n ≡ count → k ≡ count → base + count ≤ length old → FilledFrom (λ _. v) base count old (put_mid base k old part)
run_filled {count = count} {n = n} {v} old {part} r e d h =
    run_copied old part d (rw r (length-replicate n v ∙ e)) h (λ l b. rw r (get_or-replicate n l v 0 (omega arith)))
