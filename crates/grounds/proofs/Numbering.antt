-- Numbers in turn, with 0 behind them: those of a slice, and one more.
use Rattle.std.proofs.Common.{◌≡◌, ℕ, ◌+◌, ◌-◌, ◌≤◌, ◌<◌, List, ◌++◌, length, take, drop, replicate, sym, ap, ◌∙◌, arith, length-append, take-append-drop, length-take-le}
use Rattle.std.proofs.lemmas.List.{length-replicate, length-set, drop-replicate, drop-set-lt}
use Rattle.std.proofs.Math.Seq.{drop-append_seam, drop-append-add}
use lib.ListN.{set, length-drop}

-- Those of a slice that fits.
pub slice_placed :
    (N : ℕ) (numbers copied : List ℕ) → length numbers ≤ N → copied ≡ numbers
    → (length numbers ≤ N) × (length (copied ++ drop (length numbers) (replicate N 0)) ≡ N)
    × (drop (length numbers) (copied ++ drop (length numbers) (replicate N 0)) ≡ replicate (N - length numbers) 0)
slice_placed N numbers copied h e =
    let rest : List ℕ = drop (length numbers) (replicate N 0) in
    let long : length rest ≡ N - length numbers = length-drop (length numbers) (replicate {A = ℕ} N 0) ∙ ap (λ (k : ℕ). k - length numbers) (length-replicate N 0) in
    rw e (h, omega (arith, length-append numbers rest, long), drop-append_seam numbers rest ∙ drop-replicate (length numbers) N 0)

-- One more.
pub one_placed :
    (N count number : ℕ) (places : List ℕ) → (count ≤ N) × (length places ≡ N) × (drop count places ≡ replicate (N - count) 0) → length (take count places) < N
    → (count + 1 ≤ N) × (length (set places count number) ≡ N) × (drop (count + 1) (set places count number) ≡ replicate (N - (count + 1)) 0)
one_placed N count number places i h =
    let counted : length (take count places) ≡ count = length-take-le count places (omega (arith, i.0, i.1)) in
    let whole : take count places ++ replicate (N - count) 0 ≡ places = ap (λ (l : List ℕ). take count places ++ l) (sym i.2) ∙ take-append-drop count places in
    let behind : drop (length (take count places) + 1) (take count places ++ replicate (N - count) 0) ≡ drop 1 (replicate (N - count) 0) = drop-append-add (take count places) (replicate (N - count) 0) 1 in
    let fewer : N - count - 1 ≡ N - (count + 1) = omega arith in (
      omega (arith, counted, h),
      length-set places count number ∙ i.1,
      drop-set-lt (count + 1) places count number (omega arith) ∙ rw (counted, whole) at behind ∙ drop-replicate 1 (N - count) 0 ∙ ap (λ (k : ℕ). replicate k 0) fewer,
    )
