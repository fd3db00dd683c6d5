use Rattle.std.proofs.Common.{◌≡◌, ℕ, ◌≤◌, List, ◌-◌, length, take, drop, replicate, length-drop, length-take-le, ◌∙◌, arith}
use borrow.Rule.Slice.PartMut.{put_mid}
use Rattle.base.specs.Filled.{FilledFrom}
use Rattle.base.proofs.Copied.{run_filled}
use Rattle.problem_records.proofs.Tables.{tabled_past}
use Rattle.problem_records.proofs.reader.read_tables.Goals as goal

-- What is left of a table behind some elements is 0.
left_over :
    (s : List ℕ) {at k used : ℕ} {part : List ℕ} → length s ≡ 2048 → used ≤ 2048 → part ≡ replicate (length (take k (drop at s))) 0 → at ≡ used → k ≡ 2048 - used
    → FilledFrom (λ _. 0) used (2048 - used) s (put_mid at k s part)
left_over s {at} {k} e h r p q =
    let long : length (take k (drop at s)) ≡ k = length-take-le k (drop at s) (rw (length-drop at s) (omega arith)) in
    rw p (run_filled s r (long ∙ q) q (omega arith))

pub returns : goal.returns
returns c = let t = c.read_rows.ensures in
    tabled_past t
    (left_over c.read_rows.new.left t.left_size (omega arith) (c.fill.ensures.after (λ y e. e)) (omega arith) (omega arith))
    (left_over c.read_rows.new.right t.right_size (omega arith) (c.fill-2.ensures.after (λ y e. e)) (omega arith) (omega arith))
