-- The release as one number, which headers and packages compare with their own.
use Rattle.std.specs.Prelude.{ℕ}

-- 4.2.0: 10,000 × 4 + 100 × 2 + 0.
abbrev pub release : ℕ
release = 40200
