-- The floor of a number divided by d: the largest whole number whose d-fold is at most it.
use Rattle.std.specs.Prelude.{ℕ, ◌/◌, ℤ, pos, negsuc}
use Rattle.definitions.specs.Tropical.{Trop, bot, fin, plus}

-- Of a whole number: −1 divided by 2 has the floor −1.
unfoldable pub floor : ℕ → ℤ → ℤ
floor d (pos k) = pos (k / d)
floor d (negsuc k) = negsuc (k / d)

-- Of a tropical number: blank stays blank.
unfoldable pub floored : ℕ → Trop → Trop
floored d bot = bot
floored d (fin a) = fin (floor d a)

-- The floor after r is added.
abbrev pub rounded : ℕ → ℕ → Trop → Trop
rounded d r y = floored d (plus y (fin (pos r)))
