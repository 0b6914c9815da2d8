-- Numbers that are drawn one after the other, each from a state.
use Rattle.std.specs.Prelude.{ℕ, zero, suc, ◌+◌, ◌*◌, ◌/◌, ◌%◌}

-- the next state
unfoldable pub next : ℕ → ℕ
next z = (1103515245 * z + 12345) % 2147483648

-- the number below k that is drawn with a state
unfoldable pub drawn : ℕ → ℕ → ℕ
drawn z k = z / 65536 % k

-- the state after so many draws
abbrev pub after : ℕ → ℕ → ℕ
after zero z = z
after (suc count) z = after count (next z)
