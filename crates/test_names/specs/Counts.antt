-- How many names a table has after a spelling.
use Rattle.std.specs.Prelude.{ℕ, ◌+◌}
use Rattle.names.specs.declared.Spelled.{Spelled}
use Rattle.names.specs.declared.Spelled.TheVariants.{Known, New, Full}

-- only a new name makes one more
unfoldable pub count_after : ℕ → Spelled → ℕ
count_after named (Known n) = named
count_after named (New n) = named + 1
count_after named Full = named
