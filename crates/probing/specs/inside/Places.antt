-- Probing from a place on, as the code's loop goes.
use Rattle.std.specs.Prelude.{ℕ, List, Bool}
use Rattle.text.specs.inside.Places.{lines_at}
use Rattle.probing.specs.Probe.{probe_lines}

-- probing the lines from a place on
unfoldable pub probe_at : List ℕ → ℕ → Bool
probe_at t at = probe_lines (lines_at t at)
