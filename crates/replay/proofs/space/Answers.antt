-- `space` has as many bytes as it has zeros.
use Rattle.std.proofs.Common.{◌≡◌, ℕ, length, replicate, sym}
use lib.ListN.{length-replicate}
use Rattle.replay.proofs.space.Goals as goal

zeros_long : (n : ℕ) → n ≡ length {A = ℕ} (replicate n 0)
zeros_long n = sym (length-replicate n 0)

pub returns : goal.returns
returns c = zeros_long 2102000
