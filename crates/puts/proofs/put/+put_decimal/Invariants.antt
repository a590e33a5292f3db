-- The measure of `put_decimal` is the number, which falls to its tens.
use Rattle.puts.proofs.put.+put_decimal.Given as goal

abbrev pub decreases-put_decimal : goal.decreases-put_decimal
decreases-put_decimal l = l.n
