-- Reading into a record that the caller lends: what is left there, whatever it held before.
-- A refusal leaves count 0 and start values, in the first places what was stored before it, and every other place as it was. Where nothing
-- is refused, the first `count` places are the answer, and the others are as they were.
use Rattle.std.specs.Prelude.{ℕ, suc, ◌+◌, List, [], ◌∷◌, length, take, Err, Ok, Result}
use Rattle.text.specs.Lines.{lines_of}
use Rattle.lines.specs.Record.{most, at_line, over}
use Rattle.lines.specs.Line.{line_of}
use Rattle.lines.specs.declared.line.Said.TheVariants.{Nothing, Extent, Set}
use Rattle.lines.specs.declared.record.ReadExtent.{ReadExtent}
use Rattle.lines.specs.declared.record.Record.{Record}
use Rattle.lines.specs.declared.line.Said.{Said}
use Rattle.lines.specs.declared.record.Fault.{Fault}
use Rattle.descriptor.specs.Read.{before_lines, read_of}

-- what line k says, before what the lines after it say: nothing is stored from a refused line on
abbrev pub then_said : ℕ → Result Said Fault → List ReadExtent → List ReadExtent
then_said k (Ok Nothing) rest = rest
then_said k (Ok (Set s)) rest = rest
then_said k (Ok (Extent x)) rest = at_line k x ∷ rest
then_said k (Err n) rest = []

-- the extents that the lines from number k on say, in order, up to the first refused line; the first line lies at the place p of the descriptor
unfoldable pub said_before : ℕ → ℕ → List (List ℕ) → List ReadExtent
said_before k p [] = []
said_before k p (l ∷ ls) = then_said k (line_of p l) (said_before (suc k) (p + length l + 1) ls)

-- what reading stores: the extents that the lines say up to the first refused one, at most `most` of them; nothing where no line is read
unfoldable pub stored_of : List ℕ → List ReadExtent
stored_of t = before_lines t (λ n. []) (take most (said_before 1 0 (lines_of t)))

-- the record after reading: values and count as they are read (start values and 0 where the descriptor is refused), in the first places
-- what was stored, and every other place as it was
unfoldable pub read_into : List ℕ → Record → Record
read_into t r =
    record {
      desc = (read_of t).descriptor.desc;
      count = (read_of t).descriptor.count;
      extents = over (stored_of t) r.extents;
    }
