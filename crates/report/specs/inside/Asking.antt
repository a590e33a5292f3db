-- What the code reads of the arguments, or none where they are not what they are to be.
use Rattle.std.specs.Prelude.{ℕ, Option, Some, None}
use Rattle.report.specs.declared.command.Command.{Command}
use Rattle.report.specs.declared.command.Command.TheVariants.{Map, Usage}

-- a map of two numbers that were read
abbrev pub map_or_usage : Option (ℕ × ℕ) → Command
map_or_usage (Some (o, l)) = Map o l
map_or_usage None = Usage

-- what is asked
abbrev pub or_usage : Option Command → Command
or_usage (Some c) = c
or_usage None = Usage
