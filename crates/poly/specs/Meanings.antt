-- What the values of the declared types mean. Assumes nothing.
use Rattle.std.specs.Prelude.{ℕ}
use Rattle.algebra.specs.Polynomial as definitions
use Rattle.poly.specs.declared.Running.{Running}

-- the words of an evaluation under way
abbrev pub under_way : Running → definitions.Running ℕ
under_way r = definitions.running r.sum r.power
