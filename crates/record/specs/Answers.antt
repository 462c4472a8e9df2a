-- What the reader answers (document 01, "Proof record"). Assumes nothing.
use Rattle.protocol.specs.Circuit.{Sizes}
use Rattle.protocol.specs.Refusals.{Outcome, Done, Refused}
use Rattle.protocol.specs.Record.{Contents}

-- what reading gives, without the sections: they are handed back by the section finder
abbrev pub sizes_found : Outcome Contents → Outcome Sizes
sizes_found (Done found) = Done found.sizes
sizes_found (Refused r) = Refused r
