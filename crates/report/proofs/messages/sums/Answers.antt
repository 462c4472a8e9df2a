-- `report::messages::sums` meets its contract. Assumes nothing.
use mathlib.Core.Path.{◌∙◌}
use Rattle.shared.specs.Meanings.{refusal}
use Rattle.circuit.specs.Given.{input_words}
use Rattle.report.proofs.RoundResults.{second-done}
use Rattle.report.proofs.messages.sums.Goals as goal

pub returns : goal.returns
returns c =
    c.words_or_zeros.ensures refusal ∙ second-done (input_words c.args.input.now) c.args.alpha c.requires c.second_round.ensures
