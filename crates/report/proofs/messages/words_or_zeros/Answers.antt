-- `report::messages::words_or_zeros` meets its contract. Assumes nothing.
use mathlib.Core.Path.{sym, ap}
use Rattle.shared.specs.Meanings.{outcome_by, three}
use Rattle.report.specs.Stages.{three_or_zeros}
use Rattle.report.proofs.messages.words_or_zeros.Goals as goal

pub returns-in-Ok : goal.returns-in-Ok
returns-in-Ok g c refused = sym (ap (λ a. three_or_zeros (outcome_by refused three a)) c.in-Ok.is)

pub returns-in-Err : goal.returns-in-Err
returns-in-Err g c refused = sym (ap (λ a. three_or_zeros (outcome_by refused three a)) c.in-Err.is)
