-- `report::lines::put_answer` meets its contract. Assumes nothing.
use mathlib.Core.Path.{sym, ap}
use Rattle.verifier.specs.Session.{openings_answer_meaning}
use Rattle.report.specs.ProofText.{answer_text}
use Rattle.report.proofs.PrintedLaws.{printed_as}
use Rattle.report.proofs.lines.put_answer.Goals as goal

pub returns-in-Ok : goal.returns-in-Ok
returns-in-Ok c =
    printed_as (sym (ap (λ a. answer_text (openings_answer_meaning a)) c.in-Ok.is)) c.put_verdict.ensures

pub returns-in-Err : goal.returns-in-Err
unfolding answer_text
returns-in-Err c =
    printed_as (sym (ap (λ a. answer_text (openings_answer_meaning a)) c.in-Err.is)) c.put_refused.ensures
