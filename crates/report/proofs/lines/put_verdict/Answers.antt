-- `report::lines::put_verdict` meets its contract. Assumes nothing.
use mathlib.Core.Path.{sym, ap, ◌∙◌}
use native.Mathlib.Omega.{arith}
use Rattle.protocol.specs.Checks.{Fails}
use Rattle.protocol.specs.Session.{Judged}
use Rattle.shared.specs.Meanings.{check_of, verdict_meaning}
use Rattle.report.specs.ProofText.{answer_text}
use Rattle.report.proofs.PrintedLaws.{printed_as}
use Rattle.report.proofs.lines.put_verdict.Goals as goal

pub returns-in-Accept : goal.returns-in-Accept
unfolding answer_text
returns-in-Accept c =
    printed_as (sym (ap (λ v. answer_text (Judged (verdict_meaning v))) c.in-Accept.is))
    (record { written = c.put_bytes.ensures; short = omega arith })

pub returns-in-Row : goal.returns-in-Row
unfolding answer_text
returns-in-Row c =
    printed_as
    (sym
    (ap (λ v. answer_text (Judged (verdict_meaning v))) c.in-Fails.is
    ∙ ap (λ k. answer_text (Judged (Fails (check_of k)))) c.in-Row.is))
    (record { written = c.put_bytes-in-Row.ensures; short = omega arith })

pub returns-in-Line : goal.returns-in-Line
unfolding answer_text
returns-in-Line c =
    printed_as
    (sym
    (ap (λ v. answer_text (Judged (verdict_meaning v))) c.in-Fails.is
    ∙ ap (λ k. answer_text (Judged (Fails (check_of k)))) c.in-Line.is))
    (record { written = c.put_bytes-in-Line.ensures; short = omega arith })

pub returns-in-Matrix : goal.returns-in-Matrix
unfolding answer_text
returns-in-Matrix c =
    printed_as
    (sym
    (ap (λ v. answer_text (Judged (verdict_meaning v))) c.in-Fails.is
    ∙ ap (λ k. answer_text (Judged (Fails (check_of k)))) c.in-Matrix.is))
    (record { written = c.put_bytes-in-Matrix.ensures; short = omega arith })
