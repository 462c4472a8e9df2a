-- `sheet_lines::circuits::read_line` meets its contract. Assumes nothing.
use Rattle.std.proofs.Common.{sym, ap, ◌∙◌}
use Rattle.std.specs.Prelude.{Some, None, Ok}
use Rattle.std.proofs.lemmas.Result.{err_from_is_err_and}
use Rattle.sheet_lines.specs.Lines.{circuit_line}
use Rattle.sheet_lines.specs.Meanings.{given, found_line}
use Rattle.sheet_lines.proofs.CircuitLaws.{line_read}
use Rattle.sheet_lines.proofs.circuits.read_line.Goals as goal

pub returns-in_err-read : goal.returns-in_err-read
returns-in_err-read c =
    let p = err_from_is_err_and c.from_residual.result c.from_residual.ensures.1 in
    rw (p.1, p.2) (line_read c.args.line.now _ c.in_err-read.ensures)

pub returns-in_err-judge : goal.returns-in_err-judge
returns-in_err-judge c =
    let p = err_from_is_err_and c.from_residual-in_err-judge.result c.from_residual-in_err-judge.ensures.1 in
    rw (p.1, p.2)
    (ap (circuit_line (given c.in-Some.request)) c.in_err-judge.ensures
    ∙ line_read c.args.line.now (Ok (Some c.in-Some.request)) (ap Ok (sym c.in-Some.is) ∙ c.in_ok-read.ensures))

pub returns-in_ok-judge : goal.returns-in_ok-judge
returns-in_ok-judge c =
    ap (circuit_line (given c.in-Some.request)) c.in_ok-judge.ensures
    ∙ line_read c.args.line.now (Ok (Some c.in-Some.request)) (ap Ok (sym c.in-Some.is) ∙ c.in_ok-read.ensures)

pub returns-in_default : goal.returns-in_default
returns-in_default c =
    ap (λ o. found_line (Ok o)) c.in_default.is
    ∙ line_read c.args.line.now (Ok None) (ap Ok (sym c.in_default.is) ∙ c.in_ok-read.ensures)
