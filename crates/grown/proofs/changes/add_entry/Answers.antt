-- `grown::changes::add_entry` meets its contract. Assumes nothing.
use Rattle.std.proofs.Common.{sym, ap₂, ◌∙◌, ℕ, arith}
use Rattle.protocol.specs.Circuit.{Entry}
use Rattle.protocol.specs.Grown.{put_at, with_entry}
use Rattle.grown.proofs.ChangeLaws.{place_within, row-few, total-below, add_stops, add-taken, add_done}
use Rattle.grown.proofs.changes.add_entry.Goals as goal
use Rattle.grown.proofs.changes.add_entry.Goals.{Start}

-- the entry of the call
abbrev given : Start → Entry
given s = let a = s.args in record { row = a.row; column = a.column; value = a.value }

pub returns-in_err-judge_entry : goal.returns-in_err-judge_entry
returns-in_err-judge_entry c q e =
    let s = (goal.at.returns-in_err-judge_entry c).Start in
    add_stops q s.args.circuit.now s.args.matrix (given s) _ _ c.from_residual.ensures.1 (c.in_err-judge_entry.ensures.result_value q e)

pub returns-then-taken : goal.returns-then-taken
returns-then-taken c q e =
    let s = (goal.at.returns-then-taken c).Start in
    add-taken q s.args.circuit.now s.args.matrix (given s) (c.in_ok-judge_entry.ensures.result_value q e)
    (sym c.find_entry-taken.ensures.0 ∙ c.if-taken.true)

pub put_entry-requires : goal.put_entry-requires
put_entry-requires c =
    let a = c.args in
    let w = a.circuit.now in
    let there = c.in_ok-judge_entry.ensures.matrix_bound in
    let found = c.find_entry-taken.ensures.1 in
    record {
      circuit_len = omega arith;
      matrix_bound = (
        there.0,
        (total-below w a.matrix there.1.0, omega (arith, found.0, place_within w a.matrix a.row a.column)),
      );
      before_le_max_size = (omega (arith, found.1, row-few w a.matrix a.row), there.1.1);
    }

pub returns : goal.returns
unfolding with_entry
returns c q e =
    let s = (goal.at.returns c).Start in
    let w = s.args.circuit.now in
    let found = c.find_entry-taken.ensures in
    add_done q w s.args.matrix (given s) (c.in_ok-judge_entry.ensures.result_value q e) _ (sym found.0 ∙ c.if-taken.false)
    (c.put_entry.ensures ∙ ap₂ (λ (place before : ℕ). put_at w s.args.matrix place before (given s)) found.1.0 found.1.1)
