-- `record_writer::judging::shape_fault` meets its contract: the sizes, then the lengths. Assumes nothing.
use Rattle.std.proofs.Common.{sym, List, [], ◌∷◌, map, length}
use Rattle.shared.specs.Meanings.{sizes}
use Rattle.std.proofs.Math.Option.{Option}
use Rattle.protocol.specs.Refusals.{Refusal, six_size_tests, size_refusal}
use Rattle.shared.proofs.EarlyReturns.{stops, goes_on, last_answer_lem}
use Rattle.protocol.proofs.RefusalLaws.{refuse-none}
use Rattle.record_writer.specs.Sections.{lists, length_refusals, shape_refusal}
use Rattle.record_writer.proofs.judging.shape_fault.Goals as goal
use Rattle.record_writer.proofs.judging.shape_fault.Goals.{Start}

-- the row after the sizes
abbrev rest : Start → List (Option Refusal)
rest s = length_refusals (sizes s.args.s) (map length (lists s.args.sections.now)) s.args.lent ∷ []

pub returns-in_err-judge_sizes : goal.returns-in_err-judge_sizes
unfolding shape_refusal size_refusal
returns-in_err-judge_sizes c =
    stops _ _ c.from_residual.ensures.1 c.in_err-judge_sizes.ensures (rest (goal.at.returns-in_err-judge_sizes c).Start)

pub lengths_fault-requires : goal.lengths_fault-requires
lengths_fault-requires c = refuse-none 4 0 (six_size_tests (sizes c.args.s)) (sym c.in_ok-judge_sizes.ensures)

pub returns : goal.returns
unfolding shape_refusal size_refusal
returns c =
    goes_on c.in_ok-judge_sizes.ensures (rest (goal.at.returns c).Start) (last_answer_lem c.lengths_fault.ensures)
