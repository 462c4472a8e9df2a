-- `outcome_text::whole::put_proof` meets its contract. Assumes nothing.
use mathlib.Core.List.{◌++◌}
use native.Mathlib.Omega.{arith}
use Rattle.shared.specs.Meanings.{three}
use Rattle.circuit.specs.Given.{input_words}
use Rattle.report.proofs.PrintedLaws.{printed_then, printed_within, printed_as, printed_place, printed_length}
use Rattle.protocol.specs.Three.{listed}
use Rattle.report.specs.Stages.{section, first_text, third_text, rest_text, stages_text, opened_meaning}
use Rattle.report.proofs.RoundLaws.{first_free, second_free, third_free}
use Rattle.outcome_text.proofs.whole.put_proof.Goals as goal

pub put_first-first-requires-clause-free : goal.put_first-first-requires-clause-free
put_first-first-requires-clause-free c = first_free _ c.args.drawn c.requires.free_job

pub sums-sums-requires : goal.sums-sums-requires
sums-sums-requires c = second_free _ c.args.drawn c.requires.free_job

pub put_third-third-requires : goal.put_third-third-requires
put_third-third-requires c =
    let f = c.put_first-first.ensures in
    let g = c.put_three-second.ensures in record {
      free = third_free _ c.args.drawn c.requires.free_job;
      most_line_in_bounds =
          omega (arith, c.requires.most_proof_in_bounds, printed_place f, printed_length f, printed_place g, printed_length g);
    }

pub put_rest-requires : goal.put_rest-requires
put_rest-requires c =
    let f = c.put_first-first.ensures in
    let g = c.put_three-second.ensures in
    let h = c.put_third-third.ensures in record {
      free_job = c.requires.free_job;
      most_rest_in_bounds = omega (
        arith,
        c.requires.most_proof_in_bounds,
        printed_place f,
        printed_length f,
        printed_place g,
        printed_length g,
        printed_place h,
        printed_length h,
      );
    }

pub returns : goal.returns
unfolding stages_text
returns c =
    let a = c.args in
    let i = input_words a.input.now in
    let d = a.drawn in
    let σ = c.sums-sums.ensures in
    let whole =
    printed_then c.put_first-first.ensures
    (printed_then c.put_three-second.ensures (printed_then c.put_third-third.ensures c.put_rest.ensures)) in
    printed_within
    (printed_as
    (λ t.
    first_text i
    ++ (section 3 (listed (σ t)) ++ (third_text i d.alpha (three d.eta) ++ rest_text i d (σ t) (opened_meaning a.opened.messages a.opened.index))))
    whole)
    (omega arith)
