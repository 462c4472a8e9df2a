-- `outcome_text::whole::put_rest` meets its contract. Assumes nothing.
use mathlib.Core.Path.{◌≡◌, sym, ap, ◌∙◌}
use mathlib.Core.List.{◌++◌}
use native.Mathlib.Omega.{arith}
use Rattle.domain.specs.Size.{is_size}
use Rattle.protocol.specs.Circuit.{Sizes, sizes_of}
use Rattle.protocol.specs.Calls.{circuit_of}
use Rattle.shared.specs.Meanings.{three}
use Rattle.circuit.specs.Given.{input_words}
use Rattle.circuit.proofs.Fitting.{C-fits, X-fits, X-below}
use Rattle.report.specs.Stages.{fourth_text, fifth_text, last_text, rest_text, opened_meaning}
use Rattle.report.proofs.PrintedLaws.{printed_then, printed_within, printed_as, printed_place, printed_length}
use Rattle.report.proofs.Bounds.{fitting}
use Rattle.report.proofs.RoundLaws.{fourth_free, fifth_free}
use Rattle.outcome_text.proofs.whole.put_rest.Goals as goal

pub put_fourth-fourth-requires : goal.put_fourth-fourth-requires
put_fourth-fourth-requires c =
    record {
      free = fourth_free _ c.args.drawn c.requires.free_job;
      most_fourth_in_bounds = omega (arith, c.requires.most_rest_in_bounds);
    }

pub put_fifth-last-requires : goal.put_fifth-last-requires
put_fifth-last-requires c =
    let f = c.put_fourth-fourth.ensures.printed in
    record {
      free = fifth_free _ c.args.drawn c.requires.free_job;
      most_line_in_bounds = omega (arith, c.requires.most_rest_in_bounds, printed_place f, printed_length f);
    }

pub put_last-requires : goal.put_last-requires
unfolding sizes_of circuit_of
put_last-requires c =
    let k = c.sizes_of-s in
    let f = c.put_fourth-fourth.ensures.printed in
    let h = c.put_fifth-last.ensures in
    let F = fitting _ c.requires.free_job in
    let columns : k.result.c ≡ c.args.input.now.circuit.c = ap (λ (t : Sizes). t.|C|) k.ensures in
    let public : k.result.x ≡ c.args.input.now.circuit.x = ap (λ (t : Sizes). t.|X|) k.ensures in record {
      c_value = (ap is_size columns ∙ C-fits F, ap is_size public ∙ X-fits F, omega (arith, columns, public, X-below F), F.z-length ∙ sym columns);
      most_last_in_bounds =
          omega (arith, c.requires.most_rest_in_bounds, printed_place f, printed_length f, printed_place h, printed_length h);
    }

pub returns : goal.returns
unfolding rest_text
returns c =
    let a = c.args in
    let i = input_words a.input.now in
    let d = a.drawn in
    let f = c.put_fourth-fourth.ensures in
    let k = c.sizes_of-s.ensures in
    let whole = printed_then f.printed (printed_then c.put_fifth-last.ensures c.put_last.ensures) in
    printed_within
    (printed_as
    (λ t.
    fourth_text i d.alpha d.beta
    ++ (fifth_text i d.alpha d.beta (three d.delta)
    ++ last_text (k t) a.input.now.z.now d (three a.sums) (f.values_value t) (opened_meaning a.opened.messages a.opened.index)))
    whole)
    (omega arith)
