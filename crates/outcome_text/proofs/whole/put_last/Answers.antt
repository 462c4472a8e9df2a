-- `outcome_text::whole::put_last` meets its contract. Assumes nothing.
use Rattle.std.proofs.Common.{sym, ap, ◌∙◌, ℕ, ◌*◌, ◌/◌, ◌≤◌, get_or, arith}
use native.Mathlib.Nat.{div-le_self}
use Rattle.algebra.specs.Lists.{tabulate}
use Rattle.domain.proofs.SizeLaws.{size_positive, size_bound, size_quotient_positive}
use Rattle.protocol.specs.Messages.{lengths}
use Rattle.shared.specs.Meanings.{three, sizes, openings}
use Rattle.poly.proofs.LentParts.{lent_length}
use Rattle.prover.proofs.WitnessLaws.{public_within}
use Rattle.report.specs.ProofText.{answer_text}
use Rattle.report.specs.Stages.{last_answer}
use Rattle.report.proofs.PrintedLaws.{printed_as}
use Rattle.outcome_text.proofs.whole.put_last.Goals as goal

pub nonzero_div-s : goal.nonzero_div-s
nonzero_div-s c = size_positive _ c.requires.c_value.1

pub overflow_cast-s : goal.overflow_cast-s
overflow_cast-s c =
    let a = c.args in
    omega (arith, div-le_self a.s.c a.s.x, size_bound a.s.c c.requires.c_value.0)

pub slice_bounds-words-end : goal.slice_bounds-words-end
slice_bounds-words-end c = size_bound _ c.requires.c_value.1

pub slice_bounds-x-end : goal.slice_bounds-x-end
slice_bounds-x-end c = lent_length 1024 (size_bound _ c.requires.c_value.1)

pub public_words_into-requires : goal.public_words_into-requires
public_words_into-requires c =
    let given = c.requires.c_value in (
      size_quotient_positive _ _ given.1 given.0 given.2,
      public_within c.args.z.now _ given.0 given.1 given.2 given.3 (size_bound _ given.1),
    )

pub last_answer-answer-requires : goal.last_answer-answer-requires
last_answer-answer-requires c = size_bound _ c.requires.c_value.0

pub returns : goal.returns
returns c =
    let a = c.args in
    let within : a.s.x ≤ 1024 = size_bound _ c.requires.c_value.1 in
    let public =
    c.public_words_into.ensures
    ∙ ap (λ (n : ℕ). tabulate n (λ i. get_or a.z.now (i * (a.s.c / a.s.x)) 0)) (sym (lent_length 1024 within)) in
    printed_as
    (ap answer_text
    (c.last_answer-answer.ensures
    ∙ (λ t.
    last_answer (sizes a.s) (lengths (sizes a.s)) (public t) a.drawn (three a.sums) (three a.values)
    (openings a.opened.messages (c.index_arrays.ensures t)))))
    c.put_answer.ensures
