-- `verdict::public_value` meets its contract. Assumes nothing.
use Rattle.std.proofs.Common.{sym, ap, ◌∙◌, ℕ}
use Rattle.algebra.specs.Lists.{tabulate}
use Rattle.domain.specs.Domain.{element, lagrange}
use Rattle.domain.specs.Size.{is_size}
use Rattle.domain.proofs.LentWords.{part_length}
use Rattle.domain.proofs.SizeLaws.{size_bound}
use Rattle.field.specs.Element.{of, words}
use Rattle.verdict.proofs.public_value.Goals as goal

pub slice_bounds-words-end : goal.slice_bounds-words-end
slice_bounds-words-end c = size_bound c.args.n c.requires.n_value

pub slice_bounds-weights-end : goal.slice_bounds-weights-end
slice_bounds-weights-end c = part_length _ _ (size_bound c.args.n c.requires.n_value)

pub lagrange_values_into-requires-clause-out_value : goal.lagrange_values_into-requires-clause-out_value
lagrange_values_into-requires-clause-out_value c =
    ap is_size (sym (part_length _ _ (size_bound c.args.n c.requires.n_value))) ∙ c.requires.n_value

pub interpolated_at-requires-clause-values_len : goal.interpolated_at-requires-clause-values_len
interpolated_at-requires-clause-values_len c =
    c.requires.x_len ∙ part_length _ _ (size_bound c.args.n c.requires.n_value) ∙ sym c.lagrange_values_into.auto.out

pub returns : goal.returns
returns c q K Q =
    let a = c.args in
    c.interpolated_at.ensures q Q K.value a.n c.requires.n_value (of a.y)
    (c.lagrange_values_into.ensures q K
    ∙ ap (λ (n : ℕ). words (tabulate n (λ i. lagrange n (element n i) (of {q = q} a.y))))
    (sym (part_length _ _ (size_bound a.n c.requires.n_value))))
