-- `transform::product::quotient_from` meets its contract. Assumes nothing.
use mathlib.Core.Path.{ap, ◌∙◌}
use lib.ListN.{length}
use Rattle.field.specs.Element.{words}
use Rattle.domain.proofs.Divisors.{vanishing-word-not-zero}
use Rattle.transform.proofs.CosetWords.{reciprocal_word, quotient-words}
use Rattle.transform.proofs.product.quotient_from.Goals as goal

pub divide-share-requires : goal.divide-share-requires
divide-share-requires c =
    let start = c in
    record {
      lt_p = start.requires.lt_p;
      b_nonzero = vanishing-word-not-zero start.requires.outside_domain.0 start.requires.n_value _ c.vanishing_value.ensures;
    }

pub divide-turn-requires : goal.divide-turn-requires
divide-turn-requires c =
    let start = c in
    record {
      lt_p = start.requires.lt_p;
      b_nonzero = start.requires.outside_domain.1;
    }

pub returns : goal.returns
returns c q Q e shift f g long short is_plain is_turned =
    let start = c in
    let a = start.args in
    let v = c.vanishing_value in
    let share = c.divide-share in
    let turn = c.divide-turn in
    c.combine_into.ensures q e
    ∙ ap words (quotient-words Q a.n start.requires.n_value f g (length a.out.now) a.s turn.result share.result v.result
    shift long short a.plain.now a.turned.now is_plain is_turned (reciprocal_word q a.s (turn.ensures q e)) (v.ensures q e)
    (reciprocal_word q v.result (share.ensures q e)))
