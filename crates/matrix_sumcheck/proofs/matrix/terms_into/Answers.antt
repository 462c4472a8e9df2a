-- `matrix_sumcheck::matrix::terms_into` meets its contract: the first i words are those of the terms. Assumes nothing.
use Rattle.std.proofs.Common.{ap, ap₂, ◌∙◌, arith, length}
use Rattle.field.specs.Element.{Elem, of, ◌⊗◌, words}
use Rattle.field.proofs.Words.{of-result}
use Rattle.domain.proofs.Fill.{fill_none, rule_turn, rule_end}
use Rattle.domain.proofs.SizeLaws.{size_fits, size_holds}
use Rattle.matrix_sumcheck.proofs.MatrixTerms.{few-entries, terms_made}
use Rattle.matrix_sumcheck.proofs.matrix.terms_into.Invariants.{rule}
use Rattle.matrix_sumcheck.proofs.matrix.terms_into.Goals as goal

pub loop-i-init : goal.loop-i-init
loop-i-init c q e = fill_none _ _

pub product_at-requires : goal.product_at-requires
product_at-requires c =
    record {
      p_nonzero = omega arith;
      entries_within = c.requires.entries_within;
      i_lt_max_size = omega (arith, size_fits _ c.requires.out_len);
    }

pub loop-i-preserved : goal.loop-i-preserved
loop-i-preserved c q e =
    let l = c.loop-i in
    let a = c.args in
    rule_turn (length a.out.now) (rule q a.factors.now.rows.now a.factors.now.columns.now a.entries.now) l.out l.i c.multiply.result
    l.auto.out (omega arith) (l.invariant q e)
    (c.multiply.ensures q e
    ∙ ap₂ (λ (x y : Elem q). (x ⊗ y).word) (ap of c.word_or_zero-value.ensures)
    (of-result _ (c.product_at.ensures q e)))

pub returns : goal.returns
returns c q e r k alpha beta L =
    let l = c.loop-i in
    let a = c.args in
    rule_end (length a.out.now) (rule q a.factors.now.rows.now a.factors.now.columns.now a.entries.now) l.out l.i l.auto.out (omega arith)
    (l.invariant q e)
    ∙ ap words (terms_made r k alpha beta (length a.out.now) c.requires.entries_within
    (size_holds _ c.requires.out_len (few-entries c.requires.entries_within.words)) L)
