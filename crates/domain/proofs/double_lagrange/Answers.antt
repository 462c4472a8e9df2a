-- `domain::double_lagrange` meets its contract: the places from i on are done in both halves, and `turned` is y/2 divided by the element
-- at place i. Assumes nothing.
use Rattle.std.proofs.Common.{◌≡◌, ℕ, suc, ◌+◌, ◌-◌, ◌/◌, ◌<◌, true, length, get_or, sym, ap, ◌∙◌, subst, arith}
use Rattle.algebra.specs.Lists.{tabulate}
use Rattle.field.specs.Element.{Elem, of, ◌⊕◌, ◌⊗◌, words, word_of}
use Rattle.field.proofs.Words.{word-of, result-product, result-sum, result_difference}
use Rattle.domain.specs.Size.{is_size}
use Rattle.domain.specs.Domain.{root}
use Rattle.domain.proofs.SizeLaws.{size_halves}
use Rattle.domain.proofs.LagrangeHalving.{half_twice, half_below, lagrange_at, lagrange_low, lagrange_high, half_quotient}
use Rattle.domain.proofs.LagrangeHalving.{quotient-begins, quotient_turn, Doubling, doubling_none, doubling_turn, doubling_end}
use Rattle.domain.proofs.double_lagrange.Goals as goal

pub loop-i-init : goal.loop-i-init
loop-i-init c q Q e is-root filled =
    let a = c.args in
    let (whole, more) = c.requires.out_value in
    let (two, size) = size_halves (length a.out.now) whole more in (
      c.multiply-turned.ensures q e
          ∙ ap (λ (n : ℕ). (of {q = q} a.y ⊗ of (n / 2)).word) (sym e)
          ∙ ap word_of (quotient-begins Q (length a.out.now / 2) size (ap is_size (sym two) ∙ whole) (of a.y)),
      doubling_none (length a.out.now / 2) (of a.y) a.out.now two filled,
    )

pub loop-i-preserved : goal.loop-i-preserved
loop-i-preserved c q Q e is-root filled =
    let l = c.loop-i in
    let a = c.args in
    let h : ℕ = length a.out.now / 2 in
    let k : ℕ = l.i - 1 in
    let up : l.i ≡ suc k = omega arith in
    let below : k < h = omega arith in
    let (two, size) = size_halves (length a.out.now) c.requires.out_value.0 c.requires.out_value.1 in
    let whole_size : is_size (h + h) ≡ true = ap is_size (sym two) ∙ c.requires.out_value.0 in
    let y : Elem q = of a.y in
    let (turned, doing) = l.invariant q Q e is-root filled in
    let share : Elem q = of (q.p / 2 + 1) in
    let is-share : a.p / 2 + 1 ≡ share.word = ap (λ (n : ℕ). n / 2 + 1) (sym e) ∙ sym (word-of q (q.p / 2 + 1) (half_below q)) in
    let w : Elem q = lagrange_at h (y ⊗ y) k in
    let whole : get_or l.out k 0 ≡ w.word = doing.rest k (omega arith) in
    let next : c.multiply-turned-in-loop-i.result ≡ (half_quotient (h + h) y k).word =
    result-product (half_quotient (h + h) y (suc k)) (root (h + h)) (c.multiply-turned-in-loop-i.ensures q e)
    (turned ∙ ap (λ (i : ℕ). (half_quotient (h + h) y i).word) up) (is-root ∙ ap (λ (n : ℕ). (root {q = q} n).word) two)
    ∙ ap word_of (quotient_turn Q h size whole_size y k below) in
    let factor : c.add_reduced.result ≡ (half_quotient (h + h) y k ⊕ share).word =
    result-sum e (half_quotient (h + h) y k) share next is-share (c.add_reduced.ensures q e) in
    let low : c.multiply-low.result ≡ (lagrange_at (h + h) y k).word =
    result-product w (half_quotient (h + h) y k ⊕ share) (c.multiply-low.ensures q e) whole factor
    ∙ ap word_of (sym (lagrange_low Q h size whole_size share (half_twice q) k below y)) in
    let high : c.subtract_reduced.result ≡ (lagrange_at (h + h) y (h + k)).word =
    result_difference e w (lagrange_at (h + h) y k) whole low (c.subtract_reduced.ensures q e)
    ∙ ap word_of (sym (lagrange_high Q h size whole_size share (half_twice q) k below y)) in (
      next,
      doubling_turn h y l.out (l.auto.out ∙ two) k c.multiply-low.result c.subtract_reduced.result below
          (subst (Doubling h y l.out) up doing) low high,
    )

pub returns : goal.returns
returns c q Q e is-root filled =
    let l = c.loop-i in
    let a = c.args in
    let (two, _) = size_halves (length a.out.now) c.requires.out_value.0 c.requires.out_value.1 in
    let done : l.i ≡ 0 = omega arith in
    doubling_end (length a.out.now / 2) (of a.y) l.out (l.auto.out ∙ two)
    (subst (Doubling (length a.out.now / 2) (of {q = q} a.y) l.out) done (l.invariant q Q e is-root filled).1)
    ∙ ap (λ (n : ℕ). words (tabulate n (lagrange_at n (of {q = q} a.y)))) (sym two)
