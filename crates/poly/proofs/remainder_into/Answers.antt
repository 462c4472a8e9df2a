-- `poly::remainder_into` meets its contract: the coefficients below i are filled. Assumes nothing.
use Rattle.std.proofs.Common.{◌≡◌, sym, ◌∙◌, List, map, ℕ, arith, length}
use Rattle.algebra.proofs.Division.{length-remainder}
use Rattle.field.specs.Prime.{Prime}
use Rattle.field.specs.Element.{of, words}
use Rattle.field.proofs.ElementLaws.{prime_ring}
use Rattle.domain.specs.Polynomial.{Poly, remainder}
use Rattle.domain.proofs.Fill.{fill_none, fill_turn, fill_end, length-words, word-at}
use Rattle.poly.proofs.remainder_into.Goals as goal

length_target : (q : Prime) (n : ℕ) (f : List ℕ) → length (words (remainder n (map (of {q = q}) f))) ≡ n
length_target q n f = length-words (remainder n (map of f)) ∙ length-remainder (prime_ring q) n (map of f)

pub loop-i-init : goal.loop-i-init
loop-i-init c q e = fill_none _ _

pub loop-i-preserved : goal.loop-i-preserved
loop-i-preserved c q e =
    let a = c.args in
    let l = c.loop-i in
    let n : ℕ = length a.out.now in
    let target : Poly q = remainder n (map of a.f.now) in
    fill_turn (words target) l.out l.i c.folded.result (omega arith) (omega (arith, length_target q n a.f.now))
    (l.invariant q e) (c.folded.ensures q e ∙ sym (word-at target l.i))

pub returns : goal.returns
returns c q e =
    let a = c.args in
    let l = c.loop-i in
    let n : ℕ = length a.out.now in
    fill_end (words (remainder n (map of a.f.now))) l.out l.i (omega arith) (omega (arith, length_target q n a.f.now))
    (l.invariant q e)
