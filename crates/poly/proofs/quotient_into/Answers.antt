-- `poly::quotient_into` meets its contract: the entries from i on are the quotient's. Assumes nothing.
use Rattle.std.proofs.Common.{◌≡◌, sym, ap, ap₂, ◌∙◌, List, map, ℕ, ◌+◌, ◌-◌, ◌<◌, arith, length, get_or}
use lib.ListN.{length-map}
use Rattle.algebra.proofs.Division.{length-quotient}
use Rattle.field.specs.Prime.{Prime}
use Rattle.field.specs.Element.{Elem, of, 𝟘, ◌⊕◌, words}
use Rattle.field.proofs.ElementLaws.{prime_ring}
use Rattle.field.proofs.Words.{of-result}
use Rattle.domain.specs.Polynomial.{Poly, quotient}
use Rattle.domain.proofs.Fill.{length-words, word-at}
use Rattle.poly.proofs.Stores.{joined, joined-none, joined-all, joined-second, store_down}
use Rattle.poly.proofs.Coefficients.{coefficient_quotient}
use Rattle.poly.proofs.WordLists.{element-at, made_at}
use Rattle.poly.proofs.quotient_into.Goals as goal

length_target : (q : Prime) (n : ℕ) (f : List ℕ) → 0 < n → length (words (quotient n (map (of {q = q}) f))) ≡ length f - n
length_target q n f positive =
    omega (arith, length-words (quotient n (map (of {q = q}) f)), length-quotient (prime_ring q) n (map of f) positive, length-map f (of {q = q}))

pub loop-i-init : goal.loop-i-init
loop-i-init c q e =
    let a = c.args in
    sym (joined-all a.out.now (words (quotient a.n (map (of {q = q}) a.f.now))) (length a.out.now) (omega arith)
    (omega (arith, length_target q a.n a.f.now (omega arith))))

pub loop-i-preserved : goal.loop-i-preserved
loop-i-preserved c q e =
    let a = c.args in
    let l = c.loop-i in
    let f : List ℕ = a.f.now in
    let n : ℕ = a.n in
    let i : ℕ = l.i in
    let target : Poly q = quotient n (map of f) in
    let same : length (words target) ≡ length a.out.now = omega (arith, length_target q n f (omega arith)) in
    let carried : of {q = q} c.word_or_zero-carried.result ≡ get_or target (i - 1 + n) 𝟘 =
    ap of (c.word_or_zero-carried.ensures ∙ ap (λ (r : List ℕ). get_or r (i - 1 + n) 0) (l.invariant q e)
    ∙ joined-second a.out.now (words target) i (i - 1 + n) 0 (sym same) (omega arith))
    ∙ of-result _ (word-at target (i - 1 + n)) in
    store_down (words target) a.out.now l.out i c.add.result 0 same (omega arith) (omega arith) (l.invariant q e)
    (made_at target (i - 1)
    (c.add.ensures q e ∙ ap₂ (λ (x y : Elem q). (x ⊕ y).word) (element-at f (i - 1 + n)) carried)
    (coefficient_quotient (prime_ring q) n (omega arith) (map of f) (i - 1)))

pub returns : goal.returns
returns c q e =
    let a = c.args in
    let done : c.loop-i.i ≡ 0 = omega arith in
    c.loop-i.invariant q e ∙ ap (joined a.out.now (words (quotient a.n (map of a.f.now)))) done
    ∙ sym (joined-none a.out.now (words (quotient a.n (map of a.f.now))))
