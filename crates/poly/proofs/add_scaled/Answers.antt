-- `poly::add_scaled` meets its contract: the entries below i are those of the sum, the others as they were. Assumes nothing.
use Rattle.std.proofs.Common.{◌≡◌, ap, ap₂, ◌∙◌, List, map, ℕ, ◌≤◌, arith, length, get_or}
use lib.ListN.{length-map}
use Rattle.algebra.proofs.PolynomialLaws.{length-add, length-scale}
use Rattle.field.specs.Prime.{Prime}
use Rattle.field.specs.Element.{Elem, of, ◌⊕◌, ◌⊗◌, words}
use Rattle.field.proofs.ElementLaws.{prime_ring, add_comm}
use Rattle.domain.specs.Polynomial.{Poly, ◌·◌}
use Rattle.domain.proofs.Fill.{length-words}
use Rattle.poly.proofs.Stores.{joined-none, joined-all, joined-second, store_up}
use Rattle.poly.proofs.add_scaled.Invariants.{sum_of, sum-at}
use Rattle.poly.proofs.add_scaled.Goals as goal

length-sum : (q : Prime) (f : List ℕ) (k : ℕ) (g : List ℕ) → length g ≤ length f → length (words (sum_of q f k g)) ≡ length f
length-sum q f k g le =
    omega (
      arith,
      length-words (sum_of q f k g),
      length-add (prime_ring q) (map of f) (of k · map of g),
      length-scale (prime_ring q) (of k) (map of g),
      length-map f (of {q = q}),
      length-map g (of {q = q}),
    )

pub loop-i-init : goal.loop-i-init
loop-i-init c q e = joined-none _ _

pub loop-i-preserved : goal.loop-i-preserved
loop-i-preserved c q e =
    let a = c.args in
    let l = c.loop-i in
    let f : List ℕ = a.f.now in
    let i : ℕ = l.i in
    let target : Poly q = sum_of q f a.k a.g.now in
    let same : length (words target) ≡ length f = length-sum q f a.k a.g.now (omega arith) in
    let old : of {q = q} (get_or l.f i 0) ≡ of (get_or f i 0) =
    ap (λ (r : List ℕ). of (get_or r i 0)) (l.invariant q e) ∙ ap of (joined-second (words target) f i i 0 same (omega arith)) in
    let product : Elem q = of a.k ⊗ of (get_or a.g.now i 0) in
    store_up (words target) f l.f i c.multiply_add.result 0 same (omega arith) (l.invariant q e)
    (c.multiply_add.ensures q e
    ∙ ap₂ (λ (n : ℕ) (y : Elem q). (of a.k ⊗ of n ⊕ y).word) c.word_or_zero.ensures old
    ∙ ap (λ (y : Elem q). y.word) (add_comm product (of (get_or f i 0))) ∙ sum-at q f a.k a.g.now i)

pub returns : goal.returns
returns c q e =
    let a = c.args in
    let l = c.loop-i in
    let f : List ℕ = a.f.now in
    let target : Poly q = sum_of q f a.k a.g.now in
    let same : length (words target) ≡ length f = length-sum q f a.k a.g.now (omega arith) in
    l.invariant q e ∙ joined-all (words target) f l.i (omega arith) (omega arith)
