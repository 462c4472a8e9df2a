-- `verdict::selectors` meets its contract: its divisor is the product of the three v_{K_M}(γ), none of which is 0. Assumes nothing.
use Rattle.algebra.proofs.FieldLaws.{mul-not-zero}
use Rattle.domain.specs.Domain.{vanishing}
use Rattle.domain.specs.Size.{is_size}
use Rattle.domain.proofs.SizeLaws.{size_not-zero}
use Rattle.domain.proofs.Divisors.{outside_smaller, vanishing-word-not-zero}
use Rattle.field.proofs.ElementLaws.{prime_ring, mul_assoc, mul_comm}
use Rattle.field.proofs.Field.{prime_field}
use Rattle.field.proofs.Words.{of-result}
use Rattle.field.specs.Prime.{Prime}
use Rattle.field.specs.Element.{Elem, of, 𝟘, ◌⊗◌}
use Rattle.field.specs.Power.{reciprocal, ◌⊘◌}
use Rattle.protocol.specs.Checks.{selector}
use Rattle.protocol.specs.Circuit.{largest}
use Rattle.protocol.specs.Three.{MatrixName, A, B, C, at}
use Rattle.protocol.proofs.AllowedSizes.{allowed, largest_size, size_within}
use Rattle.shared.specs.Meanings.{three, sizes}
use Rattle.verdict.proofs.SharedInverse.{selector_from}
use Prim.Native.Nat.{ℕ}
use mathlib.Core.Bool.{true}
use mathlib.Core.Logic.{◌≢◌}
use mathlib.Core.Path.{◌≡◌, sym, ap, ap₂, ◌∙◌}
use Rattle.verdict.proofs.selectors.Goals as goal
use Rattle.verdict.proofs.selectors.Goals.{After-multiply-product, Start}

-- |K| is a size
whole_size : (s : Start) → is_size (largest (three s.args.s.k)) ≡ true
whole_size s = let k = sizes s.args.s in largest_size k (allowed k s.requires.s_value)

-- the word of v_{K_M}(γ) is not 0
not-zero : (s : Start) (M : MatrixName) (w : ℕ) (q : Prime) → q.p ≡ s.args.p
    → ((q : Prime) → q.p ≡ s.args.p → w ≡ (vanishing (at (three s.args.s.k) M) (of {q = q} s.args.gamma)).word)
    → of {q = q} w ≢ 𝟘
not-zero s M w q e made =
    let k = sizes s.args.s in
    let m : ℕ = at k.|K| M in
    let size = (allowed k s.requires.s_value).K-size M in
    vanishing-word-not-zero (outside_smaller m size (whole_size s) (size_within k M) s.requires.outside_domain) size w made q e

-- the values of v_{K_M}(γ), and their product
module _ (c : After-multiply-product) (q : Prime) (e : q.p ≡ c.args.p) where
  abbrev start : Start
  start = (goal.at.After-multiply-product c).Start

  abbrev a : Elem q
  a = of c.vanishing_value-a.result

  abbrev b : Elem q
  b = of c.vanishing_value-b.result

  abbrev d : Elem q
  d = of c.vanishing_value-c.result

  a-some : a ≢ 𝟘
  a-some = not-zero start A _ q e c.vanishing_value-a.ensures

  b-some : b ≢ 𝟘
  b-some = not-zero start B _ q e c.vanishing_value-b.ensures

  d_some : d ≢ 𝟘
  d_some = not-zero start C _ q e c.vanishing_value-c.ensures

  both_some : (x y : Elem q) → x ≢ 𝟘 → y ≢ 𝟘 → x ⊗ y ≢ 𝟘
  both_some = mul-not-zero (prime_ring q) (prime_field q)

  product_is : of {q = q} c.multiply-product.result ≡ a ⊗ b ⊗ d
  product_is =
      of-result (of {q = q} _ ⊗ d) (c.multiply-product.ensures q e)
      ∙ ap (λ (x : Elem q). x ⊗ d) (of-result (a ⊗ b) (c.multiply-both.ensures q e))

pub size_inverse-requires-clause-n_value : goal.size_inverse-requires-clause-n_value
size_inverse-requires-clause-n_value c = ap is_size c.largest.ensures ∙ whole_size (goal.at.size_inverse-requires-clause-n_value c).Start

pub divide-share-requires-clause-b_nonzero : goal.divide-share-requires-clause-b_nonzero
divide-share-requires-clause-b_nonzero c q e z =
    let m = (goal.at.divide-share-requires-clause-b_nonzero c).After-multiply-product in
    let two = both_some m q e (a m q e) (b m q e) (a-some m q e) (b-some m q e) in
    both_some m q e (a m q e ⊗ b m q e) (d m q e) two (d_some m q e) (sym (product_is m q e) ∙ z)

pub returns : goal.returns
unfolding selector
returns c q Q e is_whole =
    let m = (goal.at.returns c).After-multiply-product in
    let s = start m q e in
    let k = s.args.s.k in
    let γ : Elem q = of s.args.gamma in
    let x : Elem q = a m q e in
    let y : Elem q = b m q e in
    let z : Elem q = d m q e in
    let n : Elem q = of (largest (three k)) in
    let whole : Elem q = vanishing (largest (three k)) γ in
    let n-some : n ≢ 𝟘 = size_not-zero (largest (three k)) (whole_size s) in
    let size : of c.size_inverse.result ≡ reciprocal n =
    of-result (reciprocal (of {q = q} c.largest.result)) (c.size_inverse.ensures q Q e)
    ∙ ap (λ (n : ℕ). reciprocal (of {q = q} n)) c.largest.ensures in
    let mean : of c.multiply-mean.result ≡ whole ⊗ reciprocal n =
    of-result (of s.args.whole ⊗ of c.size_inverse.result) (c.multiply-mean.ensures q e)
    ∙ ap₂ ◌⊗◌ (of-result whole is_whole) size in
    let share : of c.divide-share.result ≡ whole ⊗ reciprocal n ⊘ (x ⊗ y ⊗ z) =
    of-result (of {q = q} c.multiply-mean.result ⊘ of m.multiply-product.result) (c.divide-share.ensures q e)
    ∙ ap₂ ◌⊘◌ mean (product_is m q e) in
    let other : (size w : ℕ) (own others : Elem q) → of {q = q} w ≡ others → own ≢ 𝟘 → others ≢ 𝟘 → x ⊗ y ⊗ z ≡ own ⊗ others
    → own ≡ vanishing size γ
    → (of size ⊗ of c.divide-share.result ⊗ of w).word ≡ (of size ⊗ whole ⊘ (n ⊗ vanishing size γ)).word =
    λ size w own others is-others own-some others-some split is-own.
    ap (λ (u : Elem q). u.word)
    (ap₂ (λ (u w : Elem q). of size ⊗ u ⊗ w) share is-others
    ∙ selector_from (of size) whole n own others (x ⊗ y ⊗ z) n-some own-some others-some split
    ∙ ap (λ (u : Elem q). of size ⊗ whole ⊘ (n ⊗ u)) is-own) in
    let first = c.multiply_three.ensures q e
    ∙ other k.a _ x (y ⊗ z) (of-result (y ⊗ z) (c.multiply.ensures q e)) (a-some m q e)
    (both_some m q e y z (b-some m q e) (d_some m q e)) (mul_assoc x y z)
    (of-result (vanishing k.a γ) (m.vanishing_value-a.ensures q e)) in
    let second = c.multiply_three-2.ensures q e
    ∙ other k.b _ y (x ⊗ z) (of-result (x ⊗ z) (c.multiply-2.ensures q e)) (b-some m q e)
    (both_some m q e x z (a-some m q e) (d_some m q e)) (ap (λ (u : Elem q). u ⊗ z) (mul_comm x y) ∙ mul_assoc y x z)
    (of-result (vanishing k.b γ) (m.vanishing_value-b.ensures q e)) in
    let third = c.multiply_three-3.ensures q e
    ∙ other k.c _ z (x ⊗ y) (of-result (x ⊗ y) (m.multiply-both.ensures q e)) (d_some m q e)
    (both_some m q e x y (a-some m q e) (b-some m q e)) (mul_comm (x ⊗ y) z)
    (of-result (vanishing k.c γ) (m.vanishing_value-c.ensures q e)) in λ i.
    record { a = first i; b = second i; c = third i }
