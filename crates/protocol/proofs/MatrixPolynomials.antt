-- The polynomials of the g_M rule: a_M and b_M with their values and their length |K_M|, and the rule's left side as a polynomial of
-- length 2|K_M| - 1. The sizes |K_M| and the largest of them, |K|. Assumes nothing.
use mathlib.Core.Path.{◌≡◌, ap, ap₂, ◌∙◌}
use mathlib.Core.Bool.{true}
use mathlib.Core.List.{[], ◌∷◌}
use Prim.Native.Nat.{ℕ, ◌-◌, ◌*◌, ◌≤◌, ◌<◌, max}
use lib.ListN.{length}
use native.Mathlib.Omega.{arith}
use Rattle.algebra.specs.Ring.{CommRing}
use Rattle.algebra.proofs.PolynomialLaws.{eval_add, eval-scale, eval_mul, length-add, length-scale, length-product}
use Rattle.algebra.proofs.Solver.{◌:+◌, ◌:*◌, :0, ◌:=◌, ring}
use Rattle.field.specs.Prime.{Prime}
use Rattle.field.specs.Element.{Elem, of, 𝟘, 𝟙, ◌⊕◌, ◌⊗◌, ◌⊖◌, neg}
use Rattle.field.specs.Power.{◌⊘◌}
use Rattle.field.proofs.ElementLaws.{add_comm, prime_ring}
use Rattle.domain.specs.Size.{is_size}
use Rattle.domain.specs.Polynomial.{Poly, eval, ◌⊞◌, ◌⊟◌, ◌·◌, ◌⊠◌}
use Rattle.domain.proofs.SizeLaws.{size_positive, largest-is_size}
use Rattle.domain.proofs.Interpolation.{length-interpolate}
use Rattle.protocol.specs.Three.{MatrixName, A, B, C, at}
use Rattle.protocol.specs.Circuit.{Entry, Circuit, sizes_of, largest}
use Rattle.protocol.specs.Index.{Index, index_at, row_element, column_element, placed, index}
use Rattle.protocol.specs.Checks.{numerator_value, denominator_value}
use Rattle.protocol.specs.Messages.{numerator, denominator}
use Rattle.protocol.proofs.AllowedSizes.{size_within}
use Rattle.protocol.proofs.IndexPolynomials.{K-size}
use Rattle.protocol.proofs.MessagePolynomials.{eval_minus}

length_difference : {q : Prime} (f g : Poly q) → length (f ⊟ g) ≡ max (length f) (length g)
length_difference {q} f g = omega (arith, length-add (prime_ring q) f (neg 𝟙 · g), length-scale (prime_ring q) (neg 𝟙) g)

-- |K_M|
abbrev pub sizeK : Circuit → MatrixName → ℕ
sizeK c M = at (sizes_of c).|K| M

pub sizeK_positive : (c : Circuit) (M : MatrixName) → 0 < sizeK c M
sizeK_positive c M = size_positive (sizeK c M) (K-size c M)

-- |K| is one of the sizes, and the largest
pub largest_size : (c : Circuit) → is_size (largest (sizes_of c).|K|) ≡ true
unfolding largest
largest_size c = largest-is_size (sizeK c A) (sizeK c B) (sizeK c C) (K-size c A) (K-size c B) (K-size c C)

pub within-largest : (c : Circuit) (M : MatrixName) → sizeK c M ≤ largest (sizes_of c).|K|
within-largest c M = size_within (sizes_of c) M

length-placed : {q : Prime} (c : Circuit) (M : MatrixName) (filling : Elem q) (f : Entry → Elem q) → length (placed c M filling f) ≡ sizeK c M
unfolding placed
length-placed c M filling f = length-interpolate (sizeK c M) _

module _ {q : Prime} (c : Circuit) (α β : Elem q) (M : MatrixName) where
  abbrev R : CommRing (Elem q)
  R = prime_ring q

  abbrev k : ℕ
  k = sizeK c M

  abbrev a : Poly q
  a = numerator c α β M

  abbrev b : Poly q
  b = denominator c α β M

  pub eval-numerator : (y : Elem q) → eval a y ≡ numerator_value (sizes_of c) α β (index_at (index c M) y)
  unfolding numerator numerator_value sizes_of
  eval-numerator y = eval-scale R _ (index c M).rowcolval y

  pub eval-denominator : (y : Elem q) → eval b y ≡ denominator_value (sizes_of c) α β (index_at (index c M) y)
  unfolding denominator denominator_value sizes_of
  eval-denominator y =
      let i : Index (Poly q) = index c M in
      let v : Index (Elem q) = index_at i y in
      let corner : Poly q = α ⊗ β ∷ [] in
      let without : Poly q = corner ⊟ α · i.col in
      eval-scale R (of c.|R| ⊗ of c.|C|) (without ⊟ β · i.row ⊞ i.rowcol) y
      ∙ ap (λ x. of c.|R| ⊗ of c.|C| ⊗ x)
      (eval_add R (without ⊟ β · i.row) i.rowcol y
      ∙ ap (λ x. x ⊕ v.rowcol)
      (eval_minus without (β · i.row) y
      ∙ ap₂ ◌⊖◌
      (eval_minus corner (α · i.col) y
      ∙ ap₂ ◌⊖◌ (ring R (α ∷ β ∷ y ∷ []) (λ α β y. α :* β :+ y :* :0 := α :* β) tt) (eval-scale R α i.col y))
      (eval-scale R β i.row y)))

  pub length-numerator : length a ≡ k
  unfolding numerator index
  length-numerator = length-scale R _ (placed c M 𝟘 _) ∙ length-placed c M 𝟘 _

  pub length-denominator : length b ≡ k
  unfolding denominator index
  length-denominator =
      let row : Poly q = placed c M 𝟙 (row_element c) in
      let col : Poly q = placed c M 𝟙 (column_element c) in
      let rowcol : Poly q = placed c M 𝟙 (λ e. row_element c e ⊗ column_element c e) in
      let corner : Poly q = α ⊗ β ∷ [] in
      let without : Poly q = corner ⊟ α · col in
      omega (
        arith,
        sizeK_positive c M,
        length-scale R (of c.|R| ⊗ of c.|C|) (without ⊟ β · row ⊞ rowcol),
        length-add R (without ⊟ β · row) rowcol,
        length_difference without (β · row),
        length_difference corner (α · col),
        length-scale R β row,
        length-scale R α col,
        length-placed c M 𝟙 (row_element {q = q} c),
        length-placed c M 𝟙 (column_element {q = q} c),
        length-placed c M 𝟙 (λ e. row_element {q = q} c e ⊗ column_element c e),
      )

  -- the left side of M's rule at y, from ω, the index polynomials' values and g's value there: what `matrixLeft` says of a transcript
  abbrev pub left_value : Elem q → Index (Elem q) → Elem q → Elem q → Elem q
  left_value ω v y g = numerator_value (sizes_of c) α β v ⊖ denominator_value (sizes_of c) α β v ⊗ (y ⊗ g ⊕ ω ⊘ of k)

  -- a_M - b_M (Y g + ω/|K_M|)
  unfoldable pub matrix_poly : Elem q → Poly q → Poly q
  matrix_poly ω g = a ⊟ b ⊠ (ω ⊘ of k ∷ g)

  pub eval_matrix_poly : (ω : Elem q) (g : Poly q) (y : Elem q)
      → eval (matrix_poly ω g) y ≡ left_value ω (index_at (index c M) y) y (eval g y)
  unfolding matrix_poly
  eval_matrix_poly ω g y =
      eval_minus a (b ⊠ (ω ⊘ of k ∷ g)) y
      ∙ ap₂ ◌⊖◌ (eval-numerator y) (eval_mul R b (ω ⊘ of k ∷ g) y ∙ ap₂ ◌⊗◌ (eval-denominator y) (add_comm _ _))

  pub length_matrix_poly : (ω : Elem q) (g : Poly q) → length g ≡ k - 1 → length (matrix_poly ω g) ≡ 2 * k - 1
  unfolding matrix_poly
  length_matrix_poly ω g e =
      let G : Poly q = ω ⊘ of k ∷ g in
      let product = length-product R b G (omega (arith, length-denominator, sizeK_positive c M)) (omega arith) in
      omega (
        arith,
        sizeK_positive c M,
        length_difference a (b ⊠ G),
        product,
        length-numerator,
        length-denominator,
      )
