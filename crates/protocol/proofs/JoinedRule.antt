-- The prover's h2 for α outside R and β outside C: it has its length, and with the true matrix values and the prover's g_M it passes
-- the joined check at every γ outside K, for every δ. Assumes nothing.
use mathlib.Core.Path.{◌≡◌, sym, ap, ap₂, ◌∙◌}
use mathlib.Core.List.{[], ◌∷◌}
use Prim.Native.Nat.{ℕ, suc, ◌+◌}
use lib.ListN.{length}
use native.Mathlib.Omega.{arith}
use Rattle.algebra.specs.Ring.{CommRing}
use Rattle.algebra.proofs.PolynomialLaws.{eval-scale, length-scale}
use Rattle.algebra.proofs.Solver.{◌:+◌, ◌:*◌, :-◌, ◌:=◌, ◌⊙◌, ◌from◌, ring, ring_by}
use Rattle.field.specs.Prime.{Prime}
use Rattle.field.specs.Element.{Elem, ◌⊗◌}
use Rattle.field.proofs.ElementLaws.{prime_ring}
use Rattle.domain.specs.Domain.{Outside, vanishing}
use Rattle.domain.specs.Polynomial.{Poly, eval, ◌·◌}
use Rattle.domain.specs.Qualifies.{Qualifies}
use Rattle.protocol.specs.Three.{MatrixName, A, B, C, Three, at, sum_matrices}
use Rattle.protocol.specs.Circuit.{Circuit, sizes_of, largest, extension}
use Rattle.protocol.specs.Index.{index_at, index}
use Rattle.protocol.specs.Checks.{matrix_right, selector}
use Rattle.protocol.specs.Messages.{lengths, matrix_remainder, matrix_quotient, joined_quotient}
use Rattle.protocol.proofs.AdmissionLaws.{WellFormed}
use Rattle.protocol.proofs.MatrixPolynomials.{sizeK, sizeK_positive, left_value}
use Rattle.protocol.proofs.JoinedPolynomials.{sum_matrices_ext, eval_sum_polys, length_sum_polys}
use Rattle.protocol.proofs.JoinedPolynomials.{share, cofactor, eval_cofactor, selector-is}
use Rattle.protocol.proofs.MatrixCheck.{matrix-length, matrix_rule, length-matrix_quotient}

module _ {q : Prime} (Q : Qualifies q) (c : Circuit) (W : WellFormed q.p c) (α β : Elem q) (α-outside : Outside c.|R| α)
    (β-outside : Outside c.|C| β) (δ : Three (Elem q)) where
  abbrev R : CommRing (Elem q)
  R = prime_ring q

  abbrev K : ℕ
  K = largest (sizes_of c).|K|

  -- h2 is the sum of these
  abbrev quotient_term : MatrixName → Poly q
  quotient_term M = at δ M ⊗ share c M · matrix_quotient c α β M

  pub length-joined_quotient : length (joined_quotient c α β δ) ≡ (lengths (sizes_of c)).joined_quotient
  unfolding joined_quotient lengths
  length-joined_quotient =
      let l : (M : MatrixName) → suc (length (quotient_term M)) ≡ sizeK c M + 0 = λ M.
      omega (
        arith,
        sizeK_positive c M,
        length-scale R (at δ M ⊗ share c M) (matrix_quotient c α β M),
        length-matrix_quotient Q c W α β α-outside β-outside M,
        matrix-length (sizes_of c) M,
      ) in
      omega (arith, length_sum_polys quotient_term (sizes_of c).|K| 0 l)

  -- the value of the prover's h2
  pub eval-joined_quotient : (y : Elem q)
      → eval (joined_quotient c α β δ) y ≡ sum_matrices (λ M. at δ M ⊗ share c M ⊗ eval (matrix_quotient c α β M) y)
  unfolding joined_quotient
  eval-joined_quotient y =
      eval_sum_polys quotient_term y ∙ sum_matrices_ext _ _ (λ M. eval-scale R (at δ M ⊗ share c M) (matrix_quotient c α β M) y)

  -- the prover's g_M and h2 make the sides equal at every point outside K
  pub joined_rule : (γ : Elem q) → Outside K γ
      → sum_matrices (λ M.
      at δ M ⊗ selector (sizes_of c) M γ
      ⊗ left_value c α β M (extension c M α β) (index_at (index c M) γ) γ (eval (matrix_remainder c α β M) γ))
      ≡ eval (joined_quotient c α β δ) γ ⊗ vanishing K γ
  unfolding joined_quotient
  joined_rule γ outside =
      sum_matrices_ext _ _ term
      ∙ ring R (eval (quotient_term A) γ ∷ eval (quotient_term B) γ ∷ eval (quotient_term C) γ ∷ vanishing K γ ∷ [])
      (λ a b c v. a :* v :+ b :* v :+ c :* v := (a :+ b :+ c) :* v) tt
      ∙ ap (λ x. x ⊗ vanishing K γ) (sym (eval_sum_polys quotient_term γ))
    where
      term : (M : MatrixName)
          → at δ M ⊗ selector (sizes_of c) M γ
          ⊗ left_value c α β M (extension c M α β) (index_at (index c M) γ) γ (eval (matrix_remainder c α β M) γ)
          ≡ eval (quotient_term M) γ ⊗ vanishing K γ
      term M = unfold matrix_right in
          ap₂ (λ s x. at δ M ⊗ s ⊗ x) (selector-is Q c M γ outside) (matrix_rule Q c W α β α-outside β-outside M γ)
          ∙ ring_by R
          (at δ M ∷ share c M ∷ eval (cofactor c M) γ ∷ eval (matrix_quotient c α β M) γ ∷ vanishing (sizeK c M) γ ∷ vanishing K γ
          ∷ eval (quotient_term M) γ ∷ [])
          (λ d s r h v w p. d :* (s :* r) :* (h :* v) := p :* w from (d :* s :* h ⊙ (r :* v := w)) ∷ ((:- w) ⊙ (p := d :* s :* h)) ∷ [])
          (eval_cofactor Q c M γ, (eval-scale R (at δ M ⊗ share c M) (matrix_quotient c α β M) γ, tt)) tt
