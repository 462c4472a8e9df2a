-- The honest witness: ŵ has its length, and ẑ made of it is z(Y) + r v_C(Y), so that its values on C are z. Assumes nothing.
use mathlib.Core.Path.{◌≡◌, sym, ap, ◌∙◌}
use mathlib.Core.List.{List, [], ◌∷◌}
use Prim.Native.Nat.{ℕ, ◌*◌, ◌/◌, ◌<◌}
use lib.ListN.{length, get_or}
use native.Mathlib.Omega.{arith}
use Rattle.algebra.specs.Ring.{CommRing}
use Rattle.algebra.proofs.Division.{length-quotient}
use Rattle.algebra.proofs.PolynomialLaws.{eval_add, eval-scale, length-add, length-scale, get_d_tabulate}
use Rattle.algebra.proofs.RingLaws.{eq→sub_zero}
use Rattle.algebra.proofs.Solver.{◌:+◌, ◌:-◌, ◌:*◌, :-◌, :0, :1, ◌:=◌, ◌⊙◌, ◌from◌, ring_by}
use Rattle.field.specs.Prime.{Prime}
use Rattle.field.specs.Element.{Elem, 𝟘, ◌⊕◌, ◌⊗◌, ◌⊖◌}
use Rattle.field.proofs.ElementLaws.{prime_ring}
use Rattle.domain.specs.Domain.{element, vanishing}
use Rattle.domain.specs.Polynomial.{Poly, eval, ◌⊟◌, ◌·◌, quotient, interpolate, values_on}
use Rattle.domain.specs.Qualifies.{Qualifies}
use Rattle.domain.proofs.ListLaws.{equal-entries}
use Rattle.domain.proofs.DomainLaws.{inside-element, vanishing-inside, subgroup_element}
use Rattle.domain.proofs.Interpolation.{eval-interpolate, length-interpolate, getD_values_on, length-values_on}
use Rattle.domain.proofs.Division.{vanishing_divides, length_vanishing_ratio, eval_vanishing_ratio, vanishing_ratio}
use Rattle.protocol.specs.Circuit.{Circuit, sizes_of, public_part}
use Rattle.protocol.specs.Checks.{assignment_value}
use Rattle.protocol.specs.Messages.{lengths, public_poly, witness, assignment}
use Rattle.protocol.proofs.AdmissionLaws.{WellFormed}
use Rattle.protocol.proofs.MessagePolynomials.{eval_minus, length_minus, eval-assignment}
use Rattle.protocol.proofs.PublicColumns.{X-positive, column-below}

module _ {q : Prime} (Q : Qualifies q) (c : Circuit) (W : WellFormed q.p c) (z : List (Elem q)) (r : Elem q) where
  abbrev R : CommRing (Elem q)
  R = prime_ring q

  abbrev z_poly : Poly q
  z_poly = interpolate c.|C| z

  abbrev x_poly : Poly q
  x_poly = interpolate c.|X| (public_part c z)

  -- z(Y) - x̂(Y) is 0 on X
  difference_on-X : (i : ℕ) → i < c.|X| → eval (z_poly ⊟ x_poly) (element c.|X| i) ≡ 𝟘
  unfolding public_part
  difference_on-X i l =
      eval_minus z_poly x_poly (element c.|X| i)
      ∙ eq→sub_zero R _ _
      (ap (eval z_poly) (subgroup_element Q c.|X| c.|C| W.X-size W.C-size W.X-within i)
      ∙ eval-interpolate Q c.|C| W.C-size z (i * (c.|C| / c.|X|)) (column-below c W i l)
      ∙ sym (eval-interpolate Q c.|X| W.X-size (public_part c z) i l ∙ get_d_tabulate c.|X| i (λ i. get_or z (i * (c.|C| / c.|X|)) 𝟘) 𝟘 l))

  pub length-witness : length (witness c z r) ≡ (lengths (sizes_of c)).witness
  unfolding witness public_poly lengths sizes_of
  length-witness = omega (
    arith,
    length-add R (quotient c.|X| (z_poly ⊟ x_poly)) (r · vanishing_ratio c.|X| c.|C|),
    length-quotient R c.|X| (z_poly ⊟ x_poly) (X-positive c W),
    length_minus z_poly x_poly (omega (arith, length-interpolate c.|C| z, length-interpolate c.|X| (public_part c z), W.X-within)),
    length-interpolate c.|C| z,
    length-scale R r (vanishing_ratio {q = q} c.|X| c.|C|),
    length_vanishing_ratio q c.|X| c.|C| W.X-size W.C-size W.X-within,
    W.X-within,
  )

  abbrev ẑ : Poly q
  ẑ = assignment c (public_part c z) (witness c z r)

  pub eval-ẑ : (y : Elem q) → eval ẑ y ≡ eval z_poly y ⊕ r ⊗ vanishing c.|C| y
  unfolding witness public_poly assignment_value sizes_of
  eval-ẑ y =
      let high : Poly q = quotient c.|X| (z_poly ⊟ x_poly) in
      let ratio : Poly q = vanishing_ratio c.|X| c.|C| in
      eval-assignment c (X-positive c W) (public_part c z) (witness c z r) y
      ∙ ap (λ w. w ⊗ vanishing c.|X| y ⊕ eval x_poly y) (eval_add R high (r · ratio) y ∙ ap (λ v. eval high y ⊕ v) (eval-scale R r ratio y))
      ∙ ring_by R (eval high y ∷ r ∷ eval ratio y ∷ vanishing c.|X| y ∷ eval z_poly y ∷ eval x_poly y ∷ vanishing c.|C| y ∷ [])
      (λ h r s v z x w. (h :+ r :* s) :* v :+ x := z :+ r :* w from ((:- :1) ⊙ (z :- x := h :* v)) ∷ (r ⊙ (s :* v := w)) ∷ []) (
        sym (eval_minus z_poly x_poly y) ∙ vanishing_divides Q c.|X| W.X-size (z_poly ⊟ x_poly) difference_on-X y,
        (eval_vanishing_ratio c.|X| c.|C| W.X-size W.C-size W.X-within y, tt),
      ) tt

  pub witness_rule : (y : Elem q)
      → eval (witness c z r) y ⊗ vanishing c.|X| y ≡ eval z_poly y ⊖ eval (public_poly c (public_part c z)) y ⊕ r ⊗ vanishing c.|C| y
  unfolding public_poly assignment_value sizes_of
  witness_rule y =
      ring_by R (eval (witness c z r) y ∷ vanishing c.|X| y ∷ eval z_poly y ∷ eval x_poly y ∷ r ∷ vanishing c.|C| y ∷ [])
      (λ w v z x r u. w :* v := z :- x :+ r :* u from (:1 ⊙ (w :* v :+ x := z :+ r :* u)) ∷ [])
      (sym (eval-assignment c (X-positive c W) (public_part c z) (witness c z r) y) ∙ eval-ẑ y, tt) tt

  pub assignment-values : length z ≡ c.|C| → values_on c.|C| ẑ ≡ z
  assignment-values z-length =
      equal-entries 𝟘 (values_on c.|C| ẑ) z (length-values_on c.|C| ẑ ∙ sym z-length)
      (λ i l.
      let k : i < c.|C| = omega (arith, length-values_on c.|C| ẑ) in
      getD_values_on c.|C| i ẑ k ∙ eval-ẑ (element c.|C| i)
      ∙ ring_by R (eval z_poly (element c.|C| i) ∷ r ∷ vanishing c.|C| (element c.|C| i) ∷ get_or z i 𝟘 ∷ [])
      (λ z r v u. z :+ r :* v := u from (r ⊙ (v := :0)) ∷ (:1 ⊙ (z := u)) ∷ []) (
        vanishing-inside Q c.|C| W.C-size _ (inside-element Q c.|C| W.C-size i k),
        (eval-interpolate Q c.|C| W.C-size z i k, tt),
      ) tt)
