-- The public columns: they stand within C, ẑ = ŵ v_X + x̂ holds x there whatever ŵ is, and column 0 is the first of them. Assumes nothing.
use mathlib.Core.Path.{◌≡◌, sym, ap, ◌∙◌}
use mathlib.Core.List.{List, [], ◌∷◌}
use Prim.Native.Nat.{ℕ, ◌*◌, ◌/◌, ◌<◌}
use lib.ListN.{length, get_or}
use native.Mathlib.Omega.{arith}
use native.Mathlib.Nat.{mul-le-mul_right, suc-mul, zero-mul}
use Rattle.algebra.proofs.PolynomialLaws.{length-tabulate, get_d_tabulate}
use Rattle.algebra.proofs.Solver.{◌:+◌, ◌:*◌, :0, :1, ◌:=◌, ◌⊙◌, ◌from◌, ring_by}
use Rattle.field.specs.Prime.{Prime}
use Rattle.field.specs.Element.{Elem, 𝟘}
use Rattle.field.proofs.ElementLaws.{prime_ring}
use Rattle.domain.specs.Domain.{element, vanishing}
use Rattle.domain.specs.Polynomial.{Poly, eval, interpolate, values_on}
use Rattle.domain.specs.Qualifies.{Qualifies}
use Rattle.domain.proofs.SizeLaws.{size_positive, size_divides, size_quotient_positive}
use Rattle.domain.proofs.DomainLaws.{inside-element, vanishing-inside, subgroup_element}
use Rattle.domain.proofs.Interpolation.{eval-interpolate, getD_values_on}
use Rattle.domain.proofs.ListLaws.{equal-entries}
use Rattle.protocol.specs.Circuit.{Circuit, sizes_of, public_part}
use Rattle.protocol.specs.Checks.{assignment_value}
use Rattle.protocol.specs.Messages.{assignment}
use Rattle.protocol.proofs.AdmissionLaws.{WellFormed}
use Rattle.protocol.proofs.MessagePolynomials.{eval-assignment}

module _ {p : ℕ} (c : Circuit) (W : WellFormed p c) where
  pub X-positive : 0 < c.|X|
  X-positive = size_positive c.|X| W.X-size

  -- the column of public word i
  pub column-below : (i : ℕ) → i < c.|X| → i * (c.|C| / c.|X|) < c.|C|
  column-below i l =
      let k : ℕ = c.|C| / c.|X| in
      let whole : c.|C| ≡ c.|X| * k = size_divides c.|X| c.|C| W.X-size W.C-size W.X-within in
      omega (
        arith,
        suc-mul i k,
        mul-le-mul_right k l,
        size_quotient_positive c.|X| c.|C| W.X-size W.C-size W.X-within,
      )

  -- the first public word is z at column 0
  pub public_first : {q : Prime} (z : List (Elem q)) → get_or (public_part c z) 0 𝟘 ≡ get_or z 0 𝟘
  unfolding public_part
  public_first z =
      get_d_tabulate c.|X| 0 (λ i. get_or z (i * (c.|C| / c.|X|)) 𝟘) 𝟘 X-positive ∙ ap (λ k. get_or z k 𝟘) (zero-mul (c.|C| / c.|X|))

module _ {q : Prime} (Q : Qualifies q) (c : Circuit) (W : WellFormed q.p c) (x : List (Elem q)) (w : Poly q) where
  abbrev z : List (Elem q)
  z = values_on c.|C| (assignment c x w)

  pub public_column : (i : ℕ) → i < c.|X| → get_or z (i * (c.|C| / c.|X|)) 𝟘 ≡ get_or x i 𝟘
  unfolding assignment_value sizes_of
  public_column i l =
      let a : Elem q = element c.|X| i in
      getD_values_on c.|C| (i * (c.|C| / c.|X|)) (assignment c x w) (column-below c W i l)
      ∙ ap (eval (assignment c x w)) (sym (subgroup_element Q c.|X| c.|C| W.X-size W.C-size W.X-within i))
      ∙ eval-assignment c (X-positive c W) x w a
      ∙ ring_by (prime_ring q) (eval w a ∷ vanishing c.|X| a ∷ eval (interpolate c.|X| x) a ∷ get_or x i 𝟘 ∷ [])
      (λ w v x u. w :* v :+ x := u from (w ⊙ (v := :0)) ∷ (:1 ⊙ (x := u)) ∷ [])
      (vanishing-inside Q c.|X| W.X-size a (inside-element Q c.|X| W.X-size i l), (eval-interpolate Q c.|X| W.X-size x i l, tt)) tt

  -- ẑ at column 0 is the first public word
  pub column-zero : get_or z 0 𝟘 ≡ get_or x 0 𝟘
  column-zero = ap (λ k. get_or z k 𝟘) (sym (zero-mul (c.|C| / c.|X|))) ∙ public_column 0 (X-positive c W)

  -- so x is the public part of ẑ's values on C
  pub public_part_lem : length x ≡ c.|X| → public_part c z ≡ x
  unfolding public_part
  public_part_lem x-length =
      let f : ℕ → Elem q = λ i. get_or z (i * (c.|C| / c.|X|)) 𝟘 in
      equal-entries 𝟘 (public_part c z) x (length-tabulate c.|X| f ∙ sym x-length)
      (λ i l. let below : i < c.|X| = omega (arith, length-tabulate c.|X| f) in get_d_tabulate c.|X| i f 𝟘 below ∙ public_column i below)
