-- The divisors of Lagrange values off their domain, and of the selectors, are not 0; nor is the word of v_D off D, whatever prime of its
-- value it is read for. Assumes nothing.
use mathlib.Core.Path.{◌≡◌, sym, ap, ◌∙◌}
use mathlib.Core.Logic.{◌≢◌}
use mathlib.Core.Bool.{true}
use Prim.Native.Nat.{ℕ, ◌≤◌}
use Rattle.algebra.proofs.FieldLaws.{mul-not-zero}
use Rattle.field.specs.Prime.{Prime}
use Rattle.field.specs.Element.{Elem, of, 𝟘, ◌⊗◌, ◌⊖◌}
use Rattle.field.proofs.ElementLaws.{prime_ring}
use Rattle.field.proofs.Field.{prime_field}
use Rattle.field.proofs.Words.{of-result, nonzero_by_value}
use Rattle.domain.specs.Size.{is_size}
use Rattle.domain.specs.Domain.{inside, Outside, vanishing}
use Rattle.domain.specs.Qualifies.{Qualifies}
use Rattle.domain.specs.Known.{OutsideDomain}
use Rattle.domain.proofs.SizeLaws.{size_not-zero}
use Rattle.domain.proofs.DomainLaws.{inside-is-element, vanishing-outside, outside-not-element, outside_subgroup}
use Rattle.domain.proofs.Qualification.{known-qualifies}

module _ {q : Prime} (Q : Qualifies q) where
  -- of L_a(y), for an element a
  pub lagrange_divisor_lem : (n : ℕ) → is_size n ≡ true → (a y : Elem q) → inside n a ≡ true → Outside n y → of n ⊗ (y ⊖ a) ≢ 𝟘
  lagrange_divisor_lem n s a y member o =
      let (i, i<n, e) = inside-is-element Q n s a member in
      mul-not-zero (prime_ring q) (prime_field q) (of n) (y ⊖ a) (size_not-zero n s)
      (λ z. outside-not-element Q n s y o i i<n (ap (λ x. y ⊖ x) (sym e) ∙ z))

  -- of s_M(y), for a domain of size m that lies in that of size n
  pub selector_divisor : (m n : ℕ) → is_size m ≡ true → is_size n ≡ true → m ≤ n → (y : Elem q) → Outside n y → of n ⊗ vanishing m y ≢ 𝟘
  selector_divisor m n s t m≤n y o =
      mul-not-zero (prime_ring q) (prime_field q) (of n) (vanishing m y) (size_not-zero n t)
      (vanishing-outside Q m s y (outside_subgroup Q m n s t m≤n y o))

-- outside a domain that lies in this one
pub outside_smaller : {p n y : ℕ} (m : ℕ) → is_size m ≡ true → is_size n ≡ true → m ≤ n → OutsideDomain p n y → OutsideDomain p m y
outside_smaller {n = n} {y} m s t le o =
    record { over = o.over; is-outside = outside_subgroup (known-qualifies o.over.known) m n s t le (of y) o.is-outside }

pub vanishing-word-not-zero : {p n y : ℕ} → OutsideDomain p n y → is_size n ≡ true → (w : ℕ)
    → ((q : Prime) → q.p ≡ p → w ≡ (vanishing n (of {q = q} y)).word) → (q : Prime) → q.p ≡ p → of {q = q} w ≢ 𝟘
vanishing-word-not-zero {n = n} {y} o s w made q e =
    let r = o.over.prime in
    let d = o.over.known.value in
    nonzero_by_value (e ∙ sym d) w (λ z.
    vanishing-outside (known-qualifies o.over.known) n s (of y) o.is-outside (sym (of-result (vanishing n (of {q = r} y)) (made r d)) ∙ z))
