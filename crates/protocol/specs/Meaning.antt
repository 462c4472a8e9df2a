-- What a check means, said once: a claim is true exactly when some polynomials of the allowed lengths make the check's two
-- sides equal at more allowed points than its degree (the commission's third demand). Assumes nothing.
use Rattle.std.specs.Prelude.{◌≡◌, ℕ}
use Rattle.algebra.specs.Counting.{MoreThan}
use Rattle.field.specs.Prime.{Prime}
use Rattle.field.specs.Element.{Elem}

-- Choice: the polynomials sought. Fits: they have the allowed lengths. Equal c y: the two sides are equal at the point y.
-- Allowed: the points that the challenge may be.
pub record CheckMeans {q : Prime} {Choice : Type 0} (Claim : Type 0) (Fits : Choice → Type 0) (Equal : Choice → Elem q → Type 0) (Allowed : Elem q → Type 0) (degree : ℕ) : Type 0 where
  -- a true claim has such polynomials
  pub complete : Claim → (c : Choice) × Fits c × MoreThan degree (λ y. Allowed y × Equal c y)
  -- such polynomials make the claim true
  pub sound : (c : Choice) → Fits c → MoreThan degree (λ y. Allowed y × Equal c y) → Claim
  -- "Any two such choices of polynomials are the same words"
  pub unique :
      (c d : Choice) → Fits c → Fits d → MoreThan degree (λ y. Allowed y × Equal c y) → MoreThan degree (λ y. Allowed y × Equal d y) → c ≡ d
  -- "and with them the sides are equal at every allowed point"
  pub everywhere : (c : Choice) → Fits c → MoreThan degree (λ y. Allowed y × Equal c y) → (y : Elem q) → Allowed y → Equal c y
