-- Opens the definitions of domains and their polynomials to computation. Assumes nothing.
use Rattle.field.specs.Power.{field_computes}
use Rattle.domain.specs.Size.{sizes, is_size, size_for}
use Rattle.domain.specs.Domain.{root, element, domain, inside, vanishing, lagrange, sum_over}
use Rattle.domain.specs.Polynomial.{vanishing_poly, values_on, interpolate, agreeing}

unfoldable pub domain_computes : Unit {0}
unfolding field_computes sizes is_size size_for root element domain inside vanishing lagrange sum_over vanishing_poly values_on interpolate agreeing
domain_computes = tt
