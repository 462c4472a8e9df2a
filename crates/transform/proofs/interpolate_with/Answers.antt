-- `transform::interpolate_with` meets its contract. Assumes nothing.
use mathlib.Core.Path.{◌≡◌, sym, ap, ◌∙◌}
use mathlib.Core.List.{List, map}
use Prim.Native.Nat.{ℕ, ◌-◌, ◌≤◌}
use native.Mathlib.Omega.{arith}
use lib.ListN.{length}
use Rattle.algebra.specs.Halving.{transform}
use Rattle.field.specs.Element.{Elem, of, words}
use Rattle.field.proofs.ElementLaws.{prime_ring}
use Rattle.domain.specs.Size.{is_size}
use Rattle.field.specs.Power.{reciprocal}
use Rattle.domain.specs.Domain.{element}
use Rattle.domain.specs.Polynomial.{◌·◌, interpolate}
use Rattle.domain.proofs.SizeLaws.{size_is-power, size_positive, size_bound}
use Rattle.transform.proofs.Directions.{to_coefficients-words}
use Rattle.transform.proofs.Parts.{part-whole}
use Rattle.transform.proofs.TableLaws.{prepared_by_value, below_by_value}
use Rattle.transform.proofs.interpolate_with.Goals as goal

pub overflow_cast-values : goal.overflow_cast-values
overflow_cast-values c =
    omega (arith, size_bound (length c.args.values.now) c.requires.out_len.1)

pub transform-requires : goal.transform-requires
transform-requires c =
    let n : ℕ = length c.args.values.now in
    let same : length c.args.out.now ≡ n = c.requires.out_len.0 in
    let in-powers : n ≤ length c.args.powers.now = c.requires.values_in_bounds.0 in
    let in-quotients : n ≤ length c.args.quotients.now = c.requires.values_in_bounds.1 in record {
      p_nonzero = omega (arith, c.requires.lt_p);
      out_value = ap is_size same ∙ c.requires.out_len.1;
      out_in_bounds = omega (arith, size_positive n c.requires.out_len.1);
      out_in_bounds_2 = (omega arith, omega arith);
    }

pub returns : goal.returns
returns c q Q e tables =
    let a = c.args in
    let vs : List (Elem q) = map of a.values.now in
    let n : ℕ = length a.values.now in
    let (k, within, size) = size_is-power n c.requires.out_len.1 in
    let share = c.size_inverse-share in
    c.transform.ensures q e (below_by_value e Q.small) (element n (n - 1)) k (c.requires.out_len.0 ∙ size)
    (tables k size).levels (prepared_by_value a.powers.now a.quotients.now e (tables k size).prepared)
    ∙ ap words (part-whole share.result a.values.now k (element n (n - 1)) size
    ∙ ap (λ (m : ℕ). transform (prime_ring q) k (element m (m - 1)) (of share.result · vs)) size
    ∙ to_coefficients-words Q k within a.values.now size share.result
    (share.ensures q Q e ∙ ap (λ (m : ℕ). (reciprocal (of {q = q} m)).word) size)
    ∙ ap (λ (m : ℕ). interpolate m vs) (sym size))
