-- `transform::evaluate_with` meets its contract. Assumes nothing.
use mathlib.Core.Path.{◌≡◌, sym, ap, ◌∙◌}
use mathlib.Core.List.{map}
use Prim.Native.Nat.{ℕ, ◌≤◌}
use native.Mathlib.Omega.{arith}
use lib.ListN.{length}
use Rattle.algebra.specs.Halving.{transform}
use Rattle.field.specs.Element.{of, words}
use Rattle.field.proofs.ElementLaws.{prime_ring}
use Rattle.domain.specs.Size.{is_size}
use Rattle.domain.specs.Domain.{root}
use Rattle.domain.specs.Polynomial.{Poly, ◌·◌, values_on}
use Rattle.domain.proofs.SizeLaws.{size_is-power, size_positive}
use Rattle.transform.proofs.Directions.{to_values-words}
use Rattle.transform.proofs.Parts.{part-whole}
use Rattle.transform.proofs.TableLaws.{prepared_by_value, below_by_value}
use Rattle.transform.proofs.evaluate_with.Goals as goal

pub transform-requires : goal.transform-requires
transform-requires c =
    let n : ℕ = length c.args.f.now in
    let same : length c.args.out.now ≡ n = c.requires.out_len.0 in
    let in-powers : n ≤ length c.args.powers.now = c.requires.f_in_bounds.0 in
    let in-quotients : n ≤ length c.args.quotients.now = c.requires.f_in_bounds.1 in record {
      p_nonzero = omega (arith, c.requires.lt_p);
      out_value = ap is_size same ∙ c.requires.out_len.1;
      out_in_bounds = omega (arith, size_positive n c.requires.out_len.1);
      out_in_bounds_2 = (omega arith, omega arith);
    }

pub returns : goal.returns
returns c q Q e tables =
    let a = c.args in
    let f : Poly q = map of a.f.now in
    let n : ℕ = length a.f.now in
    let (k, within, size) = size_is-power n c.requires.out_len.1 in
    c.transform.ensures q e (below_by_value e Q.small) (root n) k (c.requires.out_len.0 ∙ size) (tables k size).levels
    (prepared_by_value a.powers.now a.quotients.now e (tables k size).prepared)
    ∙ ap words (part-whole 1 a.f.now k (root n) size ∙ ap (λ (m : ℕ). transform (prime_ring q) k (root m) (of 1 · f)) size
    ∙ to_values-words Q k within a.f.now size ∙ ap (λ (m : ℕ). values_on m f) (sym size))
