-- `openings::line::witness_at` meets its contract. Assumes nothing.
use mathlib.Core.Path.{sym, ap, ap₂, ◌∙◌}
use mathlib.Core.List.{List, map}
use Prim.Native.Nat.{ℕ, ◌*◌, ◌/◌}
use native.Mathlib.Omega.{arith}
use native.Mathlib.Nat.{div-le_self}
use lib.ListN.{get_or}
use Rattle.algebra.specs.Lists.{tabulate}
use Rattle.field.specs.Element.{Elem, of, ◌⊗◌, ◌⊖◌}
use Rattle.field.proofs.Words.{of-result}
use Rattle.domain.specs.Size.{is_size}
use Rattle.domain.specs.Domain.{vanishing}
use Rattle.domain.specs.Polynomial.{eval, interpolate}
use Rattle.domain.proofs.SizeLaws.{size_positive, size_bound, size_quotient_positive}
use Rattle.domain.proofs.Qualification.{known-qualifies}
use Rattle.protocol.specs.Circuit.{public_part}
use Rattle.protocol.specs.Messages.{witness, assignment}
use Rattle.poly.proofs.LentParts.{lent_length}
use Rattle.matrix_sumcheck.specs.MatrixGiven.{lagrange_values}
use Rattle.prover.proofs.RowLaws.{known_formed}
use Rattle.prover.proofs.WitnessLaws.{public_words_lem, public_within}
use Rattle.openings.proofs.OpeningLaws.{made_in, made_holds, made_length, made_is, made_by_length}
use Rattle.openings.proofs.ValueLaws.{witness-value}
use Rattle.openings.proofs.line.witness_at.Goals as goal

pub slice_bounds-lagrange-end : goal.slice_bounds-lagrange-end
slice_bounds-lagrange-end c = size_bound _ c.requires.c_value.1

pub slice_bounds-lagrange_values_into-end : goal.slice_bounds-lagrange_values_into-end
slice_bounds-lagrange_values_into-end c = lent_length 1024 (size_bound _ c.requires.c_value.1)

pub lagrange_values_into-requires : goal.lagrange_values_into-requires
lagrange_values_into-requires c =
    record {
      lt_p = c.requires.lt_p;
      out_value = ap is_size (sym (lent_length 1024 (size_bound _ c.requires.c_value.1))) ∙ c.requires.c_value.1;
    }

pub nonzero_div-c : goal.nonzero_div-c
nonzero_div-c c = size_positive _ c.requires.c_value.1

pub overflow_cast-c : goal.overflow_cast-c
overflow_cast-c c =
    let k = c.args.input.now.circuit in
    omega (arith, div-le_self k.c k.x, size_bound k.c c.requires.c_value.0)

pub slice_bounds-public-end : goal.slice_bounds-public-end
slice_bounds-public-end c = size_bound _ c.requires.c_value.1

pub slice_bounds-public_words_into-end : goal.slice_bounds-public_words_into-end
slice_bounds-public_words_into-end c = lent_length 1024 (size_bound _ c.requires.c_value.1)

pub public_words_into-requires : goal.public_words_into-requires
public_words_into-requires c =
    let sizes = c.requires.c_value in (
      size_quotient_positive _ _ sizes.1 sizes.0 sizes.2,
      public_within c.args.input.now.z.now _ sizes.0 sizes.1 sizes.2 c.requires.z_len (size_bound _ c.requires.c_value.1),
    )

pub slice_bounds-lagrange-end-2 : goal.slice_bounds-lagrange-end-2
slice_bounds-lagrange-end-2 c =
    made_holds (made_in c.lagrange_values_into.new.out (size_bound _ c.requires.c_value.1) c.lagrange_values_into.auto.out)

pub slice_bounds-interpolated_at-end : goal.slice_bounds-interpolated_at-end
slice_bounds-interpolated_at-end c =
    made_length (made_in c.lagrange_values_into.new.out (size_bound _ c.requires.c_value.1) c.lagrange_values_into.auto.out)

pub slice_bounds-public-end-2 : goal.slice_bounds-public-end-2
slice_bounds-public-end-2 c =
    made_holds (made_in c.public_words_into.new.out (size_bound _ c.requires.c_value.1) c.public_words_into.auto.out)

pub slice_bounds-interpolated_at-end-2 : goal.slice_bounds-interpolated_at-end-2
slice_bounds-interpolated_at-end-2 c =
    made_length (made_in c.public_words_into.new.out (size_bound _ c.requires.c_value.1) c.public_words_into.auto.out)

pub interpolated_at-known-requires : goal.interpolated_at-known-requires
interpolated_at-known-requires c =
    record {
      p_nonzero = omega (arith, c.requires.lt_p);
      values_len =
          sym (made_length (made_in c.public_words_into.new.out (size_bound _ c.requires.c_value.1) c.public_words_into.auto.out))
          ∙ made_length (made_in c.lagrange_values_into.new.out (size_bound _ c.requires.c_value.1) c.lagrange_values_into.auto.out);
    }

pub returns : goal.returns
returns c q K k W eC eX r assigned =
    let lagrange_made = made_in c.lagrange_values_into.new.out (size_bound _ c.requires.c_value.1) c.lagrange_values_into.auto.out in
    let a = c.args in
    let input = a.input.now in
    let v = K.value in
    let Q = known-qualifies K in
    let β : Elem q = of a.beta in
    let z : List (Elem q) = map of input.z.now in
    let x = public_part k z in
    let read = made_is lagrange_made
    ∙ made_by_length lagrange_made (λ (n : ℕ). lagrange_values n β) (c.lagrange_values_into.ensures q K) in
    let public = ap (map (of {q = q}))
    (made_is (made_in c.public_words_into.new.out (size_bound _ c.requires.c_value.1) c.public_words_into.auto.out)
    ∙ c.public_words_into.ensures
    ∙ ap (λ (n : ℕ). tabulate n (λ i. get_or input.z.now (i * (input.circuit.c / input.circuit.x)) 0))
    (sym (lent_length 1024 (size_bound _ c.requires.c_value.1))))
    ∙ public_words_lem k input.z.now eC eX in
    let known =
    of-result (eval (interpolate input.circuit.x _) β) (c.interpolated_at-known.ensures q Q v input.circuit.x c.requires.c_value.1 β read)
    ∙ ap (λ (f : List (Elem q)). eval (interpolate input.circuit.x f) β) public ∙ ap (λ (n : ℕ). eval (interpolate n x) β) (sym eX) in
    c.over_vanishing.ensures q K (eval (witness k z r) β)
    (of-result (of {q = q} _ ⊖ of _) (c.subtract.ensures q v)
    ∙ ap₂ ◌⊖◌ (of-result (eval (assignment k x (witness k z r)) β) assigned) known
    ∙ witness-value Q k (known_formed K W) z r β ∙ ap (λ (n : ℕ). eval (witness k z r) β ⊗ vanishing n β) eX)
