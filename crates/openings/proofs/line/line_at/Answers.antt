-- `openings::line::line_at` meets its contract. Assumes nothing.
use mathlib.Core.Path.{sym, ap, ap₂, ◌∙◌}
use mathlib.Core.List.{map, tail}
use Prim.Native.Nat.{ℕ}
use native.Mathlib.Omega.{arith}
use lib.ListN.{take}
use Rattle.field.specs.Element.{Elem, of, ◌⊕◌, ◌⊗◌, ◌⊖◌}
use Rattle.field.proofs.Words.{of-result}
use Rattle.domain.specs.Size.{is_size}
use Rattle.domain.specs.Polynomial.{Poly, eval, ◌⊞◌, remainder, interpolate}
use Rattle.domain.proofs.SizeLaws.{size_positive, size_bound}
use Rattle.domain.proofs.Qualification.{known-qualifies}
use Rattle.protocol.specs.Messages.{line, line_remainder, line_quotient}
use Rattle.poly.proofs.LentParts.{returned, lent_length}
use Rattle.prover.proofs.RowLaws.{known_formed}
use Rattle.openings.proofs.OpeningLaws.{made_in, made_holds, made_length, made_list, made_by_length}
use Rattle.openings.proofs.WordValues.{products_of, line-rest_made, line-quotient_made}
use Rattle.openings.proofs.line.line_at.Goals as goal

pub slice_bounds-rest-end : goal.slice_bounds-rest-end
slice_bounds-rest-end c = size_bound _ c.requires.c_value.0

pub slice_bounds-rest_into-end : goal.slice_bounds-rest_into-end
slice_bounds-rest_into-end c = lent_length 1024 (size_bound _ c.requires.c_value.0)

pub rest_into-requires : goal.rest_into-requires
rest_into-requires c =
    let long = lent_length 1024 (size_bound _ c.requires.c_value.0) in
    record {
      lt_p = c.requires.lt_p;
      out_value = ap is_size (sym long) ∙ c.requires.c_value.0;
      weights_len = (c.requires.columns_len.1 ∙ long, c.requires.columns_len.2 ∙ long);
    }

pub slice_bounds-rest-end-2 : goal.slice_bounds-rest-end-2
slice_bounds-rest-end-2 c = made_holds (made_in c.rest_into.new.out (size_bound _ c.requires.c_value.0) c.rest_into.auto.out)

pub slice_bounds-parted_at-end : goal.slice_bounds-parted_at-end
slice_bounds-parted_at-end c = made_length (made_in c.rest_into.new.out (size_bound _ c.requires.c_value.0) c.rest_into.auto.out)

pub parted_at-parts-requires : goal.parted_at-parts-requires
parted_at-parts-requires c =
    record {
      p_nonzero = omega (arith, c.requires.lt_p);
      f_nonzero =
          omega (
            arith,
            made_length (made_in c.rest_into.new.out (size_bound _ c.requires.c_value.0) c.rest_into.auto.out),
            size_positive _ c.requires.c_value.0,
          );
    }

pub returns : goal.returns
unfolding line_remainder
returns c q K lagrange k W eC α η weighed ẑ assigned =
    let rest_made = made_in c.rest_into.new.out (size_bound _ c.requires.c_value.0) c.rest_into.auto.out in
    let a = c.args in
    let i = a.input.now in
    let v = K.value in
    let Q = known-qualifies K in
    let β : Elem q = of a.beta in
    let mask : Poly q = map of i.m.now in
    let f : Poly q = line k mask ẑ α η in
    let rest : ℕ → Poly q = λ n. remainder n mask ⊞ interpolate n (products_of n a.weights.now i.z.now) in
    let read = made_list rest_made (rest i.circuit.c) (made_by_length rest_made rest (c.rest_into.ensures q K))
    ∙ line-rest_made Q k (known_formed K W) eC mask ẑ i.z.now assigned.on_columns α η a.weights.now weighed in
    let masked = c.evaluate-mask.ensures q v in
    let weight = of-result (eval (interpolate i.circuit.c (map of a.weights.now)) β)
    (c.interpolated_at.ensures q Q v i.circuit.c c.requires.c_value.0 β lagrange) in
    let whole = of-result (of {q = q} _ ⊗ of _ ⊕ of _) (c.multiply_add-line.ensures q v)
    ∙ ap₂ ◌⊕◌ (ap₂ ◌⊗◌ weight (of-result (eval ẑ β) assigned.at_point)) (of-result (eval mask β) masked) in
    let below =
    of-result (eval (map of (take c.args.input.now.circuit.c (returned 1024 c.args.input.now.circuit.c c.rest_into.new.out))) β)
    (c.parted_at-parts.ensures q v).whole ∙ ap (λ (g : Poly q). eval g β) read in
    record {
      is-mask = masked;
      is-remainder = (c.parted_at-parts.ensures q v).rest ∙ ap (λ (g : Poly q). (eval (tail g) β).word) read;
      is-quotient =
          c.over_vanishing.ensures q K (eval (line_quotient k f) β)
          (of-result (of {q = q} _ ⊖ of _) (c.subtract.ensures q v) ∙ ap₂ ◌⊖◌ whole below
          ∙ line-quotient_made Q k (known_formed K W) eC mask ẑ i.z.now assigned.on_columns α η a.weights.now weighed β);
    }
