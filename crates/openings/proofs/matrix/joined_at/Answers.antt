-- `openings::matrix::joined_at` meets its contract. Assumes nothing.
use borrow.Author.Rules.{rules}
use mathlib.Core.Path.{◌≡◌, refl, sym, ap, ap₂, ◌∙◌}
use mathlib.Core.Bool.{true}
use mathlib.Core.List.{List}
use Prim.Native.Nat.{ℕ}
use lib.ListN.{length}
use Rattle.field.specs.Element.{Elem, of, ◌⊕◌, ◌⊗◌}
use Rattle.field.specs.Power.{reciprocal}
use Rattle.field.proofs.Words.{of-result}
use Rattle.domain.specs.Size.{is_size, size_for}
use Rattle.domain.specs.Polynomial.{eval}
use Rattle.domain.proofs.Qualification.{known-qualifies}
use Rattle.protocol.specs.Three.{MatrixName, A, B, C, Three, map_three}
use Rattle.protocol.specs.Circuit.{Entry, Circuit, sizes_of}
use Rattle.protocol.specs.Messages.{matrix_quotient}
use Rattle.protocol.specs.Calls.{circuit_of}
use Rattle.protocol.proofs.MatrixPolynomials.{sizeK, largest_size}
use Rattle.shared.specs.Meanings.{three}
use Rattle.circuit.specs.Given.{given}
use Rattle.openings.proofs.ValueLaws.{joined-value}
use Rattle.openings.proofs.matrix.joined_at.Goals as goal
use Rattle.openings.proofs.matrix.joined_at.Goals.{After-largest_size}

-- the size that is inverted is one
inverted : (c : After-largest_size) → is_size c.largest_size.result ≡ true
unfolding circuit_of
inverted c =
    let l = c.args.circuit.now.matrices in
    let k : Circuit = circuit_of (given 0 0 0 l.a.now l.b.now l.c.now) in
    ap is_size (c.largest_size.ensures k refl) ∙ largest_size k

pub size_inverse-inverse-requires : goal.size_inverse-inverse-requires
size_inverse-inverse-requires c = record {
  lt_p = search rules;
  n_value = inverted c;
}

pub returns : goal.returns
unfolding sizes_of
returns c q K k matrices α β γ quotients =
    let a = c.args in
    let e = K.value in
    let h : MatrixName → Elem q = λ M. eval (matrix_quotient k α β M) γ in
    let first : of c.share_of-of_a.result ≡ of a.delta.a ⊗ of (sizeK k A) ⊗ h A =
    of-result _ (c.share_of-of_a.ensures q e)
    ∙ ap₂ (λ (t : Three (List Entry)) (v : Elem q). of a.delta.a ⊗ of (size_for (length t.a)) ⊗ v)
    (sym matrices) (of-result (h A) (quotients A)) in
    let second : of c.share_of-of_b.result ≡ of a.delta.b ⊗ of (sizeK k B) ⊗ h B =
    of-result _ (c.share_of-of_b.ensures q e)
    ∙ ap₂ (λ (t : Three (List Entry)) (v : Elem q). of a.delta.b ⊗ of (size_for (length t.b)) ⊗ v)
    (sym matrices) (of-result (h B) (quotients B)) in
    let last : of c.share_of-of_c.result ≡ of a.delta.c ⊗ of (sizeK k C) ⊗ h C =
    of-result _ (c.share_of-of_c.ensures q e)
    ∙ ap₂ (λ (t : Three (List Entry)) (v : Elem q). of a.delta.c ⊗ of (size_for (length t.c)) ⊗ v)
    (sym matrices) (of-result (h C) (quotients C)) in
    let two = of-result (of {q = q} _ ⊕ of _) (c.add.ensures q e) ∙ ap₂ ◌⊕◌ first second in
    let all = of-result (of {q = q} _ ⊕ of _) (c.add-all.ensures q e) ∙ ap₂ ◌⊕◌ two last in
    let inverse = of-result (reciprocal (of _)) (c.size_inverse-inverse.ensures q (known-qualifies K) e)
    ∙ ap (λ (n : ℕ). reciprocal (of {q = q} n)) (c.largest_size.ensures k matrices) in
    c.multiply.ensures q e ∙ ap₂ (λ (u v : Elem q). (u ⊗ v).word) all inverse
    ∙ ap (λ (v : Elem q). v.word) (sym (joined-value k α β γ (map_three of (three a.delta))))
