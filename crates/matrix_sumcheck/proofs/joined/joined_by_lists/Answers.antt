-- `matrix_sumcheck::joined::joined_by_lists` meets its contract: zeros, and one matrix after the other. Assumes nothing.
use mathlib.Core.Path.{◌≡◌, ap, ap₂, ◌∙◌}
use mathlib.Core.Bool.{true}
use mathlib.Core.List.{map}
use Prim.Native.Nat.{ℕ, ◌+◌, ◌≤◌}
use native.Mathlib.Omega.{arith}
use lib.ListN.{length, replicate}
use Rattle.field.specs.Element.{Elem, of, 𝟘, words}
use Rattle.field.proofs.Words.{of_results}
use Rattle.domain.specs.Size.{is_size}
use Rattle.domain.specs.Polynomial.{Poly, ◌⊞◌}
use Rattle.protocol.specs.Three.{MatrixName, A, B, C, Three, map_three}
use Rattle.shared.specs.Meanings.{three}
use Rattle.matrix_sumcheck.specs.MatrixGiven.{word_lists}
use Rattle.poly.proofs.WordLists.{of-zeros}
use Rattle.matrix_sumcheck.proofs.JoinedForms.{joined_term, joined-fits, joined_made}
use Rattle.matrix_sumcheck.proofs.joined.joined_by_lists.Goals as goal

room : {l n s : ℕ} → l ≡ n → s ≤ n + 1 → s ≤ l + 1
room kept le = omega arith

sized : {l n : ℕ} → l ≡ n → is_size (n + 1) ≡ true → is_size (l + 1) ≡ true
sized kept size = ap (λ (m : ℕ). is_size (m + 1)) kept ∙ size

pub add_matrix-requires : goal.add_matrix-requires
add_matrix-requires c =
    let a = c.args in
    let l = a.circuit.now.matrices in
    let fit = joined-fits l.a.now l.b.now l.c.now (length a.out.now) c.requires.out_len in
    let kept = c.clear.auto.out in
    record {
      modulus = c.requires.modulus;
      entries_within = c.requires.three_within.in_a;
      entries_within_2 = c.requires.three_within_2.in_a;
      entries_in_bounds = (room kept fit.0, sized kept fit.3);
    }

-- the slice keeps its length
pub add_matrix-requires-2 : goal.add_matrix-requires-2
add_matrix-requires-2 c =
    let a = c.args in
    let l = a.circuit.now.matrices in
    let fit = joined-fits l.a.now l.b.now l.c.now (length a.out.now) c.requires.out_len in
    let kept = c.add_matrix.auto.out ∙ c.clear.auto.out in
    record {
      modulus = c.requires.modulus;
      entries_within = c.requires.three_within.in_b;
      entries_within_2 = c.requires.three_within_2.in_b;
      entries_in_bounds = (room kept fit.1, sized kept fit.3);
    }

pub add_matrix-requires-3 : goal.add_matrix-requires-3
add_matrix-requires-3 c =
    let a = c.args in
    let l = a.circuit.now.matrices in
    let fit = joined-fits l.a.now l.b.now l.c.now (length a.out.now) c.requires.out_len in
    let kept = c.add_matrix-2.auto.out ∙ c.add_matrix.auto.out ∙ c.clear.auto.out in
    record {
      modulus = c.requires.modulus;
      entries_within = c.requires.three_within.in_c;
      entries_within_2 = c.requires.three_within_2.in_c;
      entries_in_bounds = (room kept fit.2, sized kept fit.3);
    }

pub returns : goal.returns
returns c q k r m alpha beta G H L D =
    let a = c.args in
    let l = a.circuit.now.matrices in
    let n : ℕ = length a.out.now in
    let δ : Three (Elem q) = map_three of (three a.delta) in
    let term : ℕ → MatrixName → Poly q = joined_term (word_lists a.circuit.now) k (of alpha) (of beta) δ in
    let kept-by-first = c.add_matrix.auto.out ∙ c.clear.auto.out in
    let kept-by-second = c.add_matrix-2.auto.out ∙ kept-by-first in
    let zeros : map of c.clear.new.out ≡ replicate n (𝟘 {q = q}) = ap (map of) c.clear.ensures ∙ of-zeros n in
    let one : map of c.add_matrix.new.out ≡ replicate n 𝟘 ⊞ term n A =
    of_results _ (c.add_matrix.ensures q k A r m alpha beta (G A) H L D)
    ∙ ap₂ ◌⊞◌ zeros (ap (λ z. term z A) c.clear.auto.out) in
    let two : map of c.add_matrix-2.new.out ≡ replicate n 𝟘 ⊞ term n A ⊞ term n B =
    of_results _ (c.add_matrix-2.ensures q k B r m alpha beta (G B) H L D)
    ∙ ap₂ ◌⊞◌ one (ap (λ z. term z B) kept-by-first) in
    c.add_matrix-3.ensures q k C r m alpha beta (G C) H L D
    ∙ ap words
    (ap₂ ◌⊞◌ two (ap (λ z. term z C) kept-by-second)
    ∙ joined_made l.a.now l.b.now l.c.now n c.requires.out_len G alpha beta H δ)
