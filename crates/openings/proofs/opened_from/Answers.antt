-- `openings::opened_from` meets its contract. Assumes nothing.
use mathlib.Core.Path.{◌≡◌, refl, sym, ap₂, ◌∙◌}
use mathlib.Core.List.{List, ◌++◌}
use Prim.Native.Nat.{ℕ}
use lib.ListN.{length}
use Rattle.algebra.specs.Counting.{All}
use Rattle.field.specs.Prime.{Prime}
use Rattle.field.specs.Element.{Elem, of, ◌⊗◌}
use Rattle.field.proofs.Words.{of-result}
use Rattle.domain.specs.Domain.{vanishing}
use Rattle.domain.specs.Polynomial.{Poly, eval}
use Rattle.domain.proofs.Qualification.{known-qualifies}
use Rattle.protocol.specs.Three.{A, B, C, map_three}
use Rattle.protocol.specs.Circuit.{Circuit}
use Rattle.protocol.specs.Messages.{matrix_quotient, messages, openings}
use Rattle.protocol.specs.Calls.{entries_of, circuit_of}
use Rattle.circuit.specs.Given.{EntryWords, Within, Fits, circuit_words, input_words}
use Rattle.circuit.proofs.Fitting.{R-fits, C-fits, X-fits, X-below, shares}
use Rattle.prover.specs.CallGiven.{assignment_in}
use Rattle.prover.proofs.CallLaws.{assignment_on-C}
use Rattle.matrix_sumcheck.specs.MatrixGiven.{Challenged, EntriesWithin}
use Rattle.matrix_sumcheck.proofs.GivenLaws.{entries-within, matrix-given}
use Rattle.openings.proofs.OpeningLaws.{nine_same, three_same}
use Rattle.domain.proofs.Divisors.{outside_smaller}
use Rattle.openings.proofs.OutsideLaws.{outside_here, outside-matrix}
use Rattle.openings.proofs.opened_from.Goals as goal

append : {a b c d : List ℕ} → a ≡ b → c ≡ d → a ++ c ≡ b ++ d
append = ap₂ (λ (l m : List ℕ). l ++ m)

-- one matrix's entries, where rows and columns have lists of their numbers
entries_fit : {p r c x : ℕ} {ea eb ec z m : List ℕ} → Fits p r c x ea eb ec z m → (rows columns : List ℕ) → length rows ≡ r
    → length columns ≡ c → {l : List ℕ} → EntryWords l → All (Within r c) (entries_of l)
    → EntriesWithin (length rows) (length columns) l
entries_fit F rows columns er ec whole within = entries-within (R-fits F) (C-fits F) whole within (sym er) (sym ec)

-- v_R(α) v_C(β), from its factors
scaled : (q : Prime) (r c alpha beta u v : ℕ) {w : ℕ} → w ≡ (of {q = q} u ⊗ of v).word
    → u ≡ (vanishing r (of {q = q} alpha)).word → v ≡ (vanishing c (of {q = q} beta)).word
    → w ≡ (vanishing r (of {q = q} alpha) ⊗ vanishing c (of beta)).word
scaled q r c alpha beta u v made first second =
    made
    ∙ ap₂ (λ (x y : Elem q). (x ⊗ y).word) (of-result (vanishing r (of alpha)) first) (of-result (vanishing c (of beta)) second)

pub matrix_at-of_a-requires : goal.matrix_at-of_a-requires
matrix_at-of_a-requires c =
    let h = c.requires in
    let F = h.fits in
    record {
      lt_p = h.lt_p;
      r_value = (R-fits F, C-fits F);
      entries_within =
          entries_fit F c.args.lagrange.now.rows.now c.args.lagrange.now.columns.now h.rows_len.0 h.rows_len.1 F.lists.list-a F.within.in_a;
      outside_domain = outside-matrix h.points_outside A;
    }

pub matrix_at-of_b-requires : goal.matrix_at-of_b-requires
matrix_at-of_b-requires c =
    let h = c.requires in
    let F = h.fits in
    record {
      lt_p = h.lt_p;
      r_value = (R-fits F, C-fits F);
      entries_within =
          entries_fit F c.args.lagrange.now.rows.now c.args.lagrange.now.columns.now h.rows_len.0 h.rows_len.1 F.lists.list-b F.within.in_b;
      outside_domain = outside-matrix h.points_outside B;
    }

pub matrix_at-of_c-requires : goal.matrix_at-of_c-requires
matrix_at-of_c-requires c =
    let h = c.requires in
    let F = h.fits in
    record {
      lt_p = h.lt_p;
      r_value = (R-fits F, C-fits F);
      entries_within =
          entries_fit F c.args.lagrange.now.rows.now c.args.lagrange.now.columns.now h.rows_len.0 h.rows_len.1 F.lists.list-c F.within.in_c;
      outside_domain = outside-matrix h.points_outside C;
    }

pub assignment_at-assignment-requires : goal.assignment_at-assignment-requires
assignment_at-assignment-requires c =
    let h = c.requires in
    record {
      lt_p = h.lt_p;
      c_value = C-fits h.fits;
      columns_len = (h.rows_len.1, h.fits.z-length);
    }

pub line_at-at_beta-requires : goal.line_at-at_beta-requires
line_at-at_beta-requires c =
    let h = c.requires in
    record {
      lt_p = h.lt_p;
      c_value = (C-fits h.fits, h.points_outside.β-outside);
      columns_len = (h.rows_len.1, h.rows_len.2, h.fits.z-length);
    }

pub witness_at-requires : goal.witness_at-requires
witness_at-requires c =
    let h = c.requires in
    let F = h.fits in record {
      lt_p = h.lt_p;
      c_value = (C-fits F, X-fits F, X-below F);
      z_len = F.z-length;
      outside_domain = outside_smaller c.args.input.now.circuit.x (X-fits F) (C-fits F) (X-below F) h.points_outside.β-outside;
    }

pub row_quotient_at-requires : goal.row_quotient_at-requires
row_quotient_at-requires c =
    let h = c.requires in
    let F = h.fits in
    record {
      lt_p = h.lt_p;
      r_value = (R-fits F, h.points_outside.α-outside);
      rows_len = h.rows_len.0;
      all = ((shares F).in_a, (shares F).in_b);
    }

pub returns : goal.returns
unfolding circuit_of messages openings
returns c q K L η weighed =
    let a = c.args in
    let i = a.input.now in
    let w = i.circuit in
    let h = a.challenges.now in
    let F = c.requires.fits in
    let v = K.value in
    let Q = known-qualifies K in
    let k : Circuit = circuit_of (circuit_words w) in
    let α : Elem q = of h.alpha in
    let β : Elem q = of h.beta in
    let γ : Elem q = of h.gamma in
    let H : Challenged q a.p k h.alpha h.beta =
    record {
      well_formed = F.well_formed;
      α-outside = outside_here K c.requires.points_outside.α-outside;
      β-outside = outside_here K c.requires.points_outside.β-outside;
    } in
    let scale =
    scaled q w.r w.c h.alpha h.beta c.vanishing_value.result c.vanishing_value-2.result (c.multiply-scale.ensures q v)
    (c.vanishing_value.ensures q v) (c.vanishing_value-2.ensures q v) in
    let G = matrix-given K Q w.r w.c w.x w.matrices.a.now w.matrices.b.now w.matrices.c.now in
    let ẑ : Poly q = assignment_in q (input_words i) in
    let on = assignment_on-C F v Q i.mask in
    let first = c.matrix_at-of_a.ensures q k A (G A) H L scale in
    let second = c.matrix_at-of_b.ensures q k B (G B) H L scale in
    let third = c.matrix_at-of_c.ensures q k C (G C) H L scale in
    let assigned = c.assignment_at-assignment.ensures q K L.by_column k F.well_formed refl in
    let line = c.line_at-at_beta.ensures q K L.by_column k F.well_formed refl α (map_three of η) weighed ẑ
    (record { on_columns = on; at_point = assigned }) in
    append
    (nine_same (c.witness_at.ensures q K k F.well_formed refl refl (of i.mask) assigned) line.is-mask line.is-remainder
    line.is-quotient (c.row_quotient_at.ensures q K L.by_row k F.well_formed refl refl refl ẑ on)
    (c.joined_at.ensures q K k refl α β γ
    (three_same (λ M. (eval (matrix_quotient k α β M) γ).word) first.is-quotient second.is-quotient third.is-quotient))
    first.is-remainder second.is-remainder third.is-remainder)
    (append first.is-index (append second.is-index third.is-index))
