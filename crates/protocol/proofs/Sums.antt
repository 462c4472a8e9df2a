-- The sum over C that the line claim is about, by its parts: the mask's sum and Σ η_M ẑ_M(α). So a false claimed sum leaves exactly p² of
-- the p³ triples η for which the line claim holds; true ones leave all or none, as the mask adds to 0 or not. Assumes nothing.
use mathlib.Core.Path.{◌≡◌, sym, ap, ap₂, ◌∙◌}
use mathlib.Core.List.{[], ◌∷◌}
use Rattle.algebra.specs.Ring.{CommRing}
use Rattle.algebra.proofs.ExactCounting.{exactly_none, exactly_same}
use Rattle.algebra.proofs.RingLaws.{sub_zero→eq, eq→sub_zero}
use Rattle.algebra.proofs.Solver.{◌:+◌, ◌:-◌, ◌:*◌, :-◌, ◌:=◌, ◌⊙◌, ◌from◌, ring, ring_by}
use Rattle.field.specs.Prime.{Prime}
use Rattle.field.specs.Element.{Elem, 𝟘, ◌⊕◌, ◌⊗◌, ◌⊖◌}
use Rattle.field.proofs.ElementLaws.{prime_ring}
use Rattle.domain.specs.Domain.{element, sum_over}
use Rattle.domain.specs.Polynomial.{Poly, eval}
use Rattle.domain.proofs.DomainLaws.{sum_over_ext, sum_over-add, sum_over-scale}
use Rattle.protocol.specs.Three.{MatrixName, A, B, C, Three, at, each}
use Rattle.protocol.specs.Circuit.{Circuit, extension}
use Rattle.protocol.specs.Checks.{Transcript, weighted, line_left}
use Rattle.protocol.specs.Messages.{assignment, image, sums, values}
use Rattle.protocol.specs.Demand3.{Setting, LineClaimAt, SumsCaught, SumsTrue}
use Rattle.protocol.proofs.LinearCounting.{linear, linear_solutions}
use Rattle.protocol.proofs.ThreeLaws.{at_each}
use Rattle.protocol.proofs.TripleCounting.{exactly_triples}

module _ {q : Prime} (c : Circuit) (m ẑ : Poly q) (α : Elem q) where
  abbrev R : CommRing (Elem q)
  R = prime_ring q

  abbrev term : MatrixName → Elem q → Elem q
  term M y = extension c M α y ⊗ eval ẑ y

  pub line-sum-parts :
      (η : Three (Elem q))
      → sum_over c.|C| (λ y. line_left η (values c α y) (eval m y) (eval ẑ y)) ≡ sum_over c.|C| (eval m) ⊕ weighted η (sums c ẑ α)
  unfolding line_left weighted values sums image
  line-sum-parts η =
      let scaled : MatrixName → Elem q → Elem q = λ M y. at η M ⊗ term M y in
      sum_over_ext c.|C| _ (λ y. eval m y ⊕ (scaled A y ⊕ scaled B y ⊕ scaled C y))
      (λ i l.
      let y : Elem q = element c.|C| i in
      ring R (eval m y ∷ eval ẑ y ∷ η.a ∷ η.b ∷ η.c ∷ extension c A α y ∷ extension c B α y ∷ extension c C α y ∷ [])
      (λ m z a b c u v w. m :+ (a :* u :+ b :* v :+ c :* w) :* z := m :+ (a :* (u :* z) :+ b :* (v :* z) :+ c :* (w :* z))) tt)
      ∙ sum_over-add c.|C| (eval m) (λ y. scaled A y ⊕ scaled B y ⊕ scaled C y)
      ∙ ap (λ v. sum_over c.|C| (eval m) ⊕ v)
      (sum_over-add c.|C| (λ y. scaled A y ⊕ scaled B y) (scaled C)
      ∙ ap₂ ◌⊕◌ (sum_over-add c.|C| (scaled A) (scaled B) ∙ ap₂ ◌⊕◌ (sum_over-scale c.|C| η.a (term A)) (sum_over-scale c.|C| η.b (term B)))
      (sum_over-scale c.|C| η.c (term C)))

module _ {q : Prime} (S : Setting q) (m : Poly q) (t : Transcript (Elem q)) where
  abbrev c : Circuit
  c = S.circuit

  abbrev ẑ : Poly q
  ẑ = assignment c S.x S.w

  abbrev σ : Three (Elem q)
  σ = t.sums

  -- ẑ_M(α), what σ_M claims to be
  abbrev truth : MatrixName → Elem q
  truth M = image c ẑ M t.α

  abbrev mask_sum : Elem q
  mask_sum = sum_over c.|C| (eval m)

  abbrev sum_errors : Three (Elem q)
  sum_errors = each (λ M. truth M ⊖ at σ M)

  -- how far the line claim is from true at η: linear in η
  abbrev line_error : Three (Elem q) → Elem q
  line_error = linear mask_sum sum_errors

  line_error_is :
      (η : Three (Elem q))
      → sum_over c.|C| (λ y. line_left η (values c t.α y) (eval m y) (eval ẑ y)) ⊖ weighted η σ ≡ line_error η
  unfolding weighted sums
  line_error_is η =
      ap (λ v. v ⊖ weighted η σ) (line-sum-parts c m ẑ t.α η)
      ∙ ring (prime_ring q) (mask_sum ∷ η.a ∷ η.b ∷ η.c ∷ truth A ∷ truth B ∷ truth C ∷ σ.a ∷ σ.b ∷ σ.c ∷ [])
      (λ m a b c u v w x y z.
      m :+ (a :* u :+ b :* v :+ c :* w) :- (a :* x :+ b :* y :+ c :* z) := m :+ ((u :- x) :* a :+ (v :- y) :* b :+ (w :- z) :* c)) tt

  claim_solves : (η : Three (Elem q)) → LineClaimAt q S m t η → line_error η ≡ 𝟘
  claim_solves η claim = sym (line_error_is η) ∙ eq→sub_zero (prime_ring q) _ _ claim

  solution_claims : (η : Three (Elem q)) → line_error η ≡ 𝟘 → LineClaimAt q S m t η
  solution_claims η none = sub_zero→eq (prime_ring q) _ _ (line_error_is η ∙ none)

  pub sums_caught : SumsCaught q S m t
  sums_caught M false =
      exactly_same solution_claims claim_solves
      (linear_solutions mask_sum sum_errors M
      (λ e. false (sym (sub_zero→eq (prime_ring q) _ _ (sym (at_each (λ M. truth M ⊖ at σ M) M) ∙ e)))))

  -- with true sums only the mask's sum is left of it
  true-sums_error : ((M : MatrixName) → at σ M ≡ truth M) → (η : Three (Elem q)) → line_error η ≡ mask_sum
  true-sums_error true η =
      ring_by (prime_ring q) (mask_sum ∷ η.a ∷ η.b ∷ η.c ∷ truth A ∷ truth B ∷ truth C ∷ σ.a ∷ σ.b ∷ σ.c ∷ [])
      (λ m a b c u v w x y z.
      m :+ ((u :- x) :* a :+ (v :- y) :* b :+ (w :- z) :* c) := m
      from ((:- a) ⊙ (x := u)) ∷ ((:- b) ⊙ (y := v)) ∷ ((:- c) ⊙ (z := w)) ∷ [])
      (true A, (true B, (true C, tt))) tt

  pub sums-true : SumsTrue q S m t
  sums-true true = (
    λ adds. exactly_same (λ η any. solution_claims η (true-sums_error true η ∙ adds)) (λ η claim. tt) (exactly_triples q),
    λ adds-not. exactly_none (λ η claim. adds-not (sym (true-sums_error true η) ∙ claim_solves η claim)),
  )
