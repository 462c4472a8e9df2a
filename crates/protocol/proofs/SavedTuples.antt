-- The five kinds of tuples that one challenge saves, and how many there are of each: the few values of that challenge, and all values of the
-- others. Assumes nothing.
use Prim.Native.Nat.{◌-◌, ◌*◌}
use Rattle.algebra.specs.Counting.{AtMost}
use Rattle.algebra.proofs.Counting.{at_most_of}
use Rattle.algebra.proofs.ExactCounting.{exactly_at_most}
use Rattle.field.specs.Prime.{Prime}
use Rattle.field.specs.Element.{Elem}
use Rattle.domain.specs.Domain.{Outside}
use Rattle.domain.specs.Qualifies.{Qualifies}
use Rattle.domain.proofs.AllowedPoints.{exactly_outside}
use Rattle.protocol.specs.Three.{Three}
use Rattle.protocol.specs.Circuit.{Circuit, Sizes, sizes_of, largest}
use Rattle.protocol.specs.Demand3.{Demand3Holds}
use Rattle.protocol.specs.FalseProofs.{saved_byα, saved_byη, saved_byβ, saved_byδ, saved_byγ}
use Rattle.protocol.proofs.AdmissionLaws.{WellFormed, admitted_well_formed}
use Rattle.protocol.proofs.FewChallenges.{Attempt, RowHolds, TrueSums, TrueLine, LineHolds, TrueValues, MatrixHolds, ManyPass}
use Rattle.protocol.proofs.FewChallenges.{few_alphas, few_etas, few_betas, few_deltas, few_gammas}
use Rattle.protocol.proofs.MatrixPolynomials.{largest_size}
use Rattle.protocol.proofs.TripleCounting.{exactly_triples}
use Rattle.protocol.proofs.TupleCounting.{Kind, OfKind, at_most_tuples}

module _ {q : Prime} (T : Attempt q) where
  abbrev c : Circuit
  c = T.circuit

  abbrev s : Sizes
  s = sizes_of c

  -- allowed challenges
  abbrev Inα : Elem q → Type 0
  Inα = Outside c.|R|

  abbrev Inβ : Elem q → Type 0
  Inβ = Outside c.|C|

  abbrev Inγ : Elem q → Type 0
  Inγ = Outside (largest s.|K|)

  abbrev Any : Three (Elem q) → Type 0
  Any t = Unit {0}

  -- the tuples that each challenge saves
  abbrev pub byα : Kind q
  byα = record { α = λ α. RowHolds T α × TrueSums T α; η = λ α. Any; β = λ α η. Inβ; δ = λ α η β. Any; γ = λ α η β δ. Inγ }

  abbrev pub byη : Kind q
  byη = record { α = λ α. Inα α × ¬ TrueSums T α; η = TrueLine T; β = λ α η. Inβ; δ = λ α η β. Any; γ = λ α η β δ. Inγ }

  abbrev pub byβ : Kind q
  byβ = record { α = Inα; η = λ α η. ¬ TrueLine T α η; β = λ α η β. LineHolds T α η β × TrueValues T α η β; δ = λ α η β. Any; γ = λ α η β δ. Inγ }

  abbrev pub byδ : Kind q
  byδ = record { α = Inα; η = λ α. Any; β = λ α η β. Inβ β × ¬ TrueValues T α η β; δ = ManyPass T; γ = λ α η β δ. Inγ }

  abbrev pub byγ : Kind q
  byγ = record { α = Inα; η = λ α. Any; β = λ α η. Inβ; δ = λ α η β δ. ¬ ManyPass T α η β δ; γ = MatrixHolds T }

  module _ (demand3 : Demand3Holds) (Q : Qualifies q) where
    W : WellFormed q.p c
    W = admitted_well_formed q c T.admitted

    -- all allowed values of a challenge
    all_alphas : AtMost (q.p - c.|R|) Inα
    all_alphas = exactly_at_most (exactly_outside Q c.|R| W.R-size)

    all_betas : AtMost (q.p - c.|C|) Inβ
    all_betas = exactly_at_most (exactly_outside Q c.|C| W.C-size)

    all_gammas : AtMost (q.p - largest s.|K|) Inγ
    all_gammas = exactly_at_most (exactly_outside Q (largest s.|K|) (largest_size c))

    all_triples : AtMost (q.p * q.p * q.p) Any
    all_triples = exactly_at_most (exactly_triples q)

    pub saved_by_α : AtMost (saved_byα q s) (OfKind byα)
    unfolding saved_byα sizes_of
    saved_by_α =
        at_most_tuples byα _ _ _ _ _ (few_alphas T demand3 Q) (λ α _. all_triples) (λ α η _ _. all_betas) (λ α η β _ _ _. all_triples)
        (λ α η β δ _ _ _ _. all_gammas)

    pub saved_by_η : AtMost (saved_byη q s) (OfKind byη)
    unfolding saved_byη sizes_of
    saved_by_η =
        at_most_tuples byη _ _ _ _ _ (at_most_of (λ α a. a.0) all_alphas) (λ α a. few_etas T demand3 Q α a.0 a.1)
        (λ α η _ _. all_betas) (λ α η β _ _ _. all_triples) (λ α η β δ _ _ _ _. all_gammas)

    pub saved_by_β : AtMost (saved_byβ q s) (OfKind byβ)
    unfolding saved_byβ sizes_of
    saved_by_β =
        at_most_tuples byβ _ _ _ _ _ all_alphas (λ α _. at_most_of (λ η e. tt) all_triples)
        (λ α η a. few_betas T demand3 Q α a η) (λ α η β _ _ _. all_triples) (λ α η β δ _ _ _ _. all_gammas)

    pub saved_by_δ : AtMost (saved_byδ q s) (OfKind byδ)
    unfolding saved_byδ sizes_of
    saved_by_δ =
        at_most_tuples byδ _ _ _ _ _ all_alphas (λ α _. all_triples) (λ α η _ _. at_most_of (λ β b. b.0) all_betas)
        (λ α η β a _ b. few_deltas T demand3 Q α a η β b.0 b.1) (λ α η β δ _ _ _ _. all_gammas)

    pub saved_by_γ : AtMost (saved_byγ q s) (OfKind byγ)
    unfolding saved_byγ sizes_of
    saved_by_γ =
        at_most_tuples byγ _ _ _ _ _ all_alphas (λ α _. all_triples) (λ α η _ _. all_betas)
        (λ α η β _ _ _. at_most_of (λ δ d. tt) all_triples) (λ α η β δ _ _ _. few_gammas T α η β δ)
