-- Counting of challenge tuples, one challenge after the other: at most the product of how many values each challenge has after the
-- challenges before it. Assumes nothing.
use mathlib.Core.Path.{ap}
use Prim.Native.Nat.{ℕ, ◌*◌}
use native.Mathlib.Omega.{arith}
use Rattle.algebra.specs.Counting.{AtMost}
use Rattle.algebra.proofs.Counting.{at_most_mono, at_most_injective}
use Rattle.algebra.proofs.PairCounting.{at_most_pairs}
use Rattle.field.specs.Prime.{Prime}
use Rattle.field.specs.Element.{Elem}
use Rattle.field.proofs.ElementLaws.{decide}
use Rattle.protocol.specs.Three.{Three}
use Rattle.protocol.specs.Conversation.{Challenges}
use Rattle.protocol.proofs.TripleCounting.{decide_triple}

-- a kind of tuple: what each challenge has, after those before it
pub record Kind (q : Prime) : Type 1 where
  pub α : Elem q → Type 0
  pub η : Elem q → Three (Elem q) → Type 0
  pub β : Elem q → Three (Elem q) → Elem q → Type 0
  pub δ : Elem q → Three (Elem q) → Elem q → Three (Elem q) → Type 0
  pub γ : Elem q → Three (Elem q) → Elem q → Three (Elem q) → Elem q → Type 0

module _ {q : Prime} (k : Kind q) where
  abbrev pub OfKind : Challenges (Elem q) → Type 0
  OfKind t =
      k.α t.α × k.η t.α t.η × k.β t.α t.η t.β × k.δ t.α t.η t.β t.δ × k.γ t.α t.η t.β t.δ t.γ

  pub at_most_tuples :
      (a e b d g : ℕ) → AtMost a k.α → ((α : Elem q) → k.α α → AtMost e (k.η α))
      → ((α : Elem q) (η : Three (Elem q)) → k.α α → k.η α η → AtMost b (k.β α η))
      → ((α : Elem q) (η : Three (Elem q)) (β : Elem q) → k.α α → k.η α η → k.β α η β → AtMost d (k.δ α η β))
      → ((α : Elem q) (η : Three (Elem q)) (β : Elem q) (δ : Three (Elem q))
      → k.α α → k.η α η → k.β α η β → k.δ α η β δ → AtMost g (k.γ α η β δ))
      → AtMost (a * e * b * d * g) OfKind
  at_most_tuples a e b d g few-α few-η few-β few-δ few-γ =
      at_most_mono (a * (e * (b * (d * g)))) (a * e * b * d * g) (omega arith) (λ t h. h)
      (at_most_injective (λ t. (t.α, (t.η, (t.β, (t.δ, t.γ))))) _
      (λ t u _ _ same. ap (λ (α, (η, (β, (δ, γ)))). record { α = α; η = η; β = β; δ = δ; γ = γ }) same)
      (λ t (hα, hη, hβ, hδ, hγ). (hα, (hη, (hβ, (hδ, hγ)))))
      (at_most_pairs decide _ _ k.α (λ α (η, (β, (δ, γ))). k.η α η × (k.β α η β × (k.δ α η β δ × k.γ α η β δ γ))) few-α
      (λ α hα.
      at_most_pairs decide_triple _ _ (k.η α) (λ η (β, (δ, γ)). k.β α η β × (k.δ α η β δ × k.γ α η β δ γ)) (few-η α hα)
      (λ η hη.
      at_most_pairs decide _ _ (k.β α η) (λ β (δ, γ). k.δ α η β δ × k.γ α η β δ γ) (few-β α η hα hη)
      (λ β hβ. at_most_pairs decide_triple _ _ (k.δ α η β) (k.γ α η β) (few-δ α η β hα hη hβ) (λ δ. few-γ α η β δ hα hη hβ))))))
