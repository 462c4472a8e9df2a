-- Repeated conversations: how many lists of tuples there are, how many of them are accepted throughout, and how many conversations are
-- enough. Assumes nothing.
use mathlib.Core.Path.{◌≡◌, refl, sym, ap, ◌∙◌}
use mathlib.Core.Bool.{Bool, true, false}
use mathlib.Core.List.{List, [], ◌∷◌, tail}
use Prim.Native.Nat.{ℕ, zero, suc, ◌+◌, ◌-◌, ◌*◌, ◌^◌, ◌≤◌, ◌<◌}
use native.Mathlib.Omega.{arith}
use native.Mathlib.Nat.{pow-zero, pow-suc, mul_comm, mul-le-mul, mul-le-mul_right, pow-le-pow_left, le-div_iff_mul-le, le_trans}
use lib.Dec.{leb}
use lib.ListN.{length, get_or}
use borrow.Author.Tests.{leb-true, leb-false, le-leb}
use Rattle.algebra.specs.Counting.{All, Distinct, AtMost, Exactly}
use Rattle.algebra.specs.Lists.{pick, tabulate, first_or}
use Rattle.algebra.proofs.Counting.{all-tabulate, at_most_mono, at_most_one, at_most_injective}
use Rattle.algebra.proofs.PairCounting.{at_most_pairs}
use Rattle.algebra.proofs.PolynomialCounting.{exactly_lists-of}
use Rattle.field.specs.Prime.{Prime}
use Rattle.field.specs.Element.{Elem, 𝟘}
use Rattle.field.proofs.ElementLaws.{decide}
use Rattle.domain.specs.Qualifies.{Qualifies}
use Rattle.domain.proofs.ListLaws.{first_or_all, first_or_passes}
use Rattle.domain.proofs.SizeLaws.{size_bound}
use Rattle.protocol.specs.Three.{Three, each}
use Rattle.protocol.specs.Circuit.{Circuit, Sizes, sizes_of, largest}
use Rattle.protocol.specs.Admission.{Admitted}
use Rattle.protocol.specs.Conversation.{Challenges}
use Rattle.protocol.specs.Demand3.{Demand3Holds}
use Rattle.protocol.specs.FalseProofs.{EndsInAccept, Allowed, all_tuples, saved_byα, saved_byη, saved_byβ, saved_byδ, saved_byγ, five_counts, one_in_many}
use Rattle.protocol.specs.Repeated.{Repeating, most_repeats, fewest_repeats, AllAccept, Accepted, Unknowing}
use Rattle.protocol.proofs.AdmissionLaws.{WellFormed, admitted_well_formed}
use Rattle.protocol.proofs.AllowedTuples.{allowed_tuples, sum_positive, largest_multiple}
use Rattle.protocol.proofs.FalseProofs.{without_knowledge}
use Rattle.protocol.proofs.MatrixPolynomials.{largest_size}
use Rattle.protocol.proofs.TripleCounting.{decide_triple}

-- tuples are equal or not
decide_pair : {A B : Type 0} → ((a b : A) → Dec (a ≡ b)) → ((a b : B) → Dec (a ≡ b)) → (s t : A × B) → Dec (s ≡ t)
decide_pair {A} {B} first second s t = elim (first s.0 t.0) [
  | no other ↦ no (λ e. other (ap (λ (u : A × B). u.0) e))
  | yes same ↦ elim (second s.1 t.1) [ no other ↦ no (λ e. other (ap (λ (u : A × B). u.1) e)) | yes too ↦ yes (λ i. (same i, too i)) ]
]

module _ {q : Prime} where
  abbrev parts : Challenges (Elem q) → Elem q × (Three (Elem q) × (Elem q × (Three (Elem q) × Elem q)))
  parts t = (t.α, (t.η, (t.β, (t.δ, t.γ))))

  decide_tuple : (s t : Challenges (Elem q)) → Dec (s ≡ t)
  decide_tuple s t =
      elim (decide_pair decide (decide_pair decide_triple (decide_pair decide (decide_pair decide_triple decide))) (parts s) (parts t)) [
        | yes e ↦ yes (ap (λ (α, (η, (β, (δ, γ)))). record { α = α; η = η; β = β; δ = δ; γ = γ }) e)
        | no other ↦ no (λ e. other (ap parts e))
      ]

  no_tuple : Challenges (Elem q)
  no_tuple = let zeros : Three (Elem q) = each (λ M. 𝟘) in record { α = 𝟘; η = zeros; β = 𝟘; δ = zeros; γ = 𝟘 }

  pub all-lists :
      Qualifies q → (c : Circuit) → Admitted q c → (k : ℕ)
      → Exactly (all_tuples q (sizes_of c) ^ k) (λ ts. (length ts ≡ k) × All (Allowed {q = q} c) ts)
  all-lists Q c admitted = exactly_lists-of no_tuple (allowed_tuples Q c admitted)

  -- a list that is not empty, in its two parts
  split : (ts : List (Challenges (Elem q))) → Challenges (Elem q) × List (Challenges (Elem q))
  split ts = (get_or ts 0 no_tuple, tail ts)

-- powers of a product
power_products : (m n k : ℕ) → (m * n) ^ k ≡ m ^ k * n ^ k
power_products m n zero = pow-zero (m * n) ∙ sym (λ i. pow-zero m i * pow-zero n i)
power_products m n (suc k) =
    pow-suc (m * n) k ∙ ap (λ a. a * (m * n)) (power_products m n k) ∙ rearranged (m ^ k) (n ^ k) ∙ sym (λ i. pow-suc m k i * pow-suc n k i)
  where
    rearranged : (a b : ℕ) → a * b * (m * n) ≡ a * m * (b * n)
    rearranged a b = omega arith

module _ {q : Prime} (Q : Qualifies q) (demand3 : Demand3Holds) (c : Circuit) (admitted : Admitted q c) (x : List (Elem q)) (P : Repeating q)
    (unknowing : Unknowing c x P) where
  abbrev five : ℕ
  five = five_counts q (sizes_of c)

  -- k conversations after those before, all accepted
  abbrev Following : ℕ → List (Challenges (Elem q)) → List (Challenges (Elem q)) → Type 0
  Following k before ts = (length ts ≡ k) × AllAccept c x P before ts

  few-after : (k : ℕ) (before : List (Challenges (Elem q))) → AtMost (five ^ k) (Following k before)
  unfolding split
  few-after zero before =
      at_most_mono 1 (five ^ zero) (omega (arith, pow-zero five)) (λ ts h. empty ts h.0) (at_most_one [])
    where
      empty : (ts : List (Challenges (Elem q))) → length ts ≡ 0 → ts ≡ []
      empty [] e = refl
      empty (t ∷ ts) e = absurd (omega arith)
  few-after (suc k) before =
      at_most_mono (five * five ^ k) (five ^ suc k) (omega (arith, pow-suc five k, mul_comm five (five ^ k))) (λ ts h. h)
      (at_most_injective split (five * five ^ k) injective into
      (at_most_pairs decide_tuple five (five ^ k) (EndsInAccept c x (P before)) (λ t. Following k (t ∷ before))
      (without_knowledge demand3 Q c admitted x (P before) (unknowing before)).few-accepted (λ t accepted. few-after k (t ∷ before))))
    where
      injective : (s t : List (Challenges (Elem q))) → Following (suc k) before s → Following (suc k) before t → split s ≡ split t → s ≡ t
      injective [] t h g e = absurd (omega (arith, h.0))
      injective (a ∷ s) [] h g e = absurd (omega (arith, g.0))
      injective (a ∷ s) (b ∷ t) h g e = ap (λ u. u.0 ∷ u.1) e

      into :
          (ts : List (Challenges (Elem q))) → Following (suc k) before ts
          → EndsInAccept c x (P before) (split ts).0 × Following k ((split ts).0 ∷ before) (split ts).1
      into [] h = absurd (omega (arith, h.0))
      into (t ∷ ts) (long, (first, rest)) = (first, (omega arith, rest))

  pub few-lists : (k : ℕ) → AtMost (five ^ k) (Accepted c x P k)
  few-lists k = few-after k []

  pub one_list_in :
      (k b : ℕ) → b ≤ one_in_many q (sizes_of c) ^ k → (l : List (List (Challenges (Elem q)))) → Distinct l → All (Accepted c x P k) l
      → b * length l ≤ all_tuples q (sizes_of c) ^ k
  one_list_in k b most l distinct accepted =
      let n : ℕ = one_in_many q (sizes_of c) in
      omega (
        arith,
        mul-le-mul most (few-lists k l distinct accepted),
        power_products n five k,
        pow-le-pow_left (largest_multiple Q c admitted).0 k,
      )

-- what stands before the first number that passes does not pass
first_or_earlier :
    (n : ℕ) (f : ℕ → ℕ) (t : ℕ → Bool) (d i : ℕ) → ((i j : ℕ) → i ≤ j → f i ≤ f j) → i < n → f i < first_or d t (tabulate n f) → t (f i) ≡ false
unfolding pick
first_or_earlier zero f t d i rising within earlier = absurd (omega arith)
first_or_earlier (suc n) f t d i rising within earlier =
    go (t (f 0)) refl i within earlier (λ i. first_or_earlier n (λ i. f (suc i)) t d i (λ i j l. rising (suc i) (suc j) (omega arith)))
  where
    go :
        (b : Bool) → t (f 0) ≡ b → (i : ℕ) → i < suc n → f i < pick b (f 0) (first_or d t (tabulate n (λ i. f (suc i))))
        → ((i : ℕ) → i < n → f (suc i) < first_or d t (tabulate n (λ i. f (suc i))) → t (f (suc i)) ≡ false) → t (f i) ≡ false
    go true e i l earlier rest = absurd (omega (arith, rising 0 i (omega arith)))
    go false e zero l earlier rest = e
    go false e (suc i) l earlier rest = rest i (omega arith) earlier

-- a tenth of one factor makes a tenth of the product, and five tenths are a half
half :
    (p r c k a b g : ℕ) → 10 * a ≤ r → 10 * b ≤ c → 10 * g ≤ k → 10 ≤ p
    → let p² : ℕ = p * p in
    let p³ : ℕ = p * p * p in
    2 * (a * p³ * c * p³ * k + r * p² * c * p³ * k + r * p³ * b * p³ * k + r * p³ * c * p² * k + r * p³ * c * p³ * g) ≤ r * p³ * c * p³ * k
half p r c k a b g few-a few-b few-g few =
    let p³ : ℕ = p * p * p in
    omega (
      arith,
      mul-le-mul_right (p³ * c * p³ * k) few-a,
      mul-le-mul_right (r * (p * p) * c * p³ * k) few,
      mul-le-mul_right (r * p³ * p³ * k) few-b,
      mul-le-mul_right (r * p³ * c * p³) few-g,
    )

-- one_in_many is at least 2 where the prime is not small
module _ {q : Prime} (Q : Qualifies q) (c : Circuit) (admitted : Admitted q c) (large : 2 ^ 16 < q.p) where
  abbrev W : WellFormed q.p c
  W = admitted_well_formed q c admitted

  abbrev s : Sizes
  s = sizes_of c

  half_counted : 2 * five_counts q s ≤ all_tuples q s
  unfolding five_counts all_tuples saved_byα saved_byη saved_byβ saved_byδ saved_byγ sizes_of
  half_counted =
      let k : ℕ = largest s.|K| in
      half q.p (q.p - c.|R|) (q.p - c.|C|) (q.p - k) (2 * c.|R| - 2) (2 * c.|C| - 1) (2 * k - 2)
      (omega (arith, size_bound c.|R| W.R-size)) (omega (arith, size_bound c.|C| W.C-size)) (omega (arith, size_bound k (largest_size c)))
      (omega arith)

  at_least_two : 2 ≤ one_in_many q s
  unfolding one_in_many
  at_least_two = (le-div_iff_mul-le (sum_positive Q c admitted)).1 half_counted

  pub fewest :
      (b : ℕ) → b ≤ 2 ^ most_repeats
      → let n : ℕ = one_in_many q (sizes_of c) in
      let k : ℕ = fewest_repeats n b in (b ≤ n ^ k) × ((j : ℕ) → j < k → n ^ j < b)
  unfolding fewest_repeats
  fewest b most =
      let n : ℕ = one_in_many q s in
      let enough : ℕ → Bool = λ k. leb b (n ^ k) in
      let numbers : List ℕ = tabulate most_repeats (λ k. k) in
      let k : ℕ = first_or most_repeats enough numbers in
      let last : b ≤ n ^ most_repeats = le_trans most (pow-le-pow_left at_least_two most_repeats) in
      let within : k ≤ most_repeats =
      first_or_all (λ k. k ≤ most_repeats) most_repeats enough numbers (omega arith)
      (all-tabulate (λ k. k ≤ most_repeats) most_repeats (λ k. k) (λ k l. omega arith)) in (
        leb-true b (n ^ k) (first_or_passes most_repeats enough numbers (le-leb b (n ^ most_repeats) last)),
        λ j below.
            leb-false b (n ^ j) (first_or_earlier most_repeats (λ k. k) enough most_repeats j (λ i j l. l) (omega arith) below),
      )
