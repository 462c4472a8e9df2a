-- The terms of M̂(α,β), one for each entry: as the code makes them at each place of K_M, from lists over the rows and the columns, and
-- a_M/b_M on K_M as their interpolation. Assumes nothing.
use mathlib.Core.Path.{◌≡◌, sym, ap, ap₂, ◌∙◌, subst}
use mathlib.Core.List.{List, [], ◌∷◌, ◌++◌, map, tail}
use Prim.Native.Nat.{ℕ, ◌-◌, ◌/◌, ◌%◌, ◌≤◌, ◌<◌}
use native.Mathlib.Decide.{dec_lt}
use native.Mathlib.Omega.{arith}
use lib.ListN.{length, get_or, replicate, length-map, length-append, length-replicate, get_or-eq_default}
use Rattle.algebra.specs.Lists.{tabulate}
use Rattle.algebra.proofs.PolynomialLaws.{length-tabulate, get_d_tabulate}
use Rattle.algebra.proofs.Solver.{◌:*◌, :0, ◌:=◌, ring}
use Rattle.field.specs.Prime.{Prime}
use Rattle.field.specs.Element.{Elem, of, 𝟘, ◌⊗◌, words}
use Rattle.field.proofs.ElementLaws.{prime_ring}
use Rattle.field.proofs.Words.{of-result}
use Rattle.domain.specs.Size.{max_size, size_for}
use Rattle.domain.specs.Domain.{element, lagrange}
use Rattle.domain.specs.Polynomial.{interpolate}
use Rattle.domain.proofs.Fill.{word-at, length_rule_words, rule_word-at}
use Rattle.domain.proofs.ListLaws.{equal-entries}
use Rattle.protocol.specs.Three.{MatrixName, A, B, C, at}
use Rattle.protocol.specs.Circuit.{Entry, Circuit, sizes_of, extension}
use Rattle.protocol.specs.Messages.{ratio, matrix_remainder}
use Rattle.protocol.specs.Calls.{entries_of}
use Rattle.protocol.proofs.AdmissionLaws.{WellFormed}
use Rattle.protocol.proofs.EntryLists.{length-entries_of}
use Rattle.protocol.proofs.MatrixCheck.{value_by_constant}
use Rattle.protocol.proofs.ProverForms.{ratio_by_entries}
use Rattle.protocol.proofs.Rows.{map_at}
use Rattle.circuit.specs.Given.{entry_words, EntryWords, Within}
use Rattle.circuit.proofs.Entries.{entry-within, entry_or_zeros}
use Rattle.poly.proofs.WordLists.{words_tail, zeros-after}
use Rattle.matrix_sumcheck.specs.MatrixGiven.{Given, Challenged, EntriesWithin, LagrangeLists, product_of, term_of, terms, padded}

-- what stands at a place after the last entry
abbrev pub no_entry : Entry
no_entry = record { row = 0; column = 0; value = 0 }

-- 1,024 entries at most
pub few-entries : {l : List ℕ} → EntryWords l → length (entries_of l) ≤ max_size
few-entries {l} h = omega (arith, length-entries_of l, h.few)

-- what stands in a list of words at an entry's row or column
at_place : {q : Prime} (n : ℕ) (f : ℕ → Elem q) {l : List ℕ} (i : ℕ) → l ≡ words (tabulate n f) → i < length l → of (get_or l i 0) ≡ f i
at_place n f i e below =
    ap (λ (m : List ℕ). of (get_or m i 0)) e
    ∙ of-result (f i) (rule_word-at n f i (omega (arith, ap length e, length_rule_words n f)))

-- the entry that a place has is within the matrix, also past the last entry
pub within-at : {r c : ℕ} {l : List ℕ} → EntriesWithin r c l → (i : ℕ) → Within r c (entry_words l i)
within-at {r} {c} {l} h i = elim (dec_lt i (length (entries_of l))) [
  | yes below ↦ entry-within r c l h.within i (omega (arith, length-entries_of l))
  | no past ↦
      subst (Within r c) (sym (get_or-eq_default (entries_of l) no_entry (omega arith)) ∙ entry_or_zeros l i h.words.whole)
      (record { row_below = h.some-row; column-below = h.some-column })
]

-- a product from lists that follow a rule over the rows and one over the columns
pub product_by_rules : {q : Prime} {rows columns l : List ℕ} (r c : ℕ) (f g : ℕ → Elem q) → EntriesWithin (length rows) (length columns) l
    → rows ≡ words (tabulate r f) → columns ≡ words (tabulate c g) → (i : ℕ)
    → product_of rows columns (entry_words l i) ≡ f (entry_words l i).row ⊗ g (entry_words l i).column
product_by_rules r c f g h by_row by_column i =
    ap₂ ◌⊗◌ (at_place r f _ by_row (within-at h i).row_below) (at_place c g _ by_column (within-at h i).column-below)

module _ {q : Prime} (r c : ℕ) (α β : Elem q) (l : List ℕ) where
  length-terms : length (terms r c α β l) ≡ length l / 3
  length-terms = length-map (entries_of l) (term_of r c α β) ∙ length-entries_of l

  -- the term at a place, from the words that stand there
  term_at : length l % 3 ≡ 0 → (i : ℕ) → get_or (terms r c α β l) i 𝟘 ≡ term_of r c α β (entry_words l i)
  term_at whole i = elim (dec_lt i (length (entries_of l))) [
    | yes below ↦ map_at (term_of r c α β) (entries_of l) i no_entry 𝟘 below ∙ ap (term_of r c α β) (entry_or_zeros l i whole)
    | no past ↦
        get_or-eq_default (terms r c α β l) 𝟘 (omega (arith, length-terms, length-entries_of l))
        ∙ sym (ring (prime_ring q) (lagrange r (element r 0) α ∷ lagrange c (element c 0) β ∷ []) (λ a b. :0 :* a :* b := :0) tt)
        ∙ ap (term_of r c α β) (sym (get_or-eq_default (entries_of l) no_entry (omega arith)) ∙ entry_or_zeros l i whole)
  ]

-- the terms as the code makes them at each place
pub terms_made : {q : Prime} {rows columns l : List ℕ} (r c alpha beta n : ℕ) → EntriesWithin (length rows) (length columns) l
    → length (entries_of l) ≤ n → LagrangeLists q r c alpha beta rows columns
    → tabulate n (λ i. of (entry_words l i).value ⊗ product_of rows columns (entry_words l i))
    ≡ padded {q = q} n (terms r c (of alpha) (of beta) l)
terms_made {q} {rows} {columns} {l} r c alpha beta n h holds L =
    let ts : List (Elem q) = terms r c (of alpha) (of beta) l in
    let f : ℕ → Elem q = λ i. lagrange r (element r i) (of alpha) in
    let g : ℕ → Elem q = λ i. lagrange c (element c i) (of beta) in
    let made : ℕ → Elem q = λ i. of (entry_words l i).value ⊗ product_of rows columns (entry_words l i) in
    equal-entries 𝟘 (tabulate n made) (padded n ts)
    (omega (
      arith,
      length-tabulate n made,
      length-append ts (replicate (n - length ts) 𝟘),
      length-replicate (n - length ts) (𝟘 {q = q}),
      length-terms r c (of {q = q} alpha) (of beta) l,
      length-entries_of l,
    ))
    (λ i below.
    get_d_tabulate n i made 𝟘 (omega (arith, length-tabulate n made))
    ∙ ap (λ (x : Elem q). of (entry_words l i).value ⊗ x) (product_by_rules r c f g h L.by_row L.by_column i)
    ∙ ring (prime_ring q) (of (entry_words l i).value ∷ f (entry_words l i).row ∷ g (entry_words l i).column ∷ [])
    (λ v a b. v :* (a :* b) := v :* a :* b) tt
    ∙ sym (zeros-after ts (n - length ts) i ∙ term_at r c (of alpha) (of beta) l h.words.whole i))

module _ {q : Prime} {p r c : ℕ} {l : List ℕ} {k : Circuit} {M : MatrixName} (G : Given q p r c l k M) where
  -- |K_M|
  pub given_size : at (sizes_of k).|K| M ≡ size_for (length (entries_of l))
  unfolding sizes_of
  given_size = by_name M G.matrix
    where
      by_name : (M : MatrixName) → at k.matrices M ≡ entries_of l → at (sizes_of k).|K| M ≡ size_for (length (entries_of l))
      by_name A e = ap (λ es. size_for (length es)) e
      by_name B e = ap (λ es. size_for (length es)) e
      by_name C e = ap (λ es. size_for (length es)) e

  pub well_formed_at : WellFormed p k → WellFormed q.p k
  well_formed_at W = subst (λ n. WellFormed n k) (sym G.known.value) W

  pub ratio_by_terms : {alpha beta : ℕ} → Challenged q p k alpha beta → (n : ℕ) → n ≡ size_for (length (entries_of l))
      → interpolate n (padded n (terms r c (of alpha) (of beta) l)) ≡ ratio k (of {q = q} alpha) (of beta) M
  ratio_by_terms {alpha} {beta} H n e =
      let α : Elem q = of alpha in
      let β : Elem q = of beta in
      let size : n ≡ at (sizes_of k).|K| M = e ∙ sym given_size in
      sym
      (ratio_by_entries G.qualifies k (well_formed_at H.well_formed) α β H.α-outside H.β-outside M
      ∙ ap₂ (λ m n. interpolate (at (sizes_of k).|K| M) (map (term_of m n α β) (at k.matrices M)
      ++ replicate (at (sizes_of k).|K| M - length (at k.matrices M)) 𝟘)) G.rows G.columns
      ∙ ap (λ es. interpolate (at (sizes_of k).|K| M) (map (term_of r c α β) es ++ replicate (at (sizes_of k).|K| M - length es) 𝟘))
      G.matrix
      ∙ ap (λ m. interpolate m (map (term_of r c α β) (entries_of l) ++ replicate (m - length (entries_of l)) 𝟘)) (sym size)
      ∙ ap (λ m. interpolate n (terms r c α β l ++ replicate (n - m) 𝟘)) (sym (length-map (entries_of l) (term_of r c α β))))

  -- |K_M| times the ratio's first word is ω_M's
  pub value_made : {alpha beta n : ℕ} → Challenged q p k alpha beta → n ≡ size_for (length (entries_of l))
      → (of {q = q} n ⊗ of (get_or (words (ratio k (of {q = q} alpha) (of beta) M)) 0 0)).word
      ≡ (extension k M (of {q = q} alpha) (of beta)).word
  value_made {alpha} {beta} H e =
      let α : Elem q = of alpha in
      let β : Elem q = of beta in
      ap (λ (x : Elem q). x.word)
      (ap₂ (λ (m : ℕ) (x : Elem q). of m ⊗ x) (e ∙ sym given_size) (of-result _ (word-at (ratio k α β M) 0))
      ∙ value_by_constant G.qualifies k (well_formed_at H.well_formed) α β H.α-outside H.β-outside M)

-- the ratio's words without the first are those of g_M
pub remainder_made : {q : Prime} (k : Circuit) (M : MatrixName) (α β : Elem q)
    → tail (words (ratio k α β M)) ≡ words (matrix_remainder k α β M)
unfolding matrix_remainder
remainder_made k M α β = words_tail (ratio k α β M)
