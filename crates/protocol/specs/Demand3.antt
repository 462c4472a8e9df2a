-- Demand 3: which false proofs get through, and how many (document 01, "The claims behind them" and "Demand 3 is about ..").
-- Statements only; the proofs are in proofs/. Assumes nothing.
use Rattle.std.specs.Prelude.{◌≡◌, ◌≢◌, List, ℕ, ◌-◌, ◌*◌, length}
use Rattle.algebra.specs.Counting.{AtMost, MoreThan, Exactly}
use Rattle.field.specs.Prime.{Prime}
use Rattle.field.specs.Element.{Elem, 𝟘}
use Rattle.domain.specs.Domain.{Outside, sum_over}
use Rattle.domain.specs.Polynomial.{Poly, eval, values_on}
use Rattle.domain.specs.Qualifies.{Qualifies}
use Rattle.protocol.specs.Three.{MatrixName, Three, at, each, map_three}
use Rattle.protocol.specs.Circuit.{Circuit, Sizes, sizes_of, largest, BeginsWithOne, Satisfied, extension}
use Rattle.protocol.specs.Index.{index_at, index}
use Rattle.protocol.specs.Checks.{Transcript, Openings, Row, Line, Matrix, Holds, weighted, line_left, matrix_left, matrix_right}
use Rattle.protocol.specs.Checks.{withα, withη, withβ, withδ, withγ, opened_row, opened_line, opened_matrix}
use Rattle.protocol.specs.Messages.{lengths, assignment, image, sums, values}
use Rattle.protocol.specs.Admission.{Admitted}
use Rattle.protocol.specs.Meaning.{CheckMeans}

module _ {q : Prime} (c : Circuit) where
  -- "that m + Σ η_M M̂(α,Y) ẑ(Y) adds to σ over C"
  abbrev pub LineClaim : Poly q → Poly q → Transcript (Elem q) → Type 0
  LineClaim ẑ m t = sum_over c.|C| (λ y. line_left t.η (values c t.α y) (eval m y) (eval ẑ y)) ≡ weighted t.η t.sums

  module _ (x : List (Elem q)) (t : Transcript (Elem q)) (o : Openings (Elem q)) (g : Three (Poly q)) where
    -- the joined check's sides are equal at γ: "The joined check is Matrix, over the indexer's polynomials"
    abbrev pub JoinedEqual : Poly q → Elem q → Type 0
    JoinedEqual h2 γ =
        Holds (sizes_of c) x (withγ γ t) (opened_matrix (eval h2 γ) (map_three (λ f. eval f γ) g) (each (λ M. index_at (index c M) γ)) o) Matrix

    -- "some h2 of the allowed length pass the joined check at more than 2|K|-2 allowed points"
    abbrev pub SomePasses : Type 0
    SomePasses =
        let k : ℕ = largest (sizes_of c).|K| in
        (h2 : Poly q) × (length h2 ≡ (lengths (sizes_of c)).joined_quotient) × MoreThan (2 * k - 2) (λ γ. Outside k γ × JoinedEqual h2 γ)

module _ (q : Prime) where
  -- "every circuit that the table of refusals lets through, all public words", and every ŵ of its length
  pub record Setting : Type 0 where
    pub circuit : Circuit
    pub admitted : Admitted q circuit
    pub x : List (Elem q)
    pub x-length : length x ≡ circuit.|X|
    pub w : Poly q
    pub w-length : length w ≡ (lengths (sizes_of circuit)).witness

  module _ (S : Setting) where
    abbrev c : Circuit
    c = S.circuit

    abbrev s : Sizes
    s = sizes_of c

    abbrev ẑ : Poly q
    ẑ = assignment c S.x S.w

    -- Row: "with σ_M read as ẑ_M(α), that ẑ's values on C satisfy every row", and that column 0 holds 1; sought: h0. "the row claim is
    -- about an x that begins with 1" (document 02, request 2)
    abbrev pub RowMeans : Transcript (Elem q) → Openings (Elem q) → Type 0
    RowMeans t o =
        BeginsWithOne S.x
        → CheckMeans {q = q} {Choice = Poly q}
        (Satisfied c (values_on c.|C| ẑ))
        (λ h0. length h0 ≡ (lengths s).row_quotient)
        (λ h0 α. Holds s S.x (withα α (withη (sums c ẑ α) t.η t)) (opened_row (eval h0 α) o) Row)
        (Outside c.|R|)
        (2 * c.|R| - 2)

    -- Line: "with ω_M read as M̂(α,β)"; sought: g1 and h1
    abbrev pub LineMeans : Poly q → Transcript (Elem q) → Openings (Elem q) → Type 0
    LineMeans m t o =
        CheckMeans {q = q} {Choice = Poly q × Poly q}
        (LineClaim c ẑ m t)
        (λ (g1, h1). (length g1 ≡ (lengths s).line_remainder) × (length h1 ≡ (lengths s).line_quotient))
        (λ (g1, h1) β.
        Holds s S.x (withβ β (withδ (values c t.α β) t.δ t)) (opened_line (eval S.w β) (eval m β) (eval g1 β) (eval h1 β) o) Line)
        (Outside c.|C|)
        (2 * c.|C| - 1)

    -- one matrix: "by its g_M rule, that ω_M = M̂(α,β)"; sought: g_M and h_M, both of length |K_M| - 1
    abbrev pub MatrixMeans : MatrixName → Transcript (Elem q) → Type 0
    MatrixMeans M t =
        CheckMeans {q = q} {Choice = Poly q × Poly q}
        (at t.values M ≡ extension c M t.α t.β)
        (λ (g, h). (length g ≡ at (lengths s).matrix_remainders M) × (length h ≡ at (lengths s).matrix_remainders M))
        (λ (g, h) y. matrix_left s (withγ y t) M (index_at (index c M) y) (eval g y) ≡ matrix_right s M y (eval h y))
        (Outside (largest s.|K|))
        (2 * at s.|K| M - 2)

    module _ (m : Poly q) (t : Transcript (Elem q)) where
      -- the line claim at η, with the σ that were sent before it
      abbrev pub LineClaimAt : Three (Elem q) → Type 0
      LineClaimAt η = LineClaim c ẑ m (withη t.sums η t)

      -- "If any of the three claimed sums is false, the η triples that make the line claim true number exactly p², whether the mask
      -- adds to 0 or not" (document 02, request 8)
      abbrev pub SumsCaught : Type 0
      SumsCaught = (M : MatrixName) → at t.sums M ≢ image c ẑ M t.α → Exactly (q.p * q.p) LineClaimAt

      -- the case that is left: where all three are true η has no say, and the claim is true for all p³ triples if the mask adds to 0, and
      -- for none if it does not
      abbrev pub SumsTrue : Type 0
      SumsTrue =
          ((M : MatrixName) → at t.sums M ≡ image c ẑ M t.α)
          → (sum_over c.|C| (eval m) ≡ 𝟘 → Exactly (q.p * q.p * q.p) LineClaimAt) × (sum_over c.|C| (eval m) ≢ 𝟘 → Exactly 0 LineClaimAt)

    -- "Whenever a matrix value is false, then for every three polynomials g of the allowed lengths, the same for all δ, at most
    -- p² of the p³ triples δ let some h2 of the allowed length pass the joined check at more than 2|K|-2 allowed points"
    abbrev pub ValuesCaught : Transcript (Elem q) → Openings (Elem q) → Three (Poly q) → Type 0
    ValuesCaught t o g =
        (M : MatrixName) → at t.values M ≢ extension c M t.α t.β → AtMost (q.p * q.p) (λ δ. SomePasses c S.x (withδ t.values δ t) o g)

    -- all of it: for "all other messages of the lengths above, honest or not (m need not add to 0), every α outside R and β
    -- outside C, and any η and δ": t has the σ, the ω and the challenges, o the openings that the check does not read
    pub record Demand3 : Type 0 where
      pub row : (t : Transcript (Elem q)) (o : Openings (Elem q)) → RowMeans t o
      pub line :
          (m : Poly q) → length m ≡ (lengths s).mask → (t : Transcript (Elem q)) → Outside c.|R| t.α → (o : Openings (Elem q)) → LineMeans m t o
      pub matrix : (M : MatrixName) (t : Transcript (Elem q)) → Outside c.|R| t.α → Outside c.|C| t.β → MatrixMeans M t
      pub sums_caught :
          (m : Poly q) → length m ≡ (lengths s).mask → (t : Transcript (Elem q)) → Outside c.|R| t.α → SumsCaught m t
      pub sums-true : (m : Poly q) → length m ≡ (lengths s).mask → (t : Transcript (Elem q)) → Outside c.|R| t.α → SumsTrue m t
      pub values_caught :
          (t : Transcript (Elem q)) → Outside c.|R| t.α → Outside c.|C| t.β → (o : Openings (Elem q)) (g : Three (Poly q))
          → ((M : MatrixName) → length (at g M) ≡ at (lengths s).matrix_remainders M) → ValuesCaught t o g

-- for every prime that qualifies and every setting
abbrev pub Demand3Holds : Type 0
Demand3Holds = (q : Prime) → Qualifies q → (S : Setting q) → Demand3 q S
