-- What the openings are from values: each message at its point as an expression of values on the domains, and of the Lagrange values
-- there. Assumes nothing.
use mathlib.Core.Path.{◌≡◌, sym, ap, ap₂, ◌∙◌}
use mathlib.Core.Bool.{true}
use mathlib.Core.List.{List, [], ◌∷◌, tail}
use Prim.Native.Nat.{ℕ, ◌<◌}
use native.Mathlib.Omega.{arith}
use lib.ListN.{length, get_or}
use Rattle.algebra.specs.Lists.{tabulate}
use Rattle.algebra.specs.Ring.{CommRing}
use Rattle.algebra.proofs.Division.{length-remainder}
use Rattle.algebra.proofs.PolynomialLaws.{eval_add, eval-scale, eval_mul, length-add, get_d_tabulate}
use Rattle.algebra.proofs.Solver.{◌:+◌, ◌:-◌, ◌:*◌, :-◌, :1, ◌:=◌, ◌⊙◌, ◌from◌, ring, ring_by}
use Rattle.field.specs.Prime.{Prime}
use Rattle.field.specs.Element.{Elem, of, 𝟘, ◌⊕◌, ◌⊗◌, ◌⊖◌}
use Rattle.field.specs.Power.{reciprocal}
use Rattle.field.proofs.ElementLaws.{add_comm, prime_ring}
use Rattle.domain.specs.Size.{is_size}
use Rattle.domain.specs.Domain.{element, vanishing, Outside}
use Rattle.domain.specs.Polynomial.{Poly, eval, ◌⊞◌, ◌⊟◌, ◌⊠◌, ◌·◌, quotient, remainder, interpolate, agreeing, values_on}
use Rattle.domain.specs.Qualifies.{Qualifies}
use Rattle.domain.proofs.SizeLaws.{size_positive}
use Rattle.domain.proofs.Division.{divide}
use Rattle.domain.proofs.Products.{eval-remainder}
use Rattle.domain.proofs.Interpolation.{length-interpolate, length-agreeing, getD_values_on}
use Rattle.domain.proofs.Interpolation.{eval-interpolate, equal_on_domain, interpolate-unique}
use Rattle.protocol.specs.Three.{MatrixName, A, B, C, Three, at, each, sum_matrices}
use Rattle.protocol.specs.Circuit.{Circuit, sizes_of, largest, row_sum, public_part}
use Rattle.protocol.specs.Index.{index_at, index}
use Rattle.protocol.specs.Checks.{weighted, line_left, assignment_value, numerator_value, denominator_value, matrix_right}
use Rattle.protocol.specs.Messages.{witness, assignment, image, row_quotient, values, line, line_quotient}
use Rattle.protocol.specs.Messages.{ratio, matrix_remainder, matrix_quotient, joined_quotient}
use Rattle.protocol.proofs.AdmissionLaws.{WellFormed}
use Rattle.protocol.proofs.MessagePolynomials.{eval_minus, eval-assignment}
use Rattle.protocol.proofs.ProverForms.{column_sum, image_by_rows, weighted_by_columns}
use Rattle.protocol.proofs.PublicColumns.{X-positive}
use Rattle.protocol.proofs.MatrixPolynomials.{sizeK}
use Rattle.protocol.proofs.MatrixCheck.{ratio-parts, matrix_rule}
use Rattle.protocol.proofs.JoinedPolynomials.{share, eval_sum_polys, sum_matrices_ext}

-- a polynomial by its constant and the rest
pub eval-parts : {q : Prime} (f : Poly q) (y : Elem q) → 0 < length f → eval f y ≡ y ⊗ eval (tail f) y ⊕ get_or f 0 𝟘
eval-parts [] y positive = absurd (omega arith)
eval-parts {q} (a ∷ f) y positive = ring (prime_ring q) (a ∷ y ∷ eval f y ∷ []) (λ a y f. a :+ y :* f := y :* f :+ a) tt

module _ {q : Prime} (Q : Qualifies q) (n : ℕ) (s : is_size n ≡ true) where
  abbrev R : CommRing (Elem q)
  R = prime_ring q

  -- the quotient of f·g - h, where h has length n: from the values of f·g on the domain, whatever h is
  pub product-quotient :
      (f g h : Poly q) → length h ≡ n → (vs : List (Elem q)) → ((i : ℕ) → i < n → eval f (element n i) ⊗ eval g (element n i) ≡ get_or vs i 𝟘)
      → (y : Elem q) → eval f y ⊗ eval g y ⊖ eval (interpolate n vs) y ≡ eval (quotient n (f ⊠ g ⊟ h)) y ⊗ vanishing n y
  product-quotient f g h e vs on y =
      ring_by R
      (eval f y ∷ eval g y ∷ eval h y ∷ eval (interpolate n vs) y ∷ eval (quotient n P) y ∷ vanishing n y ∷ eval (remainder n P) y ∷ [])
      (λ f g h i k v r. f :* g :- i := k :* v from (:1 ⊙ (f :* g :- h := k :* v :+ r)) ∷ (:1 ⊙ (r :+ h := i)) ∷ []) (
        sym (product y) ∙ divide n (size_positive n s) P y,
        (sym (eval_add R (remainder n P) h y) ∙ ap (λ f. eval f y) same, tt),
      ) tt
    where
      P : Poly q
      P = f ⊠ g ⊟ h

      product : (y : Elem q) → eval P y ≡ eval f y ⊗ eval g y ⊖ eval h y
      product y = eval_minus (f ⊠ g) h y ∙ ap (λ v. v ⊖ eval h y) (eval_mul R f g y)

      same : remainder n P ⊞ h ≡ interpolate n vs
      same = interpolate-unique Q n s (remainder n P ⊞ h) vs (omega (arith, length-add R (remainder n P) h, length-remainder R n P)) (λ i l.
          let y : Elem q = element n i in
          eval_add R (remainder n P) h y
          ∙ ring_by R (eval f y ∷ eval g y ∷ eval h y ∷ eval (remainder n P) y ∷ get_or vs i 𝟘 ∷ [])
          (λ f g h r v. r :+ h := v from (:1 ⊙ (r := f :* g :- h)) ∷ (:1 ⊙ (f :* g := v)) ∷ [])
          (eval-remainder Q n s P i ∙ product y, (on i l, tt)) tt)

module _ {q : Prime} (Q : Qualifies q) (c : Circuit) (W : WellFormed q.p c) where
  abbrev r : ℕ
  r = c.|R|

  -- h0(α), from the rows' sums a and b of z
  pub row-quotient-value :
      (ẑ : Poly q) (z : List (Elem q)) → values_on c.|C| ẑ ≡ z → (α : Elem q)
      → eval (interpolate r (tabulate r (row_sum c A z))) α ⊗ eval (interpolate r (tabulate r (row_sum c B z))) α
      ⊖ eval (interpolate r (tabulate r (λ i. row_sum c A z i ⊗ row_sum c B z i))) α
      ≡ eval (row_quotient c ẑ) α ⊗ vanishing r α
  unfolding row_quotient
  row-quotient-value ẑ z e α =
      product-quotient Q r W.R-size (sums A) (sums B) (image_of C) (length-agreeing r (image c ẑ C)) products on α
      ∙ ap₂ (λ f g. eval (quotient r (f ⊠ g ⊟ image_of C)) α ⊗ vanishing r α)
      (sym (image_by_rows Q c W A ẑ z e)) (sym (image_by_rows Q c W B ẑ z e))
    where
      sums : MatrixName → Poly q
      sums M = interpolate r (tabulate r (row_sum c M z))

      image_of : MatrixName → Poly q
      image_of M = agreeing r (image c ẑ M)

      products : List (Elem q)
      products = tabulate r (λ i. row_sum c A z i ⊗ row_sum c B z i)

      at_row : (M : MatrixName) (i : ℕ) → i < r → eval (sums M) (element r i) ≡ row_sum c M z i
      at_row M i l = eval-interpolate Q r W.R-size (tabulate r (row_sum c M z)) i l ∙ get_d_tabulate r i (row_sum c M z) 𝟘 l

      on : (i : ℕ) → i < r → eval (sums A) (element r i) ⊗ eval (sums B) (element r i) ≡ get_or products i 𝟘
      on i l =
          ap₂ ◌⊗◌ (at_row A i l) (at_row B i l) ∙ sym (get_d_tabulate r i (λ i. row_sum c A z i ⊗ row_sum c B z i) 𝟘 l)

  -- the weight of column j: the value of Σ η_M M̂(α,Y) at element j of C
  abbrev pub weight : Elem q → Three (Elem q) → ℕ → Elem q
  weight α η j = weighted η (each (λ M. column_sum c M α j))

  module _ (m ẑ : Poly q) (z : List (Elem q)) (on_columns : values_on c.|C| ẑ ≡ z) (α : Elem q) (η : Three (Elem q)) where
    abbrev n : ℕ
    n = c.|C|

    abbrev weights : Poly q
    weights = interpolate n (tabulate n (weight α η))

    -- the line's remainder by v_C, from that of m and the columns' weights
    pub line-remainder : remainder n (line c m ẑ α η) ≡ remainder n m ⊞ interpolate n (tabulate n (λ j. weight α η j ⊗ get_or z j 𝟘))
    unfolding line
    line-remainder =
        equal_on_domain Q n W.C-size (remainder n (line c m ẑ α η)) (remainder n m ⊞ products) (length-remainder R n (line c m ẑ α η))
        (omega (
          arith,
          length-add R (remainder n m) products,
          length-remainder R n m,
          length-interpolate n (tabulate n (λ j. weight α η j ⊗ get_or z j 𝟘)),
        ))
        (λ j l.
        let y : Elem q = element n j in
        eval-remainder Q n W.C-size (line c m ẑ α η) j ∙ eval_add R m (agreeing n (λ y. weighted η (values c α y)) ⊠ ẑ) y
        ∙ ap₂ ◌⊕◌ (sym (eval-remainder Q n W.C-size m j)) (at-column j l)
        ∙ sym (eval_add R (remainder n m) products y))
      where
        R : CommRing (Elem q)
        R = prime_ring q

        products : Poly q
        products = interpolate n (tabulate n (λ j. weight α η j ⊗ get_or z j 𝟘))

        at-column : (j : ℕ) → j < n → eval (agreeing n (λ y. weighted η (values c α y)) ⊠ ẑ) (element n j) ≡ eval products (element n j)
        at-column j l =
            eval_mul R (agreeing n (λ y. weighted η (values c α y))) ẑ (element n j)
            ∙ ap₂ ◌⊗◌
            (ap (λ f. eval f (element n j)) (weighted_by_columns Q c W α η) ∙ eval-interpolate Q n W.C-size (tabulate n (weight α η)) j l
            ∙ get_d_tabulate n j (weight α η) 𝟘 l)
            (sym (getD_values_on n j ẑ l) ∙ ap (λ z. get_or z j 𝟘) on_columns)
            ∙ sym (eval-interpolate Q n W.C-size (tabulate n (λ j. weight α η j ⊗ get_or z j 𝟘)) j l
            ∙ get_d_tabulate n j (λ j. weight α η j ⊗ get_or z j 𝟘) 𝟘 l)

    -- h1(β), from the values of m, the weights, ẑ and the remainder
    pub line-quotient-value : (β : Elem q)
        → eval weights β ⊗ eval ẑ β ⊕ eval m β ⊖ eval (remainder n (line c m ẑ α η)) β
        ≡ eval (line_quotient c (line c m ẑ α η)) β ⊗ vanishing n β
    unfolding line_quotient line_left line
    line-quotient-value β =
        let f : Poly q = line c m ẑ α η in
        ring_by (prime_ring q)
        (eval m β ∷ eval weights β ∷ eval ẑ β ∷ eval f β ∷ eval (remainder n f) β ∷ eval (quotient n f) β ∷ vanishing n β ∷ [])
        (λ m w z f r h v. w :* z :+ m :- r := h :* v from ((:- :1) ⊙ (f := m :+ w :* z)) ∷ (:1 ⊙ (f := h :* v :+ r)) ∷ []) (
          eval_add (prime_ring q) m (agreeing n (λ y. weighted η (values c α y)) ⊠ ẑ) β
              ∙ ap (λ v. eval m β ⊕ v)
              (eval_mul (prime_ring q) (agreeing n (λ y. weighted η (values c α y))) ẑ β
              ∙ ap (λ f. eval f β ⊗ eval ẑ β) (weighted_by_columns Q c W α η)),
          (divide n (size_positive n W.C-size) f β, tt),
        ) tt

  -- ŵ(β), from ẑ(β) and x̂(β)
  pub witness-value : (z : List (Elem q)) (r β : Elem q)
      → eval (assignment c (public_part c z) (witness c z r)) β ⊖ eval (interpolate c.|X| (public_part c z)) β
      ≡ eval (witness c z r) β ⊗ vanishing c.|X| β
  unfolding assignment_value sizes_of
  witness-value z r β =
      ring_by (prime_ring q)
      (eval (assignment c (public_part c z) (witness c z r)) β ∷ eval (witness c z r) β ∷ vanishing c.|X| β
      ∷ eval (interpolate c.|X| (public_part c z)) β ∷ [])
      (λ z w v x. z :- x := w :* v from (:1 ⊙ (z := w :* v :+ x)) ∷ [])
      (eval-assignment c (X-positive c W) (public_part c z) (witness c z r) β, tt) tt

  module _ (α β : Elem q) (α-outside : Outside c.|R| α) (β-outside : Outside c.|C| β) where
    -- h_M(γ), from the values of the index polynomials and of the ratio
    pub matrix-quotient-value : (M : MatrixName) (γ : Elem q)
        → let v = index_at (index c M) γ in
        numerator_value (sizes_of c) α β v ⊖ denominator_value (sizes_of c) α β v ⊗ eval (ratio c α β M) γ
        ≡ eval (matrix_quotient c α β M) γ ⊗ vanishing (sizeK c M) γ
    unfolding matrix_right
    matrix-quotient-value M γ =
        let g : Poly q = matrix_remainder c α β M in
        ap (λ x. numerator_value (sizes_of c) α β (index_at (index c M) γ) ⊖ denominator_value (sizes_of c) α β (index_at (index c M) γ) ⊗ x)
        (ap (λ f. eval f γ) (ratio-parts Q c W α β α-outside β-outside M) ∙ add_comm _ (γ ⊗ eval g γ))
        ∙ matrix_rule Q c W α β α-outside β-outside M γ

-- h2(γ), from the h_M(γ)
pub joined-value : {q : Prime} (c : Circuit) (α β γ : Elem q) (δ : Three (Elem q))
    → eval (joined_quotient c α β δ) γ
    ≡ sum_matrices (λ M. at δ M ⊗ of (sizeK c M) ⊗ eval (matrix_quotient c α β M) γ) ⊗ reciprocal (of (largest (sizes_of c).|K|))
unfolding joined_quotient
joined-value {q} c α β γ δ =
    eval_sum_polys (λ M. at δ M ⊗ share c M · matrix_quotient c α β M) γ
    ∙ sum_matrices_ext _ (λ M. term M ⊗ i) (λ M.
    eval-scale R (at δ M ⊗ share c M) (matrix_quotient c α β M) γ
    ∙ ring R (at δ M ∷ of (sizeK c M) ∷ i ∷ eval (matrix_quotient c α β M) γ ∷ []) (λ d k i h. d :* (k :* i) :* h := d :* k :* h :* i) tt)
    ∙ ring R (term A ∷ term B ∷ term C ∷ i ∷ []) (λ a b c i. a :* i :+ b :* i :+ c :* i := (a :+ b :+ c) :* i) tt
  where
    R : CommRing (Elem q)
    R = prime_ring q

    i : Elem q
    i = reciprocal (of (largest (sizes_of c).|K|))

    term : MatrixName → Elem q
    term M = at δ M ⊗ of (sizeK c M) ⊗ eval (matrix_quotient c α β M) γ
