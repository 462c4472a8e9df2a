-- The values of Σ η_M M̂(α,Y) on C as the code computes them: a pass over the entries that adds to columns, and the weighted sums of
-- three matrices. Assumes nothing.
use mathlib.Core.Path.{◌≡◌, refl, sym, ap, ap₂, ◌∙◌, subst}
use mathlib.Core.List.{List, [], ◌∷◌, map}
use Prim.Native.Nat.{ℕ, ◌+◌, ◌≤◌, ◌<◌}
use native.Mathlib.Omega.{arith}
use native.Mathlib.Numerals.{add-one}
use native.Mathlib.Decide.{ℕ_discrete}
use borrow.Author.Tests.{eq-eqb, ne_eqb}
use lib.Dec.{eqb}
use lib.ListN.{length, get_or, drop, set, replicate, length-map, length-replicate, drop_of_length-le, get_or-map}
use lib.Seq.{drop-cons, get_or-set_same, get_or-set_other}
use Rattle.algebra.specs.Counting.{All}
use Rattle.algebra.specs.Lists.{pick, tabulate}
use Rattle.algebra.specs.Ring.{CommRing}
use Rattle.algebra.specs.Sum.{sum_list}
use Rattle.algebra.proofs.Choice.{pick_true, pick-false}
use Rattle.algebra.proofs.Counting.{all_map}
use Rattle.algebra.proofs.ListLaws.{tabulate_ext}
use Rattle.algebra.proofs.PolynomialLaws.{length-tabulate, get_d_tabulate}
use Rattle.algebra.proofs.RingLaws.{zero-add}
use Rattle.algebra.proofs.Solver.{◌:+◌, ◌:*◌, :0, ◌:=◌, ring}
use Rattle.algebra.proofs.SumLaws.{sum_list_ext}
use Rattle.field.specs.Prime.{Prime}
use Rattle.field.specs.Element.{Elem, of, 𝟘, ◌⊕◌, ◌⊗◌}
use Rattle.field.proofs.ElementLaws.{prime_ring}
use Rattle.field.proofs.Words.{of-result}
use Rattle.domain.specs.Domain.{element, lagrange}
use Rattle.domain.proofs.ListLaws.{equal-entries}
use Rattle.protocol.specs.Three.{MatrixName, A, B, C, Three, at, each, map_three}
use Rattle.protocol.specs.Circuit.{Entry, Circuit}
use Rattle.protocol.specs.Checks.{weighted}
use Rattle.protocol.proofs.ProverForms.{column_sum}
use Rattle.circuit.specs.Given.{Within, EachWithin, entry_lists}
use Rattle.prover.specs.EntrySums.{column_total}
use Rattle.poly.proofs.WordLists.{replicate-at}
use Rattle.prover.proofs.RowLaws.{row_values}

module _ (q : Prime) (η : Elem q) (rows : List (Elem q)) where
  abbrev R : CommRing (Elem q)
  R = prime_ring q

  -- what the entries from the i-th on are still to add is what is missing of the sums
  unfoldable pub Adding : List Entry → List ℕ → List ℕ → ℕ → Type 0
  Adding es before out i =
      (j : ℕ) → of (get_or out j 0) ⊕ η ⊗ column_total rows (drop i es) j ≡ of (get_or before j 0) ⊕ η ⊗ column_total rows es j

  module _ (es : List Entry) (before : List ℕ) where
    pub adding_none : Adding es before before 0
    unfolding Adding
    adding_none j = refl

    pub adding_turn : (out : List ℕ) (i : ℕ) (e : Entry) (r : ℕ) → i < length es → get_or es i e ≡ e → e.column < length out
        → r ≡ (η ⊗ (of e.value ⊗ get_or rows e.row 𝟘) ⊕ of (get_or out e.column 0)).word → Adding es before out i
        → Adding es before (set out e.column r) (i + 1)
    unfolding Adding column_total
    adding_turn out i e r within here column made so_far j =
        elim (ℕ_discrete j e.column) [ yes same ↦ changed same | no other ↦ kept other ]
      where
        rest : List Entry
        rest = drop (i + 1) es

        term : Elem q
        term = of e.value ⊗ get_or rows e.row 𝟘

        more : drop i es ≡ e ∷ rest
        more = drop-cons es i e within ∙ ap₂ ◌∷◌ here (ap (λ (n : ℕ). drop n es) (sym (add-one i)))

        goal : Elem q
        goal = of (get_or before j 0) ⊕ η ⊗ column_total rows es j

        last : of (get_or out j 0) ⊕ η ⊗ (pick (eqb e.column j) term 𝟘 ⊕ column_total rows rest j) ≡ goal
        last = ap (λ (l : List Entry). of (get_or out j 0) ⊕ η ⊗ column_total rows l j) (sym more) ∙ so_far j

        changed : j ≡ e.column → of (get_or (set out e.column r) j 0) ⊕ η ⊗ column_total rows rest j ≡ goal
        changed same =
            ap (λ (x : Elem q). x ⊕ η ⊗ column_total rows rest j)
            (ap (λ (c : ℕ). of (get_or (set out e.column r) c 0)) same ∙ ap of (get_or-set_same out e.column r 0 column) ∙ of-result _ made
            ∙ ap (λ (c : ℕ). η ⊗ term ⊕ of (get_or out c 0)) (sym same))
            ∙ ring R (of (get_or out j 0) ∷ η ∷ term ∷ column_total rows rest j ∷ []) (λ o h t s. h :* t :+ o :+ h :* s := o :+ h :* (t :+ s)) tt
            ∙ ap (λ (x : Elem q). of (get_or out j 0) ⊕ η ⊗ (x ⊕ column_total rows rest j)) (sym (pick_true term 𝟘 (eq-eqb e.column j (sym same))))
            ∙ last

        kept : (j ≡ e.column → ⊥) → of (get_or (set out e.column r) j 0) ⊕ η ⊗ column_total rows rest j ≡ goal
        kept other =
            ap (λ (n : ℕ). of n ⊕ η ⊗ column_total rows rest j) (get_or-set_other out e.column j r 0 other)
            ∙ ap (λ (x : Elem q). of (get_or out j 0) ⊕ η ⊗ x)
            (sym (zero-add R (column_total rows rest j))
            ∙ ap (λ (x : Elem q). x ⊕ column_total rows rest j) (sym (pick-false term 𝟘 (ne_eqb e.column j (λ h. other (sym h))))))
            ∙ last

    pub adding_end : (out : List ℕ) (i : ℕ) → length es ≤ i → length out ≡ length before → Adding es before out i
        → map of out ≡ tabulate (length before) (λ j. of (get_or before j 0) ⊕ η ⊗ column_total rows es j)
    unfolding Adding column_total
    adding_end out i past same so_far =
        let target : ℕ → Elem q = λ j. of (get_or before j 0) ⊕ η ⊗ column_total rows es j in
        let l : length (map (of {q = q}) out) ≡ length out = length-map out of in
        equal-entries 𝟘 (map of out) (tabulate (length before) target) (l ∙ same ∙ sym (length-tabulate (length before) target))
        (λ j below.
        get_or-map of out j 0
        ∙ ring R (of (get_or out j 0) ∷ η ∷ []) (λ o h. o := o :+ h :* :0) tt
        ∙ ap (λ (k : List Entry). of (get_or out j 0) ⊕ η ⊗ column_total rows k j) (sym (drop_of_length-le es past))
        ∙ so_far j ∙ sym (get_d_tabulate (length before) j target 𝟘 (omega (arith, l, same))))

module _ {q : Prime} where
  -- one sum added after another
  pub then : (o o' : List ℕ) (n : ℕ) (f g : ℕ → Elem q) → map of o ≡ tabulate n f
      → map of o' ≡ tabulate (length o) (λ j. of (get_or o j 0) ⊕ g j) → map of o' ≡ tabulate n (λ j. f j ⊕ g j)
  then o o' n f g before after =
      let size : length o ≡ n = sym (length-map o (of {q = q})) ∙ ap length before ∙ length-tabulate n f in
      after ∙ ap (λ (m : ℕ). tabulate m (λ j. of (get_or o j 0) ⊕ g j)) size
      ∙ tabulate_ext n _ _ (λ j below.
      ap (λ (x : Elem q). x ⊕ g j) (sym (get_or-map of o j 0) ∙ ap (λ (l : List (Elem q)). get_or l j 𝟘) before ∙ get_d_tabulate n j f 𝟘 below))

  pub gather : (n : ℕ) (o a b c : ℕ → Elem q) → tabulate n (λ j. o j ⊕ a j ⊕ b j ⊕ c j) ≡ tabulate n (λ j. o j ⊕ (a j ⊕ b j ⊕ c j))
  gather n o a b c = tabulate_ext n _ _ (λ j below.
      ring (prime_ring q) (o j ∷ a j ∷ b j ∷ c j ∷ []) (λ o a b c. o :+ a :+ b :+ c := o :+ (a :+ b :+ c)) tt)

  -- sums that begin with 0
  from_zero : (n : ℕ) (f : ℕ → Elem q)
      → tabulate (length {A = ℕ} (replicate n 0)) (λ j. of (get_or {A = ℕ} (replicate n 0) j 0) ⊕ f j) ≡ tabulate n f
  from_zero n f =
      ap (λ (m : ℕ). tabulate m (λ j. of (get_or {A = ℕ} (replicate n 0) j 0) ⊕ f j)) (length-replicate n 0)
      ∙ tabulate_ext n _ f (λ j below. ap (λ (w : ℕ). of w ⊕ f j) (replicate-at 0 n j) ∙ zero-add (prime_ring q) (f j))

module _ (q : Prime) (k : Circuit) {r : ℕ} (c : ℕ) (eR : k.|R| ≡ r) (α : Elem q) where
  column-total : (M : MatrixName) {es : List Entry} → at k.matrices M ≡ es → All (Within r c) es → (j : ℕ)
      → column_total (row_values r α) es j ≡ column_sum k M α j
  unfolding column_total column_sum
  column-total M {es} same inside j =
      sum_list_ext (prime_ring q) _ _ es (all_map (λ e within.
      ap (λ (x : Elem q). pick (eqb e.column j) (of e.value ⊗ x) 𝟘)
      (get_d_tabulate r e.row (λ i. lagrange r (element r i) α) 𝟘 within.row_below
      ∙ (λ t. lagrange (sym eR t) (element (sym eR t) e.row) α))) es inside)
      ∙ ap (λ (l : List Entry). sum_list (prime_ring q) (λ e. pick (eqb e.column j) (of e.value ⊗ lagrange k.|R| (element k.|R| e.row) α) 𝟘) l)
      (sym same)

  -- the weighted sums over the entries of A, B, C
  weighted-total :
      (η : Three (Elem q)) (ea eb ec : List ℕ) → k.matrices ≡ entry_lists ea eb ec → EachWithin r c ea eb ec
      → {rows : List (Elem q)} → rows ≡ row_values r α
      → (j : ℕ) → weighted η (map_three (λ es. column_total rows es j) (entry_lists ea eb ec)) ≡ weighted η (each (λ M. column_sum k M α j))
  weighted-total η ea eb ec matrices inside {rows} made j =
      ap (λ (l : List (Elem q)). weighted η (map_three (λ es. column_total l es j) (entry_lists ea eb ec))) made
      ∙ (λ t. weighted η (record {
        a = column-total A (ap (λ (l : Three (List Entry)). l.a) matrices) inside.in_a j t;
        b = column-total B (ap (λ (l : Three (List Entry)). l.b) matrices) inside.in_b j t;
        c = column-total C (ap (λ (l : Three (List Entry)). l.c) matrices) inside.in_c j t;
      }))

  -- added to zeros
  pub weights_made :
      (η : Three (Elem q)) (ea eb ec : List ℕ) → k.matrices ≡ entry_lists ea eb ec → EachWithin r c ea eb ec
      → {rows : List (Elem q)} → rows ≡ row_values r α → {d : List ℕ} → d ≡ replicate c 0
      → tabulate (length d) (λ j. of (get_or d j 0) ⊕ weighted η (map_three (λ es. column_total rows es j) (entry_lists ea eb ec)))
      ≡ tabulate c (λ j. weighted η (each (λ M. column_sum k M α j)))
  weights_made η ea eb ec matrices inside {rows} made cleared =
      let f : ℕ → Elem q = λ j. weighted η (map_three (λ es. column_total rows es j) (entry_lists ea eb ec)) in
      ap (λ (d : List ℕ). tabulate (length d) (λ j. of (get_or d j 0) ⊕ f j)) cleared ∙ from_zero c f
      ∙ tabulate_ext c _ _ (λ j below. weighted-total η ea eb ec matrices inside made j)

-- entries within a matrix whose sizes have other names
pub each_within : {r c r' c' : ℕ} {ea eb ec : List ℕ} → r ≡ r' → c ≡ c' → EachWithin r c ea eb ec → EachWithin r' c' ea eb ec
each_within {c = c} {r'} {ea = ea} {eb} {ec} e d h =
    subst (λ (n : ℕ). EachWithin r' n ea eb ec) d (subst (λ (n : ℕ). EachWithin n c ea eb ec) e h)
