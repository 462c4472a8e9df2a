-- What is known of a circuit, and of a job, that the table of refusals lets through. Assumes nothing.
use mathlib.Core.Path.{◌≡◌, refl, subst}
use mathlib.Core.Bool.{Bool, true, false, not, ◌&&◌, ◌||◌}
use mathlib.Core.Logic.{◌⊎◌, inl, inr}
use mathlib.Core.List.{List, [], ◌∷◌, ◌++◌, map}
use mathlib.Core.Option.{none}
use Prim.Native.Nat.{ℕ, zero, suc, ◌*◌, ◌<◌, ◌≤◌}
use lib.Dec.{eqb, leb, ltb}
use lib.ListN.{length}
use native.Mathlib.Omega.{arith}
use borrow.Author.Tests.{ltb-true, leb-true, eqb-true, eqb-false, not-true}
use Rattle.algebra.specs.Counting.{All}
use Rattle.algebra.specs.Lists.{tabulate}
use Rattle.algebra.proofs.Counting.{append_all}
use Rattle.field.specs.Prime.{Prime}
use Rattle.field.specs.Element.{Elem, of, 𝟘, ◌⊗◌, equal}
use Rattle.field.proofs.Field.{equal-true, true-equal}
use Rattle.field.proofs.Words.{words_back}
use Rattle.domain.specs.Size.{max_size, is_size}
use Rattle.domain.specs.Domain.{Outside, inside, sum_over}
use Rattle.domain.specs.Polynomial.{eval}
use Rattle.protocol.specs.Three.{MatrixName, A, B, C, at}
use Rattle.protocol.specs.Circuit.{Entry, Circuit, sizes_of, largest, row_sum, Satisfied}
use Rattle.protocol.specs.Refusals.{pairs, begins_with_one, size_tests, size_refusal, list_refusal, rises, fits, entry_tests_after, entry_tests, entry_refusal, mask_refusal, constant_refusal, assignment_refusal, challenge_refusal}
use Rattle.protocol.specs.Admission.{Admitted, entry_values, count_tests, assignment_tests, circuit_refusals, refusals_after_circuit, prover_refusal}
use Rattle.protocol.specs.Job.{Job, challenge_words, challenge_points, job_refusal}
pub use Rattle.protocol.specs.Rows.{Before}
use Rattle.protocol.proofs.RefusalLaws.{first-none, refuse-none, none-refuse, and-true, word_refusal-none, constant_refusal-none, none-constant_refusal}
use Rattle.protocol.proofs.FirstWord.{first-element, first_word}

-- an entry stands within its matrix, and its value is a field word other than 0
pub record EntryFits (p : ℕ) (c : Circuit) (e : Entry) : Type 0 where
  pub row_below : e.row < c.|R|
  pub column-below : e.column < c.|C|
  pub value_positive : 0 < e.value
  pub value-below : e.value < p

-- each entry stands before the next
abbrev pub Rising : List Entry → Type 0
Rising [] = Unit {0}
Rising (d ∷ []) = Unit {0}
Rising (d ∷ (e ∷ l)) = Before d e × Rising (e ∷ l)

pub record WellFormed (p : ℕ) (c : Circuit) : Type 0 where
  pub R-size : is_size c.|R| ≡ true
  pub C-size : is_size c.|C| ≡ true
  pub X-size : is_size c.|X| ≡ true
  pub X-within : c.|X| ≤ c.|C|
  pub few : (M : MatrixName) → length (at c.matrices M) ≤ max_size
  pub fit : (M : MatrixName) → All (EntryFits p c) (at c.matrices M)
  pub rising : (M : MatrixName) → Rising (at c.matrices M)

-- the entries' tests
or_true : (a b : Bool) → (a || b) ≡ true → (a ≡ true) ⊎ (b ≡ true)
or_true true b e = inl refl
or_true false b e = inr e

pub rises-true : (d e : Entry) → rises d e ≡ true → Before d e
unfolding rises
rises-true d e t = go (or_true (ltb d.row e.row) _ t)
  where
    go : (ltb d.row e.row ≡ true) ⊎ ((eqb d.row e.row && ltb d.column e.column) ≡ true) → Before d e
    go (inl u) = inl (ltb-true d.row e.row u)
    go (inr u) =
        let v = and-true (eqb d.row e.row) (ltb d.column e.column) u in
        inr (eqb-true d.row e.row v.0, ltb-true d.column e.column v.1)

module _ (q : Prime) (c : Circuit) where
  pub fits-true : (e : Entry) → fits c e ≡ true → e.value < q.p → EntryFits q.p c e
  unfolding fits
  fits-true e t below =
      let u = and-true (ltb e.row c.|R| && ltb e.column c.|C|) (not (eqb e.value 0)) t in
      let v = and-true (ltb e.row c.|R|) (ltb e.column c.|C|) u.0 in
      record {
        row_below = ltb-true e.row c.|R| v.0;
        column-below = ltb-true e.column c.|C| v.1;
        value_positive = omega (arith, eqb-false e.value 0 (not-true (eqb e.value 0) u.1));
        value-below = below;
      }

  entries-after :
      (d : Entry) (es : List Entry) → All (λ t. t ≡ true) (entry_tests_after c d es) → All (λ (e : Entry). e.value < q.p) es
      → All (EntryFits q.p c) es × Rising (d ∷ es)
  unfolding entry_tests_after
  entries-after d [] t below = (tt, tt)
  entries-after d (e ∷ es) t below =
      let u = and-true (fits c e) (rises d e) t.0 in
      let rest = entries-after e es t.1 below.1 in
      ((fits-true e u.0 below.0, rest.0), (rises-true d e u.1, rest.1))

  entries_pass :
      (es : List Entry) → All (λ t. t ≡ true) (entry_tests c es) → All (λ (e : Entry). e.value < q.p) es → All (EntryFits q.p c) es × Rising es
  unfolding entry_tests
  entries_pass [] t below = (tt, tt)
  entries_pass (e ∷ es) t below =
      let rest = entries-after e es t.1 below.1 in
      ((fits-true e t.0 below.0, rest.0), rest.1)

values-below : (q : Prime) (es : List Entry) → All (λ w. w < q.p) (map (λ (e : Entry). e.value) es) → All (λ (e : Entry). e.value < q.p) es
values-below q [] h = tt
values-below q (e ∷ es) h = (h.0, values-below q es h.1)

module _ (q : Prime) (c : Circuit) where
  -- from the rows 4, 5, 6 and 7 of the circuit alone
  well_formed :
      size_refusal (size_tests c.|R| c.|C| c.|X| []) ≡ none → All (λ t. t ≡ true) (count_tests c)
      → All (λ w. w < q.p) (entry_values c) → entry_refusal c ≡ none → WellFormed q.p c
  unfolding size_refusal size_tests count_tests entry_refusal entry_values
  well_formed size count below entry =
      let tests : MatrixName → List Bool = λ M. entry_tests c (at c.matrices M) in
      let entries : MatrixName → List Entry = at c.matrices in
      let value : Entry → ℕ = λ e. e.value in
      let Low : Entry → Type 0 = λ e. e.value < q.p in
      let s = refuse-none 4 0 (is_size c.|R| ∷ is_size c.|C| ∷ (is_size c.|X| && leb c.|X| c.|C|) ∷ []) size in
      let x = and-true (is_size c.|X|) (leb c.|X| c.|C|) s.1.1.0 in
      let t = append_all (λ t. t ≡ true) (tests A) (tests B ++ tests C) (refuse-none 7 0 (tests A ++ (tests B ++ tests C)) entry) in
      let u = append_all (λ t. t ≡ true) (tests B) (tests C) t.1 in
      let v = append_all Low (entries A) (entries B ++ entries C) (values-below q (entries A ++ (entries B ++ entries C)) below) in
      let w = append_all Low (entries B) (entries C) v.1 in
      let pass : (M : MatrixName) → All (EntryFits q.p c) (entries M) × Rising (entries M) = elim [
        | A ↦ entries_pass q c (entries A) t.0 v.0
        | B ↦ entries_pass q c (entries B) u.0 w.0
        | C ↦ entries_pass q c (entries C) u.1 w.1
      ] in
      record {
        R-size = s.0;
        C-size = s.1.0;
        X-size = x.0;
        X-within = leb-true c.|X| c.|C| x.1;
        few = elim [
          | A ↦ leb-true (length (entries A)) max_size count.0
          | B ↦ leb-true (length (entries B)) max_size count.1.0
          | C ↦ leb-true (length (entries C)) max_size count.1.1.0
        ];
        fit = λ M. (pass M).0;
        rising = λ M. (pass M).1;
      }

  pub admitted_well_formed : Admitted q c → WellFormed q.p c
  unfolding circuit_refusals list_refusal
  admitted_well_formed admitted =
      let rows = first-none (circuit_refusals q c (count_tests c) []) admitted in
      well_formed rows.0 (refuse-none 5 0 (count_tests c) rows.1.0)
      (append_all (λ w. w < q.p) (entry_values c) [] (word_refusal-none q (entry_values c ++ []) rows.1.1.0)).0 rows.1.1.1.0

-- a job that is let through: its circuit, the lengths of its lists, its words, its mask, its assignment and its challenges
pub record JobFits (q : Prime) (j : Job) : Type 0 where
  pub circuit-fits : WellFormed q.p j.circuit
  pub z-length : length j.z ≡ j.circuit.|C|
  pub m-length : length j.m ≡ 2 * j.circuit.|C|
  pub words_fit : All (λ w. w < q.p) (j.z ++ (j.r ∷ (j.m ++ challenge_words j)))
  pub mask-sum : sum_over j.circuit.|C| (eval {q = q} (map of j.m)) ≡ 𝟘
  pub satisfied : Satisfied {q = q} j.circuit (map of j.z)
  pub α-outside : Outside {q = q} j.circuit.|R| (of j.α)
  pub β-outside : Outside {q = q} j.circuit.|C| (of j.β)
  pub γ-outside : Outside {q = q} (largest (sizes_of j.circuit).|K|) (of j.γ)

-- a test that holds below n, at one number, and the other way round
tabulate-true : (n : ℕ) (test : ℕ → Bool) → All (λ t. t ≡ true) (tabulate n test) → (i : ℕ) → i < n → test i ≡ true
tabulate-true zero test h i l = absurd (omega arith)
tabulate-true (suc n) test h zero l = h.0
tabulate-true (suc n) test h (suc i) l = tabulate-true n (λ k. test (suc k)) h.1 i (omega arith)

true-tabulate : (n : ℕ) (test : ℕ → Bool) → ((i : ℕ) → i < n → test i ≡ true) → All (λ t. t ≡ true) (tabulate n test)
true-tabulate zero test h = tt
true-tabulate (suc n) test h = (h 0 (omega arith), true-tabulate n (λ k. test (suc k)) (λ i l. h (suc i) (omega arith)))

-- what 13 and 9 let through satisfies the circuit, and what satisfies it is let through by both
module _ (q : Prime) (c : Circuit) (ws : List ℕ) where
  abbrev z : List (Elem q)
  z = map of ws

  abbrev row_test : ℕ → Bool
  row_test i = equal (row_sum c A z i ⊗ row_sum c B z i) (row_sum c C z i)

  pub rows-satisfied : constant_refusal ws ≡ none → assignment_refusal c z ≡ none → Satisfied c z
  unfolding assignment_refusal
  rows-satisfied constant rows =
      record {
        constant = first-element q ws (constant_refusal-none ws constant);
        rows = λ i l. equal-true _ _ (tabulate-true c.|R| row_test (refuse-none 9 0 (tabulate c.|R| row_test) rows) i l);
      }

  pub satisfied-rows : All (λ w. w < q.p) ws → Satisfied c z → (constant_refusal ws ≡ none) × (assignment_refusal c z ≡ none)
  unfolding assignment_refusal
  satisfied-rows below satisfied = (
    none-constant_refusal ws (subst (λ l. begins_with_one l ≡ true) (words_back q ws below) (first_word q z satisfied.constant)),
    none-refuse 9 0 (tabulate c.|R| row_test) (true-tabulate c.|R| row_test (λ i l. true-equal _ _ (satisfied.rows i l))),
  )

pub job-fits : (q : Prime) (j : Job) → job_refusal q j ≡ none → JobFits q j
unfolding job_refusal prover_refusal circuit_refusals list_refusal assignment_tests mask_refusal challenge_refusal
job-fits q j free =
    let c : Circuit = j.circuit in
    let lists : List Bool = count_tests c ++ assignment_tests c j.z j.m in
    let words : List ℕ = j.z ++ (j.r ∷ (j.m ++ challenge_words j)) in
    let domains : List ℕ = c.|R| ∷ c.|C| ∷ largest (sizes_of c).|K| ∷ [] in
    let challenges : List (Elem q) = of j.α ∷ of j.β ∷ of j.γ ∷ [] in
    let rows =
    first-none (circuit_refusals q c lists words ++ refusals_after_circuit q c j.z j.m (challenge_points j)) free in
    let listed = append_all (λ t. t ≡ true) (count_tests c) (assignment_tests c j.z j.m) (refuse-none 5 0 lists rows.1.0) in
    let below = append_all (λ w. w < q.p) (entry_values c) words (word_refusal-none q (entry_values c ++ words) rows.1.1.0) in
    let mask = refuse-none 8 0 (equal {q = q} (sum_over c.|C| (eval (map of j.m))) 𝟘 ∷ []) rows.1.1.1.1.0 in
    let outside = refuse-none 10 0 (pairs (λ n y. not (inside n y)) domains challenges) rows.1.1.1.1.1.1.1.0 in
    record {
      circuit-fits = well_formed q c rows.0 listed.0 below.0 rows.1.1.1.0;
      z-length = eqb-true (length j.z) c.|C| listed.1.0;
      m-length = eqb-true (length j.m) (2 * c.|C|) listed.1.1.0;
      words_fit = below.1;
      mask-sum = equal-true (sum_over c.|C| (eval (map of j.m))) 𝟘 mask.0;
      satisfied = rows-satisfied q c j.z rows.1.1.1.1.1.0 rows.1.1.1.1.1.1.0;
      α-outside = not-true (inside {q = q} c.|R| (of j.α)) outside.0;
      β-outside = not-true (inside {q = q} c.|C| (of j.β)) outside.1.0;
      γ-outside = not-true (inside {q = q} (largest (sizes_of c).|K|) (of j.γ)) outside.1.1.0;
    }
