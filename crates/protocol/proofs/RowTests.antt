-- Each row of the table of refusals: its tests pass exactly when its conditions hold. Assumes nothing.
use mathlib.Core.Path.{◌≡◌, ap, ◌∙◌}
use mathlib.Core.Bool.{Bool, not, ◌&&◌}
use mathlib.Core.List.{List, [], ◌∷◌, ◌++◌, map}
use Prim.Native.Nat.{ℕ, ◌*◌, ◌/◌, ◌%◌, ◌<◌, ◌≤◌}
use lib.Dec.{eqb, leb, ltb}
use lib.ListN.{length, get_or}
use native.Mathlib.Omega.{arith}
use Rattle.algebra.specs.Lists.{tabulate}
use Rattle.field.specs.Prime.{Prime}
use Rattle.field.specs.Element.{Elem, of, 𝟘, ◌⊗◌, equal}
use Rattle.field.proofs.Field.{equal-true, true-equal}
use Rattle.domain.specs.Size.{max_size, is_size}
use Rattle.domain.specs.Domain.{element, domain, inside, sum_over}
use Rattle.domain.specs.Polynomial.{eval}
use Rattle.domain.proofs.ListLaws.{any-tabulate, tabulate-any}
use Rattle.domain.proofs.SizeLaws.{size_is-power, power-is_size}
use Rattle.protocol.specs.Three.{A, B, C, listed}
use Rattle.protocol.specs.Circuit.{Entry, Circuit, Sizes, sizes_of, largest, row_sum}
use Rattle.protocol.specs.Refusals.{pairs, size_tests, six_size_tests, size_refusal, list_refusal, word_refusal, rises, fits, entry_tests_after, entry_tests, entry_refusal, mask_refusal, constant_refusal, assignment_refusal, challenge_refusal, length_refusal}
use Rattle.protocol.specs.Admission.{entry_values, count_tests, assignment_tests, circuit_refusals, refusals_after_circuit}
use Rattle.protocol.specs.Table.{row, for_each, for_pairs}
use Rattle.protocol.specs.Rows.{Size, NoElement, size_conditions, six_size_conditions, equal_conditions, lists_row, EntryList, count_conditions, assignment_conditions, Stands, Before, entry_conditions_after, entry_conditions, entries_row, constant_row, declared_row}
use Rattle.protocol.specs.Rows.{words_row, mask_row, assignment_row, challenge_row, circuit_rows, prover_rows}
use Rattle.protocol.proofs.AdmissionLaws.{rises-true}
use Rattle.protocol.proofs.EntryOrder.{true-rises}
use Rattle.protocol.proofs.TableLaws.{Tells, TellAll, Told, ToldAll, told, told_append, tell_append, tell_map, tell_pairs, tell_each}
use Rattle.protocol.proofs.TableLaws.{tells_equal, tells_less, tells_most, tells_both, tells_as, tells_not}

-- 4: sizes
pub tells_size : (n : ℕ) → Tells (is_size n) (Size n)
tells_size n = (
  λ e. let (k, below, power) = size_is-power n e in (k, omega arith, power),
  λ (k, most, power). ap is_size power ∙ power-is_size k (omega arith),
)

pub tell_sizes : (r c x : ℕ) (more : List ℕ) → TellAll (size_tests r c x more) (size_conditions r c x more)
unfolding size_tests
tell_sizes r c x more =
    (tells_size r, (tells_size c, (tells_both (is_size x) (leb x c) (tells_size x) (tells_most x c), tell_map is_size Size tells_size more)))

pub tell_six_sizes : (s : Sizes) → TellAll (six_size_tests s) (six_size_conditions s)
unfolding six_size_tests
tell_six_sizes s = tell_sizes s.|R| s.|C| s.|X| (listed s.|K|)

pub sizes-told : (tests : List Bool) (conditions : List (Type 0)) → TellAll tests conditions → Told (size_refusal tests) (row 4 0 conditions)
unfolding size_refusal
sizes-told = told 4 0

-- 5: lists
pub lists-told : (tests : List Bool) (conditions : List (Type 0)) → TellAll tests conditions → Told (list_refusal tests) (lists_row conditions)
unfolding list_refusal
lists-told = told 5 0

pub tell_same : (given due : List ℕ) → TellAll (pairs eqb given due) (equal_conditions given due)
tell_same = tell_pairs eqb (λ m n. m ≡ n) tells_equal

pub tell_counts : (c : Circuit) → TellAll (count_tests c) (count_conditions c)
unfolding count_tests
tell_counts c =
    let few : (es : List Entry) → Tells (leb (length es) max_size) (length es ≤ max_size) = λ es. tells_most (length es) max_size in
    (few c.matrices.a, (few c.matrices.b, (few c.matrices.c, tt)))

pub tell_assignment : (c : Circuit) (z m : List ℕ) → TellAll (assignment_tests c z m) (assignment_conditions c z m)
unfolding assignment_tests
tell_assignment c z m = (tells_equal (length z) c.|C|, (tells_equal (length m) (2 * c.|C|), tt))

-- whole entries, where the test of the length says at most n of them
pub tells_entries :
    (n : ℕ) (l : List ℕ) (few : Bool) → Tells few (length l ≤ 3 * n) → Tells (eqb (length l % 3) 0 && few) (EntryList n l)
tells_entries n l few told =
    tells_as (eqb (length l % 3) 0 && few) (tells_both (eqb (length l % 3) 0) few (tells_equal (length l % 3) 0) told)
    (λ (whole, most). (length l / 3, omega arith, omega arith)) (λ (k, most, whole). (omega arith, omega arith))

-- 7: entries
pub tells_stands : (c : Circuit) (e : Entry) → Tells (fits c e) (Stands c e)
unfolding fits
tells_stands c e =
    let row : Bool = ltb e.row c.|R| in
    let column : Bool = ltb e.column c.|C| in
    let other : Bool = not (eqb e.value 0) in
    tells_as (row && column && other)
    (tells_both (row && column) other
    (tells_both row column (tells_less e.row c.|R|) (tells_less e.column c.|C|))
    (tells_not (eqb e.value 0) (tells_equal e.value 0)))
    (λ ((r, k), v). (r, k, v)) (λ (r, k, v). ((r, k), v))

tells_before : (d e : Entry) → Tells (rises d e) (Before d e)
tells_before d e = (rises-true d e, true-rises d e)

tell_entries-after : (c : Circuit) (d : Entry) (es : List Entry) → TellAll (entry_tests_after c d es) (entry_conditions_after c d es)
unfolding entry_tests_after
tell_entries-after c d [] = tt
tell_entries-after c d (e ∷ es) = (tells_both (fits c e) (rises d e) (tells_stands c e) (tells_before d e), tell_entries-after c e es)

tell_entries : (c : Circuit) (es : List Entry) → TellAll (entry_tests c es) (entry_conditions c es)
unfolding entry_tests
tell_entries c [] = tt
tell_entries c (e ∷ es) = (tells_stands c e, tell_entries-after c e es)

entries-told : (c : Circuit) → Told (entry_refusal c) (entries_row c)
unfolding entry_refusal
entries-told c =
    let tests : List Entry → List Bool = entry_tests c in
    let conditions : List Entry → List (Type 0) = entry_conditions c in
    let a : List Entry = c.matrices.a in
    let b : List Entry = c.matrices.b in
    let d : List Entry = c.matrices.c in
    told 7 0 (tests a ++ (tests b ++ tests d)) (conditions a ++ (conditions b ++ conditions d))
    (tell_append (tests a) (tests b ++ tests d) (conditions a) (conditions b ++ conditions d) (tell_entries c a)
    (tell_append (tests b) (tests d) (conditions b) (conditions d) (tell_entries c b) (tell_entries c d)))

-- 13: column 0
pub constant-told : (ws : List ℕ) → Told (constant_refusal ws) (constant_row ws)
unfolding constant_refusal
constant-told ws = told 13 0 (eqb (get_or ws 0 0) 1 ∷ []) ((get_or ws 0 0 ≡ 1) ∷ []) (tells_equal (get_or ws 0 0) 1, tt)

-- 11: declared lengths
pub declared_told : (declared table : List ℕ) → Told (length_refusal declared table) (declared_row declared table)
unfolding length_refusal
declared_told declared table =
    told 11 0 (pairs leb declared table) (for_pairs (λ m n. m ≤ n) declared table) (tell_pairs leb (λ m n. m ≤ n) tells_most declared table)

module _ (q : Prime) where
  -- 6: words
  pub words-told : (ws : List ℕ) → Told (word_refusal q ws) (words_row q ws)
  unfolding word_refusal
  words-told ws =
      told 6 0 (map (λ w. ltb w q.p) ws) (map (λ w. w < q.p) ws)
      (tell_map (λ w. ltb w q.p) (λ w. w < q.p) (λ w. tells_less w q.p) ws)

  pub tells_element : (a b : Elem q) → Tells (equal a b) (a ≡ b)
  tells_element a b = (equal-true a b, true-equal a b)

  -- 8: the mask
  pub mask-told : (c : Circuit) (m : List ℕ) → Told (mask_refusal {q = q} c (map of m)) (mask_row q c m)
  unfolding mask_refusal
  mask-told c m =
      let sum : Elem q = sum_over c.|C| (eval (map of m)) in
      told 8 0 (equal sum 𝟘 ∷ []) ((sum ≡ 𝟘) ∷ []) (tells_element sum 𝟘, tt)

  -- 9: the assignment
  pub assignment-told : (c : Circuit) (z : List ℕ) → Told (assignment_refusal {q = q} c (map of z)) (assignment_row q c z)
  unfolding assignment_refusal
  assignment-told c z =
      let left : ℕ → Elem q = λ i. row_sum c A (map of z) i ⊗ row_sum c B (map of z) i in
      let right : ℕ → Elem q = λ i. row_sum c C (map of z) i in
      told 9 0 (tabulate c.|R| (λ i. equal (left i) (right i))) (for_each c.|R| (λ i. left i ≡ right i))
      (tell_each c.|R| (λ i. equal (left i) (right i)) (λ i. left i ≡ right i) (λ i. tells_element (left i) (right i)))

  -- 10: challenges
  pub tells_outside : (n : ℕ) (y : Elem q) → Tells (not (inside n y)) (NoElement n y)
  unfolding inside domain
  tells_outside n y =
      tells_as (not (inside n y)) (tells_not (inside n y) {P = (i : ℕ) × (i < n) × (y ≡ element n i)} (
        λ e. let (i, below, same) = any-tabulate n (element n) (equal y) e in (i, below, equal-true y (element n i) same),
        λ (i, below, same). tabulate-any n i (element n) (equal y) below (true-equal y (element n i) same),
      ))
      (λ none i below same. none (i, below, same)) (λ none (i, below, same). none i below same)

  tell_challenges :
      (ns ys : List ℕ)
      → TellAll (pairs (λ n y. not (inside {q = q} n y)) ns (map of ys)) (for_pairs (λ n y. NoElement {q = q} n (of y)) ns ys)
  tell_challenges [] ys = tt
  tell_challenges (n ∷ ns) [] = tt
  tell_challenges (n ∷ ns) (y ∷ ys) = (tells_outside n (of y), tell_challenges ns ys)

  pub challenge_told : (position : ℕ) (ns ys : List ℕ) → Told (challenge_refusal {q = q} position ns (map of ys)) (challenge_row q position ns ys)
  unfolding challenge_refusal
  challenge_told position ns ys =
      told 10 position (pairs (λ n y. not (inside {q = q} n y)) ns (map of ys)) (for_pairs (λ n y. NoElement {q = q} n (of y)) ns ys)
      (tell_challenges ns ys)

  -- the rows of a circuit, and of the prover's calls and jobs
  pub circuit-told :
      (c : Circuit) (tests : List Bool) (conditions : List (Type 0)) (ws : List ℕ) → TellAll tests conditions
      → ToldAll (circuit_refusals q c tests ws) (circuit_rows q c conditions ws)
  unfolding circuit_refusals entry_values
  circuit-told c tests conditions ws lists = (
    sizes-told (size_tests c.|R| c.|C| c.|X| []) (size_conditions c.|R| c.|C| c.|X| []) (tell_sizes c.|R| c.|C| c.|X| []),
    (lists-told tests conditions lists, (words-told (entry_values c ++ ws), (entries-told c, tt))),
  )

  pub prover-told :
      (c : Circuit) (tests : List Bool) (conditions : List (Type 0)) (z : List ℕ) (r : ℕ) (m challenges points : List ℕ) → TellAll tests conditions
      → ToldAll (circuit_refusals q c tests (z ++ (r ∷ (m ++ challenges))) ++ refusals_after_circuit q c z m points)
      (prover_rows q c conditions z r m challenges points)
  prover-told c tests conditions z r m challenges points lists =
      told_append (circuit_refusals q c tests (z ++ (r ∷ (m ++ challenges)))) (refusals_after_circuit q c z m points)
      (circuit_rows q c conditions (z ++ (r ∷ (m ++ challenges)))) _
      (circuit-told c tests conditions (z ++ (r ∷ (m ++ challenges))) lists) (
        mask-told c m,
        (
          constant-told z,
          (assignment-told c z, (challenge_told 0 (c.|R| ∷ c.|C| ∷ largest (sizes_of c).|K| ∷ []) points, tt)),
        ),
      )
