-- The rows that several functions make together: the lists, the words and the entries of a circuit, and the words of a prover
-- call; and what is known where nothing is refused. Assumes nothing.
use mathlib.Core.Path.{◌≡◌, refl, sym, ap, ap₂, ◌∙◌}
use mathlib.Core.Bool.{Bool, true, not, ◌&&◌}
use mathlib.Core.List.{List, [], ◌∷◌, ◌++◌, map, append-nil, map-append}
use mathlib.Core.Option.{Option, none, some}
use Prim.Native.Nat.{ℕ, ◌+◌, ◌*◌, ◌/◌, ◌%◌, max}
use native.Mathlib.Omega.{arith}
use lib.Dec.{eqb, ltb, leb}
use lib.ListN.{length, length-append, length-map}
use borrow.Author.Tests.{eqb-true, ltb-true, leb-true}
use Rattle.algebra.specs.Counting.{All}
use Rattle.algebra.proofs.Counting.{append_all}
use Rattle.field.specs.Prime.{Prime}
use Rattle.domain.specs.Size.{max_size, is_size, size_for}
use Rattle.domain.proofs.SizeLaws.{size_for_is_size, largest-is_size}
use Rattle.protocol.specs.Circuit.{Entry, Circuit, sizes_of, largest}
use Rattle.protocol.specs.Refusals.{Refusal, first, refuse, size_tests, fits, rises, entry_tests_after, entry_tests}
use Rattle.protocol.specs.Refusals.{size_refusal, list_refusal, word_refusal, entry_refusal}
use Rattle.protocol.specs.Admission.{entry_values, assignment_tests, circuit_refusals, refusals_after_circuit, prover_refusal}
use Rattle.protocol.specs.Calls.{CircuitWords, entries_of, circuit_of, entry_list_tests}
use Rattle.protocol.proofs.RefusalLaws.{refuse-none, first-none, and-true}
use Rattle.protocol.proofs.EntryLists.{length-entries_of}
use Rattle.protocol.proofs.Rows.{first_only, first_nested, first_before_last, refuse_append, refuse-map_append, refuse-three}
use Rattle.circuit.specs.Given.{given, entry_lists, Within, EachWithin, EntryWords, CircuitShaped, Shaped}
use Rattle.circuit.specs.Judgement.{whole_and_few, index_shape_refusal, shape_refusal, circuit_refusal}
use Rattle.circuit.specs.Judgement.{index_contents_refusal, contents_refusal}
use Rattle.circuit.proofs.Entries.{values-count, length-entry_tests}

-- 4 and 5: the circuit's part, then the lengths of z and m
pub shape_in_parts : (c : CircuitWords) (z m : List ℕ)
    → shape_refusal c z m ≡ first (index_shape_refusal c ∷ refuse 5 3 (assignment_tests (circuit_of c) z m) ∷ [])
unfolding shape_refusal index_shape_refusal list_refusal entry_list_tests
shape_in_parts c z m =
    let size : Option Refusal = size_refusal (size_tests c.|R| c.|C| c.|X| []) in
    let lists : List Bool = entry_list_tests c in
    let more : List Bool = assignment_tests (circuit_of c) z m in
    ap (λ (o : Option Refusal). first (size ∷ o ∷ [])) (refuse_append 5 0 lists more)
    ∙ first_nested size (refuse 5 0 lists ∷ refuse 5 3 more ∷ [])
    ∙ first_before_last (size ∷ refuse 5 0 lists ∷ []) (refuse 5 3 more)

-- the tests of the values of a list of entries, by the modulus
abbrev pub value_tests : ℕ → List ℕ → List Bool
value_tests p l = map (λ w. ltb w p) (map (λ (e : Entry). e.value) (entries_of l))

module _ (k : Circuit) (ea eb ec : List ℕ) (matrices : k.matrices ≡ entry_lists ea eb ec) where
  -- 6 of a circuit: A, then B, then C
  pub values_in_parts : (p second third : ℕ) → second ≡ length ea / 3 → third ≡ second + length eb / 3
      → refuse 6 0 (map (λ w. ltb w p) (entry_values k))
      ≡ first (refuse 6 0 (value_tests p ea) ∷ refuse 6 second (value_tests p eb) ∷ refuse 6 third (value_tests p ec) ∷ [])
  unfolding entry_values
  values_in_parts p second third e f =
      ap (λ t. refuse 6 0 (map (λ w. ltb w p) (map (λ (e : Entry). e.value) (t.a ++ (t.b ++ t.c))))) matrices
      ∙ ap (refuse 6 0) split
      ∙ refuse-three 6 (value_tests p ea) (value_tests p eb) (value_tests p ec) second third (omega (arith, values-count p ea))
      (omega (arith, values-count p ea, values-count p eb))
    where
      value : Entry → ℕ
      value e = e.value

      split : map (λ w. ltb w p) (map (λ (e : Entry). e.value) (entries_of ea ++ (entries_of eb ++ entries_of ec)))
          ≡ value_tests p ea ++ (value_tests p eb ++ value_tests p ec)
      split = simp map-append

  -- the circuit's values are as many as its entries
  pub values_length : length (entry_values k) ≡ length ea / 3 + (length eb / 3 + length ec / 3)
  unfolding entry_values
  values_length =
      ap (λ t. length (map (λ (e : Entry). e.value) (t.a ++ (t.b ++ t.c)))) matrices
      ∙ length-map (entries_of ea ++ (entries_of eb ++ entries_of ec)) (λ (e : Entry). e.value)
      ∙ omega (
        arith,
        length-append (entries_of ea) (entries_of eb ++ entries_of ec),
        length-append (entries_of eb) (entries_of ec),
        length-entries_of ea,
        length-entries_of eb,
        length-entries_of ec,
      )

  -- 7: A, then B, then C
  pub entries_in_parts : (second third : ℕ) → second ≡ length ea / 3 → third ≡ second + length eb / 3
      → entry_refusal k
      ≡ first
      (refuse 7 0 (entry_tests k (entries_of ea)) ∷ refuse 7 second (entry_tests k (entries_of eb)) ∷ refuse 7 third (entry_tests k (entries_of ec)) ∷ [])
  unfolding entry_refusal
  entries_in_parts second third e f =
      let tests : List ℕ → List Bool = λ l. entry_tests k (entries_of l) in
      ap (λ t. refuse 7 0 (entry_tests k t.a ++ (entry_tests k t.b ++ entry_tests k t.c))) matrices
      ∙ refuse-three 7 (tests ea) (tests eb) (tests ec) second third
      (omega (arith, length-entry_tests k (entries_of ea), length-entries_of ea))
      (omega (arith, length-entry_tests k (entries_of ea), length-entries_of ea, length-entry_tests k (entries_of eb), length-entries_of eb))

  -- K
  pub largest_by_counts :
      largest (sizes_of k).|K| ≡ max (size_for (length (entries_of ea))) (max (size_for (length (entries_of eb))) (size_for (length (entries_of ec))))
  unfolding largest sizes_of
  largest_by_counts = ap (λ t. max (size_for (length t.a)) (max (size_for (length t.b)) (size_for (length t.c)))) matrices

-- 6: the circuit's words alone, and with words after them
module _ (q : Prime) (k : Circuit) {p : ℕ} (e : q.p ≡ p) where
  pub circuit-words : refuse 6 0 (map (λ w. ltb w p) (entry_values k)) ≡ word_refusal q (entry_values k ++ [])
  unfolding word_refusal
  circuit-words = sym (ap₂ (λ (n : ℕ) (ws : List ℕ). refuse 6 0 (map (λ w. ltb w n) ws)) e (append-nil (entry_values k)))

  pub words_in_parts : (ws : List ℕ) (start : ℕ) → start ≡ length (entry_values k)
      → word_refusal q (entry_values k ++ ws)
      ≡ first (refuse 6 0 (map (λ w. ltb w p) (entry_values k)) ∷ refuse 6 start (map (λ w. ltb w p) ws) ∷ [])
  unfolding word_refusal
  words_in_parts ws start at =
      let place : 0 + length (entry_values k) ≡ start = omega arith in
      ap (λ (n : ℕ). refuse 6 0 (map (λ w. ltb w n) (entry_values k ++ ws))) e
      ∙ refuse-map_append 6 0 (λ w. ltb w p) (entry_values k) ws
      ∙ ap (λ (n : ℕ). first (refuse 6 0 (map (λ w. ltb w p) (entry_values k)) ∷ refuse 6 n (map (λ w. ltb w p) ws) ∷ [])) place

-- z, the mask word, m and the challenges, in parts
pub prover-words : (p start : ℕ) (z : List ℕ) (mask : ℕ) (m challenges : List ℕ)
    → refuse 6 start (map (λ w. ltb w p) (z ++ (mask ∷ (m ++ challenges))))
    ≡ first
    (refuse 6 start (map (λ w. ltb w p) z)
    ∷ refuse 6 (start + length z) (ltb mask p ∷ [])
    ∷ refuse 6 (start + length z + 1) (map (λ w. ltb w p) m)
    ∷ refuse 6 (start + length z + 1 + length m) (map (λ w. ltb w p) challenges)
    ∷ [])
prover-words p start z mask m challenges =
    let test : ℕ → Bool = λ w. ltb w p in
    let a : Option Refusal = refuse 6 start (map test z) in
    let n : ℕ = start + length z in
    let b : Option Refusal = refuse 6 n (test mask ∷ []) in
    refuse-map_append 6 start test z (mask ∷ (m ++ challenges))
    ∙ ap (λ (o : Option Refusal). first (a ∷ o ∷ []))
    (refuse_append 6 n (test mask ∷ []) (map test (m ++ challenges))
    ∙ ap (λ (o : Option Refusal). first (b ∷ o ∷ [])) (refuse-map_append 6 (n + 1) test m challenges)
    ∙ first_nested b (refuse 6 (n + 1) (map test m) ∷ refuse 6 (n + 1 + length m) (map test challenges) ∷ []))
    ∙ first_nested a (b ∷ refuse 6 (n + 1) (map test m) ∷ refuse 6 (n + 1 + length m) (map test challenges) ∷ [])

-- K is a size
pub larger_is_size : (l m n : ℕ) → is_size (max (size_for l) (max (size_for m) (size_for n))) ≡ true
larger_is_size l m n =
    largest-is_size (size_for l) (size_for m) (size_for n) (size_for_is_size l) (size_for_is_size m) (size_for_is_size n)

-- entries that pass 7 are within their matrix
module _ (k : Circuit) where
  fits-within : (e : Entry) → fits k e ≡ true → Within k.|R| k.|C| e
  unfolding fits
  fits-within e t =
      let u = and-true (ltb e.row k.|R| && ltb e.column k.|C|) (not (eqb e.value 0)) t in
      let v = and-true (ltb e.row k.|R|) (ltb e.column k.|C|) u.0 in
      record { row_below = ltb-true e.row k.|R| v.0; column-below = ltb-true e.column k.|C| v.1 }

  after-within : (d : Entry) (es : List Entry) → All (λ t. t ≡ true) (entry_tests_after k d es) → All (Within k.|R| k.|C|) es
  unfolding entry_tests_after
  after-within d [] t = tt
  after-within d (e ∷ es) t = (fits-within e (and-true (fits k e) (rises d e) t.0).0, after-within e es t.1)

  tests_within : (es : List Entry) → All (λ t. t ≡ true) (entry_tests k es) → All (Within k.|R| k.|C|) es
  unfolding entry_tests
  tests_within [] t = tt
  tests_within (e ∷ es) t = (fits-within e t.0, after-within e es t.1)

pub entries-within : (r c x : ℕ) (ea eb ec : List ℕ) → entry_refusal (circuit_of (given r c x ea eb ec)) ≡ none → EachWithin r c ea eb ec
unfolding entry_refusal circuit_of
entries-within r c x ea eb ec free =
    let k : Circuit = circuit_of (given r c x ea eb ec) in
    let tests : List ℕ → List Bool = λ l. entry_tests k (entries_of l) in
    let t = append_all (λ t. t ≡ true) (tests ea) (tests eb ++ tests ec) (refuse-none 7 0 (tests ea ++ (tests eb ++ tests ec)) free) in
    let u = append_all (λ t. t ≡ true) (tests eb) (tests ec) t.1 in
    record {
      in_a = tests_within k (entries_of ea) t.0;
      in_b = tests_within k (entries_of eb) u.0;
      in_c = tests_within k (entries_of ec) u.1;
    }

-- what is known of a call that 4 and 5 let through
whole-and-few : (l : List ℕ) → whole_and_few (length l) ≡ true → EntryWords l
whole-and-few l t =
    let u = and-true (eqb (length l % 3) 0) (leb (length l) (3 * max_size)) t in
    record { whole = eqb-true (length l % 3) 0 u.0; few = leb-true (length l) (3 * max_size) u.1 }

module _ (r c x : ℕ) (ea eb ec : List ℕ) where
  abbrev size_list : List Bool
  size_list = is_size r ∷ is_size c ∷ (is_size x && leb x c) ∷ []

  abbrev entry_lists_fit : List Bool
  entry_lists_fit = whole_and_few (length ea) ∷ whole_and_few (length eb) ∷ whole_and_few (length ec) ∷ []

  pub index_shape_fits : index_shape_refusal (given r c x ea eb ec) ≡ none → CircuitShaped r c ea eb ec
  unfolding index_shape_refusal size_refusal size_tests list_refusal entry_list_tests
  index_shape_fits free =
      let rows = first-none (refuse 4 0 size_list ∷ refuse 5 0 entry_lists_fit ∷ []) free in
      let s = refuse-none 4 0 size_list rows.0 in
      let t = refuse-none 5 0 entry_lists_fit rows.1.0 in
      record {
        R-size = s.0;
        C-size = s.1.0;
        lists = record { list-a = whole-and-few ea t.0; list-b = whole-and-few eb t.1.0; list-c = whole-and-few ec t.1.1.0 };
      }

  pub shape_fits : (z m : List ℕ) → shape_refusal (given r c x ea eb ec) z m ≡ none → Shaped r c ea eb ec z m
  unfolding assignment_tests circuit_of
  shape_fits z m free =
      let w : CircuitWords = given r c x ea eb ec in
      let rows = first-none (index_shape_refusal w ∷ refuse 5 3 (assignment_tests (circuit_of w) z m) ∷ []) (sym (shape_in_parts w z m) ∙ free) in
      let t = refuse-none 5 3 (assignment_tests (circuit_of w) z m) rows.1.0 in
      record { circuit = index_shape_fits rows.0; z-length = eqb-true (length z) c t.0; m-length = eqb-true (length m) (2 * c) t.1.0 }

-- A call is judged in three parts: what it begins with, its lent slices, and its contents
pub regroup : (s x y : Option Refusal) (l : List (Option Refusal)) → first (s ∷ first (x ∷ y ∷ []) ∷ l) ≡ first (first (s ∷ x ∷ []) ∷ y ∷ first l ∷ [])
regroup none none none l = sym (first_only (first l))
regroup none none (some r) l = refl
regroup none (some r) y l = refl
regroup (some r) x y l = refl

module _ (q : Prime) (c : CircuitWords) (lent : List Bool) where
  pub index_in_parts :
      first (circuit_refusals q (circuit_of c) (entry_list_tests c ++ lent) [])
      ≡ first (index_shape_refusal c ∷ refuse 5 3 lent ∷ index_contents_refusal q (circuit_of c) ∷ [])
  unfolding circuit_refusals circuit_of list_refusal entry_list_tests index_shape_refusal index_contents_refusal
  index_in_parts =
      let size : Option Refusal = size_refusal (size_tests c.|R| c.|C| c.|X| []) in
      let rest : List (Option Refusal) = word_refusal q (entry_values (circuit_of c) ++ []) ∷ entry_refusal (circuit_of c) ∷ [] in
      ap (λ (o : Option Refusal). first (size ∷ o ∷ rest)) (refuse_append 5 0 (entry_list_tests c) lent)
      ∙ regroup size (refuse 5 0 (entry_list_tests c)) (refuse 5 3 lent) rest

  pub prover_in_parts : (z : List ℕ) (mask : ℕ) (m challenges points : List ℕ)
      → prover_refusal q (circuit_of c) (entry_list_tests c ++ (assignment_tests (circuit_of c) z m ++ lent)) z mask m challenges points
      ≡ first (shape_refusal c z m ∷ refuse 5 5 lent ∷ contents_refusal q (circuit_of c) z mask m challenges points ∷ [])
  unfolding prover_refusal circuit_refusals circuit_of list_refusal entry_list_tests assignment_tests shape_refusal contents_refusal
  prover_in_parts z mask m challenges points =
      let k : Circuit = circuit_of c in
      let size : Option Refusal = size_refusal (size_tests c.|R| c.|C| c.|X| []) in
      let lists : List Bool = entry_list_tests c ++ assignment_tests k z m in
      let rest : List (Option Refusal) =
      word_refusal q (entry_values k ++ (z ++ (mask ∷ (m ++ challenges)))) ∷ entry_refusal k ∷ refusals_after_circuit q k z m points in
      ap (λ (o : Option Refusal). first (size ∷ o ∷ rest)) (refuse_append 5 0 lists lent) ∙ regroup size (refuse 5 0 lists) (refuse 5 5 lent) rest

-- a circuit whose call lends nothing, in two parts
pub circuit_in_parts : (q : Prime) (c : CircuitWords)
    → circuit_refusal q c ≡ first (index_shape_refusal c ∷ index_contents_refusal q (circuit_of c) ∷ [])
unfolding circuit_refusal entry_list_tests
circuit_in_parts q c = index_in_parts q c [] ∙ skips (index_shape_refusal c) (index_contents_refusal q (circuit_of c) ∷ [])
  where
    skips : (o : Option Refusal) (l : List (Option Refusal)) → first (o ∷ none ∷ l) ≡ first (o ∷ l)
    skips none l = refl
    skips (some r) l = refl
