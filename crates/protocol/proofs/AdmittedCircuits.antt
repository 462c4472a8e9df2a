-- Which circuits the table of refusals lets through: those that are well formed, among them a circuit without entries, one that comes in
-- lists that the indexer accepts, and one with other fitting entries in one of its matrices; and what the test of one entry says.
-- Assumes nothing.
use mathlib.Core.Path.{◌≡◌, refl, ap, ap₂}
use mathlib.Core.Bool.{Bool, true, false, not, ◌&&◌, and-false}
use mathlib.Core.List.{List, [], ◌∷◌, ◌++◌}
use mathlib.Core.Option.{none}
use Prim.Native.Nat.{ℕ, ◌*◌, ◌%◌, ◌<◌, ◌≤◌}
use lib.Dec.{eqb, leb, ltb}
use lib.ListN.{length}
use native.Mathlib.Omega.{arith}
use borrow.Author.Tests.{ltb-true, leb-true, lt-ltb, le-leb, ne_eqb}
use Rattle.algebra.specs.Counting.{All}
use Rattle.algebra.proofs.Counting.{all_map, all_append, append_all, all-image}
use Rattle.field.specs.Prime.{Prime}
use Rattle.domain.specs.Size.{max_size, is_size}
use Rattle.domain.proofs.SizeLaws.{size_bound}
use Rattle.protocol.specs.Three.{MatrixName, A, B, C, Three, at}
use Rattle.protocol.specs.Circuit.{Entry, Circuit}
use Rattle.protocol.specs.Refusals.{first, size_tests, size_refusal, list_refusal, word_refusal, entry_refusal}
use Rattle.protocol.specs.Refusals.{fits, entry_tests_after, entry_tests}
use Rattle.protocol.specs.Admission.{Admitted, entry_values, count_tests, circuit_refusals}
use Rattle.protocol.specs.Calls.{CircuitWords, entries_of, circuit_of, entry_list_tests}
use Rattle.protocol.specs.Grown.{empty_circuit}
use Rattle.protocol.specs.Growing.{replace, changed}
use Rattle.protocol.proofs.RefusalLaws.{first-none, none_first, refuse-none, none-refuse, and-true}
use Rattle.protocol.proofs.RefusalLaws.{word_refusal-none, none-word_refusal}
use Rattle.protocol.proofs.AdmissionLaws.{EntryFits, Rising, WellFormed, fits-true, admitted_well_formed}
use Rattle.protocol.proofs.EntryLists.{length-entries_of}
use Rattle.protocol.proofs.EntryOrder.{true-rises}

-- entries that fit and rise pass all tests
module _ (p : ℕ) (c : Circuit) where
  pub true-fits : (e : Entry) → EntryFits p c e → fits c e ≡ true
  unfolding fits
  true-fits e h =
      ap₂ ◌&&◌ (ap₂ ◌&&◌ (lt-ltb e.row c.|R| h.row_below) (lt-ltb e.column c.|C| h.column-below))
      (ap not (ne_eqb e.value 0 (λ zero. omega (arith, h.value_positive))))

  pass_after : (d : Entry) (es : List Entry) → All (EntryFits p c) es → Rising (d ∷ es) → All (λ t. t ≡ true) (entry_tests_after c d es)
  unfolding entry_tests_after
  pass_after d [] fit rise = tt
  pass_after d (e ∷ es) fit rise = (ap₂ ◌&&◌ (true-fits e fit.0) (true-rises d e rise.0), pass_after e es fit.1 rise.1)

  pub pass_entries : (es : List Entry) → All (EntryFits p c) es → Rising es → All (λ t. t ≡ true) (entry_tests c es)
  unfolding entry_tests
  pass_entries [] fit rise = tt
  pass_entries (e ∷ es) fit rise = (true-fits e fit.0, pass_after e es fit.1 rise)

-- a well-formed circuit is let through
pub well_formed_admitted : (q : Prime) (c : Circuit) → WellFormed q.p c → Admitted q c
unfolding circuit_refusals size_refusal size_tests list_refusal count_tests entry_values entry_refusal
well_formed_admitted q c w =
    let entries : MatrixName → List Entry = at c.matrices in
    let tests : MatrixName → List Bool = λ M. entry_tests c (entries M) in
    let Passes : Bool → Type 0 = λ t. t ≡ true in
    let Low : Entry → Type 0 = λ e. e.value < q.p in
    let few : (M : MatrixName) → leb (length (entries M)) max_size ≡ true = λ M. le-leb (length (entries M)) max_size (w.few M) in
    let low : (M : MatrixName) → All Low (entries M) = λ M. all_map (λ e h. h.value-below) (entries M) (w.fit M) in
    let pass : (M : MatrixName) → All Passes (tests M) = λ M. pass_entries q.p c (entries M) (w.fit M) (w.rising M) in
    let values : All (λ v. v < q.p) (entry_values c) =
    all-image (λ (e : Entry). e.value) (λ v. v < q.p) (entries A ++ (entries B ++ entries C))
    (all_append Low (entries A) (entries B ++ entries C) (low A) (all_append Low (entries B) (entries C) (low B) (low C))) in
    let size : size_refusal (size_tests c.|R| c.|C| c.|X| []) ≡ none =
    none-refuse 4 0 (size_tests c.|R| c.|C| c.|X| [])
    (w.R-size, (w.C-size, (ap₂ ◌&&◌ w.X-size (le-leb c.|X| c.|C| w.X-within), tt))) in
    let count : list_refusal (count_tests c) ≡ none = none-refuse 5 0 (count_tests c) (few A, (few B, (few C, tt))) in
    let word : word_refusal q (entry_values c ++ []) ≡ none =
    none-word_refusal q (entry_values c ++ []) (all_append (λ v. v < q.p) (entry_values c) [] values tt) in
    let entry : entry_refusal c ≡ none =
    none-refuse 7 0 (tests A ++ (tests B ++ tests C))
    (all_append Passes (tests A) (tests B ++ tests C) (pass A) (all_append Passes (tests B) (tests C) (pass B) (pass C))) in
    none_first (circuit_refusals q c (count_tests c) []) (size, (count, (word, (entry, tt))))

-- what is let through has at most 1,024 entries in each matrix
pub few-admitted : (q : Prime) (c : Circuit) → Admitted q c → (M : MatrixName) → length (at c.matrices M) ≤ max_size
few-admitted q c admitted = (admitted_well_formed q c admitted).few

-- a circuit without entries, where its sizes are let through
pub empty_admitted : (q : Prime) (r c x : ℕ) → size_refusal (size_tests r c x []) ≡ none → Admitted q (empty_circuit r c x)
unfolding circuit_refusals list_refusal count_tests word_refusal entry_values entry_refusal entry_tests
empty_admitted q r c x size =
    none_first (circuit_refusals q (empty_circuit r c x) (count_tests (empty_circuit r c x)) []) (size, (refl, (refl, (refl, tt))))

-- rows 4 to 7 with other lists that pass where the given ones do, and without the words after the circuit's
pub rows_with_lists :
    (q : Prime) (c : Circuit) (lists others : List Bool) (ws : List ℕ) → (All (λ t. t ≡ true) lists → All (λ t. t ≡ true) others)
    → first (circuit_refusals q c lists ws) ≡ none → first (circuit_refusals q c others []) ≡ none
unfolding circuit_refusals list_refusal
rows_with_lists q c lists others ws pass free =
    let (size, (list, (word, entry))) = first-none (circuit_refusals q c lists ws) free in
    let Low : ℕ → Type 0 = λ w. w < q.p in
    let (values, _) = append_all Low (entry_values c) ws (word_refusal-none q (entry_values c ++ ws) word) in
    none_first (circuit_refusals q c others []) (
      size,
      (
        none-refuse 5 0 others (pass (refuse-none 5 0 lists list)),
        (none-word_refusal q (entry_values c ++ []) (all_append Low (entry_values c) [] values tt), entry),
      ),
    )

-- lists of whole entries, not over 3 · 1,024 words long, hold not over 1,024 entries
few_in_list : (l : List ℕ) → (eqb (length l % 3) 0 && leb (length l) (3 * max_size)) ≡ true → leb (length (entries_of l)) max_size ≡ true
few_in_list l t =
    let few = leb-true (length l) (3 * max_size) (and-true (eqb (length l % 3) 0) (leb (length l) (3 * max_size)) t).1 in
    le-leb (length (entries_of l)) max_size (omega (arith, few, length-entries_of l))

-- so a circuit in lists that the indexer accepts is let through
pub lists-admitted :
    (q : Prime) (c : CircuitWords) → first (circuit_refusals q (circuit_of c) (entry_list_tests c) []) ≡ none → Admitted q (circuit_of c)
unfolding count_tests entry_list_tests circuit_of
lists-admitted q c =
    rows_with_lists q (circuit_of c) (entry_list_tests c) (count_tests (circuit_of c)) []
    (λ t. (few_in_list c.matrices.a t.0, (few_in_list c.matrices.b t.1.0, (few_in_list c.matrices.c t.1.1.0, tt))))

-- what the new one has and all of three have, all have after one is replaced
replaced_have :
    {T : Type 0} (P : T → Type 0) (t : Three T) (new : T) → P new → ((N : MatrixName) → P (at t N)) → (M N : MatrixName)
    → P (at (replace t M new) N)
replaced_have P t new h old A = elim [ A ↦ h | B ↦ old B | C ↦ old C ]
replaced_have P t new h old B = elim [ A ↦ old A | B ↦ h | C ↦ old C ]
replaced_have P t new h old C = elim [ A ↦ old A | B ↦ old B | C ↦ h ]

-- other entries in one matrix
pub changed-admitted :
    (q : Prime) (k : Circuit) (M : MatrixName) (es : List Entry) → Admitted q k → length es ≤ max_size → All (EntryFits q.p k) es
    → Rising es → Admitted q (changed k M es)
changed-admitted q k M es admitted few fit rise =
    let w = admitted_well_formed q k admitted in
    let next : Circuit = changed k M es in
    let still : (e : Entry) → EntryFits q.p k e → EntryFits q.p next e = λ e h. record {
      row_below = h.row_below;
      column-below = h.column-below;
      value_positive = h.value_positive;
      value-below = h.value-below;
    } in
    well_formed_admitted q next (record {
      R-size = w.R-size;
      C-size = w.C-size;
      X-size = w.X-size;
      X-within = w.X-within;
      few = replaced_have (λ l. length l ≤ max_size) k.matrices es few w.few M;
      fit = λ N. all_map still (at next.matrices N) (replaced_have (All (EntryFits q.p k)) k.matrices es fit w.fit M N);
      rising = replaced_have Rising k.matrices es rise w.rising M;
    })

-- an entry whose value is a field word and that passes the test of entries fits
pub entry-fits : (q : Prime) (k : Circuit) (e : Entry) → word_refusal q (e.value ∷ []) ≡ none → fits k e ≡ true → EntryFits q.p k e
entry-fits q k e word fit = fits-true q k e fit (word_refusal-none q (e.value ∷ []) word).0

-- its row is below 1,024, where |R| is a size: testing this too changes nothing
pub fits-row : (k : Circuit) (e : Entry) → is_size k.|R| ≡ true → fits k e ≡ true → e.row < max_size
unfolding fits
fits-row k e size fit =
    let both = (and-true (ltb e.row k.|R| && ltb e.column k.|C|) (not (eqb e.value 0)) fit).0 in
    let row = ltb-true e.row k.|R| (and-true (ltb e.row k.|R|) (ltb e.column k.|C|) both).0 in
    omega (arith, row, size_bound k.|R| size)

pub fits_with_bound : (k : Circuit) (e : Entry) → is_size k.|R| ≡ true → (ltb e.row max_size && fits k e) ≡ fits k e
fits_with_bound k e size = go (fits k e) (fits-row k e size)
  where
    go : (b : Bool) → (b ≡ true → e.row < max_size) → (ltb e.row max_size && b) ≡ b
    go true row = ap (λ (t : Bool). t && true) (lt-ltb e.row max_size (row refl))
    go false row = and-false (ltb e.row max_size)
