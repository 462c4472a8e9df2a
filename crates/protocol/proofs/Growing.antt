-- Circuits that grow by the entry (document 02, request 3): memory after any sequence of calls, and what each call does to it.
-- Assumes nothing.
use mathlib.Core.Path.{◌≡◌, refl, sym, ap, subst, ◌∙◌}
use mathlib.Core.Bool.{Bool, true, ◌&&◌}
use mathlib.Core.List.{List, [], ◌∷◌, ◌++◌}
use Prim.Native.Nat.{ℕ, ◌+◌, ◌*◌, ◌<◌, ◌≤◌}
use native.Mathlib.Omega.{arith}
use lib.Dec.{ltb}
use lib.ListN.{length, get_or, length-append}
use borrow.Author.Tests.{lt-ltb}
use Rattle.field.specs.Prime.{Prime}
use Rattle.domain.specs.Size.{max_size}
use Rattle.domain.proofs.SizeLaws.{size_bound}
use Rattle.protocol.specs.Three.{MatrixName, A, B, C, at}
use Rattle.protocol.specs.Circuit.{Entry, Circuit}
use Rattle.protocol.specs.Refusals.{Outcome, Done, Refused, judged, refuse}
use Rattle.protocol.specs.Admission.{Admitted}
use Rattle.protocol.specs.Calls.{CircuitWords, words_of_entries, circuit_of, index_call}
use Rattle.protocol.specs.Grown.{row_entries, stored_matrix, stored, grown_words, total_place, counts_place, entries_place, row_start, row_length, grown_lists, grown_circuit, has_row, empty_circuit, begin_call, begin_from_call, add_entry_call, remove_entry_call, find_row_call, row_call, grown_index_call}
use Rattle.protocol.specs.Growing.{number, changed, stands_at, entries_with, Correct, Beginning, Empty, From, begun, Change, Add, Remove, change, left, after_changes, add_all, entries_in, Growing}
use Rattle.protocol.proofs.AdmissionLaws.{WellFormed, admitted_well_formed}
use Rattle.protocol.proofs.AdmittedCircuits.{few-admitted, empty_admitted, lists-admitted}
use Rattle.protocol.proofs.RefusalLaws.{judged-done}
use Rattle.protocol.proofs.EntryOrder.{lower, upper, split_at_place, rising_rise}
use Rattle.protocol.proofs.EntryWords.{length-stored-matrix}
use Rattle.protocol.proofs.GrownRefusals.{row_past, no_room, no_entry_lem, no_row}
use Rattle.protocol.proofs.StoredCircuits.{total-stored-word, count-stored, lists-stored, circuit-stored}
use Rattle.protocol.proofs.StoredRows.{stand_in, taken-parts, row_words}
use Rattle.protocol.proofs.GrownCalls.{number_small, circuit_with, circuit_without, added_stored, removed-stored, addition-admitted, removal-admitted, added_entry, removed-entry, remove_names, added}
use Rattle.protocol.proofs.AdditionOrder.{reordered}

-- a row of a circuit that is stored: it is found, and its words are those of its entries
module _ (q : Prime) (k : Circuit) (admitted : Admitted q k) (M : MatrixName) (i : ℕ) (below : i < k.|R|) where
  row_small : i < max_size
  row_small = omega (arith, below, size_bound k.|R| (admitted_well_formed q k admitted).R-size)

  abbrev row_place : ℕ × ℕ
  row_place = (entries_place (number M) + 3 * row_start (stored k) (number M) i, 3 * row_length (stored k) (number M) i)

  row-found : find_row_call (stored k) (number M) i ≡ Done row_place
  unfolding find_row_call has_row stored
  row-found =
      let there : (ltb (number M) 3 && ltb i max_size && ltb i k.|R|) ≡ true =
      rw (number_small M, lt-ltb i max_size row_small) (lt-ltb i k.|R| below) in
      ap (λ (b : Bool). judged (refuse 7 0 (b ∷ [])) row_place) there

  row-stored : row_call (stored k) (number M) i ≡ words_of_entries (row_entries i (at k.matrices M))
  unfolding row_call
  row-stored = rw (row-found, row_call) (row_words k (admitted_well_formed q k admitted) M i row_small)

module _ (q : Prime) where
  -- memory that holds a circuit that is let through, as this is stored: it is correct, and the circuit in it is this one
  correct_stored : (k : Circuit) → Admitted q k → Correct q (stored k)
  correct_stored k admitted =
      let same : k ≡ grown_circuit (stored k) = sym (circuit-stored k (few-admitted q k admitted)) in
      record { held = ap stored same; admitted = subst (Admitted q) same admitted }

  correct_is : (w : List ℕ) (k : Circuit) → w ≡ stored k → Admitted q k → Correct q w
  correct_is w k same admitted = subst (Correct q) (sym same) (correct_stored k admitted)

  circuit-is : (w : List ℕ) (k : Circuit) → w ≡ stored k → Admitted q k → grown_circuit w ≡ k
  circuit-is w k same admitted = ap grown_circuit same ∙ circuit-stored k (few-admitted q k admitted)

  -- the beginnings: what they store, and that it is let through
  begun_empty : (r c x : ℕ) (w : List ℕ) → begin_call r c x ≡ Done w → (w ≡ stored (empty_circuit r c x)) × Admitted q (empty_circuit r c x)
  unfolding begin_call
  begun_empty r c x w done = let (free, same) = judged-done _ _ done in (sym same, empty_admitted q r c x free)

  begun_from : (c : CircuitWords) (w : List ℕ) → begin_from_call q c ≡ Done w → (w ≡ stored (circuit_of c)) × Admitted q (circuit_of c)
  unfolding begin_from_call
  begun_from c w done = let (free, same) = judged-done _ _ done in (sym same, lists-admitted q c free)

  begun_correct : (b : Beginning) (w : List ℕ) → begun q b ≡ Done w → Correct q w
  begun_correct (Empty r c x) w done = let (same, admitted) = begun_empty r c x w done in correct_is w (empty_circuit r c x) same admitted
  begun_correct (From c) w done = let (same, admitted) = begun_from c w done in correct_is w (circuit_of c) same admitted

  -- after one change, refused or not, and after all
  stored-changed : (k : Circuit) → Admitted q k → (c : Change) → Correct q (left (stored k) (change q (stored k) c))
  stored-changed k admitted (Add n e) = go (add_entry_call q (stored k) n e) refl
    where
      go : (o : Outcome (List ℕ)) → add_entry_call q (stored k) n e ≡ o → Correct q (left (stored k) o)
      go (Refused r) same = correct_stored k admitted
      go (Done next) done =
          let a = added q k admitted n e next done in
          correct_is next (circuit_with k a.matrix e) a.holds a.admitted
  stored-changed k admitted (Remove n i j) = go (remove_entry_call (stored k) n i j) refl
    where
      go : (o : Outcome (List ℕ)) → remove_entry_call (stored k) n i j ≡ o → Correct q (left (stored k) o)
      go (Refused r) same = correct_stored k admitted
      go (Done next) done =
          let (M, names) = remove_names (stored k) n i j next done in
          let (taken, holds) =
          removed-entry q k M admitted i j next (ap (λ (m : ℕ). remove_entry_call (stored k) m i j) names ∙ done) in
          correct_is next (circuit_without k M i j) holds (removal-admitted q k M admitted i j)

  changed_correct : (w : List ℕ) → Correct q w → (c : Change) → Correct q (left w (change q w c))
  changed_correct w correct c =
      subst (λ (v : List ℕ). Correct q (left v (change q v c))) (sym correct.held)
      (stored-changed (grown_circuit w) correct.admitted c)

  all_correct : (cs : List Change) (w : List ℕ) → Correct q w → Correct q (after_changes q w cs)
  all_correct [] w correct = correct
  all_correct (c ∷ cs) w correct = all_correct cs (left w (change q w c)) (changed_correct w correct c)

  -- what an addition and a removal do to the circuit in correct memory
  module _ (w : List ℕ) (correct : Correct q w) where
    abbrev k : Circuit
    k = grown_circuit w

    abbrev formed : WellFormed q.p k
    formed = admitted_well_formed q k correct.admitted

    just_added :
        (next : List ℕ) (M : MatrixName) (e : Entry) → add_entry_call q w (number M) e ≡ Done next
        → (front : List Entry) × ((back : List Entry) × ((entries_in w M ≡ front ++ back)
        × (grown_circuit next ≡ changed k M (front ++ (e ∷ back)))))
    unfolding entries_with
    just_added next M e done =
        let es : List Entry = entries_in w M in
        let (can, holds) =
        added_entry q k M correct.admitted e next (ap (λ (v : List ℕ). add_entry_call q v (number M) e) (sym correct.held) ∙ done) in
        let few = few-admitted q (circuit_with k M e) (addition-admitted q k M correct.admitted e can) in
        (lower e es, (upper e es, (split_at_place e es (formed.rising M), ap grown_circuit holds ∙ circuit-stored (circuit_with k M e) few)))

    just_removed :
        (next : List ℕ) (M : MatrixName) (i j : ℕ) → remove_entry_call w (number M) i j ≡ Done next
        → (front : List Entry) × ((e : Entry) × ((back : List Entry) × ((stands_at i j e ≡ true) × ((entries_in w M ≡ front ++ (e ∷ back))
        × (grown_circuit next ≡ changed k M (front ++ back))))))
    just_removed next M i j done =
        let es : List Entry = entries_in w M in
        let (taken, holds) =
        removed-entry q k M correct.admitted i j next
        (ap (λ (v : List ℕ). remove_entry_call v (number M) i j) (sym correct.held) ∙ done) in
        let (e, (back, (stands, (cut, without)))) = taken-parts k formed M i j taken in
        let few = few-admitted q (circuit_without k M i j) (removal-admitted q k M correct.admitted i j) in
        let left_over = ap grown_circuit holds ∙ circuit-stored (circuit_without k M i j) few ∙ ap (changed k M) without in
        (lower (stand_in i j) es, (e, (back, (stands, (cut, left_over)))))

length-stored : (k : Circuit) → ((M : MatrixName) → length (at k.matrices M) ≤ max_size) → length (stored k) ≡ grown_words
unfolding stored
length-stored k few =
    let m : MatrixName → List ℕ = λ M. stored_matrix (at k.matrices M) in
    omega (
      arith,
      length-append (m A) (m B ++ m C),
      length-append (m B) (m C),
      length-stored-matrix (at k.matrices A) (few A),
      length-stored-matrix (at k.matrices B) (few B),
      length-stored-matrix (at k.matrices C) (few C),
    )

pub growing : (q : Prime) → Growing q
unfolding grown_index_call
growing q =
    record {
      begins_empty = λ r c x w done. let (same, admitted) = begun_empty q r c x w done in circuit-is q w (empty_circuit r c x) same admitted;
      begins_from = λ c w done. let (same, admitted) = begun_from q c w done in circuit-is q w (circuit_of c) same admitted;
      always_correct = λ b w done cs. all_correct q cs w (begun_correct q b w done);
      words-counted = λ w correct. ap length correct.held ∙ length-stored (grown_circuit w) (few-admitted q (grown_circuit w) correct.admitted);
      total-counted = λ w correct M.
          ap (λ (v : List ℕ). get_or v (total_place (number M)) 0) correct.held
          ∙ total-stored-word (grown_circuit w) (few-admitted q (grown_circuit w) correct.admitted) M;
      rows-counted = λ w correct M i small.
          ap (λ (v : List ℕ). get_or v (counts_place (number M) + i) 0) correct.held
          ∙ count-stored (grown_circuit w) (few-admitted q (grown_circuit w) correct.admitted) M i small;
      entries_rise = λ w correct M. rising_rise (entries_in w M) ((admitted_well_formed q (grown_circuit w) correct.admitted).rising M);
      adds = λ w correct M e.
          ap (λ (v : List ℕ). add_entry_call q v (number M) e) correct.held ∙ added_stored q (grown_circuit w) M correct.admitted e;
      removes = λ w correct M i j.
          ap (λ (v : List ℕ). remove_entry_call v (number M) i j) correct.held
          ∙ removed-stored q (grown_circuit w) M correct.admitted i j;
      adds_just = λ w next correct. just_added q w correct next;
      removes_just = λ w next correct. just_removed q w correct next;
      row-entries = λ w correct M i below.
          ap (λ (v : List ℕ). row_call v (number M) i) correct.held ∙ row-stored q (grown_circuit w) correct.admitted M i below;
      row_past = row_past;
      no_such_matrix = λ w n past. (no_room w n past q, (no_entry_lem w n past, no_row w n past));
      indexes = λ w correct lent.
          ap (λ (c : CircuitWords). index_call q c lent)
          (ap grown_lists correct.held ∙ lists-stored (grown_circuit w) (few-admitted q (grown_circuit w) correct.admitted));
      any_order = λ w next correct entries others order done.
          ap (λ (v : List ℕ). add_all q v others) correct.held
          ∙ reordered q entries others order (grown_circuit w) correct.admitted next
          (ap (λ (v : List ℕ). add_all q v entries) (sym correct.held) ∙ done);
    }
