-- Demand 1 for circuits that grow by the entry. Assumes nothing.
use mathlib.Core.Path.{◌≡◌, refl, sym, subst}
use mathlib.Core.Bool.{Bool, not, ◌&&◌}
use mathlib.Core.List.{List, [], ◌∷◌}
use mathlib.Core.Option.{Option, none, some}
use Prim.Native.Nat.{ℕ, ◌<◌}
use lib.Dec.{eqb, ltb}
use lib.ListN.{length, get_or}
use native.Mathlib.Omega.{arith}
use Rattle.algebra.specs.Lists.{any}
use Rattle.field.specs.Prime.{Prime}
use Rattle.domain.specs.Size.{max_size}
use Rattle.domain.proofs.SizeLaws.{size_bound}
use Rattle.protocol.specs.Three.{MatrixName, A, B, C, Three, at}
use Rattle.protocol.specs.Circuit.{Entry, Circuit}
use Rattle.protocol.specs.Index.{Index}
use Rattle.protocol.specs.Refusals.{Refusal, map_outcome, judged, first, refuse, size_tests, size_refusal, list_refusal, word_refusal, fits}
use Rattle.protocol.specs.Admission.{circuit_refusals}
use Rattle.protocol.specs.Calls.{CircuitWords, circuit_of, entry_list_tests}
use Rattle.protocol.specs.Grown.{stored, grown_lists, grown_circuit, has_row, begin_call, begin_from_call, add_entry_call, remove_entry_call, find_row_call, grown_index_call}
use Rattle.protocol.specs.Growing.{number, changed, stands_at, entries_with, entries_without, addition, removal, Correct}
use Rattle.protocol.specs.Table.{Row, row, Answers}
use Rattle.protocol.specs.Rows.{size_conditions, entry_lists, Stands, circuit_rows}
use Rattle.protocol.specs.Demand1.{Occupied, index_rows, add_rows}
use Rattle.protocol.proofs.AdmissionLaws.{admitted_well_formed}
use Rattle.protocol.proofs.Growing.{growing}
use Rattle.protocol.proofs.TableLaws.{Tells, told, refuses_one, answers, answers-first, tells_equal, tells_less, tells_both, tells_as, tells_not, tells_some}
use Rattle.protocol.proofs.RowTests.{tell_sizes, sizes-told, lists-told, tells_stands, words-told, circuit-told}
use Rattle.protocol.proofs.CallAnswers.{tell_entry-lists, indexes}

pub begins : (r c x : ℕ) → Answers (row 4 0 (size_conditions r c x []) ∷ []) (begin_call r c x)
unfolding begin_call
begins r c x =
    answers (row 4 0 (size_conditions r c x []) ∷ []) (size_refusal (size_tests r c x [])) _
    (refuses_one (size_refusal (size_tests r c x [])) (row 4 0 (size_conditions r c x []))
    (sizes-told (size_tests r c x []) (size_conditions r c x []) (tell_sizes r c x [])))

tells_occupied : (i j : ℕ) (es : List Entry) → Tells (any (stands_at i j) es) (Occupied i j es)
tells_occupied i j =
    tells_some (stands_at i j) (λ (e : Entry). (e.row ≡ i) × (e.column ≡ j))
    (λ e. tells_both (eqb e.row i) (eqb e.column j) (tells_equal e.row i) (tells_equal e.column j))

-- what is made of the result of a judged call
judged_mapped : {S T : Type 0} (f : S → T) (o : Option Refusal) (result : S) → map_outcome f (judged o result) ≡ judged o (f result)
judged_mapped f none result = refl
judged_mapped f (some r) result = refl

module _ (q : Prime) where
  pub begins_from : (c : CircuitWords) → Answers (circuit_rows q (circuit_of c) (entry_lists max_size c) []) (begin_from_call q c)
  unfolding begin_from_call
  begins_from c =
      answers-first (circuit_refusals q (circuit_of c) (entry_list_tests c) []) (circuit_rows q (circuit_of c) (entry_lists max_size c) []) _
      (circuit-told q (circuit_of c) (entry_list_tests c) (entry_lists max_size c) [] (tell_entry-lists c))

  pub indexes_grown : (w : List ℕ) (lent : Three (Index ℕ)) → Answers (index_rows q (grown_lists w) lent) (grown_index_call q w lent)
  unfolding grown_index_call
  indexes_grown w = indexes q (grown_lists w)

  module _ (w : List ℕ) (correct : Correct q w) (M : MatrixName) where
    abbrev k : Circuit
    k = grown_circuit w

    abbrev es : List Entry
    es = at k.matrices M

    addition-answers : (e : Entry) → Answers (add_rows q k M e) (map_outcome stored (addition q k M e))
    unfolding addition
    addition-answers e =
        let taken : Bool = any (stands_at e.row e.column) es in
        let refusals : List (Option Refusal) =
        list_refusal (ltb (length es) max_size ∷ []) ∷ word_refusal q (e.value ∷ []) ∷ refuse 7 0 (fits k e ∷ []) ∷ refuse 14 0 (not taken ∷ []) ∷ [] in
        let next : Circuit = changed k M (entries_with e es) in
        subst (Answers (add_rows q k M e)) (sym (judged_mapped stored (first refusals) next))
        (answers-first refusals (add_rows q k M e) (stored next) (
          lists-told (ltb (length es) max_size ∷ []) ((length es < max_size) ∷ []) (tells_less (length es) max_size, tt),
          (
            words-told q (e.value ∷ []),
            (
              told 7 0 (fits k e ∷ []) (Stands k e ∷ []) (tells_stands k e, tt),
              (
                told 14 0 (not taken ∷ []) ((¬ Occupied e.row e.column es) ∷ [])
                    (tells_not taken (tells_occupied e.row e.column es), tt),
                tt,
              ),
            ),
          ),
        ))

    pub adds : (e : Entry) → Answers (add_rows q k M e) (add_entry_call q w (number M) e)
    adds e = subst (Answers (add_rows q k M e)) (sym ((growing q).adds w correct M e)) (addition-answers e)

    removal-answers : (i j : ℕ) → Answers (row 14 0 (Occupied i j es ∷ []) ∷ []) (map_outcome stored (removal k M i j))
    unfolding removal
    removal-answers i j =
        let refusal : Option Refusal = refuse 14 0 (any (stands_at i j) es ∷ []) in
        let rows : List Row = row 14 0 (Occupied i j es ∷ []) ∷ [] in
        let next : Circuit = changed k M (entries_without i j es) in
        subst (Answers rows) (sym (judged_mapped stored refusal next))
        (answers rows refusal (stored next)
        (refuses_one refusal (row 14 0 (Occupied i j es ∷ []))
        (told 14 0 (any (stands_at i j) es ∷ []) (Occupied i j es ∷ []) (tells_occupied i j es, tt))))

    pub removes : (i j : ℕ) → Answers (row 14 0 (Occupied i j es ∷ []) ∷ []) (remove_entry_call w (number M) i j)
    removes i j = subst (Answers _) (sym ((growing q).removes w correct M i j)) (removal-answers i j)

    tells_row : (i : ℕ) → Tells (has_row w (number M) i) (i < k.|R|)
    unfolding has_row circuit_of grown_lists
    tells_row i =
        let there : Bool = ltb (number M) 3 in
        let small : Bool = ltb i max_size in
        let within : Bool = ltb i (get_or w 0 0) in
        tells_as (there && small && within)
        (tells_both (there && small) within (tells_both there small (tells_less (number M) 3) (tells_less i max_size)) (tells_less i (get_or w 0 0)))
        (λ h. h.1) (λ below. ((named M, omega (arith, size_bound k.|R| (admitted_well_formed q k correct.admitted).R-size)), below))
      where
        named : (M : MatrixName) → number M < 3
        named A = omega arith
        named B = omega arith
        named C = omega arith

    pub finds_row : (i : ℕ) → Answers (row 7 0 ((i < k.|R|) ∷ []) ∷ []) (find_row_call w (number M) i)
    unfolding find_row_call
    finds_row i =
        let refusal : Option Refusal = refuse 7 0 (has_row w (number M) i ∷ []) in
        answers (row 7 0 ((i < k.|R|) ∷ []) ∷ []) refusal _
        (refuses_one refusal (row 7 0 ((i < k.|R|) ∷ [])) (told 7 0 (has_row w (number M) i ∷ []) ((i < k.|R|) ∷ []) (tells_row i, tt)))
