-- Additions and removals on memory and on the circuit that stands in it: they have the same outcomes, and what they leave of a circuit that
-- the table of refusals lets through is let through. Assumes nothing.
use mathlib.Core.Path.{◌≡◌, refl, sym, ap, ap₂, ◌∙◌}
use mathlib.Core.Bool.{Bool, true, false, not, ◌&&◌}
use mathlib.Core.List.{List, [], ◌∷◌}
use mathlib.Core.Option.{Option, none, some}
use Prim.Native.Nat.{ℕ, zero, suc, ◌<◌}
use native.Mathlib.Omega.{arith}
use native.Mathlib.Decide.{dec_lt}
use lib.Dec.{ltb}
use lib.ListN.{length, get_or}
use borrow.Author.Tests.{ltb-true, lt-ltb, le-ltb, not-true}
use Rattle.algebra.specs.Lists.{any}
use Rattle.algebra.proofs.Keeping.{length-keep}
use Rattle.field.specs.Prime.{Prime}
use Rattle.domain.specs.Size.{max_size}
use Rattle.protocol.specs.Three.{MatrixName, A, B, C, at}
use Rattle.protocol.specs.Circuit.{Entry, Circuit}
use Rattle.protocol.specs.Refusals.{Refusal, Outcome, Done, Refused, map_outcome, judged, first, refuse, list_refusal, word_refusal, fits}
use Rattle.protocol.specs.Admission.{Admitted}
use Rattle.protocol.specs.Grown.{stored, total_place, grown_circuit, occupied, with_entry, without_entry, occupied_refusal, vacant_refusal, add_refusal, add_entry_call, remove_entry_call}
use Rattle.protocol.specs.Growing.{number, changed, stands_at, entries_with, entries_without, addition, removal}
use Rattle.protocol.proofs.RefusalLaws.{first-none, none_first, refuse-none, none-refuse, and-true, judged-done}
use Rattle.protocol.proofs.AdmissionLaws.{EntryFits, WellFormed, admitted_well_formed}
use Rattle.protocol.proofs.AdmittedCircuits.{changed-admitted, entry-fits, fits-row, fits_with_bound}
use Rattle.protocol.proofs.EntryOrder.{with_all, length_with, with_rising, without_rising, without_all}
use Rattle.protocol.proofs.StoredCircuits.{total-stored-word, circuit-stored}
use Rattle.protocol.proofs.StoredRows.{past_vacant, occupied-stored, with_stored, without_stored}

-- the matrices have the numbers 0, 1 and 2, and no other number is that of a matrix
pub number_small : (M : MatrixName) → ltb (number M) 3 ≡ true
number_small A = refl
number_small B = refl
number_small C = refl

named : (n : ℕ) → ltb n 3 ≡ true → (M : MatrixName) × (number M ≡ n)
named zero small = (A, refl)
named (suc zero) small = (B, refl)
named (suc (suc zero)) small = (C, refl)
named (suc (suc (suc n))) small = absurd (omega (arith, ltb-true (suc (suc (suc n))) 3 small))

-- a call on memory and one on the circuit, refused by the same rows, and the result of one that is done
judged-stored : (r : Option Refusal) (w : List ℕ) (k : Circuit) → (r ≡ none → w ≡ stored k) → judged r w ≡ map_outcome stored (judged r k)
judged-stored none w k same = ap Done (same refl)
judged-stored (some r) w k same = refl

mapped_done :
    {S T : Type 0} (f : S → T) (o : Outcome S) (result : T) → map_outcome f o ≡ Done result
    → (x : S) × ((o ≡ Done x) × (f x ≡ result))
mapped_done f (Done x) result done = (x, (refl, cc))
mapped_done f (Refused r) result done = let z : ◌≡◌ {A = ℕ} 0 1 = cc in absurd (omega arith)

-- the last row of an addition is looked at only where the entry fits
fourth-row :
    (list word : Option Refusal) (fit : Bool) (r s : Option Refusal) → (fit ≡ true → r ≡ s)
    → first (list ∷ word ∷ refuse 7 0 (fit ∷ []) ∷ r ∷ []) ≡ first (list ∷ word ∷ refuse 7 0 (fit ∷ []) ∷ s ∷ [])
fourth-row (some _) word fit r s same = refl
fourth-row none (some _) fit r s same = refl
fourth-row none none true r s same = ap (λ (o : Option Refusal). first (o ∷ [])) (same refl)
fourth-row none none false r s same = refl

-- the circuit with an entry more, and without the one at row i, column j
abbrev pub circuit_with : Circuit → MatrixName → Entry → Circuit
circuit_with k M e = changed k M (entries_with e (at k.matrices M))

abbrev pub circuit_without : Circuit → MatrixName → ℕ → ℕ → Circuit
circuit_without k M i j = changed k M (entries_without i j (at k.matrices M))

-- an entry stands at the place of e
abbrev taken : List Entry → Entry → Bool
taken es e = any (stands_at e.row e.column) es

-- an addition is done just where there is room, the entry fits, and its place is free
pub record Addable (q : Prime) (k : Circuit) (es : List Entry) (e : Entry) : Type 0 where
  pub room : length es < max_size
  pub word : word_refusal q (e.value ∷ []) ≡ none
  pub fit : fits k e ≡ true
  pub free : taken es e ≡ false

module _ (q : Prime) (k : Circuit) where
  -- the rows of an addition
  abbrev addition_rows : List Entry → Entry → List (Option Refusal)
  addition_rows es e =
      list_refusal (ltb (length es) max_size ∷ [])
      ∷ word_refusal q (e.value ∷ [])
      ∷ refuse 7 0 (fits k e ∷ [])
      ∷ refuse 14 0 (not (taken es e) ∷ [])
      ∷ []

  addable : (es : List Entry) (e : Entry) → first (addition_rows es e) ≡ none → Addable q k es e
  unfolding list_refusal
  addable es e passed =
      let (list, (word, (fit, (free, _)))) = first-none (addition_rows es e) passed in
      record {
        room = ltb-true (length es) max_size (refuse-none 5 0 (ltb (length es) max_size ∷ []) list).0;
        word = word;
        fit = (refuse-none 7 0 (fits k e ∷ []) fit).0;
        free = not-true (taken es e) (refuse-none 14 0 (not (taken es e) ∷ []) free).0;
      }

  passes : (es : List Entry) (e : Entry) → Addable q k es e → first (addition_rows es e) ≡ none
  unfolding list_refusal
  passes es e can =
      let list = none-refuse 5 0 (ltb (length es) max_size ∷ []) (lt-ltb (length es) max_size can.room, tt) in
      let fit = none-refuse 7 0 (fits k e ∷ []) (can.fit, tt) in
      let free = none-refuse 14 0 (not (taken es e) ∷ []) (ap not can.free, tt) in
      none_first (addition_rows es e) (list, (can.word, (fit, (free, tt))))

  module _ (M : MatrixName) where
    abbrev es : List Entry
    es = at k.matrices M

    addition-done :
        (e : Entry) (next : Circuit) → addition q k M e ≡ Done next → Addable q k es e × (circuit_with k M e ≡ next)
    unfolding addition
    addition-done e next done = let (free, same) = judged-done (first (addition_rows es e)) _ done in (addable es e free, same)

    done-addition : (e : Entry) → Addable q k es e → addition q k M e ≡ Done (circuit_with k M e)
    unfolding addition
    done-addition e can = ap (λ (r : Option Refusal). judged r (circuit_with k M e)) (passes es e can)

    module _ (admitted : Admitted q k) where
      abbrev n : ℕ
      n = number M

      abbrev w : List ℕ
      w = stored k

      abbrev formed : WellFormed q.p k
      formed = admitted_well_formed q k admitted

      -- the same rows, and the same result where none refuses
      add-refusal-stored : (e : Entry) → add_refusal q w n e ≡ first (addition_rows es e)
      unfolding add_refusal occupied_refusal
      add-refusal-stored e =
          let room : (ltb n 3 && ltb (get_or w (total_place n) 0) max_size) ≡ ltb (length es) max_size =
          ap₂ (λ (b : Bool) (m : ℕ). b && ltb m max_size) (number_small M) (total-stored-word k formed.few M) in
          let fit : (ltb e.row max_size && fits (grown_circuit w) e) ≡ fits k e =
          ap (λ (c : Circuit). ltb e.row max_size && fits c e) (circuit-stored k formed.few) ∙ fits_with_bound k e formed.R-size in
          ap₂ (λ (room fit : Bool).
          first
          (list_refusal (room ∷ []) ∷ word_refusal q (e.value ∷ []) ∷ refuse 7 0 (fit ∷ [])
          ∷ refuse 14 0 (not (occupied w n e.row e.column) ∷ []) ∷ [])) room fit
          ∙ fourth-row (list_refusal (ltb (length es) max_size ∷ [])) (word_refusal q (e.value ∷ [])) (fits k e) _ _ (λ t.
          ap (λ (b : Bool). refuse 14 0 (not b ∷ []))
          (occupied-stored k formed M e.row e.column (fits-row k e formed.R-size t)))

      pub added_stored : (e : Entry) → add_entry_call q w n e ≡ map_outcome stored (addition q k M e)
      unfolding add_entry_call addition
      added_stored e =
          ap (λ (r : Option Refusal). judged r (with_entry w n e)) (add-refusal-stored e)
          ∙ judged-stored (first (addition_rows es e)) (with_entry w n e) (circuit_with k M e) (λ passed.
          let can = addable es e passed in
          with_stored k formed M e can.room (fits-row k e formed.R-size can.fit))

      vacant_stored : (i j : ℕ) → (ltb n 3 && ltb i max_size && occupied w n i j) ≡ any (stands_at i j) es
      vacant_stored i j = elim (dec_lt i max_size) [
        | yes small ↦
            ap₂ (λ (a b : Bool). a && b && occupied w n i j) (number_small M) (lt-ltb i max_size small)
            ∙ occupied-stored k formed M i j small
        | no large ↦
            ap₂ (λ (a b : Bool). a && b && occupied w n i j) (number_small M) (le-ltb i max_size (omega arith))
            ∙ sym (past_vacant k formed M i j (omega arith))
      ]

      pub removed-stored : (i j : ℕ) → remove_entry_call w n i j ≡ map_outcome stored (removal k M i j)
      unfolding remove_entry_call vacant_refusal removal
      removed-stored i j =
          ap (λ (b : Bool). judged (refuse 14 0 (b ∷ [])) (without_entry w n i j)) (vacant_stored i j)
          ∙ judged-stored (refuse 14 0 (any (stands_at i j) es ∷ [])) (without_entry w n i j) (circuit_without k M i j) (λ passed.
          without_stored k formed M i j (refuse-none 14 0 (any (stands_at i j) es ∷ []) passed).0)

      -- what is let through stays so
      pub addition-admitted : (e : Entry) → Addable q k es e → Admitted q (circuit_with k M e)
      addition-admitted e can =
          changed-admitted q k M (entries_with e es) admitted (omega (arith, length_with e es, can.room))
          (with_all (EntryFits q.p k) e es (entry-fits q k e can.word can.fit) (formed.fit M))
          (with_rising e es (formed.rising M) can.free)

      pub removal-admitted : (i j : ℕ) → Admitted q (circuit_without k M i j)
      unfolding entries_without
      removal-admitted i j =
          changed-admitted q k M (entries_without i j es) admitted
          (omega (arith, length-keep (λ (d : Entry). not (stands_at i j d)) es, formed.few M))
          (without_all (EntryFits q.p k) i j es (formed.fit M)) (without_rising i j es (formed.rising M))

      -- calls that are done
      pub adds-entry : (e : Entry) → Addable q k es e → add_entry_call q w n e ≡ Done (stored (circuit_with k M e))
      adds-entry e can = added_stored e ∙ ap (map_outcome stored) (done-addition e can)

      pub added_entry :
          (e : Entry) (next : List ℕ) → add_entry_call q w n e ≡ Done next → Addable q k es e × (next ≡ stored (circuit_with k M e))
      added_entry e next done =
          let (c, (added, same)) = mapped_done stored (addition q k M e) next (sym (added_stored e) ∙ done) in
          let (can, result) = addition-done e c added in
          (can, sym same ∙ ap stored (sym result))

      pub removed-entry :
          (i j : ℕ) (next : List ℕ) → remove_entry_call w n i j ≡ Done next
          → (any (stands_at i j) es ≡ true) × (next ≡ stored (circuit_without k M i j))
      unfolding removal
      removed-entry i j next done =
          let (c, (removed, same)) = mapped_done stored (removal k M i j) next (sym (removed-stored i j) ∙ done) in
          let (passed, result) = judged-done (refuse 14 0 (any (stands_at i j) es ∷ [])) _ removed in
          ((refuse-none 14 0 (any (stands_at i j) es ∷ []) passed).0, sym same ∙ ap stored (sym result))

-- a call that is done names a matrix by its number
module _ (w : List ℕ) (n : ℕ) where
  add_names : (q : Prime) (e : Entry) (next : List ℕ) → add_entry_call q w n e ≡ Done next → (M : MatrixName) × (number M ≡ n)
  unfolding add_entry_call add_refusal list_refusal
  add_names q e next done =
      let room : Bool = ltb (get_or w (total_place n) 0) max_size in
      let others : List (Option Refusal) =
      word_refusal q (e.value ∷ [])
      ∷ refuse 7 0 ((ltb e.row max_size && fits (grown_circuit w) e) ∷ [])
      ∷ occupied_refusal w n e.row e.column
      ∷ [] in
      let free = (judged-done (add_refusal q w n e) (with_entry w n e) done).0 in
      let passed = (first-none (list_refusal ((ltb n 3 && room) ∷ []) ∷ others) free).0 in
      named n (and-true (ltb n 3) room (refuse-none 5 0 ((ltb n 3 && room) ∷ []) passed).0).0

  pub remove_names : (i j : ℕ) (next : List ℕ) → remove_entry_call w n i j ≡ Done next → (M : MatrixName) × (number M ≡ n)
  unfolding remove_entry_call vacant_refusal
  remove_names i j next done =
      let there : Bool = occupied w n i j in
      let passed = (judged-done (vacant_refusal w n i j) (without_entry w n i j) done).0 in
      let tests = (refuse-none 14 0 ((ltb n 3 && ltb i max_size && there) ∷ []) passed).0 in
      named n (and-true (ltb n 3) (ltb i max_size) (and-true (ltb n 3 && ltb i max_size) there tests).0).0

-- an addition that is done: the matrix that it names, and the circuit after it
pub record Added (q : Prime) (k : Circuit) (n : ℕ) (e : Entry) (next : List ℕ) : Type 0 where
  pub matrix : MatrixName
  pub names : number matrix ≡ n
  pub can : Addable q k (at k.matrices matrix) e
  pub holds : next ≡ stored (circuit_with k matrix e)
  pub admitted : Admitted q (circuit_with k matrix e)

pub added :
    (q : Prime) (k : Circuit) → Admitted q k → (n : ℕ) (e : Entry) (next : List ℕ) → add_entry_call q (stored k) n e ≡ Done next
    → Added q k n e next
added q k admitted n e next done =
    let (M, names) = add_names (stored k) n q e next done in
    let (can, holds) = added_entry q k M admitted e next (ap (λ (m : ℕ). add_entry_call q (stored k) m e) names ∙ done) in
    record { matrix = M; names = names; can = can; holds = holds; admitted = addition-admitted q k M admitted e can }
