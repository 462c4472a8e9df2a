-- The lengths of the sections and of the lent bytes in a call to write a record, as rows against those that the sizes give. What
-- is known where the sizes and the lengths are not refused, and what the call answers. Assumes nothing.
use Rattle.std.proofs.Common.{◌≡◌, refl, sym, ap, ap₂, ◌∙◌, Bool, true, List, [], ◌∷◌, ◌++◌, map, ℕ, ◌+◌, ◌*◌, ◌≤◌, arith, eqb, length, get_or, take_all, eqb-true}
use Rattle.std.specs.Prelude.{Result, IsErrAnd}
use Rattle.std.proofs.Math.Option.{Option, none, some}
use Rattle.algebra.specs.Counting.{All}
use Rattle.algebra.proofs.Counting.{append_all}
use Rattle.field.specs.Prime.{Prime}
use Rattle.shared.specs.declared.Refusal as declared-refusal
use Rattle.protocol.specs.Circuit.{Sizes}
use Rattle.shared.specs.Meanings.{refusal, refusal_in}
use Rattle.protocol.specs.Refusals.{Refusal, judged, first, refuse, pairs, six_size_tests, size_refusal, list_refusal, word_refusal, trailer_bytes}
use Rattle.protocol.specs.Record.{section_lengths, section_bytes, write_record}
use Rattle.protocol.specs.Calls.{write_call}
use Rattle.protocol.proofs.RefusalLaws.{first-none, refuse-none}
use Rattle.protocol.proofs.Rows.{length_pairs, first_before_last, refuse_append}
use Rattle.record.specs.Layout.{Allowed, byte_count, bounds}
use Rattle.record.proofs.Allowed.{lengths_bound, byte_count_bound}
use Rattle.record.proofs.Starts.{eleven, last_bound}
use Rattle.shared.specs.Answers.{LentAnswer}
use Rattle.shared.proofs.LentAnswers.{lent_exits, lent-fills}
use Rattle.record_writer.specs.Sections.{joined, length_refusals, shape_refusal}

pub length-due : (s : Sizes) {due : List ℕ} → due ≡ section_lengths s → length due ≡ 11
length-due s e = ap length e ∙ eleven s

-- the lengths found against those due, then the lent bytes against the bounds given
pub length-rows : (s : Sizes) (found due given : List ℕ) (lent : ℕ)
    → length found ≡ 11 → due ≡ section_lengths s → given ≡ bounds (section_lengths s)
    → length_refusals s found lent
    ≡ first (refuse 5 0 (pairs eqb found due) ∷ refuse 5 11 (eqb lent (get_or given 11 0 + trailer_bytes) ∷ []) ∷ [])
unfolding length_refusals list_refusal section_bytes
length-rows s found due given lent whole lengths bounded =
    let last : List Bool = eqb lent (get_or given 11 0 + trailer_bytes) ∷ [] in
    let place : 0 + length (pairs eqb found due) ≡ 11 = omega (arith, length_pairs eqb found due, length-due s lengths) in
    let total : section_bytes s ≡ get_or given 11 0 =
    sym (ap (λ l. get_or l 11 0) bounded ∙ last_bound (section_lengths s) 11 (eleven s)) in
    ap₂ (λ l n. refuse 5 0 (pairs eqb found l ++ (eqb lent (n + trailer_bytes) ∷ []))) (sym lengths) total
    ∙ refuse_append 5 0 (pairs eqb found due) last
    ∙ ap (λ n. first (refuse 5 0 (pairs eqb found due) ∷ refuse 5 n last ∷ [])) place

-- sizes and lengths that are not refused
pub record Shaped (s : Sizes) (found : List ℕ) (lent : ℕ) : Type 0 where
  pub allowed : Allowed s
  pub lengths : found ≡ section_lengths s
  pub room : lent ≡ section_bytes s + trailer_bytes

pairs-equal : (l k : List ℕ) → length l ≡ length k → All (λ t. t ≡ true) (pairs eqb l k) → l ≡ k
pairs-equal [] [] e h = refl
pairs-equal [] (n ∷ k) e h = absurd (omega arith)
pairs-equal (m ∷ l) [] e h = absurd (omega arith)
pairs-equal (m ∷ l) (n ∷ k) e (here, later) =
    ap (λ x. x ∷ l) (eqb-true m n here) ∙ ap (λ x. n ∷ x) (pairs-equal l k (omega arith) later)

pub shaped : (s : Sizes) (found : List ℕ) (lent : ℕ) → length found ≡ 11 → shape_refusal s found lent ≡ none → Shaped s found lent
unfolding shape_refusal size_refusal length_refusals list_refusal
shaped s found lent whole free =
    let tests = pairs eqb found (section_lengths s) in
    let last = eqb lent (section_bytes s + trailer_bytes) in
    let rows = first-none (refuse 4 0 (six_size_tests s) ∷ refuse 5 0 (tests ++ (last ∷ [])) ∷ []) free in
    let all = append_all (λ t. t ≡ true) tests (last ∷ []) (refuse-none 5 0 (tests ++ (last ∷ [])) rows.1.0) in
    record {
      allowed = refuse-none 4 0 (six_size_tests s) rows.0;
      lengths = pairs-equal found (section_lengths s) (omega (arith, eleven s)) all.0;
      room = eqb-true lent (section_bytes s + trailer_bytes) all.1.0;
    }

module _ (s : Sizes) (found : List ℕ) (lent : ℕ) (shape : Shaped s found lent) where
  pub few_bytes : byte_count found ≤ 8192 * 11
  few_bytes =
      let l : List ℕ = section_lengths s in
      omega (
        arith,
        ap byte_count (shape.lengths ∙ sym (take_all 11 l (omega (arith, eleven s)))),
        byte_count_bound l 11 (lengths_bound s shape.allowed),
      )

  pub room-given : byte_count found + trailer_bytes ≡ lent
  unfolding section_bytes
  room-given = omega (arith, shape.room, ap byte_count shape.lengths)

-- the rows of a call to write a record, and what it answers by them
module _ (q : Prime) (s : Sizes) (parts : List (List ℕ)) (lent : ℕ) where
  abbrev shape : Option Refusal
  shape = shape_refusal s (map length parts) lent

  write_rows_lem : write_call q s parts lent ≡ judged (first (shape ∷ word_refusal q (joined parts) ∷ [])) (write_record s parts)
  unfolding write_call shape_refusal length_refusals
  write_rows_lem =
      ap (λ o. judged o (write_record s parts))
      (first_before_last (size_refusal (six_size_tests s) ∷ length_refusals s (map length parts) lent ∷ []) (word_refusal q (joined parts)))

  abbrev refused : Option Refusal
  refused = first (shape ∷ word_refusal q (joined parts) ∷ [])

  pub write_refused : {T : Type 0} (before : List ℕ) (r : Result T declared-refusal.Refusal) (e : declared-refusal.Refusal)
      → IsErrAnd r (λ y. y ≡ e) → some (refusal e) ≡ refused → LentAnswer (write_call q s parts lent) (refusal_in r) before before
  write_refused before r e exit says = rw write_rows_lem (lent_exits (write_record s parts) before r e exit says)

  pub write_done : (before : List ℕ) {after : List ℕ} → none ≡ refused → after ≡ write_record s parts
      → LentAnswer (write_call q s parts lent) none before after
  write_done before free e = rw write_rows_lem (lent-fills (write_record s parts) before free e)
