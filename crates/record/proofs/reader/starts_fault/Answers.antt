-- `record::reader::starts_fault` meets its contract: every start passed so far is the one given. Assumes nothing.
use Rattle.std.proofs.Common.{◌≡◌, sym, ap, ◌∙◌, false, List, [], ◌∷◌, ℕ, ◌-◌, ◌<◌, arith, eqb, length, get_or, eq-eqb, ne_eqb}
use Rattle.std.proofs.Math.Option.{Option}
use Rattle.algebra.specs.Lists.{tabulate}
use Rattle.algebra.proofs.PolynomialLaws.{length-tabulate, get_d_tabulate}
use Rattle.shared.specs.Meanings.{sizes}
use Rattle.protocol.specs.Record.{trailer_word}
use Rattle.protocol.specs.Refusals.{Refusal, first, refuse, pairs, trailer_bytes}
use Rattle.protocol.proofs.Rows.{passed_none, passed_turn, passed_stop, passed_end, length_pairs, pairs-at, first_stop, first_pass}
use Rattle.record.specs.Layout.{starts_refusal}
use Rattle.record.proofs.Starts.{length-given, start_rows}
use Rattle.record.proofs.reader.starts_fault.Goals as goal
use Rattle.record.proofs.reader.starts_fault.Goals.{After-section_bounds-given}

-- the rows, and the tests of the first, from where the bounds are known
module _ (b : After-section_bounds-given) where
  abbrev bytes : List ℕ
  bytes = b.args.bytes.now

  abbrev given : List ℕ
  given = b.section_bounds-given.result

  abbrev found : List ℕ
  found = tabulate 11 (trailer_word bytes)

  abbrev total_row : Option Refusal
  total_row = refuse 3 17 (eqb (length bytes - trailer_bytes) (get_or given 11 0) ∷ [])

  long : length given ≡ 12
  long = length-given (sizes b.args.s) b.section_bounds-given.ensures

  rows : starts_refusal bytes (sizes b.args.s) ≡ first (refuse 3 0 (pairs eqb found given) ∷ total_row ∷ [])
  rows = start_rows bytes (sizes b.args.s) given b.section_bounds-given.ensures

  length_tests : length (pairs eqb found given) ≡ 11
  length_tests = omega (arith, length_pairs eqb found given, length-tabulate 11 (trailer_word bytes), long)

  test_at : (k : ℕ) → k < 11 → get_or (pairs eqb found given) k false ≡ eqb (trailer_word bytes k) (get_or given k 0)
  test_at k below =
      pairs-at eqb found given k 0 0 false (omega (arith, length-tabulate 11 (trailer_word bytes))) (omega (arith, long))
      ∙ ap (λ n. eqb n (get_or given k 0)) (get_d_tabulate 11 k (trailer_word bytes) 0 below)

pub loop-k-init : goal.loop-k-init
loop-k-init c = passed_none 3 0 _

pub returns-then-trailer_word-given : goal.returns-then-trailer_word-given
returns-then-trailer_word-given c =
    let b = (goal.at.returns-then-trailer_word-given c).After-section_bounds-given in
    let stops = passed_stop 3 0 (pairs eqb (found b) (given b)) c.loop-k.k c.loop-k.invariant (omega (arith, length_tests b)) false
    c.loop-k.k (omega arith)
    (test_at b c.loop-k.k (omega arith) ∙ ne_eqb _ _ (λ e. c.if-trailer_word-given.true (c.trailer_word.ensures ∙ e))) in
    sym (rows b ∙ first_stop (total_row b ∷ []) (sym stops))

pub loop-k-preserved : goal.loop-k-preserved
loop-k-preserved c =
    let b = (goal.at.loop-k-preserved c).After-section_bounds-given in
    passed_turn 3 0 (pairs eqb (found b) (given b)) c.loop-k.k c.loop-k.invariant (omega (arith, length_tests b)) false
    (test_at b c.loop-k.k (omega arith) ∙ eq-eqb _ _ (sym c.trailer_word.ensures ∙ c.if-trailer_word-given.false))

pub returns-then-bytes-given : goal.returns-then-bytes-given
returns-then-bytes-given c =
    let b = (goal.at.returns-then-bytes-given c).After-section_bounds-given in
    let passes = passed_end 3 0 (pairs eqb (found b) (given b)) c.loop-k.k c.loop-k.invariant (omega (arith, length_tests b)) in
    sym (rows b ∙ first_pass (total_row b) passes ∙ ap (λ t. refuse 3 17 (t ∷ [])) (ne_eqb _ _ c.if-bytes-given.true))

pub returns : goal.returns
returns c =
    let b = (goal.at.returns c).After-section_bounds-given in
    let passes = passed_end 3 0 (pairs eqb (found b) (given b)) c.loop-k.k c.loop-k.invariant (omega (arith, length_tests b)) in
    sym (rows b ∙ first_pass (total_row b) passes ∙ ap (λ t. refuse 3 17 (t ∷ [])) (eq-eqb _ _ c.if-bytes-given.false))
