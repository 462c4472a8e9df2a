-- What the values of the declared types mean, in document 01's numbers and values. Assumes nothing.
use Rattle.std.specs.Prelude.{List, [], ℕ, get_or, Result, Ok, Err}
use Rattle.std.proofs.Math.Option.{Option, none, some}
use Rattle.shared.specs.declared.Row as declared-row
use Rattle.shared.specs.declared.Row.TheVariants as row
use Rattle.shared.specs.declared.Refusal as declared-refusal
use Rattle.shared.specs.declared.Three as declared-three
use Rattle.shared.specs.declared.Sizes as declared-sizes
use Rattle.shared.specs.declared.Transcript as declared-transcript
use Rattle.shared.specs.declared.Opened.{Opened}
use Rattle.shared.specs.declared.Check as declared-check
use Rattle.shared.specs.declared.Check.TheVariants as check
use Rattle.shared.specs.declared.Verdict as declared-verdict
use Rattle.shared.specs.declared.Verdict.TheVariants as verdict
use Rattle.shared.specs.declared.lengths.Lengths.{Lengths}
use Rattle.protocol.specs.Three.{Three}
use Rattle.protocol.specs.Circuit.{Sizes}
use Rattle.protocol.specs.Index.{Index}
use Rattle.protocol.specs.Checks.{Transcript, Openings, Check, Row, Line, Matrix, Verdict, Accept, Fails}
use Rattle.protocol.specs.Messages.{MessageLengths}
use Rattle.protocol.specs.Refusals.{Refusal, Outcome, Done, Refused}

-- the number of a row in the table of refusals
abbrev pub row_number : declared-row.Row → ℕ
row_number row.Turn = 1
row_number row.RecordEnd = 2
row_number row.RecordTrailer = 3
row_number row.Size = 4
row_number row.List = 5
row_number row.Word = 6
row_number row.Entry = 7
row_number row.Mask = 8
row_number row.Assignment = 9
row_number row.Challenge = 10
row_number row.Length = 11
row_number row.Inverse = 12
row_number row.Constant = 13
row_number row.Taken = 14
row_number row.Blinding = 15

abbrev pub refusal : declared-refusal.Refusal → Refusal
refusal r = record { number = row_number r.0; position = r.1 }

-- the refusal in an answer, if it refuses
abbrev pub refusal_in : {T : Type 0} → Result T declared-refusal.Refusal → Option Refusal
refusal_in (Ok result) = none
refusal_in (Err r) = some (refusal r)

-- what an answer means, from what its error and its result mean
abbrev pub outcome_by : {E S T : Type 0} → (E → Refusal) → (S → T) → Result S E → Outcome T
outcome_by refused meaning (Ok result) = Done (meaning result)
outcome_by refused meaning (Err e) = Refused (refused e)

-- the same, of an answer whose error is a refusal of the table
abbrev pub outcome : {S T : Type 0} → (S → T) → Result S declared-refusal.Refusal → Outcome T
outcome = outcome_by refusal

-- what there is for each matrix
abbrev pub three : declared-three.Three ℕ → Three ℕ
three t = record { a = t.a; b = t.b; c = t.c }

abbrev pub sizes : declared-sizes.Sizes → Sizes
sizes s = record { |R| = s.r; |C| = s.c; |X| = s.x; |K| = three s.k }

abbrev pub transcript : declared-transcript.Transcript → Transcript ℕ
transcript h =
    record {
      α = h.alpha;
      sums = three h.sums;
      η = three h.eta;
      β = h.beta;
      values = three h.values;
      δ = three h.delta;
      γ = h.gamma;
    }

-- the lengths of the messages
abbrev pub message_lengths : Lengths → MessageLengths
message_lengths l =
    record {
      witness = l.witness;
      mask = l.mask;
      row_quotient = l.row_quotient;
      line_remainder = l.line_remainder;
      line_quotient = l.line_quotient;
      matrix_remainders = three l.matrix_remainders;
      joined_quotient = l.joined_quotient;
    }

-- the four openings of one matrix's index polynomials
abbrev pub index_words : List ℕ → Index ℕ
index_words l = record { row = get_or l 0 0; col = get_or l 1 0; rowcol = get_or l 2 0; rowcolval = get_or l 3 0 }

-- all 21 openings
abbrev pub openings : Opened → List (List ℕ) → Openings ℕ
openings o index =
    record {
      witness = o.witness;
      mask = o.mask;
      line_remainder = o.line_remainder;
      line_quotient = o.line_quotient;
      row_quotient = o.row_quotient;
      joined_quotient = o.joined_quotient;
      matrix_remainders = three o.matrix_remainders;
      index = record { a = index_words (get_or index 0 []); b = index_words (get_or index 1 []); c = index_words (get_or index 2 []) };
    }

abbrev pub check_of : declared-check.Check → Check
check_of check.Row = Row
check_of check.Line = Line
check_of check.Matrix = Matrix

abbrev pub verdict_meaning : declared-verdict.Verdict → Verdict
verdict_meaning verdict.Accept = Accept
verdict_meaning (verdict.Fails c) = Fails (check_of c)
