-- `record_writer::writer::write` meets its contract: sizes and lengths, then the words, then the record. Assumes nothing.
use Rattle.std.proofs.Common.{refl, sym, ap, ◌∙◌, List, [], ◌∷◌, map, ℕ, arith, length}
use Rattle.protocol.specs.Circuit.{Sizes}
use Rattle.shared.specs.Meanings.{sizes}
use Rattle.protocol.specs.Refusals.{first, word_refusal}
use Rattle.shared.proofs.EarlyReturns.{goes_on, last_answer_lem}
use Rattle.protocol.proofs.Rows.{word_row}
use Rattle.record_writer.specs.Sections.{joined, each_section}
use Rattle.record_writer.proofs.Lengths.{shaped, few_bytes, room-given, write_refused, write_done}
use Rattle.record_writer.proofs.writer.write.Goals as goal
use Rattle.record_writer.proofs.writer.write.Goals.{Start}

module _ (s : Start) where
  abbrev given : Sizes
  given = sizes s.args.sizes

  abbrev parts : List (List ℕ)
  parts =
      let a = s.args in
      each_section a.w.now a.m.now a.h0.now a.s.now a.g1.now a.h1.now a.o.now a.ga.now a.gb.now a.gc.now a.h2.now

  abbrev lent : ℕ
  lent = length s.args.out.now

pub returns-in_err-shape_fault : goal.returns-in_err-shape_fault
returns-in_err-shape_fault c q e =
    let s = (goal.at.returns-in_err-shape_fault c).Start in
    write_refused q (given s) (parts s) (lent s) c.args.out.now c.from_residual.result _ c.from_residual.ensures.1
    (ap (λ o. first (o ∷ word_refusal q (joined (parts s)) ∷ [])) c.in_err-shape_fault.ensures)

pub sections_fault-requires : goal.sections_fault-requires
sections_fault-requires c =
    let s = (goal.at.sections_fault-requires c).Start in
    let found = map length (parts s) in
    omega (arith, few_bytes (given s) found (lent s) (shaped (given s) found (lent s) refl (sym c.in_ok-shape_fault.ensures)))

pub returns-in_err-sections_fault : goal.returns-in_err-sections_fault
returns-in_err-sections_fault c q e =
    let s = (goal.at.returns-in_err-sections_fault c).Start in
    write_refused q (given s) (parts s) (lent s) c.args.out.now c.from_residual-in_err-sections_fault.result _
    c.from_residual-in_err-sections_fault.ensures.1
    (goes_on c.in_ok-shape_fault.ensures (word_refusal q (joined (parts s)) ∷ [])
    (last_answer_lem (c.in_err-sections_fault.ensures ∙ word_row q e (joined (parts s)))))

pub fill_record-requires : goal.fill_record-requires
fill_record-requires c =
    let s = (goal.at.fill_record-requires c).Start in
    let found = map length (parts s) in
    let shape = shaped (given s) found (lent s) refl (sym c.in_ok-shape_fault.ensures) in
    record { allowed = shape.allowed; trailer_bytes_value = room-given (given s) found (lent s) shape }

pub returns : goal.returns
returns c q e =
    let s = (goal.at.returns c).Start in
    write_done q (given s) (parts s) (lent s) c.args.out.now
    (goes_on c.in_ok-shape_fault.ensures (word_refusal q (joined (parts s)) ∷ [])
    (last_answer_lem (c.in_ok-sections_fault.ensures ∙ word_row q e (joined (parts s)))))
    c.fill_record.ensures
