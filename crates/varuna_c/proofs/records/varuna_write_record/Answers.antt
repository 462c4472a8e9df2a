-- `varuna_c::records::varuna_write_record` meets its contract. Assumes nothing.
use Rattle.std.proofs.Common.{ap, ◌∙◌}
use Rattle.std.specs.Prelude.{List, ℕ, length}
use Rattle.domain.specs.BabyBear.{baby_bear}
use Rattle.protocol.specs.Circuit.{Sizes}
use Rattle.protocol.specs.Refusals.{Outcome}
use Rattle.protocol.specs.Calls.{write_call}
use Rattle.record_writer.specs.Sections.{each_section}
use Rattle.varuna.specs.Answers.{fills}
use Rattle.c_numbers.specs.Inputs.{sizes_in}
use Rattle.c_numbers.proofs.AnswerLaws.{filled_told}
use Rattle.varuna_c.proofs.records.varuna_write_record.Goals as goal

pub returns : goal.returns
returns c =
    let a = c.args in
    let parts =
    each_section a.w.now a.m.now a.h0.now a.s.now a.g1.now a.h1.now
    a.o.now a.ga.now a.gb.now a.gc.now a.h2.now in
    let call : Sizes → Outcome (List ℕ) = λ n. write_call baby_bear n parts (length a.bytes.now) in
    filled_told a.bytes.now (call (sizes_in a.sizes.now)) c.give_filled.ensures
    (c.write_record-answer.ensures ∙ ap (λ n. fills (call n) a.bytes.now) c.sizes_in.ensures)
