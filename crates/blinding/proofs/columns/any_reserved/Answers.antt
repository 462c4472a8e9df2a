-- `blinding::columns::any_reserved` meets its contract: none of the first i entries is reserved. Assumes nothing.
use Rattle.std.proofs.Common.{sym, ◌∙◌, arith, below_more}
use Rattle.shared.specs.Meanings.{three}
use Rattle.protocol.specs.Calls.{entries_of}
use Rattle.blinding.proofs.Reserved.{stands, stands_by, some-passes, none_passes}
use Rattle.blinding.proofs.columns.any_reserved.Goals as goal

pub returns-then-is_reserved : goal.returns-then-is_reserved
returns-then-is_reserved c k row columns =
    let l = c.loop-i in
    let a = c.args in
    sym (stands_by k row columns (entries_of a.entries.now)
    ∙ some-passes (stands a.last (three a.columns)) a.entries.now l.i (omega arith) (sym c.is_reserved.ensures ∙ c.if-is_reserved.true))

pub loop-i-preserved : goal.loop-i-preserved
loop-i-preserved c = below_more _ _ c.loop-i.invariant (sym c.is_reserved.ensures ∙ c.if-is_reserved.false)

pub returns : goal.returns
returns c k row columns =
    let l = c.loop-i in
    let a = c.args in
    sym (stands_by k row columns (entries_of a.entries.now)
    ∙ none_passes (stands a.last (three a.columns)) a.entries.now (λ i below. l.invariant i (omega arith)))
