-- `grown_words::moves::insert_entry` meets its contract. Assumes nothing.
use Rattle.std.proofs.Common.{◌+◌, ◌-◌, ap₂, ◌∙◌, List, ℕ, arith}
use borrow.Rule.Slice.PartMut.{put_mid}
use Rattle.grown_words.proofs.MoveLaws.{entry_put}
use Rattle.grown_words.proofs.moves.insert_entry.Goals as goal

pub returns : goal.returns
returns c =
    let a = c.args in
    ap₂ (λ (l k : List ℕ). put_mid a.from (a.from + 3 - a.from) l k) c.copy_within.ensures.after c.copy_from_slice.ensures.after
    ∙ entry_put a.words.now a.from a.to (omega arith) (omega arith) (record { row = a.row; column = a.column; value = a.value })
