-- `grown_words::moves::remove_entry` meets its contract. Assumes nothing.
use Rattle.std.proofs.Common.{◌≡◌, ◌-◌, ap, ap₂, ◌∙◌, List, ℕ, length, take, drop, replicate, arith, length-take, length-drop}
use borrow.Rule.Slice.PartMut.{put_mid}
use Rattle.grown_words.proofs.MoveLaws.{entry_taken}
use Rattle.grown_words.proofs.moves.remove_entry.Goals as goal

pub returns : goal.returns
returns c =
    let a = c.args in
    let moved : List ℕ = c.copy_within.new.self in
    let part : List ℕ = take (a.to - (a.to - 3)) (drop (a.to - 3) moved) in
    let three : length part ≡ 3 =
    omega (arith, length-take (a.to - (a.to - 3)) (drop (a.to - 3) moved), length-drop (a.to - 3) moved, c.copy_within.ensures.len) in
    ap₂ (λ (l k : List ℕ). put_mid (a.to - 3) (a.to - (a.to - 3)) l k) c.copy_within.ensures.after
    (c.fill.ensures.after (λ y e. e) ∙ ap (λ (n : ℕ). replicate {A = ℕ} n 0) three)
    ∙ entry_taken a.words.now a.from a.to (omega arith) (omega arith)
