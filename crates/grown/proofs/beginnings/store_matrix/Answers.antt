-- `grown::beginnings::store_matrix` meets its contract: the total, the counts and the words are put one after the other, up to the end.
-- Assumes nothing.
use Rattle.std.proofs.Common.{◌≡◌, ◌∙◌, List, ℕ, ◌/◌, ◌<◌, length, take, drop, set, rules}
use Rattle.std.proofs.lemmas.List.{places}
use mathlib.Core.Path.{subst⁻¹}
use borrow.Rule.Slice.PartMut.{put_mid}
use Rattle.algebra.specs.Counting.{All}
use Rattle.protocol.specs.Circuit.{Entry}
use Rattle.protocol.specs.Calls.{entries_of}
use Rattle.grown.proofs.BeginningLaws.{matrix_filled, matrix-stored}
use Rattle.grown.proofs.beginnings.store_matrix.Goals as goal
use Rattle.grown.proofs.beginnings.store_matrix.Goals.{After-count_rows, Start}

-- the words with the total, and the part for the counts
abbrev begun : Start → List ℕ
begun s = set s.args.out.now 0 (length s.args.entries.now / 3)

rows : (s : Start) → length (take 1024 (drop 1 (begun s))) ≡ 1024
rows s = search (rules, places, s.requires.out_len)

-- the part for the entries
room : (m : After-count_rows)
    → let s = (goal.at.After-count_rows m).Start in length (take 3072 (drop 1025 (put_mid 1 1024 (begun s) m.count_rows.new.out))) ≡ 3072
room m = search (rules, places, m.requires.out_len, m.count_rows.auto.out)

pub count_rows-requires : goal.count_rows-requires
count_rows-requires c =
    let s = (goal.at.count_rows-requires c).Start in
    record {
      entries_len_bound = s.requires.entry_words.few;
      all = subst⁻¹ (λ (n : ℕ). All (λ (e : Entry). e.row < n) (entries_of s.args.entries.now)) (rows s) s.requires.all;
    }

pub returns : goal.returns
returns c =
    let m = (goal.at.returns c).After-count_rows in
    let s = (goal.at.returns c).Start in
    let a = c.args in
    let counts : List ℕ = c.count_rows.new.out in
    let words : List ℕ = c.copy_words.new.out in
    matrix_filled a.out.now counts words (length a.entries.now / 3) 1024 3072 c.requires.out_len (c.count_rows.auto.out ∙ rows s)
    ∙ matrix-stored a.entries.now counts words _ _ c.requires.entry_words.whole (rows s) (room m) c.count_rows.ensures c.copy_words.ensures
