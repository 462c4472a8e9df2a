-- Words moved on by three to let an entry in, and back by three over one that is taken out. Assumes nothing.
use Rattle.std.proofs.Common.{◌≡◌, sym, ap, ap₂, ◌∙◌, List, [], ◌∷◌, ◌++◌, append_assoc, ℕ, ◌+◌, ◌-◌, ◌≤◌, length, take, drop, arith, length-append, length-take-le, take-take, drop-drop, take_at, drop_at}
use Rattle.std.specs.List.{copy_within}
use Rattle.std.proofs.lemmas.List.{drop-take}
use borrow.Rule.Slice.PartMut.{put_mid}
use lib.Seq.{slice, length-slice, take-append-le}
use Rattle.protocol.specs.Circuit.{Entry}
use Rattle.protocol.specs.Grown.{inserted, removed}

-- the words between two places
between : (w : List ℕ) (i to : ℕ) → i ≤ to → take (to - i) (drop i w) ≡ slice i to w
between w i to rise =
    let e : i + (to - i) ≡ to = omega arith in
    sym (drop-take i (to - i) w) ∙ ap (λ (n : ℕ). drop i (take n w)) e

module _ (w : List ℕ) (from to : ℕ) where
  -- three words in the place of those that have moved on
  pub entry_put : from ≤ to → to + 3 ≤ length w → (e : Entry)
      → put_mid from (from + 3 - from) (copy_within w from to (from + 3)) (e.row ∷ e.column ∷ e.value ∷ []) ≡ inserted w from to e
  unfolding inserted
  entry_put rise room e =
      let long : length (take (from + 3) w) ≡ from + 3 = length-take-le (from + 3) w (omega arith) in
      let entry_end : from + (from + 3 - from) ≡ from + 3 = omega arith in
      let last : from + 3 + (to - from) ≡ to + 3 = omega arith in
      let middle : List ℕ = take (to - from) (drop from w) in
      let rest : List ℕ = middle ++ drop (from + 3 + (to - from)) w in
      ap (λ (l : List ℕ). put_mid from (from + 3 - from) l (e.row ∷ e.column ∷ e.value ∷ []))
      (append_assoc (take (from + 3) w) middle (drop (from + 3 + (to - from)) w))
      ∙ ap₂ (λ (l k : List ℕ). l ++ (e.row ∷ e.column ∷ e.value ∷ k))
      (take-append-le from (take (from + 3) w) rest (omega arith) ∙ take-take from (from + 3) w (omega arith))
      (drop-drop (from + 3 - from) from (take (from + 3) w ++ rest)
      ∙ ap (λ (n : ℕ). drop n (take (from + 3) w ++ rest)) entry_end ∙ drop_at (take (from + 3) w) rest (from + 3) long
      ∙ ap₂ (λ (l : List ℕ) (n : ℕ). l ++ drop n w) (between w from to rise) last)

  -- zeros after the words that have moved back
  pub entry_taken : from + 3 ≤ to → to ≤ length w
      → put_mid (to - 3) (to - (to - 3)) (copy_within w (from + 3) to from) (0 ∷ 0 ∷ 0 ∷ []) ≡ removed w from to
  unfolding removed
  entry_taken after room =
      let place : from + (to - (from + 3)) ≡ to - 3 = omega arith in
      let last : to - 3 + (to - (to - 3)) ≡ to = omega arith in
      let moved : List ℕ = take from w ++ slice (from + 3) to w in
      let long : length moved ≡ to - 3 =
      omega (
        arith,
        length-append (take from w) (slice (from + 3) to w),
        length-take-le from w (omega arith),
        length-slice (from + 3) to w room,
      ) in
      ap₂ (λ (l : List ℕ) (n : ℕ). put_mid (to - 3) (to - (to - 3)) ((take from w ++ l) ++ drop n w) (0 ∷ 0 ∷ 0 ∷ []))
      (between w (from + 3) to after) place
      ∙ ap₂ (λ (l k : List ℕ). l ++ (0 ∷ 0 ∷ 0 ∷ k))
      (take_at moved (drop (to - 3) w) (to - 3) long)
      (ap (drop (to - (to - 3))) (drop_at moved (drop (to - 3) w) (to - 3) long) ∙ drop-drop (to - (to - 3)) (to - 3) w
      ∙ ap (λ (n : ℕ). drop n w) last)
      ∙ append_assoc (take from w) (slice (from + 3) to w) (0 ∷ 0 ∷ 0 ∷ drop to w)
