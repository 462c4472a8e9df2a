-- `grown_words::places::find_row` meets its contract: `start` is where the row with the next count begins. Assumes nothing.
use Rattle.std.proofs.Common.{◌≡◌, ◌∙◌, refl, sym, ap, ap₂, List, ℕ, suc, ◌+◌, ◌≤◌, ◌-◌, ◌<◌, min, get_or, drop, length-take, length-drop, get_or-take, get_or-drop, add-one, arith}
use Rattle.domain.specs.Size.{max_size}
use Rattle.protocol.specs.Grown.{counts_place, row_start}
use Rattle.protocol.specs.Grown as grown
use Rattle.grown_words.proofs.PlaceLaws.{start_within, total-within}
use Rattle.grown_words.proofs.places.find_row.Goals as goal

-- where the next row begins
next : (w : List ℕ) (n i : ℕ) {start total counts : ℕ} → start ≡ row_start w n i → total ≡ grown.total w n → counts ≡ counts_place n
    → min (start + get_or w (counts + i) 0) total ≡ row_start w n (suc i)
unfolding row_start
next w n i {start} {total} {counts} s t c =
    ap₂ (λ (from all : ℕ). min (from + get_or w (counts + i) 0) all) s t
    ∙ ap (λ (place : ℕ). min (row_start w n i + get_or w (place + i) 0) (grown.total w n)) c

-- a row begins within 1,024 entries
within : (w : List ℕ) (n i : ℕ) {start : ℕ} → start ≡ row_start w n i → start ≤ max_size
within w n i e = omega (arith, e, start_within w n i, total-within w n)

pub loop-count-init : goal.loop-count-init
unfolding row_start
loop-count-init c = refl

pub row_end-start-requires : goal.row_end-start-requires
row_end-start-requires c =
    let a = c.args in
    within a.circuit.now a.matrix c.loop-count.count-index c.loop-count.invariant

pub loop-count-preserved : goal.loop-count-preserved
loop-count-preserved c =
    let a = c.args in
    let i : ℕ = c.loop-count.count-index in
    let counts : ℕ = c.total_place-counts.result + 1 in
    let long : i < counts + a.row - counts = omega (arith, length-take (counts + a.row - counts) (drop counts a.circuit.now)) in
    c.row_end-start.ensures
    ∙ ap (λ (k : ℕ). min (c.loop-count.start + k) c.total_of-total.result)
    (get_or-take (counts + a.row - counts) (drop counts a.circuit.now) i 0 long ∙ get_or-drop counts a.circuit.now i 0)
    ∙ next a.circuit.now a.matrix i c.loop-count.invariant c.total_of-total.ensures (ap (λ (k : ℕ). k + 1) c.total_place-counts.ensures)
    ∙ ap (row_start a.circuit.now a.matrix) (sym (add-one i))

pub row_end-requires : goal.row_end-requires
row_end-requires c =
    let a = c.args in
    within a.circuit.now a.matrix c.loop-count.count-index c.loop-count.invariant

pub returns : goal.returns
returns c =
    let a = c.args in
    let counts : ℕ = c.total_place-counts.result + 1 in
    let last : c.loop-count.count-index ≡ a.row =
    omega (arith, length-take (counts + a.row - counts) (drop counts a.circuit.now), length-drop counts a.circuit.now) in
    let begun : c.loop-count.start ≡ row_start a.circuit.now a.matrix a.row =
    c.loop-count.invariant ∙ ap (row_start a.circuit.now a.matrix) last in (
      begun,
      c.row_end.ensures ∙ next a.circuit.now a.matrix a.row begun c.total_of-total.ensures
          (ap (λ (k : ℕ). k + 1) c.total_place-counts.ensures),
    )
