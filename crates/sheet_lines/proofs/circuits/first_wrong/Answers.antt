-- `sheet_lines::circuits::first_wrong` meets its contract. Assumes nothing.
use Rattle.std.proofs.Common.{◌≡◌, sym, ◌∙◌, arith, rules, tests, ◌+◌, ◌<◌, ◌≤◌, length, get_or, map}
use Rattle.std.proofs.lemmas.Iterator.Consumers.{YieldsList-from_enumerate, YieldsList-turn, YieldsList-end}
use Rattle.std.proofs.lemmas.Iterator.Splits.{YieldsList-from_slice_split}
use Rattle.std.proofs.lemmas.List.{at_drop_all, length_push}
use Rattle.std.proofs.lemmas.List.FromFn.{length-enumerate_from}
use Rattle.sheet_lines.specs.Lines.{line_of, wrong}
use Rattle.sheet_lines.proofs.LineLaws.{newline, parts}
use Rattle.sheet_lines.proofs.CircuitLaws.{wrong-parts, placed, wrong_here, wrong_later}
use Rattle.sheet_lines.proofs.circuits.first_wrong.Goals as goal
use Rattle.sheet_lines.proofs.circuits.first_wrong.Goals.{In-Some}

-- the line of this turn is the next of the parts, and i its place
turn : (c : In-Some)
    → (length c.loop-i.yielded < length (parts c.args.text.now)) × (c.in-Some.i ≡ length c.loop-i.yielded)
    × (c.in-Some.line.now ≡ get_or (parts c.args.text.now) (length c.loop-i.yielded) c.in-Some.line.now)
turn c =
    placed (parts c.args.text.now) (length c.loop-i.yielded) c.in-Some.i c.in-Some.line.now
    (YieldsList-turn
    (YieldsList-from_enumerate
    (YieldsList-from_slice_split _ newline c.args.text.now (cc) (cc) (cc) (λ x r q k. search (rules, tests))) (cc))
    c.loop-i.yielded _ c.loop-i.yielded_by _ _ (c.in-Some.i, c.in-Some.line) c.in-Some.is c.next.ensures.steps)

pub loop-i-init : goal.loop-i-init
loop-i-init c = sym (wrong-parts 1 c.args.text.now)

pub returns-in-Err : goal.returns-in-Err
returns-in-Err c =
    let (below, place, at) = turn (goal.at.returns-in-Err c).In-Some in
    let n = length c.loop-i.yielded in
    rw place (c.loop-i.invariant ∙ wrong_here _ n _ below at (n + 1) _ c.in-Err.ensures)

pub loop-i-preserved : goal.loop-i-preserved
loop-i-preserved c =
    let (below, place, at) = turn (goal.at.loop-i-preserved c).In-Some in
    let n = length c.loop-i.yielded in
    rw (length_push c.loop-i.yielded (c.in-Some.i, c.in-Some.line))
    (c.loop-i.invariant ∙ wrong_later _ n _ below at (n + 1) _ c.in_default.ensures)

pub returns : goal.returns
returns c =
    let ps = parts c.args.text.now in
    let n = length c.loop-i.yielded in
    let t =
    YieldsList-end
    (YieldsList-from_enumerate
    (YieldsList-from_slice_split _ newline c.args.text.now (cc) (cc) (cc) (λ x r q k. search (rules, tests))) (cc))
    c.loop-i.yielded _ c.loop-i.yielded_by _ _ c.in-None.is c.next.ensures.steps
    in
    let all : length ps ≤ n = omega (arith, t.1, length-enumerate_from 0 ps) in
    c.loop-i.invariant ∙ at_drop_all (λ l. wrong (n + 1) (map line_of l)) ps n all
