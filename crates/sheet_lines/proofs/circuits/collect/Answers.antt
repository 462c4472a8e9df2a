-- `sheet_lines::circuits::collect` meets its contract. Assumes nothing.
use Rattle.std.proofs.Common.{◌≡◌, ap, ◌∙◌, arith, rules, tests, ◌++◌, [], ◌∷◌, ◌+◌, length, map, take}
use Rattle.std.proofs.lemmas.Iterator.Consumers.{YieldsList-turn, YieldsList-end}
use Rattle.std.proofs.lemmas.Iterator.Splits.{YieldsList-from_slice_split}
use Rattle.std.proofs.lemmas.List.{take_all, length_push}
use Rattle.sheet_lines.specs.Lines.{line_of, circuits}
use Rattle.sheet_lines.specs.Meanings.{found_line}
use Rattle.sheet_lines.proofs.LineLaws.{newline, parts}
use Rattle.sheet_lines.proofs.CircuitLaws.{circuits-parts, circuits-more, many_circuits, kept_counted, many_counted}
use Rattle.sheet_lines.proofs.circuits.collect.Goals as goal
use Rattle.sheet_lines.proofs.circuits.collect.Goals.{After-keep_found}

-- the circuits of the parts so far, and of this turn's line
more : (c : After-keep_found)
    → circuits (map line_of (take (length c.loop-line.yielded) (parts c.args.text.now))) ++ circuits (found_line c.read_line.result ∷ [])
    ≡ circuits (map line_of (take (length c.loop-line.yielded + 1) (parts c.args.text.now)))
more c =
    let (below, at) =
    YieldsList-turn
    (YieldsList-from_slice_split _ newline c.args.text.now (cc) (cc) (cc) (λ x r q k. search (rules, tests)))
    c.loop-line.yielded _ c.loop-line.yielded_by _ _ c.in-Some.line c.in-Some.is c.next.ensures.steps
    in
    circuits-more (parts c.args.text.now) (length c.loop-line.yielded) c.in-Some.line.now below at c.read_line.result c.read_line.ensures

pub returns-in-None-keep_found : goal.returns-in-None-keep_found
returns-in-None-keep_found c =
    let e = more (goal.at.returns-in-None-keep_found c).After-keep_found in
    let many = c.in-None-keep_found.ensures _ c.loop-line.invariant in
    rw (← circuits-parts c.args.text.now)
    (many_counted c.loop-line.invariant.long (many_circuits (parts c.args.text.now) _ 16 (rw e at many)))

pub loop-line-preserved : goal.loop-line-preserved
loop-line-preserved c =
    let e = more (goal.at.loop-line-preserved c).After-keep_found in
    let kept = c.in-Some-keep_found.ensures _ c.loop-line.invariant in
    rw (length_push c.loop-line.yielded c.in-Some.line) (rw e at kept)

pub returns : goal.returns
returns c =
    let ps = parts c.args.text.now in
    let n = length c.loop-line.yielded in
    let t =
    YieldsList-end
    (YieldsList-from_slice_split _ newline c.args.text.now (cc) (cc) (cc) (λ x r q k. search (rules, tests)))
    c.loop-line.yielded _ c.loop-line.yielded_by _ _ c.in-None.is c.next.ensures.steps
    in
    let all : circuits (map line_of (take n ps)) ≡ circuits (map line_of ps) =
    ap (λ l. circuits (map line_of l)) (take_all n ps (omega (arith, t.1)))
    in
    let kept = c.loop-line.invariant in
    kept_counted (rw (all ∙ circuits-parts c.args.text.now) at kept)
