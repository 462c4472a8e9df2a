-- `sheet_lines::numbers::scan_all` meets its contract. Assumes nothing.
use Rattle.std.proofs.Common.{◌≡◌, refl, sym, ap, ◌∙◌, arith, List, ℕ, ◌+◌, ◌<◌, length, drop, get_or}
use Rattle.std.specs.Prelude.{Option, Some, None}
use Rattle.std.proofs.lemmas.List.{at_drop_more, at_drop_all}
use Rattle.sheet_lines.specs.declared.numbers.Scan.{Scan}
use Rattle.sheet_lines.specs.Scanning.{stepped, scanned_on, scanned}
use Rattle.sheet_lines.proofs.numbers.scan_all.Goals as goal

one_more : (text : List ℕ) (i : ℕ) (s : Scan) (o : Option Scan) → i < length text → o ≡ stepped s (get_or text i 0)
    → scanned_on o (drop (i + 1) text) ≡ scanned_on (Some s) (drop i text)
one_more text i s o below e = ap (λ o. scanned_on o (drop (i + 1) text)) e ∙ sym (at_drop_more (scanned_on (Some s)) text i 0 below)

pub loop-b-init : goal.loop-b-init
unfolding scanned
loop-b-init c = refl

pub returns-in_err-s : goal.returns-in_err-s
returns-in_err-s c =
    let l = c.loop-b in
    c.from_residual.ensures ∙ one_more c.args.text.now l.b-index l.s None (omega arith) c.in_err-s.ensures ∙ l.invariant

pub loop-b-preserved : goal.loop-b-preserved
loop-b-preserved c =
    let l = c.loop-b in
    one_more c.args.text.now l.b-index l.s (Some c.in_ok-s.s) (omega arith) c.in_ok-s.ensures ∙ l.invariant

pub returns : goal.returns
returns c =
    let l = c.loop-b in
    ap Some c.end_number.ensures ∙ sym (at_drop_all (scanned_on (Some l.s)) c.args.text.now l.b-index (omega arith)) ∙ l.invariant
