-- `report::lines::put_refused` meets its contract. Assumes nothing.
use Rattle.std.proofs.Common.{rules, ap, subst, [], ◌∷◌, ◌++◌, ◌≤◌, length, length-append, arith}
use Rattle.shared.specs.Meanings.{row_number}
use Rattle.text.specs.Decimal.{decimal}
use Rattle.text.proofs.WrittenLaws.{written_then, written_as, written-length}
use Rattle.report.specs.ProofText.{newline, line, refused_text}
use Rattle.report.specs.Printed.{number}
use Rattle.report.proofs.PrintedLaws.{word-digits, place_digits}
use Rattle.report.proofs.lines.put_refused.Goals as goal

pub put_number-numbered-requires : goal.put_number-numbered-requires
put_number-numbered-requires c =
    let b = c.put_bytes-named.ensures in
    let w = c.number.result in
    omega (arith, c.requires, b.next, written-length b, word-digits w (search rules))

pub put_number-placed-requires : goal.put_number-placed-requires
put_number-placed-requires c =
    let b = c.put_bytes-named.ensures in
    let n = c.put_number-numbered.ensures in
    let w = c.number.result in
    omega (
      arith,
      c.requires,
      b.next,
      n.next,
      written-length b,
      written-length n,
      word-digits w (search rules),
      place_digits c.args.refusal.1 (search rules),
    )

pub put_byte-requires : goal.put_byte-requires
put_byte-requires c =
    let b = c.put_bytes-named.ensures in
    let n = c.put_number-numbered.ensures in
    let m = c.put_number-placed.ensures in
    let w = c.number.result in
    omega (
      arith,
      c.requires,
      b.next,
      n.next,
      m.next,
      written-length b,
      written-length n,
      written-length m,
      word-digits w (search rules),
      place_digits c.args.refusal.1 (search rules),
    )

pub returns : goal.returns
unfolding refused_text line
returns c =
    let b = c.put_bytes-named.ensures in
    let n = c.put_number-numbered.ensures in
    let m = c.put_number-placed.ensures in
    let w = c.number.result in
    let numbered = written_as (ap number c.number.ensures) n in
    let whole = written_then b (written_then numbered (written_then m c.put_byte.ensures)) in
    let r = row_number c.args.refusal.0 in
    let first : length (decimal r) ≤ 10 = subst (λ n. length (decimal n) ≤ 10) c.number.ensures (word-digits w (search rules)) in
    let second : length (decimal c.args.refusal.1) ≤ 20 = place_digits c.args.refusal.1 (search rules) in
    record {
      written = whole;
      short =
          omega (
            arith,
            length-append (decimal r) (number c.args.refusal.1 ++ (newline ∷ [])),
            length-append (decimal c.args.refusal.1) (newline ∷ []),
          );
    }
